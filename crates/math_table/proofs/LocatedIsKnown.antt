-- Where a table has the construction of a key is where it is located, and if the table has nothing then nothing is.
use Rattle.std.proofs.Common.{◌≡◌, ℕ, ◌+◌, ◌*◌, eqb, ltb, List, length, Some, None, Ok, Option, Result, sym, refl, ap, ◌∙◌, subst, arith, lt-ltb, eq-eqb}
use Rattle.std.proofs.lemmas.Bool.{cond-true}
use Rattle.face.specs.declared.faults.Fault.{Fault}
use Rattle.face.specs.declared.keys.Axis.{Axis}
use Rattle.face.specs.declared.keys.Axis.TheVariants.{Upright, Level}
use Rattle.face.specs.declared.keys.Key.{Key}
use Rattle.math_table.specs.Places.{Located}
use Rattle.math_table.specs.Coverages.{coverage_index}
use Rattle.math_table.specs.HasNothing.{ConstructsNothing, no_coverage, not_covered, null_construction, HasNothing, empty, no_variants, not_in_variants}
use Rattle.math_table.specs.MathVariants.{coverage_offset, count_offset, covered, skipped, construction_offset, located_from, located}
use Rattle.math_table.specs.Offers.{WordIs, Leads, Indexed, Before, OffsetIs, Constructs}
use Rattle.math_table.specs.Reading.{via}
use Rattle.math_table.proofs.GlyphIndexes.{coverage_to, coverage_nothing}
use Rattle.math_table.proofs.KnownSteps.{bind_to, past_null, word_to, word_inside, word_ends_inside}

module _ (table : List ℕ) (key : Key) where
  module _ (base : ℕ) where
    before_to : (axis : Axis) (before : ℕ) → Before table base axis before → skipped table key base axis ≡ Ok before
    before_to Upright before is = ap Ok (sym is)
    before_to Level before is = word_to table key (base + 6) is

    covered_to : {r : Result (Option ℕ) Fault} (place : ℕ)
        → Leads table base (base + coverage_offset key.axis) place → coverage_index table key place ≡ r → covered table key base ≡ r
    covered_to {r} place leads to =
        bind_to _ (word_to table key (base + coverage_offset key.axis) leads.word_is)
        (past_null leads.offset (Ok None) leads.not_null
        (subst (λ k. coverage_index table key k ≡ r) leads.target_is to))

    index_to : (index : ℕ) → Indexed table key base index → covered table key base ≡ Ok (Some index)
    index_to index is = covered_to is.coverage is.leads (coverage_to table key is.coverage index is.covers)

    offset_to : (index offset : ℕ) → OffsetIs table key base index offset → construction_offset table key base index ≡ Ok offset
    offset_to index offset is =
        bind_to _ (word_to table key (base + count_offset key.axis) is.count_is) (
        cond-true (ltb index is.count) _ _ (lt-ltb index is.count is.inside) ∙
        bind_to _ (before_to key.axis is.before is.before_is)
        (word_to table key (base + 10 + 2 * (is.before + index)) is.word_is))

    -- the least overlap stands before the coverage offsets
    least_inside : (offset : ℕ) → WordIs table (base + coverage_offset key.axis) offset → (least : ℕ) × WordIs table base least
    least_inside offset is =
        let ends = word_ends_inside table (base + coverage_offset key.axis) offset is in
        word_inside table base (omega arith)

    from_known : (index place least : ℕ) → WordIs table base least → Indexed table key base index → Constructs table key base index place
        → located_from table key base ≡ Ok (Some (record { least = least; place = place }))
    from_known index place least is indexed constructs =
        bind_to _ (word_to table key base is) (
        bind_to _ (index_to index indexed) (
        bind_to _ (offset_to index constructs.offset constructs.offset_is)
        (past_null constructs.offset (Ok None) constructs.not_null
        (λ i. Ok (Some (record { least = least; place = sym constructs.place_is i }))))))

    from_nothing : ConstructsNothing table key base → located_from table key base ≡ Ok None
    from_nothing (no_coverage is) =
        bind_to _ (word_to table key base (least_inside 0 is).1) (
        bind_to _ (bind_to _ (word_to table key (base + coverage_offset key.axis) is) refl)
        refl)
    from_nothing (not_covered place leads out) =
        bind_to _ (word_to table key base (least_inside leads.offset leads.word_is).1) (
        bind_to _ (covered_to place leads (coverage_nothing table key place out))
        refl)
    from_nothing (null_construction index indexed is) =
        let leads = indexed.leads in
        bind_to _ (word_to table key base (least_inside leads.offset leads.word_is).1) (
        bind_to _ (index_to index indexed) (
        bind_to _ (offset_to index 0 is)
        refl))

  header_to : {r : Result (Option Located) Fault} (offset : ℕ) → WordIs table 8 offset → via offset (located_from table key offset) ≡ r → located table key ≡ r
  header_to offset is to =
      let inside = word_ends_inside table 8 offset is in
      past_null (length table) (Ok None) (λ e. omega arith) (bind_to _ (word_to table key 8 is) to)

  variants_to : {r : Result (Option Located) Fault} (base : ℕ) → Leads table 0 8 base → located_from table key base ≡ r → located table key ≡ r
  variants_to {r} base leads from =
      let same : base ≡ leads.offset = omega (arith, leads.target_is) in
      header_to leads.offset leads.word_is
      (past_null leads.offset (Ok None) leads.not_null
      (subst (λ k. located_from table key k ≡ r) same from))

  pub located_known : (base index place least : ℕ)
      → Leads table 0 8 base → WordIs table base least → Indexed table key base index → Constructs table key base index place
      → located table key ≡ Ok (Some (record { least = least; place = place }))
  located_known base index place least header is indexed constructs = variants_to base header (from_known base index place least is indexed constructs)

  pub located_nothing : HasNothing table key → located table key ≡ Ok None
  located_nothing (empty null) = cond-true (eqb (length table) 0) _ _ (eq-eqb (length table) 0 null)
  located_nothing (no_variants is) = header_to 0 is refl
  located_nothing (not_in_variants base header why) = variants_to base header (from_nothing base why)
