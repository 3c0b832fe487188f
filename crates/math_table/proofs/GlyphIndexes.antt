-- The index that a coverage table gives a glyph, if it gives one, is what is read, and the other way round.
use Rattle.std.proofs.Common.{◌≡◌, ℕ, zero, suc, ◌+◌, ◌-◌, ◌<◌, ◌≤◌, Bool, true, false, cond, ◌&&◌, eqb, leb, List, length, Some, None, Ok, Option, Result, sym, refl, ap, ◌∙◌, subst, ⊎_elim, eq-or-lt_of_le, mul-le-mul_left, arith, below_more, eqb-true, leb-true}
use borrow.Author.Tests.{eqb-false}
use Rattle.std.proofs.lemmas.Bool.{and_parts}
use Rattle.std.proofs.lemmas.Bool.Decides.{nat_tests}
use Rattle.face.specs.declared.faults.Cause.TheVariants.{CoverageFormat}
use Rattle.face.specs.declared.faults.Fault.{Fault}
use Rattle.face.specs.declared.keys.Key.{Key}
use Rattle.math_table.specs.declared.coverages.Format.{Format}
use Rattle.math_table.specs.declared.coverages.Format.TheVariants.{Glyphs, Ranges}
use Rattle.math_table.specs.Coverages.{format_of, entry_size, entry_index, index_by, coverage_index}
use Rattle.math_table.specs.FaultPlaces.{no_format}
use Rattle.math_table.specs.HasNothing.{LeavesOut}
use Rattle.math_table.specs.MathVariants.{coverage_offset}
use Rattle.math_table.specs.Offers.{WordIs, Leads, Gives, alone, ranged, format_word, Covers}
use Rattle.math_table.specs.Outcomes.{answer, IfFound, nothing, comes_bind}
use Rattle.math_table.proofs.Holding.{place_at, holding_from, holding_all, holding_more, holding_past}
use Rattle.math_table.proofs.Standing.{Reads, found_if, comes_with, comes_or_else, known_holds, fault_comes, word_comes}
use Rattle.math_table.proofs.KnownSteps.{bind_to, word_to, word_inside, word_ends_inside}

format_back : (format : Format) → format_of (format_word format) ≡ Some format
format_back Glyphs = refl
format_back Ranges = refl

module _ (table : List ℕ) (key : Key) where
  -- the entry at a place, one of a format, holds the key's glyph
  abbrev Holds : Format → (place position index : ℕ) → Type 0
  Holds format place position index = Gives table key.glyph place position format index

  module _ (place position : ℕ) where
    entry_comes : (format : Format) → Reads table key (IfFound (place + entry_size format ≤ length table) (Holds format place position)) (entry_index table key format place position)
    entry_comes Glyphs =
        comes_bind (word_comes table key place) (λ glyph is.
        answer (found_if position (eqb glyph key.glyph) (word_ends_inside table place glyph is) (λ same.
        alone (subst (WordIs table place) (eqb-true glyph key.glyph same) is))))
    entry_comes Ranges =
        comes_bind (word_comes table key place) (λ start start_is.
        comes_bind (word_comes table key (place + 2)) (λ last last_is.
        comes_bind (word_comes table key (place + 4)) (λ first first_is.
        let ends = word_ends_inside table (place + 4) first first_is in
        answer (found_if (first + (key.glyph - start)) (leb start key.glyph && leb key.glyph last) (omega arith) (λ both.
        let holds = and_parts (leb start key.glyph) (leb key.glyph last) both in
        ranged start last first start_is last_is first_is (leb-true _ _ holds.0) (leb-true _ _ holds.1))))))

    entry_to : (format : Format) (index : ℕ) → Holds format place position index → entry_index table key format place position ≡ Ok (Some index)
    entry_to Glyphs index (alone is) = bind_to _ (word_to table key place is) (grind (arith, nat_tests))
    entry_to Ranges index (ranged start last first start_is last_is first_is low high) =
        bind_to _ (word_to table key place start_is) (
        bind_to _ (word_to table key (place + 2) last_is) (
        bind_to _ (word_to table key (place + 4) first_is)
        (grind (arith, nat_tests))))

    holds_inside : (format : Format) (index : ℕ) → Holds format place position index → place + entry_size format ≤ length table
    holds_inside Glyphs index (alone is) = word_ends_inside table place key.glyph is
    holds_inside Ranges index (ranged start last first start_is last_is first_is low high) =
        omega (arith, word_ends_inside table (place + 4) first first_is)

    -- an entry inside the table is read, whether it holds the glyph or not
    entry_read : (format : Format) → place + entry_size format ≤ length table → (o : Option ℕ) × (entry_index table key format place position ≡ Ok o)
    entry_read Glyphs inside = let glyph = word_inside table place inside in (_, bind_to _ (word_to table key place glyph.1) refl)
    entry_read Ranges inside =
        let start = word_inside table place (omega arith) in
        let last = word_inside table (place + 2) (omega arith) in
        let first = word_inside table (place + 4) (omega arith) in
        let read = bind_to _ (word_to table key (place + 2) last.1) (bind_to _ (word_to table key (place + 4) first.1) refl) in
        (_, bind_to _ (word_to table key place start.1) read)

    module _ (format : Format) where
      none_holds : entry_index table key format place position ≡ Ok None → (index : ℕ) → Holds format place position index → ⊥
      none_holds none index holds = let some = entry_to format index holds in cc

      none_read : place + entry_size format ≤ length table → ((index : ℕ) → Holds format place position index → ⊥) → entry_index table key format place position ≡ Ok None
      none_read inside not_here = by (entry_read format inside)
        where
          by : (o : Option ℕ) × (entry_index table key format place position ≡ Ok o) → entry_index table key format place position ≡ Ok None
          by (None, e) = e
          by (Some index, e) = absurd (not_here index (known_holds (entry_comes format) e))

  -- what the coverage table at `place` has for the key's glyph is what is read
  abbrev pub Finds : ℕ → Result (Option ℕ) Fault → Type 0
  Finds place r = Reads table key (IfFound (LeavesOut table key.glyph place) (Covers table key.glyph place)) r

  -- the entries of the coverage table at `place`, by their positions
  module _ (place : ℕ) (format : Format) where
    abbrev entry_at : ℕ → ℕ
    entry_at = place_at format (place + 4)

    abbrev holding : (n position : ℕ) → Result (Option ℕ) Fault
    holding = holding_from table key format (place + 4)

    abbrev NoneBefore : ℕ → Type 0
    NoneBefore position = (i : ℕ) → i < position → (index : ℕ) → Holds format (entry_at i) i index → ⊥

    holding_comes : (count : ℕ) → WordIs table place (format_word format) → WordIs table (place + 2) count
        → (n position : ℕ) → position + n ≡ count → entry_at position ≤ length table → NoneBefore position → Finds place (holding n position)
    holding_comes count format_is count_is zero position within ends none_before =
        let all : count ≡ position = omega arith in
        answer (nothing (record {
          format = format;
          format_is = format_is;
          count = position;
          count_is = subst (WordIs table (place + 2)) all count_is;
          inside = ends;
          none = none_before;
        }))
    holding_comes count format_is count_is (suc n) position within ends none_before =
        comes_bind (comes_with (entry_comes (entry_at position) position format)) (λ o at.
        comes_or_else at.0
        (λ index gives. record {
          format = format;
          format_is = format_is;
          count = count;
          count_is = count_is;
          position = position;
          inside = omega arith;
          gives = gives;
          first = none_before;
        })
        (λ ends none.
        let not_here = none_holds (entry_at position) position format (at.1 ∙ ap Ok none) in
        subst (Finds place) (holding_more table key format (place + 4) n position)
        (holding_comes count format_is count_is n (position + 1) (omega arith) (omega arith)
        (below_more (λ i. (index : ℕ) → Holds format (entry_at i) i index → ⊥) position none_before not_here))))

    past : (n position : ℕ) → entry_at position + entry_size format ≤ length table → ((index : ℕ) → Holds format (entry_at position) position index → ⊥)
        → holding (suc n) position ≡ holding n (position + 1)
    past n position inside not_here = holding_past table key format (place + 4) n position (none_read (entry_at position) position format inside not_here)

    -- the words of the entries before one that is inside the table are inside it too
    holding_to : (index i n position : ℕ) → position ≤ i → i < position + n → Holds format (entry_at i) i index → NoneBefore i
        → holding n position ≡ Ok (Some index)
    holding_to index i zero position from below holds none_before = absurd (omega arith)
    holding_to index i (suc n) position from below holds none_before =
        ⊎_elim
        (λ (here : position ≡ i).
        bind_to _ (entry_to (entry_at position) position format index (subst (λ k. Holds format (entry_at k) k index) (sym here) holds)) refl)
        (λ (later : position < i).
        let ends = holds_inside (entry_at i) i format index holds in
        let rises = mul-le-mul_left (entry_size format) later in
        past n position (omega arith) (none_before position later)
        ∙ holding_to index i n (position + 1) (omega arith) (omega arith) holds none_before)
        (eq-or-lt_of_le from)

    holding_nothing : (count n position : ℕ) → position + n ≡ count → entry_at count ≤ length table → NoneBefore count → holding n position ≡ Ok None
    holding_nothing count zero position within inside none = refl
    holding_nothing count (suc n) position within inside none =
        let below : position < count = omega arith in
        let rises = mul-le-mul_left (entry_size format) below in
        past n position (omega arith) (none position below) ∙ holding_nothing count n (position + 1) (omega arith) inside none

    indexed_to : {count : ℕ} {r : Result (Option ℕ) Fault} → WordIs table place (format_word format) → WordIs table (place + 2) count
        → holding count 0 ≡ r → coverage_index table key place ≡ r
    indexed_to {count} format_is count_is to =
        bind_to _ (word_to table key place format_is) (
        ap (index_by table key place) (format_back format) ∙
        bind_to _ (word_to table key (place + 2) count_is)
        (sym (holding_all table key format (place + 4) count) ∙ to))

  module _ (place : ℕ) where
    pub coverage_to : (index : ℕ) → Covers table key.glyph place index → coverage_index table key place ≡ Ok (Some index)
    coverage_to index c =
        indexed_to place c.format c.format_is c.count_is
        (holding_to place c.format index c.position c.count 0 (omega arith) (omega arith) c.gives c.first)

    pub coverage_nothing : LeavesOut table key.glyph place → coverage_index table key place ≡ Ok None
    coverage_nothing out =
        indexed_to place out.format out.format_is out.count_is
        (holding_nothing place out.format out.count out.count 0 (omega arith) out.inside out.none)

  module _ (base place : ℕ) (header : Leads table 0 8 base) (leads : Leads table base (base + coverage_offset key.axis) place) where
    entries_come : (format : Format) → WordIs table place (format_word format) → Finds place (index_by table key place (Some format))
    entries_come format format_is =
        comes_bind (word_comes table key (place + 2)) (λ n count_is.
        let ends = word_ends_inside table (place + 2) n count_is in
        subst (Finds place) (holding_all table key format (place + 4) n)
        (holding_comes place format n format_is count_is n 0 (omega arith) (omega arith) (λ i below. absurd (omega arith))))

    pub coverage_comes : Finds place (coverage_index table key place)
    coverage_comes = comes_bind (word_comes table key place) (λ w is. by w is (eqb w 1) (eqb w 2) refl refl)
      where
        by : (w : ℕ) → WordIs table place w → (b c : Bool) → eqb w 1 ≡ b → eqb w 2 ≡ c
            → Finds place (index_by table key place (cond b (Some Glyphs) (cond c (Some Ranges) None)))
        by w is true c one two = entries_come Glyphs (subst (WordIs table place) (eqb-true w 1 one) is)
        by w is false true one two = entries_come Ranges (subst (WordIs table place) (eqb-true w 2 two) is)
        by w is false false one two = fault_comes table key place CoverageFormat (no_format w header leads is (eqb-false w 1 one) (eqb-false w 2 two))
