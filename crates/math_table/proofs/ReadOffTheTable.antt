-- What is read stands in the table: constructions word by word, faults at their places, and why it has nothing.
use Rattle.std.proofs.Common.{◌≡◌, ℕ, ◌+◌, ◌*◌, ltb, List, length, Some, None, Ok, Err, Option, Result, refl, subst, arith, ltb-false, ltb-true}
use Rattle.face.specs.declared.faults.Cause.TheVariants.{CoverageIndex}
use Rattle.face.specs.declared.faults.Fault.{Fault}
use Rattle.face.specs.declared.keys.Axis.{Axis}
use Rattle.face.specs.declared.keys.Axis.TheVariants.{Upright, Level}
use Rattle.face.specs.declared.keys.Key.{Key}
use Rattle.face.specs.declared.parts.Part.{Part}
use Rattle.face.specs.declared.variants.Variant.{Variant}
use Rattle.face.specs.Bounds.{LARGEST}
use Rattle.face.specs.Meaning.{unknown, faulty, construction, Construction}
use Rattle.math_table.specs.Places.{Located}
use Rattle.math_table.specs.Constructions.{variant_entry, part_entry, assembly_parts}
use Rattle.math_table.specs.FaultPlaces.{no_construction}
use Rattle.math_table.specs.HasNothing.{ConstructsNothing, no_coverage, not_covered, null_construction, HasNothing, empty, no_variants, not_in_variants}
use Rattle.math_table.specs.Laws.{KnownKeysAreReadOffTheTable, FaultsAreWhereTheySay, UnknownKeysHaveNothing, AnEmptyTableKnowsNoKey}
use Rattle.math_table.specs.MathVariants.{count_offset, coverage_offset, covered, skipped, construction_offset, located}
use Rattle.math_table.specs.Meanings.{offered, meaning_of}
use Rattle.math_table.specs.Offers.{WordIs, Leads, Indexed, Before, OffsetIs, Listed, VariantIs, PartIs, Assembles, no_assembly, assembly, Offers}
use Rattle.math_table.specs.Outcomes.{answer, IfFound, found, comes_bind, comes_so, comes_on_found, comes_if, comes_if_zero, comes_via}
use Rattle.math_table.proofs.GlyphIndexes.{coverage_comes}
use Rattle.math_table.proofs.Standing.{Reads, found_so, known_holds, unknown_holds, fault_holds, fault_comes, word_comes, listed_comes}

leads_from : (table : List ℕ) (base place offset : ℕ) → WordIs table place offset → (offset ≡ 0 → ⊥) → Leads table base place (base + offset)
leads_from table base place offset is not_null = record { offset = offset; word_is = is; not_null = not_null; target_is = refl }

module _ (table : List ℕ) (face : ℕ) (key : Key) where
  variant_comes : (place : ℕ) → Reads table key (VariantIs table face place) (variant_entry table face key place)
  variant_comes place =
      comes_bind (word_comes table key place) (λ glyph glyph_is.
      comes_bind (word_comes table key (place + 2)) (λ advance advance_is.
      answer (record { face_is = refl; glyph_is = glyph_is; advance_is = advance_is })))

  part_comes : (place : ℕ) → Reads table key (PartIs table face place) (part_entry table face key place)
  part_comes place =
      comes_bind (word_comes table key place) (λ glyph glyph_is.
      comes_bind (word_comes table key (place + 2)) (λ start start_is.
      comes_bind (word_comes table key (place + 4)) (λ end end_is.
      comes_bind (word_comes table key (place + 6)) (λ full full_is.
      comes_bind (word_comes table key (place + 8)) (λ flags flags_is.
      answer (record {
        start = start;
        end = end;
        flags = flags;
        glyph_is = glyph_is;
        start_is = start_is;
        end_is = end_is;
        full_is = full_is;
        flags_is = flags_is;
        clamped = record { face_is = refl; glyph_is = refl; start_is = refl; end_is = refl; full_is = refl; extender_is = refl };
      }))))))

  parts_come : (place offset : ℕ) → WordIs table place offset → Reads table key (Assembles table face place) (assembly_parts table face key place offset)
  parts_come place offset is =
      comes_if_zero offset
      (λ null. answer (no_assembly (subst (WordIs table place) null is)))
      (λ not_null.
      comes_so (listed_comes table key 10 (place + offset + 4) (place + offset + 6) part_comes) (λ ps listed.
      assembly (place + offset) (leads_from table place place offset is not_null) listed))

  before_comes : (base : ℕ) (axis : Axis) → Reads table key (Before table base axis) (skipped table key base axis)
  before_comes base Upright = answer refl
  before_comes base Level = word_comes table key (base + 6)

  module _ (base : ℕ) (header : Leads table 0 8 base) where
    covered_comes : Reads table key (IfFound (ConstructsNothing table key base) (Indexed table key base)) (covered table key base)
    covered_comes =
        comes_bind (word_comes table key (base + coverage_offset key.axis)) (λ offset is.
        comes_via offset
        (λ null. no_coverage (subst (WordIs table (base + coverage_offset key.axis)) null is))
        (λ not_null.
        let leads = leads_from table base (base + coverage_offset key.axis) offset is not_null in
        comes_so (coverage_comes table key base (base + offset) header leads) (λ o.
        found_so (not_covered (base + offset) leads) (λ index covers. record { coverage = base + offset; leads = leads; covers = covers }))))

    offset_comes : (index : ℕ) → Indexed table key base index → Reads table key (OffsetIs table key base index) (construction_offset table key base index)
    offset_comes index indexed =
        comes_bind (word_comes table key (base + count_offset key.axis)) (λ count count_is.
        comes_if (ltb index count)
        (λ below.
        comes_bind (before_comes base key.axis) (λ before before_is.
        comes_so (word_comes table key (base + 10 + 2 * (before + index))) (λ offset is.
        record {
          count = count;
          count_is = count_is;
          inside = ltb-true index count below;
          before = before;
          before_is = before_is;
          word_is = is;
        })))
        (λ above. fault_comes table key _ CoverageIndex (no_construction index count header indexed count_is (ltb-false index count above))))

  -- where a construction begins, it is offered with the variants and parts that stand there
  abbrev Begins : Located → Type 0
  Begins l =
      (variants : List Variant) (parts : List Part)
      → Listed table (VariantIs table face) 4 (l.place + 2) (l.place + 4) variants → Assembles table face l.place parts
      → Offers table face key (record { limit = LARGEST; least = l.least; variants = variants; parts = parts })

  located_comes : Reads table key (IfFound (HasNothing table key) Begins) (located table key)
  located_comes =
      comes_via (length table) empty (λ _.
      comes_bind (word_comes table key 8) (λ base base_is.
      comes_via base (λ null. no_variants (subst (WordIs table 8) null base_is)) (λ not_null.
      let header : Leads table 0 8 base = record { offset = base; word_is = base_is; not_null = not_null; target_is = omega arith } in
      comes_bind (word_comes table key base) (λ least least_is.
      comes_bind (covered_comes base header) (λ o known. comes_on_found known (not_in_variants base header) (λ index indexed.
      comes_bind (offset_comes base header index indexed) (λ offset is.
      comes_via offset
      (λ null. not_in_variants base header (null_construction index indexed (subst (OffsetIs table key base index) null is)))
      (λ not_null.
      answer (found (λ variants parts listed assembles. record {
        base = base;
        header = header;
        index = index;
        indexed = indexed;
        place = base + offset;
        constructs = record { offset = offset; offset_is = is; not_null = not_null; place_is = refl };
        limit = refl;
        least = least_is;
        variants = listed;
        parts = assembles;
      }))))))))))

  offered_comes : Reads table key (IfFound (HasNothing table key) (Offers table face key)) (offered table face key)
  offered_comes =
      comes_bind located_comes (λ o known. comes_on_found known (λ why. why) (λ l begins.
      comes_bind (word_comes table key l.place) (λ offset is.
      comes_bind (listed_comes table key 4 (l.place + 2) (l.place + 4) variant_comes) (λ variants listed.
      comes_bind (parts_come l.place offset is) (λ parts assembles.
      answer (found (begins variants parts listed assembles)))))))

means_known : (r : Result (Option Construction) Fault) (c : Construction) → meaning_of r ≡ construction c → r ≡ Ok (Some c)
means_known (Ok None) c e = cc
means_known (Ok (Some d)) c e = cc
means_known (Err f) c e = cc

means_unknown : (r : Result (Option Construction) Fault) → meaning_of r ≡ unknown → r ≡ Ok None
means_unknown (Ok None) e = refl
means_unknown (Ok (Some c)) e = cc
means_unknown (Err f) e = cc

means_faulty : (r : Result (Option Construction) Fault) (f : Fault) → meaning_of r ≡ faulty f → r ≡ Err f
means_faulty (Ok None) f e = cc
means_faulty (Ok (Some c)) f e = cc
means_faulty (Err g) f e = cc

pub known_keys_are_read_off_the_table : KnownKeysAreReadOffTheTable
known_keys_are_read_off_the_table table face key c e = known_holds (offered_comes table face key) (means_known (offered table face key) c e)

pub unknown_keys_have_nothing : UnknownKeysHaveNothing
unknown_keys_have_nothing table face key e = unknown_holds (offered_comes table face key) (means_unknown (offered table face key) e)

pub faults_are_where_they_say : FaultsAreWhereTheySay
faults_are_where_they_say table face key f e = fault_holds (offered_comes table face key) (means_faulty (offered table face key) f e)

pub an_empty_table_knows_no_key : AnEmptyTableKnowsNoKey
an_empty_table_knows_no_key face key = refl
