-- What a table offers is what is read, and if it has nothing then nothing is.
use Rattle.std.proofs.Common.{◌≡◌, ℕ, ◌+◌, ◌*◌, List, [], Some, Ok, Result, sym, refl, ap, subst}
use Rattle.face.specs.declared.faults.Fault.{Fault}
use Rattle.face.specs.declared.keys.Key.{Key}
use Rattle.face.specs.declared.parts.Part.{Part}
use Rattle.face.specs.declared.variants.Variant.{Variant}
use Rattle.face.specs.Meaning.{Construction}
use Rattle.face.proofs.SameParts.{clamped_is}
use Rattle.math_table.specs.Constructions.{variant_entry, part_entry, part_list, assembly_parts}
use Rattle.math_table.specs.Laws.{WhatTheTableOffersIsKnown, WhatHasNothingIsUnknown}
use Rattle.math_table.specs.Meanings.{offered, meaning_of}
use Rattle.math_table.specs.Offers.{WordIs, Listed, VariantIs, PartIs, Assembles, no_assembly, assembly, Offers}
use Rattle.math_table.specs.Reading.{word, bind, entries}
use Rattle.math_table.proofs.KnownSteps.{bind_to, past_null, entries_to, word_to}
use Rattle.math_table.proofs.LocatedIsKnown.{located_known, located_nothing}

module _ (table : List ℕ) (face : ℕ) (key : Key) where
  variant_to : (place : ℕ) (v : Variant) → VariantIs table face place v → variant_entry table face key place ≡ Ok v
  variant_to place v is =
      bind_to _ (word_to table key place is.glyph_is) (
      bind_to _ (word_to table key (place + 2) is.advance_is)
      (λ i. Ok (record { face = sym is.face_is i; glyph = v.glyph; advance = v.advance })))

  part_to : (place : ℕ) (p : Part) → PartIs table face place p → part_entry table face key place ≡ Ok p
  part_to place p is =
      bind_to _ (word_to table key place is.glyph_is) (
      bind_to _ (word_to table key (place + 2) is.start_is) (
      bind_to _ (word_to table key (place + 4) is.end_is) (
      bind_to _ (word_to table key (place + 6) is.full_is) (
      bind_to _ (word_to table key (place + 8) is.flags_is)
      (ap Ok (sym (clamped_is _ _ _ _ _ _ p is.clamped)))))))

  listed_to : {X : Type 0} {Is : ℕ → X → Type 0} {size count first : ℕ} {xs : List X} (read : ℕ → Result X Fault)
      → ((place : ℕ) (x : X) → Is place x → read place ≡ Ok x)
      → Listed table Is size count first xs → bind (word table key count) (λ n. entries read size n first) ≡ Ok xs
  listed_to {size} {count} {first} {xs} read reads listed =
      bind_to _ (word_to table key count listed.length_is)
      (entries_to read size first xs (λ i x at. reads (first + size * i) x (listed.entries_are i x at)))

  parts_to : (place : ℕ) (ps : List Part) → Assembles table face place ps → (offset : ℕ) × WordIs table place offset × (assembly_parts table face key place offset ≡ Ok ps)
  parts_to place ps (no_assembly is) = (0, is, refl)
  parts_to place ps (assembly target leads listed) = (
    leads.offset,
    leads.word_is,
    past_null leads.offset (Ok []) leads.not_null
        (subst (λ k. part_list table face key k ≡ Ok ps) leads.target_is (listed_to (part_entry table face key) part_to listed)),
  )

  offered_to : (c : Construction) → Offers table face key c → offered table face key ≡ Ok (Some c)
  offered_to c o =
      let assembly = parts_to o.place c.parts o.parts in
      bind_to _ (located_known table key o.base o.index o.place c.least o.header o.least o.indexed o.constructs) (
      bind_to _ (word_to table key o.place assembly.1) (
      bind_to _ (listed_to (variant_entry table face key) variant_to o.variants) (
      bind_to _ assembly.2
      (λ i. Ok (Some (record { limit = sym o.limit i; least = c.least; variants = c.variants; parts = c.parts }))))))

pub what_the_table_offers_is_known : WhatTheTableOffersIsKnown
what_the_table_offers_is_known table face key c offers = ap meaning_of (offered_to table face key c offers)

pub what_has_nothing_is_unknown : WhatHasNothingIsUnknown
what_has_nothing_is_unknown table face key why = ap meaning_of (bind_to _ (located_nothing table key why) refl)
