-- The entries of a construction.
use Rattle.std.specs.Prelude.{ℕ, ◌+◌, if◌then◌else◌, List, [], Ok, Result, ◌==◌, bit_and}
use Rattle.face.specs.declared.faults.Fault.{Fault}
use Rattle.face.specs.declared.keys.Key.{Key}
use Rattle.face.specs.declared.parts.Part.{Part}
use Rattle.face.specs.declared.variants.Variant.{Variant}
use Rattle.face.specs.Clamping.{clamped_part}
use Rattle.math_table.specs.Reading.{word, bind, entries}

module _ (table : List ℕ) (face : ℕ) (key : Key) where
  -- a variant: glyph and advance
  abbrev pub variant_entry : ℕ → Result Variant Fault
  variant_entry place =
      bind (word table key place) (λ glyph.
      bind (word table key (place + 2)) (λ advance.
      Ok (record { face = face; glyph = glyph; advance = advance })))

  -- a part: glyph, start and end connector, full advance, and flags, whose lowest bit marks an extender
  abbrev pub part_entry : ℕ → Result Part Fault
  part_entry place =
      bind (word table key place) (λ glyph.
      bind (word table key (place + 2)) (λ start.
      bind (word table key (place + 4)) (λ end.
      bind (word table key (place + 6)) (λ full.
      bind (word table key (place + 8)) (λ flags.
      Ok (clamped_part face glyph start end full (bit_and flags 1 == 1)))))))

  -- the variants of the construction at an offset: their count at 2, then four bytes each
  abbrev pub variant_list : ℕ → Result (List Variant) Fault
  variant_list place = bind (word table key (place + 2)) (λ n. entries variant_entry 4 n (place + 4))

  -- the parts of the assembly at an offset: italics, which are not read, their count at 4, then ten bytes each
  abbrev pub part_list : ℕ → Result (List Part) Fault
  part_list place = bind (word table key (place + 4)) (λ n. entries part_entry 10 n (place + 6))

  -- without an assembly there are no parts
  abbrev pub assembly_parts : (place offset : ℕ) → Result (List Part) Fault
  assembly_parts place offset = if offset == 0 then Ok [] else part_list (place + offset)
