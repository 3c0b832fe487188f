-- How a face is made from bytes, and what it means.
use Rattle.std.specs.Prelude.{◌≡◌, ℕ, Bool, true, false, ◌&&◌, ◌||◌, List, length, Ok, Err, Result, ◌==◌, nat_le, slice_index}
use Rattle.face.specs.declared.keys.Key.{Key}
use Rattle.face.specs.Meaning.{Meaning}
use Rattle.math_table.specs.declared.tables.MathTable.{MathTable}
use Rattle.math_table.specs.declared.tables.Refusal.{Refusal}
use Rattle.math_table.specs.declared.tables.Refusal.TheVariants.{Header}
use Rattle.math_table.specs.Meanings.{math_meaning}

-- an empty table, or ten bytes or more and major version 1
abbrev pub well_formed : List ℕ → Bool
well_formed table =
    (length table == 0) || (nat_le 10 (length table) && (slice_index table 0 == 0 && slice_index table 1 == 1))

-- a face is made of a well-formed table and of no other; it keeps the bytes and the face number
abbrev pub Making : List ℕ → ℕ → Result MathTable Refusal → Type 0
Making table face (Ok m) = (well_formed table ≡ true) × (m.table.now ≡ table) × (m.face ≡ face)
Making table face (Err e) = (well_formed table ≡ false) × (e ≡ Header)

-- it means what its bytes mean
abbrev pub meant : MathTable → Key → Meaning
meant m key = math_meaning m.table.now m.face key
