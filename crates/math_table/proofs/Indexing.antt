-- The entries of a list that was read, by their indexes.
use Rattle.std.proofs.Common.{◌≡◌, ℕ, true, false, ltb, inl, inr, lt-ltb, List, length, Ok, Err, Result, refl, ◌∙◌, arith}
use Rattle.std.proofs.lemmas.Bool.{le-ltb}
use Rattle.std.proofs.lemmas.Option.{slice_get_cases}
use Rattle.std.specs.List.{slice_get}
use Rattle.face.specs.declared.faults.Fault.{Fault}
use Rattle.math_table.specs.Outcomes.{Comes, answer, fault}
use Rattle.math_table.specs.declared.runs.Run.{Run}
use Rattle.math_table.specs.Reading.{entries}
use Rattle.math_table.specs.Shapes.{entry_of}
use Rattle.math_table.proofs.Standing.{answer_holds, Stand, entries_come}

module _ {X : Type 0} (read : ℕ → Result X Fault) (size : ℕ) (r : Run) (xs : List X) (is : entries read size r.count r.first ≡ Ok xs) where
  read_at : Stand (λ place x. read place ≡ Ok x) size r.count r.first xs
  read_at = answer_holds (entries_come _ size (λ place. by (read place)) r.count r.first) is where
    by : (r : Result X Fault) → Comes (λ _. Unit {0}) (λ x. r ≡ Ok x) r
    by (Ok x) = answer refl
    by (Err f) = fault tt

  pub entries_count : length xs ≡ r.count
  entries_count = read_at.0

  pub entry_is : (i : ℕ) → slice_get xs i ≡ entry_of read size r i
  entry_is i =
      elim (slice_get_cases xs i).1 [
        | inl at ↦ let below : ltb i r.count ≡ true = lt-ltb i r.count (omega (arith, read_at.0)) in at.2 ∙ rw (below, read_at.1 i at.0 at.2)
        | inr past ↦ let above : ltb i r.count ≡ false = le-ltb i r.count (omega (arith, read_at.0)) in past.1 ∙ rw above
      ]
