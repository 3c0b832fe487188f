-- The search for the first coverage entry that holds a glyph, by the positions of the entries.
use Rattle.std.proofs.Common.{◌≡◌, ℕ, suc, ◌+◌, ◌-◌, ◌*◌, ◌<◌, List, None, Ok, Option, Result, sym, ap, arith}
use Rattle.face.specs.declared.faults.Fault.{Fault}
use Rattle.face.specs.declared.keys.Key.{Key}
use Rattle.math_table.specs.declared.coverages.Format.{Format}
use Rattle.math_table.specs.Coverages.{entry_size, entry_index, first_holding}
use Rattle.math_table.proofs.KnownSteps.{bind_to}

-- where the entry at a position begins, if that at 0 begins at `first`
abbrev pub place_at : Format → (first position : ℕ) → ℕ
place_at format first position = first + entry_size format * position

module _ (table : List ℕ) (key : Key) (format : Format) (first : ℕ) where
  -- the first of n entries from a position on
  abbrev pub holding_from : (n position : ℕ) → Result (Option ℕ) Fault
  holding_from n position = first_holding table key format n (place_at format first position) position

  pub holding_all : (n : ℕ) → holding_from n 0 ≡ first_holding table key format n first 0
  holding_all n = let start : place_at format first 0 ≡ first = omega arith in ap (λ place. first_holding table key format n place 0) start

  pub holding_more : (n position : ℕ) → holding_from n (position + 1) ≡ first_holding table key format n (place_at format first position + entry_size format) (position + 1)
  holding_more n position =
      let step : place_at format first (position + 1) ≡ place_at format first position + entry_size format = omega arith in
      ap (λ place. first_holding table key format n place (position + 1)) step

  -- where an entry does not hold the glyph, those after it tell
  pub holding_past : (n position : ℕ) → entry_index table key format (place_at format first position) position ≡ Ok None → holding_from (suc n) position ≡ holding_from n (position + 1)
  holding_past n position none = bind_to _ none (sym (holding_more n position))

  pub holding_later : (n position : ℕ) → position < n → entry_index table key format (place_at format first position) position ≡ Ok None
      → holding_from (n - (position + 1)) (position + 1) ≡ holding_from (n - position) position
  holding_later n position more none =
      let one_more : n - position ≡ suc (n - (position + 1)) = omega arith in
      rw one_more (sym (holding_past (n - (position + 1)) position none))
