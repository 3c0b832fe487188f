-- What stands in a table where a reading has come to an answer, or to a fault.
use Rattle.std.proofs.Common.{◌≡◌, ℕ, zero, suc, ◌+◌, ◌*◌, Bool, true, false, cond, List, [], ◌∷◌, length, Some, None, Ok, Err, Option, Result, sym, refl, ap, subst, arith}
use Rattle.std.specs.Option.{ok_or}
use Rattle.std.specs.List.{slice_get}
use Rattle.face.specs.declared.faults.Cause.{Cause}
use Rattle.face.specs.declared.faults.Cause.TheVariants.{OutsideTable}
use Rattle.face.specs.declared.faults.Fault.{Fault}
use Rattle.face.specs.declared.keys.Key.{Key}
use Rattle.math_table.specs.Coverages.{or_else}
use Rattle.math_table.specs.FaultPlaces.{CauseStands, outside, FaultStands}
use Rattle.math_table.specs.Offers.{WordIs, Listed}
use Rattle.math_table.specs.Outcomes.{Comes, answer, fault, IfFound, nothing, found, comes_bind, comes_so, comes_entries}
use Rattle.math_table.specs.Reading.{word_at, fault_at, word, bind, entries}

module _ {X N : Type 0} {P : X → Type 0} where
  pub found_so : {M : Type 0} {R : X → Type 0} {o : Option X} → (N → M) → ((x : X) → P x → R x) → IfFound N P o → IfFound M R o
  found_so else so (nothing n) = nothing (else n)
  found_so else so (found p) = found (so _ p)

  pub found_if : (x : X) (b : Bool) → N → (b ≡ true → P x) → IfFound N P (cond b (Some x) None)
  found_if x true n p = found (p refl)
  found_if x false n p = nothing n

  module _ {Q : Fault → Type 0} where
    pub comes_or_else : {M : Type 0} {R : X → Type 0} {later : Result (Option X) Fault} {o : Option X}
        → IfFound N P o → ((x : X) → P x → R x) → (N → o ≡ None → Comes Q (IfFound M R) later) → Comes Q (IfFound M R) (or_else later o)
    comes_or_else (nothing n) so else = else n refl
    comes_or_else (found p) so else = answer (found (so _ p))

    pub known_holds : {r : Result (Option X) Fault} {x : X} → Comes Q (IfFound N P) r → r ≡ Ok (Some x) → P x
    known_holds (answer (nothing n)) e = cc
    known_holds {x} (answer (found {x = y} p)) e = let same : y ≡ x = cc in subst P same p
    known_holds (fault q) e = cc

    pub unknown_holds : {r : Result (Option X) Fault} → Comes Q (IfFound N P) r → r ≡ Ok None → N
    unknown_holds (answer (nothing n)) e = n
    unknown_holds (answer (found p)) e = cc
    unknown_holds (fault q) e = cc

module _ {X : Type 0} {P : X → Type 0} {Q : Fault → Type 0} where
  pub comes_with : {r : Result X Fault} → Comes Q P r → Comes Q (λ x. P x × (r ≡ Ok x)) r
  comes_with (answer p) = answer (p, refl)
  comes_with (fault q) = fault q

  pub answer_holds : {r : Result X Fault} {x : X} → Comes Q P r → r ≡ Ok x → P x
  answer_holds {x} (answer {x = y} p) e = let same : y ≡ x = cc in subst P same p
  answer_holds (fault q) e = cc

  pub fault_holds : {r : Result X Fault} {f : Fault} → Comes Q P r → r ≡ Err f → Q f
  fault_holds (answer p) e = cc
  fault_holds {f} (fault {f = g} q) e = let same : g ≡ f = cc in subst Q same q

-- n entries that were read from a place on: so many, and the one at i stands i sizes after the place
module _ {X : Type 0} (Is : ℕ → X → Type 0) (size : ℕ) where
  abbrev pub Stand : ℕ → ℕ → List X → Type 0
  Stand n place xs = (length xs ≡ n) × ((i : ℕ) (x : X) → slice_get xs i ≡ Some x → Is (place + size * i) x)

  none_stand : (place : ℕ) → Stand 0 place []
  none_stand place = (refl, λ i x e. cc)

  more_stand : (n place : ℕ) (x : X) (xs : List X) → Is place x → Stand n (place + size) xs → Stand (suc n) place (x ∷ xs)
  more_stand n place x xs is rest = (ap suc rest.0, at) where
    at : (i : ℕ) (y : X) → slice_get (x ∷ xs) i ≡ Some y → Is (place + size * i) y
    at zero y e =
        let same : x ≡ y = cc in
        let start : place ≡ place + size * 0 = omega arith in
        subst (λ k. Is k y) start (subst (Is place) same is)
    at (suc i) y e =
        let step : place + size + size * i ≡ place + size * suc i = omega arith in
        subst (λ k. Is k y) step (rest.1 i y e)

  pub entries_come : {Q : Fault → Type 0} {read : ℕ → Result X Fault} → ((place : ℕ) → Comes Q (Is place) (read place))
      → (n place : ℕ) → Comes Q (Stand n place) (entries read size n place)
  entries_come reads n place = comes_entries size Stand none_stand more_stand reads n place

-- P of the answer; a fault is where it says
abbrev pub Reads : List ℕ → Key → {X : Type 0} → (X → Type 0) → Result X Fault → Type 0
Reads table key P r = Comes (FaultStands table key) P r

module _ (table : List ℕ) (key : Key) where
  pub fault_comes : {X : Type 0} {P : X → Type 0} (place : ℕ) (cause : Cause) → CauseStands table key place cause → Reads table key P (Err (fault_at cause key place))
  fault_comes place cause stands = fault (record { layer = refl; passed = refl; glyph = refl; cause = stands })

  pub word_comes : (place : ℕ) → Reads table key (WordIs table place) (word table key place)
  word_comes place = by (word_at table place) refl
    where
      by : (o : Option ℕ) → word_at table place ≡ o → Reads table key (WordIs table place) (ok_or o (fault_at OutsideTable key place))
      by (Some w) e = answer e
      by None e = fault_comes place OutsideTable (outside e)

  pub listed_comes : {X : Type 0} {Is : ℕ → X → Type 0} {read : ℕ → Result X Fault} (size count first : ℕ)
      → ((place : ℕ) → Reads table key (Is place) (read place))
      → Reads table key (Listed table Is size count first) (bind (word table key count) (λ n. entries read size n first))
  listed_comes {Is} size count first reads =
      comes_bind (word_comes count) (λ n is.
      comes_so (entries_come Is size reads n first) (λ xs all.
      record { length_is = subst (WordIs table count) (sym all.0) is; entries_are = all.1 }))
