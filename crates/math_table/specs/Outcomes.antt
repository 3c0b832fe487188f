-- What a reading comes to, from what its steps come to. These are proofs: nothing in them has to be believed.
use Rattle.std.specs.Prelude.{◌≡◌, ℕ, zero, suc, ◌+◌, Bool, true, false, cond, List, [], ◌∷◌, Some, None, Ok, Err, Option, Result, ◌==◌, ◌≢◌, refl}
use Rattle.std.proofs.Common.{eqb-true}
use Rattle.std.proofs.lemmas.Bool.{eqb-false}
use Rattle.face.specs.declared.faults.Fault.{Fault}
use Rattle.math_table.specs.Reading.{bind, on_found, via, entries}

-- P of the answer, or Q of the fault
pub data Comes {X : Type 0} (Q : Fault → Type 0) (P : X → Type 0) : Result X Fault → Type 0 where
  answer : {x : X} → P x → Comes Q P (Ok x)
  fault : {f : Fault} → Q f → Comes Q P (Err f)

-- P of what was found, or N where nothing was
pub data IfFound {X : Type 0} (N : Type 0) (P : X → Type 0) : Option X → Type 0 where
  nothing : N → IfFound N P None
  found : {x : X} → P x → IfFound N P (Some x)

module _ {Q : Fault → Type 0} where
  pub comes_bind : {X Y : Type 0} {P : X → Type 0} {R : Y → Type 0} {r : Result X Fault} {next : X → Result Y Fault}
      → Comes Q P r → ((x : X) → P x → Comes Q R (next x)) → Comes Q R (bind r next)
  comes_bind (answer p) then = then _ p
  comes_bind (fault q) then = fault q

  pub comes_so : {X : Type 0} {P R : X → Type 0} {r : Result X Fault} → Comes Q P r → ((x : X) → P x → R x) → Comes Q R r
  comes_so (answer p) then = answer (then _ p)
  comes_so (fault q) then = fault q

  pub comes_on_found : {X Y M N : Type 0} {P : X → Type 0} {R : Y → Type 0} {o : Option X} {next : X → Result (Option Y) Fault}
      → IfFound M P o → (M → N) → ((x : X) → P x → Comes Q (IfFound N R) (next x)) → Comes Q (IfFound N R) (on_found o next)
  comes_on_found (nothing m) else then = answer (nothing (else m))
  comes_on_found (found p) else then = then _ p

  pub comes_if : {X : Type 0} {P : X → Type 0} {r s : Result X Fault} (b : Bool)
      → (b ≡ true → Comes Q P r) → (b ≡ false → Comes Q P s) → Comes Q P (cond b r s)
  comes_if true if_so if_not = if_so refl
  comes_if false if_so if_not = if_not refl

  pub comes_if_zero : {X : Type 0} {P : X → Type 0} {r s : Result X Fault} (n : ℕ)
      → (n ≡ 0 → Comes Q P r) → ((n ≢ 0) → Comes Q P s) → Comes Q P (cond (n == 0) r s)
  comes_if_zero n if_so if_not = comes_if (n == 0) (λ t. if_so (eqb-true n 0 t)) (λ t. if_not (eqb-false n 0 t))

  pub comes_via : {X N : Type 0} {P : X → Type 0} {r : Result (Option X) Fault} (n : ℕ)
      → (n ≡ 0 → N) → ((n ≢ 0) → Comes Q (IfFound N P) r) → Comes Q (IfFound N P) (via n r)
  comes_via n else then = comes_if_zero n (λ null. answer (nothing (else null))) then

  -- R n place xs, by how it begins and goes on: n entries from a place on
  pub comes_entries : {X : Type 0} {Is : ℕ → X → Type 0} {read : ℕ → Result X Fault} (size : ℕ) (R : ℕ → ℕ → List X → Type 0)
      → ((place : ℕ) → R 0 place [])
      → ((n place : ℕ) (x : X) (xs : List X) → Is place x → R n (place + size) xs → R (suc n) place (x ∷ xs))
      → ((place : ℕ) → Comes Q (Is place) (read place))
      → (n place : ℕ) → Comes Q (R n place) (entries read size n place)
  comes_entries size R none more reads zero place = answer (none place)
  comes_entries size R none more reads (suc n) place =
      comes_bind (reads place) (λ x is.
      comes_bind (comes_entries size R none more reads n (place + size)) (λ xs rest.
      answer (more n place x xs is rest)))
