-- Two readings side by side that come to the same.
use Rattle.std.specs.Prelude.{◌≡◌, Bool, true, false, cond, Some, None, Ok, Err, Option, Result, refl}
use Rattle.face.specs.declared.faults.Fault.{Fault}
use Rattle.math_table.specs.Reading.{bind}

-- both come to answers, which R relates, or both to one fault
pub data Alike {X Y : Type 0} (R : X → Y → Type 0) : Result X Fault → Result Y Fault → Type 0 where
  answers : {x : X} {y : Y} → R x y → Alike R (Ok x) (Ok y)
  fault : {f : Fault} → Alike R (Err f) (Err f)

-- both find something, and R relates it, or both nothing
pub data BothFind {X Y : Type 0} (R : X → Y → Type 0) : Option X → Option Y → Type 0 where
  nothing : BothFind R None None
  found : {x : X} {y : Y} → R x y → BothFind R (Some x) (Some y)

module _ {X Y : Type 0} {R : X → Y → Type 0} where
  pub alike_bind : {V W : Type 0} {S : V → W → Type 0} {r : Result X Fault} {s : Result Y Fault} {next : X → Result V Fault} {then : Y → Result W Fault}
      → Alike R r s → ((x : X) (y : Y) → R x y → Alike S (next x) (then y)) → Alike S (bind r next) (bind s then)
  alike_bind (answers p) so = so _ _ p
  alike_bind fault so = fault

  -- only the first goes on
  pub alike_first : {V : Type 0} {S : V → Y → Type 0} {r : Result X Fault} {s : Result Y Fault} (change : X → V)
      → Alike R r s → ((x : X) (y : Y) → R x y → S (change x) y) → Alike S (bind r (λ x. Ok (change x))) s
  alike_first change (answers p) so = answers (so _ _ p)
  alike_first change fault so = fault

  -- only the second does
  pub alike_second : {W : Type 0} {S : X → W → Type 0} {r : Result X Fault} {s : Result Y Fault} (change : Y → W)
      → Alike R r s → ((x : X) (y : Y) → r ≡ Ok x → S x (change y)) → Alike S r (bind s (λ y. Ok (change y)))
  alike_second change (answers p) so = answers (so _ _ refl)
  alike_second change fault so = fault

module _ {V W : Type 0} {S : V → W → Type 0} where
  -- both begin with one reading
  pub alike_step : {X : Type 0} {next : X → Result V Fault} {then : X → Result W Fault} (r : Result X Fault)
      → ((x : X) → Alike S (next x) (then x)) → Alike S (bind r next) (bind r then)
  alike_step (Ok x) so = so x
  alike_step (Err f) so = fault

  pub alike_if : {r t : Result V Fault} {s u : Result W Fault} (b : Bool) → Alike S r s → Alike S t u → Alike S (cond b r t) (cond b s u)
  alike_if true if_so if_not = if_so
  alike_if false if_so if_not = if_not
