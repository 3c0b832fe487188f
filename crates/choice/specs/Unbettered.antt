-- What makes a choice one that cannot be bettered.
use Rattle.std.specs.Prelude.{◌≡◌, ℕ, ◌<◌, ◌≤◌, List, length, Some, Ok, Err, Result}
use Rattle.std.specs.List.{slice_get}
use Rattle.face.specs.declared.variants.Variant.{Variant}
use Rattle.face.specs.Meaning.{Meaning, unknown, faulty, construction, Construction}
use Rattle.choice.specs.declared.signs.Missing.TheVariants.{Unknown, NothingFits}
use Rattle.choice.specs.declared.signs.NoSign.{NoSign}
use Rattle.choice.specs.declared.signs.NoSign.TheVariants.{Missing, Faulty}
use Rattle.choice.specs.declared.signs.Sign.{Sign}
use Rattle.choice.specs.declared.signs.Sign.TheVariants.{Variant as ReadyMade, Assembly}
use Rattle.choice.specs.Assemblies.{Legal, pieces, size}
use Rattle.choice.specs.Choosing.{Fits}
use Rattle.choice.specs.Spreading.{overlaps}

-- no variant fits
abbrev pub NoVariantFits : Construction → ℕ → Type 0
NoVariantFits c target = (i : ℕ) (v : Variant) → slice_get c.variants i ≡ Some v → Fits target c.limit v.advance → ⊥

-- no legal assembly fits, of any repeat count and with any overlaps
abbrev pub NoAssemblyFits : Construction → ℕ → Type 0
NoAssemblyFits c target =
    (r : ℕ) (os : List ℕ) → Legal c.least c.parts r os → Fits target c.limit (size (pieces r c.parts) os) → ⊥

-- the variant at an index is the first that fits
pub record FirstVariant (c : Construction) (target i : ℕ) (v : Variant) : Type 0 where
  pub at : slice_get c.variants i ≡ Some v
  pub fits : Fits target c.limit v.advance
  pub first : (j : ℕ) (w : Variant) → j < i → slice_get c.variants j ≡ Some w → Fits target c.limit w.advance → ⊥

-- an assembly is legal and fits, and every legal assembly that fits, of any repeat count and with any overlaps,
-- has at least its repeats and at least its size
pub record BestAssembly (c : Construction) (target r : ℕ) (os : List ℕ) : Type 0 where
  pub legal : Legal c.least c.parts r os
  pub fits : Fits target c.limit (size (pieces r c.parts) os)
  pub best : (k : ℕ) (us : List ℕ) → Legal c.least c.parts k us → Fits target c.limit (size (pieces k c.parts) us)
      → (r ≤ k) × (size (pieces r c.parts) os ≤ size (pieces k c.parts) us)

-- an assembly is taken, of this size and so many pieces: no variant fits, and with the overlaps of the spreading it is the best
pub record AssemblyTaken (c : Construction) (target r z n : ℕ) : Type 0 where
  pub no_variant : NoVariantFits c target
  pub best : BestAssembly c target r (overlaps c.least c.parts r z)
  pub size_is : size (pieces r c.parts) (overlaps c.least c.parts r z) ≡ z
  pub pieces_are : length (pieces r c.parts) ≡ n

-- no other variant or assembly of a construction is better than the sign
abbrev pub UnbetteredSign : Construction → ℕ → Sign → Type 0
UnbetteredSign c target (ReadyMade i v) = FirstVariant c target i v
UnbetteredSign c target (Assembly r z n) = AssemblyTaken c target r z n

-- a sign is answered only where none is better, and that nothing fits only where nothing does
abbrev pub UnbetteredIn : Construction → ℕ → Result Sign NoSign → Type 0
UnbetteredIn c target (Ok sign) = UnbetteredSign c target sign
UnbetteredIn c target (Err (Missing Unknown)) = ⊥
UnbetteredIn c target (Err (Missing NothingFits)) = NoVariantFits c target × NoAssemblyFits c target
UnbetteredIn c target (Err (Faulty f)) = ⊥

-- what is answered for a key cannot be bettered: unknown is unknown, a fault is that fault
abbrev pub Unbettered : Meaning → ℕ → Result Sign NoSign → Type 0
Unbettered unknown target answer = answer ≡ Err (Missing Unknown)
Unbettered (faulty f) target answer = answer ≡ Err (Faulty f)
Unbettered (construction c) target answer = UnbetteredIn c target answer
