-- The entries of a key under a layer.
use Rattle.std.proofs.Common.{◌≡◌, ℕ, refl}
use Rattle.face.specs.Meaning.{Meaning, unknown, faulty, construction, variant_at, part_at}
use Rattle.layers.specs.Layers.{capped}

-- a cap changes no entry
pub capped_variants : (most : ℕ) (m : Meaning) (i : ℕ) → variant_at (capped most m) i ≡ variant_at m i
capped_variants most unknown i = refl
capped_variants most (faulty f) i = refl
capped_variants most (construction c) i = refl

pub capped_parts : (most : ℕ) (m : Meaning) (i : ℕ) → part_at (capped most m) i ≡ part_at m i
capped_parts most unknown i = refl
capped_parts most (faulty f) i = refl
capped_parts most (construction c) i = refl
