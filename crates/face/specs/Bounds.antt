-- How large a construction can be.
use Rattle.std.specs.Prelude.{ℕ, ◌≤◌, All, length}
use Rattle.face.specs.Meaning.{Meaning, unknown, faulty, construction, Construction}

-- the largest length, in units of a face
abbrev pub LARGEST : ℕ
LARGEST = 16777216

-- the most entries of a list
abbrev pub MOST : ℕ
MOST = 65535

-- no length is above the longest, the limit not above the largest, and no list too long
pub record Within (longest : ℕ) (c : Construction) : Type 0 where
  pub limit : c.limit ≤ LARGEST
  pub least : c.least ≤ longest
  pub advances : All (λ v. v.advance ≤ longest) c.variants
  pub fulls : All (λ p. p.full ≤ longest) c.parts
  pub variants : length c.variants ≤ MOST
  pub parts : length c.parts ≤ MOST

-- the construction of a key, if it has one, is not too large
abbrev pub Bounded : ℕ → Meaning → Type 0
Bounded longest unknown = Unit {0}
Bounded longest (faulty f) = Unit {0}
Bounded longest (construction c) = Within longest c
