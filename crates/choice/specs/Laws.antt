-- The laws of assemblies, of spreading and of the choice.
use Rattle.std.specs.Prelude.{◌≡◌, ℕ, ◌+◌, ◌≤◌, List, [], ◌∷◌, map, length, Some, Err}
use Rattle.std.specs.List.{AllZip, slice_get}
use Rattle.face.specs.declared.parts.Part.{Part}
use Rattle.face.specs.declared.variants.Variant.{Variant}
use Rattle.face.specs.Meaning.{Meaning, construction, Construction}
use Rattle.choice.specs.declared.placing.Piece.{Piece}
use Rattle.choice.specs.declared.signs.Missing.TheVariants.{NothingFits}
use Rattle.choice.specs.declared.signs.NoSign.TheVariants.{Missing}
use Rattle.choice.specs.declared.signs.Sign.TheVariants.{Variant as ReadyMade, Assembly}
use Rattle.choice.specs.Assemblies.{sum, pieces, size}
use Rattle.choice.specs.Choosing.{choice}
use Rattle.choice.specs.Pieces.{pieces_of}
use Rattle.choice.specs.SpanTells.{SpanTells}
use Rattle.choice.specs.Spans.{smallest, span}
use Rattle.choice.specs.Spreading.{Level, level, stretches, overlaps}
use Rattle.choice.specs.Unbettered.{NoVariantFits, NoAssemblyFits, BestAssembly, AssemblyTaken}

-- a span tells exactly the sizes of the legal assemblies at its repeat count
abbrev pub ASpanTellsTheLegalSizes : Type 0
ASpanTellsTheLegalSizes = (least : ℕ) (parts : List Part) (r : ℕ) → SpanTells least parts r (span least parts r)

-- more repeats never make the smallest size smaller
abbrev pub MoreRepeatsAreNeverSmaller : Type 0
MoreRepeatsAreNeverSmaller = (parts : List Part) (r k : ℕ) → r ≤ k → smallest parts r ≤ smallest parts k

-- the level is a number that its rule describes, and the only one
pub record TheLevelIsOne (ss : List ℕ) (excess : ℕ) : Type 0 where
  pub stands : Level ss excess (level ss excess)
  pub alone : (l : ℕ) → Level ss excess l → l ≡ level ss excess

-- the stretches add up to the excess, and none passes its slack
abbrev pub StretchesTakeUpTheExcess : Type 0
StretchesTakeUpTheExcess =
    (ss : List ℕ) (excess : ℕ) → excess ≤ sum ss
    → AllZip (λ t s. t ≤ s) (stretches ss excess) ss × (sum (stretches ss excess) ≡ excess)

-- that nothing fits is answered exactly where no variant and no legal assembly does
pub record NothingFitsExactly (c : Construction) (target : ℕ) : Type 0 where
  pub so : choice (construction c) target ≡ Err (Missing NothingFits) → NoVariantFits c target × NoAssemblyFits c target
  pub only : NoVariantFits c target → NoAssemblyFits c target → choice (construction c) target ≡ Err (Missing NothingFits)

-- two best assemblies have the same repeats and the same size
abbrev pub TheBestIsOne : Type 0
TheBestIsOne =
    (c : Construction) (target r k : ℕ) (os us : List ℕ) → BestAssembly c target r os → BestAssembly c target k us
    → (r ≡ k) × (size (pieces r c.parts) os ≡ size (pieces k c.parts) us)

-- how the pieces of an assembly lie
pub record LaidOut (c : Construction) (r z n : ℕ) (ps : List Piece) : Type 0 where
  -- there are as many as the sign says
  pub count : length ps ≡ n
  -- they are the parts' glyphs, each as often and in the order that the repeat count says
  pub faces : map (λ p. p.face) ps ≡ map (λ p. p.face) (pieces r c.parts)
  pub glyphs : map (λ p. p.glyph) ps ≡ map (λ p. p.glyph) (pieces r c.parts)
  -- each joint has the overlap that the spreading gives it
  pub overlaps_are : map (λ p. p.overlap) ps ≡ 0 ∷ overlaps c.least c.parts r z
  -- a piece's distance from the one before it is that one's full advance minus the overlap
  pub apart : (i : ℕ) (a : Part) (p : Piece) → slice_get (pieces r c.parts) i ≡ Some a → slice_get ps (i + 1) ≡ Some p
      → p.distance + p.overlap ≡ a.full

-- the pieces of an assembly that is taken lie as its sign says
abbrev pub TakenAssembliesAreLaidOut : Type 0
TakenAssembliesAreLaidOut =
    (c : Construction) (target r z n : ℕ) → AssemblyTaken c target r z n → LaidOut c r z n (pieces_of (construction c) (Assembly r z n))

-- a variant that is taken is a single piece, its glyph
abbrev pub TakenVariantsStandAlone : Type 0
TakenVariantsStandAlone =
    (m : Meaning) (i : ℕ) (v : Variant)
    → pieces_of m (ReadyMade i v) ≡ record { face = v.face; glyph = v.glyph; overlap = 0; distance = 0 } ∷ []
