-- The pieces of a sign, from the bottom or the left, each with its distance from the one before.
use Rattle.std.specs.Prelude.{ℕ, ◌-◌, Bool, false, if◌then◌else◌, ◌&&◌, List, [], ◌∷◌, Some, None, Option, nat_le}
use Rattle.face.specs.declared.parts.Part.{Part}
use Rattle.face.specs.declared.variants.Variant.{Variant}
use Rattle.face.specs.Meaning.{Meaning, unknown, faulty, construction}
use Rattle.choice.specs.declared.placing.Piece.{Piece}
use Rattle.choice.specs.declared.signs.Sign.{Sign}
use Rattle.choice.specs.declared.signs.Sign.TheVariants.{Variant as ReadyMade, Assembly}
use Rattle.choice.specs.Assemblies.{pieces}
use Rattle.choice.specs.Spans.{span}
use Rattle.choice.specs.Spreading.{overlaps}

-- a piece that none stands before
abbrev pub first_piece : Part → Piece
first_piece p = record { face = p.face; glyph = p.glyph; overlap = 0; distance = 0 }

-- a piece that overlaps the one before it
abbrev pub next_piece : Part → Part → ℕ → Piece
next_piece a p o = record { face = p.face; glyph = p.glyph; overlap = o; distance = a.full - o }

-- pieces behind another, by their overlaps
abbrev pub pieces_from : Part → List Part → List ℕ → List Piece
pieces_from a [] os = []
pieces_from a (p ∷ ps) [] = []
pieces_from a (p ∷ ps) (o ∷ os) = next_piece a p o ∷ pieces_from p ps os

-- the pieces of an assembly, by its overlaps
abbrev pub placed : List Part → List ℕ → List Piece
placed [] os = []
placed (p ∷ ps) os = first_piece p ∷ pieces_from p ps os

-- the one piece of a variant
abbrev pub ready_piece : Variant → Piece
ready_piece v = record { face = v.face; glyph = v.glyph; overlap = 0; distance = 0 }

-- a size lies in a span
abbrev pub in_span : Option (ℕ × ℕ) → ℕ → Bool
in_span None z = false
in_span (Some s) z = nat_le s.0 z && nat_le z s.1

-- the pieces of the assembly of size z at repeat count r: none where no legal assembly has that size
abbrev pub assembled : Meaning → ℕ → ℕ → List Piece
assembled unknown r z = []
assembled (faulty f) r z = []
assembled (construction c) r z =
    if in_span (span c.least c.parts r) z then placed (pieces r c.parts) (overlaps c.least c.parts r z) else []

-- the pieces of a sign
abbrev pub pieces_of : Meaning → Sign → List Piece
pieces_of m (ReadyMade i v) = ready_piece v ∷ []
pieces_of m (Assembly r z n) = assembled m r z
