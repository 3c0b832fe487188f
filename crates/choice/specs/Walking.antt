-- Along the pieces of an assembly, one after the other. This serves private functions.
use Rattle.std.specs.Prelude.{◌≡◌, ℕ, ◌+◌, ◌-◌, ◌≤◌, min, if◌then◌else◌, List, [], replicate, Some, None, Option}
use Rattle.std.specs.Iterator.Adapters.{repeat_n_count, repeat_n_item}
use Rattle.std.specs.declared.iter.RepeatN.{RepeatN}
use Rattle.face.specs.declared.parts.Part.{Part}
use Rattle.choice.specs.declared.joints.Joints.{Joints}
use Rattle.choice.specs.declared.placing.Piece.{Piece}
use Rattle.choice.specs.Assemblies.{pieces, mosts}
use Rattle.choice.specs.Pieces.{pieces_from, placed, in_span}
use Rattle.choice.specs.Spreading.{slacks, unit, spread, stretches, less}
use Rattle.choice.specs.Tallying.{mosts_after}

-- the copies of a part that are still to come, if there is one
abbrev pub standing : Option (RepeatN Part) → List Part
standing None = []
standing (Some row) = replicate (repeat_n_count row) (repeat_n_item row)

-- the pieces placed behind another, or behind none
abbrev pub placed_after : Option Part → List Part → List ℕ → List Piece
placed_after None ps os = placed ps os
placed_after (Some a) ps os = pieces_from a ps os

-- the pieces as the joints place them
abbrev pub placed_by : Joints → List Part → List Piece
placed_by j ps =
    let ms = mosts_after j.former ps in
    placed_after j.former ps (less ms (spread j.level j.lacking (slacks j.least ms)))

-- a joint overlaps by its most minus its stretch, and a unit that it takes lacks no more
pub record Overlaps (before : Joints) (most o : ℕ) (after : Joints) : Type 0 where
  pub is : o ≡ most - (min (most - before.least) before.level + unit before.level before.lacking (most - before.least))
  pub low : o ≤ most
  pub lacking : after.lacking ≡ before.lacking - unit before.level before.lacking (most - before.least)
  pub same_least : after.least ≡ before.least
  pub same_level : after.level ≡ before.level
  pub same_former : after.former ≡ before.former

-- joints before the first piece
abbrev pub unjoined : ℕ → ℕ → ℕ → Joints
unjoined least level lacking = record { least = least; level = level; lacking = lacking; former = None }

-- the pieces at repeat count r, with an excess spread over their joints
abbrev pub spread_over : ℕ → List Part → ℕ → ℕ → List Piece
spread_over least parts r excess =
    let ms = mosts (pieces r parts) in
    placed (pieces r parts) (less ms (stretches (slacks least ms) excess))

-- by how much a size is above the smallest of a span, if it lies in the span
abbrev pub excess_in : Option (ℕ × ℕ) → ℕ → Option ℕ
excess_in None z = None
excess_in (Some s) z = if in_span (Some s) z then Some (z - s.0) else None
