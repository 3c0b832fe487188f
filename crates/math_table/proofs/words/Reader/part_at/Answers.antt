use Rattle.std.proofs.Common.{rules}
use Rattle.face.proofs.SameParts.{clamped_is}
use Rattle.math_table.proofs.words.Reader.part_at.Goals as goal

pub returns : goal.returns
returns c = search (rules, clamped_is _ _ _ _ _ _ c.new.result c.new.ensures)
