use Rattle.std.proofs.Common.{◌≡◌, ◌-◌}
use Rattle.math_table.specs.Coverages.{first_holding}
use Rattle.math_table.proofs.Holding.{holding_from}
use Rattle.math_table.proofs.coverages.Format.first_holding.Given as goal

abbrev pub invariant-loop-position : goal.invariant-loop-position
invariant-loop-position l =
    holding_from l.reader.table.now l.reader.key l.self l.first (l.count - l.position) l.position
    ≡ first_holding l.reader.table.now l.reader.key l.self l.count l.first 0
