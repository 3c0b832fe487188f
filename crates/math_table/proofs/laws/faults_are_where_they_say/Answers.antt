use Rattle.math_table.proofs.ReadOffTheTable.{faults_are_where_they_say}
use Rattle.math_table.proofs.laws.faults_are_where_they_say.Goals as goal

pub returns : goal.returns
returns c = faults_are_where_they_say
