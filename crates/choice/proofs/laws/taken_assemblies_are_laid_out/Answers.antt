use Rattle.choice.proofs.Laying.{taken_assemblies_are_laid_out}
use Rattle.choice.proofs.laws.taken_assemblies_are_laid_out.Goals as goal

pub returns : goal.returns
returns c = taken_assemblies_are_laid_out
