use Rattle.theory.proofs.Least.{least-solution}
use Rattle.theory.proofs.least_solution.Goals as goal

pub returns : goal.returns
returns g c = least-solution _
