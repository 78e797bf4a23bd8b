use Rattle.grammar.proofs.Exact.{decides}
use Rattle.grammar.proofs.machine_decides.Goals as goal

pub returns : goal.returns
returns c = decides
