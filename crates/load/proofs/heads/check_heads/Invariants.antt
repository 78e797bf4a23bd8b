use Rattle.std.proofs.Common.{◌≡◌, [], take, drop}
use Rattle.load.specs.Heads.{heads_from}
use Rattle.load.proofs.heads.check_heads.Given as goal

abbrev pub invariant-loop-k : goal.invariant-loop-k
invariant-loop-k l = heads_from (take l.k l.equations) (drop l.k l.equations) ≡ heads_from [] l.equations
