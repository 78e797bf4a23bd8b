use Rattle.std.proofs.Common.{◌≡◌, ◌≤◌, drop}
use Rattle.load.specs.Sizes.{counted}
use Rattle.load.proofs.sizes.count_operands.Given as goal

abbrev pub invariant-loop-equation : goal.invariant-loop-equation
invariant-loop-equation l = (l.rows ≤ l.room) × (counted l.room l.rows (drop l.equation-index l.equations) ≡ counted l.room 0 l.equations)
