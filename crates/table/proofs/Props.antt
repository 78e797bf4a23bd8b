-- The facts that a table carries have one proof each.
use Rattle.std.proofs.Common.{ℕ}
use Rattle.std.proofs.Props.{props}
use Rattle.theory.specs.Potential.{Label, level, ahead, back, beyond, Down}

pub down-prop : (m : ℕ) (height stage : ℕ → ℕ) (a : ℕ) (l : Label) (x : ℕ) → IsProp (Down m height stage a l x)
down-prop m height stage a level x = Prim.hlevel props
down-prop m height stage a ahead x = Prim.hlevel props
down-prop m height stage a back x = Prim.hlevel props
down-prop m height stage a beyond x = Prim.hlevel props
