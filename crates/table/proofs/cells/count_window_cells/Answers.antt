use Rattle.std.proofs.Common.{◌≡◌, sum, rules, arith}
use Rattle.std.proofs.lemmas.Iterator.{YieldsList-from_slice}
use Rattle.std.proofs.lemmas.Iterator.Consumers.{fits_from_yields_list}
use Rattle.table.proofs.Placing.{sum-low}
use Rattle.table.proofs.cells.count_window_cells.Goals as goal

pub sum-requires-clause-fits : goal.sum-requires-clause-fits
sum-requires-clause-fits c =
    fits_from_yields_list _ _ (YieldsList-from_slice c.args.depth.now cc) (omega (arith, c.requires.few, sum-low 65 c.args.depth.now c.requires.low))

pub returns : goal.returns
returns c =
    let value : c.sum.result ≡ sum c.args.depth.now = search rules in
    record { value = value; low = omega (arith, value, c.requires.few, sum-low 65 c.args.depth.now c.requires.low) }
