use Rattle.std.proofs.Common.{◌≡◌, sym, ap, ◌∙◌, subst}
use Rattle.table.proofs.Potential.{sound-plans}
use Rattle.engine.specs.Cells.{cell_of, Own, Keeps}
use Rattle.engine.specs.Tells.{laid}
use Rattle.engine.proofs.Cells.{own-cell, keeps-cell}
use Rattle.engine.proofs.run.Run.settled_cell.Goals as goal

pub returns : goal.returns
returns g c =
    let run = c.args.self.now in
    let l = laid run in
    let k = g.V.Kind.meaning in
    let r = c.args.row in
    let p = sound-plans run.table.now.schedule run.table.now.checked in
    let v : c.cell_of.result ≡ cell_of l r = c.cell_of.ensures ∙ ap (λ x. cell_of x r) c.view.ensures in
    record {
      value = v;
      own = subst (Own l r) (sym v) (own-cell l p r);
      keeps = λ says past told. subst (Keeps l k says run.cells.now past r) (sym v) (keeps-cell k says run past p told r);
    }
