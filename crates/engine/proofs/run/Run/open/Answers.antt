use Rattle.std.proofs.Common.{length, refl}
use Rattle.table.proofs.Potential.{sound-plans}
use Rattle.engine.specs.Tells.{laid}
use Rattle.engine.proofs.Lawful.{open-right, opened-tells}
use Rattle.engine.proofs.run.Run.open.Goals as goal

pub returns-clause-renewed : goal.returns-clause-renewed
returns-clause-renewed g c z says says' past told =
    let run = c.args.self.now in
    let l = laid run in
    let k = g.V.Kind.meaning in
    let planned = sound-plans run.table.now.schedule run.table.now.checked in (
      open-right l k says (length run.cells.now) past c.args.horizon c.if-horizon-lt1.false c.if-horizon-gt-FARTHEST.false c.if-self-schedule.false,
      opened-tells k says' l run.cells.now past _ l.stages planned refl refl,
    )

pub returns-clause-law : goal.returns-clause-law
returns-clause-law g c says = returns-clause-renewed g c refl says says
