use Rattle.std.proofs.Common.{◌≡◌, length, Err, ap, subst, rules}
use Rattle.table.specs.Tables.{layout}
use Rattle.table.proofs.Potential.{sound-determines}
use Rattle.engine.specs.Tells.{laid}
use Rattle.format.specs.declared.lines.Heading.{Heading}
use Rattle.format.specs.Shown.{heading_text}
use Rattle.text.specs.Pushed.{Pushed}
use Rattle.report.proofs.Reporting.{for-horizon, refused-open, never-left, reported}
use Rattle.report.proofs.runs.push_run.Goals as goal

pub returns-in_err-stages : goal.returns-in_err-stages
returns-in_err-stages g c =
    let says = (g.S.Source.meaning c.args.source.now).says in
    let laid-is : laid c.new-run.result ≡ layout c.args.table.now.schedule = ap (λ p. layout p.now.schedule) c.new-run.ensures.table in
    let ends : c.from_residual.result ≡ Err c.in_err-stages.field-0.0 = search rules in
    for-horizon _ c.ticks-horizon.ensures
    (refused-open _ _ says _ _ _ c.new-run.result c.open.new.self c.open.result laid-is (ap (λ p. length p.now) c.new-run.ensures.cells) (c.new-run.ensures.tells _ says) (c.open.ensures.law says) _ _ _
    c.in_err-stages.was ends)

pub returns-in_err-settle_stages : goal.returns-in_err-settle_stages
returns-in_err-settle_stages g c =
    let says = (g.S.Source.meaning c.args.source.now).says in
    let laid-is : laid c.new-run.result ≡ layout c.args.table.now.schedule = ap (λ p. layout p.now.schedule) c.new-run.ensures.table in
    absurd
    (never-left c.args.table.now.schedule _ says g.K.Shown.text _ (length c.args.cells.now) c.new-run.result c.open.new.self c.open.result laid-is (ap (λ p. length p.now) c.new-run.ensures.cells)
    (c.new-run.ensures.tells _ says) (c.open.ensures.law says) _ c.in_ok-stages.was c.open.ensures.stays c.settle_stages.new.run c.settle_stages.ensures.stays _
    c.settle_stages.ensures.goes _ c.in_err-settle_stages.was)

pub returns : goal.returns
returns g c =
    let says = (g.S.Source.meaning c.args.source.now).says in
    let t = c.args.table.now.schedule in
    let laid-is : laid c.new-run.result ≡ layout t = ap (λ p. layout p.now.schedule) c.new-run.ensures.table in
    let top = subst (λ (h : Heading). Pushed c.args.out.now c.push_to.new.out (heading_text h)) c.heading.ensures c.push_to.ensures in
    for-horizon _ c.ticks-horizon.ensures
    (reported t _ says g.K.Shown.text _ (length c.args.cells.now) c.new-run.result c.open.new.self c.open.result laid-is (ap (λ p. length p.now) c.new-run.ensures.cells)
    (c.new-run.ensures.tells _ says) (c.open.ensures.law says) _ c.in_ok-stages.was c.open.ensures.stays c.settle_stages.new.run c.settle_stages.ensures.stays _
    c.settle_stages.ensures.goes (sound-determines t _ c.args.table.now.checked _ says) _ c.push_to.new.out _ _ top c.push_ticks.ensures)
