use Rattle.std.proofs.Common.{◌≡◌, ◌<◌, refl, ap, arith}
use Rattle.engine.specs.Tells.{laid}
use Rattle.engine.proofs.Records.{stays-more}
use Rattle.report.specs.Reports.{lines_text}
use Rattle.report.proofs.Going.{never-over, made-is, going_on}
use Rattle.report.proofs.Lines.{lines_more}
use Rattle.text.proofs.Chain.{pushed-is}
use Rattle.report.proofs.ticks.push_ticks.Goals as goal

pub returns-in_err-tick : goal.returns-in_err-tick
returns-in_err-tick g c = λ σ fits going.
    let inv = c.loop.invariant in
    let below : c.loop.counter < c.args.horizon = omega arith in
    absurd (never-over _ _ c.args.run.now c.loop.run c.step.new.self inv.0 c.step.ensures.stays _ c.step.ensures.law _ _ σ fits below (inv.1 σ fits going).0 _ c.in_err-tick.was)

pub loop-preserved : goal.loop-preserved
loop-preserved g c =
    let inv = c.loop.invariant in
    let call = c.step.ensures in
    let below : c.loop.counter < c.args.horizon = omega arith in (
      stays-more _ _ _ inv.0 call.stays,
      λ σ fits going.
          let so = inv.1 σ fits going in
          let is = made-is _ _ c.args.run.now c.loop.run c.step.new.self inv.0 call.stays _ call.law _ _ σ fits below so.0 _ c.in_ok-tick.was in (
            going_on _ _ c.args.run.now c.loop.run c.step.new.self inv.0 call.stays _ call.law _ _ σ fits below so.0,
            lines_more _ _ _ _ _ _ _ _ is.0 is.1 so.1 c.push_to.ensures,
          ),
    )

pub returns : goal.returns
returns g c = λ σ fits going.
    let end : c.loop.counter ≡ c.args.horizon = omega arith in
    (refl, pushed-is _ _ _ _ (ap (lines_text g.K.Shown.text (σ (laid c.args.run.now).result)) end) (c.loop.invariant.1 σ fits going).1)
