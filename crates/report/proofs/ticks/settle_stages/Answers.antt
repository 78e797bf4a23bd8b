use Rattle.std.proofs.Common.{◌≡◌, ◌+◌, ◌-◌, subst, arith}
use Rattle.engine.proofs.Records.{stays-more}
use Rattle.report.specs.Runs.{Going}
use Rattle.report.proofs.Going.{never-unsettled, settled-more}
use Rattle.report.proofs.ticks.settle_stages.Goals as goal

pub returns-in_err-settle : goal.returns-in_err-settle
returns-in_err-settle g c =
    let call = c.settle.ensures in
    let inv = c.loop.invariant in
    record {
      stays = stays-more _ _ _ inv.0 call.stays;
      goes = λ H made going. absurd (never-unsettled _ _ _ _ call.stays _ _ c.in_err-settle.was call.law H _ made (inv.1 H made going));
    }

pub loop-preserved : goal.loop-preserved
loop-preserved g c =
    let k = g.K.Kind.meaning in
    let says = (g.S.Source.meaning c.args.source.now).says in
    let call = c.settle.ensures in
    let inv = c.loop.invariant in (
      stays-more _ _ _ inv.0 call.stays,
      λ H made going.
          let fewer : c.args.stages - c.loop.counter - 1 ≡ c.args.stages - (c.loop.counter + 1) = omega arith in
          subst (λ n. Going k says c.settle.new.self H n made) fewer (settled-more k says c.loop.run c.settle.new.self call.stays _ call.law H _ made (inv.1 H made going)).1,
    )
