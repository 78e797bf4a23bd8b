use Rattle.std.proofs.Common.{◌≡◌, ◌+◌, length, get_or, ap, subst, arith, ◌∙◌}
use Rattle.table.specs.Layout.{position_at}
use Rattle.table.specs.Views.{seen}
use Rattle.turns.specs.Holds.{Midst, Kept, RowMade}
use Rattle.turns.specs.Loops.{laid}
use Rattle.turns.proofs.Midturn.{ends}
use Rattle.turns.proofs.Staying.{stays_on}
use Rattle.turns.proofs.looping.Loop.turn.Goals as goal

pub loop-r-preserved : goal.loop-r-preserved
loop-r-preserved g c =
    let lap = c.args.self.now in
    let l = laid lap in
    let n = c.loop-r.r-index in
    let r = get_or l.order n 0 in
    let s = c.args.stage in
    let j = c.args.turn in
    let cells = c.loop-r.self.cells.now in
    let new = c.make_row.new.self.cells.now in
    let stays = c.loop-r.invariant.2 in
    let same = ap seen stays.view in
    let here = (lap.view.planned.ordered n c.loop-r-test.true).1 in
    let made = subst (λ x. RowMade x g.V.Kind.meaning (g.S.Source.meaning c.args.source.now).says s j r cells new) same c.make_row.ensures.made in
    let kept = subst (λ x. Kept x cells new) same c.make_row.ensures.kept in (
      λ H σ fits h. subst (λ m. Midst l (position_at l) cells σ s j m → Midst l (position_at l) new σ s j (m + 1)) here (made H σ fits) (c.loop-r.invariant.0 H σ fits h),
      λ i past d. kept i past d ∙ c.loop-r.invariant.1 i past d,
      stays_on stays c.make_row.ensures.stays,
    )

pub returns-clause-made : goal.returns-clause-made
returns-clause-made g c =
    let lap = c.args.self.now in
    let l = laid lap in
    let cells = c.loop-r.self.cells.now in
    let all : c.loop-r.r-index ≡ length l.order = omega arith in
    λ H σ fits h.
    ends l lap.view.planned cells σ c.args.stage c.args.turn (subst (λ n. Midst l (position_at l) cells σ c.args.stage c.args.turn n) all (c.loop-r.invariant.0 H σ fits h))
