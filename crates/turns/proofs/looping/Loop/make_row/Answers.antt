use Rattle.std.proofs.Common.{◌≡◌, ◌+◌, ◌-◌, ◌≤◌, subst, refl, arith}
use Rattle.table.specs.Layout.{place_at}
use Rattle.turns.specs.Loops.{laid}
use Rattle.turns.proofs.Midturn.{makes}
use Rattle.turns.proofs.looping.Loop.make_row.Goals as goal

pub returns-clause-made : goal.returns-clause-made
returns-clause-made g c =
    let lap = c.args.self.now in
    let l = laid lap in
    let r = c.args.r in
    let place = c.place-place.ensures in
    let t = c.args.turn - c.place-place.result.delay in
    let low : (place_at l r).stage ≤ c.args.stage = subst (λ x. x.stage ≤ c.args.stage) place c.if-place-stage.false in
    let at : t + (place_at l r).delay ≡ c.args.turn = subst (λ x. t + x.delay ≡ c.args.turn) place (let e = c.if-place-turn.false in omega arith) in
    λ H σ fits m. makes l lap.view.planned lap.cells.now σ c.args.stage c.args.turn _ m r t c.requires.row low refl at lap.room _ _ (c.reading-made.ensures H σ fits) c.keep.ensures.cells
