use Rattle.std.proofs.Common.{◌≡◌, ap, subst, arith, ◌∙◌}
use Rattle.table.specs.Views.{seen}
use Rattle.turns.specs.Holds.{Kept, TurnMade, TurnsMade}
use Rattle.turns.specs.Loops.{laid}
use Rattle.turns.proofs.Staying.{stays_on}
use Rattle.turns.proofs.looping.Loop.turns.Goals as goal

pub loop-turn-preserved : goal.loop-turn-preserved
loop-turn-preserved g c =
    let k = g.V.Kind.meaning in
    let says = (g.S.Source.meaning c.args.source.now).says in
    let j = c.loop-turn.turn in
    let cells = c.loop-turn.self.cells.now in
    let new = c.turn.new.self.cells.now in
    let same = ap seen c.loop-turn.invariant.2.view in
    let made = subst (λ l. TurnMade l k says c.args.stage j cells new) same c.turn.ensures.made in
    let kept = subst (λ l. Kept l cells new) same c.turn.ensures.kept in (
      λ H σ fits h. made H σ fits (c.loop-turn.invariant.0 H σ fits h),
      λ i past d. kept i past d ∙ c.loop-turn.invariant.1 i past d,
      stays_on c.loop-turn.invariant.2 c.turn.ensures.stays,
    )

pub returns-clause-made : goal.returns-clause-made
returns-clause-made g c =
    let l = laid c.args.self.now in
    let all : c.loop-turn.turn ≡ c.args.count = omega arith in
    subst (λ n. TurnsMade l g.V.Kind.meaning (g.S.Source.meaning c.args.source.now).says c.args.stage n c.args.self.now.cells.now c.loop-turn.self.cells.now) all c.loop-turn.invariant.0
