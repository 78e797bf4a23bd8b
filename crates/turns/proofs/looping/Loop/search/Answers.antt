use Rattle.std.proofs.Common.{◌≡◌, ◌+◌, ◌-◌, refl, ◌∙◌, ap, subst, inl, inr, arith}
use Rattle.table.specs.Views.{seen}
use Rattle.theory.specs.Rule.{Sheet, Fits}
use Rattle.turns.specs.Holds.{Holds, Settled, Kept, TurnMade, TurnsMade}
use Rattle.turns.specs.Loops.{laid, Stays}
use Rattle.turns.specs.Searches.{Seeking, SoughtAll}
use Rattle.turns.specs.Ticks.{Untouched}
use Rattle.turns.proofs.Searching.{all_settled, seeking-kept, sought-turn}
use Rattle.turns.proofs.Staying.{stays_on}
use Rattle.turns.proofs.looping.Loop.search.Given.{Over}
use Rattle.turns.proofs.looping.Loop.search.Goals.{After-ended}
use Rattle.turns.proofs.looping.Loop.search.Goals as goal

pub loop-t-init : goal.loop-t-init
loop-t-init g c =
    let lap = c.args.self.now in
    let l = laid lap in
    let p = lap.view.planned in
    let k = g.V.Kind.meaning in
    let says = (g.S.Source.meaning c.args.source.now).says in
    let stage = c.args.stage.value in
    let begun = c.begin-pending.ensures in
    let old = c.begin-pending.new.self.cells.now in
    let new = c.turns.new.self.cells.now in
    let same = ap seen begun.stays.view in
    let lower : c.get-lower.result - 1 ≡ stage - 1 = ap (λ n. n - 1) c.get-lower.ensures.value in
    let made = subst (λ s. TurnsMade l k says s l.lag old new) lower (subst (λ x. TurnsMade x k says (c.get-lower.result - 1) l.lag old new) same c.turns.ensures.made) in
    let kept = subst (λ x. Kept x old new) same c.turns.ensures.kept in
    let fit = p.fits in (
      λ σ fits set.
          let b = begun.seeking σ set in (
            subst (λ n. Holds l new σ (stage - 1) n) (let e : l.lag ≡ 0 + l.lag = omega arith in e) (made c.args.horizon σ fits b.0),
            seeking-kept l p k old new σ c.begin-pending.result stage 0 kept b.1,
          ),
      λ i past d. kept i (omega arith) d ∙ begun.beyond i past d,
      stays_on begun.stays c.turns.ensures.stays,
    )

-- What is known once the tick was sought.
sought : (g : Over) (c : After-ended g) →
    ((σ : Sheet g.row.V.Denot) → Fits (laid c.args.self.now).rows g.V.Kind.meaning (g.S.Source.meaning c.args.source.now).says c.args.horizon σ →
    Settled (laid c.args.self.now) c.args.self.now.cells.now σ (c.args.stage.value - 1) →
    Holds (laid c.args.self.now) c.seek.new.self.cells.now σ (c.args.stage.value - 1) (c.loop-t.t + 1 + (laid c.args.self.now).lag) ×
    Seeking (laid c.args.self.now) g.V.Kind.meaning c.seek.new.self.cells.now σ c.seek.new.pending c.args.stage.value 0 (c.loop-t.t + 1)) ×
    Untouched (laid c.args.self.now) c.args.self.now.cells.now c.seek.new.self.cells.now × Stays c.args.self.now c.seek.new.self
sought g c =
    let lap = c.args.self.now in
    let l = laid lap in
    let p = lap.view.planned in
    let k = g.V.Kind.meaning in
    let says = (g.S.Source.meaning c.args.source.now).says in
    let H = c.args.horizon in
    let stage = c.args.stage.value in
    let t = c.loop-t.t in
    let inv = c.loop-t.invariant in
    let cells = c.loop-t.self.cells.now in
    let mid = c.turn.new.self.cells.now in
    let new = c.seek.new.self.cells.now in
    let same = ap seen inv.2.view in
    let still = stays_on inv.2 c.turn.ensures.stays in
    let lower : c.get-lower.result - 1 ≡ stage - 1 = ap (λ n. n - 1) c.get-lower.ensures.value in
    let made = subst (λ s. TurnMade l k says s (t + l.lag) cells mid) lower (subst (λ x. TurnMade x k says (c.get-lower.result - 1) (t + l.lag) cells mid) same c.turn.ensures.made) in
    let kept = subst (λ x. Kept x cells mid) same c.turn.ensures.kept in
    let sought = subst (λ x. SoughtAll x k stage t mid c.loop-t.pending new c.seek.new.pending) (ap seen still.view) c.seek.ensures.sought in
    let beyond = subst (λ x. Untouched x mid new) (ap seen still.view) c.seek.ensures.beyond in
    let fit = p.fits in (
      λ σ fits set.
          let now = inv.0 σ fits set in
          sought-turn l p k says H σ fits cells mid new c.loop-t.pending c.seek.new.pending stage t c.loop-t-test.true (made H σ fits now.0) kept now.1 sought,
      λ i past d. beyond i past d ∙ (kept i (omega arith) d ∙ inv.1 i past d),
      stays_on still c.seek.ensures.stays,
    )

pub loop-t-preserved : goal.loop-t-preserved
loop-t-preserved g c = sought g c.before

pub returns-then-ended-clause-settles : goal.returns-then-ended-clause-settles
returns-then-ended-clause-settles g c =
    let lap = c.args.self.now in
    let next = sought g c.before in
    record {
      settled = λ σ fits set.
          let now = next.0 σ fits set in
          all_settled (laid lap) lap.view.planned g.V.Kind.meaning (g.S.Source.meaning c.args.source.now).says c.args.horizon σ fits c.seek.new.self.cells.now c.seek.new.pending _ _ now.0.settled now.1 (inl (c.if-ended.ensures refl));
      beyond = next.1;
    }

pub returns-clause-settles : goal.returns-clause-settles
returns-clause-settles g c =
    let lap = c.args.self.now in
    let inv = c.loop-t.invariant in
    record {
      settled = λ σ fits set.
          let now = inv.0 σ fits set in
          all_settled (laid lap) lap.view.planned g.V.Kind.meaning (g.S.Source.meaning c.args.source.now).says c.args.horizon σ fits c.loop-t.self.cells.now c.loop-t.pending _ _ now.0.settled now.1 (inr c.loop-t-test.false);
      beyond = inv.1;
    }
