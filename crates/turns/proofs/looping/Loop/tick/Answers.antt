use Rattle.std.proofs.Common.{◌≡◌, ℕ, ◌+◌, ◌<◌, sym, refl, ◌∙◌, ap, subst, arith}
use Rattle.theory.specs.Rule.{Sheet, Fits}
use Rattle.table.specs.Views.{seen}
use Rattle.turns.specs.Holds.{Holds, Settled, Kept, TurnMade}
use Rattle.turns.specs.Loops.{laid, Stays}
use Rattle.turns.specs.Reads.{Has}
use Rattle.turns.proofs.Agree.{one_at}
use Rattle.turns.proofs.looping.Loop.tick.Goals as goal
use Rattle.turns.proofs.looping.Loop.tick.Goals.{then-t-eq0, else-t-eq0}

pub returns-clause-ticked : goal.returns-clause-ticked
returns-clause-ticked g c =
    let lap = c.args.self.now in
    let l = laid lap in
    let k = g.V.Kind.meaning in
    let says = (g.S.Source.meaning c.args.source.now).says in
    let p = lap.view.planned in
    let t = c.args.t in
    let s = l.stages in
    let old = lap.cells.now in
    let mid = c.if-t-eq0.self.cells.now in
    let new = c.turn.new.self.cells.now in
    let stays : Stays lap c.if-t-eq0.self =
    elim c.if-t-eq0.branch [
      | then-t-eq0 w ↦ subst (Stays lap) (sym w.self-is) w.turns.ensures.stays
      | else-t-eq0 w ↦ subst (Stays lap) (sym w.self-is) (record { view = refl; cells = refl })
    ] in
    let ahead : (H : ℕ) (σ : Sheet g.row.V.Denot) → Fits l.rows k says H σ → Settled l old σ s → (0 < t → Holds l old σ s (t + l.lag)) → Holds l mid σ s (t + l.lag) =
    λ H σ fits set past.
    elim c.if-t-eq0.branch [
      | then-t-eq0 w ↦
          let e : l.lag ≡ t + l.lag = let z = w.if-t-eq0.true in omega arith in
          subst (λ n. Holds l mid σ s n) e (subst (λ x. Holds l x.cells.now σ s l.lag) (sym w.self-is) (w.turns.ensures.made H σ fits set))
      | else-t-eq0 w ↦ subst (λ x. Holds l x.cells.now σ s (t + l.lag)) (sym w.self-is) (past (let z = w.if-t-eq0.false in omega arith))
    ] in
    let first : Kept l old mid =
    elim c.if-t-eq0.branch [
      | then-t-eq0 w ↦ subst (λ x. Kept l old x.cells.now) (sym w.self-is) w.turns.ensures.kept
      | else-t-eq0 w ↦ subst (λ x. Kept l old x.cells.now) (sym w.self-is) (λ i past d. refl)
    ] in
    let same = ap seen stays.view in
    let made = subst (λ x. TurnMade x k says s (t + l.lag) mid new) same c.turn.ensures.made in
    let kept = subst (λ x. Kept x mid new) same c.turn.ensures.kept in
    let got = subst (λ x. Has x new l.result t c.fetch.result) (ap seen (c.turn.ensures.stays.view ∙ stays.view)) c.fetch.ensures in
    let low = p.staged l.result p.result in
    let delay = p.delayed l.result p.result in
    let shown = p.shown in
    record {
      holds = λ H σ fits set past. subst (λ n. Holds l new σ s n) (let e : t + l.lag + 1 ≡ t + 1 + l.lag = omega arith in e) (made H σ fits (ahead H σ fits set past));
      reads = λ H σ fits set past. one_at got ((made H σ fits (ahead H σ fits set past)).windows l.result p.result low t (omega arith) (omega arith));
      beyond = λ i past d. kept i past d ∙ first i past d;
    }
