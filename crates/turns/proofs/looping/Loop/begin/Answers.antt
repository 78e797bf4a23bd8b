use Rattle.std.proofs.Common.{◌≡◌, ◌+◌, ◌-◌, ◌<◌, ◌≤◌, true, false, length, get_or, set, sym, ap, ◌∙◌, subst, arith, length-set, rules}
use Rattle.reading.specs.declared.faults.FaultNumber.TheVariants.{Unreached}
use Rattle.theory.specs.Rule.{born}
use Rattle.table.specs.Layout.{place_at}
use Rattle.table.specs.Views.{seen}
use Rattle.turns.specs.Holds.{Settled}
use Rattle.turns.specs.Loops.{laid, Stays}
use Rattle.turns.specs.Searches.{Begun, searching}
use Rattle.turns.specs.Ticks.{Untouched}
use Rattle.turns.proofs.Searching.{begun-one, begun-skip, begun_all, lower-stays, untouched-still}
use Rattle.turns.proofs.Staying.{stays_on}
use Rattle.turns.proofs.looping.Loop.begin.Goals as goal
use Rattle.turns.proofs.looping.Loop.begin.Goals.{then-searches, else-searches}

pub loop-r-preserved : goal.loop-r-preserved
loop-r-preserved g c =
    let lap = c.args.self.now in
    let l = laid lap in
    let p = lap.view.planned in
    let n = c.loop-r.r-index in
    let r = get_or l.order n 0 in
    let stage = c.args.stage.value in
    let cells = c.loop-r.self.cells.now in
    let pending = c.loop-r.pending in
    let inv = c.loop-r.invariant in
    let same = ap seen inv.3.view in
    let o = p.ordered n c.loop-r-test.true in
    let room : l.size ≤ length cells = subst (λ x. x.size ≤ length cells) same c.loop-r.self.room in
    elim c.if-searches.branch [
      | then-searches w ↦
          let test : true ≡ searching (laid c.loop-r.self) stage r = w.if-searches.ensures in
          let s : searching l stage r ≡ true = subst (λ x. searching x stage r ≡ true) same (sym test) in
          let stored = subst (λ x. w.store.new.self.cells.now ≡ set cells (place_at x r).settled w.fault.result) same w.store.ensures.cells in
          let e : c.if-searches.self.cells.now ≡ set cells (place_at l r).settled (born Unreached r 0) =
          ap (λ x. x.cells.now) w.self-is ∙ (stored ∙ ap (set cells (place_at l r).settled) w.fault.ensures) in
          let inside : r < length pending = search rules in (
            subst (λ x. Begun l c.if-searches.self.cells.now x stage (n + 1)) (sym w.pending-is)
                (begun-one l p cells pending stage n r o.0 o.1 room inside s c.if-searches.self.cells.now e inv.0),
            λ σ h. subst (λ x. Settled l x σ (stage - 1)) (sym e) (lower-stays l p cells room stage r o.0 s (born Unreached r 0) c.args.stage.ok σ (inv.1 σ h)),
            subst (λ x. Untouched l lap.cells.now x) (sym e) (untouched-still l p cells room stage r o.0 s (born Unreached r 0) lap.cells.now inv.2),
            subst (λ x. Stays lap x) (sym w.self-is) (stays_on inv.3 w.store.ensures.stays),
            ap length w.pending-is ∙ (length-set pending r true ∙ inv.4),
          )
      | else-searches w ↦
          let test : false ≡ searching (laid c.loop-r.self) stage r = w.if-searches.ensures in
          let no-search : searching l stage r ≡ false = subst (λ x. searching x stage r ≡ false) same (sym test) in (
            subst (λ x. Begun l c.if-searches.self.cells.now x stage (n + 1)) (sym w.pending-is)
                (subst (λ x. Begun l x.cells.now pending stage (n + 1)) (sym w.self-is) (begun-skip l p cells pending stage n r o.0 o.1 no-search inv.0)),
            λ σ h. subst (λ x. Settled l x.cells.now σ (stage - 1)) (sym w.self-is) (inv.1 σ h),
            subst (λ x. Untouched l lap.cells.now x.cells.now) (sym w.self-is) inv.2,
            subst (λ x. Stays lap x) (sym w.self-is) inv.3,
            ap length w.pending-is ∙ inv.4,
          )
    ]

pub returns-clause-seeking : goal.returns-clause-seeking
returns-clause-seeking g c =
    let lap = c.args.self.now in
    let l = laid lap in
    let cells = c.loop-r.self.cells.now in
    let all : c.loop-r.r-index ≡ length l.order = omega arith in
    λ σ h. (
      c.loop-r.invariant.1 σ h,
      begun_all l lap.view.planned g.V.Kind.meaning cells σ c.loop-r.pending c.args.stage.value
          (subst (λ n. Begun l cells c.loop-r.pending c.args.stage.value n) all c.loop-r.invariant.0),
    )
