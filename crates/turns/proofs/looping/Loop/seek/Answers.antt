use Rattle.std.proofs.Common.{◌≡◌, length, get_or, ◌∙◌, ap, subst, arith}
use Rattle.table.specs.Views.{seen}
use Rattle.turns.specs.Loops.{laid}
use Rattle.turns.specs.Searches.{Seeking, SoughtRow}
use Rattle.turns.specs.Ticks.{Untouched}
use Rattle.turns.proofs.Searching.{sought-one, sought-all}
use Rattle.turns.proofs.Staying.{stays_on}
use Rattle.turns.proofs.looping.Loop.seek.Goals as goal

pub loop-r-preserved : goal.loop-r-preserved
loop-r-preserved g c =
    let lap = c.args.self.now in
    let l = laid lap in
    let p = lap.view.planned in
    let k = g.V.Kind.meaning in
    let n = c.loop-r.r-index in
    let r = get_or l.order n 0 in
    let t = c.args.t in
    let stage = c.args.stage.value in
    let cells = c.loop-r.self.cells.now in
    let new = c.seek_row.new.self.cells.now in
    let inv = c.loop-r.invariant in
    let same = ap seen inv.2.view in
    let o = p.ordered n c.loop-r-test.true in
    let sought = subst (λ x. SoughtRow x k stage t r cells c.loop-r.pending new c.seek_row.new.pending) same c.seek_row.ensures.sought in
    let beyond = subst (λ x. Untouched x cells new) same c.seek_row.ensures.beyond in (
      λ says H σ fits lt held h.
          let now = inv.0 says H σ fits lt held h in
          sought-one l p cells c.loop-r.pending stage n r o.0 o.1 k says H σ fits t lt _ _ sought now.0 now.1,
      λ i past d. beyond i past d ∙ inv.1 i past d,
      stays_on inv.2 c.seek_row.ensures.stays,
    )

pub returns-clause-sought : goal.returns-clause-sought
returns-clause-sought g c =
    let lap = c.args.self.now in
    let l = laid lap in
    let k = g.V.Kind.meaning in
    let t = c.args.t in
    let stage = c.args.stage.value in
    let cells = c.loop-r.self.cells.now in
    let all : c.loop-r.r-index ≡ length l.order = omega arith in
    λ says H σ fits lt held h.
    let now = c.loop-r.invariant.0 says H σ fits lt held h in (
      now.0,
      sought-all l lap.view.planned k cells σ c.loop-r.pending stage t (subst (λ n. Seeking l k cells σ c.loop-r.pending stage n t) all now.1),
    )
