use Rattle.std.proofs.Common.{◌≡◌, true, false, sym, ◌∙◌, subst}
use Rattle.theory.specs.Rule.{is}
use Rattle.turns.specs.Loops.{laid}
use Rattle.turns.specs.Searches.{found_at}
use Rattle.turns.proofs.Agree.{one_read}
use Rattle.turns.proofs.looping.Loop.end_at.Goals as goal

pub returns-then-is : goal.returns-then-is
returns-then-is g c =
    let lap = c.args.self.now in
    let k = g.V.Kind.meaning in
    let t = c.args.t in
    let test : is k false c.fetch-end.result ≡ true = sym c.is.ensures ∙ c.if-is.true in
    λ σ xs ys.
    let y = one_read (laid lap) lap.cells.now c.args.y t c.fetch-end.result (σ c.args.y t) c.fetch-end.ensures ys in
    subst (λ w. is k false w ≡ true) y test

pub returns : goal.returns
returns g c =
    let lap = c.args.self.now in
    let k = g.V.Kind.meaning in
    let r = c.args.r in
    let t = c.args.t in
    let test : is k false c.fetch-end.result ≡ false = sym c.is.ensures ∙ c.if-is.false in
    λ σ xs ys.
    let y = one_read (laid lap) lap.cells.now c.args.y t c.fetch-end.result (σ c.args.y t) c.fetch-end.ensures ys in
    let x = one_read (laid lap) lap.cells.now c.args.x t c.fetch-start.result (σ c.args.x t) c.fetch-start.ensures xs in
    let found = subst (λ w. c.taken.result ≡ found_at k r t c.fetch-start.result w) y c.taken.ensures in (
      subst (λ w. is k false w ≡ false) y test,
      subst (λ v. c.taken.result ≡ found_at k r t v (σ c.args.y t)) x found,
    )
