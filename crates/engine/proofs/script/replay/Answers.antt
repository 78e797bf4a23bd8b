use Rattle.std.proofs.Common.{◌≡◌, ◌+◌, length, get_or, vec_items, sym, refl, ap, ◌∙◌, subst, arith}
use Rattle.std.proofs.lemmas.Result.{IfOk-from_err}
use Rattle.table.specs.Tables.{layout}
use Rattle.engine.specs.declared.calls.Call.TheVariants.{Open}
use Rattle.engine.specs.Law.{Right, record_of, AllRight}
use Rattle.engine.specs.Tells.{laid, Tells}
use Rattle.engine.proofs.Records.{all_more, tells_more, stays_same, stays-more}
use Rattle.engine.proofs.script.replay.Goals as goal

pub loop-call-init : goal.loop-call-init
loop-call-init g c =
    (c.new-replies.ensures.len, stays_same _ _ refl, c.new-run.ensures.tells g.V.Kind.meaning (g.S.Source.meaning c.args.source.now).says, λ i lt. absurd (omega arith))

pub loop-call-preserved : goal.loop-call-preserved
loop-call-preserved g c =
    let k = g.V.Kind.meaning in
    let says = (g.S.Source.meaning c.args.source.now).says in
    let calls = c.args.calls.now in
    let replies = vec_items c.loop-call.replies in
    let i = c.loop-call.call-index in
    let a = c.make.result in
    let inv = c.loop-call.invariant in
    let new = c.in_ok-push.ensures.items in
    let long : length replies ≡ i = sym c.loop-call.replies.ok.0 ∙ inv.0 in
    let l = laid c.new-run.result in
    let room = length c.new-run.result.cells.now in
    let law = c.make.ensures.law (record_of calls replies i) inv.2 in
    let same : laid c.loop-call.run ≡ l = ap (λ x. layout x.now.schedule) inv.1.table in
    let right : Right l k says room (record_of calls replies i) (get_or calls i (Open 0)) a =
    subst (λ x. Right x k says room (record_of calls replies i) (get_or calls i (Open 0)) a) same
    (subst (λ x. Right (laid c.loop-call.run) k says x (record_of calls replies i) (get_or calls i (Open 0)) a) inv.1.room law.0) in (
      c.in_ok-push.ensures.len ∙ ap (λ n. n + 1) inv.0,
      stays-more _ _ _ inv.1 c.make.ensures.stays,
      subst (λ x. Tells k says c.make.new.self (record_of calls x (i + 1))) (sym new) (tells_more calls replies a k says c.make.new.self i long law.1),
      subst (λ x. AllRight l k says room calls x (i + 1)) (sym new) (all_more calls replies a l k says room i long inv.3 right),
    )

pub returns-in_err-push : goal.returns-in_err-push
returns-in_err-push g c = IfOk-from_err _ _ c.from_residual.ensures.0

pub returns : goal.returns
returns g c =
    let k = g.V.Kind.meaning in
    let says = (g.S.Source.meaning c.args.source.now).says in
    let calls = c.args.calls.now in
    let replies = vec_items c.loop-call.replies in
    let inv = c.loop-call.invariant in
    let all : c.loop-call.call-index ≡ length calls = let a = c.loop-call-test.false in let b = c.loop-call.auto.call-index-end in omega arith in
    let l = laid c.new-run.result in
    let same : l ≡ layout c.args.table.now.schedule = ap (λ x. layout x.now.schedule) c.new-run.ensures.table in
    let long : length c.new-run.result.cells.now ≡ length c.args.cells.now = ap (λ x. length x.now) c.new-run.ensures.cells in (
      inv.0 ∙ all,
      subst (λ n. AllRight (layout c.args.table.now.schedule) k says (length c.args.cells.now) calls replies n) all
          (subst (λ x. AllRight (layout c.args.table.now.schedule) k says x calls replies c.loop-call.call-index) long
          (subst (λ x. AllRight x k says (length c.new-run.result.cells.now) calls replies c.loop-call.call-index) same inv.3)),
    )
