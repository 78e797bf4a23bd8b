use Rattle.std.proofs.Common.{refl, ap, ◌∙◌, arith}
use Rattle.std.proofs.lemmas.Result.{err_from_is_err_and}
use Rattle.lexer.specs.declared.token.Mark.TheVariants.{Equals}
use Rattle.lexer.specs.declared.token.Token.TheVariants as word
use Rattle.syntax.proofs.Steps.{moved-missing, moved-marked, moved_ok, moved-err}
use Rattle.syntax.proofs.Judge.{mark-way, head-way, head-missing, equals-missing, way-broken, equation-end, moved-another}
use Rattle.syntax.proofs.reader.Reader.equation.Goals as goal

pub returns-in_err-head-clause-read : goal.returns-in_err-head-clause-read
returns-in_err-head-clause-read c =
    let p = err_from_is_err_and c.from_residual.result c.from_residual.ensures.1 in
    rw (p.1, p.2) (head-missing _ c.requires.due.read c.requires.due.way c.in_err-head.ensures.read)

pub returns-in_err-expect-clause-read : goal.returns-in_err-expect-clause-read
returns-in_err-expect-clause-read c =
    let p = err_from_is_err_and c.from_residual-in_err-expect.result c.from_residual-in_err-expect.ensures.1 in
    let es = c.requires.due.read in
    let a = c.in_ok-head.head in
    let t1 = c.head.ensures.text in
    let v1 = head-way _ es a c.requires.due.way c.in_ok-head.ensures.read in
    rw (p.1, p.2) (equals-missing _ es a v1 (moved-missing (ap (λ x. x.now) t1) c.in_err-expect.ensures.marked))

pub returns-in_err-part-clause-read : goal.returns-in_err-part-clause-read
returns-in_err-part-clause-read c =
    let p = err_from_is_err_and c.from_residual-in_err-part.result c.from_residual-in_err-part.ensures.1 in
    let es = c.requires.due.read in
    let a = c.in_ok-head.head in
    let t1 = c.head.ensures.text in
    let n1 = ap (λ x. x.now) t1 in
    let v1 = head-way _ es a c.requires.due.way c.in_ok-head.ensures.read in
    let m = moved-marked c.args.self.now.text.now _ c.head.new.self.place c.expect.new.self.place (word.Mark Equals) n1 c.in_ok-expect.ensures.marked in
    let v2 = mark-way _ Equals v1 m refl refl (omega arith) in
    let t2 = c.expect.ensures.text ∙ t1 in
    let n2 = ap (λ x. x.now) t2 in
    rw (p.1, p.2) (way-broken _ es a v2 (moved-err n2 refl c.in_err-part.ensures.read))

pub returns-clause-read : goal.returns-clause-read
returns-clause-read c =
    let es = c.requires.due.read in
    let a = c.in_ok-head.head in
    let t1 = c.head.ensures.text in
    let n1 = ap (λ x. x.now) t1 in
    let v1 = head-way _ es a c.requires.due.way c.in_ok-head.ensures.read in
    let m = moved-marked c.args.self.now.text.now _ c.head.new.self.place c.expect.new.self.place (word.Mark Equals) n1 c.in_ok-expect.ensures.marked in
    let v2 = mark-way _ Equals v1 m refl refl (omega arith) in
    let t2 = c.expect.ensures.text ∙ t1 in
    let n2 = ap (λ x. x.now) t2 in
    let x = moved_ok n2 refl c.in_ok-part.ensures.read in
    let t3 = c.expression.ensures.text ∙ t2 in
    let n3 = ap (λ x. x.now) t3 in
    equation-end _ _ _ _ _ es a v2 x.0 x.1 c.another.result (moved-another _ _ c.expression.new.self.place c.another.new.self.place c.another.result n3 c.another.ensures.read)
