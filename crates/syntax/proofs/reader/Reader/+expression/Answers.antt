use Rattle.std.proofs.Common.{◌≤◌, length, Ok, sym, refl, ap, ◌∙◌, subst, arith, Some}
use Rattle.std.proofs.lemmas.Result.{err_from_is_err_and}
use Rattle.lexer.specs.declared.token.Token.TheVariants as word
use Rattle.lexer.specs.declared.token.Mark.TheVariants.{Close, Then, Else}
use Rattle.lexer.specs.Lexer.{scan, a_word}
use Rattle.grammar.specs.Machine.{group, test, branch, other, operand, right}
use Rattle.syntax.specs.Reading.{InfixRead}
use Rattle.syntax.proofs.Steps.{leads-then, into, nested, no-first, refused-first, atom-read, deep-first, open-leads, if-leads, then-leads, else-leads, no-close, no-then, no-else, group-read, choice-read, prefix-leads, prefix-read, infix-leads, infix-read, no-word-after, moved_ok, moved-err, no-mark-begins, no-if-begins, no-prefix-begins, low-prefix-begins, prefix-word, moved-level, moved_at, ends_at, moved-missing, moved-marked, no-word-is, none_there}
use Rattle.syntax.proofs.reader.Reader.+expression.Goals as goal

pub bracket-returns-then-context-ge-LIMIT-clause-read : goal.bracket-returns-then-context-ge-LIMIT-clause-read
bracket-returns-then-context-ge-LIMIT-clause-read t c =
    deep-first _ c.requires.passed.1 (omega arith)

pub bracket-returns-in_err-inner-clause-read : goal.bracket-returns-in_err-inner-clause-read
bracket-returns-in_err-inner-clause-read t c =
    let k = c.requires.passed in
    let p = err_from_is_err_and c.from_residual.result c.from_residual.ensures.1 in
    rw (p.1, p.2) (into _ (open-leads _ k.1 c.if-context-ge-LIMIT.false) (nested _ (group c.args.context.level) 1 (moved-err refl k.2 c.in_err-inner.ensures.read)))

pub bracket-returns-in_err-expect-clause-read : goal.bracket-returns-in_err-expect-clause-read
bracket-returns-in_err-expect-clause-read t c =
    let k = c.requires.passed in
    let X = moved_ok refl k.2 c.in_ok-inner.ensures.read in
    let T1 = c.expression.ensures.text in
    let p = err_from_is_err_and c.from_residual-in_err-expect.result c.from_residual-in_err-expect.ensures.1 in
    rw (p.1, p.2) (into _ (open-leads _ k.1 c.if-context-ge-LIMIT.false) (no-close _ X.0 X.1 (moved-missing (ap (λ x. x.now) T1) c.in_err-expect.ensures.marked)))

pub bracket-returns-clause-read : goal.bracket-returns-clause-read
bracket-returns-clause-read t c =
    let k = c.requires.passed in
    let X = moved_ok refl k.2 c.in_ok-inner.ensures.read in
    let T1 = c.expression.ensures.text in
    let n1 = ap (λ x. x.now) T1 in
    let M = moved-marked c.args.self.now.text.now _ c.expression.new.self.place c.expect.new.self.place (word.Mark Close) n1 c.in_ok-expect.ensures.marked in
    ends_at M.2 refl (group-read _ k.1 c.args.context.low c.if-context-ge-LIMIT.false X.0 M.1)

pub choice-returns-then-context-gt-CHOICE-clause-read : goal.choice-returns-then-context-gt-CHOICE-clause-read
choice-returns-then-context-gt-CHOICE-clause-read t c =
    refused-first _ c.requires.passed.1 (λ fs. no-if-begins c.args.context.level fs c.if-context-gt-CHOICE.true)

pub choice-returns-in_err-test-clause-read : goal.choice-returns-in_err-test-clause-read
choice-returns-in_err-test-clause-read t c =
    let k = c.requires.passed in
    let L0 = if-leads _ {n = c.args.context.level} k.1 c.if-context-gt-CHOICE.false c.args.context.within_limit in
    let p = err_from_is_err_and c.from_residual.result c.from_residual.ensures.1 in
    rw (p.1, p.2) (into _ L0 (nested _ (test c.args.context.level) 3 (moved-err refl k.2 c.in_err-test.ensures.read)))

pub choice-returns-in_err-expect-clause-read : goal.choice-returns-in_err-expect-clause-read
choice-returns-in_err-expect-clause-read t c =
    let k = c.requires.passed in
    let L0 = if-leads _ {n = c.args.context.level} k.1 c.if-context-gt-CHOICE.false c.args.context.within_limit in
    let X1 = moved_ok refl k.2 c.in_ok-test.ensures.read in
    let T1 = c.expression.ensures.text in
    let p = err_from_is_err_and c.from_residual-in_err-expect.result c.from_residual-in_err-expect.ensures.1 in
    rw (p.1, p.2) (into _ L0 (no-then _ X1.0 X1.1 (moved-missing (ap (λ x. x.now) T1) c.in_err-expect.ensures.marked)))

pub choice-returns-in_err-branch-clause-read : goal.choice-returns-in_err-branch-clause-read
choice-returns-in_err-branch-clause-read t c =
    let k = c.requires.passed in
    let L0 = if-leads _ {n = c.args.context.level} k.1 c.if-context-gt-CHOICE.false c.args.context.within_limit in
    let X1 = moved_ok refl k.2 c.in_ok-test.ensures.read in
    let T1 = c.expression.ensures.text in
    let M1 = moved-marked c.args.self.now.text.now _ c.expression.new.self.place c.expect.new.self.place (word.Mark Then) (ap (λ x. x.now) T1) c.in_ok-expect.ensures.marked in
    let T2 = c.expect.ensures.text ∙ T1 in
    let L1 = leads-then _ L0 (then-leads _ X1.0 M1.1 c.args.context.within_limit) in
    let p = err_from_is_err_and c.from_residual-in_err-branch.result c.from_residual-in_err-branch.ensures.1 in
    rw (p.1, p.2) (into _ L1 (nested _ (branch c.args.context.level X1.0.tree) 3 (moved-err (ap (λ x. x.now) T2) M1.2 c.in_err-branch.ensures.read)))

pub choice-returns-in_err-expect-2-clause-read : goal.choice-returns-in_err-expect-2-clause-read
choice-returns-in_err-expect-2-clause-read t c =
    let k = c.requires.passed in
    let L0 = if-leads _ {n = c.args.context.level} k.1 c.if-context-gt-CHOICE.false c.args.context.within_limit in
    let X1 = moved_ok refl k.2 c.in_ok-test.ensures.read in
    let T1 = c.expression.ensures.text in
    let M1 = moved-marked c.args.self.now.text.now _ c.expression.new.self.place c.expect.new.self.place (word.Mark Then) (ap (λ x. x.now) T1) c.in_ok-expect.ensures.marked in
    let T2 = c.expect.ensures.text ∙ T1 in
    let X2 = moved_ok (ap (λ x. x.now) T2) M1.2 c.in_ok-branch.ensures.read in
    let T3 = c.expression-2.ensures.text ∙ T2 in
    let L1 = leads-then _ L0 (then-leads _ X1.0 M1.1 c.args.context.within_limit) in
    let p = err_from_is_err_and c.from_residual-in_err-expect-2.result c.from_residual-in_err-expect-2.ensures.1 in
    rw (p.1, p.2) (into _ L1 (no-else _ X1.0.tree X2.0 X2.1 (moved-missing (ap (λ x. x.now) T3) c.in_err-expect-2.ensures.marked)))

pub choice-returns-in_err-other-clause-read : goal.choice-returns-in_err-other-clause-read
choice-returns-in_err-other-clause-read t c =
    let k = c.requires.passed in
    let L0 = if-leads _ {n = c.args.context.level} k.1 c.if-context-gt-CHOICE.false c.args.context.within_limit in
    let X1 = moved_ok refl k.2 c.in_ok-test.ensures.read in
    let T1 = c.expression.ensures.text in
    let M1 = moved-marked c.args.self.now.text.now _ c.expression.new.self.place c.expect.new.self.place (word.Mark Then) (ap (λ x. x.now) T1) c.in_ok-expect.ensures.marked in
    let T2 = c.expect.ensures.text ∙ T1 in
    let X2 = moved_ok (ap (λ x. x.now) T2) M1.2 c.in_ok-branch.ensures.read in
    let T3 = c.expression-2.ensures.text ∙ T2 in
    let L1 = leads-then _ L0 (then-leads _ X1.0 M1.1 c.args.context.within_limit) in
    let M2 = moved-marked c.args.self.now.text.now _ c.expression-2.new.self.place c.expect-2.new.self.place (word.Mark Else) (ap (λ x. x.now) T3) c.in_ok-expect-2.ensures.marked in
    let T4 = c.expect-2.ensures.text ∙ T3 in
    let L2 = leads-then _ L1 (else-leads _ X1.0.tree X2.0 M2.1 c.args.context.within_limit) in
    let p = err_from_is_err_and c.from_residual-in_err-other.result c.from_residual-in_err-other.ensures.1 in
    rw (p.1, p.2) (into _ L2 (nested _ (other c.args.context.level X1.0.tree X2.0.tree) 3 (moved-err (ap (λ x. x.now) T4) M2.2 c.in_err-other.ensures.read)))

pub choice-returns-clause-read : goal.choice-returns-clause-read
choice-returns-clause-read t c =
    let k = c.requires.passed in
    let X1 = moved_ok refl k.2 c.in_ok-test.ensures.read in
    let T1 = c.expression.ensures.text in
    let M1 = moved-marked c.args.self.now.text.now _ c.expression.new.self.place c.expect.new.self.place (word.Mark Then) (ap (λ x. x.now) T1) c.in_ok-expect.ensures.marked in
    let T2 = c.expect.ensures.text ∙ T1 in
    let X2 = moved_ok (ap (λ x. x.now) T2) M1.2 c.in_ok-branch.ensures.read in
    let T3 = c.expression-2.ensures.text ∙ T2 in
    let M2 = moved-marked c.args.self.now.text.now _ c.expression-2.new.self.place c.expect-2.new.self.place (word.Mark Else) (ap (λ x. x.now) T3) c.in_ok-expect-2.ensures.marked in
    let T4 = c.expect-2.ensures.text ∙ T3 in
    let n4 = ap (λ x. x.now) T4 in
    let X3 = moved_ok n4 M2.2 c.in_ok-other.ensures.read in
    choice-read _ k.1 c.if-context-gt-CHOICE.false c.args.context.within_limit X1.0 M1.1 X2.0 M2.1 X3.0 X3.1

pub prefix-returns-in_err-op-clause-read : goal.prefix-returns-in_err-op-clause-read
prefix-returns-in_err-op-clause-read t c =
    let p = err_from_is_err_and c.from_residual.result c.from_residual.ensures.1 in
    let n = none_there _ c.in_err-op.ensures.value in
    rw (p.1, p.2, n.1) (refused-first _ c.requires.passed.1 (no-prefix-begins c.args.token c.args.context.level c.requires.begins (sym c.prefix_of.ensures ∙ n.0)))

pub prefix-returns-then-context-level-clause-read : goal.prefix-returns-then-context-level-clause-read
prefix-returns-then-context-level-clause-read t c =
    refused-first _ c.requires.passed.1 (low-prefix-begins c.args.token c.args.context.level c.in_ok-op.op c.requires.begins (sym c.prefix_of.ensures ∙ c.in_ok-op.ensures.ok_part) (omega (arith, c.prefix_level-level.ensures, c.if-context-level.true)))

pub prefix-returns-in_err-inner-clause-read : goal.prefix-returns-in_err-inner-clause-read
prefix-returns-in_err-inner-clause-read t c =
    let k = c.requires.passed in
    let g = k.1 ∙ ap (λ v. Ok (Some (a_word v k.0))) (prefix-word c.args.token c.in_ok-op.op (sym c.prefix_of.ensures ∙ c.in_ok-op.ensures.ok_part)) in
    let low = subst (λ x. c.args.context.level ≤ x) c.prefix_level-level.ensures c.if-context-level.false in
    let p = err_from_is_err_and c.from_residual-in_err-inner.result c.from_residual-in_err-inner.ensures.1 in
    rw (p.1, p.2) (into _ (prefix-leads _ c.in_ok-op.op g low c.args.context.within_limit) (nested _ (operand c.args.context.level c.in_ok-op.op) _ (moved_at c.prefix_level-level.ensures (moved-err refl k.2 c.in_err-inner.ensures.read))))

pub prefix-returns-clause-read : goal.prefix-returns-clause-read
prefix-returns-clause-read t c =
    let k = c.requires.passed in
    let g = k.1 ∙ ap (λ v. Ok (Some (a_word v k.0))) (prefix-word c.args.token c.in_ok-op.op (sym c.prefix_of.ensures ∙ c.in_ok-op.ensures.ok_part)) in
    let low = subst (λ x. c.args.context.level ≤ x) c.prefix_level-level.ensures c.if-context-level.false in
    let X = moved-level c.prefix_level-level.ensures (moved_ok refl k.2 c.in_ok-inner.ensures.read) in
    ends_at refl (sym c.prefix_level-level.ensures) (prefix-read _ c.in_ok-op.op g low c.args.context.within_limit X.0 X.1)

pub operand-returns-in_err-token-clause-read : goal.operand-returns-in_err-token-clause-read
operand-returns-in_err-token-clause-read t c =
    let p = err_from_is_err_and c.from_residual.result c.from_residual.ensures.1 in
    rw (p.1, p.2) (no-first _ c.in_err-token.ensures.took)

pub operand-returns-in-Atom-clause-read : goal.operand-returns-in-Atom-clause-read
operand-returns-in-Atom-clause-read t c =
    let k = c.in_ok-token.ensures.took in
    ends_at k.2 refl (atom-read _ (k.1 ∙ ap (λ v. Ok (Some (a_word v k.0))) c.in-Atom.is) c.args.context.low c.args.context.within_limit)

pub operand-returns-in_default-mark-clause-read : goal.operand-returns-in_default-mark-clause-read
operand-returns-in_default-mark-clause-read t c =
    let k = c.in_ok-token.ensures.took in
    refused-first _ (k.1 ∙ ap (λ v. Ok (Some (a_word v k.0))) c.in-Mark.is) (λ fs. no-mark-begins c.args.context.level c.in-Mark.mark fs c.in_default-mark.not-Open c.in_default-mark.not-If)

pub expression-returns-in_err-op-clause-read : goal.expression-returns-in_err-op-clause-read
expression-returns-in_err-op-clause-read t c =
    let i = c.loop-op.invariant in
    let f = c.in_err-op.ensures.read in
    let p = err_from_is_err_and c.from_residual-in_err-op.result c.from_residual-in_err-op.ensures.1 in
    rw (p.1, p.2) (no-word-is f.0 (no-word-after _ i.read (ap (λ x. scan x.now c.loop-op.self.place) (sym i.text) ∙ f.1)))

pub expression-returns-in_err-right-clause-read : goal.expression-returns-in_err-right-clause-read
expression-returns-in_err-right-clause-read t c =
    let i = c.loop-op.invariant in
    let op = c.in-Some.op in
    let f = subst (λ o. InfixRead c.loop-op.self.text.now c.args.context.level c.loop-op.part.level c.loop-op.self.place c.infix.new.self.place (Ok o)) c.in-Some.is c.in_ok-op.ensures.read in
    let M = moved-marked c.args.self.now.text.now _ c.loop-op.self.place c.infix.new.self.place (word.Infix op) (ap (λ x. x.now) i.text) (f.0, f.1, f.2) in
    let n = ap (λ x. x.now) (c.infix.ensures.text ∙ i.text) in
    let p = err_from_is_err_and c.from_residual-in_err-right.result c.from_residual-in_err-right.ensures.1 in
    rw (p.1, p.2) (into _ (infix-leads _ op i.read M.1 f.3 c.args.context.within_limit) (nested _ (right c.args.context.level op i.read.tree) _ (moved_at (ap (λ x. x.right) c.levels_of-levels.ensures) (moved-err n M.2 c.in_err-right.ensures.read))))

pub expression-loop-op-preserved : goal.expression-loop-op-preserved
expression-loop-op-preserved t c =
    let i = c.loop-op.invariant in
    let op = c.in-Some.op in
    let f = subst (λ o. InfixRead c.loop-op.self.text.now c.args.context.level c.loop-op.part.level c.loop-op.self.place c.infix.new.self.place (Ok o)) c.in-Some.is c.in_ok-op.ensures.read in
    let m = c.in_ok-right.ensures.moved in
    let M = moved-marked c.args.self.now.text.now _ c.loop-op.self.place c.infix.new.self.place (word.Infix op) (ap (λ x. x.now) i.text) (f.0, f.1, f.2) in
    let T = c.infix.ensures.text ∙ i.text in
    let Y = moved-level (ap (λ x. x.right) c.levels_of-levels.ensures) (moved_ok (ap (λ x. x.now) T) M.2 c.in_ok-right.ensures.read) in
    record {
      text = c.expression.ensures.text ∙ T;
      forward = omega (arith, f.4);
      inside = omega (arith, ap (λ x. length x.now) c.expression.ensures.text);
      read = ends_at refl (sym (ap (λ x. x.own) c.levels_of-levels.ensures)) (infix-read _ op i.read M.1 f.3 c.args.context.within_limit Y.0 Y.1);
    }
