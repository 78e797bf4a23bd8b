use Rattle.std.proofs.Common.{◌≡◌, ◌+◌, ◌-◌, ◌*◌, ◌<◌, ◌≤◌, length}
use Rattle.syntax.specs.Reading.{Expression}
use Rattle.syntax.proofs.reader.Reader.+expression.Given as goal

abbrev pub decreases-operand : goal.decreases-operand
decreases-operand l = 3 * (length l.self.now.text.now - l.self.now.place)

abbrev pub decreases-expression : goal.decreases-expression
decreases-expression l = 3 * (length l.self.now.text.now - l.self.now.place) + 1

abbrev pub decreases-bracket : goal.decreases-bracket
decreases-bracket l = 3 * (length l.self.now.text.now - l.self.now.place) + 2

abbrev pub decreases-choice : goal.decreases-choice
decreases-choice l = 3 * (length l.self.now.text.now - l.self.now.place) + 2

abbrev pub decreases-prefix : goal.decreases-prefix
decreases-prefix l = 3 * (length l.self.now.text.now - l.self.now.place) + 2

-- An expression was read from the place where the call began up to the place that the loop has come to.
abbrev pub invariant-expression-loop-op : goal.invariant-expression-loop-op
invariant-expression-loop-op l = record {
  text : l.self.text ≡ l.fn.self.text;
  forward : l.fn.self.place < l.self.place;
  inside : l.self.place ≤ length l.self.text.now;
  read : Expression l.fn.self.text.now l.context.level l.fn.self.place l.context.depth l.self.place l.part.level;
}

abbrev pub decreases-expression-loop-op : goal.decreases-expression-loop-op
decreases-expression-loop-op l = length l.self.text.now - l.self.place
