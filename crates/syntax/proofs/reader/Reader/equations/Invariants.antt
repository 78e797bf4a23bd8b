use Rattle.std.proofs.Common.{◌≡◌, ◌-◌, ◌≤◌, length}
use Rattle.syntax.specs.Judgement.{Due}
use Rattle.syntax.proofs.reader.Reader.equations.Given as goal

abbrev pub invariant-loop : goal.invariant-loop
invariant-loop l = record {
  text : l.self.text ≡ l.initial.self.text;
  forward : l.initial.self.place ≤ l.self.place;
  due : Due l.initial.self.text.now l.self.place;
}

abbrev pub decreases-loop : goal.decreases-loop
decreases-loop l = length l.self.text.now - l.self.place
