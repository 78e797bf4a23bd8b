use Rattle.std.proofs.Common.{◌≡◌, suc}
use Rattle.source.specs.Holds.{latest}
use Rattle.source.proofs.hold.HoldSource.read.Given as goal

-- What is sought is said at the latest of the ticks that are left.
abbrev pub invariant-loop-back : goal.invariant-loop-back
invariant-loop-back g l =
    let said = (g.S.Source.meaning l.self.source).says l.channel in
    latest said (suc l.tick) ≡ latest said (suc l.back)
