use Rattle.turns.specs.Loops.{laid}
use Rattle.turns.proofs.Agree.{agrees}
use Rattle.turns.proofs.looping.Loop.reading.Goals as goal

pub returns : goal.returns
returns g c =
    let lap = c.args.self.now in
    λ H σ fits ready.
    agrees (laid lap) g.V.Kind.meaning (g.S.Source.meaning c.args.source.now).says H σ fits lap.cells.now c.args.r c.args.t c.requires.row
    c.left-a.result c.right-b.result c.third-c.result c.row-row.result c.row-row.ensures c.decide.result c.decide.ensures
    c.left-a.ensures c.right-b.ensures c.third-c.ensures ready
