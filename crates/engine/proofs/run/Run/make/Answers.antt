use Rattle.std.proofs.Common.{rules}
use Rattle.engine.proofs.Records.{lawful-by}
use Rattle.engine.proofs.run.Run.make.Goals as goal

pub returns-in_err-tick-in-Step-clause-law : goal.returns-in_err-tick-in-Step-clause-law
returns-in_err-tick-in-Step-clause-law g c =
    let says = (g.S.Source.meaning c.args.source.now).says in
    lawful-by g.V.Kind.meaning says c.args.self.now c.step.new.self c.in-Step.is (search rules) c.in_err-tick-in-Step.ensures.law

pub returns-in_err-look-in-Look-clause-law : goal.returns-in_err-look-in-Look-clause-law
returns-in_err-look-in-Look-clause-law g c =
    let says = (g.S.Source.meaning c.args.source.now).says in
    lawful-by g.V.Kind.meaning says c.args.self.now c.look.new.self c.in-Look.is (search rules) (c.in_err-look-in-Look.ensures.law says)
