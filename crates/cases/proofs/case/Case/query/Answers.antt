use Rattle.law.proofs.Lawfully.{law_stands}
use Rattle.cases.proofs.case.Case.query.Goals as goal

pub returns : goal.returns
returns g c = record {
  steps = c.ask.ensures;
  truth = λ b sound cs rs qs run long. (law_stands _ (g.S.System.lawful c.args.self.now.system) b sound cs rs _ run).speaks _ _ _ (c.ask.ensures qs long);
}
