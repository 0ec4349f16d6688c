use Rattle.procedure.proofs.Verdict.{one_verdict}
use Rattle.procedure.proofs.laws.one_verdict.Goals as goal

pub returns : goal.returns
returns c = one_verdict
