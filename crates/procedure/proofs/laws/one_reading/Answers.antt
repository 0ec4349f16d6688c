use Rattle.procedure.proofs.Scan.{one_reading}
use Rattle.procedure.proofs.laws.one_reading.Goals as goal

pub returns : goal.returns
returns c = one_reading
