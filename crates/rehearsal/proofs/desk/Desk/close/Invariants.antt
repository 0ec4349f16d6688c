use Rattle.std.proofs.Common.{vec_len}
use Rattle.rehearsal.proofs.desk.Desk.close.Given as goal

abbrev pub decreases-loop : goal.decreases-loop
decreases-loop g l = vec_len l.self.plays
