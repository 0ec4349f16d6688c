use Rattle.std.proofs.Common.{◌≡◌, take, vec_items}
use Rattle.cases.specs.Shows.{model, system_of}
use Rattle.rehearsal.specs.Served.{Ran}
use Rattle.rehearsal.proofs.desk.Desk.run.Given as goal

abbrev pub invariant-loop-call : goal.invariant-loop-call
invariant-loop-call g l = record {
  same : system_of l.self.case ≡ system_of l.initial.self.case;
  ran : Ran (g.S.System.means (system_of l.initial.self.case)) (model g.B.Board.shows l.initial.self.case) (vec_items l.initial.self.plays) (take l.call-index l.calls) (vec_items l.answers) (model g.B.Board.shows l.self.case) (vec_items l.self.plays);
}
