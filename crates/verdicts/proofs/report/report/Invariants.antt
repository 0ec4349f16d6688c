use Rattle.cases.specs.Shows.{model}
use Rattle.verdicts.proofs.Counting.{Asked}
use Rattle.verdicts.proofs.report.report.Given as goal

abbrev pub invariant-loop-state : goal.invariant-loop-state
invariant-loop-state g l = Asked (g.S.System.means l.case.system) l.case.out (model g.B.Board.shows l.case) l.goal l.state l.granted l.all
