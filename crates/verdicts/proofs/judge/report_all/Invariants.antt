use Rattle.std.proofs.Common.{◌≤◌, vec_items, vec_capacity}
use Rattle.verdicts.proofs.Reporting.{Lined}
use Rattle.verdicts.proofs.judge.report_all.Given as goal

abbrev pub invariant-loop-goal : goal.invariant-loop-goal
invariant-loop-goal g l =
    Lined (g.S.System.means l.case.system) (g.B.Board.shows l.case.board).marked l.goal (vec_items l.lines) × (l.count ≤ vec_capacity l.lines)
