use Rattle.std.proofs.Common.{◌≡◌}
use Rattle.cases.specs.Shows.{model}
use Rattle.verdicts.proofs.Entering.{Entering}
use Rattle.verdicts.proofs.judge.enter_all.Given as goal

abbrev pub invariant-loop-place : goal.invariant-loop-place
invariant-loop-place g l =
    Entering (g.S.System.means l.initial.case.system) (g.B.Board.shows l.initial.case.board) l.words l.place (model g.B.Board.shows l.case) ×
    (l.case.system ≡ l.initial.case.system) × (l.case.out ≡ 0)
