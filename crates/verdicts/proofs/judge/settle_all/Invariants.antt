use Rattle.std.proofs.Common.{◌≡◌}
use Rattle.cases.specs.Shows.{model}
use Rattle.verdicts.proofs.Settling.{Settling}
use Rattle.verdicts.proofs.judge.settle_all.Given as goal

abbrev pub invariant-loop-k : goal.invariant-loop-k
invariant-loop-k g l =
    Settling (g.S.System.means l.initial.case.system) (model g.B.Board.shows l.initial.case) l.k (model g.B.Board.shows l.case) ×
    (l.case.system ≡ l.initial.case.system) × (l.case.out ≡ 0)
