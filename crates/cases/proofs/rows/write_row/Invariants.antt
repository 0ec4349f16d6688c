use Rattle.std.proofs.Common.{◌≡◌}
use Rattle.game.specs.Objectives.{set_in}
use Rattle.cases.proofs.Writing.{row_to}
use Rattle.cases.proofs.rows.write_row.Given as goal

abbrev pub invariant-loop-s : goal.invariant-loop-s
invariant-loop-s g l = g.B.Board.shows l.board ≡ row_to (g.B.Board.shows l.initial.board) l.row (set_in l.flags) l.s
