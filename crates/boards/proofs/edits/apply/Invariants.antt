use Rattle.std.proofs.Common.{◌≡◌, drop}
use Rattle.boards.specs.Calls.{after}
use Rattle.boards.proofs.edits.apply.Given as goal

abbrev pub invariant-loop-change : goal.invariant-loop-change
invariant-loop-change g l = after (g.B.Board.shows l.board) (drop l.change-index l.changes) ≡ after (g.B.Board.shows l.initial.board) l.changes
