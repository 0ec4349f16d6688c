use Rattle.boards.proofs.Listed.{points_are_changes}
use Rattle.boards.proofs.points_are_changes.Goals as goal

pub returns : goal.returns
returns c = points_are_changes
