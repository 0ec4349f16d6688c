use Rattle.game.proofs.Goaled.{goals_have_sets}
use Rattle.game.proofs.goals_have_sets.Goals as goal

pub returns : goal.returns
returns c = goals_have_sets
