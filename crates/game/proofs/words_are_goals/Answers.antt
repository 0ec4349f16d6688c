use Rattle.game.proofs.Worded.{words_are_goals}
use Rattle.game.proofs.words_are_goals.Goals as goal

pub returns : goal.returns
returns c = words_are_goals
