use Rattle.game.proofs.Strategy.{plays_exist}
use Rattle.game.proofs.plays_exist.Goals as goal

pub returns : goal.returns
returns c = plays_exist
