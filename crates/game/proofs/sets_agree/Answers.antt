use Rattle.game.proofs.Strategy.{sets_agree}
use Rattle.game.proofs.sets_agree.Goals as goal

pub returns : goal.returns
returns c = sets_agree
