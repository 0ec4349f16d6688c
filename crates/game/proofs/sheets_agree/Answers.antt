use Rattle.game.proofs.Strategy.{sheets_agree}
use Rattle.game.proofs.sheets_agree.Goals as goal

pub returns : goal.returns
returns c = sheets_agree
