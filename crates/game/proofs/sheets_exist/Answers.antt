use Rattle.game.proofs.Strategy.{sheets_exist}
use Rattle.game.proofs.sheets_exist.Goals as goal

pub returns : goal.returns
returns c = sheets_exist
