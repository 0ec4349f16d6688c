use Rattle.game.proofs.Goaled.{sets_decide_formulas}
use Rattle.game.proofs.sets_decide_formulas.Goals as goal

pub returns : goal.returns
returns c = sets_decide_formulas
