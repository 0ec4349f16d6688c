use Rattle.game.proofs.Goaled.{formulas_are_spelled}
use Rattle.game.proofs.formulas_are_spelled.Goals as goal

pub returns : goal.returns
returns c = formulas_are_spelled
