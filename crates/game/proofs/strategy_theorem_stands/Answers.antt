use Rattle.game.proofs.Strategy.{strategy_theorem}
use Rattle.game.proofs.strategy_theorem_stands.Goals as goal

pub returns : goal.returns
returns c = strategy_theorem
