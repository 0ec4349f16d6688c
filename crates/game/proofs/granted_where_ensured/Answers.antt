use Rattle.game.proofs.Strategy.{granted_where_ensured}
use Rattle.game.proofs.granted_where_ensured.Goals as goal

pub returns : goal.returns
returns c = granted_where_ensured
