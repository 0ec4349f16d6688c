use Rattle.systems.specs.lemmas.GameLawful.{empty_is}
use Rattle.systems.proofs.listed_system.empty_game.Goals as goal

pub returns : goal.returns
returns c = empty_is c.empty_lists.result c.empty_lists.ensures
