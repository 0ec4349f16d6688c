use Rattle.game.proofs.VanCase.{van_case}
use Rattle.game.proofs.van_case_stands.Goals as goal

pub returns : goal.returns
returns c = van_case
