use Rattle.game.proofs.Digits.{choices_are_sums}
use Rattle.game.proofs.choices_are_sums.Goals as goal

pub returns : goal.returns
returns c = choices_are_sums
