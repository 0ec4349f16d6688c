use Rattle.cases.proofs.Choosing.{choice_test}
use Rattle.cases.proofs.reply.is_choice.Goals as goal

pub returns : goal.returns
returns g c = choice_test _ _ _ _ _ c.side.ensures
