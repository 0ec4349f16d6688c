use Rattle.cases.proofs.Choosing.{reply_test}
use Rattle.cases.proofs.reply.is_reply.Goals as goal

pub returns : goal.returns
returns g c = reply_test _ _ _ _ _ c.side.ensures
