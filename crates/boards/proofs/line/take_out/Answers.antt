use Rattle.boards.proofs.Shifts.{out_is}
use Rattle.boards.proofs.line.take_out.Goals as goal

pub returns : goal.returns
returns c = out_is c.args.row.now _ c.args.i c.args.last c.requires c.rotate_left.ensures.after
