use Rattle.boards.proofs.Shifts.{in_is}
use Rattle.boards.proofs.line.put_in.Goals as goal

pub returns : goal.returns
returns c = in_is c.args.row.now _ c.args.i c.args.point c.requires c.rotate_right.ensures.after
