use Rattle.std.proofs.lemmas.List.Sorted.{searched}
use Rattle.std.proofs.Common.{Ok, Err}
use Rattle.boards.proofs.Points.{rises, found_at, parted_at}
use Rattle.boards.proofs.line.holds.Goals as goal

pub returns-in-Ok : goal.returns-in-Ok
returns-in-Ok c =
    let h = searched c.args.row.now c.args.state (Ok c.in-Ok.i) c.in-Ok.ensures.position (rises c.requires.rise) in
    found_at c.requires.rise c.in-Ok.i c.args.state h.0 h.1 c.requires.known

pub returns-in-Err : goal.returns-in-Err
returns-in-Err c =
    let h = searched c.args.row.now c.args.state (Err c.in-Err.i) c.in-Err.ensures.position (rises c.requires.rise) in
    parted_at c.args.row.now c.in-Err.i c.args.state h.0 h.1 h.2
