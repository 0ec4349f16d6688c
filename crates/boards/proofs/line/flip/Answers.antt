use Rattle.std.proofs.Common.{◌<◌, length, Ok, Err, arith}
use Rattle.std.proofs.lemmas.List.Sorted.{searched}
use Rattle.boards.proofs.Points.{rises, room, not_last, raised_rises, raised_turns, lowered_rises, lowered_turns}
use Rattle.boards.proofs.line.flip.Goals as goal

pub bounds-row-i : goal.bounds-row-i
bounds-row-i c =
    let h = searched c.args.row.now c.args.state (Ok c.in-Ok.i) c.in-Ok.ensures.position (rises c.requires.rise) in
    not_last c.requires.rise c.in-Ok.i c.args.state h.0 h.1 c.requires.known

pub bounds-row-above : goal.bounds-row-above
bounds-row-above c =
    let h = searched c.args.row.now c.args.state (Err c.in-Err.above) c.in-Err.ensures.position (rises c.requires.rise) in
    omega (arith, room c.requires.rise c.in-Err.above c.args.state (omega (arith, c.requires.known)) h.1, c.requires.rise.long)

pub returns-in-Ok : goal.returns-in-Ok
returns-in-Ok c =
    let xs = c.args.row.now in
    let i = c.in-Ok.i in
    let s = c.args.state in
    let h = searched xs s (Ok i) c.in-Ok.ensures.position (rises c.requires.rise) in
    record {
      rise = raised_rises c.requires.rise i s (not_last c.requires.rise i s h.0 h.1 c.requires.known) h.1 c.requires.known c.if-row-i.true;
      turned = λ t _. raised_turns xs i s h.0 h.1 t;
    }

pub returns-in-Err : goal.returns-in-Err
returns-in-Err c =
    let xs = c.args.row.now in
    let i = c.in-Err.above in
    let s = c.args.state in
    let h = searched xs s (Err i) c.in-Err.ensures.position (rises c.requires.rise) in
    let lt : i < length xs = omega (arith, room c.requires.rise i s (omega (arith, c.requires.known)) h.1, c.requires.rise.long) in
    record {
      rise = lowered_rises c.requires.rise i s lt c.if-row-above.true c.requires.known h.1;
      turned = λ t _. lowered_turns xs i s lt c.if-row-above.true t;
    }
