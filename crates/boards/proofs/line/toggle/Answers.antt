use Rattle.std.proofs.Common.{Ok, Err, sym, ap, ◌∙◌, subst, arith}
use Rattle.std.proofs.lemmas.List.Sorted.{searched}
use Rattle.boards.specs.Points.{Rise, member}
use Rattle.boards.proofs.Points.{rises, room, out_rises, in_rises, out_turns, in_turns}
use Rattle.boards.proofs.line.toggle.Goals as goal

pub put_in-requires : goal.put_in-requires
put_in-requires c =
    let h = searched c.args.row.now c.args.point (Err c.in-Err.i) c.in-Err.ensures.position (rises c.requires.rise) in
    omega (arith, room c.requires.rise c.in-Err.i c.args.point c.requires.known h.1, c.requires.rise.long)

pub returns-in-Ok : goal.returns-in-Ok
returns-in-Ok c =
    let xs = c.args.row.now in
    let i = c.in-Ok.i in
    let h = searched xs c.args.point (Ok i) c.in-Ok.ensures.position (rises c.requires.rise) in
    record {
      rise = subst (Rise c.args.n) (sym c.take_out.ensures) (out_rises c.requires.rise i h.0);
      turned = λ t l. ap (λ ys. member ys t) c.take_out.ensures ∙ out_turns c.args.n xs i c.args.point h.0 h.1 t l;
    }

pub returns-in-Err : goal.returns-in-Err
returns-in-Err c =
    let xs = c.args.row.now in
    let i = c.in-Err.i in
    let h = searched xs c.args.point (Err i) c.in-Err.ensures.position (rises c.requires.rise) in
    let le = room c.requires.rise i c.args.point c.requires.known h.1 in
    record {
      rise = subst (Rise c.args.n) (sym c.put_in.ensures) (in_rises c.requires.rise i c.args.point le c.requires.known h.1 h.2);
      turned = λ t l. ap (λ ys. member ys t) c.put_in.ensures ∙ in_turns c.requires.rise i c.args.point le t l;
    }
