use Rattle.std.proofs.Common.{◌<◌, length, vec_items, ap, ◌∙◌, arith}
use Rattle.std.specs.List.{insert}
use Rattle.rehearsal.specs.Turning.{call_of}
use Rattle.rehearsal.proofs.Turning.{turn_none}
use Rattle.rehearsal.proofs.Seating.{seated_past, turn_served}
use Rattle.rehearsal.proofs.desk.Desk.turn.Goals as goal

pub returns-then-i-len-clause-served : goal.returns-then-i-len-clause-served
returns-then-i-len-clause-served g c qs h =
    let plays = c.args.self.now.plays in
    (qs, turn_none _ _ qs c.args.i c.args.turn (seated_past (vec_items plays) qs c.args.i h (omega (arith, c.if-i-len.true, c.len.ensures, plays.ok.0))), h)

pub returns-clause-served : goal.returns-clause-served
returns-clause-served g c =
    let plays = c.args.self.now.plays in
    let less : c.args.i < length (vec_items plays) = omega (arith, c.if-i-len.false, c.len.ensures, plays.ok.0) in
    turn_served _ _ (vec_items plays) _ c.args.i c.remove-taken.result _ (call_of c.args.turn) _ less c.remove-taken.ensures.value c.turn_play-answer.ensures
    (c.put_in.ensures.items ∙ ap (λ l. insert l c.args.i c.turn_play-answer.result.play) c.remove-taken.ensures.items)
