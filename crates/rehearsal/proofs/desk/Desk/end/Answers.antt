use Rattle.std.proofs.Common.{◌<◌, length, vec_items, sym, ap, ◌∙◌, arith}
use Rattle.std.specs.List.{insert}
use Rattle.cases.specs.Shows.{model}
use Rattle.rehearsal.proofs.Seating.{seated_length, seated_past}
use Rattle.rehearsal.proofs.Serving.{fit_after, end_fewer, end_kept, end_served, end_refused}
use Rattle.rehearsal.proofs.desk.Desk.end.Goals as goal

pub returns-then-i-len-clause-served : goal.returns-then-i-len-clause-served
returns-then-i-len-clause-served g c qs h =
    let plays = c.args.self.now.plays in
    (qs, c.end_nothing.ensures qs c.args.i (seated_length (vec_items plays) qs h ∙ sym plays.ok.0) (seated_past (vec_items plays) qs c.args.i h (omega (arith, c.if-i-len.true, c.len.ensures, plays.ok.0))), h)

pub invariant_of-self : goal.invariant_of-self
invariant_of-self g c =
    let me = c.args.self.now in
    let b = c.in-Ok.ensures in
    let taken = c.remove-taken in
    let less : c.args.i < length (vec_items me.plays) = omega (arith, c.if-i-len.false, c.len.ensures, me.plays.ok.0) in
    let M = g.S.System.means me.case.system in
    let m = model g.B.Board.shows me.case in
    let counted = me.counted ∙ me.plays.ok.0 in
    let fewer = end_fewer M me.case.out m _ (vec_items me.plays) counted b.shows c.args.i taken.result less taken.ensures.value _ c.in-Ok.field-0 b.steps in
    let served = end_served M me.case.out m _ (vec_items me.plays) counted b.shows c.args.i taken.result less taken.ensures.value _ c.in-Ok.field-0 _ b.steps taken.ensures.items in
    record {
      counted = omega (arith, fewer, me.counted, taken.ensures.len);
      room = omega (arith, me.room, taken.ensures.capacity);
      fit = λ some. fit_after g.S.System.means _ _ _ _ _ _ _ _ b.same served (λ more. me.fit (omega (arith, me.plays.ok.0))) (omega (arith, taken.new.self.ok.0));
    }

pub invariant_of-self-in-Err : goal.invariant_of-self-in-Err
invariant_of-self-in-Err g c =
    let me = c.args.self.now in
    let b = c.in-Err.ensures in
    let taken = c.remove-taken in
    let x = c.in-Err.field-0 in
    let less : c.args.i < length (vec_items me.plays) = omega (arith, c.if-i-len.false, c.len.ensures, me.plays.ok.0) in
    let M = g.S.System.means me.case.system in
    let m = model g.B.Board.shows me.case in
    let counted = me.counted ∙ me.plays.ok.0 in
    let kept = end_kept M me.case.out m _ (vec_items me.plays) counted b.shows c.args.i taken.result less taken.ensures.value _ x b.steps in
    let served = end_refused M me.case.out m _ (vec_items me.plays) counted b.shows c.args.i taken.result less taken.ensures.value _ x _ b.steps (c.put_in.ensures.items ∙ ap (λ l. insert l c.args.i x.play) taken.ensures.items) in
    record {
      counted = omega (arith, kept, me.counted, c.put_in.ensures.len, taken.ensures.len);
      room = omega (arith, me.room, c.put_in.ensures.capacity, taken.ensures.capacity);
      fit = λ some. fit_after g.S.System.means _ _ _ _ _ _ _ _ b.same served (λ more. me.fit (omega (arith, me.plays.ok.0))) (omega (arith, c.put_in.new.plays.ok.0));
    }

pub returns-in-Ok-clause-served : goal.returns-in-Ok-clause-served
returns-in-Ok-clause-served g c =
    let me = c.args.self.now in
    let taken = c.remove-taken in
    let less : c.args.i < length (vec_items me.plays) = omega (arith, c.if-i-len.false, c.len.ensures, me.plays.ok.0) in
    end_served (g.S.System.means me.case.system) me.case.out (model g.B.Board.shows me.case) _ (vec_items me.plays) (me.counted ∙ me.plays.ok.0) c.in-Ok.ensures.shows c.args.i taken.result less taken.ensures.value _ c.in-Ok.field-0 _ c.in-Ok.ensures.steps taken.ensures.items

pub returns-in-Err-clause-served : goal.returns-in-Err-clause-served
returns-in-Err-clause-served g c =
    let me = c.args.self.now in
    let taken = c.remove-taken in
    let x = c.in-Err.field-0 in
    let less : c.args.i < length (vec_items me.plays) = omega (arith, c.if-i-len.false, c.len.ensures, me.plays.ok.0) in
    end_refused (g.S.System.means me.case.system) me.case.out (model g.B.Board.shows me.case) _ (vec_items me.plays) (me.counted ∙ me.plays.ok.0) c.in-Err.ensures.shows c.args.i taken.result less taken.ensures.value _ x _ c.in-Err.ensures.steps
    (c.put_in.ensures.items ∙ ap (λ l. insert l c.args.i x.play) taken.ensures.items)
