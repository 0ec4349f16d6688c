use Rattle.std.proofs.Common.{vec_items, ◌∙◌, arith}
use Rattle.cases.specs.Shows.{model}
use Rattle.rehearsal.proofs.Serving.{fit_after, begin_few, begin_served, begin_refused}
use Rattle.rehearsal.proofs.desk.Desk.begin.Goals as goal

pub push_reserved-requires : goal.push_reserved-requires
push_reserved-requires g c =
    let me = c.args.self.now in
    let few = begin_few (g.S.System.means me.case.system) me.case.out (model g.B.Board.shows me.case) _ (vec_items me.plays) (me.counted ∙ me.plays.ok.0) c.in-Ok.ensures.shows c.args.state _ c.in-Ok.play c.in-Ok.ensures.steps in
    omega (arith, few, me.plays.ok.0, me.room)

pub invariant_of-self : goal.invariant_of-self
invariant_of-self g c =
    let me = c.args.self.now in
    let b = c.in-Ok.ensures in
    let pushed = c.push_reserved.ensures in
    let served = begin_served (g.S.System.means me.case.system) me.case.out (model g.B.Board.shows me.case) _ (vec_items me.plays) (me.counted ∙ me.plays.ok.0) b.shows c.args.state _ c.in-Ok.play _ b.steps pushed.items in
    record {
      counted = omega (arith, b.steps.1, me.counted, pushed.len);
      room = omega (arith, me.room, pushed.capacity);
      fit = λ some. fit_after g.S.System.means _ _ _ _ _ _ _ _ b.same served (λ more. me.fit (omega (arith, me.plays.ok.0))) (omega (arith, c.push_reserved.new.self.ok.0));
    }

pub returns-in-Ok-clause-served : goal.returns-in-Ok-clause-served
returns-in-Ok-clause-served g c =
    let me = c.args.self.now in
    begin_served (g.S.System.means me.case.system) me.case.out (model g.B.Board.shows me.case) _ (vec_items me.plays) (me.counted ∙ me.plays.ok.0) c.in-Ok.ensures.shows c.args.state _ c.in-Ok.play _ c.in-Ok.ensures.steps c.push_reserved.ensures.items

pub returns-in-Err-clause-served : goal.returns-in-Err-clause-served
returns-in-Err-clause-served g c =
    let me = c.args.self.now in
    begin_refused (g.S.System.means me.case.system) me.case.out (model g.B.Board.shows me.case) _ (vec_items me.plays) (me.counted ∙ me.plays.ok.0) c.in-Err.ensures.shows c.args.state _ c.in-Err.fault c.in-Err.ensures.steps
