use Rattle.std.proofs.Common.{[], vec_items, sym, refl, ◌∙◌, subst}
use Rattle.cases.specs.Shows.{model, world}
use Rattle.rehearsal.specs.Served.{Ran, Seated}
use Rattle.rehearsal.proofs.Running.{ran_none, ran_more, ran_all}
use Rattle.rehearsal.proofs.desk.Desk.run.Goals as goal

pub loop-call-init : goal.loop-call-init
loop-call-init g c =
    let me = c.args.self.now in
    let M = g.S.System.means me.case.system in
    let m = model g.B.Board.shows me.case in
    let ts = vec_items me.plays in
    record { same = refl; ran = subst (λ l. Ran M m ts [] l m ts) (sym c.new-answers.ensures.items) (ran_none M m ts) }

pub loop-call-preserved : goal.loop-call-preserved
loop-call-preserved g c =
    let s = c.in_ok-serve.ensures in
    let inv = c.loop-call.invariant in
    record {
      same = s.same ∙ inv.same;
      ran = ran_more g.S.System.means _ _ _ _ _ _ _ _ c.args.calls.now c.loop-call.call-index _ _ _ _ inv.same c.loop-call-test.true inv.ran s.served c.in_ok-push.ensures.items;
    }

pub returns-clause-rehearsed : goal.returns-clause-rehearsed
returns-clause-rehearsed g c none =
    let me = c.args.self.now in
    let it = c.loop-call.self in
    let ran = ran_all (g.S.System.means me.case.system) (model g.B.Board.shows me.case) (model g.B.Board.shows it.case) (vec_items me.plays) (vec_items it.plays) c.args.calls.now c.loop-call.call-index (vec_items c.loop-call.answers) c.loop-call-test.false c.loop-call.invariant.ran in
    let (qs, run, h) = ran [] (subst (λ ts. Seated ts []) (sym none) tt) in (world (model g.B.Board.shows it.case) qs, run)
