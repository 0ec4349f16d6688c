use Rattle.std.proofs.Common.{List, [], ◌∷◌, ◌++◌, vec_items, refl, ap, ◌∙◌}
use Rattle.std.proofs.lemmas.Result.{err_from_is_err_and}
use Rattle.game.specs.declared.goal.Goal.{Goal}
use Rattle.law.specs.Worlds.{World}
use Rattle.law.specs.declared.call.Answer.TheVariants.{Number}
use Rattle.cases.specs.Shows.{plan_of, world}
use Rattle.cases.proofs.Stepping.{step_refused, step_does}
use Rattle.cases.proofs.case.Case.enter.Goals as goal

pub returns-in_err-goal : goal.returns-in_err-goal
returns-in_err-goal g c = let p = err_from_is_err_and c.from_residual.result c.from_residual.ensures.1 in rw (p.1, p.2) (record {
  steps = λ qs e. let h = c.in_err-goal.ensures qs in step_refused _ _ _ _ h.0 h.1;
  same = refl;
  out = refl;
})

pub returns : goal.returns
returns g c =
    let h = c.in_ok-goal.ensures in
    let me = c.args.self.now in
    record {
      steps = λ qs e.
          let shown : List Goal → World = λ gs. world (record { goals = gs; settled = me.settled; plan = plan_of me.sheet; rows = g.B.Board.shows me.board }) qs in
          step_does _ _ _ _ _ (h.2 qs) (ap Number (c.len-number.ensures ∙ me.goals.ok.0), ap shown (c.push_reserved.ensures.items ∙ ap (λ φ. vec_items me.goals ++ φ ∷ []) h.0));
      same = refl;
      out = refl;
    }
