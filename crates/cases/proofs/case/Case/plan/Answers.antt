use Rattle.std.proofs.Common.{vec_items, refl, subst}
use Rattle.cases.specs.Shows.{model}
use Rattle.goals.specs.Planned.{DrawnFor, Planned}
use Rattle.cases.proofs.Stepping.{step_does}
use Rattle.cases.proofs.Sheets.{shown, is_plan}
use Rattle.cases.proofs.case.Case.plan.Goals as goal

pub returns : goal.returns
returns g c =
    let h = c.in_ok-wanted.ensures in
    let me = c.args.self.now in
    let es = vec_items c.in-Some.entries in
    let drawn = subst (λ φ. DrawnFor (g.S.System.means me.system) (g.B.Board.shows me.board).marked φ es) h.0 (subst (Planned (g.S.System.means me.system) (g.B.Board.shows me.board).marked c.in_ok-wanted.wanted) c.in-Some.is c.in_ok-entries.ensures) in
    record {
      steps = λ qs e. step_does _ _ _ _ _ (h.3 qs e) (shown c.args.goal es, refl, is_plan _ (g.S.System.lawful me.system) (model g.B.Board.shows me) c.args.goal es h.1 drawn, refl, refl);
      same = refl;
      out = refl;
    }
