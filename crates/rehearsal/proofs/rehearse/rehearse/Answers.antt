use Rattle.std.proofs.Common.{[], vec_items, sym, subst, subst₂}
use Rattle.std.proofs.lemmas.Result.{IfOk-weaker}
use Rattle.law.specs.Steps.{Run}
use Rattle.law.proofs.Lawfully.{law_stands}
use Rattle.cases.specs.Shows.{world, model}
use Rattle.rehearsal.specs.Served.{Seated}
use Rattle.rehearsal.proofs.rehearse.rehearse.Goals as goal

pub returns : goal.returns
returns g c =
    let o = c.in_ok-desk.ensures in
    let cs = c.args.calls.now in
    IfOk-weaker c.run-answers.result _ _
    (λ v ran.
    let (qs, run, h) = ran [] (subst (λ ts. Seated ts []) (sym o.none) tt) in
    let w = world (model g.B.Board.shows c.run-answers.new.self.case) qs in
    let own = subst₂ (λ s m. Run (g.S.System.means s) (world m []) cs (vec_items v) w) o.system o.opened run in
    (w, own, law_stands _ (g.S.System.lawful c.args.system) (g.B.Board.shows c.args.board) (g.B.Board.sound c.args.board) cs (vec_items v) w own))
    c.run-answers.ensures.ran
