use Rattle.std.proofs.Common.{◌≡◌, ◌<◌, true, false, not, get_or, Some, vec_items, sym, refl, ap, ◌∙◌, subst, subst₂, arith}
use Rattle.std.proofs.lemmas.Bool.{lt-leb}
use Rattle.game.specs.Meaning.{member, GroupChoice}
use Rattle.game.specs.Goals.{goal_in, group_of}
use Rattle.game.proofs.Spelling.{aims_group}
use Rattle.arenas.specs.Notes.{blank}
use Rattle.arenas.specs.declared.entry.Entry.{Entry}
use Rattle.plans.specs.Drawing.{granted_in}
use Rattle.law.specs.Worlds.{planned_goal, aim, IsPlan, IsReply}
use Rattle.law.specs.Refusals.{no_sheet, granted_on, fits_side, refusals}
use Rattle.law.specs.declared.call.Call.TheVariants.{Reply}
use Rattle.law.specs.declared.call.Answer.TheVariants.{Entry as Advised}
use Rattle.law.proofs.Sides.{sides_are_parts}
use Rattle.cases.specs.Shows.{model, plan_of, world}
use Rattle.cases.specs.Planning.{RepliesAs}
use Rattle.cases.proofs.Stepping.{step_does, first_none}
use Rattle.cases.proofs.Sheets.{shown}
use Rattle.cases.proofs.case.Case.reply.Goals as goal

pub returns : goal.returns
returns g c qs e =
    let me = c.args.self.now in
    let M = g.S.System.means me.system in
    let m = model g.B.Board.shows me in
    let R = m.rows.marked in
    let s = c.args.state in
    let a = c.args.choice in
    let sheet = c.in-Some.sheet in
    let es = vec_items sheet.entries in
    let p = shown sheet.goal es in
    let plan : m.plan ≡ Some p = ap plan_of c.in-Some.is in
    let slice = c.as_slice-entries.ensures.value in
    let entry : c.entry_at-entry.result ≡ get_or es s blank = c.entry_at-entry.ensures ∙ ap (λ l. get_or l s blank) slice in
    let hs : s < M.states = omega (arith, c.if-state-states.false, c.states.ensures) in
    let out : granted_in es s ≡ false = ap (λ (x : Entry). x.granted) (sym entry) ∙ c.if-entry.false in
    let φ = goal_in (vec_items me.goals) sheet.goal in
    let aimed : aim m ≡ φ = ap (planned_goal m) plan in
    let goal : c.goal_at-goal.result ≡ φ = c.goal_at-goal.ensures ∙ ap (λ l. goal_in l sheet.goal) c.deref.ensures.value in
    let group : c.group_of.result ≡ group_of φ = c.group_of.ensures ∙ ap group_of goal in
    let fits : fits_side M (member (group_of φ)) s a ≡ true = ap (λ x. fits_side M (member x) s a) (sym group) ∙ sym c.is_choice.ensures ∙ c.if-not-is_choice.false in
    let replies = subst₂ (λ ψ l. RepliesAs M R ψ l s a c.lowest.result) goal slice c.lowest.ensures in
    let owed : IsPlan M m p → IsReply M m p s a c.lowest.result = λ h.
    let ga : GroupChoice M h.group s a = subst (λ x. GroupChoice M x s a) (aims_group R φ h.group h.objective h.aims) ((sides_are_parts M (member (group_of φ)) s a).0 fits) in
    record { group = h.group; objective = h.objective; aims = h.aims; sheet = (h.sheet.0, h.sheet.1, replies h.group h.objective h.aims h.sheet.0 h.sheet.1 hs out ga) } in
    step_does _ _ _ _ _
    (first_none (refusals M (world m qs) (Reply s a)) (
      sym c.is_unfit.ensures ∙ c.if-is_unfit.false,
      (
        ap no_sheet plan,
        (
          lt-leb M.states s hs,
          (
            ap (λ o. granted_on o s) plan ∙ out,
            (ap not (ap (λ ψ. fits_side M (member (group_of ψ)) s a) aimed ∙ fits), tt),
          ),
        ),
      ),
    ))
    (p, plan, (c.lowest.result, owed, ap (λ (x : Entry). Advised x.rank c.lowest.result) entry), refl)
