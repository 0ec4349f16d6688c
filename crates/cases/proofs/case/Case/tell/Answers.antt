use Rattle.std.proofs.Common.{◌≡◌, ◌<◌, true, false, not, is_some, Some, None, Option, sym, refl, ap, ◌∙◌, arith}
use Rattle.game.specs.Meaning.{member}
use Rattle.law.specs.Refusals.{no_sheet, fits_side}
use Rattle.cases.specs.declared.sheet.Sheet.{Sheet}
use Rattle.cases.specs.Shows.{plan_of, model}
use Rattle.cases.proofs.Telling.{tell_refused, tell_does}
use Rattle.cases.proofs.case.Case.tell.Goals as goal

sheeted : (o : Option Sheet) → is_some o ≡ true → no_sheet (plan_of o) ≡ false
sheeted None e = sym e
sheeted (Some x) e = refl

pub returns-then-not-is_reply : goal.returns-then-not-is_reply
returns-then-not-is_reply g c qs i start told at =
    let me = c.args.self.now in
    let M = g.S.System.means me.system in
    let t = c.args.play in
    let known : t.state < M.states = omega (arith, c.if-play-states.false, c.states.ensures) in (
      tell_refused M (model g.B.Board.shows me) qs i c.args.reply start told t at (sym c.is_unfit.ensures ∙ c.if-is_unfit.false) (sheeted me.sheet (c.is_none.ensures ∙ ap not c.if-is_none.false)) known
          (ap (λ x. fits_side M (λ k. not (member x k)) t.state c.args.reply) (sym c.group.ensures) ∙ sym c.is_reply.ensures ∙ c.if-not-is_reply.true) _ c.from-then-not-is_reply.ensures,
      refl,
      refl,
      refl,
    )

pub returns : goal.returns
returns g c qs i start told at =
    let me = c.args.self.now in
    let M = g.S.System.means me.system in
    let t = c.args.play in
    let known : t.state < M.states = omega (arith, c.if-play-states.false, c.states.ensures) in
    tell_does M (model g.B.Board.shows me) qs i c.args.reply start told t at (sym c.is_unfit.ensures ∙ c.if-is_unfit.false) (sheeted me.sheet (c.is_none.ensures ∙ ap not c.if-is_none.false)) known
    (ap (λ x. fits_side M (λ k. not (member x k)) t.state c.args.reply) (sym c.group.ensures) ∙ sym c.is_reply.ensures ∙ c.if-not-is_reply.false) c.land.result c.land.ensures
