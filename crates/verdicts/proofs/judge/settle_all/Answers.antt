use Rattle.std.proofs.Common.{[], sym, refl, ap, ◌∙◌, subst, arith}
use Rattle.std.proofs.lemmas.Result.{err_from_is_err_and}
use Rattle.game.specs.Meaning.{Meaning}
use Rattle.law.specs.Steps.{Step}
use Rattle.law.specs.declared.call.Call.TheVariants.{Settle}
use Rattle.law.specs.declared.call.Answer.TheVariants.{Done}
use Rattle.cases.specs.Shows.{world, model}
use Rattle.verdicts.proofs.Settling.{settling_none, settling_more, stops}
use Rattle.verdicts.proofs.judge.settle_all.Goals as goal

pub loop-k-init : goal.loop-k-init
loop-k-init g c = (settling_none _ _ c.requires.none, refl, c.requires.idle)

pub loop-k-preserved : goal.loop-k-preserved
loop-k-preserved g c =
    let h = c.loop-k.invariant in
    let before = world (model g.B.Board.shows c.loop-k.case) [] in
    let after = world (model g.B.Board.shows c.settle.new.self) [] in (
      settling_more _ _ _ _ _ h.0 (subst (λ (M : Meaning). Step M before Settle Done after) (ap g.S.System.means h.1) (c.in_ok-settle.ensures.steps [] (sym h.2))),
      c.settle.ensures.same ∙ h.1,
      c.settle.ensures.out ∙ h.2,
    )

pub returns-in_err-settle : goal.returns-in_err-settle
returns-in_err-settle g c =
    let h = c.loop-k.invariant in
    let p = err_from_is_err_and c.from_residual.result c.from_residual.ensures.1 in
    rw p.1 (record {
      steps = p.2 ∙ stops _ _ c.loop-k.k c.loop-k.case.out _ _ h.0 (omega (arith, c.requires.many, c.loop-k-test.true)) (c.requires.fit (omega (arith, c.loop-k-test.true))) h.2 _ (ap g.S.System.means h.1) _ c.in_err-settle.ensures.steps;
      same = c.settle.ensures.same ∙ h.1;
    })
