use Rattle.std.proofs.Common.{ap, ◌∙◌}
use Rattle.std.proofs.lemmas.List.{get_or_default}
use Rattle.verdicts.proofs.Entering.{entering_more, entering_refused}
use Rattle.verdicts.proofs.judge.enter_all.Goals as goal

pub returns-in-Err : goal.returns-in-Err
returns-in-Err g c = let h = c.loop-place.invariant in record {
  steps = entering_refused _ _ _ _ c.loop-place.case.out _ _ _ _ h.0 c.loop-place-test.true (get_or_default _ _ _ _ c.loop-place-test.true) h.2 _ (ap g.S.System.means h.1) c.in-Err.ensures.steps;
  same = c.enter.ensures.same ∙ h.1;
  out = c.enter.ensures.out ∙ h.2;
}

pub loop-place-preserved : goal.loop-place-preserved
loop-place-preserved g c =
    let h = c.loop-place.invariant in
    (entering_more _ _ _ _ _ c.loop-place.case.out _ _ _ h.0 c.loop-place-test.true (get_or_default _ _ _ _ c.loop-place-test.true) h.2 _ (ap g.S.System.means h.1) c.in-Ok.ensures.steps, c.enter.ensures.same ∙ h.1, c.enter.ensures.out ∙ h.2)
