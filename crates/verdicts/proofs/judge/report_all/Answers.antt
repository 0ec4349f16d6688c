use Rattle.std.proofs.Common.{arith}
use Rattle.verdicts.proofs.Reporting.{has_line, lined_more}
use Rattle.verdicts.proofs.judge.report_all.Goals as goal

pub loop-goal-preserved : goal.loop-goal-preserved
loop-goal-preserved g c =
    let h = c.loop-goal.invariant in
    (lined_more _ _ _ _ _ c.in_ok-line.line h.0 c.in_ok-line.ensures.1 c.push_reserved.ensures.items, omega (arith, h.1, c.push_reserved.ensures.capacity))

pub returns-in_err-line : goal.returns-in_err-line
returns-in_err-line g c =
    let me = c.args.case.now in
    absurd (has_line _ (g.S.System.lawful me.system) _ _ c.loop-goal.goal _ (c.requires.fit (omega (arith, c.loop-goal-test.true)))
    (omega (arith, c.requires.many, c.loop-goal-test.true)) (omega (arith, c.requires.settled, c.loop-goal-test.true)) c.in_err-line.ensures)
