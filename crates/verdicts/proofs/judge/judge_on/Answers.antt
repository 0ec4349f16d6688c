use Rattle.std.proofs.Common.{ap, ◌∙◌}
use Rattle.verdicts.proofs.Lines.{lead, judges}
use Rattle.verdicts.proofs.judge.judge_on.Goals as goal

pub returns : goal.returns
returns g c =
    let me = c.args.case.now in
    let (entered, holds) = c.in_ok-enter_all.ensures.steps in
    let (leads, settled) = c.in_ok-settle_all.ensures.steps in
    let same = ap g.S.System.means c.enter_all.ensures.same in
    let same' = ap g.S.System.means c.settle_all.ensures.same ∙ same in
    judges _ _ _ (g.S.System.lawful me.system) (g.B.Board.sound me.board) _ same' _ entered (lead _ _ _ _ same _ holds _ leads) settled c.report_all.result c.report_all.ensures
