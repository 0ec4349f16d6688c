use Rattle.std.proofs.Common.{◌≤◌, ◌∙◌, arith}
use Rattle.std.proofs.lemmas.Bool.{le-ltb}
use Rattle.game.proofs.Groups.{not_member, test_member}
use Rattle.game.proofs.choice.in_group.Goals as goal

pub returns-then-agent-lt8 : goal.returns-then-agent-lt8
returns-then-agent-lt8 c = test_member _ _

pub returns-else-agent-lt8 : goal.returns-else-agent-lt8
returns-else-agent-lt8 c =
    let wide : 8 ≤ c.args.agent = omega arith in
    le-ltb c.args.agent 8 wide ∙ not_member c.args.group c.args.agent (omega arith) wide
