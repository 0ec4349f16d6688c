use Rattle.std.proofs.Common.{◌-◌, sym, ap, ◌∙◌, subst}
use Rattle.arenas.specs.declared.entry.Entry.{Entry}
use Rattle.plans.specs.Drawing.{losing}
use Rattle.plans.specs.Replying.{LowestInto}
use Rattle.cases.specs.Planning.{RepliesAs}
use Rattle.cases.proofs.Replying.{next_answer, always_answer, until_answer, no_aims}
use Rattle.cases.proofs.reply.lowest.Goals as goal

pub returns-in-Next : goal.returns-in-Next
returns-in-Next g c =
    subst (RepliesAs (g.S.System.means c.args.system.now) (g.B.Board.shows c.args.board.now).marked c.args.goal c.args.entries.now c.args.state c.args.choice) (sym c.unwrap_or.ensures)
    (next_answer _ (g.S.System.lawful c.args.system.now) _ _ _ _ _ _ c.in-Next.c c.lowest_reply.result c.in-Next.is c.lowest_reply.ensures)

pub returns-else-rank-eq0 : goal.returns-else-rank-eq0
returns-else-rank-eq0 g c =
    let rank = ap (λ (e : Entry). e.rank) c.entry_at-rank.ensures in
    subst (RepliesAs (g.S.System.means c.args.system.now) (g.B.Board.shows c.args.board.now).marked c.args.goal c.args.entries.now c.args.state c.args.choice) (sym c.unwrap_or-in-Always.ensures)
    (always_answer _ (g.S.System.lawful c.args.system.now) _ _ _ _ _ _ c.in-Always.field-1 c.in-Always.is c.lowest_reply-in-Always.result (λ e. c.if-rank-eq0.false (rank ∙ e))
    (subst (λ k. LowestInto (g.S.System.means c.args.system.now) c.in-Always.group c.args.state c.args.choice (losing c.args.entries.now (k - 1)) c.lowest_reply-in-Always.result) rank c.lowest_reply-in-Always.ensures))

pub returns-else-rank-eq0-2 : goal.returns-else-rank-eq0-2
returns-else-rank-eq0-2 g c =
    let rank = ap (λ (e : Entry). e.rank) c.entry_at-rank.ensures in
    subst (RepliesAs (g.S.System.means c.args.system.now) (g.B.Board.shows c.args.board.now).marked c.args.goal c.args.entries.now c.args.state c.args.choice) (sym c.unwrap_or-in-Until.ensures)
    (until_answer _ (g.S.System.lawful c.args.system.now) _ _ _ _ _ _ c.in-Until.field-1 c.in-Until.field-2 c.in-Until.is c.lowest_reply-in-Until.result (λ e. c.if-rank-eq0-2.false (rank ∙ e)) c.lowest_reply-in-Until.ensures)

pub returns-in_default : goal.returns-in_default
returns-in_default g c g' ψ aims = absurd (no_aims _ _ _ _ c.in_default.not-Next c.in_default.not-Always c.in_default.not-Until aims)
