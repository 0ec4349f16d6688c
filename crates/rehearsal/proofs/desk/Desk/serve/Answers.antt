use Rattle.std.proofs.Common.{◌≡◌, ◌∙◌, vec_items, sym, subst, arith, rules}
use Rattle.std.specs.Result.{MatchResult}
use Rattle.cases.specs.Shows.{model, numbered, answered, advised, finished}
use Rattle.rehearsal.proofs.Serving.{plain_served, fit_after, tried_served, tried_fit}
use Rattle.rehearsal.specs.Served.{Served, trial}
use Rattle.rehearsal.proofs.desk.Desk.serve.Goals as goal

pub invariant_of-self : goal.invariant_of-self
invariant_of-self g c =
    let me = c.args.self.now in
    let counted = me.counted ∙ me.plays.ok.0 in
    let done = c.enter.ensures in
    record { counted = done.out ∙ me.counted; room = me.room; fit = λ some. fit_after g.S.System.means _ _ _ _ (vec_items me.plays) (vec_items me.plays) _ _ done.same (plain_served (g.S.System.means me.case.system) me.case.out (model g.B.Board.shows me.case) _ (vec_items me.plays) _ _ counted done.steps) (λ more. me.fit (omega (arith, me.plays.ok.0))) (omega (arith, me.plays.ok.0)) }

pub invariant_of-self-in-Strike : goal.invariant_of-self-in-Strike
invariant_of-self-in-Strike g c =
    let me = c.args.self.now in
    let counted = me.counted ∙ me.plays.ok.0 in
    let done = c.strike.ensures in
    record { counted = done.out ∙ me.counted; room = me.room; fit = λ some. fit_after g.S.System.means _ _ _ _ (vec_items me.plays) (vec_items me.plays) _ _ done.same (plain_served (g.S.System.means me.case.system) me.case.out (model g.B.Board.shows me.case) _ (vec_items me.plays) _ _ counted done.steps) (λ more. me.fit (omega (arith, me.plays.ok.0))) (omega (arith, me.plays.ok.0)) }

pub invariant_of-self-in-Settle : goal.invariant_of-self-in-Settle
invariant_of-self-in-Settle g c =
    let me = c.args.self.now in
    let counted = me.counted ∙ me.plays.ok.0 in
    let done = c.settle.ensures in
    record { counted = done.out ∙ me.counted; room = me.room; fit = λ some. tried_fit g.S.System.means _ _ me.case.out _ _ (vec_items me.plays) _ c.settle.result done.same counted done.steps (λ more. me.fit (omega (arith, me.plays.ok.0))) (omega (arith, me.plays.ok.0)) }

pub invariant_of-self-in-Plan : goal.invariant_of-self-in-Plan
invariant_of-self-in-Plan g c =
    let me = c.args.self.now in
    let counted = me.counted ∙ me.plays.ok.0 in
    let done = c.plan.ensures in
    record { counted = done.out ∙ me.counted; room = me.room; fit = λ some. tried_fit g.S.System.means _ _ me.case.out _ _ (vec_items me.plays) _ c.plan.result done.same counted done.steps (λ more. me.fit (omega (arith, me.plays.ok.0))) (omega (arith, me.plays.ok.0)) }

pub returns-in-Enter-clause-served : goal.returns-in-Enter-clause-served
returns-in-Enter-clause-served g c =
    let me = c.args.self.now in
    let M = g.S.System.means me.case.system in
    let m = model g.B.Board.shows me.case in
    let said : c.map_or_else.result ≡ numbered c.enter.result = search rules in
    subst (λ a. Served M m (vec_items me.plays) c.args.call a (model g.B.Board.shows c.enter.new.self) (vec_items me.plays)) (sym said)
    (subst (λ x. Served M m (vec_items me.plays) x (numbered c.enter.result) (model g.B.Board.shows c.enter.new.self) (vec_items me.plays)) (sym c.in-Enter.is)
    (plain_served M me.case.out m _ (vec_items me.plays) _ _ (me.counted ∙ me.plays.ok.0) c.enter.ensures.steps))

pub returns-in-Query-clause-served : goal.returns-in-Query-clause-served
returns-in-Query-clause-served g c =
    let me = c.args.self.now in
    let M = g.S.System.means me.case.system in
    let m = model g.B.Board.shows me.case in
    let said : c.map_or_else-in-Query.result ≡ answered c.query.result = search rules in
    subst (λ a. Served M m (vec_items me.plays) c.args.call a (model g.B.Board.shows me.case) (vec_items me.plays)) (sym said)
    (subst (λ x. Served M m (vec_items me.plays) x (answered c.query.result) (model g.B.Board.shows me.case) (vec_items me.plays)) (sym c.in-Query.is)
    (plain_served M me.case.out m _ (vec_items me.plays) _ _ (me.counted ∙ me.plays.ok.0) c.query.ensures.steps))

pub returns-in-Move-clause-served : goal.returns-in-Move-clause-served
returns-in-Move-clause-served g c =
    let me = c.args.self.now in
    let M = g.S.System.means me.case.system in
    let m = model g.B.Board.shows me.case in
    let said : c.advised.result ≡ advised c.move_at.result = c.advised.ensures in
    subst (λ a. Served M m (vec_items me.plays) c.args.call a (model g.B.Board.shows me.case) (vec_items me.plays)) (sym said)
    (subst (λ x. Served M m (vec_items me.plays) x (advised c.move_at.result) (model g.B.Board.shows me.case) (vec_items me.plays)) (sym c.in-Move.is)
    (plain_served M me.case.out m _ (vec_items me.plays) _ _ (me.counted ∙ me.plays.ok.0) c.move_at.ensures))

pub returns-in-Reply-clause-served : goal.returns-in-Reply-clause-served
returns-in-Reply-clause-served g c =
    let me = c.args.self.now in
    let M = g.S.System.means me.case.system in
    let m = model g.B.Board.shows me.case in
    let said : c.advised-in-Reply.result ≡ advised c.reply.result = c.advised-in-Reply.ensures in
    subst (λ a. Served M m (vec_items me.plays) c.args.call a (model g.B.Board.shows me.case) (vec_items me.plays)) (sym said)
    (subst (λ x. Served M m (vec_items me.plays) x (advised c.reply.result) (model g.B.Board.shows me.case) (vec_items me.plays)) (sym c.in-Reply.is)
    (plain_served M me.case.out m _ (vec_items me.plays) _ _ (me.counted ∙ me.plays.ok.0) c.reply.ensures))

pub returns-in-Strike-clause-served : goal.returns-in-Strike-clause-served
returns-in-Strike-clause-served g c =
    let me = c.args.self.now in
    let M = g.S.System.means me.case.system in
    let m = model g.B.Board.shows me.case in
    let said : c.map_or_else-in-Strike.result ≡ finished c.strike.result = search rules in
    subst (λ a. Served M m (vec_items me.plays) c.args.call a (model g.B.Board.shows c.strike.new.self) (vec_items me.plays)) (sym said)
    (subst (λ x. Served M m (vec_items me.plays) x (finished c.strike.result) (model g.B.Board.shows c.strike.new.self) (vec_items me.plays)) (sym c.in-Strike.is)
    (plain_served M me.case.out m _ (vec_items me.plays) _ _ (me.counted ∙ me.plays.ok.0) c.strike.ensures.steps))

pub returns-in-Settle-clause-served : goal.returns-in-Settle-clause-served
returns-in-Settle-clause-served g c =
    let me = c.args.self.now in
    let M = g.S.System.means me.case.system in
    let m = model g.B.Board.shows me.case in
    let m' = model g.B.Board.shows c.settle.new.self in
    let ts = vec_items me.plays in
    subst (λ r. MatchResult r (λ a. Served M m ts c.args.call a m' ts) (λ _. (m' ≡ m) × (ts ≡ ts))) (sym c.tried.ensures)
    (subst (λ x. MatchResult (trial c.settle.result) (λ a. Served M m ts x a m' ts) (λ _. (m' ≡ m) × (ts ≡ ts))) (sym c.in-Settle.is)
    (tried_served M me.case.out m m' ts _ c.settle.result (me.counted ∙ me.plays.ok.0) c.settle.ensures.steps))

pub returns-in-Plan-clause-served : goal.returns-in-Plan-clause-served
returns-in-Plan-clause-served g c =
    let me = c.args.self.now in
    let M = g.S.System.means me.case.system in
    let m = model g.B.Board.shows me.case in
    let m' = model g.B.Board.shows c.plan.new.self in
    let ts = vec_items me.plays in
    subst (λ r. MatchResult r (λ a. Served M m ts c.args.call a m' ts) (λ _. (m' ≡ m) × (ts ≡ ts))) (sym c.tried-in-Plan.ensures)
    (subst (λ x. MatchResult (trial c.plan.result) (λ a. Served M m ts x a m' ts) (λ _. (m' ≡ m) × (ts ≡ ts))) (sym c.in-Plan.is)
    (tried_served M me.case.out m m' ts _ c.plan.result (me.counted ∙ me.plays.ok.0) c.plan.ensures.steps))
