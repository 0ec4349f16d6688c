use Rattle.std.proofs.Common.{◌≡◌, ◌≤◌, Bool, true, false, cond, not, ◌&&◌, ◌||◌, refl, ap, ◌∙◌, arith}
use mir.Val.{bool_byte}
use Rattle.std.proofs.lemmas.Result.{err_from_is_err_and}
use Rattle.cases.specs.Shows.{model}
use Rattle.verdicts.proofs.Counting.{asked_more, count_le, refused_all}
use Rattle.verdicts.proofs.report.report.Goals as goal

byte_is : (x : Bool) → bool_byte x ≡ cond x 1 0
byte_is true = refl
byte_is false = refl

byte_le : (x : Bool) → bool_byte x ≤ 1
byte_le true = omega arith
byte_le false = omega arith

pub overflow_add-granted : goal.overflow_add-granted
overflow_add-granted g c =
    let le = count_le (g.S.System.means c.args.case.now.system) c.args.case.now.out (model g.B.Board.shows c.args.case.now) c.args.goal c.loop-state.state in
    omega (arith, le, byte_le c.in_ok-here.here, c.loop-state.invariant.counted, c.loop-state-test.true, c.states-states.type_inv)

pub loop-state-preserved : goal.loop-state-preserved
loop-state-preserved g c =
    asked_more _ _ _ _ _ _ _ c.loop-state.invariant c.in_ok-here.here c.in_ok-here.ensures.steps _ (c.from-granted.ensures ∙ byte_is c.in_ok-here.here) _
    (ap (λ b. c.loop-state.all && (not b || c.in_ok-here.here)) (c.start-start.ensures ∙ ap (λ y. (g.S.System.means y).start c.loop-state.state) c.system-in-loop-state.ensures))

pub returns-in_err-here : goal.returns-in_err-here
returns-in_err-here g c =
    let p = err_from_is_err_and c.from_residual.result c.from_residual.ensures.1 in
    let size = c.states-states.ensures ∙ ap (λ y. (g.S.System.means y).states) c.system.ensures in
    rw (p.1, p.2) (refused_all _ _ _ _ c.loop-state.state _ (omega (arith, size, c.loop-state-test.true)) c.in_err-here.ensures.steps)
