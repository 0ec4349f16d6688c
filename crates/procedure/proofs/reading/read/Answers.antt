use Rattle.std.proofs.Common.{List, vec_items, sym, refl, ◌∙◌, subst}
use Rattle.game.specs.declared.goal.Word.{Word}
use Rattle.procedure.specs.Texts.{described}
use Rattle.procedure.specs.Faults.{Accepted}
use Rattle.procedure.proofs.Slice.{goals_room, goals_part}
use Rattle.procedure.proofs.reading.read.Goals as goal

pub overflow_sub-goals : goal.overflow_sub-goals
overflow_sub-goals c =
    let p = c.in_ok-procedure.procedure in
    goals_room c.args.bytes.now (described p.system (vec_items p.goals)) c.len.result c.in_ok-procedure.ensures (c.len.ensures ∙ p.goals.ok.0)

pub returns : goal.returns
returns c =
    let p = c.in_ok-procedure.procedure in
    let bs = c.args.bytes.now in
    let P : List Word → Type 0 = λ goals. Accepted bs (described p.system goals) in
    subst P (sym (goals_part bs (described p.system (vec_items p.goals)) c.len.result _ _ c.in_ok-procedure.ensures (c.len.ensures ∙ p.goals.ok.0) refl refl))
    c.in_ok-procedure.ensures
