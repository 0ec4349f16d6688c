use Rattle.std.proofs.Common.{ℕ, List, Ok, Err, vec_items, ◌∙◌, subst, arith}
use Rattle.std.proofs.lemmas.Result.{err_from_is_err_and}
use Rattle.game.specs.declared.goal.Word.{Word}
use Rattle.procedure.specs.Texts.{described}
use Rattle.procedure.specs.Reading.{Reads}
use Rattle.procedure.proofs.Slice.{goals_room}
use Rattle.boards.specs.Meaning.{blank}
use Rattle.systems.specs.AgentsMeaning.{agents_meaning}
use Rattle.game.specs.declared.fault.Stop.{Stop}
use Rattle.game.specs.declared.fault.Stop.TheVariants.{Refused, Memory}
use Rattle.verdicts.specs.Judging.{RefusedWord, Judges}
use Rattle.verdicts.specs.Verdicts.{Verdict, judged, refused_file, refused_goal, no_memory}
use Rattle.verdicts.proofs.file.judge_file.Goals as goal

file_stops : (bytes : List ℕ) (e : Stop) → Reads bytes (Err e) → Verdict bytes (Err e)
file_stops bytes (Refused f) h = refused_file f h
file_stops bytes Memory h = no_memory

pub returns-in_err-procedure : goal.returns-in_err-procedure
returns-in_err-procedure c = let p = err_from_is_err_and c.from_residual.result c.from_residual.ensures.1 in rw (p.1, p.2) (file_stops _ _ c.in_err-procedure.ensures)

pub overflow_sub-first-2 : goal.overflow_sub-first-2
overflow_sub-first-2 c =
    let p = c.in_ok-procedure.procedure in
    let room = goals_room c.args.bytes.now (described p.system (vec_items p.goals)) c.len.result c.in_ok-procedure.ensures (c.len.ensures ∙ p.goals.ok.0) in
    omega (arith, room)

pub returns-in-Ok : goal.returns-in-Ok
returns-in-Ok c =
    let p = c.in_ok-procedure.procedure in
    judged p.system (vec_items p.goals) c.in_ok-procedure.ensures c.in-Ok.lines
    (subst (λ (ws : List Word). Judges (agents_meaning p.system) (blank p.system.states 64) ws (Ok c.in-Ok.lines)) c.deref.ensures.value c.in-Ok.ensures)

pub returns-in-Err-Refused : goal.returns-in-Err-Refused
returns-in-Err-Refused c =
    let p = c.in_ok-procedure.procedure in
    let many = c.len.ensures ∙ p.goals.ok.0 in
    let room = goals_room c.args.bytes.now (described p.system (vec_items p.goals)) c.len.result c.in_ok-procedure.ensures many in
    let says = subst (λ r. Judges (agents_meaning p.system) (blank p.system.states 64) c.deref.result.now r) c.in-Err-Refused.is c.judge_system.ensures in
    let refused = subst (λ (x : Stop). Judges (agents_meaning p.system) (blank p.system.states 64) c.deref.result.now (Err x)) c.in-Err-Refused.field-0-is says in
    refused_goal p.system (vec_items p.goals) _ (record {
      accepted = c.in_ok-procedure.ensures;
      goal = c.in-Err-Refused.fault.place;
      place = omega (arith, room, many);
      refused = subst (λ (ws : List Word). RefusedWord (agents_meaning p.system) (blank p.system.states 64) ws c.in-Err-Refused.fault) c.deref.ensures.value refused;
    })

pub returns : goal.returns
returns c = no_memory
