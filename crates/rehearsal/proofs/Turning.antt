-- A call on the play of a token is a step. Assumes nothing.
use Rattle.std.proofs.Common.{◌≡◌, ℕ, zero, suc, List, [], ◌∷◌, set, Some, None, Ok, Err, sym, refl, ap, ◌∙◌, subst}
use Rattle.std.specs.List.{slice_get}
use Rattle.game.specs.Meaning.{Meaning}
use Rattle.law.specs.Worlds.{Model, Play, to_reply}
use Rattle.law.specs.Refusals.{awaiting_move, awaiting_reply, announcing, telling, first}
use Rattle.law.specs.Steps.{Step, Announces as Announces', Tells as Tells'}
use Rattle.law.specs.declared.call.Call.{Call}
use Rattle.law.specs.declared.call.Call.TheVariants.{Announce, Tell}
use Rattle.law.specs.declared.call.Answer.{Answer}
use Rattle.law.specs.declared.call.Answer.TheVariants.{Idle, Done, Entry, Refused}
use Rattle.cases.specs.declared.play.AwaitingMove.{AwaitingMove}
use Rattle.cases.specs.declared.play.AwaitingReply.{AwaitingReply}
use Rattle.cases.specs.declared.outcome.Play.{Play as Token}
use Rattle.cases.specs.declared.outcome.Play.TheVariants.{Move, Reply}
use Rattle.cases.specs.declared.outcome.Announced.{Announced}
use Rattle.cases.specs.declared.outcome.HandedBack.{HandedBack}
use Rattle.cases.specs.Shows.{world}
use Rattle.cases.specs.Plays.{moving, replying, playing, Announces, Tells}
use Rattle.cases.proofs.Stepping.{step_does}
use Rattle.rehearsal.specs.declared.turn.Turn.{Turn}
use Rattle.rehearsal.specs.declared.turn.Turn.TheVariants as turn
use Rattle.rehearsal.specs.Turning.{call_of}
use Rattle.rehearsal.specs.Served.{Turns}

pub set_nth : (qs : List Play) (i : ℕ) (q : Play) → slice_get qs i ≡ Some q → set qs i q ≡ qs
set_nth [] i q e = refl
set_nth (x ∷ qs) zero q e = let same : x ≡ q = cc in ap (λ y. y ∷ qs) (sym same)
set_nth (x ∷ qs) (suc i) q e = ap (λ l. x ∷ l) (set_nth qs i q e)

module _ (M : Meaning) (m : Model) (qs : List Play) (i : ℕ) where
  -- nothing has changed
  same_world : (q q' : Play) → slice_get qs i ≡ Some q → q ≡ q' → world m qs ≡ world m (set qs i q')
  same_world q q' at e = ap (world m) (sym (set_nth qs i q at) ∙ ap (set qs i) e)

  stays : (c : Call) (r : Answer) (q q' : Play) → slice_get qs i ≡ Some q → q ≡ q' → Step M (world m qs) c r (world m qs) → Step M (world m qs) c r (world m (set qs i q'))
  stays c r q q' at e step = subst (Step M (world m qs) c r) (same_world q q' at e) step

  announce_idle : (start : ℕ) (told : List (ℕ × ℕ)) (t : AwaitingReply) → slice_get qs i ≡ Some (replying start told t) → Step M (world m qs) (Announce i) Idle (world m qs)
  announce_idle start told t at = step_does M (world m qs) (Announce i) Idle (world m qs) (ap (λ o. first (announcing M (world m qs) (awaiting_move o))) at)
      (subst (λ o. Announces' (world m qs) i (awaiting_move o) Idle (world m qs)) (sym at) (refl, refl))

  tell_idle : (b start : ℕ) (told : List (ℕ × ℕ)) (t : AwaitingMove) → slice_get qs i ≡ Some (moving start told t) → Step M (world m qs) (Tell i b) Idle (world m qs)
  tell_idle b start told t at = step_does M (world m qs) (Tell i b) Idle (world m qs) (ap (λ o. first (telling M (world m qs) (awaiting_reply o) b)) at)
      (subst (λ o. Tells' M (world m qs) i b (awaiting_reply o) Idle (world m qs)) (sym at) (refl, refl))

  -- there is no such play
  pub announce_none : slice_get qs i ≡ None → Step M (world m qs) (Announce i) Idle (world m qs)
  announce_none at = step_does M (world m qs) (Announce i) Idle (world m qs) (ap (λ o. first (announcing M (world m qs) (awaiting_move o))) at)
      (subst (λ o. Announces' (world m qs) i (awaiting_move o) Idle (world m qs)) (sym at) (refl, refl))

  pub tell_none : (b : ℕ) → slice_get qs i ≡ None → Step M (world m qs) (Tell i b) Idle (world m qs)
  tell_none b at = step_does M (world m qs) (Tell i b) Idle (world m qs) (ap (λ o. first (telling M (world m qs) (awaiting_reply o) b)) at)
      (subst (λ o. Tells' M (world m qs) i b (awaiting_reply o) Idle (world m qs)) (sym at) (refl, refl))

pub turn_none : (M : Meaning) (m : Model) (qs : List Play) (i : ℕ) (t : Turn) → slice_get qs i ≡ None → Step M (world m qs) (call_of t i) Idle (world m qs)
turn_none M m qs i turn.Announce at = announce_none M m qs i at
turn_none M m qs i (turn.Tell b) at = tell_none M m qs i b at

module _ (M : Meaning) (m : Model) (p : Token) where
  seen : (t : Token) → p ≡ t → (qs : List Play) (i start : ℕ) (told : List (ℕ × ℕ)) → slice_get qs i ≡ Some (playing start told p) → slice_get qs i ≡ Some (playing start told t)
  seen t is qs i start told at = at ∙ ap (λ x. Some (playing start told x)) is

  pub announce_waits : (t : AwaitingReply) → p ≡ Reply t → Turns M m p (λ i. Announce i) Idle (Reply t)
  announce_waits t is qs i start told at =
      let at' = seen (Reply t) is qs i start told at in
      (told, stays M m qs i (Announce i) Idle (replying start told t) (replying start told t) at' refl (announce_idle M m qs i start told t at'))

  pub announce_made : (t : AwaitingMove) (x : Announced) → p ≡ Move t → Announces M m t (Ok x) → Turns M m p (λ i. Announce i) (Entry x.rank x.choice) (Reply x.play)
  announce_made t x is h qs i start told at = (told, h qs i start told (seen (Move t) is qs i start told at))

  pub announce_refused : (t : AwaitingMove) (x : HandedBack AwaitingMove) → p ≡ Move t → Announces M m t (Err x) → Turns M m p (λ i. Announce i) (Refused x.fault) (Move x.play)
  announce_refused t x is h qs i start told at =
      let at' = seen (Move t) is qs i start told at in
      let (step, back) = h qs i start told at' in
      (told, stays M m qs i (Announce i) (Refused x.fault) (moving start told t) (moving start told x.play) at' (ap (moving start told) (sym back)) step)

  pub tell_waits : (b : ℕ) (t : AwaitingMove) → p ≡ Move t → Turns M m p (λ i. Tell i b) Idle (Move t)
  tell_waits b t is qs i start told at =
      let at' = seen (Move t) is qs i start told at in
      (told, stays M m qs i (Tell i b) Idle (moving start told t) (moving start told t) at' refl (tell_idle M m qs i b start told t at'))

  pub tell_made : (b : ℕ) (t : AwaitingReply) (x : AwaitingMove) → p ≡ Reply t → Tells M m t b (Ok x) → Turns M m p (λ i. Tell i b) Done (Move x)
  tell_made b t x is h qs i start told at = ((t.choice, b) ∷ told, h qs i start told (seen (Reply t) is qs i start told at))

  pub tell_refused : (b : ℕ) (t : AwaitingReply) (x : HandedBack AwaitingReply) → p ≡ Reply t → Tells M m t b (Err x) → Turns M m p (λ i. Tell i b) (Refused x.fault) (Reply x.play)
  tell_refused b t x is h qs i start told at =
      let at' = seen (Reply t) is qs i start told at in
      let (step, state, steps, choice) = h qs i start told at' in
      let same : replying start told t ≡ replying start told x.play = λ j. record { start = start; told = told; state = sym state j; steps = sym steps j; turn = to_reply (sym choice j) } in
      (told, stays M m qs i (Tell i b) (Refused x.fault) (replying start told t) (replying start told x.play) at' same step)
