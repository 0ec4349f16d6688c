-- Tell, by its tests. Assumes nothing.
use Rattle.std.proofs.Common.{◌≡◌, ℕ, suc, ◌+◌, ◌<◌, Bool, true, false, not, List, [], ◌∷◌, set, Some, sym, refl, ap, ◌∙◌, subst, ap₂, arith}
use Rattle.std.specs.List.{slice_get}
use Rattle.std.proofs.lemmas.Bool.{lt-leb}
use Rattle.game.specs.Meaning.{Meaning, member}
use Rattle.game.specs.Goals.{group_of}
use Rattle.game.specs.declared.fault.Fault.{Fault}
use Rattle.game.specs.declared.fault.Reason.TheVariants.{NoBoard, NoSheet, NoSuchState, NotAllowed}
use Rattle.law.specs.Worlds.{Model, Play, World, to_move, aim}
use Rattle.law.specs.Refusals.{awaiting_reply, no_board, no_sheet, fits_side, telling, refusals, first}
use Rattle.law.specs.Steps.{fault, Tells, Step}
use Rattle.law.specs.declared.call.Call.TheVariants.{Tell}
use Rattle.law.specs.declared.call.Answer.TheVariants.{Done, Refused}
use Rattle.cases.specs.declared.play.AwaitingReply.{AwaitingReply}
use Rattle.cases.specs.Shows.{world}
use Rattle.cases.specs.Plays.{moving, replying}
use Rattle.cases.proofs.Stepping.{step_refused, step_does}

module _ (M : Meaning) (m : Model) (qs : List Play) (i b start : ℕ) (told : List (ℕ × ℕ)) (t : AwaitingReply) (at : slice_get qs i ≡ Some (replying start told t))
    (board : no_board M m ≡ false) (sheet : no_sheet m.plan ≡ false) (known : t.state < M.states) where
  tests : (x : Bool) → fits_side M (λ k. not (member (group_of (aim m)) k)) t.state b ≡ x →
      first (refusals M (world m qs) (Tell i b)) ≡ first ((NoBoard, false) ∷ (NoSheet, false) ∷ (NoSuchState, false) ∷ (NotAllowed, not x) ∷ [])
  tests x fits =
      let state = lt-leb M.states t.state known in
      ap (λ o. first (telling M (world m qs) (awaiting_reply o) b)) at ∙ (λ j. first ((NoBoard, board j) ∷ (NoSheet, sheet j) ∷ (NoSuchState, state j) ∷ (NotAllowed, not (fits j)) ∷ []))

  pub tell_refused : fits_side M (λ k. not (member (group_of (aim m)) k)) t.state b ≡ false → (e : Fault) → e ≡ fault NotAllowed → Step M (world m qs) (Tell i b) (Refused e) (world m qs)
  tell_refused fits e is = subst (λ x. Step M (world m qs) (Tell i b) (Refused x) (world m qs)) (sym is) (step_refused M (world m qs) (Tell i b) (fault NotAllowed) (tests false fits) refl)

  pub tell_does : fits_side M (λ k. not (member (group_of (aim m)) k)) t.state b ≡ true → (s : ℕ) → s ≡ M.next t.state (t.choice + b) →
      Step M (world m qs) (Tell i b) Done (world m (set qs i (moving start ((t.choice, b) ∷ told) (record { state = s; steps = t.steps + 1 }))))
  tell_does fits s is =
      let after : ℕ → ℕ → World = λ x n. world m (set qs i (record { start = start; told = (t.choice, b) ∷ told; state = x; steps = n; turn = to_move })) in
      let more : t.steps + 1 ≡ suc t.steps = omega arith in
      step_does M (world m qs) (Tell i b) Done (after s (t.steps + 1)) (tests true fits)
      (subst (λ o. Tells M (world m qs) i b (awaiting_reply o) Done (after s (t.steps + 1))) (sym at) (refl, ap₂ after is more))
