-- Plays are under way only where the board fits the system. Assumes nothing.
use Rattle.std.proofs.Common.{◌≡◌, ℕ, ◌<◌, true, false, not, ◌||◌, eqb, List, length, Some, None, Option, sym, refl, ap, ◌∙◌, subst, ap₂, inl, inr, arith}
use Rattle.std.specs.List.{slice_get, AllByRecursion}
use Rattle.std.proofs.lemmas.Bool.{eqb-true}
use Rattle.game.specs.Meaning.{Meaning}
use Rattle.game.specs.declared.fault.Fault.{Fault}
use Rattle.game.specs.declared.fault.Reason.{Reason}
use Rattle.game.proofs.Bounded.{true_or_false, clash}
use Rattle.law.specs.Worlds.{Model, Play, World}
use Rattle.law.specs.Refusals.{awaiting_move, awaiting_reply, announcing, telling, no_board, refusals, first}
use Rattle.law.specs.Steps.{Announces, Tells, Ends, Does, Ruled, Step}
use Rattle.law.specs.declared.call.Call.{Call}
use Rattle.law.specs.declared.call.Call.TheVariants.{Enter, Settle, Query, Plan, Move, Reply, Begin, Announce, Tell, End, Strike}
use Rattle.law.specs.declared.call.Answer.{Answer}
use Rattle.law.specs.declared.call.Answer.TheVariants.{Refused}
use Rattle.law.proofs.Calls.{Fails, passes}
use Rattle.cases.specs.Shows.{world}
use Rattle.cases.proofs.Stepping.{first_none}

-- the board keeps its size
abbrev Sized : World → World → Type 0
Sized w w' = (w'.model.rows.rows ≡ w.model.rows.rows) × (w'.model.rows.states ≡ w.model.rows.states)

sized : (w w' x : World) → w' ≡ x → Sized w x → Sized w w'
sized w w' x e h = subst (Sized w) (sym e) h

does_sized : (M : Meaning) (w : World) (c : Call) (r : Answer) (w' : World) → Does M w c r w' → Sized w w'
does_sized M w (Enter x) r w' (er, ew) = sized w w' _ ew (refl, refl)
does_sized M w Settle r w' (er, (P, set, em), ep) = (ap (λ (m : Model). m.rows.rows) em, ap (λ (m : Model). m.rows.states) em)
does_sized M w (Query f s) r w' (er, ew) = sized w w' _ ew (refl, refl)
does_sized M w (Plan f) r w' (p, ef, is, er, ew) = sized w w' _ ew (refl, refl)
does_sized M w (Move s) r w' (p, ep, er, ew) = sized w w' _ ew (refl, refl)
does_sized M w (Reply s a) r w' (p, ep, b, ew) = sized w w' _ ew (refl, refl)
does_sized M w (Begin s) r w' (er, ew) = sized w w' _ ew (refl, refl)
does_sized M w (Announce i) r w' d = go (awaiting_move (slice_get w.plays i)) d
  where
    go : (o : Option Play) → Announces w i o r w' → Sized w w'
    go None (er, ew) = sized w w' _ ew (refl, refl)
    go (Some q) (p, ep, er, ew) = sized w w' _ ew (refl, refl)
does_sized M w (Tell i b) r w' d = go (awaiting_reply (slice_get w.plays i)) d
  where
    go : (o : Option (Play × ℕ)) → Tells M w i b o r w' → Sized w w'
    go None (er, ew) = sized w w' _ ew (refl, refl)
    go (Some x) (er, ew) = sized w w' _ ew (refl, refl)
does_sized M w (End i) r w' d = go (slice_get w.plays i) d
  where
    go : (o : Option Play) → Ends w i o r w' → Sized w w'
    go None (er, ew) = sized w w' _ ew (refl, refl)
    go (Some q) (er, ew) = sized w w' _ ew (refl, refl)
does_sized M w (Strike k) r w' (er, ew) = sized w w' _ ew (refl, refl)

-- on a board that does not fit, a call that is not refused does nothing
unfit_same : (M : Meaning) (w : World) (c : Call) (r : Answer) (w' : World) → no_board M w.model ≡ true → AllByRecursion Fails (refusals M w c) → Does M w c r w' → w' ≡ w
unfit_same M w (Enter x) r w' bad t d = absurd (clash bad t.0)
unfit_same M w Settle r w' bad t d = absurd (clash bad t.0)
unfit_same M w (Query f s) r w' bad t d = absurd (clash bad t.0)
unfit_same M w (Plan f) r w' bad t d = absurd (clash bad t.0)
unfit_same M w (Move s) r w' bad t d = absurd (clash bad t.0)
unfit_same M w (Reply s a) r w' bad t d = absurd (clash bad t.0)
unfit_same M w (Begin s) r w' bad t d = absurd (clash bad t.0)
unfit_same M w (Announce i) r w' bad t d = go (awaiting_move (slice_get w.plays i)) t d
  where
    go : (o : Option Play) → AllByRecursion Fails (announcing M w o) → Announces w i o r w' → w' ≡ w
    go None t (er, ew) = ew
    go (Some q) t d = absurd (clash bad t.0)
unfit_same M w (Tell i b) r w' bad t d = go (awaiting_reply (slice_get w.plays i)) t d
  where
    go : (o : Option (Play × ℕ)) → AllByRecursion Fails (telling M w o b) → Tells M w i b o r w' → w' ≡ w
    go None t (er, ew) = ew
    go (Some x) t d = absurd (clash bad t.0)
unfit_same M w (End i) r w' bad t d = absurd (clash bad t.0)
unfit_same M w (Strike k) r w' bad t d = absurd (clash bad t.0)

abbrev pub Fit : Meaning → World → Type 0
Fit M w = 0 < length w.plays → no_board M w.model ≡ false

pub step_fit : (M : Meaning) (w : World) (c : Call) (r : Answer) (w' : World) → Step M w c r w' → Fit M w → Fit M w'
step_fit M w c r w' step fit = go (first (refusals M w c)) refl step.is
  where
    go : (o : Option Reason) → first (refusals M w c) ≡ o → Ruled M w c o r w' → Fit M w'
    go (Some n) e (er, ew) = subst (Fit M) (sym ew) fit
    go None e d = elim (true_or_false (no_board M w.model)) [
      | inl bad ↦ subst (Fit M) (sym (unfit_same M w c r w' bad (passes (refusals M w c) e) d)) fit
      | inr good ↦ let s = does_sized M w c r w' d in λ _. ap₂ (λ a b. eqb a 0 || not (eqb b M.states)) s.0 s.1 ∙ good
    ]

-- a play that is under way can always be ended
pub never_refused : (M : Meaning) (m : Model) (qs : List Play) (i : ℕ) (q : Play) (e : Fault) (w : World) → no_board M m ≡ false → 0 < length qs → slice_get qs i ≡ Some q → Step M (world m qs) (End i) (Refused e) w → ⊥
never_refused M m qs i q e w good some at step = go (first (refusals M (world m qs) (End i))) refl step.is
  where
    tests : first (refusals M (world m qs) (End i)) ≡ None
    tests = first_none (refusals M (world m qs) (End i)) (good, (ne, tt))
      where
        ne : eqb (length qs) 0 ≡ false
        ne = elim (true_or_false (eqb (length qs) 0)) [ inl z ↦ absurd (let k = eqb-true (length qs) 0 z in omega arith) | inr z ↦ z ]

    ended : (o : Option Play) → slice_get qs i ≡ o → Ends (world m qs) i o (Refused e) w → ⊥
    ended None none d = let z : ◌≡◌ {A = ℕ} 0 1 = cc in omega arith
    ended (Some x) there (er, ew) = let z : ◌≡◌ {A = ℕ} 0 1 = cc in omega arith

    go : (o : Option Reason) → first (refusals M (world m qs) (End i)) ≡ o → Ruled M (world m qs) (End i) o (Refused e) w → ⊥
    go (Some n) eo d = let no_number : None ≡ Some n = sym tests ∙ eo in let z : ◌≡◌ {A = ℕ} 0 1 = cc in omega arith
    go None eo d = ended (slice_get qs i) refl d
