-- Entering the goals of words, one after another. Assumes nothing.
use Rattle.std.proofs.Common.{◌≡◌, ℕ, ◌+◌, ◌<◌, ◌≤◌, true, List, [], ◌∷◌, map, length, take, Some, None, Option, sym, refl, ap, ◌∙◌, subst, subst₂, add-one, arith, take_all, take-suc, below_more}
use mathlib.Core.List.{map-append}
use Rattle.game.specs.Meaning.{Meaning}
use Rattle.game.specs.Goals.{goal_of, word}
use Rattle.game.specs.declared.fault.Fault.{Fault}
use Rattle.game.specs.declared.fault.Reason.{Reason}
use Rattle.game.specs.declared.goal.Word.{Word}
use Rattle.game.specs.declared.goal.Goal.{Goal}
use Rattle.game.proofs.Bounded.{clash}
use Rattle.boards.specs.Meaning.{Rows}
use Rattle.law.specs.Worlds.{Model, World}
use Rattle.law.specs.Refusals.{refusals, first}
use Rattle.law.specs.Steps.{Does, Ruled, Step, entered}
use Rattle.law.specs.Logs.{accepted}
use Rattle.law.specs.declared.call.Call.{Call}
use Rattle.law.specs.declared.call.Call.TheVariants.{Enter}
use Rattle.law.specs.declared.call.Answer.{Answer}
use Rattle.law.specs.declared.call.Answer.TheVariants.{Number, Refused}
use Rattle.law.proofs.Speaking.{refused_so, refused_layer}
use Rattle.cases.specs.Shows.{world, Calls}
use Rattle.verdicts.specs.Judging.{word_at, holding, Entered, RefusedWord}

-- a call that was not refused passed its tests and did what it does
pub did : (M : Meaning) (w : World) (c : Call) (r : Answer) (w' : World) → Step M w c r w' → accepted r ≡ true → (first (refusals M w c) ≡ None) × Does M w c r w'
did M w c r w' step ok = go (first (refusals M w c)) refl step.is
  where
    go : (o : Option Reason) → first (refusals M w c) ≡ o → Ruled M w c o r w' → (first (refusals M w c) ≡ None) × Does M w c r w'
    go (Some n) e h = absurd (clash ok (ap accepted h.0))
    go None e h = (e, h)

pub holding_more : (b : Rows) (ws : List Word) (i : ℕ) → i < length ws → entered (holding b (take i ws)) (goal_of (word_at ws i)) ≡ holding b (take (i + 1) ws)
holding_more b ws i lt =
    ap (λ (gs : List Goal). record { goals = gs; settled = 0; plan = None; rows = b })
    (sym (map-append goal_of (take i ws) (word_at ws i ∷ [])) ∙ ap (map goal_of) (sym (rw add-one (take-suc ws i (word 0 0 0 0) lt))))

-- the goals of the first i words are entered
pub record Entering (M : Meaning) (b : Rows) (ws : List Word) (i : ℕ) (m : Model) : Type 0 where
  pub entered : Entered M b ws i
  pub holds : m ≡ holding b (take i ws)

module _ (M : Meaning) (b : Rows) (ws : List Word) where
  pub entering_none : (m : Model) → m ≡ holding b [] → Entering M b ws 0 m
  entering_none m e = record { entered = λ i lt. absurd (omega arith); holds = e }

  pub entering_more : (i n out : ℕ) (m m' : Model) (x : Word) → Entering M b ws i m → i < length ws → x ≡ word_at ws i → out ≡ 0 → (M' : Meaning) → M' ≡ M → Calls M' out m (Enter x) (Number n) m' → Entering M b ws (i + 1) m'
  entering_more i n out m m' x h lt ex eo M' em step =
      let step' = subst₂ (λ (N : Meaning) (y : Word). Step N (world m []) (Enter y) (Number n) (world m' [])) em ex (step [] (sym eo)) in
      let step'' = subst (λ (y : Model). Step M (world y []) (Enter (word_at ws i)) (Number n) (world m' [])) h.holds step' in
      let (none, does) = did M _ _ _ _ step'' refl in
      record {
        entered = below_more _ _ h.entered none;
        holds = ap (λ (w : World). w.model) does.1 ∙ holding_more b ws i lt;
      }

  pub entering_all : (i : ℕ) (m : Model) → length ws ≤ i → i ≤ length ws → Entering M b ws i m → Entered M b ws (length ws) × (m ≡ holding b ws)
  entering_all i m le ge h = (λ j lt. h.entered j (omega arith), h.holds ∙ ap (holding b) (take_all i ws le))

  pub entering_refused : (i out : ℕ) (m m' : Model) (x : Word) (e : Fault) → Entering M b ws i m → i < length ws → x ≡ word_at ws i → out ≡ 0 → (M' : Meaning) → M' ≡ M → Calls M' out m (Enter x) (Refused e) m' →
      RefusedWord M b ws (record { reason = e.reason; place = i })
  entering_refused i out m m' x e h lt ex eo M' em step =
      let step' = subst₂ (λ (N : Meaning) (y : Word). Step N (world m []) (Enter y) (Refused e) (world m' [])) em ex (step [] (sym eo)) in
      let step'' = subst (λ (y : Model). Step M (world y []) (Enter (word_at ws i)) (Refused e) (world m' [])) h.holds step' in
      let (reason, is, same) = refused_so M _ _ _ _ step'' e refl in
      record { within = lt; before = h.entered; reason = reason; layer = refused_layer M _ _ _ _ step'' e refl }
