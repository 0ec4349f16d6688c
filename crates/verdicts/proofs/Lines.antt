-- The lines of all goals are those of their formulas. Assumes nothing.
use Rattle.std.proofs.Common.{◌≡◌, ℕ, zero, suc, ◌<◌, ◌≤◌, false, not, ◌||◌, eqb, ◌↔◌, List, [], ◌++◌, length, take, Ok, Err, vec_items, Result, Vec, sym, refl, ap, ◌∙◌, subst, subst₂, add-one, arith, take_all, MatchResult}
use lib.ListN.{length-map}
use Rattle.std.specs.declared.alloc.Global.{Global}
use Rattle.game.specs.Meaning.{Meaning, Lawful}
use Rattle.game.specs.Objectives.{◌∈◌}
use Rattle.game.specs.Goals.{goal_of}
use Rattle.game.specs.Formulas.{Sat, formula}
use Rattle.game.specs.declared.goal.Goal.{Goal}
use Rattle.game.specs.declared.goal.Word.{Word}
use Rattle.boards.specs.Meaning.{Rows, Sound}
use Rattle.law.specs.Worlds.{Model, World, opened}
use Rattle.law.specs.Refusals.{refusals, no_board}
use Rattle.law.specs.Steps.{entered, Run, rest, goes}
use Rattle.law.specs.declared.call.Call.{Call}
use Rattle.law.specs.declared.call.Call.TheVariants.{Enter}
use Rattle.law.specs.declared.call.Answer.{Answer}
use Rattle.law.proofs.Calls.{passes}
use Rattle.law.proofs.Lawfully.{law_stands}
use Rattle.cases.specs.Shows.{world}
use Rattle.game.specs.declared.fault.Stop.{Stop}
use Rattle.game.specs.declared.fault.Stop.TheVariants.{Memory}
use Rattle.cases.proofs.Stepping.{step_does}
use Rattle.verdicts.specs.declared.line.Line.{Line}
use Rattle.verdicts.specs.Reports.{IsLine}
use Rattle.verdicts.specs.Judging.{word_at, line_at, holding, Entered, Judged, Judges, Leads}
use Rattle.verdicts.proofs.Entering.{holding_more}
use Rattle.verdicts.proofs.Settling.{run_more}

run_append : (M : Meaning) (w x y : World) (cs ks : List Call) (rs js : List Answer) → Run M w cs rs x → Run M x ks js y → Run M w (cs ++ ks) (rs ++ js) y
run_append M w x y cs ks rs js (rest w₀) run = run
run_append M w x y cs ks rs js (goes w₀ z x₀ c r cs' rs' s more) run = goes _ _ _ _ _ _ _ s (run_append M z x y cs' ks rs' js more run)

module _ (M : Meaning) (b : Rows) (ws : List Word) where
  -- a case in which a goal was entered has a board that fits
  pub fits : Entered M b ws (length ws) → 0 < length ws → no_board M (holding b ws) ≡ false
  fits h some = let t = passes (refusals M (world (holding b (take 0 ws)) []) (Enter (word_at ws 0))) (h 0 some) in t.0

  -- on the way to it
  pub fits_still : (m : Model) → Leads M (holding b ws) m → no_board M (holding b ws) ≡ false → no_board M m ≡ false
  fits_still m h fit = (λ i. eqb (h.rows i) 0 || not (eqb (h.states i) M.states)) ∙ fit

  entered_run : (n : ℕ) → n ≤ length ws → Entered M b ws (length ws) → (cs : List Call) × (rs : List Answer) × Run M (opened b) cs rs (world (holding b (take n ws)) [])
  entered_run zero le h = ([], [], rest (opened b))
  entered_run (suc n) le h =
      let (cs, rs, run) = entered_run n (omega arith) h in
      let more = subst (λ k. holding b (take k ws) ≡ entered (holding b (take n ws)) (goal_of (word_at ws n))) (add-one n) (sym (holding_more b ws n (omega arith))) in
      (_, _, run_more M _ _ _ cs rs _ _ run (step_does M _ (Enter (word_at ws n)) _ _ (h n (omega arith)) (refl, ap (λ (y : Model). world y []) more)))

  pub judged : Lawful M → Sound b → (m : Model) (xs : List Line) → Entered M b ws (length ws) → Leads M (holding b ws) m → m.settled ≡ length ws → length xs ≡ length ws →
      ((f : ℕ) → f < length ws → IsLine M f (m.rows.marked f) (line_at xs f)) → Judged M b ws xs
  judged law sound m xs h leads settled long lines =
      let (cs, rs, run) = entered_run (length ws) (omega arith) h in
      let run' = subst (λ (y : List Word). Run M (opened b) cs rs (world (holding b y) [])) (take_all (length ws) ws (omega arith)) run in
      let stands = (law_stands M law b sound _ _ _ (run_append M _ _ _ _ _ _ _ run' leads.run)).promise.decides in
      record {
        entered = h;
        long = long;
        lines = λ f lt. (
          m.rows.marked f,
          λ s hs. subst (λ (gs : List Goal). s ∈ m.rows.marked f ↔ Sat M (formula gs f) s) leads.goals (stands f (omega (arith, settled)) s hs),
          lines f lt,
        );
      }

  -- with the case's own system and model in their places
  module _ (N : Meaning) (same : N ≡ M) (m : Model) (holds : m ≡ holding b ws) where
    pub many : length m.goals ≡ length ws
    many = ap (λ (y : Model). length y.goals) holds ∙ length-map ws goal_of

    pub none : m.settled ≡ 0
    none = ap (λ (y : Model). y.settled) holds

    pub ready : Entered M b ws (length ws) → 0 < length ws → no_board N m ≡ false
    ready h some = subst₂ (λ (X : Meaning) (y : Model). no_board X y ≡ false) (sym same) (sym holds) (fits h some)

    pub lead : (m' : Model) → Leads N m m' → Leads M (holding b ws) m'
    lead m' = subst₂ (λ (X : Meaning) (y : Model). Leads X y m') same holds

  pub ready_still : (N : Meaning) → N ≡ M → (m : Model) → Leads M (holding b ws) m → Entered M b ws (length ws) → 0 < length ws → no_board N m ≡ false
  ready_still N same m leads h some = subst (λ (X : Meaning). no_board X m ≡ false) (sym same) (fits_still m leads (fits h some))

  pub judges : Lawful M → Sound b → (N : Meaning) → N ≡ M → (m : Model) → Entered M b ws (length ws) → Leads M (holding b ws) m → m.settled ≡ length ws → (r : Result (Vec Line Global) Stop) →
      MatchResult r (λ v. (length (vec_items v) ≡ length ws) × ((f : ℕ) → f < length ws → IsLine N f (m.rows.marked f) (line_at (vec_items v) f))) (λ e. e ≡ Memory) → Judges M b ws r
  judges law sound N same m h leads settled (Ok v) k = judged law sound m (vec_items v) h leads settled k.0 (λ f lt. subst (λ (X : Meaning). IsLine X f (m.rows.marked f) (line_at (vec_items v) f)) same (k.1 f lt))
  judges law sound N same m h leads settled (Err e) k = subst (λ (x : Stop). Judges M b ws (Err x)) (sym k) tt
