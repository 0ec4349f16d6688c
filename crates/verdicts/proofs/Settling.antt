-- Settling goals, one after another. Assumes nothing.
use Rattle.std.proofs.Common.{◌≡◌, ℕ, ◌+◌, ◌<◌, false, cond, not, ◌||◌, eqb, leb, List, [], ◌∷◌, ◌++◌, length, Some, None, Err, Option, sym, refl, ap, ◌∙◌, subst, arith}
use Rattle.std.proofs.lemmas.Bool.{lt-leb}
use Rattle.game.specs.Meaning.{Meaning}
use Rattle.game.specs.declared.fault.Fault.{Fault}
use Rattle.game.specs.declared.fault.Reason.{Reason}
use Rattle.game.specs.declared.fault.Reason.TheVariants.{NoBoard, AllSettled}
use Rattle.law.specs.Worlds.{Model, World}
use Rattle.law.specs.Refusals.{refusals, first, no_board}
use Rattle.law.specs.Steps.{Step, Run, rest, goes}
use Rattle.law.specs.declared.call.Call.{Call}
use Rattle.law.specs.declared.call.Call.TheVariants.{Settle}
use Rattle.law.specs.declared.call.Answer.{Answer}
use Rattle.law.specs.declared.call.Answer.TheVariants.{Done, Refused}
use Rattle.law.proofs.Speaking.{refused_so}
use Rattle.cases.specs.Shows.{world, Tries}
use Rattle.game.specs.declared.fault.Stop.{Stop}
use Rattle.game.specs.declared.fault.Stop.TheVariants.{Refused as Stopped, Memory}
use Rattle.verdicts.specs.Judging.{Leads}
use Rattle.verdicts.proofs.Entering.{did}

pub some_none : {r : Reason} → ◌≡◌ {A = Option Reason} (Some r) None → ⊥
some_none e = let z : ◌≡◌ {A = ℕ} 0 1 = cc in absurd (omega arith)

-- a run and one call more
pub run_more : (M : Meaning) (w x y : World) (cs : List Call) (rs : List Answer) (c : Call) (r : Answer) → Run M w cs rs x → Step M x c r y → Run M w (cs ++ c ∷ []) (rs ++ r ∷ []) y
run_more M w x y cs rs c r (rest w₀) step = goes _ _ _ _ _ _ _ step (rest y)
run_more M w x y cs rs c r (goes w₀ z x₀ k a ks js s run) step = goes _ _ _ _ _ _ _ s (run_more M z x y ks js c r run step)

-- so many goals are settled
pub record Settling (M : Meaning) (m : Model) (k : ℕ) (m' : Model) : Type 0 where
  pub leads : Leads M m m'
  pub settled : m'.settled ≡ k

module _ (M : Meaning) (m : Model) where
  pub settling_none : m.settled ≡ 0 → Settling M m 0 m
  settling_none e = record {
    leads = record { calls = []; answers = []; run = rest (world m []); rows = refl; states = refl; goals = refl };
    settled = e;
  }

  pub settling_more : (k : ℕ) (m' m'' : Model) → Settling M m k m' → Step M (world m' []) Settle Done (world m'' []) → Settling M m (k + 1) m''
  settling_more k m' m'' h step =
      let (none, (is, (P, set, became), plays)) = did M _ _ _ _ step refl in
      let old = h.leads in
      record {
        leads = record {
          calls = old.calls ++ Settle ∷ [];
          answers = old.answers ++ Done ∷ [];
          run = run_more M _ _ _ _ _ _ _ old.run step;
          rows = ap (λ (y : Model). y.rows.rows) became ∙ old.rows;
          states = ap (λ (y : Model). y.rows.states) became ∙ old.states;
          goals = ap (λ (y : Model). y.goals) became ∙ old.goals;
        };
        settled = ap (λ (y : Model). y.settled) became ∙ ap (λ j. j + 1) h.settled;
      }

  -- nothing refuses to settle a goal that is there
  pub settles : (k : ℕ) (m' m'' : Model) (e : Fault) → Settling M m k m' → k < length m.goals → no_board M m ≡ false → Step M (world m' []) Settle (Refused e) (world m'' []) → ⊥
  settles k m' m'' e h lt fit step =
      let (number, is, same) = refused_so M _ _ _ _ step e refl in
      let fit' : no_board M m' ≡ false = (λ i. eqb (h.leads.rows i) 0 || not (eqb (h.leads.states i) M.states)) ∙ fit in
      let more : leb (length m'.goals) m'.settled ≡ false = lt-leb _ _ (omega (arith, h.settled, ap length h.leads.goals)) in
      let none : first (refusals M (world m' []) Settle) ≡ None = (λ i. cond (fit' i) (Some NoBoard) (cond (more i) (Some AllSettled) None)) in
      some_none (sym number ∙ none)

  -- so it stops only for want of memory
  pub stops : (k out : ℕ) (m' m'' : Model) → Settling M m k m' → k < length m.goals → no_board M m ≡ false → out ≡ 0 → (M' : Meaning) → M' ≡ M → (e : Stop) → Tries M' out m' Settle (Err e) m'' → e ≡ Memory
  stops k out m' m'' h lt fit eo M' em (Stopped e) t = absurd (settles k m' m'' e h lt fit (subst (λ (N : Meaning). Step N (world m' []) Settle (Refused e) (world m'' [])) em (t [] (sym eo))))
  stops k out m' m'' h lt fit eo M' em Memory t = refl
