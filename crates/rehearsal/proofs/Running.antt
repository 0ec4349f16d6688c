-- Runs that grow by one call at their end. Assumes nothing.
use Rattle.std.proofs.Common.{◌≡◌, ℕ, ◌+◌, ◌<◌, ◌≤◌, false, List, [], ◌∷◌, ◌++◌, length, get_or, take, sym, subst, arith, take_all}
use Rattle.std.proofs.lemmas.List.{take_more}
use Rattle.game.specs.Meaning.{Meaning}
use Rattle.law.specs.Worlds.{Model, World}
use Rattle.law.specs.Refusals.{no_board}
use Rattle.law.specs.Steps.{Step, Run, rest, goes}
use Rattle.law.specs.declared.call.Call.{Call}
use Rattle.law.specs.declared.call.Answer.{Answer}
use Rattle.cases.specs.declared.outcome.Play.{Play as Token}
use Rattle.cases.specs.Shows.{world}
use Rattle.rehearsal.specs.Served.{Served, Ran}
use Rattle.rehearsal.proofs.Seating.{seated_length, some_plays}
use Rattle.rehearsal.proofs.Fitting.{step_fit}

run_more : (M : Meaning) (a b d : World) (c : Call) (r : Answer) (cs : List Call) (rs : List Answer) → Run M a cs rs b → Step M b c r d → Run M a (cs ++ c ∷ []) (rs ++ r ∷ []) d
run_more M a b d c r cs rs (rest x) s = goes x d d c r [] [] s (rest d)
run_more M a b d c r cs rs (goes x y z p q ps qs h t) s = goes x y d p q (ps ++ c ∷ []) (qs ++ r ∷ []) h (run_more M y b d c r ps qs t s)

pub ran_none : (M : Meaning) (m : Model) (ts : List Token) → Ran M m ts [] [] m ts
ran_none M m ts qs h = (qs, rest (world m qs), h)

pub ran_more : {S : Type 0} (means : S → Meaning) (x y : S) (m m₁ m₂ : Model) (ts ts₁ ts₂ : List Token) (cs : List Call) (i : ℕ) (d : Call) (rs rs' : List Answer) (r : Answer) →
    x ≡ y → i < length cs → Ran (means y) m ts (take i cs) rs m₁ ts₁ → Served (means x) m₁ ts₁ (get_or cs i d) r m₂ ts₂ → rs' ≡ rs ++ r ∷ [] → Ran (means y) m ts (take (i + 1) cs) rs' m₂ ts₂
ran_more means x y m m₁ m₂ ts ts₁ ts₂ cs i d rs rs' r same less ran served e qs h =
    let M = means y in
    let (qs₁, run, h₁) = ran qs h in
    let (qs₂, step, h₂) = subst (λ z. Served (means z) m₁ ts₁ (get_or cs i d) r m₂ ts₂) same served qs₁ h₁ in (
      qs₂,
      subst (λ l. Run M (world m qs) l rs' (world m₂ qs₂)) (sym (take_more cs i d less)) (subst (λ l. Run M (world m qs) (take i cs ++ get_or cs i d ∷ []) l (world m₂ qs₂)) (sym e)
          (run_more M (world m qs) (world m₁ qs₁) (world m₂ qs₂) (get_or cs i d) r (take i cs) rs run step)),
      h₂,
    )

pub ran_all : (M : Meaning) (m m' : Model) (ts ts' : List Token) (cs : List Call) (n : ℕ) (rs : List Answer) → length cs ≤ n → Ran M m ts (take n cs) rs m' ts' → Ran M m ts cs rs m' ts'
ran_all M m m' ts ts' cs n rs le h = subst (λ l. Ran M m ts l rs m' ts') (take_all n cs le) h

pub served_fit : (M : Meaning) (m m' : Model) (ts ts' : List Token) (c : Call) (r : Answer) → Served M m ts c r m' ts' → (0 < length ts → no_board M m ≡ false) → 0 < length ts' → no_board M m' ≡ false
served_fit M m m' ts ts' c r served fit some =
    let (qs, h) = some_plays ts in
    let (qs', step, h') = served qs h in
    step_fit M (world m qs) c r (world m' qs') step (λ more. fit (omega (arith, seated_length ts qs h))) (omega (arith, seated_length ts' qs' h'))
