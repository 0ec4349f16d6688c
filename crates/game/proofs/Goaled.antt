-- Goals and formulas. Assumes nothing.
use Rattle.std.proofs.Common.{◌≡◌, ℕ, suc, ◌<◌, ◌≤◌, Bool, true, false, ◌↔◌, refl, arith}
use native.Mathlib.Decide.{dec_lt}
use Rattle.game.specs.Meaning.{Meaning, Lawful}
use Rattle.game.specs.Objectives.{States}
use Rattle.game.specs.Goals.{Goal}
use Rattle.game.specs.Formulas.{Holds}
use Rattle.game.specs.Theorems.{SetsDecideFormulas, FormulasAreSpelled, GoalsHaveSets}
use Rattle.game.proofs.Bounded.{passes, passed}
use Rattle.game.proofs.Spelling.{decided, spelled}
use Rattle.game.proofs.Holding.{holds?, passes_true}

pub sets_decide_formulas : SetsDecideFormulas
sets_decide_formulas M law R goals n ordered right f hf s hs = decided M law R goals n ordered right (suc f) f (omega arith) hf s hs

pub formulas_are_spelled : FormulasAreSpelled
formulas_are_spelled goals ordered f hf = spelled goals ordered f hf

module _ (M : Meaning) (law : Lawful M) (R : ℕ → States) (φ : Goal) where
  test : (s : ℕ) → Dec (s < M.states) → Bool
  test s (yes h) = passes (holds? M law R φ s h)
  test s (no h) = false

  test_is : (s : ℕ) (d : Dec (s < M.states)) → s < M.states → test s d ≡ true ↔ Holds M R φ s
  unfolding test
  test_is s (yes h) hs = (λ p. passed (holds? M law R φ s h) p, λ x. passes_true (holds? M law R φ s h) x)
  test_is s (no h) hs = absurd (h hs)

  test_past : (s : ℕ) (d : Dec (s < M.states)) → M.states ≤ s → test s d ≡ false
  unfolding test
  test_past s (yes h) hs = absurd (omega arith)
  test_past s (no h) hs = refl

pub goals_have_sets : GoalsHaveSets
goals_have_sets M law R φ = (
  λ s. test M law R φ s (dec_lt s M.states),
  record {
    decides = λ s hs. test_is M law R φ s (dec_lt s M.states) hs;
    past = λ s hs. test_past M law R φ s (dec_lt s M.states) hs;
  },
)
