-- What the sheet's move does at a granted state where the goal is not met. Assumes nothing.
use Rattle.std.proofs.Common.{◌≡◌, ℕ, suc, ◌+◌, ◌<◌, true, false, ◌⊎◌, refl, inl, inr, arith}
use Rattle.std.proofs.lemmas.Bool.{le-leb, and_parts, ltb-true}
use Rattle.game.specs.Meaning.{Meaning, GroupChoice, Reply}
use Rattle.game.specs.Objectives.{Objective, States, ◌∈◌}
use Rattle.game.specs.Sheets.{Sheet, IsSheet}
use Rattle.boards.specs.Meaning.{Rows}
use Rattle.game.specs.declared.goal.Goal.{Goal}
use Rattle.game.specs.declared.goal.Goal.TheVariants.{True as TRUE, Atom as ATOM, Not as NOT, Or as OR, And as AND, Each as EACH, Common as COMMON, Joint as JOINT, Next as NEXT, Always as ALWAYS, Until as UNTIL}
use Rattle.game.specs.Goals.{earlier}
use Rattle.game.specs.Formulas.{Aims, of_next, of_always, of_until}
use Rattle.law.specs.Worlds.{met_by}

-- the move is a group's choice, and under every reply the play is met or stays granted
pub moves : (M : Meaning) (b : Rows) (φ : Goal) (g : ℕ) (a : Objective) (P : States) (S : Sheet) → Aims b.marked φ g a → IsSheet M g a P S →
    (s k : ℕ) → s < M.states → s ∈ P → met_by b φ s k ≡ false →
    GroupChoice M g s (S.move s) × ((r : ℕ) → Reply M g s r → (met_by b φ (M.next s (S.move s + r)) (suc k) ≡ true) ⊎ (M.next s (S.move s + r) ∈ P))
moves M b φ g a P S (of_next g' c) sh s k hs hp out =
    let m = (sh.granted s hs hp).1.0 in (m.0, λ r hr. inl (le-leb 1 (suc k) (omega arith)))
moves M b φ g a P S (of_always g' c) sh s k hs hp out =
    let m = (sh.granted s hs hp).1.0 in (m.0, λ r hr. inr (m.1 r hr))
moves M b φ g a P S (of_until g' c d) sh s k hs hp out =
    let m = ((sh.granted s hs hp).1 out).3.0 in (m.0, λ r hr. inr (m.1 r hr).0)

pub met_same : (b b' : Rows) (n : ℕ) (φ : Goal) → earlier n φ ≡ true → ((q t : ℕ) → q < n → b'.marked q t ≡ b.marked q t) → (s k : ℕ) → met_by b' φ s k ≡ met_by b φ s k
met_same b b' n TRUE e h s k = refl
met_same b b' n (ATOM p) e h s k = refl
met_same b b' n (NOT c) e h s k = refl
met_same b b' n (OR c d) e h s k = refl
met_same b b' n (AND c d) e h s k = refl
met_same b b' n (EACH g c) e h s k = refl
met_same b b' n (COMMON g c) e h s k = refl
met_same b b' n (JOINT g c) e h s k = refl
met_same b b' n (NEXT g c) e h s k = refl
met_same b b' n (ALWAYS g c) e h s k = refl
met_same b b' n (UNTIL g c d) e h s k = h d s (ltb-true d n (and_parts _ _ e).1)
