-- The lowest reply found is the sheet's. Assumes nothing.
use Rattle.std.proofs.Common.{◌≡◌, ℕ, ◌-◌, ◌<◌, not, List, Option, unwrap_or, sym, refl, ap, subst, subst₂, inl, inr, arith}
use Rattle.game.specs.Meaning.{Meaning, Lawful, GroupChoice}
use Rattle.game.specs.Objectives.{Objective, nexttime, always, until, States, ◌∉◌}
use Rattle.game.specs.Sheets.{IsSheet}
use Rattle.game.specs.Formulas.{Aims, of_next, of_always, of_until}
use Rattle.game.specs.declared.goal.Goal.{Goal}
use Rattle.game.specs.declared.goal.Goal.TheVariants.{Next, Always, Until}
use Rattle.game.proofs.Bounded.{true_or_false}
use Rattle.arenas.specs.declared.entry.Entry.{Entry}
use Rattle.plans.specs.Drawing.{granted_in, rank_in, choice_in, losing}
use Rattle.plans.specs.Replying.{LowestInto}
use Rattle.plans.proofs.Replies.{replies_shown}
use Rattle.law.proofs.Journeys.{aims_unique}
use Rattle.cases.specs.Planning.{RepliesAs}

-- b is the reply of every sheet of the objective ψ with these entries
abbrev Replies : Meaning → ℕ → Objective → List Entry → ℕ → ℕ → ℕ → Type 0
Replies M g ψ es s a b =
    (f : ℕ → ℕ → ℕ) → IsSheet M g ψ (granted_in es) (record { rank = rank_in es; move = choice_in es; reply = f }) → s < M.states → s ∉ granted_in es → GroupChoice M g s a → b ≡ f s a

by_aims : (M : Meaning) (R : ℕ → States) (φ : Goal) (es : List Entry) (s a b g : ℕ) (ψ : Objective) → Aims R φ g ψ → Replies M g ψ es s a b → RepliesAs M R φ es s a b
by_aims M R φ es s a b g ψ own h g' ψ' aims = let u = aims_unique R φ g ψ g' ψ' own aims in subst₂ (λ x y. Replies M x y es s a b) u.0 u.1 h

pub no_aims : (R : ℕ → States) (φ : Goal) (g : ℕ) (ψ : Objective) → ((g c : ℕ) → φ ≡ Next g c → ⊥) → ((g c : ℕ) → φ ≡ Always g c → ⊥) → ((g c d : ℕ) → φ ≡ Until g c d → ⊥) → Aims R φ g ψ → ⊥
no_aims R φ g ψ x y z (of_next g' c) = x g c refl
no_aims R φ g ψ x y z (of_always g' c) = y g c refl
no_aims R φ g ψ x y z (of_until g' c d) = z g c d refl

module _ (M : Meaning) (law : Lawful M) (R : ℕ → States) (φ : Goal) (g : ℕ) (es : List Entry) (s a : ℕ) where
  pub next_answer : (c : ℕ) (o : Option ℕ) → φ ≡ Next g c → LowestInto M g s a (λ u. not (R c u)) o → RepliesAs M R φ es s a (unwrap_or o 0)
  next_answer c o is low = by_aims M R φ es s a (unwrap_or o 0) g (nexttime (R c)) (subst (λ x. Aims R x g (nexttime (R c))) (sym is) (of_next g c))
      (λ f sheet hs out ga. ap (λ x. unwrap_or x 0) (replies_shown M law g (nexttime (R c)) es f sheet s hs out tt a ga o low))

  module _ (c : ℕ) (is : φ ≡ Always g c) where
    own_always : Aims R φ g (always (R c))
    own_always = subst (λ x. Aims R x g (always (R c))) (sym is) (of_always g c)

    pub always_none : rank_in es s ≡ 0 → RepliesAs M R φ es s a 0
    always_none low = by_aims M R φ es s a 0 g (always (R c)) own_always (λ f sheet hs out ga. elim (true_or_false (R c s)) [
      | inl hc ↦ absurd (let e = ((sheet.denied s hs out).1 hc).1 in omega arith)
      | inr nc ↦ sym (((sheet.denied s hs out).0 nc).1 a ga)
    ])

    pub always_answer : (o : Option ℕ) → ¬ (rank_in es s ≡ 0) → LowestInto M g s a (losing es (rank_in es s - 1)) o → RepliesAs M R φ es s a (unwrap_or o 0)
    always_answer o more low = by_aims M R φ es s a (unwrap_or o 0) g (always (R c)) own_always (λ f sheet hs out ga. elim (true_or_false (R c s)) [
      | inl hc ↦ ap (λ x. unwrap_or x 0) (replies_shown M law g (always (R c)) es f sheet s hs out hc a ga o low)
      | inr nc ↦ absurd (more ((sheet.denied s hs out).0 nc).0)
    ])

  module _ (c d : ℕ) (is : φ ≡ Until g c d) where
    own_until : Aims R φ g (until (R c) (R d))
    own_until = subst (λ x. Aims R x g (until (R c) (R d))) (sym is) (of_until g c d)

    pub until_none : rank_in es s ≡ 0 → RepliesAs M R φ es s a 0
    until_none low = by_aims M R φ es s a 0 g (until (R c) (R d)) own_until (λ f sheet hs out ga. elim (true_or_false (R c s)) [
      | inl hc ↦ absurd (omega (arith, ((sheet.denied s hs out).1 hc).0))
      | inr nc ↦ sym (((sheet.denied s hs out).0 nc).1 a ga)
    ])

    pub until_answer : (o : Option ℕ) → ¬ (rank_in es s ≡ 0) → LowestInto M g s a (losing es 65535) o → RepliesAs M R φ es s a (unwrap_or o 0)
    until_answer o more low = by_aims M R φ es s a (unwrap_or o 0) g (until (R c) (R d)) own_until (λ f sheet hs out ga. elim (true_or_false (R c s)) [
      | inl hc ↦ ap (λ x. unwrap_or x 0) (replies_shown M law g (until (R c) (R d)) es f sheet s hs out hc a ga o low)
      | inr nc ↦ absurd (more ((sheet.denied s hs out).0 nc).0)
    ])
