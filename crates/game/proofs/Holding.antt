-- Where a goal holds is decided. Assumes nothing.
use Rattle.std.proofs.Common.{◌≡◌, ℕ, ◌<◌, true, ◌⊎◌, refl, inl, inr}
use Rattle.game.specs.Meaning.{Meaning, Lawful, member}
use Rattle.game.specs.Objectives.{Objective, nexttime, always, until, States, ◌∈◌, ◌∉◌, Granted}
use Rattle.game.proofs.Bounded.{all_or_some, true_or_false, clash, Decided, passes, passed, true?, false?, same?, both?, if?, below?}
use Rattle.game.proofs.Rounds.{Reached, reached_closed, reached_all}
use Rattle.game.proofs.Strategy.{sheets_exist}
use Rattle.game.specs.Goals.{Goal, TRUE, ATOM, NOT, OR, AND, EACH, COMMON, JOINT, NEXT, ALWAYS, UNTIL}
use Rattle.game.specs.Formulas.{Doubts, Blind, Chain, stay, pass, Holds}

pub passes_true : {A : Type 0} → (e : Decided A) → A → passes e ≡ true
passes_true (inl a) h = refl
passes_true (inr f) h = absurd (f h)

either? : {A B : Type 0} → Decided A → Decided B → Decided (A ⊎ B)
either? (inl a) e = inl (inl a)
either? (inr f) (inl b) = inl (inr b)
either? (inr f) (inr g) = inr (λ x. elim x [ inl a ↦ f a | inr b ↦ g b ])

some? : (Q : ℕ → Type 0) → ((k : ℕ) → Decided (Q k)) → (n : ℕ) → Decided ((k : ℕ) × (k < n) × Q k)
some? Q each n = elim (all_or_some (λ k. ¬ Q k) Q (λ k. elim (each k) [ inl q ↦ inr q | inr f ↦ inl f ]) n) [
  | inl none ↦ inr (λ (k, hk, q). none k hk q)
  | inr yes-some ↦ inl yes-some
]

granted? : (M : Meaning) → Lawful M → (g : ℕ) (φ : Objective) (s : ℕ) → s < M.states → Decided (Granted M g φ s)
granted? M law g φ s hs =
    let (P, set, rest) = sheets_exist M law g φ in
    elim (true_or_false (P s)) [ inl y ↦ inl ((set.decides s hs).0 y) | inr n ↦ inr (λ h. clash ((set.decides s hs).1 h) n) ]

module _ (M : Meaning) (g : ℕ) where
  doubts? : (s t : ℕ) → Decided (Doubts M g s t)
  doubts? s t = elim (some? (λ i. (member g i ≡ true) × (M.look i t ≡ M.look i s)) (λ i. both? (true? (member g i)) (same? (M.look i t) (M.look i s))) M.agents) [
    | inl (i, hi, (m, e)) ↦ inl (i, hi, m, e)
    | inr f ↦ inr (λ (i, hi, m, e). f (i, hi, (m, e)))
  ]

  blind? : (s t : ℕ) → Decided (Blind M g s t)
  blind? s t = below? (λ i. member g i ≡ true → M.look i t ≡ M.look i s) (λ i. if? (true? (member g i)) (same? (M.look i t) (M.look i s))) M.agents

  -- a state outside C, or one that doubts a state of X
  Bad : States → States → ℕ → Type 0
  Bad C X s = (s ∉ C) ⊎ ((t : ℕ) × (t < M.states) × (Doubts M g s t × (t ∈ X)))

  bad? : (C X : States) (s : ℕ) → Decided (Bad C X s)
  unfolding Bad
  bad? C X s = either? (false? (C s)) (some? (λ t. Doubts M g s t × (t ∈ X)) (λ t. both? (doubts? s t) (true? (X t))) M.states)

  bads : States → States → States
  bads C X s = passes (bad? C X s)

  bads_mono : (C X Y : States) → ((u : ℕ) → u < M.states → u ∈ X → u ∈ Y) → (t : ℕ) → t < M.states → t ∈ bads C X → t ∈ bads C Y
  unfolding bads Bad
  bads_mono C X Y sub t ht h = passes_true (bad? C Y t) (elim (passed (bad? C X t) h) [ inl n ↦ inl n | inr (u, hu, (d, x)) ↦ inr (u, hu, (d, sub u hu x)) ])

  common? : (C : States) (s : ℕ) → s < M.states → Decided ((t : ℕ) → Chain M g s t → t ∈ C)
  unfolding bads Bad
  common? C s hs = elim (true_or_false (Reached M.states (bads C) (bads_mono C) s)) [
    | inl bad ↦ inr (λ all. let (t, c, n) = found s hs bad in clash (all t c) n)
    | inr good ↦ inl (λ t c. fine s t hs c good)
  ]
    where
      found : (s : ℕ) → s < M.states → s ∈ Reached M.states (bads C) (bads_mono C) → (t : ℕ) × Chain M g s t × (t ∉ C)
      found = reached_all M.states (bads C) (bads_mono C) (λ s. (t : ℕ) × Chain M g s t × (t ∉ C)) (λ X sub t ht h. elim (passed (bad? C X t) h) [
        | inl n ↦ (t, stay t, n)
        | inr (u, hu, (d, x)) ↦ let (v, c, n) = sub u hu x in (v, pass t u v hu d c, n)
      ])

      back : (s : ℕ) → s < M.states → Bad C (Reached M.states (bads C) (bads_mono C)) s → s ∈ Reached M.states (bads C) (bads_mono C)
      back s hs h = reached_closed M.states (bads C) (bads_mono C) s hs (passes_true (bad? C (Reached M.states (bads C) (bads_mono C)) s) h)

      fine : (s t : ℕ) → s < M.states → Chain M g s t → s ∉ Reached M.states (bads C) (bads_mono C) → t ∈ C
      fine s t hs (stay s') good = elim (true_or_false (C t)) [ inl y ↦ y | inr n ↦ absurd (clash (back t hs (inl n)) good) ]
      fine s t hs (pass s' u t' hu d c) good = fine u t hu c (elim (true_or_false (Reached M.states (bads C) (bads_mono C) u)) [
        | inl bad ↦ absurd (clash (back s hs (inr (u, hu, (d, bad)))) good)
        | inr ok ↦ ok
      ])

pub holds? : (M : Meaning) → Lawful M → (R : ℕ → States) (φ : Goal) (s : ℕ) → s < M.states → Decided (Holds M R φ s)
holds? M law R TRUE s hs = inl tt
holds? M law R (ATOM p) s hs = true? (M.holds p s)
holds? M law R (NOT c) s hs = false? (R c s)
holds? M law R (OR c d) s hs = either? (true? (R c s)) (true? (R d s))
holds? M law R (AND c d) s hs = both? (true? (R c s)) (true? (R d s))
holds? M law R (EACH g c) s hs = below? (λ t. Doubts M g s t → t ∈ R c) (λ t. if? (doubts? M g s t) (true? (R c t))) M.states
holds? M law R (COMMON g c) s hs = common? M g (R c) s hs
holds? M law R (JOINT g c) s hs = below? (λ t. Blind M g s t → t ∈ R c) (λ t. if? (blind? M g s t) (true? (R c t))) M.states
holds? M law R (NEXT g c) s hs = granted? M law g (nexttime (R c)) s hs
holds? M law R (ALWAYS g c) s hs = granted? M law g (always (R c)) s hs
holds? M law R (UNTIL g c d) s hs = granted? M law g (until (R c) (R d)) s hs
