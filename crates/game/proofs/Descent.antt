-- A play along which a rank falls until it stops, stops within its first rank. Assumes nothing.
use Rattle.std.proofs.Common.{ℕ, zero, suc, ◌+◌, ◌<◌, ◌≤◌, ◌⊎◌, inl, inr, not-suc-le-zero, arith}
use Rattle.game.proofs.Bounded.{one_more}

module _ (π : ℕ → ℕ) (A Stop Go : ℕ → Type 0) (stop? : (t : ℕ) → Stop t ⊎ Go t) (ρ : ℕ → ℕ)
    (fall : (k : ℕ) → ((i : ℕ) → i < suc k → Go (π i)) → A (π k) → A (π (suc k)) × (ρ (π (suc k)) < ρ (π k))) where
  Gone : ℕ → Type 0
  Gone i = A (π i) × Go (π i)

  from : (fuel j : ℕ) → ρ (π j) ≤ fuel → A (π j) → ((i : ℕ) → i < j → A (π i) × Go (π i)) →
      (k : ℕ) × (k ≤ j + fuel) × Stop (π k) × ((i : ℕ) → i < k → A (π i) × Go (π i))
  unfolding Gone
  from zero j small a gone =
      elim (stop? (π j)) [
        | inl stop ↦ (j, omega arith, stop, gone)
        | inr go ↦ let (a', less) = fall j (one_more (λ i. Go (π i)) j (λ i h. (gone i h).1) go) a in absurd (omega arith)
      ]
  from (suc fuel) j small a gone =
      elim (stop? (π j)) [
        | inl stop ↦ (j, omega arith, stop, gone)
        | inr go ↦
            let (a', less) = fall j (one_more (λ i. Go (π i)) j (λ i h. (gone i h).1) go) a in
            let (k, near, stop, rest) = from fuel (suc j) (omega arith) a' (one_more Gone j gone (a, go)) in
            (k, omega arith, stop, rest)
      ]

  pub descends : A (π 0) → (k : ℕ) × (k ≤ ρ (π 0)) × Stop (π k) × ((i : ℕ) → i < k → A (π i) × Go (π i))
  descends a = let (k, near, stop, rest) = from (ρ (π 0)) 0 (omega arith) a (λ i h. absurd (not-suc-le-zero h)) in (k, omega arith, stop, rest)
