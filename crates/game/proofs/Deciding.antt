-- The table's rows are decided by search, so a sheet that is written out is checked by computation. Assumes nothing.
use Rattle.std.proofs.Common.{◌≡◌, ℕ, suc, ◌+◌, ◌^◌, ◌<◌, ◌≤◌, true, inl, inr}
use native.Mathlib.Decide.{dec_le, ℕ_discrete}
use Rattle.game.specs.Meaning.{Meaning, member, GroupChoice, Reply, Leads, Pre, Evades}
use Rattle.game.specs.Objectives.{Objective, nexttime, always, until, States, ◌∈◌, ◌∉◌}
use Rattle.game.specs.Sheets.{Sheet, Least, LowestMove, LowestReplies, WhereGranted, WhereDenied, IsSheet}
use Rattle.game.proofs.Bounded.{Decided, passes, passed, true?, false?, of_dec, same?, both?, if?, below?, least?, suc?}
use Rattle.game.proofs.Steps.{part?, duel}
use Rattle.game.proofs.Lowest.{lead?, answer?}

module _ (M : Meaning) (g t : ℕ) (X : ℕ → Type 0) (each : (u : ℕ) → Decided (X u)) where
  unfoldable pub pre? : Decided (Pre M g X t)
  unfolding duel
  pre? = elim (duel M g t X (λ u. ¬ X u) each) [
    | inl pre ↦ inl pre
    | inr evades ↦ inr (λ (a, ga, leads). let (b, rb, out) = evades a ga in out (leads b rb))
  ]

  unfoldable pub evades? : Decided (Evades M g X t)
  unfolding duel
  evades? = elim (duel M g t (λ u. ¬ X u) X (λ u. elim (each u) [ inl x ↦ inr x | inr f ↦ inl f ])) [
    | inl (a, ga, leads) ↦ inr (λ evades. let (b, rb, x) = evades a ga in leads b rb x)
    | inr evades ↦ inl evades
  ]

  unfoldable pub move? : (a : ℕ) → Decided (LowestMove M g t X a)
  unfolding least? lead?
  move? a = least? (λ x. GroupChoice M g t x × Leads M g t X x) (lead? M g X each t) a

  unfoldable pub to_all : (P : ℕ → Type 0) → ((a : ℕ) → Decided (P a)) → Decided ((a : ℕ) → GroupChoice M g t a → P a)
  unfolding below? part?
  to_all P each = elim (below? (λ a. GroupChoice M g t a → P a) (λ a. if? (part? M (member g) t a) (each a)) (4 ^ M.agents)) [
    | inl all ↦ inl (λ a ga. all a ga.fits ga)
    | inr f ↦ inr (λ all. f (λ a _. all a))
  ]

  unfoldable pub replies? : (f : ℕ → ℕ) → Decided (LowestReplies M g t X f)
  unfolding to_all least? answer?
  replies? f = to_all (λ a. Least (λ b. Reply M g t b × X (M.next t (a + b))) (f a)) (λ a. least? (λ b. Reply M g t b × X (M.next t (a + b))) (answer? M g X each t a) (f a))

module _ (M : Meaning) (g : ℕ) (P : States) (S : Sheet) where
  unfoldable pub near? : (r u : ℕ) → Decided ((u ∈ P) × (S.rank u ≤ r))
  unfolding dec_le
  near? r u = both? (true? (P u)) (of_dec (dec_le (S.rank u) r))

  unfoldable pub far? : (r u : ℕ) → Decided ((u ∉ P) × (S.rank u ≤ r))
  unfolding dec_le
  far? r u = both? (false? (P u)) (of_dec (dec_le (S.rank u) r))

  unfoldable pub granted? : (φ : Objective) (t : ℕ) → Decided (WhereGranted M g φ P S t)
  unfolding move? suc? least? pre? near? ℕ_discrete
  granted? (nexttime c) t = both? (same? (S.rank t) 1) (move? M g t (λ u. u ∈ c) (λ u. true? (c u)) (S.move t))
  granted? (always c) t = both? (same? (S.rank t) 0) (move? M g t (λ u. u ∈ P) (λ u. true? (P u)) (S.move t))
  granted? (until c d) t = both? (if? (true? (d t)) (both? (same? (S.rank t) 0) (same? (S.move t) 0))) (if? (false? (d t)) row)
    where
      Row : ℕ → Type 0
      Row r = Least (λ x. Pre M g (λ u. (u ∈ P) × (S.rank u ≤ x)) t) r × LowestMove M g t (λ u. (u ∈ P) × (S.rank u ≤ r)) (S.move t)

      row : Decided ((r : ℕ) × (S.rank t ≡ suc r) × Least (λ x. Pre M g (λ u. (u ∈ P) × (S.rank u ≤ x)) t) r × LowestMove M g t (λ u. (u ∈ P) × (S.rank u ≤ r)) (S.move t))
      row = elim (suc? (S.rank t) Row (λ r. both?
          (least? (λ x. Pre M g (λ u. (u ∈ P) × (S.rank u ≤ x)) t) (λ x. pre? M g t (λ u. (u ∈ P) × (S.rank u ≤ x)) (near? x)) r)
          (move? M g t (λ u. (u ∈ P) × (S.rank u ≤ r)) (near? r) (S.move t)))) [
            | inl (r, e, x) ↦ inl (r, e, x.0, x.1)
            | inr f ↦ inr (λ (r, e, l, m). f (r, e, (l, m)))
          ]

  unfoldable pub denied? : (φ : Objective) (t : ℕ) → Decided (WhereDenied M g φ P S t)
  unfolding replies? to_all suc? least? evades? far? ℕ_discrete
  denied? (nexttime c) t = both? (same? (S.rank t) 1) (replies? M g t (λ u. u ∉ c) (λ u. false? (c u)) (S.reply t))
  denied? (always c) t = both? (if? (false? (c t)) (both? (same? (S.rank t) 0) (to_all M g t (λ u. u ∈ c) (λ u. true? (c u)) (λ a. S.reply t a ≡ 0) (λ a. same? (S.reply t a) 0)))) (if? (true? (c t)) row)
    where
      Row : ℕ → Type 0
      Row r = Least (λ x. Evades M g (λ u. (u ∉ P) × (S.rank u ≤ x)) t) r × LowestReplies M g t (λ u. (u ∉ P) × (S.rank u ≤ r)) (S.reply t)

      row : Decided ((r : ℕ) × (S.rank t ≡ suc r) × Least (λ x. Evades M g (λ u. (u ∉ P) × (S.rank u ≤ x)) t) r × LowestReplies M g t (λ u. (u ∉ P) × (S.rank u ≤ r)) (S.reply t))
      row = elim (suc? (S.rank t) Row (λ r. both?
          (least? (λ x. Evades M g (λ u. (u ∉ P) × (S.rank u ≤ x)) t) (λ x. evades? M g t (λ u. (u ∉ P) × (S.rank u ≤ x)) (far? x)) r)
          (replies? M g t (λ u. (u ∉ P) × (S.rank u ≤ r)) (far? r) (S.reply t)))) [
            | inl (r, e, x) ↦ inl (r, e, x.0, x.1)
            | inr f ↦ inr (λ (r, e, l, m). f (r, e, (l, m)))
          ]
  denied? (until c d) t = both?
      (if? (false? (c t)) (both? (same? (S.rank t) 0) (to_all M g t (λ u. u ∈ c) (λ u. true? (c u)) (λ a. S.reply t a ≡ 0) (λ a. same? (S.reply t a) 0))))
      (if? (true? (c t)) (both? (same? (S.rank t) 1) (replies? M g t (λ u. u ∉ P) (λ u. false? (P u)) (S.reply t))))

  unfoldable pub rows? : (φ : Objective) → Decided ((t : ℕ) → t < M.states → (t ∈ P → WhereGranted M g φ P S t) × (t ∉ P → WhereDenied M g φ P S t))
  unfolding below? granted? denied?
  rows? φ = below? (λ t. (t ∈ P → WhereGranted M g φ P S t) × (t ∉ P → WhereDenied M g φ P S t))
      (λ t. both? (if? (true? (P t)) (granted? φ t)) (if? (false? (P t)) (denied? φ t))) M.states

  pub sheet_by_test : (φ : Objective) → passes (rows? φ) ≡ true → IsSheet M g φ P S
  sheet_by_test φ h = let all = passed (rows? φ) h in record { granted = λ t ht. (all t ht).0; denied = λ t ht. (all t ht).1 }
