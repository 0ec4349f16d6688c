-- The numbers of a row below n are the states where membership changes. Assumes nothing.
use Rattle.std.proofs.Common.{◌≡◌, ℕ, zero, suc, ◌-◌, ◌%◌, ◌<◌, ◌≤◌, Bool, true, false, not, ◌&&◌, eqb, ltb, leb, List, length, get_or, vec_items, vec_len, sym, refl, ap, ◌∙◌, subst, inl, inr, arith}
use Rattle.std.proofs.lemmas.Bool.{cases_lt, cases_eq, cases_Bool, leb-true, leb-false, and_from, lt-ltb}
use Rattle.std.proofs.lemmas.Bool.Decides.{nat_tests}
use Rattle.boards.specs.Points.{at_most, member, Rise, row_at}
use Rattle.boards.specs.Stored.{before, Listed, Turns, PointsAreChanges}
use Rattle.boards.proofs.Points.{at_most_parted, rises, reaches, found_at}
use Rattle.boards.proofs.Memory.{rows_rise}

-- the first index at which a test fails
first : (p : ℕ → Bool) (m : ℕ) → (i : ℕ) × (i ≤ m) × ((k : ℕ) → k < i → p k ≡ true) × (i < m → p i ≡ false)
first p zero = (0, omega arith, (λ k h. absurd (omega arith)), (λ h. absurd (omega arith)))
first p (suc m) =
    let f = first p m in
    elim (cases_lt f.0 m) [
      | inl l ↦ (f.0, omega (arith, f.1), f.2, (λ _. f.3 l))
      | inr ge ↦ elim (cases_Bool (p m)) [
        | inl holds ↦ (
          suc m,
          omega arith,
          (λ k h. elim (cases_lt k m) [
            | inl a ↦ f.2 k (omega arith)
            | inr a ↦ let e : m ≡ k = omega arith in subst (λ (j : ℕ). p j ≡ true) e holds
          ]),
          (λ h. absurd (omega arith)),
        )
        | inr fails ↦ (m, omega arith, (λ k h. f.2 k (omega arith)), (λ _. fails))
      ]
    ]

-- where the numbers pass t
parted : {n : ℕ} {xs : List ℕ} → Rise n xs → (t : ℕ) →
    (i : ℕ) × (i ≤ length xs) × ((k : ℕ) → k < i → get_or xs k 0 ≤ t) × ((k : ℕ) → i ≤ k → k < length xs → t < get_or xs k 0)
parted {n} {xs} r t =
    let f = first (λ k. leb (get_or xs k 0) t) (length xs) in (
      f.0,
      f.1,
      (λ k h. leb-true (get_or xs k 0) t (f.2 k h)),
      (λ k h l. omega (arith, leb-false (get_or xs f.0 0) t (f.3 (omega arith)), rises r f.0 k h l)),
    )

listed_changes : {n : ℕ} {xs : List ℕ} → Rise n xs → (t : ℕ) → t < n → Listed xs t → Turns (member xs) t
listed_changes {n} {xs} r zero h (j, lt, e) =
    let none : j ≡ 0 = omega (arith, reaches r j lt) in
    sym (found_at r j 0 lt e h) ∙ ap (λ k. eqb (k % 2) 0) none
listed_changes {n} {xs} r (suc u) h (j, lt, e) =
    let count : at_most xs u ≡ j =
    at_most_parted xs u j (omega arith) (λ k l. omega (arith, r.up k j l lt (omega arith))) (λ k g l. omega (arith, rises r j k g l)) in
    sym (found_at r j (suc u) lt e h) ∙ turned j ∙ ap (λ a. not (eqb (a % 2) 1)) (sym count)
  where
    turned : (i : ℕ) → eqb (i % 2) 0 ≡ not (eqb (i % 2) 1)
    turned i = grind (arith, nat_tests)

same_not : (a b : Bool) → a ≡ b → a ≡ not b → ⊥
same_not a b e f = grind (arith, nat_tests)

changes_listed : {n : ℕ} {xs : List ℕ} → Rise n xs → (t : ℕ) → t < n → Turns (member xs) t → Listed xs t
changes_listed {n} {xs} r t h turns = at (parted r t)
  where
    -- no number is t, so that as many are below it
    still : (u i : ℕ) → t ≡ suc u → at_most xs t ≡ i → at_most xs u ≡ i → ⊥
    still u i e a b =
        same_not (member xs t) (member xs u) (ap (λ k. eqb (k % 2) 1) (a ∙ sym b)) (turns ∙ ap (λ k. not (before (member xs) k)) e)

    at : ((i : ℕ) × (i ≤ length xs) × ((k : ℕ) → k < i → get_or xs k 0 ≤ t) × ((k : ℕ) → i ≤ k → k < length xs → t < get_or xs k 0)) → Listed xs t
    at (i, le, low, high) =
        let count : at_most xs t ≡ i = at_most_parted xs t i le low high in
        elim (cases_eq t 0) [
          | inl e ↦ elim (cases_eq i 0) [
            | inl z ↦ absurd (same_not (member xs t) false (ap (λ a. eqb (a % 2) 1) (count ∙ z)) (turns ∙ ap (λ k. not (before (member xs) k)) e))
            | inr some ↦ (i - 1, omega arith, omega (arith, low (i - 1) (omega arith)))
          ]
          | inr ne ↦ elim (cases_lt (t - 1) (get_or xs (i - 1) 0)) [
            | inl big ↦ elim (cases_eq i 0) [
              | inl z ↦ absurd (still (t - 1) i (omega arith) count (at_most_parted xs (t - 1) i le (λ k l. absurd (omega arith)) (λ k g l. omega (arith, high k g l))))
              | inr some ↦ (i - 1, omega arith, omega (arith, low (i - 1) (omega arith)))
            ]
            | inr small ↦
                absurd (still (t - 1) i (omega arith) count
                (at_most_parted xs (t - 1) i le (λ k l. omega (arith, rises r k (i - 1) (omega arith) (omega arith))) (λ k g l. omega (arith, high k g l))))
          ]
        ]

-- the marks of a row, where all numbers are known
pub points_are_changes : PointsAreChanges
points_are_changes b r t hr ht = (
  (λ l. subst (λ f. f) (sym same) (listed_changes rise t ht l)),
  (λ e. changes_listed rise t ht (subst (λ f. f) same e)),
)
  where
    row : List ℕ
    row = row_at (vec_items b.points) b.count r

    rise : Rise b.count row
    rise = rows_rise (vec_items b.points) (vec_items b.points) b.count b.height (vec_len b.points) refl (sym b.points.ok.0) b.fits b.top b.up r hr

    seen : (u : ℕ) → u < b.count → ((ltb r b.height && ltb u b.count) && member row u) ≡ member row u
    seen u h = ap (λ k. k && member row u) (and_from _ _ (lt-ltb _ _ hr) (lt-ltb _ _ h))

    earlier : (u : ℕ) → u < b.count → before (λ v. (ltb r b.height && ltb v b.count) && member row v) u ≡ before (member row) u
    earlier zero h = refl
    earlier (suc u) h = seen u (omega arith)

    same : Turns (λ v. (ltb r b.height && ltb v b.count) && member row v) t ≡ Turns (member row) t
    same = λ i. ◌≡◌ (seen t ht i) (not (earlier t ht i))
