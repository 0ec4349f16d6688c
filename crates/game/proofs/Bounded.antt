-- Search below a bound, and decisions. Assumes nothing.
use Rattle.std.proofs.Common.{◌≡◌, ℕ, zero, suc, ◌<◌, Bool, true, false, ◌&&◌, ◌⊎◌, sym, refl, ◌∙◌, subst, inl, inr, true≢false, suc-le-suc, le_of_suc-le-suc, not-suc-le-zero, arith}
use native.Mathlib.Nat.{suc_inj}
use native.Mathlib.Decide.{dec_lt, ℕ_discrete}
use Rattle.game.specs.Sheets.{Least}

pub true_or_false : (b : Bool) → (b ≡ true) ⊎ (b ≡ false)
true_or_false true = inl refl
true_or_false false = inr refl

unfoldable pub all_or_some : (P Q : ℕ → Type 0) → ((k : ℕ) → P k ⊎ Q k) → (n : ℕ) → ((k : ℕ) → k < n → P k) ⊎ ((k : ℕ) × (k < n) × Q k)
all_or_some P Q either zero = inl (λ k h. absurd (not-suc-le-zero h))
all_or_some P Q either (suc n) = join (either 0) (all_or_some (λ k. P (suc k)) (λ k. Q (suc k)) (λ k. either (suc k)) n)
  where
    join : P 0 ⊎ Q 0 → ((k : ℕ) → k < n → P (suc k)) ⊎ ((k : ℕ) × (k < n) × Q (suc k)) → ((k : ℕ) → k < suc n → P k) ⊎ ((k : ℕ) × (k < suc n) × Q k)
    join (inr q) rest = inr (0, omega arith, q)
    join (inl p) (inr e) = inr (suc e.0, suc-le-suc e.1, e.2)
    join (inl p) (inl all) = inl (elim [ zero ↦ λ h. p | suc k ↦ λ h. all k (le_of_suc-le-suc h) ])

pub clash : {b : Bool} → b ≡ true → b ≡ false → ⊥
clash p q = true≢false (sym p ∙ q)

pub and_out : (a b : Bool) → (a && b) ≡ true → (a ≡ true) × (b ≡ true)
and_out true b h = (refl, h)
and_out false b h = absurd (clash refl (sym h))

-- what holds below j and at j holds below suc j
pub one_more : (B : ℕ → Type 0) (j : ℕ) → ((i : ℕ) → i < j → B i) → B j → (i : ℕ) → i < suc j → B i
one_more B j all here i h = go (dec_lt i j)
  where
    go : Dec (i < j) → B i
    go (yes less) = all i less
    go (no more) = let e : j ≡ i = omega arith in subst B e here

abbrev pub Decided : Type 0 → Type 0
Decided A = A ⊎ ¬ A

abbrev pub passes : {A B : Type 0} → A ⊎ B → Bool
passes (inl a) = true
passes (inr b) = false

pub passed : {A B : Type 0} → (e : A ⊎ B) → passes e ≡ true → A
passed (inl a) h = a
passed (inr b) h = absurd (clash h refl)

abbrev pub true? : (b : Bool) → Decided (b ≡ true)
true? true = inl refl
true? false = inr (λ h. clash h refl)

abbrev pub false? : (b : Bool) → Decided (b ≡ false)
false? true = inr (λ h. clash refl h)
false? false = inl refl

abbrev pub of_dec : {A : Type 0} → Dec A → Decided A
of_dec (yes a) = inl a
of_dec (no f) = inr f

abbrev pub same? : (m n : ℕ) → Decided (m ≡ n)
unfolding ℕ_discrete
same? m n = of_dec (ℕ_discrete m n)

abbrev pub both? : {A B : Type 0} → Decided A → Decided B → Decided (A × B)
both? (inl a) (inl b) = inl (a, b)
both? (inl a) (inr f) = inr (λ (a, b). f b)
both? (inr f) e = inr (λ (a, b). f a)

abbrev pub if? : {A B : Type 0} → Decided A → Decided B → Decided (A → B)
if? (inr f) e = inl (λ a. absurd (f a))
if? (inl a) (inl b) = inl (λ _. b)
if? (inl a) (inr f) = inr (λ h. f (h a))

unfoldable pub below? : (P : ℕ → Type 0) → ((k : ℕ) → Decided (P k)) → (n : ℕ) → Decided ((k : ℕ) → k < n → P k)
unfolding all_or_some
below? P each n = elim (all_or_some P (λ k. ¬ P k) each n) [ inl all ↦ inl all | inr (k, h, f) ↦ inr (λ all. f (all k h)) ]

unfoldable pub least? : (Q : ℕ → Type 0) → ((k : ℕ) → Decided (Q k)) → (k : ℕ) → Decided (Least Q k)
unfolding below? dec_lt
least? Q each k = elim (both? (each k) (below? (λ j. ¬ Q j) (λ j. not? (each j)) k)) [
  | inl (q, none) ↦ inl (q, λ j qj. elim (dec_lt j k) [ yes less ↦ absurd (none j less qj) | no more ↦ omega arith ])
  | inr f ↦ inr (λ (q, low). f (q, λ j less qj. let h = low j qj in omega arith))
]
  where
    not? : {A : Type 0} → Decided A → Decided (¬ A)
    not? (inl a) = inr (λ f. f a)
    not? (inr f) = inl f

-- some r with m ≡ suc r, and more
unfoldable pub suc? : (m : ℕ) (P : ℕ → Type 0) → ((r : ℕ) → Decided (P r)) → Decided ((r : ℕ) × (m ≡ suc r) × P r)
suc? zero P each = inr (λ (r, e, x). let h : 0 ≡ suc r = e in omega arith)
suc? (suc r) P each = elim (each r) [
  | inl x ↦ inl (r, refl, x)
  | inr f ↦ inr (λ (r', e, x). f (subst P (sym (suc_inj e)) x))
]

-- the first of the numbers that pass a test
pub first : (Q : ℕ → Type 0) → ((k : ℕ) → Decided (Q k)) → (k : ℕ) → Q k → (r : ℕ) × Least Q r
first Q test zero q = (0, (q, λ j _. omega arith))
first Q test (suc k) q = go (test 0) (first (λ j. Q (suc j)) (λ j. test (suc j)) k q)
  where
    go : Decided (Q 0) → (r : ℕ) × Least (λ j. Q (suc j)) r → (r : ℕ) × Least Q r
    go (inl q0) later = (0, (q0, λ j _. omega arith))
    go (inr none) (r, (qr, low)) = (suc r, (qr, elim [ zero ↦ λ q0. absurd (none q0) | suc j ↦ λ qj. suc-le-suc (low j qj) ]))
