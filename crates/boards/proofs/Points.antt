-- A row of change points: what a search finds, and what a point put in or taken out does. Assumes nothing.
use Rattle.std.proofs.Common.{◌≡◌, ℕ, zero, suc, ◌+◌, ◌-◌, ◌%◌, ◌<◌, ◌≤◌, cond, not, eqb, leb, List, [], ◌∷◌, ◌++◌, length, get_or, take, drop, set, sym, ap, ◌∙◌, subst, inl, inr, add-one, arith}
use Rattle.std.specs.List.{insert, remove}
use Rattle.std.proofs.lemmas.Bool.{cases_lt, cases_eq, le-leb, lt-leb, cond-true, cond-false}
use Rattle.std.proofs.lemmas.List.{length-set, get_or-set_same, get_or-set_other, length-take-le, length_push, get_or_push, get_or_append_left, get_or-take, take-append-drop, take_all, take_more, drop_more}
use Rattle.std.proofs.lemmas.List.Edits.{length-insert, length-remove, get_or-insert_below, get_or-insert_at, get_or-insert_above, get_or-remove_below, get_or-remove_above}
use Rattle.std.proofs.lemmas.Bool.Decides.{nat_tests}
use Rattle.boards.specs.Points.{at_most, member, Rise}

at_most_append : (xs ys : List ℕ) (t : ℕ) → at_most (xs ++ ys) t ≡ at_most xs t + at_most ys t
at_most_append [] ys t = omega arith
at_most_append (x ∷ xs) ys t = omega (arith, at_most_append xs ys t)

-- the numbers up to t, where they come first
pub at_most_parted : (xs : List ℕ) (t i : ℕ) → i ≤ length xs → ((k : ℕ) → k < i → get_or xs k 0 ≤ t) →
    ((k : ℕ) → i ≤ k → k < length xs → t < get_or xs k 0) → at_most xs t ≡ i
at_most_parted [] t i short low high = omega arith
at_most_parted (x ∷ xs) t zero short low high =
    let rest : at_most xs t ≡ 0 = at_most_parted xs t 0 (omega arith) (λ k h. absurd (omega arith)) (λ k h l. high (suc k) (omega arith) (omega arith)) in
    let first : ◌≡◌ {A = ℕ} (cond (leb x t) 1 0) 0 = cond-false (leb x t) 1 0 (lt-leb x t (high 0 (omega arith) (omega arith))) in
    omega arith
at_most_parted (x ∷ xs) t (suc i) short low high =
    let rest : at_most xs t ≡ i = at_most_parted xs t i (omega arith) (λ k h. low (suc k) (omega arith)) (λ k h l. high (suc k) (omega arith) (omega arith)) in
    let first : ◌≡◌ {A = ℕ} (cond (leb x t) 1 0) 1 = cond-true (leb x t) 1 0 (le-leb x t (low 0 (omega arith))) in
    omega arith

-- the numbers rise
pub rises : {n : ℕ} {xs : List ℕ} → Rise n xs → (i j : ℕ) → i ≤ j → j < length xs → get_or xs i 0 ≤ get_or xs j 0
rises {n} {xs} h i j le lt =
    elim (cases_eq i j) [
      | inl e ↦ subst (λ (m : ℕ). get_or xs i 0 ≤ get_or xs m 0) e (omega arith)
      | inr ne ↦ elim (cases_lt (get_or xs j 0) n) [ inl l ↦ omega (arith, h.up i j (omega arith) lt l) | inr end ↦ omega (arith, h.top i (omega arith)) ]
    ]

-- strictly rising numbers: the one at place j is at least j, so that n of them at most lie below n
pub reaches : {n : ℕ} {xs : List ℕ} → Rise n xs → (j : ℕ) → j < length xs → j ≤ get_or xs j 0
reaches {n} {xs} h zero lt = omega arith
reaches {n} {xs} h (suc j) lt =
    elim (cases_lt (get_or xs (suc j) 0) n) [
      | inl l ↦ omega (arith, h.up j (suc j) (omega arith) lt l, reaches h j (omega arith))
      | inr end ↦ omega (arith, h.long)
    ]

-- and so the last place is free
pub last_free : {n : ℕ} {xs : List ℕ} → Rise n xs → get_or xs n 0 ≡ n
last_free {n} {xs} h = omega (arith, h.long, reaches h n (omega (arith, h.long)), h.top n (omega (arith, h.long)))

parity_up : (a b p t : ℕ) → b ≡ a + cond (leb p t) 1 0 → eqb (b % 2) 1 ≡ cond (leb p t) (not (eqb (a % 2) 1)) (eqb (a % 2) 1)
parity_up a b p t e = grind (arith, nat_tests)

parity_down : (a b p t : ℕ) → a ≡ b + cond (leb p t) 1 0 → eqb (b % 2) 1 ≡ cond (leb p t) (not (eqb (a % 2) 1)) (eqb (a % 2) 1)
parity_down a b p t e = grind (arith, nat_tests)

past : (n t : ℕ) → t < n → ◌≡◌ {A = ℕ} (cond (leb n t) 1 0) 0
past n t h = cond-false (leb n t) 1 0 (lt-leb n t h)

-- a point taken out turns the states from it on
pub out_turns : (n : ℕ) (xs : List ℕ) (i p : ℕ) → i < length xs → get_or xs i 0 ≡ p → (t : ℕ) → t < n →
    member (remove xs i ++ n ∷ []) t ≡ cond (leb p t) (not (member xs t)) (member xs t)
out_turns n xs i p lt e t h = parity_down (at_most xs t) (at_most (remove xs i ++ n ∷ []) t) p t count
  where
    whole : at_most xs t ≡ at_most (take i xs) t + (cond (leb p t) 1 0 + at_most (drop (suc i) xs) t)
    whole =
        ap (λ l. at_most l t) (sym (take-append-drop i xs)) ∙ at_most_append (take i xs) (drop i xs) t
        ∙ ap (λ l. at_most (take i xs) t + at_most l t) (drop_more xs i 0 lt)
        ∙ ap (λ y. at_most (take i xs) t + (cond (leb y t) 1 0 + at_most (drop (i + 1) xs) t)) e
        ∙ ap (λ m. at_most (take i xs) t + (cond (leb p t) 1 0 + at_most (drop m xs) t)) (add-one i)

    count : at_most xs t ≡ at_most (remove xs i ++ n ∷ []) t + cond (leb p t) 1 0
    count = omega (arith, whole, at_most_append (remove xs i) (n ∷ []) t, at_most_append (take i xs) (drop (suc i) xs) t, past n t h)

-- a point put in turns the states from it on
pub in_turns : {n : ℕ} {xs : List ℕ} → Rise n xs → (i p : ℕ) → i ≤ n → (t : ℕ) → t < n →
    member (take (length xs) (insert xs i p)) t ≡ cond (leb p t) (not (member xs t)) (member xs t)
in_turns {n} {xs} r i p le t h = parity_up (at_most xs t) (at_most (take (length xs) (insert xs i p)) t) p t count
  where
    size : length (insert xs i p) ≡ length xs + 1
    size = length-insert xs i p (omega (arith, r.long))

    end : get_or (insert xs i p) (length xs) 0 ≡ n
    end = ap (λ m. get_or (insert xs i p) m 0) r.long ∙ get_or-insert_above xs i p 0 n le (omega (arith, r.long)) ∙ last_free r

    cut : insert xs i p ≡ take (length xs) (insert xs i p) ++ n ∷ []
    cut =
        sym (take_all (length xs + 1) (insert xs i p) (omega (arith, size)))
        ∙ take_more (insert xs i p) (length xs) 0 (omega (arith, size))
        ∙ ap (λ y. take (length xs) (insert xs i p) ++ y ∷ []) end

    count : at_most (take (length xs) (insert xs i p)) t ≡ at_most xs t + cond (leb p t) 1 0
    count =
        omega (
          arith,
          ap (λ l. at_most l t) cut,
          at_most_append (take (length xs) (insert xs i p)) (n ∷ []) t,
          at_most_append (take i xs) (p ∷ drop i xs) t,
          at_most_append (take i xs) (drop i xs) t,
          ap (λ l. at_most l t) (take-append-drop i xs),
          past n t h,
        )

-- a row keeps rising
pub out_rises : {n : ℕ} {xs : List ℕ} → Rise n xs → (i : ℕ) → i < length xs → Rise n (remove xs i ++ n ∷ [])
out_rises {n} {xs} r i lt = record { long = size; top = top; up = up }
  where
    less : length (remove xs i) + 1 ≡ length xs
    less = length-remove xs i lt

    size : length (remove xs i ++ n ∷ []) ≡ n + 1
    size = length_push (remove xs i) n ∙ less ∙ r.long

    below : (k : ℕ) → k < i → get_or (remove xs i ++ n ∷ []) k 0 ≡ get_or xs k 0
    below k h = get_or_append_left (remove xs i) (n ∷ []) 0 k (omega (arith, less)) ∙ get_or-remove_below xs i 0 k h lt

    above : (k : ℕ) → i ≤ k → k < n → get_or (remove xs i ++ n ∷ []) k 0 ≡ get_or xs (k + 1) 0
    above k h l = get_or_append_left (remove xs i) (n ∷ []) 0 k (omega (arith, less, r.long)) ∙ get_or-remove_above xs i 0 k h lt

    end : get_or (remove xs i ++ n ∷ []) n 0 ≡ n
    end = get_or_push (remove xs i) n 0 n (omega (arith, less, r.long))

    top : (k : ℕ) → k < length (remove xs i ++ n ∷ []) → get_or (remove xs i ++ n ∷ []) k 0 ≤ n
    top k l =
        elim (cases_lt k i) [
          | inl a ↦ omega (arith, below k a, r.top k (omega arith))
          | inr a ↦ elim (cases_lt k n) [
            | inl b ↦ omega (arith, above k a b, r.top (k + 1) (omega (arith, r.long)))
            | inr b ↦ let e : k ≡ n = omega (arith, size) in omega (arith, ap (λ m. get_or (remove xs i ++ n ∷ []) m 0) e, end)
          ]
        ]

    up : (j k : ℕ) → j < k → k < length (remove xs i ++ n ∷ []) → get_or (remove xs i ++ n ∷ []) k 0 < n →
        get_or (remove xs i ++ n ∷ []) j 0 < get_or (remove xs i ++ n ∷ []) k 0
    up j k o l u =
        elim (cases_lt k n) [
          | inr b ↦ let e : k ≡ n = omega (arith, size) in absurd (omega (arith, ap (λ m. get_or (remove xs i ++ n ∷ []) m 0) e, end))
          | inl b ↦ elim (cases_lt k i) [
            | inl a ↦ omega (arith, below k a, below j (omega arith), r.up j k o (omega arith) (omega (arith, below k a)))
            | inr a ↦
                let big : k + 1 < length xs = omega (arith, r.long) in
                let here : get_or xs (k + 1) 0 < n = omega (arith, above k a b) in
                elim (cases_lt j i) [
                  | inl c ↦ omega (arith, above k a b, below j c, r.up j (k + 1) (omega arith) big here)
                  | inr c ↦ omega (arith, above k a b, above j c (omega arith), r.up (j + 1) (k + 1) (omega arith) big here)
                ]
          ]
        ]

pub in_rises : {n : ℕ} {xs : List ℕ} → Rise n xs → (i p : ℕ) → i ≤ n → p ≤ n →
    ((k : ℕ) → k < i → get_or xs k 0 < p) → ((k : ℕ) → i ≤ k → k < length xs → p < get_or xs k 0) →
    Rise n (take (length xs) (insert xs i p))
in_rises {n} {xs} r i p le pn low high = record { long = size; top = top; up = up }
  where
    more : length (insert xs i p) ≡ length xs + 1
    more = length-insert xs i p (omega (arith, r.long))

    size : length (take (length xs) (insert xs i p)) ≡ n + 1
    size = length-take-le (length xs) (insert xs i p) (omega (arith, more)) ∙ r.long

    read : (k : ℕ) → k < length xs → get_or (take (length xs) (insert xs i p)) k 0 ≡ get_or (insert xs i p) k 0
    read k h = get_or-take (length xs) (insert xs i p) k 0 h

    below : (k : ℕ) → k < i → get_or (take (length xs) (insert xs i p)) k 0 ≡ get_or xs k 0
    below k h = read k (omega (arith, r.long)) ∙ get_or-insert_below xs i p 0 k h (omega (arith, r.long))

    here : get_or (take (length xs) (insert xs i p)) i 0 ≡ p
    here = read i (omega (arith, r.long)) ∙ get_or-insert_at xs i p 0 (omega (arith, r.long))

    above : (k : ℕ) → i < k → k < length xs → get_or (take (length xs) (insert xs i p)) k 0 ≡ get_or xs (k - 1) 0
    above k h l =
        let e : k ≡ k - 1 + 1 = omega arith in
        read k l ∙ ap (λ m. get_or (insert xs i p) m 0) e ∙ get_or-insert_above xs i p 0 (k - 1) (omega arith) (omega (arith, r.long))

    at : (k : ℕ) → k ≡ i → get_or (take (length xs) (insert xs i p)) k 0 ≡ p
    at k e = ap (λ m. get_or (take (length xs) (insert xs i p)) m 0) e ∙ here

    top : (k : ℕ) → k < length (take (length xs) (insert xs i p)) → get_or (take (length xs) (insert xs i p)) k 0 ≤ n
    top k l =
        elim (cases_lt k i) [
          | inl a ↦ omega (arith, below k a, low k a)
          | inr a ↦ elim (cases_eq k i) [
            | inl e ↦ omega (arith, at k e)
            | inr ne ↦ omega (arith, above k (omega arith) (omega (arith, size, r.long)), r.top (k - 1) (omega (arith, size, r.long)))
          ]
        ]

    up : (j k : ℕ) → j < k → k < length (take (length xs) (insert xs i p)) → get_or (take (length xs) (insert xs i p)) k 0 < n →
        get_or (take (length xs) (insert xs i p)) j 0 < get_or (take (length xs) (insert xs i p)) k 0
    up j k o l u =
        elim (cases_lt k i) [
          | inl a ↦ omega (arith, below k a, below j (omega arith), r.up j k o (omega (arith, r.long)) (omega (arith, below k a)))
          | inr a ↦ elim (cases_eq k i) [
            | inl e ↦ omega (arith, at k e, below j (omega arith), low j (omega arith))
            | inr ne ↦
                let was = above k (omega arith) (omega (arith, size, r.long)) in
                let far = high (k - 1) (omega arith) (omega (arith, size, r.long)) in
                elim (cases_lt j i) [
                  | inl b ↦ omega (arith, was, far, below j b, low j b)
                  | inr b ↦ elim (cases_eq j i) [
                    | inl e ↦ omega (arith, was, far, at j e)
                    | inr nj ↦
                        omega (
                          arith,
                          was,
                          above j (omega arith) (omega (arith, size, r.long)),
                          r.up (j - 1) (k - 1) (omega arith) (omega (arith, size, r.long)) (omega (arith, was)),
                        )
                  ]
                ]
          ]
        ]

-- a point that moves by one turns one state
at_most_set : (xs : List ℕ) (i v t : ℕ) → i < length xs → at_most (set xs i v) t + cond (leb (get_or xs i 0) t) 1 0 ≡ at_most xs t + cond (leb v t) 1 0
at_most_set [] i v t lt = absurd (omega arith)
at_most_set (x ∷ xs) zero v t lt = omega arith
at_most_set (x ∷ xs) (suc i) v t lt = omega (arith, at_most_set xs i v t (omega arith))

parity_raised : (a b s t : ℕ) → b + cond (leb s t) 1 0 ≡ a + cond (leb (s + 1) t) 1 0 → eqb (b % 2) 1 ≡ cond (eqb t s) (not (eqb (a % 2) 1)) (eqb (a % 2) 1)
parity_raised a b s t e = grind (arith, nat_tests)

parity_lowered : (a b s t : ℕ) → b + cond (leb (s + 1) t) 1 0 ≡ a + cond (leb s t) 1 0 → eqb (b % 2) 1 ≡ cond (eqb t s) (not (eqb (a % 2) 1)) (eqb (a % 2) 1)
parity_lowered a b s t e = grind (arith, nat_tests)

pub raised_turns : (xs : List ℕ) (i s : ℕ) → i < length xs → get_or xs i 0 ≡ s → (t : ℕ) → member (set xs i (s + 1)) t ≡ cond (eqb t s) (not (member xs t)) (member xs t)
raised_turns xs i s lt e t =
    parity_raised (at_most xs t) (at_most (set xs i (s + 1)) t) s t
    (ap (λ y. at_most (set xs i (s + 1)) t + cond (leb y t) 1 0) (sym e) ∙ at_most_set xs i (s + 1) t lt)

pub lowered_turns : (xs : List ℕ) (i s : ℕ) → i < length xs → get_or xs i 0 ≡ s + 1 → (t : ℕ) → member (set xs i s) t ≡ cond (eqb t s) (not (member xs t)) (member xs t)
lowered_turns xs i s lt e t =
    parity_lowered (at_most xs t) (at_most (set xs i s) t) s t
    (ap (λ y. at_most (set xs i s) t + cond (leb y t) 1 0) (sym e) ∙ at_most_set xs i s t lt)

pub set_rises : {n : ℕ} {xs : List ℕ} → Rise n xs → (i v : ℕ) → i < length xs → v ≤ n → ((k : ℕ) → k < i → get_or xs k 0 < v) →
    ((k : ℕ) → i < k → k < length xs → get_or xs k 0 < n → v < get_or xs k 0) → Rise n (set xs i v)
set_rises {n} {xs} r i v lt le low high = record { long = size ∙ r.long; top = top; up = up }
  where
    size : length (set xs i v) ≡ length xs
    size = length-set xs i v

    here : (k : ℕ) → k ≡ i → get_or (set xs i v) k 0 ≡ v
    here k e = ap (λ m. get_or (set xs i v) m 0) e ∙ get_or-set_same xs i v 0 lt

    other : (k : ℕ) → (k ≡ i → ⊥) → get_or (set xs i v) k 0 ≡ get_or xs k 0
    other k ne = get_or-set_other xs i k v 0 ne

    top : (k : ℕ) → k < length (set xs i v) → get_or (set xs i v) k 0 ≤ n
    top k l = elim (cases_eq k i) [ inl e ↦ omega (arith, here k e) | inr ne ↦ omega (arith, other k ne, r.top k (omega (arith, size))) ]

    up : (j k : ℕ) → j < k → k < length (set xs i v) → get_or (set xs i v) k 0 < n → get_or (set xs i v) j 0 < get_or (set xs i v) k 0
    up j k o l u =
        elim (cases_eq k i) [
          | inl e ↦ let nj : j ≡ i → ⊥ = λ f. omega arith in omega (arith, here k e, other j nj, low j (omega arith))
          | inr ne ↦ elim (cases_eq j i) [
            | inl e ↦ omega (arith, here j e, other k ne, high k (omega arith) (omega (arith, size)) (omega (arith, other k ne)))
            | inr nj ↦ omega (arith, other j nj, other k ne, r.up j k o (omega (arith, size)) (omega (arith, other k ne)))
          ]
        ]

-- a point s moved up, and a point s + 1 moved down
pub raised_rises : {n : ℕ} {xs : List ℕ} → Rise n xs → (i s : ℕ) → i + 1 < length xs → get_or xs i 0 ≡ s → s < n → (get_or xs (i + 1) 0 ≡ s + 1 → ⊥) → Rise n (set xs i (s + 1))
raised_rises {n} {xs} r i s lt e h ne = set_rises r i (s + 1) (omega arith) (omega arith) low high
  where
    low : (k : ℕ) → k < i → get_or xs k 0 < s + 1
    low k l = omega (arith, r.up k i l (omega arith) (omega arith))

    high : (k : ℕ) → i < k → k < length xs → get_or xs k 0 < n → s + 1 < get_or xs k 0
    high k o l u =
        let next : s < get_or xs (i + 1) 0 = elim (cases_lt (get_or xs (i + 1) 0) n) [ inl a ↦ omega (arith, r.up i (i + 1) (omega arith) lt a) | inr a ↦ omega arith ] in
        let far : get_or xs (i + 1) 0 ≤ get_or xs k 0 = rises r (i + 1) k (omega arith) l in
        elim (cases_eq (get_or xs (i + 1) 0) (s + 1)) [ inl f ↦ absurd (ne f) | inr f ↦ omega arith ]

pub lowered_rises : {n : ℕ} {xs : List ℕ} → Rise n xs → (i s : ℕ) → i < length xs → get_or xs i 0 ≡ s + 1 → s < n → ((k : ℕ) → k < i → get_or xs k 0 < s) → Rise n (set xs i s)
lowered_rises {n} {xs} r i s lt e h low = set_rises r i s lt (omega arith) low (λ k o l u. omega (arith, r.up i k o l u))

-- a state below n is not the last number
pub not_last : {n : ℕ} {xs : List ℕ} → Rise n xs → (i s : ℕ) → i < length xs → get_or xs i 0 ≡ s → s < n → i + 1 < length xs
not_last {n} {xs} r i s lt e h =
    elim (cases_eq i n) [
      | inl same ↦ absurd (omega (arith, last_free r, ap (λ m. get_or xs m 0) same))
      | inr ne ↦ omega (arith, r.long)
    ]

-- what the place that a search finds tells of the state
even_odd : (a i : ℕ) → a ≡ i + 1 → eqb (i % 2) 0 ≡ eqb (a % 2) 1
even_odd a i e = grind (arith, nat_tests)

pub found_at : {n : ℕ} {xs : List ℕ} → Rise n xs → (i t : ℕ) → i < length xs → get_or xs i 0 ≡ t → t < n → eqb (i % 2) 0 ≡ member xs t
found_at {n} {xs} r i t lt e known = even_odd (at_most xs t) i (at_most_parted xs t (i + 1) (omega arith) low high)
  where
    low : (k : ℕ) → k < i + 1 → get_or xs k 0 ≤ t
    low k h = omega (arith, rises r k i (omega arith) lt)

    high : (k : ℕ) → i + 1 ≤ k → k < length xs → t < get_or xs k 0
    high k h l = elim (cases_lt (get_or xs k 0) n) [ inl u ↦ omega (arith, r.up i k (omega arith) l u) | inr u ↦ omega arith ]

pub parted_at : (xs : List ℕ) (i t : ℕ) → i ≤ length xs → ((k : ℕ) → k < i → get_or xs k 0 < t) →
    ((k : ℕ) → i ≤ k → k < length xs → t < get_or xs k 0) → eqb (i % 2) 1 ≡ member xs t
parted_at xs i t le low high = ap (λ a. eqb (a % 2) 1) (sym (at_most_parted xs t i le (λ k h. omega (arith, low k h)) high))

-- a place below which all is less than p lies within the row
pub room : {n : ℕ} {xs : List ℕ} → Rise n xs → (i p : ℕ) → p ≤ n → ((k : ℕ) → k < i → get_or xs k 0 < p) → i ≤ n
room {n} {xs} r i p le low = elim (cases_lt n i) [ inl h ↦ absurd (omega (arith, low n h, last_free r)) | inr h ↦ h ]
