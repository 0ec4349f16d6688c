-- What a write of one word does to the rows. Assumes nothing.
use Rattle.std.proofs.Common.{◌≡◌, ℕ, ◌+◌, ◌-◌, ◌*◌, ◌/◌, ◌%◌, ◌^◌, ◌<◌, ◌≤◌, Bool, true, false, cond, ◌&&◌, ◌||◌, eqb, ltb, leb, ◌⊎◌, List, length, get_or, take, drop, set, replicate, sym, refl, ap, ◌∙◌, inl, inr, ⊎_elim, arith}
use native.Mathlib.Nat.{div_self, div-eq_of_lt}
use borrow.Rule.Slice.PartMut.{put_mid, same_len_mid}
use lib.Bits.{bit_or, bit_xor, bit_and}
use Rattle.std.proofs.lemmas.Nat.{or_shr, or_mod, xor_shr, xor_mod, pow_pos, pow-add, pow_below, shl-shr, one_shl, and_mask}
use Rattle.std.proofs.lemmas.Bool.{cases_order, cases_eq, eq-eqb, ne_eqb, cond-true, cond-false, and_right, cases_lt}
use Rattle.std.proofs.lemmas.List.{get_or-set_same, get_or-set_other, get_or_read, get_or-take, get_or-drop, get_or_append_left, get_or-append_right, get_or-replicate, length-replicate, length-take-le, length-drop}
use Rattle.std.proofs.lemmas.Bool.Decides.{nat_tests}
use Rattle.boards.specs.Meaning.{with_mark, wiped, whole_rows}
use Rattle.boards.specs.Bits.{bit, mark_of, bit_rows}

two : (x : ℕ) → x < 2 → (x ≡ 0) ⊎ (x ≡ 1)
two x h = ⊎_elim (λ e. inl e) (λ o. inr (omega arith)) (cases_eq x 0)

or_digit : (x y : ℕ) → x < 2 → y < 2 → eqb (bit_or x y) 1 ≡ (eqb x 1 || eqb y 1)
or_digit x y hx hy =
    elim (two x hx) [
      | inl ex ↦ elim (two y hy) [ inl ey ↦ rw (ex, ey) refl | inr ey ↦ rw (ex, ey) refl ]
      | inr ex ↦ elim (two y hy) [ inl ey ↦ rw (ex, ey) refl | inr ey ↦ rw (ex, ey) refl ]
    ]

xor_digit : (x y : ℕ) → x < 2 → y < 2 → eqb (bit_xor x y) 1 ≡ cond (eqb y 1) (cond (eqb x 1) false true) (eqb x 1)
xor_digit x y hx hy =
    elim (two x hx) [
      | inl ex ↦ elim (two y hy) [ inl ey ↦ rw (ex, ey) refl | inr ey ↦ rw (ex, ey) refl ]
      | inr ex ↦ elim (two y hy) [ inl ey ↦ rw (ex, ey) refl | inr ey ↦ rw (ex, ey) refl ]
    ]

bit_bit_or : (a b j : ℕ) → bit (bit_or a b) j ≡ (bit a j || bit b j)
bit_bit_or a b j =
    ap (λ x. eqb (x % 2) 1) (or_shr a b j) ∙ ap (λ x. eqb x 1) (or_mod (a / 2 ^ j) (b / 2 ^ j) 1)
    ∙ or_digit (a / 2 ^ j % 2) (b / 2 ^ j % 2) (omega arith) (omega arith)

bit_bit_xor : (a b j : ℕ) → bit (bit_xor a b) j ≡ cond (bit b j) (cond (bit a j) false true) (bit a j)
bit_bit_xor a b j =
    ap (λ x. eqb (x % 2) 1) (xor_shr a b j) ∙ ap (λ x. eqb x 1) (xor_mod (a / 2 ^ j) (b / 2 ^ j) 1)
    ∙ xor_digit (a / 2 ^ j % 2) (b / 2 ^ j % 2) (omega arith) (omega arith)

-- a power of two has one bit
low_gap : (j d : ℕ) → 2 ^ (d + 1 + j) / 2 ^ j % 2 ≡ 0
low_gap j d =
    let e : 2 ^ (d + 1 + j) / 2 ^ j ≡ 2 ^ (d + 1) = ap (λ x. x / 2 ^ j) (pow-add 2 (d + 1) j) ∙ shl-shr (2 ^ (d + 1)) j in
    let f : 2 ^ (d + 1) ≡ 2 ^ d * 2 = pow-add 2 d 1 in
    omega (arith, e, f)

bit_power : (k j : ℕ) → bit (2 ^ k) j ≡ eqb j k
bit_power k j =
    elim (cases_order j k) [
      | inl e ↦ ap (λ x. eqb (x % 2) 1) (ap (λ x. 2 ^ k / 2 ^ x) e ∙ div_self (pow_pos k)) ∙ sym (eq-eqb j k e)
      | inr o ↦ elim o [
        | inl lt ↦ let back : k ≡ (k - j - 1) + 1 + j = omega arith in
            ap (λ x. eqb x 1) (ap (λ x. 2 ^ x / 2 ^ j % 2) back ∙ low_gap j (k - j - 1)) ∙ sym (ne_eqb j k (λ e. omega arith))
        | inr gt ↦ ap (λ x. eqb (x % 2) 1) (div-eq_of_lt (pow_below k j gt)) ∙ sym (ne_eqb j k (λ e. omega arith))
      ]
    ]

same_place : (q r t s : ℕ) → q ≡ r → t / 64 ≡ s / 64 → eqb (t % 64) (s % 64) ≡ (eqb q r && eqb t s)
same_place q r t s e f = grind (arith, nat_tests)

other_place : (q r t s : ℕ) → (q * 16 + t / 64 ≡ r * 16 + s / 64 → ⊥) → (eqb q r && eqb t s) ≡ false
other_place q r t s ne = grind (arith, nat_tests)

-- after a write of v into the word of state s in row r, where v has bit b at the place of s, and elsewhere the bits of the word
pub mark_set : (ws : List ℕ) (r s v : ℕ) (b : Bool) → s < 1024 → r * 16 + s / 64 < length ws →
    ((j : ℕ) → bit v j ≡ cond (eqb j (s % 64)) b (bit (get_or ws (r * 16 + s / 64) 0) j)) →
    (q t : ℕ) → t < 1024 → mark_of (set ws (r * 16 + s / 64) v) q t ≡ cond (eqb q r && eqb t s) b (mark_of ws q t)
mark_set ws r s v b hs hw bits q t ht =
    elim (cases_eq (q * 16 + t / 64) (r * 16 + s / 64)) [
      | inl e ↦
          let read : get_or (set ws (r * 16 + s / 64) v) (q * 16 + t / 64) 0 ≡ v =
          ap (λ i. get_or (set ws (r * 16 + s / 64) v) i 0) e ∙ get_or-set_same ws (r * 16 + s / 64) v 0 hw in
          let row : q ≡ r = omega arith in
          let here : mark_of (set ws (r * 16 + s / 64) v) q t ≡ cond (eqb (t % 64) (s % 64)) b (mark_of ws q t) =
          ap (λ w. bit w (t % 64)) read ∙ bits (t % 64) ∙ ap (λ i. cond (eqb (t % 64) (s % 64)) b (bit (get_or ws i 0) (t % 64))) (sym e) in
          here ∙ ap (λ x. cond x b (mark_of ws q t)) (same_place q r t s row (omega arith))
      | inr ne ↦ ap (λ w. bit w (t % 64)) (get_or-set_other ws (r * 16 + s / 64) (q * 16 + t / 64) v 0 ne) ∙ sym (cond-false _ b (mark_of ws q t) (other_place q r t s ne))
    ]

pub put_bits : (w k j : ℕ) → k < 64 → bit (bit_or w ((1 * 2 ^ k) % 2 ^ 64)) j ≡ cond (eqb j k) true (bit w j)
put_bits w k j h =
    ap (λ m. bit (bit_or w m) j) (one_shl k 64 h) ∙ bit_bit_or w (2 ^ k) j ∙ ap (λ x. bit w j || x) (bit_power k j) ∙ turned (bit w j) (eqb j k)
  where
    turned : (x y : Bool) → (x || y) ≡ cond y true x
    turned true true = refl
    turned true false = refl
    turned false true = refl
    turned false false = refl

pub drop_bits : (w k j : ℕ) → k < 64 → bit (bit_xor (bit_or w ((1 * 2 ^ k) % 2 ^ 64)) ((1 * 2 ^ k) % 2 ^ 64)) j ≡ cond (eqb j k) false (bit w j)
drop_bits w k j h =
    ap (λ m. bit (bit_xor (bit_or w m) m) j) (one_shl k 64 h) ∙ bit_bit_xor (bit_or w (2 ^ k)) (2 ^ k) j
    ∙ ap (λ x. cond (bit (2 ^ k) j) (cond x false true) x) (bit_bit_or w (2 ^ k) j)
    ∙ ap (λ x. cond x (cond (bit w j || x) false true) (bit w j || x)) (bit_power k j) ∙ cleared (bit w j) (eqb j k)
  where
    cleared : (x y : Bool) → cond y (cond (x || y) false true) (x || y) ≡ cond y false x
    cleared true true = refl
    cleared true false = refl
    cleared false true = refl
    cleared false false = refl

gate : (q t r s h n : ℕ) (x y b : Bool) → r < h → s < n → (t < n → x ≡ cond (eqb q r && eqb t s) b y) →
    ((ltb q h && ltb t n) && x) ≡ cond (eqb q r && eqb t s) (b && (ltb r h && ltb s n)) ((ltb q h && ltb t n) && y)
gate q t r s h n x y b hr hs e = grind (arith, nat_tests)

-- the rows after such a write
pub rows_set : (ws : List ℕ) (n h r s w v : ℕ) (b : Bool) → n ≤ 1024 → r < h → s < n → r * 16 + s / 64 < length ws →
    w ≡ get_or ws (r * 16 + s / 64) w →
    ((j : ℕ) → bit v j ≡ cond (eqb j (s % 64)) b (bit w j)) →
    bit_rows (set ws (r * 16 + s / 64) v) n h ≡ with_mark (bit_rows ws n h) r s b
rows_set ws n h r s w v b hn hr hs hw read bits = λ i. record { states = n; rows = h; marked = λ q t. point q t i }
  where
    marks : (q t : ℕ) → t < n → mark_of (set ws (r * 16 + s / 64) v) q t ≡ cond (eqb q r && eqb t s) b (mark_of ws q t)
    marks q t ht = mark_set ws r s v b (omega arith) hw (λ j. bits j ∙ ap (λ x. cond (eqb j (s % 64)) b (bit x j)) (get_or_read ws (r * 16 + s / 64) w hw read 0)) q t (omega arith)

    point : (q t : ℕ) → ((ltb q h && ltb t n) && mark_of (set ws (r * 16 + s / 64) v) q t) ≡ cond (eqb q r && eqb t s) (b && (ltb r h && ltb s n)) ((ltb q h && ltb t n) && mark_of ws q t)
    point q t = gate q t r s h n _ (mark_of ws q t) b hr hs (marks q t)

-- bit 0 of a shifted word, as the code tests it
pub test_bit : (w k : ℕ) → eqb (bit_and (w / 2 ^ k) 1) 1 ≡ bit w k
test_bit w k = ap (λ x. eqb x 1) (and_mask (w / 2 ^ k) 1)

bit_zero : (k : ℕ) → bit 0 k ≡ false
bit_zero k = ap (λ x. eqb (x % 2) 1) (div-eq_of_lt (pow_pos k))

-- a known row and state have a word
pub inside : (n len h r s : ℕ) → h ≡ whole_rows n 16 len → r < h → s < n → (n ≤ 1024) × (r * 16 + s / 64 < len)
inside n len h r s e hr hs = (grind (arith, nat_tests), grind (arith, nat_tests))

pub row_inside : (n len h r : ℕ) → h ≡ whole_rows n 16 len → r < h → (n ≤ 1024) × (r * 16 + 16 ≤ len)
row_inside n len h r e hr = (grind (arith, nat_tests), grind (arith, nat_tests))

-- 16 words in a memory, made 0
pub cleared_words : (ws ys : List ℕ) (a : ℕ) → a + 16 ≤ length ws → ys ≡ replicate (length (take (a + 16 - a) (drop a ws))) 0 →
    (i : ℕ) → get_or (put_mid a (a + 16 - a) ws ys) i 0 ≡ cond (leb a i && ltb i (a + 16)) 0 (get_or ws i 0)
cleared_words ws ys a le e i =
    elim (cases_lt i a) [
      | inl low ↦
          get_or_append_left (take a ws) _ 0 i (omega (arith, before)) ∙ get_or-take a ws i 0 low ∙ sym (cond-false (leb a i && ltb i (a + 16)) _ _ (grind (arith, nat_tests)))
      | inr from ↦ elim (cases_lt i (a + 16)) [
        | inl to ↦
            get_or-append_right (take a ws) _ a i 0 before from ∙ get_or_append_left ys _ 0 (i - a) (omega (arith, size)) ∙ ap (λ l. get_or l (i - a) 0) e
            ∙ get_or-replicate _ (i - a) 0 0 (omega (arith, long)) ∙ sym (cond-true (leb a i && ltb i (a + 16)) _ _ (grind (arith, nat_tests)))
        | inr past ↦
            get_or-append_right (take a ws) _ a i 0 before from ∙ get_or-append_right ys _ 16 (i - a) 0 size (omega arith)
            ∙ get_or-drop (a + 16 - a) (drop a ws) (i - a - 16) 0 ∙ get_or-drop a ws (a + 16 - a + (i - a - 16)) 0
            ∙ (let at : a + (a + 16 - a + (i - a - 16)) ≡ i = omega arith in ap (λ k. get_or ws k 0) at)
            ∙ sym (cond-false (leb a i && ltb i (a + 16)) _ _ (grind (arith, nat_tests)))
      ]
    ]
  where
    before : length (take a ws) ≡ a
    before = length-take-le a ws (omega arith)

    long : length (take (a + 16 - a) (drop a ws)) ≡ 16
    long = length-take-le (a + 16 - a) (drop a ws) (omega (arith, length-drop a ws)) ∙ omega arith

    size : length ys ≡ 16
    size = ap length e ∙ length-replicate _ 0 ∙ long

pub cleared_len : (ws ys : List ℕ) (a : ℕ) → ys ≡ replicate (length (take (a + 16 - a) (drop a ws))) 0 → length (put_mid a (a + 16 - a) ws ys) ≡ length ws
cleared_len ws ys a e = same_len_mid a (a + 16 - a) ws ys (ap length e ∙ length-replicate _ 0)

-- row r has no bits, and the others are as they were
pub rows_wiped : (ws vs : List ℕ) (n h r : ℕ) → n ≤ 1024 →
    ((i : ℕ) → get_or vs i 0 ≡ cond (leb (r * 16) i && ltb i (r * 16 + 16)) 0 (get_or ws i 0)) →
    bit_rows vs n h ≡ wiped (bit_rows ws n h) r
rows_wiped ws vs n h r hn words = λ i. record { states = n; rows = h; marked = λ q t. point q t i }
  where
    point : (q t : ℕ) → ((ltb q h && ltb t n) && mark_of vs q t) ≡ cond (eqb q r) false ((ltb q h && ltb t n) && mark_of ws q t)
    point q t =
        elim (cases_eq q r) [
          | inl e ↦ elim (cases_lt t n) [
            | inl ht ↦
                let zero_word : get_or vs (q * 16 + t / 64) 0 ≡ 0 = words (q * 16 + t / 64) ∙ cond-true (leb (r * 16) (q * 16 + t / 64) && ltb (q * 16 + t / 64) (r * 16 + 16)) _ _ (grind (arith, nat_tests)) in
                let none : mark_of vs q t ≡ false = ap (λ w. bit w (t % 64)) zero_word ∙ bit_zero (t % 64) in
                ap (λ x. (ltb q h && ltb t n) && x) none ∙ and_right _ _ refl ∙ sym (cond-true _ _ _ (eq-eqb q r e))
            | inr ht ↦ grind (arith, nat_tests)
          ]
          | inr ne ↦ elim (cases_lt t n) [
            | inl ht ↦
                let same : get_or vs (q * 16 + t / 64) 0 ≡ get_or ws (q * 16 + t / 64) 0 = words (q * 16 + t / 64) ∙ cond-false (leb (r * 16) (q * 16 + t / 64) && ltb (q * 16 + t / 64) (r * 16 + 16)) _ _ (grind (arith, nat_tests)) in
                ap (λ w. (ltb q h && ltb t n) && bit w (t % 64)) same ∙ sym (cond-false _ _ _ (ne_eqb q r ne))
            | inr ht ↦ grind (arith, nat_tests)
          ]
        ]
