-- Rows in one memory: what a write to one row leaves. Assumes nothing.
use Rattle.std.proofs.Common.{◌≡◌, ℕ, ◌+◌, ◌-◌, ◌*◌, ◌/◌, ◌%◌, ◌<◌, ◌≤◌, min, Bool, false, cond, ◌&&◌, eqb, ltb, leb, ◌⊎◌, List, length, get_or, take, drop, replicate, sym, ap, ap₂, ◌∙◌, subst, subst₂, inl, inr, ⊎_elim, mul-le-mul_right, add-mul, one-mul, div-mul-le_self, arith}
use borrow.Rule.Slice.PartMut.{mid_of, put_mid, same_len_mid}
use Rattle.std.specs.List.{between}
use Rattle.std.proofs.lemmas.Bool.{cases_lt, cases_eq, cases_order, lt-leb, and_right, cond-false}
use Rattle.std.proofs.lemmas.List.{length-replicate, get_or-replicate, get_or_past, ext_get_or}
use Rattle.std.proofs.lemmas.List.Edits.{length-between, get_or-between}
use Rattle.std.proofs.lemmas.Slice.{between_is, take-put_mid_below, drop-put_mid, between-put_mid}
use Rattle.std.proofs.lemmas.Bool.Decides.{nat_tests}
use Rattle.boards.specs.Meaning.{with_mark, wiped, blank, whole_rows}
use Rattle.boards.specs.Points.{member, Rise, row_at, change_rows}
use Rattle.boards.proofs.Points.{at_most_parted}

-- a part of a list that a write to another part leaves
part_same : (xs ys : List ℕ) (a k b e : ℕ) → a ≤ length xs → length ys ≡ k → (e ≤ a) ⊎ (a + k ≤ b) → between b e (put_mid a k xs ys) ≡ between b e xs
part_same xs ys a k b e ha hk (inl h) =
    between_is (put_mid a k xs ys) b e ∙ ap (λ l. drop b l) (take-put_mid_below a k xs ys e h ha) ∙ sym (between_is xs b e)
part_same xs ys a k b e ha hk (inr h) = ap (λ l. take (e - b) l) (drop-put_mid a k xs ys b h ha hk)

next_row : (q r w : ℕ) → q < r → q * w + w ≤ r * w
next_row q r w h = omega (arith, mul-le-mul_right {m = q + 1} {n = r} w (omega arith), add-mul q 1 w, one-mul w)

apart : (q r w : ℕ) → (q ≡ r → ⊥) → (q * w + w ≤ r * w) ⊎ (r * w + w ≤ q * w)
apart q r w ne =
    elim (cases_order q r) [
      | inl e ↦ absurd (ne e)
      | inr o ↦ elim o [ inl lt ↦ inl (next_row q r w lt) | inr gt ↦ inr (next_row r q w gt) ]
    ]

-- row r after a write to it, and any other
pub row_here : (ps ys : List ℕ) (n r : ℕ) → r * (n + 1) + (n + 1) ≤ length ps → length ys ≡ r * (n + 1) + (n + 1) - r * (n + 1) →
    row_at (put_mid (r * (n + 1)) (r * (n + 1) + (n + 1) - r * (n + 1)) ps ys) n r ≡ ys
row_here ps ys n r le size = between-put_mid (r * (n + 1)) _ ps ys (r * (n + 1) + (n + 1)) (omega arith) size

pub row_other : (ps ys : List ℕ) (n r q : ℕ) → r * (n + 1) + (n + 1) ≤ length ps → length ys ≡ r * (n + 1) + (n + 1) - r * (n + 1) → (q ≡ r → ⊥) →
    row_at (put_mid (r * (n + 1)) (r * (n + 1) + (n + 1) - r * (n + 1)) ps ys) n q ≡ row_at ps n q
row_other ps ys n r q le size ne =
    part_same ps ys (r * (n + 1)) _ (q * (n + 1)) (q * (n + 1) + (n + 1)) (omega arith) size
    (⊎_elim (λ h. inl h) (λ h. inr (omega arith)) (apart q r (n + 1) ne))

pub length_row : (ps : List ℕ) (n r : ℕ) → r * (n + 1) + (n + 1) ≤ length ps → length (row_at ps n r) ≡ n + 1
length_row ps n r le = length-between ps (r * (n + 1)) (r * (n + 1) + (n + 1)) le ∙ omega arith

-- the memory after the row was written as ys
pub record Wrote (ps ys : List ℕ) (n r : ℕ) (qs : List ℕ) : Type 0 where
  pub long : length qs ≡ length ps
  pub here : row_at qs n r ≡ ys
  pub others : (q : ℕ) → (q ≡ r → ⊥) → row_at qs n q ≡ row_at ps n q

pub wrote : (ps ys : List ℕ) (n r from to : ℕ) → from ≡ r * (n + 1) → to ≡ r * (n + 1) + (n + 1) → to ≤ length ps → length ys ≡ to - from →
    Wrote ps ys n r (put_mid from (to - from) ps ys)
wrote ps ys n r from to a b =
    subst₂ (λ x y. y ≤ length ps → length ys ≡ y - x → Wrote ps ys n r (put_mid x (y - x) ps ys)) (sym a) (sym b)
    (λ le size. record {
      long = same_len_mid (r * (n + 1)) (r * (n + 1) + (n + 1) - r * (n + 1)) ps ys (omega (arith, size, length_row ps n r le));
      here = row_here ps ys n r le size;
      others = λ q ne. row_other ps ys n r q le size ne;
    })

pub span_is : (ps : List ℕ) (n r from to : ℕ) → from ≡ r * (n + 1) → to ≡ r * (n + 1) + (n + 1) → mid_of from (to - from) ps ≡ row_at ps n r
span_is ps n r from to a b = ap₂ (λ x y. mid_of x (y - x) ps) a b

-- a row of the board lies in its memory
pub inside : (n size h r : ℕ) → h ≡ whole_rows n (n + 1) size → r < h → (n ≤ 1024) × (r * (n + 1) + (n + 1) ≤ size)
inside n size h r e lt =
    let few : (n ≤ 1024) × (r < size / (n + 1)) = (grind (arith, nat_tests), grind (arith, nat_tests)) in
    (few.0, omega (arith, next_row r (size / (n + 1)) (n + 1) few.1, div-mul-le_self size (n + 1)))

-- a row without change points
pub blank_rises : (n : ℕ) → Rise n (replicate (n + 1) n)
blank_rises n = record {
  long = length-replicate (n + 1) n;
  top = λ i l. omega (arith, get_or-replicate (n + 1) i n 0 (omega (arith, length-replicate (n + 1) n)));
  up = λ i j o l u. absurd (omega (arith, get_or-replicate (n + 1) j n 0 (omega (arith, length-replicate (n + 1) n))));
}

pub blank_none : (n t : ℕ) → t < n → member (replicate (n + 1) n) t ≡ false
blank_none n t h =
    ap (λ a. eqb (a % 2) 1) (at_most_parted (replicate (n + 1) n) t 0 (omega arith) (λ k l. absurd (omega arith))
    (λ k o l. omega (arith, get_or-replicate (n + 1) k n 0 (omega (arith, length-replicate (n + 1) n)))))

gate : (q t r s h n : ℕ) (x y b : Bool) → r < h → s < n → (t < n → q ≡ r → x ≡ cond (eqb t s) b y) → ((q ≡ r → ⊥) → x ≡ y) →
    ((ltb q h && ltb t n) && x) ≡ cond (eqb q r && eqb t s) (b && (ltb r h && ltb s n)) ((ltb q h && ltb t n) && y)
gate q t r s h n x y b hr hs e f = grind (arith, nat_tests)

-- the board after one state of row r is made a member, or none
pub rows_assigned : (ps qs : List ℕ) (n h r s : ℕ) (b : Bool) → r < h → s < n →
    ((t : ℕ) → t < n → member (row_at qs n r) t ≡ cond (eqb t s) b (member (row_at ps n r) t)) →
    ((q : ℕ) → (q ≡ r → ⊥) → row_at qs n q ≡ row_at ps n q) →
    change_rows qs n h ≡ with_mark (change_rows ps n h) r s b
rows_assigned ps qs n h r s b hr hs here others = λ i. record { states = n; rows = h; marked = λ q t. point q t i }
  where
    point : (q t : ℕ) → ((ltb q h && ltb t n) && member (row_at qs n q) t) ≡ cond (eqb q r && eqb t s) (b && (ltb r h && ltb s n)) ((ltb q h && ltb t n) && member (row_at ps n q) t)
    point q t =
        gate q t r s h n (member (row_at qs n q) t) (member (row_at ps n q) t) b hr hs
        (λ l e. subst (λ (m : ℕ). member (row_at qs n m) t ≡ cond (eqb t s) b (member (row_at ps n m) t)) (sym e) (here t l))
        (λ ne. ap (λ l. member l t) (others q ne))

wipe_gate : (q t r h n : ℕ) (x y : Bool) → (t < n → q ≡ r → x ≡ false) → ((q ≡ r → ⊥) → x ≡ y) →
    ((ltb q h && ltb t n) && x) ≡ cond (eqb q r) false ((ltb q h && ltb t n) && y)
wipe_gate q t r h n x y e f = grind (arith, nat_tests)

-- the board after row r is cleared
pub rows_cleared : (ps qs : List ℕ) (n h r : ℕ) → row_at qs n r ≡ replicate (n + 1) n →
    ((q : ℕ) → (q ≡ r → ⊥) → row_at qs n q ≡ row_at ps n q) → change_rows qs n h ≡ wiped (change_rows ps n h) r
rows_cleared ps qs n h r here others = λ i. record { states = n; rows = h; marked = λ q t. point q t i }
  where
    point : (q t : ℕ) → ((ltb q h && ltb t n) && member (row_at qs n q) t) ≡ cond (eqb q r) false ((ltb q h && ltb t n) && member (row_at ps n q) t)
    point q t =
        wipe_gate q t r h n (member (row_at qs n q) t) (member (row_at ps n q) t)
        (λ l e. ap (λ m. member (row_at qs n m) t) e ∙ ap (λ l. member l t) here ∙ blank_none n t l)
        (λ ne. ap (λ l. member l t) (others q ne))

-- what a board keeps of its rows, as its ghost fields say it, and row by row
abbrev pub Top : List ℕ → ℕ → ℕ → Type 0
Top ps n h = (r i : ℕ) → r < h → get_or (row_at ps n r) i 0 ≤ n

abbrev pub Up : List ℕ → ℕ → ℕ → Type 0
Up ps n h = (r i j : ℕ) → (r < h) × (i < j) × (j ≤ n) × (get_or (row_at ps n r) j 0 < n) → get_or (row_at ps n r) i 0 < get_or (row_at ps n r) j 0

abbrev pub RowsRise : List ℕ → ℕ → ℕ → Type 0
RowsRise ps n h = (r : ℕ) → r < h → Rise n (row_at ps n r)

-- ps is the memory as a slice
pub rows_rise : (items ps : List ℕ) (n h size : ℕ) → ps ≡ items → length ps ≡ size → h ≡ whole_rows n (n + 1) size → Top items n h → Up items n h → RowsRise ps n h
rows_rise items ps n h size is long e top up r lt =
    let few : length (row_at ps n r) ≡ n + 1 = length_row ps n r (omega (arith, (inside n size h r e lt).1)) in
    let same : row_at items n r ≡ row_at ps n r = ap (λ l. row_at l n r) (sym is) in
    subst (λ (l : List ℕ). Rise n l) same (record {
      long = ap length same ∙ few;
      top = λ i l. top r i lt;
      up = λ i j o l u. up r i j (lt, o, omega (arith, few, ap length same), u);
    })

pub top_from : (ps : List ℕ) (n h : ℕ) → RowsRise ps n h → Top ps n h
top_from ps n h all r i lt =
    elim (cases_lt i (length (row_at ps n r))) [
      | inl l ↦ (all r lt).top i l
      | inr l ↦ omega (arith, get_or_past (row_at ps n r) i 0 l)
    ]

pub up_from : (ps : List ℕ) (n h : ℕ) → RowsRise ps n h → Up ps n h
up_from ps n h all r i j k = (all r k.0).up i j k.1 (omega (arith, (all r k.0).long, k.2)) k.3

-- where one row is written and rises
pub rows_rise_still : (ps qs : List ℕ) (n h r : ℕ) → RowsRise ps n h → Rise n (row_at qs n r) →
    ((q : ℕ) → (q ≡ r → ⊥) → row_at qs n q ≡ row_at ps n q) → RowsRise qs n h
rows_rise_still ps qs n h r all here others q lt =
    elim (cases_eq q r) [
      | inl e ↦ subst (λ (m : ℕ). Rise n (row_at qs n m)) (sym e) here
      | inr ne ↦ subst (λ (l : List ℕ). Rise n l) (sym (others q ne)) (all q lt)
    ]

-- a memory that holds n everywhere
pub row_blank : (ps : List ℕ) (n size r : ℕ) → ps ≡ replicate size n → r * (n + 1) + (n + 1) ≤ size → row_at ps n r ≡ replicate (n + 1) n
row_blank ps n size r e le =
    let long : length ps ≡ size = ap length e ∙ length-replicate size n in
    let few : length (row_at ps n r) ≡ n + 1 = length_row ps n r (omega arith) in
    ext_get_or 0 (row_at ps n r) (replicate (n + 1) n) (few ∙ sym (length-replicate (n + 1) n))
    (λ i l. get_or-between ps (r * (n + 1)) (r * (n + 1) + (n + 1)) i 0 (omega arith)
    ∙ ap (λ q. get_or q (r * (n + 1) + i) 0) e ∙ get_or-replicate size (r * (n + 1) + i) n 0 (omega arith) ∙ sym (get_or-replicate (n + 1) i n 0 (omega arith)))

pub rows_blank : (ps : List ℕ) (n h : ℕ) → ((r : ℕ) → r < h → row_at ps n r ≡ replicate (n + 1) n) → change_rows ps n h ≡ blank n h
rows_blank ps n h each = λ i. record { states = n; rows = h; marked = λ q t. point q t i }
  where
    point : (q t : ℕ) → ((ltb q h && ltb t n) && member (row_at ps n q) t) ≡ false
    point q t = none q t (member (row_at ps n q) t) (λ a b. ap (λ l. member l t) (each q a) ∙ blank_none n t b)
      where
        none : (q t : ℕ) (x : Bool) → (q < h → t < n → x ≡ false) → ((ltb q h && ltb t n) && x) ≡ false
        none q t x f = grind (arith, nat_tests)

-- the same, from the memory before to the memory after
pub board_assigned : (items ps ws after : List ℕ) (n h r s : ℕ) (b : Bool) → ps ≡ items → after ≡ ws → r < h → s < n →
    ((t : ℕ) → t < n → member (row_at ws n r) t ≡ cond (eqb t s) b (member (row_at ps n r) t)) →
    ((q : ℕ) → (q ≡ r → ⊥) → row_at ws n q ≡ row_at ps n q) →
    change_rows after n h ≡ with_mark (change_rows items n h) r s b
board_assigned items ps ws after n h r s b was is hr hs here others =
    ap (λ l. change_rows l n h) is ∙ rows_assigned ps ws n h r s b hr hs here others ∙ ap (λ l. with_mark (change_rows l n h) r s b) was

pub board_cleared : (items ps ws after : List ℕ) (n h r : ℕ) → ps ≡ items → after ≡ ws → row_at ws n r ≡ replicate (n + 1) n →
    ((q : ℕ) → (q ≡ r → ⊥) → row_at ws n q ≡ row_at ps n q) → change_rows after n h ≡ wiped (change_rows items n h) r
board_cleared items ps ws after n h r was is here others =
    ap (λ l. change_rows l n h) is ∙ rows_cleared ps ws n h r here others ∙ ap (λ l. wiped (change_rows l n h) r) was

-- the rows of a new board: m + 1 is the width wherever there is a row
pub new_height : (n h len size m : ℕ) → m ≡ min n 1024 → len ≡ size → h ≡ whole_rows n (m + 1) len → h ≡ whole_rows n (n + 1) size
new_height n h len size m is same e =
    elim (cases_lt 1024 n) [
      | inl far ↦ e ∙ none far (m + 1) len ∙ sym (none far (n + 1) size)
      | inr near ↦ let w : m ≡ n = omega (arith, is) in e ∙ ap (λ k. whole_rows n (k + 1) len) w ∙ ap (λ k. whole_rows n (n + 1) k) same
    ]
  where
    none : 1024 < n → (w k : ℕ) → whole_rows n w k ≡ 0
    none far w k = cond-false _ _ _ (and_right (leb 1 n) (leb n 1024) (lt-leb n 1024 far))

-- a new board's memory holds n, or 1024 where n is above that and there is no row
pub new_rows : (ps : List ℕ) (n h size m : ℕ) → h ≡ whole_rows n (n + 1) size → m ≡ min n 1024 → ps ≡ replicate size m → (r : ℕ) → r < h → row_at ps n r ≡ replicate (n + 1) n
new_rows ps n h size m e is all r lt =
    let place = inside n size h r e lt in
    let same : m ≡ n = omega (arith, is, place.0) in
    row_blank ps n size r (all ∙ ap (λ k. replicate size k) same) place.1

pub new_rise : (ps : List ℕ) (n h : ℕ) → ((r : ℕ) → r < h → row_at ps n r ≡ replicate (n + 1) n) → RowsRise ps n h
new_rise ps n h each r lt = subst (λ (l : List ℕ). Rise n l) (sym (each r lt)) (blank_rises n)

-- what the ghost fields say still holds where one row was written and rises
pub kept : (items ps ws after : List ℕ) (n h size r : ℕ) → ps ≡ items → length ps ≡ size → h ≡ whole_rows n (n + 1) size → Top items n h → Up items n h →
    after ≡ ws → Rise n (row_at ws n r) → ((q : ℕ) → (q ≡ r → ⊥) → row_at ws n q ≡ row_at ps n q) → Top after n h × Up after n h
kept items ps ws after n h size r was long e top up is here others =
    let still : RowsRise ws n h = rows_rise_still ps ws n h r (rows_rise items ps n h size was long e top up) here others in
    (subst (λ (l : List ℕ). Top l n h) (sym is) (top_from ws n h still), subst (λ (l : List ℕ). Up l n h) (sym is) (up_from ws n h still))
