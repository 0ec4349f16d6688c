-- A goal over the sets of its operands, over their formulas, and over sets that agree. Assumes nothing.
use Rattle.std.proofs.Common.{◌≡◌, ℕ, zero, suc, ◌<◌, true, ltb, ◌⊎◌, ◌↔◌, List, length, get_or, sym, refl, ap, subst, ap₂, inl, inr, arith}
use Rattle.std.proofs.lemmas.Bool.{ltb-true, and_parts}
use Rattle.game.specs.Meaning.{Meaning, Lawful}
use Rattle.game.specs.Objectives.{Objective, nexttime, always, until, States, ◌∈◌, ◌∉◌, Granted}
use Rattle.game.proofs.Bounded.{true_or_false, clash}
use Rattle.game.proofs.Planned.{pre_map}
use Rattle.game.specs.Goals.{Goal, TRUE, ATOM, NOT, OR, AND, EACH, COMMON, JOINT, NEXT, ALWAYS, UNTIL, earlier, group_of}
use Rattle.game.specs.Formulas.{Chain, stay, pass, Aims, of_next, of_always, of_until, Holds, Formula, no', or', and', each, common, joint, next', always', until', Sat, over, written, formula}

pub chain_known : (M : Meaning) (g s t : ℕ) → s < M.states → Chain M g s t → t < M.states
chain_known M g s t hs (stay s') = hs
chain_known M g s t hs (pass s' u t' hu d c) = chain_known M g u t hu c

module _ (M : Meaning) (law : Lawful M) (R : ℕ → States) (F : ℕ → Formula) (n : ℕ) (ops : (c : ℕ) → c < n → (t : ℕ) → t < M.states → t ∈ R c ↔ Sat M (F c) t) where
  at_op : (c : ℕ) → ltb c n ≡ true → (t : ℕ) → t < M.states → t ∈ R c ↔ Sat M (F c) t
  at_op c e t ht = ops c (ltb-true c n e) t ht

  pub agree : (φ : Goal) → earlier n φ ≡ true → (s : ℕ) → s < M.states → Holds M R φ s ↔ Sat M (over F φ) s
  agree TRUE e s hs = (λ x. x, λ x. x)
  agree (ATOM p) e s hs = (λ x. x, λ x. x)
  agree (NOT c) e s hs =
      let o = at_op c e s hs in
      (λ h sat. clash (o.1 sat) h, λ none. elim (true_or_false (R c s)) [ inl y ↦ absurd (none (o.0 y)) | inr x ↦ x ])
  agree (OR c d) e s hs =
      let p = and_parts _ _ e in
      let o = at_op c p.0 s hs in
      let q = at_op d p.1 s hs in
      (λ h. elim h [ inl x ↦ inl (o.0 x) | inr y ↦ inr (q.0 y) ], λ h. elim h [ inl x ↦ inl (o.1 x) | inr y ↦ inr (q.1 y) ])
  agree (AND c d) e s hs =
      let p = and_parts _ _ e in
      let o = at_op c p.0 s hs in
      let q = at_op d p.1 s hs in
      (λ (x, y). (o.0 x, q.0 y), λ (x, y). (o.1 x, q.1 y))
  agree (EACH g c) e s hs = (λ h t ht d. (at_op c e t ht).0 (h t ht d), λ h t ht d. (at_op c e t ht).1 (h t ht d))
  agree (COMMON g c) e s hs = (λ h t d. (at_op c e t (chain_known M g s t hs d)).0 (h t d), λ h t d. (at_op c e t (chain_known M g s t hs d)).1 (h t d))
  agree (JOINT g c) e s hs = (λ h t ht d. (at_op c e t ht).0 (h t ht d), λ h t ht d. (at_op c e t ht).1 (h t ht d))
  agree (NEXT g c) e s hs = (
    λ h. pre_map M law g (λ u. u ∈ R c) (λ u. Sat M (F c) u) s hs (λ u hu x. (at_op c e u hu).0 x) h,
    λ h. pre_map M law g (λ u. Sat M (F c) u) (λ u. u ∈ R c) s hs (λ u hu x. (at_op c e u hu).1 x) h,
  )
  agree (ALWAYS g c) e s hs = (
    λ (Y, ins, y). (Y, (λ t ht ty. ((at_op c e t ht).0 (ins t ht ty).0, (ins t ht ty).1)), y),
    λ (Y, ins, y). (Y, (λ t ht ty. ((at_op c e t ht).1 (ins t ht ty).0, (ins t ht ty).1)), y),
  )
  agree (UNTIL g c d) e s hs =
      let p = and_parts _ _ e in (
        λ h Y base grow. h Y ((λ t ht x. base t ht ((at_op d p.1 t ht).0 x)), (λ t ht x pre. grow t ht ((at_op c p.0 t ht).0 x) pre)),
        λ h Y k. h Y (λ t ht x. k.0 t ht ((at_op d p.1 t ht).1 x)) (λ t ht x pre. k.1 t ht ((at_op c p.0 t ht).1 x) pre),
      )

-- rows that are right goal by goal decide whole formulas
module _ (M : Meaning) (law : Lawful M) (R : ℕ → States) (goals : List Goal) (settled : ℕ)
    (ordered : (f : ℕ) → f < settled → earlier f (get_or goals f TRUE) ≡ true)
    (right : (f : ℕ) → f < settled → (s : ℕ) → s < M.states → s ∈ R f ↔ Holds M R (get_or goals f TRUE) s) where
  pub decided : (n f : ℕ) → f < n → f < settled → (s : ℕ) → s < M.states → s ∈ R f ↔ Sat M (written goals n f) s
  decided zero f hn hf s hs = absurd (omega arith)
  decided (suc n) f hn hf s hs =
      let r = right f hf s hs in
      let a = agree M law R (written goals n) f (λ c hc t ht. decided n c (omega arith) (omega arith) t ht) (get_or goals f TRUE) (ordered f hf) s hs in
      (λ x. a.0 (r.0 x), λ x. r.1 (a.1 x))

over_same : (F G : ℕ → Formula) (n : ℕ) → ((c : ℕ) → c < n → F c ≡ G c) → (φ : Goal) → earlier n φ ≡ true → over F φ ≡ over G φ
over_same F G n h TRUE e = refl
over_same F G n h (ATOM p) e = refl
over_same F G n h (NOT c) e = ap no' (h c (ltb-true c n e))
over_same F G n h (OR c d) e = let p = and_parts _ _ e in ap₂ or' (h c (ltb-true c n p.0)) (h d (ltb-true d n p.1))
over_same F G n h (AND c d) e = let p = and_parts _ _ e in ap₂ and' (h c (ltb-true c n p.0)) (h d (ltb-true d n p.1))
over_same F G n h (EACH g c) e = ap (each g) (h c (ltb-true c n e))
over_same F G n h (COMMON g c) e = ap (common g) (h c (ltb-true c n e))
over_same F G n h (JOINT g c) e = ap (joint g) (h c (ltb-true c n e))
over_same F G n h (NEXT g c) e = ap (next' g) (h c (ltb-true c n e))
over_same F G n h (ALWAYS g c) e = ap (always' g) (h c (ltb-true c n e))
over_same F G n h (UNTIL g c d) e = let p = and_parts _ _ e in ap₂ (until' g) (h c (ltb-true c n p.0)) (h d (ltb-true d n p.1))

module _ (goals : List Goal) (ordered : (f : ℕ) → f < length goals → earlier f (get_or goals f TRUE) ≡ true) where
  enough : (n k f : ℕ) → f < n → f < k → f < length goals → written goals n f ≡ written goals k f
  enough zero k f hn hk hf = absurd (omega arith)
  enough (suc n) zero f hn hk hf = absurd (omega arith)
  enough (suc n) (suc k) f hn hk hf = over_same (written goals n) (written goals k) f (λ c hc. enough n k c (omega arith) (omega arith) (omega arith)) (get_or goals f TRUE) (ordered f hf)

  pub spelled : (f : ℕ) → f < length goals → formula goals f ≡ over (formula goals) (get_or goals f TRUE)
  spelled f hf = over_same (written goals f) (formula goals) f (λ c hc. enough f (suc c) c hc (omega arith) (omega arith)) (get_or goals f TRUE) (ordered f hf)

-- rows that agree below n
abbrev pub Below : ℕ → (ℕ → States) → (ℕ → States) → Type 0
Below n R Q = (c : ℕ) → c < n → Q c ≡ R c

module _ (M : Meaning) (R Q : ℕ → States) (n : ℕ) (b : Below n R Q) where
  at : (c : ℕ) → ltb c n ≡ true → Q c ≡ R c
  at c e = b c (ltb-true c n e)

  pub holds_same : (φ : Goal) → earlier n φ ≡ true → (s : ℕ) → Holds M Q φ s → Holds M R φ s
  holds_same TRUE o s h = h
  holds_same (ATOM p) o s h = h
  holds_same (NOT c) o s h = subst (λ X. s ∉ X) (at c o) h
  holds_same (OR c d) o s h = let p = and_parts _ _ o in subst (λ X. (s ∈ X) ⊎ (s ∈ R d)) (at c p.0) (subst (λ X. (s ∈ Q c) ⊎ (s ∈ X)) (at d p.1) h)
  holds_same (AND c d) o s h = let p = and_parts _ _ o in (subst (λ X. s ∈ X) (at c p.0) h.0, subst (λ X. s ∈ X) (at d p.1) h.1)
  holds_same (EACH g c) o s h = λ t ht d. subst (λ X. t ∈ X) (at c o) (h t ht d)
  holds_same (COMMON g c) o s h = λ t d. subst (λ X. t ∈ X) (at c o) (h t d)
  holds_same (JOINT g c) o s h = λ t ht d. subst (λ X. t ∈ X) (at c o) (h t ht d)
  holds_same (NEXT g c) o s h = subst (λ X. Granted M g (nexttime X) s) (at c o) h
  holds_same (ALWAYS g c) o s h = subst (λ X. Granted M g (always X) s) (at c o) h
  holds_same (UNTIL g c d) o s h = let p = and_parts _ _ o in subst (λ X. Granted M g (until X (R d)) s) (at c p.0) (subst (λ X. Granted M g (until (Q c) X) s) (at d p.1) h)

  pub aims_same : (φ : Goal) (g : ℕ) (a : Objective) → earlier n φ ≡ true → Aims Q φ g a → Aims R φ g a
  aims_same φ g a o (of_next g' c) = subst (λ X. Aims R (NEXT g c) g (nexttime X)) (sym (at c o)) (of_next g c)
  aims_same φ g a o (of_always g' c) = subst (λ X. Aims R (ALWAYS g c) g (always X)) (sym (at c o)) (of_always g c)
  aims_same φ g a o (of_until g' c d) =
      let p = and_parts _ _ o in
      subst (λ X. Aims R (UNTIL g c d) g (until X (Q d))) (sym (at c p.0)) (subst (λ X. Aims R (UNTIL g c d) g (until (R c) X)) (sym (at d p.1)) (of_until g c d))

pub aims_group : (R : ℕ → States) (φ : Goal) (g : ℕ) (a : Objective) → Aims R φ g a → group_of φ ≡ g
aims_group R φ g a (of_next g' c) = refl
aims_group R φ g a (of_always g' c) = refl
aims_group R φ g a (of_until g' c d) = refl

pub aims_holds : (M : Meaning) (R : ℕ → States) (φ : Goal) (g : ℕ) (a : Objective) (s : ℕ) → Aims R φ g a → Holds M R φ s ↔ Granted M g a s
aims_holds M R φ g a s (of_next g' c) = (λ x. x, λ x. x)
aims_holds M R φ g a s (of_always g' c) = (λ x. x, λ x. x)
aims_holds M R φ g a s (of_until g' c d) = (λ x. x, λ x. x)
