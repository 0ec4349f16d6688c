-- The word of a goal. Assumes nothing.
use Rattle.std.proofs.Common.{◌≡◌, ℕ, true, eqb, sym, refl, ap, ◌∙◌, subst}
use Rattle.std.proofs.lemmas.Bool.{eqb-true, eq-eqb, and_parts, and_from}
use Rattle.game.specs.Goals.{Goal, TRUE, ATOM, NOT, OR, AND, EACH, COMMON, JOINT, NEXT, ALWAYS, UNTIL, Word, word_of, goal_of, same_word}
use Rattle.game.specs.Theorems.{WordsAreGoals}

same_from : (x y : Word) → same_word x y ≡ true → x ≡ y
same_from x y h =
    let a = and_parts _ _ h in
    let b = and_parts _ _ a.0 in
    let c = and_parts _ _ b.0 in
    let d = and_parts _ _ c.0 in
    let e1 = eqb-true _ _ d.0 in
    let e2 = eqb-true _ _ d.1 in
    let e3 = eqb-true _ _ c.1 in
    let e4 = eqb-true _ _ b.1 in
    let e5 = eqb-true _ _ a.1 in
    λ i. record { kind = e1 i; a = e2 i; b = e3 i; c = e4 i; d = e5 i }

same_self : (x : Word) → same_word x x ≡ true
same_self x =
    let it : (n : ℕ) → eqb n n ≡ true = λ n. eq-eqb n n refl in
    and_from _ _ (and_from _ _ (and_from _ _ (and_from _ _ (it x.kind) (it x.a)) (it x.b)) (it x.c)) (it x.d)

there : (φ : Goal) → φ ≡ goal_of (word_of φ)
there TRUE = refl
there (ATOM p) = refl
there (NOT c) = refl
there (OR c d) = refl
there (AND c d) = refl
there (EACH g c) = refl
there (COMMON g c) = refl
there (JOINT g c) = refl
there (NEXT g c) = refl
there (ALWAYS g c) = refl
there (UNTIL g c d) = refl

pub words_are_goals : WordsAreGoals
words_are_goals x = (
  same_from x (word_of (goal_of x)),
  λ φ e.
      let back : φ ≡ goal_of x = there φ ∙ ap goal_of (sym e) in
      (back, subst (λ y. same_word x y ≡ true) (e ∙ ap word_of back) (same_self x)),
)
