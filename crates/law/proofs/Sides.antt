-- The test of a side's choice. Assumes nothing.
use Rattle.std.proofs.Common.{◌≡◌, ℕ, zero, suc, ◌<◌, Bool, true, cond, eqb, sym, refl, ◌∙◌, inl, inr, arith}
use Rattle.std.proofs.lemmas.Bool.{ltb-true, lt-ltb, eqb-true, eq-eqb, and_parts, and_from, cond-true, cond-false}
use Rattle.game.specs.Meaning.{Part, digit}
use Rattle.game.proofs.Bounded.{true_or_false, one_more}
use Rattle.law.specs.Refusals.{all_below, fits_side}
use Rattle.law.specs.Laws.{SidesAreParts}

pub below_true : (n : ℕ) (test : ℕ → Bool) → all_below n test ≡ true → (i : ℕ) → i < n → test i ≡ true
below_true zero test h i hi = absurd (omega arith)
below_true (suc n) test h i hi = let p = and_parts _ _ h in one_more (λ i. test i ≡ true) n (below_true n test p.0) p.1 i hi

pub true_below : (n : ℕ) (test : ℕ → Bool) → ((i : ℕ) → i < n → test i ≡ true) → all_below n test ≡ true
true_below zero test h = refl
true_below (suc n) test h = and_from _ _ (true_below n test (λ i hi. h i (omega arith))) (h n (omega arith))

pub sides_are_parts : SidesAreParts
sides_are_parts M who s a = (to, from)
  where
    test : ℕ → Bool
    test i = cond (who i) (M.allowed i s (digit a i)) (eqb (digit a i) 0)

    to : fits_side M who s a ≡ true → Part M who s a
    to h =
        let p = and_parts _ _ h in
        let all = below_true M.agents (λ i. cond (who i) (M.allowed i s (digit a i)) (eqb (digit a i) 0)) p.1 in
        record {
          fits = ltb-true _ _ p.0;
          acting = λ i hi w. sym (cond-true (who i) (M.allowed i s (digit a i)) (eqb (digit a i) 0) w) ∙ all i hi;
          idle = λ i hi w. eqb-true _ _ (sym (cond-false (who i) (M.allowed i s (digit a i)) (eqb (digit a i) 0) w) ∙ all i hi);
        }

    from : Part M who s a → fits_side M who s a ≡ true
    from p = and_from _ _ (lt-ltb _ _ p.fits) (true_below M.agents (λ i. cond (who i) (M.allowed i s (digit a i)) (eqb (digit a i) 0)) (λ i hi. elim (true_or_false (who i)) [
      | inl w ↦ cond-true (who i) (M.allowed i s (digit a i)) (eqb (digit a i) 0) w ∙ p.acting i hi w
      | inr w ↦ cond-false (who i) (M.allowed i s (digit a i)) (eqb (digit a i) 0) w ∙ eq-eqb _ _ (p.idle i hi w)
    ]))
