-- The van's sheets, by computation. Assumes nothing.
use Rattle.std.proofs.Common.{◌≡◌, ℕ, zero, suc, ◌^◌, ◌<◌, ◌≤◌, Bool, true, false, cond, ◌&&◌, eqb, ltb, ◌⊎◌, refl, inl, inr, arith, ltb-true, eqb-true}
use native.Mathlib.Decide.{dec_lt}
use Rattle.std.proofs.lemmas.Bool.{lt-ltb, le-ltb}
use Rattle.game.specs.Meaning.{Lawful, JointChoice, GroupChoice, member, digit}
use Rattle.game.specs.Objectives.{◌∈◌}
use Rattle.game.specs.Sheets.{Sheet, IsSheet}
use Rattle.game.specs.Van.{van, may, moved, local, goal, counted, everywhere, alone_set, alone_sheet, both_sheet, VanCase}
use Rattle.game.proofs.Bounded.{true_or_false, clash, and_out, below?, true?, if?, of_dec, passed}
use Rattle.game.proofs.Deciding.{rows?, sheet_by_test}
use Rattle.game.proofs.Steps.{part?}
use Rattle.game.proofs.Agreeing.{until_agree}
use Rattle.game.proofs.Certified.{until_certified}

may_wait : (i : ℕ) → i < 2 → (t : ℕ) → t < 4 → van.allowed i t 0 ≡ true
unfolding below?
may_wait = passed (below? (λ i. (t : ℕ) → t < 4 → van.allowed i t 0 ≡ true) (λ i. below? (λ t. van.allowed i t 0 ≡ true) (λ t. true? (van.allowed i t 0)) 4) 2) refl

stays_below : (t : ℕ) → t < 4 → (j : ℕ) → j < 16 → van.next t j < 4
unfolding below? dec_lt
stays_below = passed (below? (λ t. (j : ℕ) → j < 16 → van.next t j < 4) (λ t. below? (λ j. van.next t j < 4) (λ j. of_dec (dec_lt (van.next t j) 4)) 16) 4) refl

-- a test that fails leaves 0
otherwise : (b : Bool) (x : ℕ) → ¬ (b ≡ true) → cond b x 0 ≡ 0
otherwise true x f = absurd (f refl)
otherwise false x f = refl

two_at_most : (b : Bool) → cond b 2 1 ≤ 2
two_at_most true = omega arith
two_at_most false = omega arith

known_may : (i t x : ℕ) → may i t x ≡ true → (i < 2) × (t < 4) × (x < 4)
known_may i t x h =
    let (it, hx) = and_out (ltb i 2 && ltb t 4) (ltb x (cond (eqb (local i t) 0) 2 1)) h in
    let (hi, ht) = and_out (ltb i 2) (ltb t 4) it in
    let less = ltb-true x (cond (eqb (local i t) 0) 2 1) hx in
    let most = two_at_most (eqb (local i t) 0) in
    (ltb-true i 2 hi, ltb-true t 4 ht, omega arith)

look_small : (t : ℕ) → t < 4 → (i : ℕ) → local i t < 2 ^ 16
look_small t h zero = omega arith
look_small t h (suc i) = omega arith

looks : (i t : ℕ) → van.look i t < 2 ^ 16
looks i t = go (true_or_false (ltb i 2 && ltb t 4))
  where
    go : ((ltb i 2 && ltb t 4) ≡ true) ⊎ ((ltb i 2 && ltb t 4) ≡ false) → cond (ltb i 2 && ltb t 4) (local i t) 0 < 2 ^ 16
    go (inl h) = rw h (look_small t (ltb-true t 4 (and_out (ltb i 2) (ltb t 4) h).1) i)
    go (inr h) = rw h (omega arith)

joint_of : (t j : ℕ) → (ltb t 4 && ltb j 16 && may 0 t (digit j 0) && may 1 t (digit j 1)) ≡ true → (t < 4) × JointChoice van t j
joint_of t j h =
    let (h₃, m₁) = and_out (ltb t 4 && ltb j 16 && may 0 t (digit j 0)) (may 1 t (digit j 1)) h in
    let (h₂, m₀) = and_out (ltb t 4 && ltb j 16) (may 0 t (digit j 0)) h₃ in
    let (ht, hj) = and_out (ltb t 4) (ltb j 16) h₂ in
    (ltb-true t 4 ht, record { fits = ltb-true j 16 hj; acting = each m₀ m₁; idle = λ i h f. absurd (clash refl f) })
  where
    each : may 0 t (digit j 0) ≡ true → may 1 t (digit j 1) ≡ true → (i : ℕ) → i < 2 → true ≡ true → may i t (digit j i) ≡ true
    each m₀ m₁ zero h e = m₀
    each m₀ m₁ (suc zero) h e = m₁
    each m₀ m₁ (suc (suc i)) h e = absurd (omega arith)

known_holds : (p t : ℕ) → van.holds p t ≡ true → (p < 2) × (t < 4)
known_holds p t h =
    let (pt, e) = and_out (ltb p 2 && ltb t 4) (eqb (cond (eqb p 0) (local 1 t) (local 0 t)) 1) h in
    let (hp, ht) = and_out (ltb p 2) (ltb t 4) pt in
    (ltb-true p 2 hp, ltb-true t 4 ht)

lawful : Lawful van
lawful = record {
  some_agent = omega arith;
  few_agents = omega arith;
  some_state = omega arith;
  few_states = omega arith;
  few_atoms = omega arith;
  acts = λ i t hi ht. (0, omega arith, may_wait i hi t ht);
  lands = λ t j ht joint. stays_below t ht j joint.fits;
  looks = looks;
  starts = (0, omega arith, refl);
  known_allowed = known_may;
  known_holds = known_holds;
  known_start = λ t h. let e = eqb-true t 0 h in omega arith;
  unknown_look = λ i t f. otherwise (ltb i 2 && ltb t 4) (local i t) (λ h. let (hi, ht) = and_out (ltb i 2) (ltb t 4) h in f (ltb-true i 2 hi, ltb-true t 4 ht));
  unknown_next = λ t j f. otherwise (ltb t 4 && ltb j 16 && may 0 t (digit j 0) && may 1 t (digit j 1)) (moved t j) (λ h. f (joint_of t j h));
}

alone : IsSheet van 2 goal alone_set alone_sheet
unfolding rows?
alone = sheet_by_test van 2 alone_set alone_sheet goal refl

both : IsSheet van 3 goal everywhere both_sheet
unfolding rows?
both = sheet_by_test van 3 everywhere both_sheet goal refl

alone_has : (t : ℕ) → t < 4 → t ∈ counted → t ∈ alone_set
unfolding below?
alone_has = passed (below? (λ t. t ∈ counted → t ∈ alone_set) (λ t. if? (true? (counted t)) (true? (alone_set t))) 4) refl

wait : GroupChoice van 2 0 0
unfolding part?
wait = passed (part? van (member 2) 0 0) refl

alone_values : (S : Sheet) → IsSheet van 2 goal alone_set S → (S.rank 1 ≡ 1) × (S.move 1 ≡ 4) × (S.rank 0 ≡ 1) × (S.reply 0 0 ≡ 0)
alone_values S sheet =
    let at_1 = until_agree van lawful 2 everywhere counted alone_set S alone_sheet sheet alone 1 (omega arith) in
    let at-0 = until_agree van lawful 2 everywhere counted alone_set S alone_sheet sheet alone 0 (omega arith) in
    (at_1.0, at_1.1 refl, at-0.0, at-0.2 refl 0 wait)

both_values : (S : Sheet) → IsSheet van 3 goal everywhere S → (S.rank 0 ≡ 2) × (S.move 0 ≡ 1)
both_values S sheet =
    let at-0 = until_agree van lawful 3 everywhere counted everywhere S both_sheet sheet both 0 (omega arith) in
    (at-0.0, at-0.1 refl)

pub van_case : VanCase
van_case = record {
  lawful = lawful;
  step_5 = refl;
  step_4 = refl;
  alone = alone;
  alone_is = record {
    decides = until_certified van lawful 2 everywhere counted alone_set alone_sheet alone alone_has (λ t ht p nd. lt-ltb t 4 ht);
    past = λ t h. rw (le-ltb t 4 h) refl;
  };
  both = both;
  both_is = record {
    decides = until_certified van lawful 3 everywhere counted everywhere both_sheet both (λ t ht hd. lt-ltb t 4 ht) (λ t ht p nd. lt-ltb t 4 ht);
    past = λ t h. le-ltb t 4 h;
  };
  alone_values = alone_values;
  both_values = both_values;
}
