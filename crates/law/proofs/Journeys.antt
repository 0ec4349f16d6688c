-- What the told pairs of a play say of its goal. Assumes nothing.
use Rattle.std.proofs.Common.{◌≡◌, ℕ, suc, ◌+◌, ◌<◌, ◌≤◌, Bool, true, false, ◌↔◌, List, [], ◌∷◌, length, sym, refl, ap, ◌∙◌, subst, inl, inr, arith}
use Rattle.std.proofs.lemmas.Bool.{cases_lt, leb-true, leb-false, le-leb, both_ways}
use Rattle.game.specs.Meaning.{Meaning, Lawful}
use Rattle.game.specs.Objectives.{Objective, nexttime, until, States, ◌∈◌, ◌∉◌, IsSetOf}
use Rattle.game.specs.Plays.{MetBy, FailedBy}
use Rattle.game.specs.Sheets.{IsSheet}
use Rattle.game.proofs.Bounded.{clash}
use Rattle.game.proofs.Steps.{joint}
use Rattle.game.proofs.Until.{granted_c}
use Rattle.boards.specs.Meaning.{Rows}
use Rattle.game.specs.declared.goal.Goal.{Goal}
use Rattle.game.specs.declared.goal.Goal.TheVariants.{Next as NEXT, Always as ALWAYS, Until as UNTIL}
use Rattle.game.specs.Formulas.{Aims, of_next, of_always, of_until}
use Rattle.law.specs.Worlds.{Plan, Play, met_by, led, with_replies}
use Rattle.law.specs.Laws.{Followed, Played, Along}

pub aims_unique : (R : ℕ → States) (ψ : Goal) (g : ℕ) (φ : Objective) (g' : ℕ) (φ' : Objective) → Aims R ψ g φ → Aims R ψ g' φ' → (g ≡ g') × (φ ≡ φ')
aims_unique R ψ g φ g' φ' (of_next a c) (of_next a' c') = (refl, refl)
aims_unique R ψ g φ g' φ' (of_always a c) (of_always a' c') = (refl, refl)
aims_unique R ψ g φ g' φ' (of_until a c d) (of_until a' c' d') = (refl, refl)

module _ (M : Meaning) (law : Lawful M) (g : ℕ) (p : Plan) (over : ℕ → ℕ → Bool) (s : ℕ) (hs : s < M.states) where
  pub led_known : (told : List (ℕ × ℕ)) → Followed M g p over s told → led M s told < M.states
  led_known [] h = hs
  led_known (x ∷ past) (gr, out, mv, ga, rb, h) = law.lands _ _ (led_known past h) (joint M g (led M s past) x.0 x.1 ga rb)

  module _ (π : ℕ → ℕ) where
    pub along_end : (told : List (ℕ × ℕ)) → Along M π s told → π (length told) ≡ led M s told
    along_end [] h = h
    along_end (x ∷ past) h = h.0

    pub visited : (told : List (ℕ × ℕ)) → Followed M g p over s told → Along M π s told → (j : ℕ) → j < length told → (π j < M.states) × (π j ∈ p.granted) × (over (π j) j ≡ false)
    visited [] f a j hj = absurd (omega arith)
    visited (x ∷ past) (gr, out, mv, ga, rb, f) a j hj = elim (cases_lt j (length past)) [
      | inl lt ↦ visited past f a.1 j lt
      | inr ge ↦
          let e : length past ≡ j = omega arith in
          subst (λ k. (π k < M.states) × (π k ∈ p.granted) × (over (π k) k ≡ false)) e
          (subst (λ t. (t < M.states) × (t ∈ p.granted) × (over t (length past) ≡ false)) (sym (along_end past a.1)) (led_known past f, gr, out))
    ]

module _ (M : Meaning) (law : Lawful M) (b : Rows) (g : ℕ) (p : Plan) (P : States) (f : ℕ → ℕ → ℕ) (gr : (s : ℕ) → s < M.states → p.granted s ≡ P s) where
  -- X: after one step c holds
  one_step : (c : ℕ) → IsSheet M g (nexttime (b.marked c)) P (with_replies p f) → (s : ℕ) → s < M.states → (told : List (ℕ × ℕ)) →
      Followed M g p (met_by b (NEXT g c)) s told → (π : ℕ → ℕ) → Along M π s told → 1 ≤ length told → π 1 ∈ b.marked c
  one_step c sheet s hs [] h π a le = absurd (omega arith)
  one_step c sheet s hs (x ∷ past) (hg, out, mv, ga, rb, h) π a le =
      let kn = led_known M law g p (met_by b (NEXT g c)) s hs past h in
      let none : length past < 1 = leb-false _ _ out in
      let e : ◌≡◌ {A = ℕ} (suc (length past)) 1 = omega arith in
      let leads = (sheet.granted (led M s past) kn (sym (gr _ kn) ∙ hg)).1.0.1 x.1 rb in
      subst (λ k. π k ∈ b.marked c) e (subst (λ t. t ∈ b.marked c) (sym a.0) (subst (λ y. M.next (led M s past) (y + x.1) ∈ b.marked c) (sym mv) leads))

  pub meets : (ψ : Goal) (φ : Objective) → Aims b.marked ψ g φ → IsSheet M g φ P (with_replies p f) → IsSetOf M g φ P → (q : Play) → Played M g p (met_by b ψ) q →
      (π : ℕ → ℕ) → Along M π q.start q.told → (met_by b ψ q.state q.steps ≡ true ↔ MetBy φ π q.steps) × ¬ FailedBy φ π q.steps
  meets ψ φ (of_next g' c) sheet set q pl π a =
      let one : 1 ≤ q.steps → π 1 ∈ b.marked c = λ le. one_step c sheet q.start pl.begins.0 q.told pl.followed π a (omega (arith, pl.counts)) in
      ((λ m. let le = leb-true 1 q.steps m in (le, one le), λ m. le-leb 1 q.steps m.0), λ x. clash (one x.0) x.1)
  meets ψ φ (of_always g' c) sheet set q pl π a =
      let now : π q.steps ≡ q.state = ap π pl.counts ∙ along_end M law g p (met_by b (ALWAYS g c)) q.start pl.begins.0 π q.told a ∙ sym pl.stands.1 in
      let in_c : (t : ℕ) → t < M.states → t ∈ p.granted → t ∈ b.marked c = λ t ht hg. let (Y, ins, y) = (set.decides t ht).0 (sym (gr t ht) ∙ hg) in (ins t ht y).0 in (
        (λ m. absurd (both_ways false refl m), λ m. absurd m),
        λ (j, le, bad). elim (cases_lt j q.steps) [
          | inl lt ↦
              let v = visited M law g p (met_by b (ALWAYS g c)) q.start pl.begins.0 π q.told pl.followed a j (omega (arith, pl.counts)) in
              clash (in_c (π j) v.0 v.1) bad
          | inr ge ↦
              let e : q.steps ≡ j = omega arith in
              clash (in_c q.state pl.stands.0 (pl.granted refl)) (subst (λ t. t ∉ b.marked c) now (subst (λ k. π k ∉ b.marked c) (sym e) bad))
        ],
      )
  meets ψ φ (of_until g' c d) sheet set q pl π a =
      let now : π q.steps ≡ q.state = ap π pl.counts ∙ along_end M law g p (met_by b (UNTIL g c d)) q.start pl.begins.0 π q.told a ∙ sym pl.stands.1 in
      let in_c : (t : ℕ) → t < M.states → t ∈ p.granted → t ∉ b.marked d → t ∈ b.marked c = λ t ht hg nd. granted_c M law g (b.marked c) (b.marked d) P set.decides t ht (sym (gr t ht) ∙ hg) nd in
      let seen : (j : ℕ) → j < q.steps → (π j < M.states) × (π j ∈ p.granted) × (π j ∉ b.marked d) =
      λ j lt. visited M law g p (met_by b (UNTIL g c d)) q.start pl.begins.0 π q.told pl.followed a j (omega (arith, pl.counts)) in (
        (
          λ m. (q.steps, omega arith, subst (λ t. t ∈ b.marked d) (sym now) m, λ i lt. let v = seen i lt in in_c (π i) v.0 v.1 v.2),
          λ (j, le, hd, all). elim (cases_lt j q.steps) [
            | inl lt ↦ absurd (clash hd (seen j lt).2)
            | inr ge ↦ let e : j ≡ q.steps = omega arith in subst (λ t. t ∈ b.marked d) now (subst (λ k. π k ∈ b.marked d) e hd)
          ],
        ),
        λ (j, le, bad, none). elim (cases_lt j q.steps) [
          | inl lt ↦ let v = seen j lt in clash (in_c (π j) v.0 v.1 v.2) bad
          | inr ge ↦
              let e : j ≡ q.steps = omega arith in
              let nd : q.state ∉ b.marked d = subst (λ t. t ∉ b.marked d) now (subst (λ k. π k ∉ b.marked d) e (none j (omega arith))) in
              clash (in_c q.state pl.stands.0 (pl.granted nd) nd) (subst (λ t. t ∉ b.marked c) now (subst (λ k. π k ∉ b.marked c) e bad))
        ],
      )

  -- U: each step takes one from the rank
  pub nearer : (c d : ℕ) → IsSheet M g (until (b.marked c) (b.marked d)) P (with_replies p f) → (s : ℕ) → s < M.states → (told : List (ℕ × ℕ)) →
      Followed M g p (met_by b (UNTIL g c d)) s told → length told + p.rank (led M s told) ≤ p.rank s
  nearer c d sheet s hs [] h = omega arith
  nearer c d sheet s hs (x ∷ past) (hg, out, mv, ga, rb, h) =
      let kn = led_known M law g p (met_by b (UNTIL g c d)) s hs past h in
      let (r, er, least, low) = (sheet.granted (led M s past) kn (sym (gr _ kn) ∙ hg)).1 out in
      let less : p.rank (M.next (led M s past) (x.0 + x.1)) ≤ r = subst (λ y. p.rank (M.next (led M s past) (y + x.1)) ≤ r) (sym mv) (low.0.1 x.1 rb).1 in
      let rec = nearer c d sheet s hs past h in
      omega (arith, er)
