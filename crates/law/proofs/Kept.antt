-- What every call keeps of the case: entering, settling, planning and striking. Assumes nothing.
use Rattle.std.proofs.Common.{◌≡◌, ℕ, suc, ◌<◌, ◌≤◌, Bool, true, false, cond, ◌&&◌, eqb, ltb, ◌↔◌, [], ◌∷◌, length, get_or, Some, None, Option, sym, refl, ap, ◌∙◌, subst, subst₂, inl, inr, arith}
use mathlib.Core.Path.{fun_ext}
use Rattle.std.proofs.lemmas.Bool.{cases_eq, cases_lt, ltb-true, lt-ltb, eq-eqb, ne_eqb, cond-true, cond-false, and_from, both_ways}
use Rattle.std.proofs.lemmas.List.{get_or_append_left, get_or_at, get_or-take, length-take, length_push}
use Rattle.std.specs.List.{AllByRecursion}
use Rattle.game.specs.Meaning.{Meaning}
use Rattle.game.specs.Objectives.{Objective, States, ◌∈◌, ◌∉◌, IsSetOf}
use Rattle.game.specs.Sheets.{IsSheet}
use Rattle.boards.specs.Meaning.{Sound, known}
use Rattle.game.specs.declared.goal.Goal.{Goal}
use Rattle.game.specs.declared.goal.Goal.TheVariants.{True as TRUE}
use Rattle.game.specs.Goals.{earlier, group_of}
use Rattle.game.specs.Formulas.{Aims, Holds}
use Rattle.law.specs.Worlds.{Plan, Model, Play, World, goal_at, planned_goal, aim, met_by, IsPlan, with_replies}
use Rattle.law.specs.Steps.{entered, Settled, settled_as, planned, struck, below}
use Rattle.law.specs.Laws.{Played, InPlay}
use Rattle.game.proofs.Spelling.{holds_same, aims_same, aims_holds}
use Rattle.game.proofs.Sets.{set_one}
use Rattle.law.proofs.Moving.{met_same}

-- what stands of the case itself
pub record Fit (M : Meaning) (m : Model) : Type 0 where
  pub within : m.settled ≤ length m.goals
  pub room : length m.goals ≤ m.rows.rows
  pub ordered : (f : ℕ) → f < length m.goals → earlier f (goal_at m f) ≡ true
  pub right : (f : ℕ) → f < m.settled → (s : ℕ) → s < M.states → s ∈ m.rows.marked f ↔ Holds M m.rows.marked (goal_at m f) s
  pub past : (f : ℕ) → f < m.settled → (s : ℕ) → M.states ≤ s → s ∉ m.rows.marked f
  pub sheet : (p : Plan) → m.plan ≡ Some p → IsPlan M m p
  pub sound : Sound m.rows

-- the row of a settled X, G or U is the goal's set
pub set_of : (M : Meaning) (m : Model) → Fit M m → (f : ℕ) → f < m.settled → (g : ℕ) (φ : Objective) → Aims m.rows.marked (goal_at m f) g φ → IsSetOf M g φ (m.rows.marked f)
set_of M m fit f hf g φ aims = record {
  decides = λ s hs.
      let r = fit.right f hf s hs in
      let a = aims_holds M m.rows.marked (goal_at m f) g φ s aims in
      (λ x. a.0 (r.0 x), λ x. r.1 (a.1 x));
  past = fit.past f hf;
}

-- a sheet over the goal's own row
pub record RowPlan (M : Meaning) (m : Model) (p : Plan) : Type 0 where
  pub settled : p.goal < m.settled
  pub group : ℕ
  pub goal : Objective
  pub aims : Aims m.rows.marked (goal_at m p.goal) group goal
  pub granted : (s : ℕ) → p.granted s ≡ m.rows.marked p.goal s
  pub sheet : (f : ℕ → ℕ → ℕ) × IsSheet M group goal (m.rows.marked p.goal) (with_replies p f)

pub row_plan : (M : Meaning) (m : Model) → Fit M m → (p : Plan) → m.plan ≡ Some p → RowPlan M m p
row_plan M m fit p e =
    let h = fit.sheet p e in
    let same : p.granted ≡ m.rows.marked p.goal = set_one M h.group h.objective p.granted (m.rows.marked p.goal) h.set (set_of M m fit p.goal h.settled h.group h.objective h.aims) in
    record {
      settled = h.settled;
      group = h.group;
      goal = h.objective;
      aims = h.aims;
      granted = λ s. ap (λ (X : States). X s) same;
      sheet = (h.sheet.0, subst (λ X. IsSheet M h.group h.objective X (with_replies p h.sheet.0)) same h.sheet.1);
    }

-- what a settled row keeps and changes, mark by mark
pub record Settles (M : Meaning) (m m' : Model) : Type 0 where
  pub goals : m'.goals ≡ m.goals
  pub settled : m'.settled ≡ suc m.settled
  pub plan : m'.plan ≡ m.plan
  pub states : m'.rows.states ≡ m.rows.states
  pub rows : m'.rows.rows ≡ m.rows.rows
  pub here : m.settled < m.rows.rows → (t : ℕ) → t < M.states → t ∈ m'.rows.marked m.settled ↔ Holds M m.rows.marked (goal_at m m.settled) t
  pub past : (t : ℕ) → M.states ≤ t → t ∉ m'.rows.marked m.settled
  pub other : (q t : ℕ) → ¬ (q ≡ m.settled) → m'.rows.marked q t ≡ m.rows.marked q t

pub settles : (M : Meaning) (m m' : Model) → m.rows.states ≡ M.states → Settled M m m' → Settles M m m'
settles M m m' same (P, set, e) = subst (Settles M m) (sym e) (record {
  goals = refl;
  settled = omega arith;
  plan = refl;
  states = refl;
  rows = refl;
  here = λ room t ht.
      let is : (settled_as m P).rows.marked m.settled t ≡ P t = mine t ∙ and_left (known m.rows m.settled t) (P t) (and_from _ _ (lt-ltb _ _ room) (lt-ltb _ _ (omega (arith, same)))) in
      (λ x. (set.decides t ht).0 (sym is ∙ x), λ x. is ∙ (set.decides t ht).1 x);
  past = λ t ge. mine t ∙ and_right (known m.rows m.settled t) (P t) (set.past t ge);
  other = λ q t ne. cond-false (eqb q m.settled) _ _ (ne_eqb _ _ ne);
})
  where
    mine : (t : ℕ) → (settled_as m P).rows.marked m.settled t ≡ (known m.rows m.settled t && P t)
    mine t = cond-true (eqb m.settled m.settled) _ _ (eq-eqb m.settled m.settled refl)

    and_left : (a b : Bool) → a ≡ true → (a && b) ≡ b
    and_left true b h = refl
    and_left false b h = absurd (both_ways _ refl h)

    and_right : (a b : Bool) → b ≡ false → (a && b) ≡ false
    and_right true b h = h
    and_right false b h = refl

pub record Kept (M : Meaning) (w : World) : Type 0 where
  pub fit : Fit M w.model
  pub plays : AllByRecursion (InPlay M w.model) w.plays
  pub few : length w.plays ≤ 8

pub aim_is : (m : Model) (p : Plan) → m.plan ≡ Some p → aim m ≡ goal_at m p.goal
aim_is m p e = ap (planned_goal m) e

-- a sheet stays one where its goal and the rows up to it are the same
pub plan_same : (M : Meaning) (m m' : Model) (p : Plan) → IsPlan M m p → p.goal < m'.settled → goal_at m' p.goal ≡ goal_at m p.goal →
    earlier p.goal (goal_at m p.goal) ≡ true → ((q : ℕ) → q ≤ p.goal → m'.rows.marked q ≡ m.rows.marked q) → IsPlan M m' p
plan_same M m m' p h low same early rows = record {
  settled = low;
  group = h.group;
  objective = h.objective;
  aims = subst (λ φ. Aims m'.rows.marked φ h.group h.objective) (sym same)
      (aims_same M m'.rows.marked m.rows.marked p.goal (λ c hc. sym (rows c (omega arith))) (goal_at m p.goal) h.group h.objective early h.aims);
  set = h.set;
  sheet = h.sheet;
}

pub play_same : (M : Meaning) (m m' : Model) (q : Play) → m'.plan ≡ m.plan → ((p : Plan) → m.plan ≡ Some p → goal_at m' p.goal ≡ goal_at m p.goal) →
    ((p : Plan) → m.plan ≡ Some p → (s k : ℕ) → met_by m'.rows (goal_at m p.goal) s k ≡ met_by m.rows (goal_at m p.goal) s k) → InPlay M m q → InPlay M m' q
play_same M m m' q plan goal rows (p, e, h) =
    let e' : m'.plan ≡ Some p = plan ∙ e in
    let there : aim m' ≡ aim m = aim_is m' p e' ∙ goal p e ∙ sym (aim_is m p e) in
    let over : met_by m'.rows (aim m') ≡ met_by m.rows (aim m) =
    ap (met_by m'.rows) (aim_is m' p e' ∙ goal p e) ∙ fun_ext (λ s. fun_ext (λ k. rows p e s k)) ∙ ap (met_by m.rows) (sym (aim_is m p e)) in
    (p, e', subst₂ (λ φ o. Played M (group_of φ) p o q) (sym there) (sym over) h)

pub fit_entered : (M : Meaning) (m : Model) (φ : Goal) → length m.goals < m.rows.rows → earlier (length m.goals) φ ≡ true → Fit M m → Fit M (entered m φ)
fit_entered M m φ low early k =
    let long = length_push m.goals φ in
    let old : (f : ℕ) → f < length m.goals → goal_at (entered m φ) f ≡ goal_at m f = λ f hf. get_or_append_left m.goals (φ ∷ []) TRUE f hf in
    record {
      within = omega (arith, k.within);
      room = omega (arith, k.room);
      ordered = λ f hf. elim (cases_lt f (length m.goals)) [
        | inl lt ↦ ap (earlier f) (old f lt) ∙ k.ordered f lt
        | inr ge ↦
            let e : f ≡ length m.goals = omega arith in
            subst (λ n. earlier n (goal_at (entered m φ) n) ≡ true) (sym e) (ap (earlier (length m.goals)) (get_or_at m.goals φ [] TRUE (length m.goals) refl) ∙ early)
      ];
      right = λ f hf s hs. subst (λ ψ. s ∈ m.rows.marked f ↔ Holds M m.rows.marked ψ s) (sym (old f (omega (arith, k.within)))) (k.right f hf s hs);
      past = k.past;
      sheet = λ p e.
          let h = k.sheet p e in
          let lt : p.goal < length m.goals = omega (arith, h.settled, k.within) in
          plan_same M m (entered m φ) p h h.settled (old p.goal lt) (k.ordered p.goal lt) (λ q hq. refl);
      sound = k.sound;
    }

module _ (M : Meaning) (m m' : Model) (k : Fit M m) (h : Settles M m m') where
  pub settled_rows : (q : ℕ) → ¬ (q ≡ m.settled) → m'.rows.marked q ≡ m.rows.marked q
  settled_rows q ne = fun_ext (λ t. h.other q t ne)

  pub settled_goal : (f : ℕ) → goal_at m' f ≡ goal_at m f
  settled_goal f = ap (λ l. get_or l f TRUE) h.goals

  over_new : (f s : ℕ) → f < length m.goals → f ≤ m.settled → Holds M m.rows.marked (goal_at m f) s ↔ Holds M m'.rows.marked (goal_at m f) s
  over_new f s hf low = (
    holds_same M m'.rows.marked m.rows.marked f (λ c hc. sym (settled_rows c (λ e. omega arith))) (goal_at m f) (k.ordered f hf) s,
    holds_same M m.rows.marked m'.rows.marked f (λ c hc. settled_rows c (λ e. omega arith)) (goal_at m f) (k.ordered f hf) s,
  )

  pub fit_settled : m.settled < length m.goals → m.rows.states ≡ M.states → Fit M m'
  fit_settled more same = record {
    within = omega (arith, h.settled, ap length h.goals);
    room = omega (arith, k.room, h.rows, ap length h.goals);
    ordered = λ f hf. ap (earlier f) (settled_goal f) ∙ k.ordered f (omega (arith, ap length h.goals));
    right = λ f hf s hs. subst (λ ψ. s ∈ m'.rows.marked f ↔ Holds M m'.rows.marked ψ s) (sym (settled_goal f)) (elim (cases_eq f m.settled) [
      | inl e ↦
          let o = over_new f s (omega arith) (omega arith) in
          let a : s ∈ m'.rows.marked f ↔ Holds M m.rows.marked (goal_at m f) s = subst (λ n. s ∈ m'.rows.marked n ↔ Holds M m.rows.marked (goal_at m n) s) (sym e) (h.here (omega (arith, k.room)) s hs) in
          (λ x. o.0 (a.0 x), λ x. a.1 (o.1 x))
      | inr ne ↦
          let lt : f < m.settled = omega (arith, h.settled) in
          let o = over_new f s (omega arith) (omega arith) in
          let a = k.right f lt s hs in
          (λ x. o.0 (a.0 (sym (h.other f s ne) ∙ x)), λ x. h.other f s ne ∙ a.1 (o.1 x))
    ]);
    past = λ f hf s hs. elim (cases_eq f m.settled) [
      | inl e ↦ subst (λ n. s ∉ m'.rows.marked n) (sym e) (h.past s hs)
      | inr ne ↦ h.other f s ne ∙ k.past f (omega (arith, h.settled)) s hs
    ];
    sheet = λ p e.
        let old = k.sheet p (sym h.plan ∙ e) in
        let lt = old.settled in
        plan_same M m m' p old (omega (arith, h.settled)) (settled_goal p.goal) (k.ordered p.goal (omega (arith, k.within))) (λ q hq. settled_rows q (λ eq. omega arith));
    sound = record {
      few = omega (arith, k.sound.few, h.rows);
      some = λ more. let z = k.sound.some (omega (arith, h.rows)) in (omega (arith, h.states, z.0), omega (arith, h.states, z.1));
      within = λ q t x. elim (cases_eq q m.settled) [
        | inl e ↦ elim (cases_lt t M.states) [
          | inl lt ↦ (omega (arith, k.room, h.rows), omega (arith, h.states))
          | inr ge ↦ absurd (both_ways _ (h.past t ge) (subst (λ n. t ∈ m'.rows.marked n) e x))
        ]
        | inr ne ↦ let z = k.sound.within q t (sym (h.other q t ne) ∙ x) in (omega (arith, h.rows, z.0), omega (arith, h.states, z.1))
      ];
    };
  }

  pub play_settled : (q : Play) → m.settled < length m.goals → InPlay M m q → InPlay M m' q
  play_settled q more = play_same M m m' q h.plan (λ p e. settled_goal p.goal)
      (λ p e. let low = (k.sheet p e).settled in
      met_same m.rows m'.rows p.goal (goal_at m p.goal) (k.ordered p.goal (omega arith)) (λ c t hc. h.other c t (λ eq. omega arith)))

pub fit_planned : (M : Meaning) (m : Model) (p : Plan) → IsPlan M m p → Fit M m → Fit M (planned m p)
fit_planned M m p h k = record {
  within = k.within;
  room = k.room;
  ordered = k.ordered;
  right = k.right;
  past = k.past;
  sound = k.sound;
  sheet = λ p' e.
      let same : p ≡ p' = cc in
      subst (IsPlan M (planned m p)) same (plan_same M m (planned m p) p h h.settled refl (k.ordered p.goal (omega (arith, h.settled, k.within))) (λ q hq. refl));
}

kept_below : (k : ℕ) (o : Option Plan) (p : Plan) → below k o ≡ Some p → (o ≡ Some p) × (p.goal < k)
kept_below k None p e = let z : ◌≡◌ {A = ℕ} 0 1 = cc in absurd (omega arith)
kept_below k (Some p') p e = go (ltb p'.goal k) refl e
  where
    go : (b : Bool) → ltb p'.goal k ≡ b → cond b (Some p') None ≡ Some p → (Some p' ≡ Some p) × (p.goal < k)
    go true t e = (e, let same : p' ≡ p = cc in subst (λ (x : Plan). x.goal < k) same (ltb-true _ _ t))
    go false t e = let z : ◌≡◌ {A = ℕ} 0 1 = cc in absurd (omega arith)

pub fit_struck : (M : Meaning) (m : Model) (n : ℕ) → n ≤ length m.goals → Fit M m → Fit M (struck m n)
fit_struck M m n le k =
    let long = length-take n m.goals in
    let old : (f : ℕ) → f < n → goal_at (struck m n) f ≡ goal_at m f = λ f hf. get_or-take n m.goals f TRUE hf in
    record {
      within = omega (arith, k.within);
      room = omega (arith, k.room);
      ordered = λ f hf. ap (earlier f) (old f (omega arith)) ∙ k.ordered f (omega arith);
      right = λ f hf s hs. subst (λ ψ. s ∈ m.rows.marked f ↔ Holds M m.rows.marked ψ s) (sym (old f (omega arith))) (k.right f (omega arith) s hs);
      past = λ f hf. k.past f (omega arith);
      sheet = λ p e.
          let (e', lt) = kept_below n m.plan p e in
          let h = k.sheet p e' in
          plan_same M m (struck m n) p h (omega (arith, h.settled)) (old p.goal lt) (k.ordered p.goal (omega arith)) (λ q hq. refl);
      sound = k.sound;
    }
