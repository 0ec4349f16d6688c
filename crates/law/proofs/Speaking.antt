-- What the answers say. Assumes nothing.
use Rattle.std.proofs.Common.{◌≡◌, ℕ, ◌<◌, Bool, true, false, cond, not, ◌↔◌, List, [], ◌∷◌, length, Some, None, Option, sym, refl, ap, ◌∙◌, subst, subst₂, inl, inr, arith}
use mathlib.Core.Path.{fun_ext}
use Rattle.std.specs.List.{slice_get, AllByRecursion}
use Rattle.std.proofs.lemmas.Bool.{not-false, leb-false}
use Rattle.game.specs.Meaning.{Meaning, Lawful, member, GroupChoice}
use Rattle.game.specs.Objectives.{Objective, ◌∈◌, ◌∉◌}
use Rattle.game.specs.Plays.{Ensures}
use Rattle.game.specs.Sheets.{Sheet, IsSheet}
use Rattle.game.proofs.Bounded.{true_or_false, clash}
use Rattle.game.proofs.Strategy.{sheets_agree}
use Rattle.game.specs.Goals.{group_of}
use Rattle.game.specs.Formulas.{Aims, formula, Sat}
use Rattle.law.specs.Worlds.{Plan, Model, Play, World, goal_at, aim, met, with_replies}
use Rattle.game.specs.declared.fault.Reason.{Reason}
use Rattle.law.specs.Refusals.{Call, enter, settle, query, plan, move, reply, begin, announce, tell, end, strike, awaiting_move, awaiting_reply, granted_on, announcing, telling, refusals, first}
use Rattle.game.specs.Faults.{layer_of}
use Rattle.game.specs.declared.fault.Fault.{Fault}
use Rattle.game.specs.declared.fault.Layer.TheVariants.{Case}
use Rattle.law.specs.Steps.{fault, Answer, number, done, told, entry, outcome, refused, idle, Announces, Tells, Ends, Does, Ruled, Step}
use Rattle.law.specs.Logs.{accepted}
use Rattle.law.specs.Laws.{InPlay, Promise, EverySheet, Speaks}
use Rattle.game.proofs.Spelling.{aims_group}
use Rattle.law.proofs.Sides.{sides_are_parts}
use Rattle.law.proofs.Kept.{Kept, aim_is, row_plan}
use Rattle.law.proofs.Calls.{Fails, passes, nth_all, granted_by, move_there}
use Rattle.law.proofs.Journeys.{aims_unique}

-- a call that was not refused passed its tests and did what it does
did : (M : Meaning) (w : World) (c : Call) (r : Answer) (w' : World) → Step M w c r w' → accepted r ≡ true → Does M w c r w' × AllByRecursion Fails (refusals M w c)
did M w c r w' step ok = go (first (refusals M w c)) refl step.is
  where
    go : (o : Option Reason) → first (refusals M w c) ≡ o → Ruled M w c o r w' → Does M w c r w' × AllByRecursion Fails (refusals M w c)
    go (Some n) e h = absurd (clash ok (ap accepted h.0))
    go None e h = (h, passes (refusals M w c) e)

abbrev refusing : Answer → Bool
refusing (number n) = false
refusing done = false
refusing (told x) = false
refusing (entry n a) = false
refusing (outcome n x) = false
refusing (refused e) = true
refusing idle = false

-- a call that does something is not refused
never_refused : (M : Meaning) (w : World) (c : Call) (r : Answer) (w' : World) → Does M w c r w' → refusing r ≡ false
never_refused M w (enter x) r w' (er, ew) = ap refusing er
never_refused M w settle r w' (er, s, ew) = ap refusing er
never_refused M w (query f s) r w' (er, ew) = ap refusing er
never_refused M w (plan f) r w' (p, ef, is, er, ew) = ap refusing er
never_refused M w (move s) r w' (p, ep, er, ew) = ap refusing er
never_refused M w (reply s a) r w' (p, ep, (b, is, er), ew) = ap refusing er
never_refused M w (begin s) r w' (er, ew) = ap refusing er
never_refused M w (announce i) r w' d = go (awaiting_move (slice_get w.plays i)) d
  where
    go : (o : Option Play) → Announces w i o r w' → refusing r ≡ false
    go None (er, ew) = ap refusing er
    go (Some q) (p, ep, er, ew) = ap refusing er
never_refused M w (tell i b) r w' d = go (awaiting_reply (slice_get w.plays i)) d
  where
    go : (o : Option (Play × ℕ)) → Tells M w i b o r w' → refusing r ≡ false
    go None (er, ew) = ap refusing er
    go (Some x) (er, ew) = ap refusing er
never_refused M w (end i) r w' d = go (slice_get w.plays i) d
  where
    go : (o : Option Play) → Ends w i o r w' → refusing r ≡ false
    go None (er, ew) = ap refusing er
    go (Some q) (er, ew) = ap refusing er
never_refused M w (strike k) r w' (er, ew) = ap refusing er

pub refused_so : (M : Meaning) (w : World) (c : Call) (r : Answer) (w' : World) → Step M w c r w' → (e : Fault) → r ≡ refused e → (first (refusals M w c) ≡ Some e.reason) × (e ≡ fault e.reason) × (w' ≡ w)
refused_so M w c r w' step e er = go (first (refusals M w c)) refl step.is
  where
    go : (o : Option Reason) → first (refusals M w c) ≡ o → Ruled M w c o r w' → (first (refusals M w c) ≡ Some e.reason) × (e ≡ fault e.reason) × (w' ≡ w)
    go (Some n) eo (er', ew) =
        let same : fault n ≡ e = cc in
        let en : n ≡ e.reason = ap (λ (x : Fault). x.reason) same in
        (eo ∙ ap Some en, sym same ∙ ap fault en, ew)
    go None eo d = absurd (clash (ap refusing er) (never_refused M w c r w' d))

-- every reason in the tables is of the case's layer
abbrev OfCase : Reason × Bool → Type 0
OfCase x = layer_of x.0 ≡ Case

first_of : (xs : List (Reason × Bool)) → AllByRecursion OfCase xs → (r : Reason) → first xs ≡ Some r → layer_of r ≡ Case
first_of [] h r e = absurd (none_some e)
  where
    none_some : {r : Reason} → None ≡ Some r → ⊥
    none_some e = let z : ◌≡◌ {A = ℕ} 0 1 = cc in absurd (omega arith)
first_of (x ∷ xs) (own, rest) r e = go x.1 e (first_of xs rest r)
  where
    go : (b : Bool) → cond b (Some x.0) (first xs) ≡ Some r → (first xs ≡ Some r → layer_of r ≡ Case) → layer_of r ≡ Case
    go true is more = let same : x.0 ≡ r = cc in subst (λ y. layer_of y ≡ Case) same own
    go false is more = more is

of_case : (M : Meaning) (w : World) (c : Call) → AllByRecursion OfCase (refusals M w c)
of_case M w (enter x) = (refl, (refl, (refl, (refl, (refl, tt)))))
of_case M w settle = (refl, (refl, tt))
of_case M w (query f s) = (refl, (refl, (refl, (refl, tt))))
of_case M w (plan f) = (refl, (refl, (refl, (refl, (refl, tt)))))
of_case M w (move s) = (refl, (refl, (refl, (refl, tt))))
of_case M w (reply s a) = (refl, (refl, (refl, (refl, (refl, tt)))))
of_case M w (begin s) = (refl, (refl, (refl, (refl, (refl, tt)))))
of_case M w (announce i) = go (awaiting_move (slice_get w.plays i))
  where
    go : (o : Option Play) → AllByRecursion OfCase (announcing M w o)
    go None = tt
    go (Some q) = (refl, (refl, (refl, (refl, (refl, (refl, tt))))))
of_case M w (tell i b) = go (awaiting_reply (slice_get w.plays i))
  where
    go : (o : Option (Play × ℕ)) → AllByRecursion OfCase (telling M w o b)
    go None = tt
    go (Some x) = (refl, (refl, (refl, (refl, tt))))
of_case M w (end i) = (refl, (refl, tt))
of_case M w (strike k) = (refl, (refl, (refl, tt)))

pub refused_layer : (M : Meaning) (w : World) (c : Call) (r : Answer) (w' : World) → Step M w c r w' → (e : Fault) → r ≡ refused e → layer_of e.reason ≡ Case
refused_layer M w c r w' step e er = first_of (refusals M w c) (of_case M w c) e.reason (refused_so M w c r w' step e er).0

-- a sheet of the case's goal agrees with every other
module _ (M : Meaning) (law : Lawful M) (m : Model) (p : Plan) (f : ℕ → ℕ → ℕ) (g₀ : ℕ) (φ₀ : Objective) (aims₀ : Aims m.rows.marked (goal_at m p.goal) g₀ φ₀)
    (sheet₀ : IsSheet M g₀ φ₀ (m.rows.marked p.goal) (with_replies p f)) where
  agrees : (p' : Plan) → p ≡ p' → (g : ℕ) (φ : Objective) → Aims m.rows.marked (goal_at m p'.goal) g φ → (S : Sheet) → IsSheet M g φ (m.rows.marked p'.goal) S → (s : ℕ) → s < M.states →
      (p.rank s ≡ S.rank s) × (s ∈ m.rows.marked p.goal → p.move s ≡ S.move s) × (s ∉ m.rows.marked p.goal → (a : ℕ) → GroupChoice M g s a → f s a ≡ S.reply s a)
  agrees p' same g φ aims S sheet s hs =
      let aims' = subst (λ (x : Plan). Aims m.rows.marked (goal_at m x.goal) g φ) (sym same) aims in
      let sheet' = subst (λ (x : Plan). IsSheet M g φ (m.rows.marked x.goal) S) (sym same) sheet in
      let u = aims_unique m.rows.marked (goal_at m p.goal) g₀ φ₀ g φ aims₀ aims' in
      let own = subst₂ (λ x y. IsSheet M x y (m.rows.marked p.goal) (with_replies p f)) u.0 u.1 sheet₀ in
      sheets_agree M law g φ (m.rows.marked p.goal) (with_replies p f) S own sheet' s hs

module _ (M : Meaning) (law : Lawful M) (w : World) (w' : World) (k : Kept M w) (pr : Promise M w) where
  of_query : (f s : ℕ) (x : Bool) → Step M w (query f s) (told x) w' →
      (x ≡ true ↔ Sat M (formula w.model.goals f) s) × ((g : ℕ) (φ : Objective) → Aims w.model.rows.marked (goal_at w.model f) g φ → x ≡ false ↔ ¬ Ensures M g φ s)
  of_query f s x step =
      let ((er, ew), t) = did M w (query f s) (told x) w' step refl in
      let ex : x ≡ w.model.rows.marked f s = cc in
      let hf = leb-false _ _ t.1.1.0 in
      let hs = leb-false _ _ t.1.1.1.0 in
      let sat = pr.decides f hf s hs in (
        (λ y. sat.0 (sym ex ∙ y), λ y. ex ∙ sat.1 y),
        λ g φ aims.
            let en = (pr.ensures f hf g φ aims s hs).0 in
            (λ xf can. clash (ex ∙ en.1 can) xf, λ none. elim (true_or_false x) [ inl y ↦ absurd (none (en.0 (sym ex ∙ y))) | inr y ↦ y ]),
      )

  -- what the sheet has at a granted state
  granted_entry : (p : Plan) → w.model.plan ≡ Some p → (s : ℕ) → s < M.states → not (granted_on w.model.plan s) ≡ false → EverySheet M w.model (λ S. (p.rank s ≡ S.rank s) × (p.move s ≡ S.move s))
  granted_entry p e s hs t p' e' g φ aims S sheet =
      let h = row_plan M w.model k.fit p e in
      let same : p ≡ p' = cc in
      let a = agrees M law w.model p h.sheet.0 h.group h.goal h.aims h.sheet.1 p' same g φ aims S sheet s hs in
      (a.0, a.1 (sym (h.granted s) ∙ granted_by w.model p s e t))

  of_move : (s n a : ℕ) → Step M w (move s) (entry n a) w' → EverySheet M w.model (λ S. (n ≡ S.rank s) × (a ≡ S.move s))
  of_move s n a step p' e' g φ aims S sheet =
      let ((p, e, er, ew), t) = did M w (move s) (entry n a) w' step refl in
      let en : n ≡ p.rank s = cc in
      let ea : a ≡ p.move s = cc in
      let x = granted_entry p e s (leb-false _ _ t.1.1.0) t.1.1.1.0 p' e' g φ aims S sheet in
      (en ∙ x.0, ea ∙ x.1)

  of_announce : (i n a : ℕ) → Step M w (announce i) (entry n a) w' → (q : Play) × (slice_get w.plays i ≡ Some q) × EverySheet M w.model (λ S. (n ≡ S.rank q.state) × (a ≡ S.move q.state))
  of_announce i n a step = let (d, t) = did M w (announce i) (entry n a) w' step refl in go (awaiting_move (slice_get w.plays i)) refl d t
    where
      go : (o : Option Play) → awaiting_move (slice_get w.plays i) ≡ o → Announces w i o (entry n a) w' → AllByRecursion Fails (announcing M w o) →
          (q : Play) × (slice_get w.plays i ≡ Some q) × EverySheet M w.model (λ S. (n ≡ S.rank q.state) × (a ≡ S.move q.state))
      go None e (er, ew) t = let z : ◌≡◌ {A = ℕ} 0 1 = cc in absurd (omega arith)
      go (Some q) e (p, ep, er, ew) t =
          let en : n ≡ p.rank q.state = cc in
          let ea : a ≡ p.move q.state = cc in (
            q,
            move_there (slice_get w.plays i) q e,
            λ p' e' g φ aims S sheet.
                let x = granted_entry p ep q.state (leb-false _ _ t.1.1.0) t.1.1.1.1.0 p' e' g φ aims S sheet in
                (en ∙ x.0, ea ∙ x.1),
          )

  of_reply : (s a n b : ℕ) → Step M w (reply s a) (entry n b) w' → EverySheet M w.model (λ S. (n ≡ S.rank s) × (b ≡ S.reply s a))
  of_reply s a n b step p' e' g φ aims S sheet =
      let m = w.model in
      let ((p, e, (b', owed, er), ew), t) = did M w (reply s a) (entry n b) w' step refl in
      let en : n ≡ p.rank s = cc in
      let eb : b ≡ b' = cc in
      let same : p ≡ p' = cc in
      let hs = leb-false _ _ t.1.1.0 in
      let h = row_plan M m k.fit p e in
      let is = owed (k.fit.sheet p e) in
      let own = subst (λ X. IsSheet M is.group is.objective X (with_replies p is.sheet.0)) (fun_ext h.granted) is.sheet.1 in
      let x = agrees M law m p is.sheet.0 is.group is.objective is.aims own p' same g φ aims S sheet s hs in
      let out : s ∉ m.rows.marked p.goal = sym (h.granted s) ∙ sym (ap (λ o. granted_on o s) e) ∙ t.1.1.1.0 in
      let gr : group_of (aim m) ≡ g = ap group_of (aim_is m p' e') ∙ aims_group m.rows.marked (goal_at m p'.goal) g φ aims in
      let ga = subst (λ y. GroupChoice M y s a) gr ((sides_are_parts M (member (group_of (aim m))) s a).0 (not-false _ t.1.1.1.1.0)) in
      (en ∙ x.0, eb ∙ is.sheet.2 ∙ x.2 out a ga)

  of_end : (i n : ℕ) (x : Bool) → Step M w (end i) (outcome n x) w' → (q : Play) × (slice_get w.plays i ≡ Some q) × (n ≡ length q.told) × (x ≡ met w.model q)
  of_end i n x step = let (d, t) = did M w (end i) (outcome n x) w' step refl in go (slice_get w.plays i) refl d
    where
      go : (o : Option Play) → slice_get w.plays i ≡ o → Ends w i o (outcome n x) w' → (q : Play) × (slice_get w.plays i ≡ Some q) × (n ≡ length q.told) × (x ≡ met w.model q)
      go None e (er, ew) = let z : ◌≡◌ {A = ℕ} 0 1 = cc in absurd (omega arith)
      go (Some q) e (er, ew) =
          let en : n ≡ q.steps = cc in
          let ex : x ≡ met w.model q = cc in
          let pl = (nth_all (InPlay M w.model) w.plays i q e k.plays).1.2 in
          (q, e, en ∙ pl.counts, ex)

  pub spoken : (c : Call) (r : Answer) → Step M w c r w' → Speaks M w c r
  spoken c r step = record {
    of_query = λ f s x ec er. of_query f s x (subst₂ (λ c r. Step M w c r w') ec er step);
    of_move = λ s n a ec er. of_move s n a (subst₂ (λ c r. Step M w c r w') ec er step);
    of_announce = λ i n a ec er. of_announce i n a (subst₂ (λ c r. Step M w c r w') ec er step);
    of_reply = λ s a n b ec er. of_reply s a n b (subst₂ (λ c r. Step M w c r w') ec er step);
    of_end = λ i n x ec er. of_end i n x (subst₂ (λ c r. Step M w c r w') ec er step);
  }
