-- Each call keeps what stands. Assumes nothing.
use Rattle.std.proofs.Common.{◌≡◌, ℕ, zero, suc, ◌+◌, ◌<◌, Bool, true, false, cond, not, eqb, List, [], ◌∷◌, ◌++◌, length, take, drop, Some, None, Option, sym, refl, ap, ◌∙◌, subst, subst₂, inl, inr, arith, length-set}
use Rattle.std.specs.List.{slice_get, AllByRecursion}
use Rattle.std.proofs.ByRecursion.{All-push, All-set, All-weaker, All-append, All-take, All-drop}
use Rattle.std.proofs.lemmas.List.Edits.{length-remove}
use Rattle.std.proofs.lemmas.List.{length_push, nil_from_length, get_or_append_left}
use Rattle.std.proofs.lemmas.Bool.{not-false, leb-false, ltb-false, eqb-true, or_parts, both_ways}
use Rattle.game.specs.Meaning.{Meaning, Lawful, member, GroupChoice, Reply}
use Rattle.game.specs.Objectives.{◌∈◌}
use Rattle.game.proofs.Steps.{joint}
use Rattle.game.proofs.Bounded.{clash}
use Rattle.game.specs.declared.goal.Goal.TheVariants.{True as TRUE}
use Rattle.game.specs.Goals.{goal_of, group_of}
use Rattle.law.specs.Worlds.{Plan, Model, Turn, to_move, to_reply, Play, World, goal_at, aim, met_by, with_replies}
use Rattle.game.specs.declared.fault.Reason.{Reason}
use Rattle.law.specs.Refusals.{Call, enter, settle, query, plan, move, reply, begin, announce, tell, end, strike, by_turn, awaiting_move, by_reply, awaiting_reply, no_board, no_sheet, granted_on, announcing, telling, refusals, first}
use Rattle.law.specs.Steps.{Answer, entered, planned, struck, with_model, with_plays, begun, announced, answered, Announces, Tells, Ends, Does, Ruled, Step, Run, rest, goes}
use Rattle.law.specs.Laws.{Played, InPlay}
use Rattle.game.proofs.Spelling.{aims_group}
use Rattle.law.proofs.Sides.{sides_are_parts}
use Rattle.law.proofs.Moving.{moves}
use Rattle.law.proofs.Kept.{Fit, Kept, aim_is, row_plan, settles, play_same, fit_entered, fit_settled, play_settled, fit_planned, fit_struck}

abbrev pub Fails : Reason × Bool → Type 0
Fails x = x.1 ≡ false

-- no test of the list holds
pub passes : (xs : List (Reason × Bool)) → first xs ≡ None → AllByRecursion Fails xs
passes [] e = tt
passes (x ∷ xs) e = go x.1 refl e (λ h. passes xs h)
  where
    go : (b : Bool) → x.1 ≡ b → cond b (Some x.0) (first xs) ≡ None → (first xs ≡ None → AllByRecursion Fails xs) → (x.1 ≡ false) × AllByRecursion Fails xs
    go true t e rec = let z : ◌≡◌ {A = ℕ} 0 1 = cc in absurd (omega arith)
    go false t e rec = (t, rec e)

pub same_states : (M : Meaning) (m : Model) → no_board M m ≡ false → m.rows.states ≡ M.states
same_states M m e = eqb-true _ _ (not-false _ (or_parts _ _ e).1)

pub no_plays : (qs : List Play) → not (eqb (length qs) 0) ≡ false → qs ≡ []
no_plays qs e = nil_from_length qs (eqb-true _ _ (not-false _ e))

pub nth_all : (P : Play → Type 0) (qs : List Play) (i : ℕ) (q : Play) → slice_get qs i ≡ Some q → AllByRecursion P qs → (i < length qs) × P q
nth_all P [] i q e h = let z : ◌≡◌ {A = ℕ} 0 1 = cc in absurd (omega arith)
nth_all P (x ∷ qs) zero q e h = let same : x ≡ q = cc in (omega arith, subst P same h.0)
nth_all P (x ∷ qs) (suc i) q e h = let r = nth_all P qs i q e h.1 in (omega (arith, r.0), r.1)

pub move_there : (o : Option Play) (q : Play) → awaiting_move o ≡ Some q → o ≡ Some q
move_there None q e = let z : ◌≡◌ {A = ℕ} 0 1 = cc in absurd (omega arith)
move_there (Some x) q e = turn x.turn e
  where
    turn : (t : Turn) → by_turn x t ≡ Some q → Some x ≡ Some q
    turn to_move e = e
    turn (to_reply a) e = let z : ◌≡◌ {A = ℕ} 0 1 = cc in absurd (omega arith)

pub reply_there : (o : Option Play) (q : Play) (a : ℕ) → awaiting_reply o ≡ Some (q, a) → (o ≡ Some q) × (q.turn ≡ to_reply a)
reply_there None q a e = let z : ◌≡◌ {A = ℕ} 0 1 = cc in absurd (omega arith)
reply_there (Some x) q a e = turn x.turn refl e
  where
    turn : (t : Turn) → x.turn ≡ t → by_reply x t ≡ Some (q, a) → (Some x ≡ Some q) × (q.turn ≡ to_reply a)
    turn to_move et e = let z : ◌≡◌ {A = ℕ} 0 1 = cc in absurd (omega arith)
    turn (to_reply b) et e =
        let same : ◌≡◌ {A = Play × ℕ} (x, b) (q, a) = cc in
        let sx : x ≡ q = ap (λ (y : Play × ℕ). y.0) same in
        let sb : b ≡ a = ap (λ (y : Play × ℕ). y.1) same in
        (ap Some sx, sym (ap (λ (y : Play). y.turn) sx) ∙ et ∙ ap to_reply sb)

move_all : (P : Play → Type 0) (qs : List Play) (i : ℕ) (q : Play) → awaiting_move (slice_get qs i) ≡ Some q → AllByRecursion P qs → P q
move_all P qs i q e h = (nth_all P qs i q (move_there (slice_get qs i) q e) h).1

reply_all : (P : Play → Type 0) (qs : List Play) (i : ℕ) (q : Play) (a : ℕ) → awaiting_reply (slice_get qs i) ≡ Some (q, a) → AllByRecursion P qs → P q × (q.turn ≡ to_reply a)
reply_all P qs i q a e h = let r = reply_there (slice_get qs i) q a e in ((nth_all P qs i q r.0 h).1, r.1)

never : (a : ℕ) → to_move ≡ to_reply a → ⊥
never a e = let z : ◌≡◌ {A = ℕ} 0 1 = cc in omega arith

pub granted_by : (m : Model) (p : Plan) (s : ℕ) → m.plan ≡ Some p → not (granted_on m.plan s) ≡ false → p.granted s ≡ true
granted_by m p s e t = sym (ap (λ o. granted_on o s) e) ∙ not-false _ t

pub has_sheet : (o : Option Plan) → no_sheet o ≡ false → (p : Plan) × (o ≡ Some p)
has_sheet None e = absurd (both_ways _ e refl)
has_sheet (Some p) e = (p, refl)

-- the sheet's move at a granted state where the goal is not met
module _ (M : Meaning) (law : Lawful M) (m : Model) (fit : Fit M m) (p : Plan) (e : m.plan ≡ Some p) where
  move_of : (s k : ℕ) → s < M.states → s ∈ p.granted → met_by m.rows (aim m) s k ≡ false →
      GroupChoice M (group_of (aim m)) s (p.move s) × ((r : ℕ) → Reply M (group_of (aim m)) s r →
      (M.next s (p.move s + r) < M.states) × (met_by m.rows (aim m) (M.next s (p.move s + r)) (suc k) ≡ false → M.next s (p.move s + r) ∈ p.granted))
  move_of s k hs hg out =
      let h = row_plan M m fit p e in
      let ai = aim_is m p e in
      let gr : group_of (aim m) ≡ h.group = ap group_of ai ∙ aims_group m.rows.marked (goal_at m p.goal) h.group h.goal h.aims in
      let mv = moves M m.rows (goal_at m p.goal) h.group h.goal (m.rows.marked p.goal) (with_replies p h.sheet.0) h.aims h.sheet.1
      s k hs (sym (h.granted s) ∙ hg) (ap (λ φ. met_by m.rows φ s k) (sym ai) ∙ out) in (
        subst (λ g. GroupChoice M g s (p.move s)) (sym gr) mv.0,
        λ r hr.
            let hr' = subst (λ g. Reply M g s r) gr hr in
            let lands = law.lands s (p.move s + r) hs (joint M h.group s (p.move s) r mv.0 hr') in (
              lands,
              λ out'. elim (mv.1 r hr') [
                | inl over ↦ absurd (clash over (ap (λ φ. met_by m.rows φ (M.next s (p.move s + r)) (suc k)) (sym ai) ∙ out'))
                | inr stays ↦ h.granted _ ∙ stays
              ],
            ),
      )

begin_kept : (M : Meaning) (w : World) (s : ℕ) → AllByRecursion Fails (refusals M w (begin s)) → Kept M w → Kept M (with_plays w (w.plays ++ begun s ∷ []))
begin_kept M w s t k =
    let m = w.model in
    let (p, e) = has_sheet m.plan t.1.0 in
    let hs = leb-false _ _ t.1.1.0 in
    let hg = granted_by m p s e t.1.1.1.0 in
    record {
      fit = k.fit;
      plays = All-push (InPlay M m) w.plays (begun s) k.plays (
        p,
        e,
        record {
          begins = (hs, hg);
          stands = (hs, refl);
          counts = refl;
          followed = tt;
          granted = λ _. hg;
          announces = λ a et. absurd (never a et);
        },
      );
      few = omega (arith, length_push w.plays (begun s), leb-false _ _ t.1.1.1.1.0);
    }

announce_kept : (M : Meaning) → Lawful M → (w : World) (i : ℕ) (o : Option Play) → awaiting_move (slice_get w.plays i) ≡ o → (r : Answer) (w' : World) →
    AllByRecursion Fails (announcing M w o) → Announces w i o r w' → Kept M w → Kept M w'
announce_kept M law w i None e r w' t h k = subst (Kept M) (sym h.1) k
announce_kept M law w i (Some q) e r w' t (p, ep, er, ew) k =
    let m = w.model in
    let (p', ep', pl') = move_all (InPlay M m) w.plays i q e k.plays in
    let same : p' ≡ p = cc in
    let pl = subst (λ x. Played M (group_of (aim m)) x (met_by m.rows (aim m)) q) same pl' in
    let out = t.1.1.1.0 in
    let mv = move_of M law m k.fit p ep q.state q.steps pl.stands.0 (pl.granted out) out in
    let new : Played M (group_of (aim m)) p (met_by m.rows (aim m)) (announced q (p.move q.state)) = record {
      begins = pl.begins;
      stands = pl.stands;
      counts = pl.counts;
      followed = pl.followed;
      granted = pl.granted;
      announces = λ a et. let eq : p.move q.state ≡ a = cc in (sym eq, subst (GroupChoice M (group_of (aim m)) q.state) eq mv.0, out);
    } in
    subst (Kept M) (sym ew) (record {
      fit = k.fit;
      plays = All-set (InPlay M m) w.plays i (announced q (p.move q.state)) (p, ep, new) k.plays;
      few = omega (arith, length-set w.plays i (announced q (p.move q.state)), k.few);
    })

tell_kept : (M : Meaning) → Lawful M → (w : World) (i b : ℕ) (o : Option (Play × ℕ)) → awaiting_reply (slice_get w.plays i) ≡ o → (r : Answer) (w' : World) →
    AllByRecursion Fails (telling M w o b) → Tells M w i b o r w' → Kept M w → Kept M w'
tell_kept M law w i b None e r w' t h k = subst (Kept M) (sym h.1) k
tell_kept M law w i b (Some x) e r w' t h k =
    let m = w.model in
    let q = x.0 in
    let a = x.1 in
    let g = group_of (aim m) in
    let over = met_by m.rows (aim m) in
    let (there, et) = reply_all (InPlay M m) w.plays i q a e k.plays in
    let (p, ep, pl) = there in
    let (is_move, ga, out) = pl.announces a et in
    let hg = pl.granted out in
    let rb : Reply M g q.state b = (sides_are_parts M (λ i. not (member g i)) q.state b).0 (not-false _ t.1.1.1.0) in
    let mv = move_of M law m k.fit p ep q.state q.steps pl.stands.0 hg out in
    let on = mv.1 b rb in
    let new : Played M g p over (answered M q a b) = record {
      begins = pl.begins;
      stands = (subst (λ c. M.next q.state (c + b) < M.states) (sym is_move) on.0, ap (λ s. M.next s (a + b)) pl.stands.1);
      counts = ap suc pl.counts;
      followed = (
        subst (λ s. s ∈ p.granted) pl.stands.1 hg,
        subst₂ (λ s n. over s n ≡ false) pl.stands.1 pl.counts out,
        subst (λ s. a ≡ p.move s) pl.stands.1 is_move,
        subst (λ s. GroupChoice M g s a) pl.stands.1 ga,
        subst (λ s. Reply M g s b) pl.stands.1 rb,
        pl.followed,
      );
      granted = λ out'. subst (λ c. M.next q.state (c + b) ∈ p.granted) (sym is_move) (on.1 (subst (λ c. over (M.next q.state (c + b)) (suc q.steps) ≡ false) is_move out'));
      announces = λ c ec. absurd (never c ec);
    } in
    subst (Kept M) (sym h.1) (record {
      fit = k.fit;
      plays = All-set (InPlay M m) w.plays i (answered M q a b) (p, ep, new) k.plays;
      few = omega (arith, length-set w.plays i (answered M q a b), k.few);
    })

end_kept : (M : Meaning) (w : World) (i : ℕ) (o : Option Play) → slice_get w.plays i ≡ o → (r : Answer) (w' : World) → Ends w i o r w' → Kept M w → Kept M w'
end_kept M w i None e r w' h k = subst (Kept M) (sym h.1) k
end_kept M w i (Some q) e r w' h k =
    let lt = (nth_all (InPlay M w.model) w.plays i q e k.plays).0 in
    subst (Kept M) (sym h.1) (record {
      fit = k.fit;
      plays = All-append (InPlay M w.model) (take i w.plays) (drop (suc i) w.plays) (All-take (InPlay M w.model) i w.plays k.plays) (All-drop (InPlay M w.model) (suc i) w.plays k.plays);
      few = omega (arith, length-remove w.plays i lt, k.few);
    })

-- a case changed while no play is under way
with_none : (M : Meaning) (w : World) (m : Model) → not (eqb (length w.plays) 0) ≡ false → Fit M m → Kept M (with_model w m)
with_none M w m e fit =
    let z = no_plays w.plays e in
    record { fit = fit; plays = subst (AllByRecursion (InPlay M m)) (sym z) tt; few = omega (arith, ap length z) }

does_kept : (M : Meaning) → Lawful M → (w : World) (c : Call) (r : Answer) (w' : World) → AllByRecursion Fails (refusals M w c) → Does M w c r w' → Kept M w → Kept M w'
does_kept M law w (enter x) r w' t h k =
    let m = w.model in
    let fit = fit_entered M m (goal_of x) (leb-false _ _ t.1.0) (not-false _ t.1.1.1.0) k.fit in
    subst (Kept M) (sym h.1) (record {
      fit = fit;
      plays = All-weaker (InPlay M m) (InPlay M (entered m (goal_of x))) (λ q. play_same M m (entered m (goal_of x)) q refl (λ p e. let h = (k.fit.sheet p e).settled in get_or_append_left m.goals (goal_of x ∷ []) TRUE p.goal (omega (arith, k.fit.within))) (λ p e s n. refl)) w.plays k.plays;
      few = k.few;
    })
does_kept M law w settle r w' t h k =
    let m = w.model in
    let more = leb-false _ _ t.1.0 in
    let same = same_states M m t.0 in
    let row = settles M m w'.model same h.1 in
    record {
      fit = fit_settled M m w'.model k.fit row more same;
      plays = subst (AllByRecursion (InPlay M w'.model)) (sym h.2) (All-weaker (InPlay M m) (InPlay M w'.model) (λ q. play_settled M m w'.model k.fit row q more) w.plays k.plays);
      few = omega (arith, ap length h.2, k.few);
    }
does_kept M law w (query f s) r w' t h k = subst (Kept M) (sym h.1) k
does_kept M law w (plan f) r w' t (p, ef, is, er, ew) k =
    subst (Kept M) (sym ew) (with_none M w (planned w.model p) t.1.1.1.1.0 (fit_planned M w.model p is k.fit))
does_kept M law w (move s) r w' t h k = subst (Kept M) (sym h.3) k
does_kept M law w (reply s a) r w' t h k = subst (Kept M) (sym h.3) k
does_kept M law w (begin s) r w' t h k = subst (Kept M) (sym h.1) (begin_kept M w s t k)
does_kept M law w (announce i) r w' t h k = announce_kept M law w i (awaiting_move (slice_get w.plays i)) refl r w' t h k
does_kept M law w (tell i b) r w' t h k = tell_kept M law w i b (awaiting_reply (slice_get w.plays i)) refl r w' t h k
does_kept M law w (end i) r w' t h k = end_kept M w i (slice_get w.plays i) refl r w' h k
does_kept M law w (strike n) r w' t h k =
    subst (Kept M) (sym h.1) (with_none M w (struck w.model n) t.1.1.0 (fit_struck M w.model n (ltb-false _ _ t.1.0) k.fit))

pub step_kept : (M : Meaning) → Lawful M → (w : World) (c : Call) (r : Answer) (w' : World) → Step M w c r w' → Kept M w → Kept M w'
step_kept M law w c r w' step k = go (first (refusals M w c)) refl step.is
  where
    go : (o : Option Reason) → first (refusals M w c) ≡ o → Ruled M w c o r w' → Kept M w'
    go (Some n) e h = subst (Kept M) (sym h.1) k
    go None e h = does_kept M law w c r w' (passes (refusals M w c) e) h k

pub run_kept : (M : Meaning) → Lawful M → (w : World) (cs : List Call) (rs : List Answer) (w' : World) → Run M w cs rs w' → Kept M w → Kept M w'
run_kept M law w cs rs w' (rest x) k = k
run_kept M law w cs rs w' (goes x y z c r cs' rs' step run) k = run_kept M law y cs' rs' w' run (step_kept M law x c r y step k)
