-- Two runs of the same calls have the same answers. Assumes nothing.
use Rattle.std.proofs.Common.{◌≡◌, ℕ, suc, ◌<◌, ◌≤◌, min, Bool, true, false, cond, not, ◌||◌, eqb, ltb, leb, ◌↔◌, List, [], ◌∷◌, ◌++◌, length, get_or, take, set, Some, None, Option, sym, refl, ap, ◌∙◌, subst, ap₂, subst₂, inl, inr, arith}
use mathlib.Core.Path.{fun_ext}
use Rattle.std.specs.List.{slice_get, remove, AllByRecursion}
use Rattle.std.proofs.lemmas.Bool.{cases_eq, cases_lt, not-false, leb-false}
use Rattle.game.specs.Meaning.{Meaning, Lawful, member, GroupChoice}
use Rattle.game.specs.Objectives.{States, ◌∈◌, ◌∉◌, IsSetOf}
use Rattle.game.specs.Sheets.{IsSheet}
use Rattle.game.proofs.Strategy.{sheets_agree}
use Rattle.game.proofs.Sets.{set_one}
use Rattle.game.specs.declared.goal.Goal.TheVariants.{True as TRUE}
use Rattle.game.specs.Goals.{word_of, goal_of, same_word, earlier, known, strategic, group_of}
use Rattle.game.specs.Formulas.{Aims, Holds}
use Rattle.law.specs.Worlds.{Plan, Model, Play, World, opened, goal_at, planned_goal, aim, met_by, IsPlan, IsReply, with_replies}
use Rattle.game.specs.declared.fault.Reason.{Reason}
use Rattle.game.specs.declared.fault.Reason.TheVariants.{NoBoard, NoRow, NotAGoal, NotEarlier, NotKnown, NoSuchGoal, NotSettled, AllSettled, NoSuchState, NotStrategic, NoSheet, Denied, Granted, NotAllowed, PlaysUnderWay, TooManyPlays, NoPlay, TooManySteps, AlreadyMet}
use Rattle.law.specs.Refusals.{Call, enter, settle, query, plan, move, reply, begin, announce, tell, end, strike, awaiting_move, awaiting_reply, no_board, no_sheet, granted_on, announcing, telling, refusals, first, fits_side}
use Rattle.law.specs.Steps.{Answer, number, told, entry, outcome, below, with_plays, begun, announced, answered, Announces, Tells, Ends, Does, Ruled, Step, Run, rest, goes}
use Rattle.law.specs.Laws.{SameAnswers}
use Rattle.game.proofs.Spelling.{holds_same, aims_same, aims_group}
use Rattle.law.proofs.Sides.{sides_are_parts}
use Rattle.law.proofs.Moving.{met_same}
use Rattle.law.proofs.Kept.{Kept, aim_is, Settles, settles, plan_same}
use Rattle.law.proofs.Calls.{Fails, passes, same_states, granted_by, step_kept}
use Rattle.law.proofs.Journeys.{aims_unique}
use Rattle.law.proofs.Lawfully.{opened_kept}

-- two sheets that the table does not tell apart
record SamePlan (M : Meaning) (p q : Plan) : Type 0 where
  goal : p.goal ≡ q.goal
  granted : p.granted ≡ q.granted
  rank : (s : ℕ) → s < M.states → p.rank s ≡ q.rank s
  move : (s : ℕ) → s < M.states → s ∈ p.granted → p.move s ≡ q.move s

abbrev SamePlans : Meaning → Option Plan → Option Plan → Type 0
SamePlans M None None = Unit {0}
SamePlans M None (Some q) = ⊥
SamePlans M (Some p) None = ⊥
SamePlans M (Some p) (Some q) = SamePlan M p q

record Same (M : Meaning) (w v : World) : Type 0 where
  goals : w.model.goals ≡ v.model.goals
  settled : w.model.settled ≡ v.model.settled
  states : w.model.rows.states ≡ v.model.rows.states
  rows : w.model.rows.rows ≡ v.model.rows.rows
  marks : (q : ℕ) → q < w.model.settled → w.model.rows.marked q ≡ v.model.rows.marked q
  plans : SamePlans M w.model.plan v.model.plan
  plays : w.plays ≡ v.plays

same_bool : (x y : Bool) → (x ≡ true ↔ y ≡ true) → x ≡ y
same_bool true y h = sym (h.0 refl)
same_bool false true h = h.1 refl
same_bool false false h = refl

sheetless : (M : Meaning) (o u : Option Plan) → SamePlans M o u → no_sheet o ≡ no_sheet u
sheetless M None None h = refl
sheetless M None (Some q) h = absurd h
sheetless M (Some p) None h = absurd h
sheetless M (Some p) (Some q) h = refl

granted_same : (M : Meaning) (o u : Option Plan) (s : ℕ) → SamePlans M o u → granted_on o s ≡ granted_on u s
granted_same M None None s h = refl
granted_same M None (Some q) s h = absurd h
granted_same M (Some p) None s h = absurd h
granted_same M (Some p) (Some q) s h = ap (λ (X : States). X s) h.granted

both_some : (M : Meaning) (o u : Option Plan) (p q : Plan) → o ≡ Some p → u ≡ Some q → SamePlans M o u → SamePlan M p q
both_some M o u p q e f h = subst₂ (SamePlans M) e f h

aimed : (M : Meaning) (m n : Model) (o u : Option Plan) → m.goals ≡ n.goals → SamePlans M o u → planned_goal m o ≡ planned_goal n u
aimed M m n None None e h = refl
aimed M m n None (Some q) e h = absurd h
aimed M m n (Some p) None e h = absurd h
aimed M m n (Some p) (Some q) e h = ap₂ (λ l k. get_or l k TRUE) e h.goal

module _ (M : Meaning) (w v : World) (h : Same M w v) (k : Kept M w) where
  goal_same : (f : ℕ) → goal_at w.model f ≡ goal_at v.model f
  goal_same f = ap (λ l. get_or l f TRUE) h.goals

  aim_same : aim w.model ≡ aim v.model
  aim_same = aimed M w.model v.model w.model.plan v.model.plan h.goals h.plans

  met_equal : (s n : ℕ) → met_by w.model.rows (aim w.model) s n ≡ met_by v.model.rows (aim v.model) s n
  met_equal s n = go w.model.plan refl ∙ ap (λ φ. met_by v.model.rows φ s n) aim_same
    where
      go : (o : Option Plan) → w.model.plan ≡ o → met_by w.model.rows (aim w.model) s n ≡ met_by v.model.rows (aim w.model) s n
      go None e = let z : aim w.model ≡ TRUE = ap (planned_goal w.model) e in ap (λ φ. met_by w.model.rows φ s n) z ∙ ap (λ φ. met_by v.model.rows φ s n) (sym z)
      go (Some p) e =
          let low = (k.fit.sheet p e).settled in
          let z = aim_is w.model p e in
          ap (λ φ. met_by w.model.rows φ s n) z ∙
          sym (met_same w.model.rows v.model.rows p.goal (goal_at w.model p.goal) (k.fit.ordered p.goal (omega (arith, k.fit.within)))
          (λ q t hq. ap (λ (X : States). X t) (sym (h.marks q (omega arith)))) s n) ∙
          ap (λ φ. met_by v.model.rows φ s n) (sym z)

  boardless : no_board M w.model ≡ no_board M v.model
  boardless = ap₂ (λ a b. eqb a 0 || not (eqb b M.states)) h.rows h.states

  announcing_same : (o : Option Play) → announcing M w o ≡ announcing M v o
  announcing_same None = refl
  announcing_same (Some q) =
      let e1 = boardless in
      let e2 = sheetless M w.model.plan v.model.plan h.plans in
      let e3 = met_equal q.state q.steps in
      let e4 = granted_same M w.model.plan v.model.plan q.state h.plans in
      λ i. (NoBoard, e1 i) ∷ (NoSheet, e2 i) ∷ (NoSuchState, leb M.states q.state) ∷ (AlreadyMet, e3 i) ∷ (Denied, not (e4 i)) ∷ (TooManySteps, leb 65535 q.steps) ∷ []

  telling_same : (o : Option (Play × ℕ)) (b : ℕ) → telling M w o b ≡ telling M v o b
  telling_same None b = refl
  telling_same (Some x) b =
      let e1 = boardless in
      let e2 = sheetless M w.model.plan v.model.plan h.plans in
      let e3 = aim_same in
      λ i. (NoBoard, e1 i) ∷ (NoSheet, e2 i) ∷ (NoSuchState, leb M.states x.0.state) ∷ (NotAllowed, not (fits_side M (λ a. not (member (group_of (e3 i)) a)) x.0.state b)) ∷ []

  refusals_same : (c : Call) → refusals M w c ≡ refusals M v c
  refusals_same (enter x) =
      let e1 = boardless in let e2 = h.rows in let e3 = h.goals in
      λ i. (NoBoard, e1 i) ∷ (NoRow, leb (e2 i) (length (e3 i))) ∷ (NotAGoal, not (same_word x (word_of (goal_of x)))) ∷ (NotEarlier, not (earlier (length (e3 i)) (goal_of x))) ∷ (NotKnown, not (known M (goal_of x))) ∷ []
  refusals_same settle = let e1 = boardless in let e2 = h.goals in let e3 = h.settled in λ i. (NoBoard, e1 i) ∷ (AllSettled, leb (length (e2 i)) (e3 i)) ∷ []
  refusals_same (query f s) =
      let e1 = boardless in let e2 = h.goals in let e3 = h.settled in λ i. (NoBoard, e1 i) ∷ (NoSuchGoal, leb (length (e2 i)) f) ∷ (NotSettled, leb (e3 i) f) ∷ (NoSuchState, leb M.states s) ∷ []
  refusals_same (plan f) =
      let e1 = boardless in let e2 = h.goals in let e3 = h.settled in let e4 = h.plays in
      λ i. (NoBoard, e1 i) ∷ (NoSuchGoal, leb (length (e2 i)) f) ∷ (NotSettled, leb (e3 i) f) ∷ (NotStrategic, not (strategic (get_or (e2 i) f TRUE))) ∷ (PlaysUnderWay, not (eqb (length (e4 i)) 0)) ∷ []
  refusals_same (move s) =
      let e1 = boardless in let e2 = sheetless M w.model.plan v.model.plan h.plans in let e3 = granted_same M w.model.plan v.model.plan s h.plans in
      λ i. (NoBoard, e1 i) ∷ (NoSheet, e2 i) ∷ (NoSuchState, leb M.states s) ∷ (Denied, not (e3 i)) ∷ []
  refusals_same (reply s a) =
      let e1 = boardless in let e2 = sheetless M w.model.plan v.model.plan h.plans in let e3 = granted_same M w.model.plan v.model.plan s h.plans in let e4 = aim_same in
      λ i. (NoBoard, e1 i) ∷ (NoSheet, e2 i) ∷ (NoSuchState, leb M.states s) ∷ (Granted, e3 i) ∷ (NotAllowed, not (fits_side M (member (group_of (e4 i))) s a)) ∷ []
  refusals_same (begin s) =
      let e1 = boardless in let e2 = sheetless M w.model.plan v.model.plan h.plans in let e3 = granted_same M w.model.plan v.model.plan s h.plans in let e4 = h.plays in
      λ i. (NoBoard, e1 i) ∷ (NoSheet, e2 i) ∷ (NoSuchState, leb M.states s) ∷ (Denied, not (e3 i)) ∷ (TooManyPlays, leb 8 (length (e4 i))) ∷ []
  refusals_same (announce i) = ap (λ qs. announcing M w (awaiting_move (slice_get qs i))) h.plays ∙ announcing_same (awaiting_move (slice_get v.plays i))
  refusals_same (tell i b) = ap (λ qs. telling M w (awaiting_reply (slice_get qs i)) b) h.plays ∙ telling_same (awaiting_reply (slice_get v.plays i)) b
  refusals_same (end i) = let e1 = boardless in let e2 = h.plays in λ j. (NoBoard, e1 j) ∷ (NoPlay, eqb (length (e2 j)) 0) ∷ []
  refusals_same (strike n) =
      let e1 = boardless in let e2 = h.goals in let e3 = h.plays in λ i. (NoBoard, e1 i) ∷ (NoSuchGoal, ltb (length (e2 i)) n) ∷ (PlaysUnderWay, not (eqb (length (e3 i)) 0)) ∷ []

below_same : (M : Meaning) (n : ℕ) (o u : Option Plan) → SamePlans M o u → SamePlans M (below n o) (below n u)
below_same M n None None h = tt
below_same M n None (Some q) h = absurd h
below_same M n (Some p) None h = absurd h
below_same M n (Some p) (Some q) h = subst (λ x. SamePlans M (cond (ltb p.goal n) (Some p) None) (cond (ltb x n) (Some q) None)) h.goal (go (ltb p.goal n))
  where
    go : (b : Bool) → SamePlans M (cond b (Some p) None) (cond b (Some q) None)
    go true = h
    go false = tt

-- two sheets of one goal
plans_alike : (M : Meaning) → Lawful M → (m : Model) (p q : Plan) → IsPlan M m p → IsPlan M m q → p.goal ≡ q.goal → SamePlan M p q
plans_alike M law m p q i j e =
    let R = m.rows.marked in
    let aims' = subst (λ f. Aims R (goal_at m f) j.group j.objective) (sym e) j.aims in
    let u = aims_unique R (goal_at m p.goal) i.group i.objective j.group j.objective i.aims aims' in
    let set = subst₂ (λ x y. IsSetOf M x y p.granted) u.0 u.1 i.set in
    let same : p.granted ≡ q.granted = set_one M j.group j.objective p.granted q.granted set j.set in
    let own = subst₂ (λ x y. IsSheet M x y p.granted (with_replies p i.sheet.0)) u.0 u.1 i.sheet.1 in
    let other = subst (λ X. IsSheet M j.group j.objective X (with_replies q j.sheet.0)) (sym same) j.sheet.1 in
    let agree = sheets_agree M law j.group j.objective p.granted (with_replies p i.sheet.0) (with_replies q j.sheet.0) own other in
    record { goal = e; granted = same; rank = λ s hs. (agree s hs).0; move = λ s hs hg. (agree s hs).1 hg }

replies_alike : (M : Meaning) → Lawful M → (m : Model) (p q : Plan) (s a b c : ℕ) → p.goal ≡ q.goal → p.granted ≡ q.granted → s < M.states → s ∉ p.granted →
    GroupChoice M (group_of (goal_at m p.goal)) s a → IsReply M m p s a b → IsReply M m q s a c → b ≡ c
replies_alike M law m p q s a b c e same hs out ga i j =
    let R = m.rows.marked in
    let aims' = subst (λ f. Aims R (goal_at m f) j.group j.objective) (sym e) j.aims in
    let u = aims_unique R (goal_at m p.goal) i.group i.objective j.group j.objective i.aims aims' in
    let own = subst₂ (λ x y. IsSheet M x y p.granted (with_replies p i.sheet.0)) u.0 u.1 i.sheet.1 in
    let other = subst (λ X. IsSheet M j.group j.objective X (with_replies q j.sheet.0)) (sym same) j.sheet.1 in
    let ga' = subst (λ g. GroupChoice M g s a) (aims_group R (goal_at m p.goal) j.group j.objective aims') ga in
    i.sheet.2 ∙ (sheets_agree M law j.group j.objective p.granted (with_replies p i.sheet.0) (with_replies q j.sheet.0) own other s hs).2 out a ga' ∙ sym j.sheet.2

-- a reply over rows that agree up to the goal
reply_over : (M : Meaning) (m m' : Model) (p : Plan) (s a b : ℕ) → IsReply M m p s a b → goal_at m' p.goal ≡ goal_at m p.goal →
    earlier p.goal (goal_at m p.goal) ≡ true → ((q : ℕ) → q ≤ p.goal → m'.rows.marked q ≡ m.rows.marked q) → IsReply M m' p s a b
reply_over M m m' p s a b h same early rows = record {
  group = h.group;
  objective = h.objective;
  aims = subst (λ φ. Aims m'.rows.marked φ h.group h.objective) (sym same)
      (aims_same M m'.rows.marked m.rows.marked p.goal (λ c hc. sym (rows c (omega arith))) (goal_at m p.goal) h.group h.objective early h.aims);
  sheet = h.sheet;
}

module _ (M : Meaning) (law : Lawful M) (w v : World) (h : Same M w v) (k : Kept M w) (l : Kept M v) where
  with_same : (qs us : List Play) → qs ≡ us → Same M (with_plays w qs) (with_plays v us)
  with_same qs us e = record { goals = h.goals; settled = h.settled; states = h.states; rows = h.rows; marks = h.marks; plans = h.plans; plays = e }

  settle_same : (w' v' : World) → w.model.settled < length w.model.goals → Settles M w.model w'.model → Settles M v.model v'.model → w'.plays ≡ w.plays → v'.plays ≡ v.plays → Same M w' v'
  settle_same w' v' more a b pa pb =
      let m = w.model in
      let n = v.model in
      let f = m.settled in
      let early = k.fit.ordered f more in
      let room : m.settled < m.rows.rows = omega (arith, k.fit.room) in
      let there : (t : ℕ) → t < M.states → t ∈ v'.model.rows.marked f ↔ Holds M n.rows.marked (goal_at m f) t =
      λ t ht. subst (λ φ. t ∈ v'.model.rows.marked f ↔ Holds M n.rows.marked φ t) (sym (goal_same M w v h k f))
      (subst (λ x. t ∈ v'.model.rows.marked x ↔ Holds M n.rows.marked (goal_at n x) t) (sym h.settled) (b.here (omega (arith, h.settled, h.rows)) t ht)) in
      let at : (t : ℕ) → w'.model.rows.marked f t ≡ v'.model.rows.marked f t =
      λ t. elim (cases_lt t M.states) [
        | inl lt ↦ same_bool _ _ (
          (λ x. (there t lt).1 (holds_same M n.rows.marked m.rows.marked f (λ c hc. h.marks c hc) (goal_at m f) early t ((a.here room t lt).0 x))),
          (λ x. (a.here room t lt).1 (holds_same M m.rows.marked n.rows.marked f (λ c hc. sym (h.marks c hc)) (goal_at m f) early t ((there t lt).0 x))),
        )
        | inr ge ↦ a.past t ge ∙ sym (subst (λ x. t ∉ v'.model.rows.marked x) (sym h.settled) (b.past t ge))
      ] in
      record {
        goals = a.goals ∙ h.goals ∙ sym b.goals;
        settled = a.settled ∙ ap suc h.settled ∙ sym b.settled;
        states = a.states ∙ h.states ∙ sym b.states;
        rows = a.rows ∙ h.rows ∙ sym b.rows;
        marks = λ q hq. elim (cases_eq q f) [
          | inl e ↦ subst (λ x. w'.model.rows.marked x ≡ v'.model.rows.marked x) (sym e) (fun_ext at)
          | inr ne ↦ fun_ext (λ t. a.other q t ne ∙ ap (λ (X : States). X t) (h.marks q (omega (arith, a.settled))) ∙ sym (b.other q t (λ e. ne (e ∙ sym h.settled))))
        ];
        plans = subst₂ (SamePlans M) (sym a.plan) (sym b.plan) h.plans;
        plays = pa ∙ h.plays ∙ sym pb;
      }

  early_v : (f : ℕ) → f < w.model.settled → earlier f (goal_at v.model f) ≡ true
  early_v f hf = l.fit.ordered f (omega (arith, h.settled, l.fit.within))

  plan_same_at : (p q : Plan) (f : ℕ) → f < w.model.settled → p.goal ≡ f → q.goal ≡ f → IsPlan M w.model p → IsPlan M v.model q → SamePlan M p q
  plan_same_at p q f hf ep eq i j =
      let low : q.goal < w.model.settled = omega arith in
      plans_alike M law w.model p q i
      (plan_same M v.model w.model q j low (goal_same M w v h k q.goal) (early_v q.goal low) (λ c hc. h.marks c (omega arith)))
      (ep ∙ sym eq)

  announce_same : (i : ℕ) (o : Option Play) (r r' : Answer) (w' v' : World) → AllByRecursion Fails (announcing M w o) → Announces w i o r w' → Announces v i o r' v' → (r ≡ r') × Same M w' v'
  announce_same i None r r' w' v' t (er, ew) (er', ev) = (er ∙ sym er', subst₂ (Same M) (sym ew) (sym ev) h)
  announce_same i (Some q) r r' w' v' t (p, ep, er, ew) (p', ep', er', ev) =
      let sp = both_some M w.model.plan v.model.plan p p' ep ep' h.plans in
      let hs = leb-false _ _ t.1.1.0 in
      let hg = granted_by w.model p q.state ep t.1.1.1.1.0 in
      let em = sp.move q.state hs hg in (
        er ∙ ap₂ entry (sp.rank q.state hs) em ∙ sym er',
        subst₂ (Same M) (sym ew) (sym ev) (with_same _ _ (ap₂ (λ qs a. set qs i (announced q a)) h.plays em)),
      )

  tell_same : (i b : ℕ) (o : Option (Play × ℕ)) (r r' : Answer) (w' v' : World) → Tells M w i b o r w' → Tells M v i b o r' v' → (r ≡ r') × Same M w' v'
  tell_same i b None r r' w' v' (er, ew) (er', ev) = (er ∙ sym er', subst₂ (Same M) (sym ew) (sym ev) h)
  tell_same i b (Some x) r r' w' v' (er, ew) (er', ev) =
      (er ∙ sym er', subst₂ (Same M) (sym ew) (sym ev) (with_same _ _ (ap (λ qs. set qs i (answered M x.0 x.1 b)) h.plays)))

  end_same : (i : ℕ) (o : Option Play) (r r' : Answer) (w' v' : World) → Ends w i o r w' → Ends v i o r' v' → (r ≡ r') × Same M w' v'
  end_same i None r r' w' v' (er, ew) (er', ev) = (er ∙ sym er', subst₂ (Same M) (sym ew) (sym ev) h)
  end_same i (Some q) r r' w' v' (er, ew) (er', ev) =
      (er ∙ ap (outcome q.steps) (met_equal M w v h k q.state q.steps) ∙ sym er', subst₂ (Same M) (sym ew) (sym ev) (with_same _ _ (ap (λ qs. remove qs i) h.plays)))

  does_same : (c : Call) (r r' : Answer) (w' v' : World) → AllByRecursion Fails (refusals M w c) → Does M w c r w' → Does M v c r' v' → (r ≡ r') × Same M w' v'
  does_same (enter x) r r' w' v' t (er, ew) (er', ev) = (
    er ∙ ap (λ gs. number (length gs)) h.goals ∙ sym er',
    subst₂ (Same M) (sym ew) (sym ev) (record {
      goals = ap (λ gs. gs ++ goal_of x ∷ []) h.goals;
      settled = h.settled;
      states = h.states;
      rows = h.rows;
      marks = h.marks;
      plans = h.plans;
      plays = h.plays;
    }),
  )
  does_same settle r r' w' v' t (er, a, pa) (er', b, pb) =
      let same = same_states M w.model t.0 in
      (er ∙ sym er', settle_same w' v' (leb-false _ _ t.1.0) (settles M w.model w'.model same a) (settles M v.model v'.model (sym h.states ∙ same) b) pa pb)
  does_same (query f s) r r' w' v' t (er, ew) (er', ev) =
      (er ∙ ap (λ (X : States). told (X s)) (h.marks f (leb-false _ _ t.1.1.0)) ∙ sym er', subst₂ (Same M) (sym ew) (sym ev) h)
  does_same (plan f) r r' w' v' t (p, ep, i, er, ew) (q, eq, j, er', ev) = (
    er ∙ sym er',
    subst₂ (Same M) (sym ew) (sym ev) (record {
      goals = h.goals;
      settled = h.settled;
      states = h.states;
      rows = h.rows;
      marks = h.marks;
      plays = h.plays;
      plans = let hf : f < w.model.settled = leb-false _ _ t.1.1.0 in plan_same_at p q f hf ep eq i j;
    }),
  )
  does_same (move s) r r' w' v' t (p, ep, er, ew) (p', ep', er', ev) =
      let sp = both_some M w.model.plan v.model.plan p p' ep ep' h.plans in
      let hs = leb-false _ _ t.1.1.0 in
      (er ∙ ap₂ entry (sp.rank s hs) (sp.move s hs (granted_by w.model p s ep t.1.1.1.0)) ∙ sym er', subst₂ (Same M) (sym ew) (sym ev) h)
  does_same (reply s a) r r' w' v' t (p, ep, (b, i, er), ew) (p', ep', (b', j, er'), ev) =
      let m = w.model in
      let sp = both_some M m.plan v.model.plan p p' ep ep' h.plans in
      let hs : s < M.states = leb-false _ _ t.1.1.0 in
      let is = k.fit.sheet p ep in
      let low : p'.goal < m.settled = omega (arith, is.settled, sp.goal) in
      let out : s ∉ p.granted = sym (ap (λ o. granted_on o s) ep) ∙ t.1.1.1.0 in
      let ga = subst (λ φ. GroupChoice M (group_of φ) s a) (aim_is m p ep) ((sides_are_parts M (member (group_of (aim m))) s a).0 (not-false _ t.1.1.1.1.0)) in
      let j' = reply_over M v.model m p' s a b' (j (l.fit.sheet p' ep')) (goal_same M w v h k p'.goal) (early_v p'.goal low) (λ c hc. h.marks c (omega arith)) in
      (er ∙ ap₂ entry (sp.rank s hs) (replies_alike M law m p p' s a b b' sp.goal sp.granted hs out ga (i is) j') ∙ sym er', subst₂ (Same M) (sym ew) (sym ev) h)
  does_same (begin s) r r' w' v' t (er, ew) (er', ev) = (er ∙ sym er', subst₂ (Same M) (sym ew) (sym ev) (with_same _ _ (ap (λ qs. qs ++ begun s ∷ []) h.plays)))
  does_same (announce i) r r' w' v' t d e =
      announce_same i (awaiting_move (slice_get w.plays i)) r r' w' v' t d (subst (λ qs. Announces v i (awaiting_move (slice_get qs i)) r' v') (sym h.plays) e)
  does_same (tell i b) r r' w' v' t d e =
      tell_same i b (awaiting_reply (slice_get w.plays i)) r r' w' v' d (subst (λ qs. Tells M v i b (awaiting_reply (slice_get qs i)) r' v') (sym h.plays) e)
  does_same (end i) r r' w' v' t d e = end_same i (slice_get w.plays i) r r' w' v' d (subst (λ qs. Ends v i (slice_get qs i) r' v') (sym h.plays) e)
  does_same (strike n) r r' w' v' t (er, ew) (er', ev) = (
    er ∙ sym er',
    subst₂ (Same M) (sym ew) (sym ev) (record {
      goals = ap (take n) h.goals;
      settled = ap (min n) h.settled;
      states = h.states;
      rows = h.rows;
      marks = λ q hq. h.marks q (omega arith);
      plans = below_same M n w.model.plan v.model.plan h.plans;
      plays = h.plays;
    }),
  )

  step_same : (c : Call) (r r' : Answer) (w' v' : World) → Step M w c r w' → Step M v c r' v' → (r ≡ r') × Same M w' v'
  step_same c r r' w' v' st st' = go (first (refusals M w c)) refl st.is (subst (λ o. Ruled M v c o r' v') (ap first (sym (refusals_same M w v h k c))) st'.is)
    where
      go : (o : Option Reason) → first (refusals M w c) ≡ o → Ruled M w c o r w' → Ruled M v c o r' v' → (r ≡ r') × Same M w' v'
      go (Some n) e (er, ew) (er', ev) = (er ∙ sym er', subst₂ (Same M) (sym ew) (sym ev) h)
      go None e d d' = does_same c r r' w' v' (passes (refusals M w c) e) d d'

runs_same : (M : Meaning) → Lawful M → (w v : World) (cs : List Call) (rs rs' : List Answer) (w' v' : World) → Run M w cs rs w' → Run M v cs rs' v' → Same M w v → Kept M w → Kept M v → rs ≡ rs'
runs_same M law w v cs rs rs' w' v' (rest x) (rest y) h k l = refl
runs_same M law w v cs rs rs' w' v' (goes x y z c r cs₁ rs₁ st run) (goes x' y' z' c' r' cs₂ rs₂ st' run') h k l =
    let (er, h') = step_same M law x x' h k l c r r' y y' st st' in
    ap₂ ◌∷◌ er (runs_same M law y y' cs₁ rs₁ rs₂ z z' run run' h' (step_kept M law x c r y st k) (step_kept M law x' c r' y' st' l))

pub same_answers : SameAnswers
same_answers M law b b' sound sound' es er cs rs rs' w w' run run' =
    runs_same M law (opened b) (opened b') cs rs rs' w w' run run'
    (record { goals = refl; settled = refl; states = es; rows = er; marks = λ q hq. absurd (omega arith); plans = tt; plays = refl })
    (opened_kept M b sound) (opened_kept M b' sound')
