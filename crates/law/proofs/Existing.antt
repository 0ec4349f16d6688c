-- Every list of calls has a run. Assumes nothing.
use Rattle.std.proofs.Common.{◌≡◌, ℕ, ◌<◌, true, List, [], ◌∷◌, ◌++◌, length, set, Some, None, Option, refl}
use Rattle.std.specs.List.{slice_get, remove, AllByRecursion}
use Rattle.std.proofs.lemmas.Bool.{leb-false, not-false}
use Rattle.game.specs.Meaning.{Meaning, Lawful}
use Rattle.game.specs.Objectives.{Objective, nexttime, always, until, States}
use Rattle.game.proofs.Bounded.{clash}
use Rattle.game.proofs.Strategy.{sheets_exist}
use Rattle.game.specs.declared.goal.Goal.{Goal}
use Rattle.game.specs.declared.goal.Goal.TheVariants.{True as TRUE, Atom as ATOM, Not as NOT, Or as OR, And as AND, Each as EACH, Common as COMMON, Joint as JOINT, Next as NEXT, Always as ALWAYS, Until as UNTIL}
use Rattle.game.specs.Goals.{goal_of, strategic}
use Rattle.game.specs.Formulas.{Aims, of_next, of_always, of_until}
use Rattle.law.specs.Worlds.{Plan, Model, Play, World, opened, goal_at, met, IsPlan}
use Rattle.game.specs.declared.fault.Reason.{Reason}
use Rattle.law.specs.Refusals.{Call, enter, settle, query, plan, move, reply, begin, announce, tell, end, strike, awaiting_move, awaiting_reply, announcing, refusals, first}
use Rattle.law.specs.Steps.{Answer, number, done, told, entry, outcome, refused, idle, fault, entered, settled_as, planned, struck, with_model, with_plays, begun, announced, answered, Announces, Tells, Ends, Does, Ruled, Step, Run, rest, goes}
use Rattle.law.specs.Laws.{RunsExist}
use Rattle.law.proofs.Kept.{Kept}
use Rattle.law.proofs.Calls.{Fails, passes as all_pass, has_sheet, step_kept}
use Rattle.law.proofs.Lawfully.{opened_kept}
use Rattle.game.proofs.Goaled.{goals_have_sets}

abbrev Answered : Meaning → World → Call → Type 0
Answered M w c = (r : Answer) × (w' : World) × Does M w c r w'

aims_exist : (R : ℕ → States) (φ : Goal) → strategic φ ≡ true → (g : ℕ) × (a : Objective) × Aims R φ g a
aims_exist R TRUE e = absurd (clash e refl)
aims_exist R (ATOM p) e = absurd (clash e refl)
aims_exist R (NOT c) e = absurd (clash e refl)
aims_exist R (OR c d) e = absurd (clash e refl)
aims_exist R (AND c d) e = absurd (clash e refl)
aims_exist R (EACH g c) e = absurd (clash e refl)
aims_exist R (COMMON g c) e = absurd (clash e refl)
aims_exist R (JOINT g c) e = absurd (clash e refl)
aims_exist R (NEXT g c) e = (g, nexttime (R c), of_next g c)
aims_exist R (ALWAYS g c) e = (g, always (R c), of_always g c)
aims_exist R (UNTIL g c d) e = (g, until (R c) (R d), of_until g c d)

plan_exists : (M : Meaning) → Lawful M → (m : Model) (f : ℕ) → f < m.settled → strategic (goal_at m f) ≡ true → (p : Plan) × (p.goal ≡ f) × IsPlan M m p
plan_exists M law m f hf st =
    let (g, a, aims) = aims_exist m.rows.marked (goal_at m f) st in
    let (P, set, (S, sheet)) = sheets_exist M law g a in (
      record { goal = f; granted = P; rank = S.rank; move = S.move },
      refl,
      record {
        settled = hf;
        group = g;
        objective = a;
        aims = aims;
        set = set;
        sheet = (S.reply, sheet);
      },
    )

does_exist : (M : Meaning) → Lawful M → (w : World) (c : Call) → Kept M w → AllByRecursion Fails (refusals M w c) → Answered M w c
does_exist M law w (enter x) k t = (number (length w.model.goals), with_model w (entered w.model (goal_of x)), (refl, refl))
does_exist M law w settle k t =
    let (P, set) = goals_have_sets M law w.model.rows.marked (goal_at w.model w.model.settled) in
    (done, with_model w (settled_as w.model P), (refl, (P, set, refl), refl))
does_exist M law w (query f s) k t = (told (w.model.rows.marked f s), w, (refl, refl))
does_exist M law w (plan f) k t =
    let (p, e, is) = plan_exists M law w.model f (leb-false _ _ t.1.1.0) (not-false _ t.1.1.1.0) in
    (done, with_model w (planned w.model p), (p, e, is, refl, refl))
does_exist M law w (move s) k t = let (p, e) = has_sheet w.model.plan t.1.0 in (entry (p.rank s) (p.move s), w, (p, e, refl, refl))
does_exist M law w (reply s a) k t =
    let (p, e) = has_sheet w.model.plan t.1.0 in
    let h = k.fit.sheet p e in
    let b = h.sheet.0 s a in
    (entry (p.rank s) b, w, (p, e, (b, λ _. record { group = h.group; objective = h.objective; aims = h.aims; sheet = (h.sheet.0, h.sheet.1, refl) }, refl), refl))
does_exist M law w (begin s) k t = (done, with_plays w (w.plays ++ begun s ∷ []), (refl, refl))
does_exist M law w (announce i) k t = go (awaiting_move (slice_get w.plays i)) t
  where
    go : (o : Option Play) → AllByRecursion Fails (announcing M w o) → (r : Answer) × (w' : World) × Announces w i o r w'
    go None t = (idle, w, (refl, refl))
    go (Some q) t =
        let (p, e) = has_sheet w.model.plan t.1.0 in
        (entry (p.rank q.state) (p.move q.state), with_plays w (set w.plays i (announced q (p.move q.state))), (p, e, refl, refl))
does_exist M law w (tell i b) k t = go (awaiting_reply (slice_get w.plays i))
  where
    go : (o : Option (Play × ℕ)) → (r : Answer) × (w' : World) × Tells M w i b o r w'
    go None = (idle, w, (refl, refl))
    go (Some x) = (done, with_plays w (set w.plays i (answered M x.0 x.1 b)), (refl, refl))
does_exist M law w (end i) k t = go (slice_get w.plays i)
  where
    go : (o : Option Play) → (r : Answer) × (w' : World) × Ends w i o r w'
    go None = (idle, w, (refl, refl))
    go (Some q) = (outcome q.steps (met w.model q), with_plays w (remove w.plays i), (refl, refl))
does_exist M law w (strike n) k t = (done, with_model w (struck w.model n), (refl, refl))

step_exists : (M : Meaning) → Lawful M → (w : World) (c : Call) → Kept M w → (r : Answer) × (w' : World) × Step M w c r w'
step_exists M law w c k = let (r, w', h) = go (first (refusals M w c)) refl in (r, w', record { is = h })
  where
    go : (o : Option Reason) → first (refusals M w c) ≡ o → (r : Answer) × (w' : World) × Ruled M w c o r w'
    go (Some n) e = (refused (fault n), w, (refl, refl))
    go None e = does_exist M law w c k (all_pass (refusals M w c) e)

goes_on : (M : Meaning) → Lawful M → (w : World) → Kept M w → (cs : List Call) → (rs : List Answer) × (w' : World) × Run M w cs rs w'
goes_on M law w k [] = ([], w, rest w)
goes_on M law w k (c ∷ cs) =
    let (r, x, step) = step_exists M law w c k in
    let (rs, w', run) = goes_on M law x (step_kept M law w c r x step k) cs in
    (r ∷ rs, w', goes w x w' c r cs rs step run)

pub runs_exist : RunsExist
runs_exist M law b sound cs = goes_on M law (opened b) (opened_kept M b sound) cs
