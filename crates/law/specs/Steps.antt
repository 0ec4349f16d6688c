-- What a call does, and runs of calls. Assumes nothing.
use Rattle.std.specs.Prelude.{◌≡◌, ℕ, suc, ◌+◌, min, cond, ◌&&◌, List, [], ◌∷◌, ◌++◌, length, take, Some, None, Option, ◌==◌, nat_lt, slice_set}
use Rattle.std.specs.List.{slice_get, remove}
use Rattle.game.specs.Meaning.{Meaning}
use Rattle.game.specs.Objectives.{States}
use Rattle.game.specs.declared.fault.Fault.{Fault}
use Rattle.game.specs.declared.fault.Reason.{Reason}
pub use Rattle.law.specs.declared.call.Answer.{Answer}
pub use Rattle.law.specs.declared.call.Answer.TheVariants.{Number as number, Done as done, Told as told, Entry as entry, Outcome as outcome, Refused as refused, Idle as idle}
use Rattle.game.specs.declared.goal.Goal.{Goal}
use Rattle.game.specs.Goals.{goal_of}
use Rattle.game.specs.Formulas.{GoalSet}
use Rattle.boards.specs.Meaning.{Rows, known}
use Rattle.law.specs.Worlds.{Plan, Model, to_move, to_reply, Play, World, goal_at, met, IsPlan, IsReply}
use Rattle.law.specs.Refusals.{Call, enter, settle, query, plan, move, reply, begin, announce, tell, end, strike, awaiting_move, awaiting_reply, refusals, first}

-- A refusal of the case has place 0.
abbrev pub fault : Reason → Fault
fault reason = record { reason = reason; place = 0 }

abbrev pub entered : Model → Goal → Model
entered m φ = record { goals = m.goals ++ φ ∷ []; settled = m.settled; plan = m.plan; rows = m.rows }

-- Row f is P, as far as the board has it, and no other mark changes.
abbrev pub with_row : Rows → ℕ → States → Rows
with_row b f P = record { states = b.states; rows = b.rows; marked = λ q t. cond (q == f) (known b f t && P t) (b.marked q t) }

abbrev pub settled_as : Model → States → Model
settled_as m P = record { goals = m.goals; settled = m.settled + 1; plan = m.plan; rows = with_row m.rows m.settled P }

-- The row of the lowest unsettled goal has become its set over the rows of its operands.
abbrev pub Settled : Meaning → Model → Model → Type 0
Settled M m m' = (P : States) × GoalSet M m.rows.marked (goal_at m m.settled) P × (m' ≡ settled_as m P)

abbrev pub planned : Model → Plan → Model
planned m p = record { goals = m.goals; settled = m.settled; plan = Some p; rows = m.rows }

-- Goals k and up are gone, and a sheet of one of them; the board stays.
abbrev pub below : ℕ → Option Plan → Option Plan
below k None = None
below k (Some p) = cond (nat_lt p.goal k) (Some p) None

abbrev pub struck : Model → ℕ → Model
struck m k = record { goals = take k m.goals; settled = min k m.settled; plan = below k m.plan; rows = m.rows }

abbrev pub with_model : World → Model → World
with_model w m = record { model = m; plays = w.plays }

abbrev pub with_plays : World → List Play → World
with_plays w qs = record { model = w.model; plays = qs }

abbrev pub begun : ℕ → Play
begun s = record { start = s; told = []; state = s; steps = 0; turn = to_move }

-- The move a is announced; the reply b to it is told.
abbrev pub announced : Play → ℕ → Play
announced q a = record { start = q.start; told = q.told; state = q.state; steps = q.steps; turn = to_reply a }

abbrev pub answered : Meaning → Play → ℕ → ℕ → Play
answered M q a b = record { start = q.start; told = (a, b) ∷ q.told; state = M.next q.state (a + b); steps = suc q.steps; turn = to_move }

abbrev pub Idle : World → Answer → World → Type 0
Idle w r w' = (r ≡ idle) × (w' ≡ w)

abbrev pub Announces : World → ℕ → Option Play → Answer → World → Type 0
Announces w i None r w' = Idle w r w'
Announces w i (Some q) r w' =
    (p : Plan) × (w.model.plan ≡ Some p) × (r ≡ entry (p.rank q.state) (p.move q.state)) × (w' ≡ with_plays w (slice_set w.plays i (announced q (p.move q.state))))

abbrev pub Tells : Meaning → World → ℕ → ℕ → Option (Play × ℕ) → Answer → World → Type 0
Tells M w i b None r w' = Idle w r w'
Tells M w i b (Some x) r w' = (r ≡ done) × (w' ≡ with_plays w (slice_set w.plays i (answered M x.0 x.1 b)))

abbrev pub Ends : World → ℕ → Option Play → Answer → World → Type 0
Ends w i None r w' = Idle w r w'
Ends w i (Some q) r w' = (r ≡ outcome q.steps (met w.model q)) × (w' ≡ with_plays w (remove w.plays i))

-- What a call that is not refused answers, and leaves. A reply is the table's where the sheet is; the law shows that it always is.
abbrev pub Does : Meaning → World → Call → Answer → World → Type 0
Does M w (enter x) r w' = (r ≡ number (length w.model.goals)) × (w' ≡ with_model w (entered w.model (goal_of x)))
Does M w settle r w' = (r ≡ done) × Settled M w.model w'.model × (w'.plays ≡ w.plays)
Does M w (query f s) r w' = (r ≡ told (w.model.rows.marked f s)) × (w' ≡ w)
Does M w (plan f) r w' = (p : Plan) × (p.goal ≡ f) × IsPlan M w.model p × (r ≡ done) × (w' ≡ with_model w (planned w.model p))
Does M w (move s) r w' = (p : Plan) × (w.model.plan ≡ Some p) × (r ≡ entry (p.rank s) (p.move s)) × (w' ≡ w)
Does M w (reply s a) r w' = (p : Plan) × (w.model.plan ≡ Some p) × ((b : ℕ) × (IsPlan M w.model p → IsReply M w.model p s a b) × (r ≡ entry (p.rank s) b)) × (w' ≡ w)
Does M w (begin s) r w' = (r ≡ done) × (w' ≡ with_plays w (w.plays ++ begun s ∷ []))
Does M w (announce i) r w' = Announces w i (awaiting_move (slice_get w.plays i)) r w'
Does M w (tell i b) r w' = Tells M w i b (awaiting_reply (slice_get w.plays i)) r w'
Does M w (end i) r w' = Ends w i (slice_get w.plays i) r w'
Does M w (strike k) r w' = (r ≡ done) × (w' ≡ with_model w (struck w.model k))

-- A refused call alters nothing.
abbrev pub Ruled : Meaning → World → Call → Option Reason → Answer → World → Type 0
Ruled M w call (Some reason) r w' = (r ≡ refused (fault reason)) × (w' ≡ w)
Ruled M w call None r w' = Does M w call r w'

-- A call turns world w into w' with answer r.
pub record Step (M : Meaning) (w : World) (call : Call) (r : Answer) (w' : World) : Type 0 where
  pub is : Ruled M w call (first (refusals M w call)) r w'

pub data Run (M : Meaning) : World → List Call → List Answer → World → Type 0 where
  rest : (w : World) → Run M w [] [] w
  goes : (w x w' : World) (c : Call) (r : Answer) (cs : List Call) (rs : List Answer) → Step M w c r x → Run M x cs rs w' → Run M w (c ∷ cs) (r ∷ rs) w'
