-- What a case shows, and a call of it as a step of the law. Assumes nothing.
use Rattle.std.specs.Prelude.{◌≡◌, ℕ, ◌<◌, Bool, List, length, Some, None, Ok, Err, vec_items, Option, Result}
use Rattle.game.specs.Meaning.{Meaning}
use Rattle.game.specs.Goals.{goal_of}
use Rattle.game.specs.declared.fault.Fault.{Fault}
use Rattle.game.specs.declared.fault.Stop.{Stop}
use Rattle.game.specs.declared.fault.Stop.TheVariants.{Refused as refused, Memory}
use Rattle.game.specs.declared.goal.Goal.{Goal}
use Rattle.game.specs.declared.goal.Word.{Word}
use Rattle.game.specs.declared.system.System as system
use Rattle.boards.specs.declared.board.Board as board
use Rattle.boards.specs.Meaning.{Rows, Sound}
use Rattle.plans.specs.Drawing.{granted_in, rank_in, choice_in}
use Rattle.law.specs.Worlds.{Plan, Model, Play, World, opened, goal_at}
use Rattle.law.specs.Refusals.{refusals, first}
use Rattle.law.specs.Steps.{Step, Run, fault}
use Rattle.law.specs.Laws.{Speaks}
use Rattle.law.specs.declared.call.Call.{Call}
use Rattle.law.specs.declared.call.Call.TheVariants.{Enter, Settle}
use Rattle.law.specs.declared.call.Answer.{Answer}
use Rattle.law.specs.declared.call.Answer.TheVariants.{Number, Done, Told, Entry, Refused}
use Rattle.cases.specs.declared.sheet.Sheet.{Sheet}
use Rattle.cases.specs.declared.case.Case.{Case}
use Rattle.cases.specs.declared.advice.Advice.{Advice}

abbrev pub plan_of : Option Sheet → Option Plan
plan_of None = None
plan_of (Some y) = Some (record { goal = y.goal; granted = granted_in (vec_items y.entries); rank = rank_in (vec_items y.entries); move = choice_in (vec_items y.entries) })

-- A case, whatever its system and its board are made of.
abbrev pub model : {S B : Type 0} {gS : system.Ghosts S} {gB : board.Ghosts B} → (B → Rows) → Case S B gS gB → Model
model shows x = record { goals = vec_items x.goals; settled = x.settled; plan = plan_of x.sheet; rows = shows x.board }

-- The system of a case, and how many of its plays are under way.
abbrev pub system_of : {S B : Type 0} {gS : system.Ghosts S} {gB : board.Ghosts B} → Case S B gS gB → S
system_of x = x.system

abbrev pub out_of : {S B : Type 0} {gS : system.Ghosts S} {gB : board.Ghosts B} → Case S B gS gB → ℕ
out_of x = x.out

abbrev pub world : Model → List Play → World
world m qs = record { model = m; plays = qs }

-- A call of a case, among any plays of which `out` are under way.
abbrev pub Calls : Meaning → ℕ → Model → Call → Answer → Model → Type 0
Calls M out m call r m' = (qs : List Play) → length qs ≡ out → Step M (world m qs) call r (world m' qs)

-- The answers as the calls give them.
abbrev pub numbered : Result ℕ Fault → Answer
numbered (Ok n) = Number n
numbered (Err e) = Refused e

abbrev pub answered : Result Bool Fault → Answer
answered (Ok x) = Told x
answered (Err e) = Refused e

abbrev pub finished : Result (Unit {0}) Fault → Answer
finished (Ok x) = Done
finished (Err e) = Refused e

abbrev pub advised : Result Advice Fault → Answer
advised (Ok x) = Entry x.rank x.choice
advised (Err e) = Refused e

-- A call that may want memory: without it nothing changes.
abbrev pub Tries : Meaning → ℕ → Model → Call → Result (Unit {0}) Stop → Model → Type 0
Tries M out m call (Ok x) m' = Calls M out m call Done m'
Tries M out m call (Err (refused e)) m' = Calls M out m call (Refused e) m'
Tries M out m call (Err Memory) m' = m' ≡ m

-- The first test of enter that holds, or the goal of the word and room for it.
abbrev pub Admits : Meaning → Model → Word → Result Goal Fault → Type 0
Admits M m x (Ok φ) = (φ ≡ goal_of x) × (length m.goals < 64) × ((qs : List Play) → first (refusals M (world m qs) (Enter x)) ≡ None)
Admits M m x (Err e) = (qs : List Play) → (first (refusals M (world m qs) (Enter x)) ≡ Some e.reason) × (e ≡ fault e.reason)

-- The first test of a call that holds, or none, among any plays of which `out` are under way.
abbrev pub Permits : Meaning → ℕ → Model → Call → Result (Unit {0}) Fault → Type 0
Permits M out m call (Ok x) = (qs : List Play) → length qs ≡ out → first (refusals M (world m qs) call) ≡ None
Permits M out m call (Err e) = (qs : List Play) → length qs ≡ out → (first (refusals M (world m qs) call) ≡ Some e.reason) × (e ≡ fault e.reason)

-- The first test of settle that holds, or the lowest unsettled goal.
abbrev pub Awaits : Meaning → ℕ → Model → Result Goal Fault → Type 0
Awaits M out m (Ok φ) = (φ ≡ goal_at m m.settled) × (m.settled < length m.goals) × Permits M out m Settle (Ok tt)
Awaits M out m (Err e) = Permits M out m Settle (Err e)

-- What an answer says, where any list of calls has led from an opened case to this one.
abbrev pub Truth : Meaning → ℕ → Model → Call → Answer → Type 0
Truth M out m call r =
    (b : Rows) → Sound b → (cs : List Call) (rs : List Answer) (qs : List Play) → Run M (opened b) cs rs (world m qs) → length qs ≡ out → Speaks M (world m qs) call r
