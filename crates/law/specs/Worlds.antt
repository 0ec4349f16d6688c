-- A case and its plays. Assumes nothing.
use Rattle.std.specs.Prelude.{◌≡◌, ℕ, ◌+◌, ◌<◌, Bool, false, List, [], ◌∷◌, Some, None, Option, nat_le}
use Rattle.game.specs.Meaning.{Meaning}
use Rattle.game.specs.Objectives.{Objective, States, IsSetOf}
use Rattle.game.specs.Sheets.{Sheet, IsSheet}
use Rattle.boards.specs.Meaning.{Rows}
use Rattle.game.specs.declared.goal.Goal.{Goal}
use Rattle.game.specs.declared.goal.Goal.TheVariants.{True as TRUE, Atom as ATOM, Not as NOT, Or as OR, And as AND, Each as EACH, Common as COMMON, Joint as JOINT, Next as NEXT, Always as ALWAYS, Until as UNTIL}
use Rattle.game.specs.Goals.{goal_in}
use Rattle.game.specs.Formulas.{Aims}

-- The plan sheet: its goal, and for each state whether it is granted, its rank and its move.
pub record Plan : Type 0 where
  pub goal : ℕ
  pub granted : States
  pub rank : ℕ → ℕ
  pub move : ℕ → ℕ

pub record Model : Type 0 where
  pub goals : List Goal
  pub settled : ℕ
  pub plan : Option Plan
  pub rows : Rows

-- A play awaits a move, or a reply to the announced move.
pub data Turn : Type 0 where
  to_move : Turn
  to_reply : (announced : ℕ) → Turn

pub record Play : Type 0 where
  pub start : ℕ
  -- move and reply, the newest first
  pub told : List (ℕ × ℕ)
  pub state : ℕ
  pub steps : ℕ
  pub turn : Turn

pub record World : Type 0 where
  pub model : Model
  pub plays : List Play

-- A case without goals, sheet or plays, whatever the rows hold.
abbrev pub opened : Rows → World
opened b = record { model = record { goals = []; settled = 0; plan = None; rows = b }; plays = [] }

abbrev pub goal_at : Model → ℕ → Goal
goal_at m f = goal_in m.goals f

-- The sheet's goal, TRUE without a sheet.
abbrev pub planned_goal : Model → Option Plan → Goal
planned_goal m None = TRUE
planned_goal m (Some p) = goal_at m p.goal

abbrev pub aim : Model → Goal
aim m = planned_goal m m.plan

-- X is met after step 1, U where d holds, G never.
abbrev pub met_by : Rows → Goal → ℕ → ℕ → Bool
met_by b TRUE state steps = false
met_by b (ATOM p) state steps = false
met_by b (NOT c) state steps = false
met_by b (OR c d) state steps = false
met_by b (AND c d) state steps = false
met_by b (EACH g c) state steps = false
met_by b (COMMON g c) state steps = false
met_by b (JOINT g c) state steps = false
met_by b (NEXT g c) state steps = nat_le 1 steps
met_by b (ALWAYS g c) state steps = false
met_by b (UNTIL g c d) state steps = b.marked d state

abbrev pub met : Model → Play → Bool
met m q = met_by m.rows (aim m) q.state q.steps

-- Where the pairs of move and reply lead from s.
abbrev pub led : Meaning → ℕ → List (ℕ × ℕ) → ℕ
led M s [] = s
led M s (x ∷ past) = M.next (led M s past) (x.0 + x.1)

-- The sheet p with the replies of f.
abbrev pub with_replies : Plan → (ℕ → ℕ → ℕ) → Sheet
with_replies p f = record { rank = p.rank; move = p.move; reply = f }

-- p is the table's sheet of its goal, over the rows of the operands.
pub record IsPlan (M : Meaning) (m : Model) (p : Plan) : Type 0 where
  pub settled : p.goal < m.settled
  pub group : ℕ
  pub objective : Objective
  pub aims : Aims m.rows.marked (goal_at m p.goal) group objective
  pub set : IsSetOf M group objective p.granted
  pub sheet : (f : ℕ → ℕ → ℕ) × IsSheet M group objective p.granted (with_replies p f)

-- b is the table's reply to the group's choice a at s, in the sheet p.
pub record IsReply (M : Meaning) (m : Model) (p : Plan) (s a b : ℕ) : Type 0 where
  pub group : ℕ
  pub objective : Objective
  pub aims : Aims m.rows.marked (goal_at m p.goal) group objective
  pub sheet : (f : ℕ → ℕ → ℕ) × IsSheet M group objective p.granted (with_replies p f) × (b ≡ f s a)
