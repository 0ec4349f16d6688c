-- What stands after every list of calls. Assumes nothing.
use Rattle.std.specs.Prelude.{◌≡◌, ℕ, suc, ◌+◌, ◌<◌, ◌≤◌, Bool, true, false, ◌↔◌, List, [], ◌∷◌, map, length, Some}
use Rattle.std.specs.List.{slice_get, AllByRecursion}
use Rattle.game.specs.Meaning.{Meaning, Lawful, Part, GroupChoice, Reply}
use Rattle.game.specs.Objectives.{Objective, ◌∈◌}
use Rattle.game.specs.Plays.{Ensures, MetBy, FailedBy}
use Rattle.game.specs.Sheets.{Sheet, IsSheet}
use Rattle.game.specs.Theorems.{Right}
use Rattle.boards.specs.Meaning.{Rows, Sound}
use Rattle.game.specs.declared.goal.Goal.TheVariants.{Until as UNTIL}
use Rattle.game.specs.Goals.{group_of}
use Rattle.game.specs.Formulas.{Aims, over, formula, Sat}
use Rattle.law.specs.Worlds.{Plan, Model, to_reply, Play, World, opened, goal_at, aim, met_by, met, led, IsPlan}
use Rattle.law.specs.Refusals.{Call, query, move, reply, announce, end, refusals, first, fits_side}
use Rattle.game.specs.Faults.{layer_of}
use Rattle.game.specs.declared.fault.Fault.{Fault}
use Rattle.game.specs.declared.fault.Layer.TheVariants.{Case}
use Rattle.law.specs.Steps.{fault, Answer, told, entry, outcome, refused, Step, Run}
use Rattle.law.specs.Logs.{play_of, logged}

-- Each pair was told at a granted state where the goal was not yet met: the sheet's move there, a choice of the group, and a reply.
abbrev pub Followed : Meaning → ℕ → Plan → (ℕ → ℕ → Bool) → ℕ → List (ℕ × ℕ) → Type 0
Followed M g p over s [] = Unit {0}
Followed M g p over s (x ∷ past) =
    (led M s past ∈ p.granted) × (over (led M s past) (length past) ≡ false) × (x.0 ≡ p.move (led M s past)) ×
    GroupChoice M g (led M s past) x.0 × Reply M g (led M s past) x.1 × Followed M g p over s past

-- The play q by the sheet p of a goal of group g; over tells at which state and step the goal is met.
pub record Played (M : Meaning) (g : ℕ) (p : Plan) (over : ℕ → ℕ → Bool) (q : Play) : Type 0 where
  pub begins : (q.start < M.states) × (q.start ∈ p.granted)
  -- it stands where its pairs lead, and has taken as many steps
  pub stands : (q.state < M.states) × (q.state ≡ led M q.start q.told)
  pub counts : q.steps ≡ length q.told
  pub followed : Followed M g p over q.start q.told
  -- never at a denied state while it is not met
  pub granted : over q.state q.steps ≡ false → q.state ∈ p.granted
  -- the announced move is the sheet's, and a choice of the group; a play that is met awaits no reply
  pub announces : (a : ℕ) → q.turn ≡ to_reply a → (a ≡ p.move q.state) × GroupChoice M g q.state a × (over q.state q.steps ≡ false)

-- The play q goes by the sheet of the case.
abbrev pub InPlay : Meaning → Model → Play → Type 0
InPlay M m q = (p : Plan) × (m.plan ≡ Some p) × Played M (group_of (aim m)) p (met_by m.rows (aim m)) q

-- π passes the states of the pairs told from s.
abbrev pub Along : Meaning → (ℕ → ℕ) → ℕ → List (ℕ × ℕ) → Type 0
Along M π s [] = π 0 ≡ s
Along M π s (x ∷ past) = (π (suc (length past)) ≡ led M s (x ∷ past)) × Along M π s past

-- What end tells of q is true of every play that begins as q did, and none of them has failed. U has been met in time.
pub record Meeting (M : Meaning) (m : Model) (q : Play) : Type 0 where
  pub met_is : (g : ℕ) (φ : Objective) → Aims m.rows.marked (aim m) g φ → (π : ℕ → ℕ) → Along M π q.start q.told → met m q ≡ true ↔ MetBy φ π q.steps
  pub not_failed : (g : ℕ) (φ : Objective) → Aims m.rows.marked (aim m) g φ → (π : ℕ → ℕ) → Along M π q.start q.told → ¬ FailedBy φ π q.steps
  pub in_time : (p : Plan) → m.plan ≡ Some p → (g c d : ℕ) → aim m ≡ UNTIL g c d → q.steps + p.rank q.state ≤ p.rank q.start

pub record Promise (M : Meaning) (w : World) : Type 0 where
  -- a goal's formula is its operator over the formulas of its operands
  pub spelled : (f : ℕ) → f < length w.model.goals → formula w.model.goals f ≡ over (formula w.model.goals) (goal_at w.model f)
  -- each settled row decides its whole formula
  pub decides : (f : ℕ) → f < w.model.settled → (s : ℕ) → s < M.states → s ∈ w.model.rows.marked f ↔ Sat M (formula w.model.goals f) s
  -- a settled X, G or U is granted exactly where its group can ensure it, and each sheet of the table is right
  pub ensures : (f : ℕ) → f < w.model.settled → (g : ℕ) (φ : Objective) → Aims w.model.rows.marked (goal_at w.model f) g φ →
      (s : ℕ) → s < M.states → (s ∈ w.model.rows.marked f ↔ Ensures M g φ s) × ((S : Sheet) → IsSheet M g φ (w.model.rows.marked f) S → Right M g φ (w.model.rows.marked f) S s)
  -- the sheet is the table's, of a settled X, G or U
  pub sheet : (p : Plan) → w.model.plan ≡ Some p → IsPlan M w.model p
  pub plays : AllByRecursion (InPlay M w.model) w.plays
  pub meetings : AllByRecursion (Meeting M w.model) w.plays
  pub few : length w.plays ≤ 8
  pub counted : (w.model.settled ≤ length w.model.goals) × (length w.model.goals ≤ w.model.rows.rows)
  pub sound : Sound w.model.rows

-- What Q says is so of every sheet of the table for the goal of the case's sheet.
abbrev pub EverySheet : Meaning → Model → (Sheet → Type 0) → Type 0
EverySheet M m Q = (p : Plan) → m.plan ≡ Some p → (g : ℕ) (φ : Objective) → Aims m.rows.marked (goal_at m p.goal) g φ → (S : Sheet) → IsSheet M g φ (m.rows.marked p.goal) S → Q S

-- What the answer r to a call at w says.
pub record Speaks (M : Meaning) (w : World) (call : Call) (r : Answer) : Type 0 where
  -- query says yes exactly where the formula holds; and of X, G and U no exactly where no strategy ensures it
  pub of_query : (f s : ℕ) (x : Bool) → call ≡ query f s → r ≡ told x →
      (x ≡ true ↔ Sat M (formula w.model.goals f) s) × ((g : ℕ) (φ : Objective) → Aims w.model.rows.marked (goal_at w.model f) g φ → x ≡ false ↔ ¬ Ensures M g φ s)
  -- move, announce and reply give exactly the table's ranks, moves and replies
  pub of_move : (s k a : ℕ) → call ≡ move s → r ≡ entry k a → EverySheet M w.model (λ S. (k ≡ S.rank s) × (a ≡ S.move s))
  pub of_announce : (i k a : ℕ) → call ≡ announce i → r ≡ entry k a → (q : Play) × (slice_get w.plays i ≡ Some q) × EverySheet M w.model (λ S. (k ≡ S.rank q.state) × (a ≡ S.move q.state))
  pub of_reply : (s a k b : ℕ) → call ≡ reply s a → r ≡ entry k b → EverySheet M w.model (λ S. (k ≡ S.rank s) × (b ≡ S.reply s a))
  -- end gives the accepted tells, and whether the goal is met
  pub of_end : (i n : ℕ) (x : Bool) → call ≡ end i → r ≡ outcome n x → (q : Play) × (slice_get w.plays i ≡ Some q) × (n ≡ length q.told) × (x ≡ met w.model q)

-- After every list of calls the promise stands, each play is as the calls and answers tell it, and the answer to any further call says what it should.
pub record Stands (M : Meaning) (cs : List Call) (rs : List Answer) (w : World) : Type 0 where
  pub promise : Promise M w
  pub as_told : w.plays ≡ map (play_of M) (logged [] cs rs)
  pub speaks : (call : Call) (r : Answer) (w' : World) → Step M w call r w' → Speaks M w call r
  -- a call is refused by the first test of its list that holds, and then alters nothing
  pub refuses : (call : Call) (r : Answer) (w' : World) → Step M w call r w' → (e : Fault) → r ≡ refused e → (first (refusals M w call) ≡ Some e.reason) × (e ≡ fault e.reason) × (w' ≡ w)
  -- every refusal is of the case's own layer
  pub of_case : (call : Call) (r : Answer) (w' : World) → Step M w call r w' → (e : Fault) → r ≡ refused e → layer_of e.reason ≡ Case

abbrev pub Law : Type 0
Law =
    (M : Meaning) → Lawful M → (b : Rows) → Sound b → (cs : List Call) (rs : List Answer) (w : World) → Run M (opened b) cs rs w → Stands M cs rs w

-- Every list of calls has a run, so the law speaks of every list.
abbrev pub RunsExist : Type 0
RunsExist = (M : Meaning) → Lawful M → (b : Rows) → Sound b → (cs : List Call) → (rs : List Answer) × (w : World) × Run M (opened b) cs rs w

-- The answers are settled by the system, the size of the board and the calls, whatever the rows held.
abbrev pub SameAnswers : Type 0
SameAnswers =
    (M : Meaning) → Lawful M → (b b' : Rows) → Sound b → Sound b' → b.states ≡ b'.states → b.rows ≡ b'.rows →
    (cs : List Call) (rs rs' : List Answer) (w w' : World) → Run M (opened b) cs rs w → Run M (opened b') cs rs' w' → rs ≡ rs'

-- The test of a side's choice means what it should.
abbrev pub SidesAreParts : Type 0
SidesAreParts = (M : Meaning) (who : ℕ → Bool) (s a : ℕ) → fits_side M who s a ≡ true ↔ Part M who s a
