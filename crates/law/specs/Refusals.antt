-- The eleven calls, and why each is refused, in the order of the tests. Assumes nothing.
use Rattle.std.specs.Prelude.{ℕ, zero, suc, ◌^◌, Bool, true, false, cond, not, ◌&&◌, ◌||◌, List, [], ◌∷◌, length, Some, None, Option, ◌==◌, nat_le, nat_lt}
use Rattle.std.specs.List.{slice_get}
use Rattle.game.specs.Meaning.{Meaning, digit, member}
use Rattle.game.specs.declared.fault.Reason.{Reason}
use Rattle.game.specs.declared.fault.Reason.TheVariants.{NoBoard, NoRow, NotAGoal, NotEarlier, NotKnown, NoSuchGoal, NotSettled, AllSettled, NoSuchState, NotStrategic, NoSheet, Denied, Granted, NotAllowed, PlaysUnderWay, TooManyPlays, NoPlay, TooManySteps, AlreadyMet}
pub use Rattle.law.specs.declared.call.Call.{Call}
pub use Rattle.law.specs.declared.call.Call.TheVariants.{Enter as enter, Settle as settle, Query as query, Plan as plan, Move as move, Reply as reply, Begin as begin, Announce as announce, Tell as tell, End as end, Strike as strike}
use Rattle.game.specs.Goals.{word_of, goal_of, same_word, earlier, known, strategic, group_of}
use Rattle.law.specs.Worlds.{Plan, Model, Turn, to_move, to_reply, Play, World, goal_at, aim, met}

-- The play, if it awaits a move; the play and the announced move, if it awaits a reply.
abbrev pub by_turn : Play → Turn → Option Play
by_turn q to_move = Some q
by_turn q (to_reply a) = None

abbrev pub awaiting_move : Option Play → Option Play
awaiting_move None = None
awaiting_move (Some q) = by_turn q q.turn

abbrev pub by_reply : Play → Turn → Option (Play × ℕ)
by_reply q to_move = None
by_reply q (to_reply a) = Some (q, a)

abbrev pub awaiting_reply : Option Play → Option (Play × ℕ)
awaiting_reply None = None
awaiting_reply (Some q) = by_reply q q.turn

-- The board has no row, or another number of states than the system.
abbrev pub no_board : Meaning → Model → Bool
no_board M m = m.rows.rows == 0 || not (m.rows.states == M.states)

abbrev pub no_sheet : Option Plan → Bool
no_sheet None = true
no_sheet (Some p) = false

abbrev pub granted_on : Option Plan → ℕ → Bool
granted_on None s = false
granted_on (Some p) s = p.granted s

abbrev pub all_below : ℕ → (ℕ → Bool) → Bool
all_below zero test = true
all_below (suc n) test = all_below n test && test n

-- The choice a has an allowed action for each agent of `who` and 0 for each other.
abbrev pub fits_side : Meaning → (ℕ → Bool) → ℕ → ℕ → Bool
fits_side M who s a = nat_lt a (4 ^ M.agents) && all_below M.agents (λ i. cond (who i) (M.allowed i s (digit a i)) (digit a i == 0))

module _ (M : Meaning) (w : World) where
  abbrev pub announcing : Option Play → List (Reason × Bool)
  announcing None = []
  announcing (Some q) =
      (NoBoard, no_board M w.model) ∷ (NoSheet, no_sheet w.model.plan) ∷ (NoSuchState, nat_le M.states q.state) ∷
      (AlreadyMet, met w.model q) ∷ (Denied, not (granted_on w.model.plan q.state)) ∷ (TooManySteps, nat_le 65535 q.steps) ∷ []

  abbrev pub telling : Option (Play × ℕ) → ℕ → List (Reason × Bool)
  telling None b = []
  telling (Some x) b =
      (NoBoard, no_board M w.model) ∷ (NoSheet, no_sheet w.model.plan) ∷ (NoSuchState, nat_le M.states x.0.state) ∷
      (NotAllowed, not (fits_side M (λ i. not (member (group_of (aim w.model)) i)) x.0.state b)) ∷ []

  -- The reasons with their tests, in order. None for a play that is not there, or is of the other sort.
  abbrev pub refusals : Call → List (Reason × Bool)
  refusals (enter x) =
      (NoBoard, no_board M w.model) ∷ (NoRow, nat_le w.model.rows.rows (length w.model.goals)) ∷ (NotAGoal, not (same_word x (word_of (goal_of x)))) ∷
      (NotEarlier, not (earlier (length w.model.goals) (goal_of x))) ∷ (NotKnown, not (known M (goal_of x))) ∷ []
  refusals settle = (NoBoard, no_board M w.model) ∷ (AllSettled, nat_le (length w.model.goals) w.model.settled) ∷ []
  refusals (query f s) =
      (NoBoard, no_board M w.model) ∷ (NoSuchGoal, nat_le (length w.model.goals) f) ∷ (NotSettled, nat_le w.model.settled f) ∷ (NoSuchState, nat_le M.states s) ∷ []
  refusals (plan f) =
      (NoBoard, no_board M w.model) ∷ (NoSuchGoal, nat_le (length w.model.goals) f) ∷ (NotSettled, nat_le w.model.settled f) ∷
      (NotStrategic, not (strategic (goal_at w.model f))) ∷ (PlaysUnderWay, not (length w.plays == 0)) ∷ []
  refusals (strike k) = (NoBoard, no_board M w.model) ∷ (NoSuchGoal, nat_lt (length w.model.goals) k) ∷ (PlaysUnderWay, not (length w.plays == 0)) ∷ []
  refusals (move s) =
      (NoBoard, no_board M w.model) ∷ (NoSheet, no_sheet w.model.plan) ∷ (NoSuchState, nat_le M.states s) ∷ (Denied, not (granted_on w.model.plan s)) ∷ []
  refusals (reply s a) =
      (NoBoard, no_board M w.model) ∷ (NoSheet, no_sheet w.model.plan) ∷ (NoSuchState, nat_le M.states s) ∷ (Granted, granted_on w.model.plan s) ∷
      (NotAllowed, not (fits_side M (member (group_of (aim w.model))) s a)) ∷ []
  refusals (begin s) =
      (NoBoard, no_board M w.model) ∷ (NoSheet, no_sheet w.model.plan) ∷ (NoSuchState, nat_le M.states s) ∷ (Denied, not (granted_on w.model.plan s)) ∷
      (TooManyPlays, nat_le 8 (length w.plays)) ∷ []
  refusals (announce i) = announcing (awaiting_move (slice_get w.plays i))
  refusals (tell i b) = telling (awaiting_reply (slice_get w.plays i)) b
  refusals (end i) = (NoBoard, no_board M w.model) ∷ (NoPlay, (length w.plays == 0)) ∷ []

-- The reason of the first test that holds.
abbrev pub first : List (Reason × Bool) → Option Reason
first [] = None
first (x ∷ xs) = cond x.1 (Some x.0) (first xs)
