-- The verdict on all goals of a list of words. Assumes nothing.
use Rattle.std.specs.Prelude.{◌≡◌, ℕ, ◌<◌, false, ◌↔◌, List, [], map, length, take, Some, None, Ok, Err, vec_items, Result, Vec, slice_index_or}
use Rattle.std.specs.declared.alloc.Global.{Global}
use Rattle.game.specs.Meaning.{Meaning}
use Rattle.game.specs.Objectives.{States, ◌∈◌}
use Rattle.game.specs.Goals.{goal_of, word}
use Rattle.game.specs.Formulas.{Formula, Sat, formula}
use Rattle.game.specs.Faults.{layer_of}
use Rattle.game.specs.declared.fault.Fault.{Fault}
use Rattle.game.specs.declared.fault.Stop.{Stop}
use Rattle.game.specs.declared.fault.Stop.TheVariants.{Refused, Memory}
use Rattle.game.specs.declared.fault.Layer.TheVariants.{Case}
use Rattle.game.specs.declared.goal.Word.{Word}
use Rattle.boards.specs.Meaning.{Rows}
use Rattle.law.specs.Worlds.{Model}
use Rattle.law.specs.Refusals.{refusals, first}
use Rattle.law.specs.Steps.{Run}
use Rattle.law.specs.declared.call.Call.{Call}
use Rattle.law.specs.declared.call.Call.TheVariants.{Enter}
use Rattle.law.specs.declared.call.Answer.{Answer}
use Rattle.cases.specs.Shows.{world}
use Rattle.verdicts.specs.declared.line.Line.{Line}
use Rattle.verdicts.specs.Reports.{IsLine}

abbrev pub word_at : List Word → ℕ → Word
word_at ws i = slice_index_or ws i (word 0 0 0 0)

abbrev pub line_at : List Line → ℕ → Line
line_at xs f = slice_index_or xs f (record { goal = 0; granted = 0; states = 0; all = false })

-- The case on the board b in which the goals of the words are entered, and none is settled.
abbrev pub holding : Rows → List Word → Model
holding b ws = record { goals = map goal_of ws; settled = 0; plan = None; rows = b }

-- The first n words can be entered, each after those before it.
abbrev pub Entered : Meaning → Rows → List Word → ℕ → Type 0
Entered M b ws n = (i : ℕ) → i < n → first (refusals M (world (holding b (take i ws)) []) (Enter (word_at ws i))) ≡ None

-- The refusal of the first word that cannot be entered; its place is that of the word.
pub record RefusedWord (M : Meaning) (b : Rows) (ws : List Word) (e : Fault) : Type 0 where
  pub within : e.place < length ws
  pub before : Entered M b ws e.place
  pub reason : first (refusals M (world (holding b (take e.place ws)) []) (Enter (word_at ws e.place))) ≡ Some e.reason
  pub layer : layer_of e.reason ≡ Case

-- P has the states where the formula holds.
abbrev pub SetOf : Meaning → Formula → States → Type 0
SetOf M φ P = (s : ℕ) → s < M.states → s ∈ P ↔ Sat M φ s

-- A line for each word, over the states where the formula of its goal holds.
pub record Judged (M : Meaning) (b : Rows) (ws : List Word) (xs : List Line) : Type 0 where
  pub entered : Entered M b ws (length ws)
  pub long : length xs ≡ length ws
  pub lines : (f : ℕ) → f < length ws → (P : States) × SetOf M (formula (map goal_of ws) f) P × IsLine M f P (line_at xs f)

-- From one case calls lead to another, on a board of the same size.
pub record Leads (M : Meaning) (m m' : Model) : Type 0 where
  pub calls : List Call
  pub answers : List Answer
  pub run : Run M (world m []) calls answers (world m' [])
  pub rows : m'.rows.rows ≡ m.rows.rows
  pub states : m'.rows.states ≡ m.rows.states
  pub goals : m'.goals ≡ m.goals

-- The lines of all goals, or the refusal of the first word that cannot be entered. Nothing is said where memory is wanting.
abbrev pub Judges : Meaning → Rows → List Word → Result (Vec Line Global) Stop → Type 0
Judges M b ws (Ok v) = Judged M b ws (vec_items v)
Judges M b ws (Err (Refused e)) = RefusedWord M b ws e
Judges M b ws (Err Memory) = Unit {0}
