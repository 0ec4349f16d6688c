-- The verdict on a procedure file. Assumes nothing.
use Rattle.std.specs.Prelude.{◌≡◌, ℕ, ◌+◌, ◌/◌, List, length, Ok, Err, vec_items, Result, Vec}
use Rattle.std.specs.declared.alloc.Global.{Global}
use Rattle.game.specs.declared.fault.Fault.{Fault}
use Rattle.game.specs.declared.fault.Stop.{Stop}
use Rattle.game.specs.declared.fault.Stop.TheVariants.{Refused, Memory}
use Rattle.game.specs.declared.goal.Word.{Word}
use Rattle.boards.specs.Meaning.{blank}
use Rattle.systems.specs.AgentsMeaning.{agents_meaning}
use Rattle.systems.specs.declared.agents.AgentsSystem.{AgentsSystem}
use Rattle.procedure.specs.Texts.{described}
use Rattle.procedure.specs.Faults.{Refusal as RefusedFile, Accepted}
use Rattle.verdicts.specs.declared.line.Line.{Line}
use Rattle.verdicts.specs.Judging.{RefusedWord, Judged}

-- The refusal of goal word i of a file whose goal words are ws: its place is that of the word, and the goal words stand right before the end word.
pub record RefusedGoal (bytes : List ℕ) (y : AgentsSystem) (ws : List Word) (e : Fault) : Type 0 where
  pub accepted : Accepted bytes (described y ws)
  pub goal : ℕ
  pub place : e.place + (length ws + 1) ≡ length bytes / 4 + goal
  pub refused : RefusedWord (agents_meaning y) (blank (agents_meaning y).states 64) ws (record { reason = e.reason; place = goal })

-- The lines of the goals of a file, over the system that it describes; or the refusal of the file, or of one of its goals.
pub data Verdict (bytes : List ℕ) : Result (Vec Line Global) Stop → Type 0 where
  judged : (y : AgentsSystem) (ws : List Word) → Accepted bytes (described y ws) → (v : Vec Line Global) → Judged (agents_meaning y) (blank (agents_meaning y).states 64) ws (vec_items v) → Verdict bytes (Ok v)
  refused_file : (e : Fault) → RefusedFile bytes e → Verdict bytes (Err (Refused e))
  refused_goal : (y : AgentsSystem) (ws : List Word) (e : Fault) → RefusedGoal bytes y ws e → Verdict bytes (Err (Refused e))
  no_memory : Verdict bytes (Err Memory)
