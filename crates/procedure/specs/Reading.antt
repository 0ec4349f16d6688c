-- What reading gives. Assumes nothing.
use Rattle.std.specs.Prelude.{◌≡◌, ℕ, List, [], Ok, Err, vec_items, Result}
use Rattle.std.specs.Borrow.{Bor}
use Rattle.game.specs.declared.goal.Word.{Word}
use Rattle.systems.specs.declared.agents.AgentsSystem.{AgentsSystem}
use Rattle.procedure.specs.Words.{words}
use Rattle.procedure.specs.Texts.{described}
use Rattle.procedure.specs.Parts.{whole}
use Rattle.procedure.specs.Faults.{Faulty, Sound, Refusal, Accepted}
use Rattle.procedure.specs.Reader.{part, Ready}
use Rattle.procedure.specs.declared.reader.Reader.{Reader}
use Rattle.procedure.specs.declared.procedure.Procedure.{Procedure}
use Rattle.procedure.specs.declared.stage.Stage.TheVariants as stage
use Rattle.game.specs.declared.fault.Stop.{Stop}
use Rattle.game.specs.declared.fault.Stop.TheVariants.{Refused, Memory}

-- Of words: all of them are said by what the reader holds, or one is the first wrong one.
abbrev pub ReadWords : List Word → Result Reader Stop → Type 0
ReadWords ws (Ok r) = Sound ws (whole (part r)) × Ready stage.Done r
ReadWords ws (Err (Refused f)) = Faulty ws f
ReadWords ws (Err Memory) = Unit {0}

-- Of a file.
abbrev pub Reads : List ℕ → Result Procedure Stop → Type 0
Reads bytes (Ok p) = Accepted bytes (described p.system (vec_items p.goals))
Reads bytes (Err (Refused f)) = Refusal bytes f
Reads bytes (Err Memory) = Unit {0}

-- Of a file and the place of the system: a system put there, and the part of the file that holds the goal words; or the place as it was.
abbrev pub Puts : List ℕ → AgentsSystem → AgentsSystem → Result (Bor (List ℕ)) Stop → Type 0
Puts bytes y y' (Ok goals) = Accepted bytes (described y' (words goals.now))
Puts bytes y y' (Err (Refused f)) = Refusal bytes f × (described y' [] ≡ described y [])
Puts bytes y y' (Err Memory) = described y' [] ≡ described y []
