-- What the line of a goal says. Assumes nothing.
use Rattle.std.specs.Prelude.{◌≡◌, ℕ, zero, suc, ◌+◌, ◌<◌, true, cond, ◌↔◌, Ok, Err, Result}
use Rattle.game.specs.Meaning.{Meaning}
use Rattle.game.specs.Objectives.{States, ◌∈◌}
use Rattle.game.specs.declared.fault.Fault.{Fault}
use Rattle.law.specs.Worlds.{Model}
use Rattle.law.specs.declared.call.Call.TheVariants.{Query}
use Rattle.law.specs.declared.call.Answer.TheVariants.{Told, Refused}
use Rattle.cases.specs.Shows.{Calls}
use Rattle.verdicts.specs.declared.line.Line.{Line}

-- How many states below n are in the set.
abbrev pub count : States → ℕ → ℕ
count P zero = 0
count P (suc n) = count P n + cond (P n) 1 0

-- Every start is in the set.
abbrev pub AllStarts : Meaning → States → Type 0
AllStarts M P = (s : ℕ) → s < M.states → M.start s ≡ true → s ∈ P

-- The line of goal f, which is granted on P.
pub record IsLine (M : Meaning) (f : ℕ) (P : States) (x : Line) : Type 0 where
  pub goal : x.goal ≡ f
  pub granted : x.granted ≡ count P M.states
  pub states : x.states ≡ M.states
  pub all : x.all ≡ true ↔ AllStarts M P

-- The line of a goal of which every query is answered, over its row; or the refusal that every query of it gets.
abbrev pub Reports : Meaning → ℕ → Model → ℕ → Result Line Fault → Type 0
Reports M out m f (Ok x) = ((s : ℕ) → s < M.states → Calls M out m (Query f s) (Told (m.rows.marked f s)) m) × IsLine M f (m.rows.marked f) x
Reports M out m f (Err e) = (s : ℕ) → s < M.states → Calls M out m (Query f s) (Refused e) m
