-- A plan drawn for a goal. Assumes nothing.
use Rattle.std.specs.Prelude.{◌≡◌, ℕ, ◌<◌, true, List, Ok, Err, Result}
use Rattle.game.specs.Meaning.{Meaning, GroupChoice}
use Rattle.game.specs.Objectives.{Objective, States, ◌∉◌}
use Rattle.game.specs.Sheets.{IsSheet}
use Rattle.game.specs.Goals.{strategic}
use Rattle.game.specs.Formulas.{Aims}
use Rattle.game.specs.declared.fault.Fault.{Fault}
use Rattle.game.specs.declared.goal.Goal.{Goal}
use Rattle.arenas.specs.declared.entry.Entry.{Entry}
use Rattle.plans.specs.Drawing.{granted_in, rank_in, choice_in}
use Rattle.law.specs.Worlds.{Model, goal_at}
use Rattle.law.specs.declared.call.Call.TheVariants.{Plan}
use Rattle.cases.specs.Shows.{Permits}

-- The first test of plan that holds, or the goal, which is X, G or U.
abbrev pub Plannable : Meaning → ℕ → Model → ℕ → Result Goal Fault → Type 0
Plannable M out m f (Ok φ) = (φ ≡ goal_at m f) × (f < m.settled) × (strategic φ ≡ true) × Permits M out m (Plan f) (Ok tt)
Plannable M out m f (Err e) = Permits M out m (Plan f) (Err e)

-- b is the reply to choice a at the denied state s of every sheet that has the ranks and moves of the entries.
abbrev pub RepliesAs : Meaning → (ℕ → States) → Goal → List Entry → ℕ → ℕ → ℕ → Type 0
RepliesAs M R φ es s a b =
    (g : ℕ) (ψ : Objective) → Aims R φ g ψ → (f : ℕ → ℕ → ℕ) → IsSheet M g ψ (granted_in es) (record { rank = rank_in es; move = choice_in es; reply = f }) →
    s < M.states → s ∉ granted_in es → GroupChoice M g s a → b ≡ f s a
