-- One description for one list of words. Assumes nothing.
use Rattle.std.specs.Prelude.{◌≡◌, ℕ, List}
use Rattle.game.specs.declared.fault.Fault.{Fault}
use Rattle.procedure.specs.Texts.{Description, written}
use Rattle.procedure.specs.Parts.{Aims}
use Rattle.procedure.specs.Faults.{Refusal, Accepted}

-- Two descriptions that say the same words are the same.
abbrev pub OneReading : Type 0
OneReading = (d d' : Description) → Aims d.goals → Aims d'.goals → written d ≡ written d' → d ≡ d'

-- A file has one verdict: at most one refusal, and none where it is accepted.
pub record OneVerdict (bytes : List ℕ) : Type 0 where
  pub refused : (f f' : Fault) → Refusal bytes f → Refusal bytes f' → f ≡ f'
  pub apart : (d : Description) (f : Fault) → Accepted bytes d → Refusal bytes f → ⊥

abbrev pub OneVerdictEach : Type 0
OneVerdictEach = (bytes : List ℕ) → OneVerdict bytes
