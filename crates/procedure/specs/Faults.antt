-- What reading a list of words gives. Assumes nothing.
use Rattle.std.specs.Prelude.{◌≡◌, ℕ, ◌/◌, ◌%◌, Bool, true, false, not, ◌||◌, Some, None, List, [], ◌∷◌, ◌++◌, length, ◌==◌, ◌≢◌, nat_lt}
use Rattle.std.specs.Option.{option_map}
use Rattle.game.specs.declared.goal.Word.{Word}
use Rattle.game.specs.declared.fault.Fault.{Fault}
use Rattle.game.specs.declared.fault.Reason.{Reason}
use Rattle.game.specs.declared.fault.Reason.TheVariants as reason
use Rattle.procedure.specs.Words.{words}
use Rattle.procedure.specs.Texts.{Description, written}
use Rattle.procedure.specs.Parts.{Part, said, Shown, Aims, known, wrong}
use Rattle.procedure.specs.declared.stage.Stage.TheVariants as stage

abbrev pub fault_at : ℕ → Reason → Fault
fault_at place reason = record { reason = reason; place = place }

-- Each of the words may follow those before it.
pub data Flawless : List Word → Type 0 where
  none : Flawless []
  more : (p : Part) (x : Word) → Shown p.stage p → Flawless (said p) → wrong (known p) x ≡ None → Flawless (said p ++ (x ∷ []))

-- After what a part says, the next word is wrong, or missing.
abbrev pub Amiss : Part → List Word → Fault → Type 0
Amiss p [] f = (f ≡ fault_at (length (said p)) reason.Kind) × (p.stage ≢ stage.Done)
Amiss p (x ∷ rest) f = Some f ≡ option_map (fault_at (length (said p))) (wrong (known p) x)

-- The fault is of the first wrong word: the words before it are what a part says, each of them right.
pub record Faulty (ws : List Word) (f : Fault) : Type 0 where
  pub said_part : Part
  pub shown : Shown said_part.stage said_part
  pub flawless : Flawless (said said_part)
  pub rest : List Word
  pub is : ws ≡ said said_part ++ rest
  pub amiss : Amiss said_part rest f

-- The words are what a description with goal words of kind 8 says, each of them right.
pub record Sound (ws : List Word) (d : Description) : Type 0 where
  pub is : ws ≡ written d
  pub aims : Aims d.goals
  pub flawless : Flawless ws

-- Lengths in bytes that are refused before any word: none, not whole words, or above 4,096 words.
abbrev pub misfit : ℕ → Bool
misfit n = n == 0 || (not (n % 4 == 0) || nat_lt 16384 n)

-- The refusals of a file.
pub data Refusal (bytes : List ℕ) : Fault → Type 0 where
  misfits : misfit (length bytes) ≡ true → Refusal bytes (fault_at (length bytes / 4) reason.Length)
  faulty : (f : Fault) → misfit (length bytes) ≡ false → Faulty (words bytes) f → Refusal bytes f

-- A file that is accepted, and what it says.
pub record Accepted (bytes : List ℕ) (d : Description) : Type 0 where
  pub fits : misfit (length bytes) ≡ false
  pub sound : Sound (words bytes) d
