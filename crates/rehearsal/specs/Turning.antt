-- The calls that turn a play. Assumes nothing.
use Rattle.std.specs.Prelude.{ℕ}
use Rattle.law.specs.declared.call.Call.{Call}
use Rattle.law.specs.declared.call.Call.TheVariants.{Announce, Tell}
use Rattle.rehearsal.specs.declared.turn.Turn.{Turn}
use Rattle.rehearsal.specs.declared.turn.Turn.TheVariants as turn

abbrev pub call_of : Turn → ℕ → Call
call_of turn.Announce i = Announce i
call_of (turn.Tell b) i = Tell i b
