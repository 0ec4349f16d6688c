-- A call served on a case, with the tokens of the plays under way. Assumes nothing.
use Rattle.std.specs.Prelude.{◌≡◌, ℕ, List, [], ◌∷◌, length, Some, None, Ok, Err, Result, slice_set}
use Rattle.std.specs.List.{slice_get}
use Rattle.game.specs.Meaning.{Meaning}
use Rattle.law.specs.Worlds.{Model, Play, World}
use Rattle.law.specs.Steps.{Step, Run}
use Rattle.law.specs.declared.call.Call.{Call}
use Rattle.law.specs.declared.call.Call.TheVariants.{End}
use Rattle.law.specs.declared.call.Answer.{Answer}
use Rattle.law.specs.declared.call.Answer.TheVariants.{Done, Refused}
use Rattle.std.specs.declared.alloc.AllocError.{AllocError}
use Rattle.game.specs.declared.fault.Stop.{Stop}
use Rattle.game.specs.declared.fault.Stop.TheVariants as stop
use Rattle.cases.specs.declared.outcome.Play.{Play as Token}
use Rattle.cases.specs.Shows.{world}
use Rattle.cases.specs.Plays.{playing}

-- The tokens are those of the plays, in their order.
abbrev pub Seated : List Token → List Play → Type 0
Seated [] [] = Unit {0}
Seated [] (q ∷ qs) = ⊥
Seated (t ∷ ts) [] = ⊥
Seated (t ∷ ts) (q ∷ qs) = (q ≡ playing q.start q.told t) × Seated ts qs

-- Whatever plays the tokens are of, the call is a step, and the tokens are then those of the plays after it.
abbrev pub Served : Meaning → Model → List Token → Call → Answer → Model → List Token → Type 0
Served M m ts call r m' ts' = (qs : List Play) → Seated ts qs → (qs' : List Play) × Step M (world m qs) call r (world m' qs') × Seated ts' qs'

-- A call on the play of a token, wherever it stands: a step, after which the play is that of the token t'.
abbrev pub Turns : Meaning → Model → Token → (ℕ → Call) → Answer → Token → Type 0
Turns M m t call r t' =
    (qs : List Play) (i start : ℕ) (told : List (ℕ × ℕ)) → slice_get qs i ≡ Some (playing start told t) →
    (told' : List (ℕ × ℕ)) × Step M (world m qs) (call i) r (world m (slice_set qs i (playing start told' t')))

-- The answer to the end of a play that is not there, where so many are under way.
abbrev pub EndsNothing : Meaning → Model → ℕ → Answer → Type 0
EndsNothing M m count r = (qs : List Play) (i : ℕ) → length qs ≡ count → slice_get qs i ≡ None → Step M (world m qs) (End i) r (world m qs)

-- A list of calls served: a run with these answers, whatever plays the tokens are of.
abbrev pub Ran : Meaning → Model → List Token → List Call → List Answer → Model → List Token → Type 0
Ran M m ts cs rs m' ts' = (qs : List Play) → Seated ts qs → (qs' : List Play) × Run M (world m qs) cs rs (world m' qs') × Seated ts' qs'

-- A list of calls from a case without plays: a run to some world.
abbrev pub Rehearsed : Meaning → Model → List Call → List Answer → Type 0
Rehearsed M m cs rs = (w : World) × Run M (world m []) cs rs w

-- The answer of a call that may want memory.
abbrev pub trial : Result (Unit {0}) Stop → Result Answer AllocError
trial (Ok x) = Ok Done
trial (Err (stop.Refused e)) = Ok (Refused e)
trial (Err stop.Memory) = Err (record {})
