-- The calls of plays as steps of the law. Assumes nothing.
use Rattle.std.specs.Prelude.{◌≡◌, ℕ, ◌+◌, List, [], ◌∷◌, ◌++◌, length, Some, Ok, Err, Result, slice_set}
use Rattle.std.specs.List.{slice_get, remove}
use Rattle.game.specs.Meaning.{Meaning}
use Rattle.game.specs.declared.fault.Fault.{Fault}
use Rattle.law.specs.Worlds.{Model, Play, to_move, to_reply, met}
use Rattle.law.specs.Steps.{Step}
use Rattle.law.specs.declared.call.Call.TheVariants.{Begin, Announce, Tell, End}
use Rattle.law.specs.declared.call.Answer.TheVariants.{Done, Entry, Outcome as Outcome', Refused}
use Rattle.cases.specs.Shows.{world, Calls}
use Rattle.cases.specs.declared.play.AwaitingMove.{AwaitingMove}
use Rattle.cases.specs.declared.play.AwaitingReply.{AwaitingReply}
use Rattle.cases.specs.declared.outcome.Play.{Play as Token}
use Rattle.cases.specs.declared.outcome.Play.TheVariants.{Move, Reply}
use Rattle.cases.specs.declared.outcome.Announced.{Announced}
use Rattle.cases.specs.declared.outcome.HandedBack.{HandedBack}
use Rattle.cases.specs.declared.outcome.Outcome.{Outcome}

-- The play of a token, with its start and the pairs told.
abbrev pub moving : ℕ → List (ℕ × ℕ) → AwaitingMove → Play
moving start told t = record { start = start; told = told; state = t.state; steps = t.steps; turn = to_move }

abbrev pub replying : ℕ → List (ℕ × ℕ) → AwaitingReply → Play
replying start told t = record { start = start; told = told; state = t.state; steps = t.steps; turn = to_reply t.choice }

abbrev pub playing : ℕ → List (ℕ × ℕ) → Token → Play
playing start told (Move t) = moving start told t
playing start told (Reply t) = replying start told t

-- Begin puts a play after those under way.
abbrev pub Begins : Meaning → ℕ → Model → ℕ → Result AwaitingMove Fault → ℕ → Type 0
Begins M out m s (Ok t) out' = ((qs : List Play) → length qs ≡ out → Step M (world m qs) (Begin s) Done (world m (qs ++ moving s [] t ∷ []))) × (out' ≡ out + 1)
Begins M out m s (Err e) out' = Calls M out m (Begin s) (Refused e) m × (out' ≡ out)

-- Announce and tell, wherever the play stands among those under way.
abbrev pub AnnouncedAt : Meaning → Model → List Play → ℕ → ℕ → List (ℕ × ℕ) → AwaitingMove → Result Announced (HandedBack AwaitingMove) → Type 0
AnnouncedAt M m qs i start told t (Ok x) = Step M (world m qs) (Announce i) (Entry x.rank x.choice) (world m (slice_set qs i (replying start told x.play)))
AnnouncedAt M m qs i start told t (Err x) = Step M (world m qs) (Announce i) (Refused x.fault) (world m qs) × (x.play ≡ t)

abbrev pub Announces : Meaning → Model → AwaitingMove → Result Announced (HandedBack AwaitingMove) → Type 0
Announces M m t r = (qs : List Play) (i start : ℕ) (told : List (ℕ × ℕ)) → slice_get qs i ≡ Some (moving start told t) → AnnouncedAt M m qs i start told t r

abbrev pub ToldAt : Meaning → Model → List Play → ℕ → ℕ → List (ℕ × ℕ) → AwaitingReply → ℕ → Result AwaitingMove (HandedBack AwaitingReply) → Type 0
ToldAt M m qs i start told t b (Ok x) = Step M (world m qs) (Tell i b) Done (world m (slice_set qs i (moving start ((t.choice, b) ∷ told) x)))
ToldAt M m qs i start told t b (Err x) = Step M (world m qs) (Tell i b) (Refused x.fault) (world m qs) × (x.play.state ≡ t.state) × (x.play.steps ≡ t.steps) × (x.play.choice ≡ t.choice)

abbrev pub Tells : Meaning → Model → AwaitingReply → ℕ → Result AwaitingMove (HandedBack AwaitingReply) → Type 0
Tells M m t b r = (qs : List Play) (i start : ℕ) (told : List (ℕ × ℕ)) → slice_get qs i ≡ Some (replying start told t) → ToldAt M m qs i start told t b r

-- The steps of a play, and whether it is met.
abbrev pub Reached : Model → Token → Outcome → Type 0
Reached m t x = (start : ℕ) (told : List (ℕ × ℕ)) → (x.steps ≡ (playing start told t).steps) × (x.met ≡ met m (playing start told t))

-- End takes the play out of those under way.
abbrev pub EndedAt : Meaning → Model → List Play → ℕ → ℕ → List (ℕ × ℕ) → Token → ℕ → Result Outcome (HandedBack Token) → ℕ → Type 0
EndedAt M m qs i start told t out (Ok x) out' = Step M (world m qs) (End i) (Outcome' x.steps x.met) (world m (remove qs i)) × (out' + 1 ≡ out)
EndedAt M m qs i start told t out (Err x) out' = Step M (world m qs) (End i) (Refused x.fault) (world m qs) × (playing start told x.play ≡ playing start told t) × (out' ≡ out)

abbrev pub Ends : Meaning → ℕ → Model → Token → Result Outcome (HandedBack Token) → ℕ → Type 0
Ends M out m t r out' = (qs : List Play) (i start : ℕ) (told : List (ℕ × ℕ)) → length qs ≡ out → slice_get qs i ≡ Some (playing start told t) → EndedAt M m qs i start told t out r out'
