-- What calls and answers tell of the plays under way. Assumes nothing.
use Rattle.std.specs.Prelude.{ℕ, Bool, true, false, cond, List, [], ◌∷◌, ◌++◌, length, slice_index_or, slice_set}
use Rattle.std.specs.List.{remove}
use Rattle.game.specs.Meaning.{Meaning}
use Rattle.law.specs.Worlds.{Turn, to_move, to_reply, Play, led}
use Rattle.law.specs.Refusals.{Call, enter, settle, query, plan, move, reply, begin, announce, tell, end, strike}
use Rattle.law.specs.Steps.{Answer, number, done, told, entry, outcome, refused, idle}

-- A play as it was told: its start, the pairs of move and reply, the newest first, and a move that awaits its reply.
pub record Log : Type 0 where
  pub start : ℕ
  pub pairs : List (ℕ × ℕ)
  pub turn : Turn

abbrev pub accepted : Answer → Bool
accepted (number n) = true
accepted done = true
accepted (told x) = true
accepted (entry k a) = true
accepted (outcome n x) = true
accepted (refused e) = false
accepted idle = false

abbrev pub choice_in : Answer → ℕ
choice_in (number n) = 0
choice_in done = 0
choice_in (told x) = 0
choice_in (entry k a) = a
choice_in (outcome n x) = 0
choice_in (refused e) = 0
choice_in idle = 0

abbrev pub pending : Turn → ℕ
pending to_move = 0
pending (to_reply a) = a

abbrev pub fresh : ℕ → Log
fresh s = record { start = s; pairs = []; turn = to_move }

abbrev pub said : Log → ℕ → Log
said l a = record { start = l.start; pairs = l.pairs; turn = to_reply a }

abbrev pub replied : Log → ℕ → Log
replied l b = record { start = l.start; pairs = (pending l.turn, b) ∷ l.pairs; turn = to_move }

abbrev pub noted : List Log → Call → Answer → List Log
noted ls (enter x) r = ls
noted ls settle r = ls
noted ls (query f s) r = ls
noted ls (plan f) r = ls
noted ls (move s) r = ls
noted ls (reply s a) r = ls
noted ls (begin s) r = cond (accepted r) (ls ++ fresh s ∷ []) ls
noted ls (announce i) r = cond (accepted r) (slice_set ls i (said (slice_index_or ls i (fresh 0)) (choice_in r))) ls
noted ls (tell i b) r = cond (accepted r) (slice_set ls i (replied (slice_index_or ls i (fresh 0)) b)) ls
noted ls (end i) r = cond (accepted r) (remove ls i) ls
noted ls (strike k) r = ls

-- After the calls and their answers.
abbrev pub logged : List Log → List Call → List Answer → List Log
logged ls [] rs = ls
logged ls (c ∷ cs) [] = ls
logged ls (c ∷ cs) (r ∷ rs) = logged (noted ls c r) cs rs

-- The play of a log stands where the pairs lead, after as many steps.
abbrev pub play_of : Meaning → Log → Play
play_of M l = record { start = l.start; told = l.pairs; state = led M l.start l.pairs; steps = length l.pairs; turn = l.turn }
