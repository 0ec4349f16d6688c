-- Tokens and the plays that they are of. Assumes nothing.
use Rattle.std.proofs.Common.{◌≡◌, ℕ, zero, suc, ◌<◌, ◌≤◌, List, [], ◌∷◌, ◌++◌, length, get_or, set, Some, None, Option, sym, refl, ap, ◌∙◌, subst, arith}
use Rattle.std.specs.List.{slice_get, insert, remove}
use Rattle.std.proofs.lemmas.Bool.{leb-false}
use Rattle.game.specs.Meaning.{Meaning}
use Rattle.game.specs.declared.fault.Reason.{Reason}
use Rattle.law.specs.Worlds.{Model, Play, World}
use Rattle.law.specs.Refusals.{refusals, first}
use Rattle.law.specs.Steps.{Ruled, Step}
use Rattle.law.specs.declared.call.Call.{Call}
use Rattle.law.specs.declared.call.Call.TheVariants.{Begin}
use Rattle.law.specs.declared.call.Answer.{Answer}
use Rattle.law.specs.declared.call.Answer.TheVariants.{Done}
use Rattle.law.proofs.Calls.{passes}
use Rattle.cases.specs.declared.outcome.Play.{Play as Token}
use Rattle.cases.specs.declared.outcome.Play.TheVariants.{Move, Reply}
use Rattle.cases.specs.Shows.{world}
use Rattle.cases.specs.Plays.{playing}
use Rattle.rehearsal.specs.Served.{Seated, Served, Turns}
use Rattle.rehearsal.proofs.Turning.{set_nth}

pub seated_length : (ts : List Token) (qs : List Play) → Seated ts qs → length qs ≡ length ts
seated_length [] [] h = refl
seated_length [] (q ∷ qs) h = absurd h
seated_length (t ∷ ts) [] h = absurd h
seated_length (t ∷ ts) (q ∷ qs) h = ap suc (seated_length ts qs h.1)

-- the play of a token stands at the token's place
pub seated_nth : (ts : List Token) (qs : List Play) (i : ℕ) (t : Token) → Seated ts qs → i < length ts → t ≡ get_or ts i t → (q : Play) × (slice_get qs i ≡ Some q) × (q ≡ playing q.start q.told t)
seated_nth [] qs i t h less is = absurd (omega arith)
seated_nth (x ∷ ts) [] i t h less is = absurd h
seated_nth (x ∷ ts) (q ∷ qs) zero t h less is = (q, refl, subst (λ y. q ≡ playing q.start q.told y) (sym is) h.0)
seated_nth (x ∷ ts) (q ∷ qs) (suc i) t h less is = seated_nth ts qs i t h.1 (omega arith) is

pub seated_past : (ts : List Token) (qs : List Play) (i : ℕ) → Seated ts qs → length ts ≤ i → slice_get qs i ≡ None
seated_past [] [] i h more = refl
seated_past [] (q ∷ qs) i h more = absurd h
seated_past (t ∷ ts) [] i h more = absurd h
seated_past (t ∷ ts) (q ∷ qs) zero h more = absurd (omega arith)
seated_past (t ∷ ts) (q ∷ qs) (suc i) h more = seated_past ts qs i h.1 (omega arith)

own : (start : ℕ) (told : List (ℕ × ℕ)) (t : Token) → playing start told t ≡ playing (playing start told t).start (playing start told t).told t
own start told (Move t) = refl
own start told (Reply t) = refl

pub seated_set : (ts : List Token) (qs : List Play) (i start : ℕ) (told : List (ℕ × ℕ)) (t : Token) → Seated ts qs → Seated (set ts i t) (set qs i (playing start told t))
seated_set [] [] i start told t h = tt
seated_set [] (q ∷ qs) i start told t h = absurd h
seated_set (x ∷ ts) [] i start told t h = absurd h
seated_set (x ∷ ts) (q ∷ qs) zero start told t h = (own start told t, h.1)
seated_set (x ∷ ts) (q ∷ qs) (suc i) start told t h = (h.0, seated_set ts qs i start told t h.1)

pub seated_push : (ts : List Token) (qs : List Play) (start : ℕ) (told : List (ℕ × ℕ)) (t : Token) → Seated ts qs → Seated (ts ++ t ∷ []) (qs ++ playing start told t ∷ [])
seated_push [] [] start told t h = (own start told t, tt)
seated_push [] (q ∷ qs) start told t h = absurd h
seated_push (x ∷ ts) [] start told t h = absurd h
seated_push (x ∷ ts) (q ∷ qs) start told t h = (h.0, seated_push ts qs start told t h.1)

pub seated_removed : (ts : List Token) (qs : List Play) (i : ℕ) → i < length ts → Seated ts qs → Seated (remove ts i) (remove qs i)
seated_removed [] qs i less h = absurd (omega arith)
seated_removed (x ∷ ts) [] i less h = absurd h
seated_removed (x ∷ ts) (q ∷ qs) zero less h = h.1
seated_removed (x ∷ ts) (q ∷ qs) (suc i) less h = (h.0, seated_removed ts qs i (omega arith) h.1)

pub put_back : {X : Type 0} (xs : List X) (i : ℕ) (y : X) → i < length xs → insert (remove xs i) i y ≡ set xs i y
put_back [] i y lt = absurd (omega arith)
put_back (x ∷ xs) zero y lt = refl
put_back (x ∷ xs) (suc i) y lt = ap (λ l. x ∷ l) (put_back xs i y (omega arith))

-- some plays of a list of tokens
pub some_plays : (ts : List Token) → (qs : List Play) × Seated ts qs
some_plays [] = ([], tt)
some_plays (t ∷ ts) = let (qs, h) = some_plays ts in (playing 0 [] t ∷ qs, (own 0 [] t, h))

-- a call on one token, put back at its place
pub turn_served : (M : Meaning) (m : Model) (ts ts' : List Token) (i : ℕ) (t t' : Token) (call : ℕ → Call) (r : Answer) → i < length ts → t ≡ get_or ts i t → Turns M m t call r t' →
    ts' ≡ insert (remove ts i) i t' → Served M m ts (call i) r m ts'
turn_served M m ts ts' i t t' call r less is turns e qs h =
    let (q, at, own-play) = seated_nth ts qs i t h less is in
    let (told', step) = turns qs i q.start q.told (at ∙ ap (λ x. Some x) own-play) in
    (set qs i (playing q.start told' t'), step, subst (λ l. Seated l (set qs i (playing q.start told' t'))) (sym (e ∙ put_back ts i t' less)) (seated_set ts qs i q.start told' t' h))

-- a play is begun only where fewer than eight are under way
pub begun_few : (M : Meaning) (m : Model) (qs : List Play) (s : ℕ) (w : World) → Step M (world m qs) (Begin s) Done w → length qs < 8
begun_few M m qs s w step = go (first (refusals M (world m qs) (Begin s))) refl step.is
  where
    go : (o : Option Reason) → first (refusals M (world m qs) (Begin s)) ≡ o → Ruled M (world m qs) (Begin s) o Done w → length qs < 8
    go (Some n) e (r, same) = let z : ◌≡◌ {A = ℕ} 0 1 = cc in absurd (omega arith)
    go None e h = leb-false _ _ (passes (refusals M (world m qs) (Begin s)) e).1.1.1.1.0

-- another token of the same play
pub seated_swap : (ts : List Token) (qs : List Play) (i : ℕ) (t : Token) (q : Play) → Seated ts qs → slice_get qs i ≡ Some q → playing q.start q.told t ≡ q → Seated (set ts i t) qs
seated_swap ts qs i t q h at same =
    subst (Seated (set ts i t)) (ap (set qs i) same ∙ set_nth qs i q at) (seated_set ts qs i q.start q.told t h)
