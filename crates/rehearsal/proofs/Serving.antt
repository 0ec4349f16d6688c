-- What begin and end of a case make of the tokens. Assumes nothing.
use Rattle.std.proofs.Common.{◌≡◌, ℕ, ◌+◌, ◌<◌, false, List, [], ◌∷◌, ◌++◌, length, get_or, Some, Ok, Err, Result, MatchResult, sym, refl, ap, ap₂, ◌∙◌, subst, arith}
use Rattle.std.specs.List.{insert, remove}
use Rattle.game.specs.Meaning.{Meaning}
use Rattle.game.specs.declared.fault.Fault.{Fault}
use Rattle.game.specs.declared.fault.Stop.{Stop}
use Rattle.game.specs.declared.fault.Stop.TheVariants as stop
use Rattle.law.specs.Worlds.{Model}
use Rattle.law.specs.Refusals.{no_board}
use Rattle.law.specs.Steps.{Step}
use Rattle.law.specs.declared.call.Call.{Call}
use Rattle.law.specs.declared.call.Call.TheVariants.{Begin, End}
use Rattle.law.specs.declared.call.Answer.{Answer}
use Rattle.law.specs.declared.call.Answer.TheVariants.{Done, Outcome, Refused}
use Rattle.cases.specs.declared.play.AwaitingMove.{AwaitingMove}
use Rattle.cases.specs.declared.outcome.Play.{Play as Token}
use Rattle.cases.specs.declared.outcome.Play.TheVariants.{Move}
use Rattle.cases.specs.declared.outcome.HandedBack.{HandedBack}
use Rattle.cases.specs.declared.outcome.Outcome.{Outcome as Ended}
use Rattle.cases.specs.Shows.{world, Calls, Tries}
use Rattle.cases.specs.Plays.{moving, Begins, Ends}
use Rattle.rehearsal.specs.Served.{Seated, Served, trial}
use Rattle.rehearsal.proofs.Seating.{seated_length, seated_nth, seated_removed, seated_push, seated_swap, some_plays, put_back, begun_few}
use Rattle.rehearsal.proofs.Fitting.{never_refused}
use Rattle.rehearsal.proofs.Running.{served_fit}

-- plays are under way only where the board fits, and so they still are
pub fit_after : {S : Type 0} (means : S → Meaning) (x y : S) (m m' : Model) (ts ts' : List Token) (c : Call) (r : Answer) → y ≡ x → Served (means x) m ts c r m' ts' →
    (0 < length ts → no_board (means x) m ≡ false) → 0 < length ts' → no_board (means y) m' ≡ false
fit_after means x y m m' ts ts' c r same served fit some = ap (λ z. no_board (means z) m') same ∙ served_fit (means x) m m' ts ts' c r served fit some

-- a call that names no play
pub plain_served : (M : Meaning) (out : ℕ) (m m' : Model) (ts : List Token) (c : Call) (r : Answer) → out ≡ length ts → Calls M out m c r m' → Served M m ts c r m' ts
plain_served M out m m' ts c r counted calls qs h = (qs, calls qs (seated_length ts qs h ∙ sym counted), h)

-- a call that may want memory
pub tried_served : (M : Meaning) (out : ℕ) (m m' : Model) (ts : List Token) (c : Call) (r : Result (Unit {0}) Stop) → out ≡ length ts → Tries M out m c r m' →
    MatchResult (trial r) (λ a. Served M m ts c a m' ts) (λ _. (m' ≡ m) × (ts ≡ ts))
tried_served M out m m' ts c (Ok x) counted t = plain_served M out m m' ts c Done counted t
tried_served M out m m' ts c (Err (stop.Refused e)) counted t = plain_served M out m m' ts c (Refused e) counted t
tried_served M out m m' ts c (Err stop.Memory) counted t = (t, refl)

pub tried_fit : {S : Type 0} (means : S → Meaning) (x y : S) (out : ℕ) (m m' : Model) (ts : List Token) (c : Call) (r : Result (Unit {0}) Stop) → y ≡ x → out ≡ length ts → Tries (means x) out m c r m' →
    (0 < length ts → no_board (means x) m ≡ false) → 0 < length ts → no_board (means y) m' ≡ false
tried_fit means x y out m m' ts c (Ok u) same counted t fit some = fit_after means x y m m' ts ts c Done same (plain_served (means x) out m m' ts c Done counted t) fit some
tried_fit means x y out m m' ts c (Err (stop.Refused e)) same counted t fit some = fit_after means x y m m' ts ts c (Refused e) same (plain_served (means x) out m m' ts c (Refused e) counted t) fit some
tried_fit means x y out m m' ts c (Err stop.Memory) same counted t fit some = ap₂ (λ z n. no_board (means z) n) same t ∙ fit some

module _ (M : Meaning) (out : ℕ) (m m' : Model) (ts : List Token) (counted : out ≡ length ts) (shows : m' ≡ m) where
  module _ (s : ℕ) (out' : ℕ) where
    pub begin_few : (t : AwaitingMove) → Begins M out m s (Ok t) out' → length ts < 8
    begin_few t b =
        let (qs, h) = some_plays ts in
        omega (arith, begun_few M m qs s _ (b.0 qs (seated_length ts qs h ∙ sym counted)), seated_length ts qs h)

    pub begin_served : (t : AwaitingMove) (ts' : List Token) → Begins M out m s (Ok t) out' → ts' ≡ ts ++ Move t ∷ [] → Served M m ts (Begin s) Done m' ts'
    begin_served t ts' b is qs h =
        let qs' = qs ++ moving s [] t ∷ [] in (
          qs',
          subst (λ x. Step M (world m qs) (Begin s) Done (world x qs')) (sym shows) (b.0 qs (seated_length ts qs h ∙ sym counted)),
          subst (λ l. Seated l qs') (sym is) (seated_push ts qs s [] (Move t) h),
        )

    pub begin_refused : (e : Fault) → Begins M out m s (Err e) out' → Served M m ts (Begin s) (Refused e) m' ts
    begin_refused e b qs h = (qs, subst (λ x. Step M (world m qs) (Begin s) (Refused e) (world x qs)) (sym shows) (b.0 qs (seated_length ts qs h ∙ sym counted)), h)

  module _ (i : ℕ) (t : Token) (less : i < length ts) (is : t ≡ get_or ts i t) (out' : ℕ) where
    pub end_fewer : (x : Ended) → Ends M out m t (Ok x) out' → out' + 1 ≡ out
    end_fewer x b =
        let (qs, h) = some_plays ts in
        let (q, at, own) = seated_nth ts qs i t h less is in
        (b qs i q.start q.told (seated_length ts qs h ∙ sym counted) (at ∙ ap (λ y. Some y) own)).1

    pub end_kept : (x : HandedBack Token) → Ends M out m t (Err x) out' → out' ≡ out
    end_kept x b =
        let (qs, h) = some_plays ts in
        let (q, at, own) = seated_nth ts qs i t h less is in
        (b qs i q.start q.told (seated_length ts qs h ∙ sym counted) (at ∙ ap (λ y. Some y) own)).2

    never : no_board M m ≡ false → (x : HandedBack Token) → Ends M out m t (Err x) out' → ⊥
    never good x b =
        let (qs, h) = some_plays ts in
        let (q, at, own) = seated_nth ts qs i t h less is in
        never_refused M m qs i q x.fault (world m qs) good (omega (arith, seated_length ts qs h)) at (b qs i q.start q.told (seated_length ts qs h ∙ sym counted) (at ∙ ap (λ y. Some y) own)).0

    -- where the board fits, the end of a play that is under way is never refused
    pub end_made : no_board M m ≡ false → (r : Result Ended (HandedBack Token)) → Ends M out m t r out' → out' + 1 ≡ out
    end_made good (Ok x) b = end_fewer x b
    end_made good (Err x) b = absurd (never good x b)

    pub end_never : no_board M m ≡ false → (r : Result Ended (HandedBack Token)) (x : HandedBack Token) → r ≡ Err x → Ends M out m t r out' → ⊥
    end_never good r x is b = never good x (subst (λ y. Ends M out m t y out') is b)

    pub end_served : (x : Ended) (ts' : List Token) → Ends M out m t (Ok x) out' → ts' ≡ remove ts i → Served M m ts (End i) (Outcome x.steps x.met) m' ts'
    end_served x ts' b gone qs h =
        let (q, at, own) = seated_nth ts qs i t h less is in
        let step = (b qs i q.start q.told (seated_length ts qs h ∙ sym counted) (at ∙ ap (λ y. Some y) own)).0 in (
          remove qs i,
          subst (λ y. Step M (world m qs) (End i) (Outcome x.steps x.met) (world y (remove qs i))) (sym shows) step,
          subst (λ l. Seated l (remove qs i)) (sym gone) (seated_removed ts qs i less h),
        )

    pub end_refused : (x : HandedBack Token) (ts' : List Token) → Ends M out m t (Err x) out' → ts' ≡ insert (remove ts i) i x.play → Served M m ts (End i) (Refused x.fault) m' ts'
    end_refused x ts' b back qs h =
        let (q, at, own) = seated_nth ts qs i t h less is in
        let (step, same, kept) = b qs i q.start q.told (seated_length ts qs h ∙ sym counted) (at ∙ ap (λ y. Some y) own) in (
          qs,
          subst (λ y. Step M (world m qs) (End i) (Refused x.fault) (world y qs)) (sym shows) step,
          subst (λ l. Seated l qs) (sym (back ∙ put_back ts i x.play less)) (seated_swap ts qs i x.play q h at (same ∙ sym own)),
        )
