-- The plays under way are as the calls and answers tell them. Assumes nothing.
use Rattle.std.proofs.Common.{◌≡◌, ℕ, zero, suc, false, List, [], ◌∷◌, ◌++◌, map, get_or, take, drop, set, Some, None, Option, sym, refl, ap, ◌∙◌, ap₂, arith}
use Rattle.std.specs.List.{slice_get, remove}
use Rattle.std.proofs.lemmas.List.{map_push, map-set, map-append, take-map, drop-map}
use Rattle.game.specs.Meaning.{Meaning}
use Rattle.law.specs.Worlds.{Play, World}
use Rattle.game.specs.declared.fault.Reason.{Reason}
use Rattle.law.specs.Refusals.{Call, enter, settle, query, plan, move, reply, begin, announce, tell, end, strike, awaiting_move, awaiting_reply, refusals, first}
use Rattle.law.specs.Steps.{Answer, begun, announced, answered, Announces, Tells, Ends, Does, Ruled, Step, Run, rest, goes}
use Rattle.law.specs.Logs.{Log, accepted, pending, fresh, said, replied, noted, logged, play_of}
use Rattle.law.proofs.Calls.{move_there, reply_there}

nth_log : (M : Meaning) (ls : List Log) (i : ℕ) (q : Play) → slice_get (map (play_of M) ls) i ≡ Some q → q ≡ play_of M (get_or ls i (fresh 0))
nth_log M [] i q e = let z : ◌≡◌ {A = ℕ} 0 1 = cc in absurd (omega arith)
nth_log M (l ∷ ls) zero q e = let same : play_of M l ≡ q = cc in sym same
nth_log M (l ∷ ls) (suc i) q e = nth_log M ls i q e

-- nothing is noted of a call that was refused
unnoted : (ls : List Log) (c : Call) (r : Answer) → accepted r ≡ false → noted ls c r ≡ ls
unnoted ls (enter x) r e = refl
unnoted ls settle r e = refl
unnoted ls (query f s) r e = refl
unnoted ls (plan f) r e = refl
unnoted ls (move s) r e = refl
unnoted ls (reply s a) r e = refl
unnoted ls (begin s) r e = rw e refl
unnoted ls (announce i) r e = rw e refl
unnoted ls (tell i b) r e = rw e refl
unnoted ls (end i) r e = rw e refl
unnoted ls (strike k) r e = refl

module _ (M : Meaning) (w : World) (ls : List Log) (h : w.plays ≡ map (play_of M) ls) (w' : World) where
  idly : (c : Call) (r : Answer) → accepted r ≡ false → w' ≡ w → w'.plays ≡ map (play_of M) (noted ls c r)
  idly c r e same = ap (λ (x : World). x.plays) same ∙ h ∙ ap (map (play_of M)) (sym (unnoted ls c r e))

  announce_told : (i : ℕ) (r : Answer) (o : Option Play) → awaiting_move (slice_get w.plays i) ≡ o → Announces w i o r w' → w'.plays ≡ map (play_of M) (noted ls (announce i) r)
  announce_told i r None e (er, ew) = idly (announce i) r (ap accepted er) ew
  announce_told i r (Some q) e (p, ep, er, ew) =
      let l = get_or ls i (fresh 0) in
      let a = p.move q.state in
      let is : q ≡ play_of M l = nth_log M ls i q (ap (λ qs. slice_get qs i) (sym h) ∙ move_there (slice_get w.plays i) q e) in
      ap (λ (x : World). x.plays) ew ∙ ap (λ qs. set qs i (announced q a)) h ∙ ap (λ x. set (map (play_of M) ls) i (announced x a)) is ∙
      sym (map-set (play_of M) ls i (said l a)) ∙ ap (λ z. map (play_of M) (noted ls (announce i) z)) (sym er)

  tell_told : (i b : ℕ) (r : Answer) (o : Option (Play × ℕ)) → awaiting_reply (slice_get w.plays i) ≡ o → Tells M w i b o r w' → w'.plays ≡ map (play_of M) (noted ls (tell i b) r)
  tell_told i b r None e (er, ew) = idly (tell i b) r (ap accepted er) ew
  tell_told i b r (Some x) e (er, ew) =
      let l = get_or ls i (fresh 0) in
      let there = reply_there (slice_get w.plays i) x.0 x.1 e in
      let is : x.0 ≡ play_of M l = nth_log M ls i x.0 (ap (λ qs. slice_get qs i) (sym h) ∙ there.0) in
      let am : x.1 ≡ pending l.turn = ap pending (sym there.1 ∙ ap (λ (y : Play). y.turn) is) in
      ap (λ (x : World). x.plays) ew ∙ ap (λ qs. set qs i (answered M x.0 x.1 b)) h ∙ ap₂ (λ y a. set (map (play_of M) ls) i (answered M y a b)) is am ∙
      sym (map-set (play_of M) ls i (replied l b)) ∙ ap (λ z. map (play_of M) (noted ls (tell i b) z)) (sym er)

  end_told : (i : ℕ) (r : Answer) (o : Option Play) → slice_get w.plays i ≡ o → Ends w i o r w' → w'.plays ≡ map (play_of M) (noted ls (end i) r)
  end_told i r None e (er, ew) = idly (end i) r (ap accepted er) ew
  end_told i r (Some q) e (er, ew) =
      ap (λ (x : World). x.plays) ew ∙ ap (λ qs. remove qs i) h ∙ ap₂ ◌++◌ (take-map (play_of M) i ls) (drop-map (play_of M) (suc i) ls) ∙
      sym (map-append (play_of M) (take i ls) (drop (suc i) ls)) ∙ ap (λ z. map (play_of M) (noted ls (end i) z)) (sym er)

  does_told : (c : Call) (r : Answer) → Does M w c r w' → w'.plays ≡ map (play_of M) (noted ls c r)
  does_told (enter x) r (er, ew) = ap (λ (x : World). x.plays) ew ∙ h
  does_told settle r (er, s, ew) = ew ∙ h
  does_told (query f s) r (er, ew) = ap (λ (x : World). x.plays) ew ∙ h
  does_told (plan f) r (p, ef, is, er, ew) = ap (λ (x : World). x.plays) ew ∙ h
  does_told (move s) r (p, ep, er, ew) = ap (λ (x : World). x.plays) ew ∙ h
  does_told (reply s a) r (p, ep, er, ew) = ap (λ (x : World). x.plays) ew ∙ h
  does_told (begin s) r (er, ew) =
      ap (λ (x : World). x.plays) ew ∙ ap (λ qs. qs ++ begun s ∷ []) h ∙ sym (map_push (play_of M) ls (fresh s)) ∙ ap (λ z. map (play_of M) (noted ls (begin s) z)) (sym er)
  does_told (announce i) r d = announce_told i r (awaiting_move (slice_get w.plays i)) refl d
  does_told (tell i b) r d = tell_told i b r (awaiting_reply (slice_get w.plays i)) refl d
  does_told (end i) r d = end_told i r (slice_get w.plays i) refl d
  does_told (strike k) r (er, ew) = ap (λ (x : World). x.plays) ew ∙ h

  step_told : (c : Call) (r : Answer) → Step M w c r w' → w'.plays ≡ map (play_of M) (noted ls c r)
  step_told c r step = go (first (refusals M w c)) step.is
    where
      go : (o : Option Reason) → Ruled M w c o r w' → w'.plays ≡ map (play_of M) (noted ls c r)
      go (Some n) (er, ew) = idly c r (ap accepted er) ew
      go None d = does_told c r d

pub run_told : (M : Meaning) (w : World) (cs : List Call) (rs : List Answer) (w' : World) → Run M w cs rs w' → (ls : List Log) → w.plays ≡ map (play_of M) ls → w'.plays ≡ map (play_of M) (logged ls cs rs)
run_told M w cs rs w' (rest x) ls h = h
run_told M w cs rs w' (goes x y z c r cs' rs' step run) ls h = run_told M y cs' rs' w' run (noted ls c r) (step_told M x ls h y c r step)
