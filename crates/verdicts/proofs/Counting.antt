-- Counting where a goal is granted, one query after another. Assumes nothing.
use Rattle.std.proofs.Common.{◌≡◌, ℕ, zero, suc, ◌+◌, ◌<◌, ◌≤◌, Bool, true, false, cond, not, ◌&&◌, ◌||◌, leb, ◌↔◌, [], ◌∷◌, length, replicate, Some, None, Ok, Option, sym, refl, ap, ◌∙◌, subst, add-one, arith, below_more}
use lib.ListN.{length-replicate}
use Rattle.std.proofs.lemmas.Bool.{lt-leb, and_parts, and_from, cond_both}
use Rattle.game.specs.Meaning.{Meaning}
use Rattle.game.specs.Objectives.{◌∈◌}
use Rattle.game.specs.declared.fault.Fault.{Fault}
use Rattle.game.specs.declared.fault.Reason.{Reason}
use Rattle.game.specs.declared.fault.Reason.TheVariants.{NoBoard, NoSuchGoal, NotSettled, NoSuchState}
use Rattle.game.proofs.Bounded.{clash}
use Rattle.law.specs.Worlds.{Model, World}
use Rattle.law.specs.Refusals.{refusals, first, no_board}
use Rattle.law.specs.Steps.{Ruled, Step, begun}
use Rattle.law.specs.Logs.{accepted}
use Rattle.law.specs.declared.call.Call.TheVariants.{Query as query}
use Rattle.law.specs.declared.call.Answer.TheVariants.{Told as told, Refused as refused}
use Rattle.law.proofs.Speaking.{refused_so}
use Rattle.cases.specs.Shows.{world, Calls}
use Rattle.cases.proofs.Stepping.{step_refused}
use Rattle.verdicts.specs.Reports.{count, Reports}

told_is : (M : Meaning) (w w' : World) (f s : ℕ) (x : Bool) → Step M w (query f s) (told x) w' → x ≡ w.model.rows.marked f s
told_is M w w' f s x step = go (first (refusals M w (query f s))) step.is
  where
    go : (o : Option Reason) → Ruled M w (query f s) o (told x) w' → x ≡ w.model.rows.marked f s
    go (Some n) h = let lost : true ≡ false = ap accepted h.0 in absurd (clash refl lost)
    go None h = let same = h.0 in cc

unless : (a x : Bool) → (not a || x) ≡ true → a ≡ true → x ≡ true
unless true x h e = h
unless false x h e = absurd (clash e refl)

lest : (a x : Bool) → (a ≡ true → x ≡ true) → (not a || x) ≡ true
lest true x h = h refl
lest false x h = refl

module _ (M : Meaning) (out : ℕ) (m : Model) (f : ℕ) where
  -- the answer to a query is the mark
  pub marked_so : (s : ℕ) (x : Bool) → Calls M out m (query f s) (told x) m → x ≡ m.rows.marked f s
  marked_so s x h = told_is M (world m (replicate out (begun 0))) _ f s x (h (replicate out (begun 0)) (length-replicate out (begun 0)))

  -- a refusal at one state is that of every state
  pub refused_all : (s : ℕ) (e : Fault) → s < M.states → Calls M out m (query f s) (refused e) m → (t : ℕ) → t < M.states → Calls M out m (query f t) (refused e) m
  refused_all s e hs h t ht qs eq =
      let x = refused_so M (world m qs) (query f s) _ _ (h qs eq) e refl in
      let known : leb M.states s ≡ leb M.states t = lt-leb _ _ hs ∙ sym (lt-leb _ _ ht) in
      let same : first (refusals M (world m qs) (query f s)) ≡ first (refusals M (world m qs) (query f t)) = ap (λ b. first ((NoBoard, no_board M m) ∷ (NoSuchGoal, leb (length m.goals) f) ∷ (NotSettled, leb m.settled f) ∷ (NoSuchState, b) ∷ [])) known in
      step_refused M (world m qs) (query f t) e (sym same ∙ x.0) x.1

  -- after the queries at the states below n
  pub record Asked (n granted : ℕ) (all : Bool) : Type 0 where
    pub counted : granted ≡ count (m.rows.marked f) n
    pub starts : all ≡ true ↔ ((s : ℕ) → s < n → M.start s ≡ true → s ∈ m.rows.marked f)
    pub answers : (s : ℕ) → s < n → Calls M out m (query f s) (told (m.rows.marked f s)) m

  pub asked_none : Asked 0 0 true
  asked_none = record { counted = refl; starts = (λ _ s lt. absurd (omega arith), λ _. refl); answers = λ s lt. absurd (omega arith) }

  pub count_le : (n : ℕ) → count (m.rows.marked f) n ≤ n
  count_le zero = omega arith
  count_le (suc n) = let h = count_le n in cond_both (m.rows.marked f n) 1 0 (λ k. count (m.rows.marked f) n + k ≤ suc n) (λ _. omega arith) (λ _. omega arith)

  pub asked_more : (n granted : ℕ) (all : Bool) → Asked n granted all → (x : Bool) → Calls M out m (query f n) (told x) m → (k : ℕ) → k ≡ cond x 1 0 → (still : Bool) → still ≡ all && (not (M.start n) || x) → Asked (n + 1) (granted + k) still
  asked_more n granted all h x a k ek still es = let is = marked_so n x a in record {
    counted = rw add-one ((λ i. h.counted i + ek i) ∙ ap (λ b. count (m.rows.marked f) n + cond b 1 0) is);
    starts = (
      λ y. let p = and_parts all (not (M.start n) || x) (sym es ∙ y) in
          below_more _ _ (h.starts.0 p.0) (λ start. sym is ∙ unless (M.start n) x p.1 start),
      λ y. es ∙ and_from all _ (h.starts.1 (λ s lt. y s (omega arith))) (lest (M.start n) x (λ start. is ∙ y n (omega arith) start)),
    );
    answers = below_more _ _ h.answers (subst (λ b. Calls M out m (query f n) (told b) m) is a);
  }

  -- after the queries at all states
  pub asked_all : (n granted : ℕ) (all : Bool) (states : ℕ) → n ≡ states → states ≡ M.states → Asked n granted all → Reports M out m f (Ok (record { goal = f; granted = granted; states = states; all = all }))
  asked_all n granted all states en es h =
      let is = en ∙ es in (
        λ s lt. h.answers s (omega (arith, is)),
        record {
          goal = refl;
          granted = h.counted ∙ ap (count (m.rows.marked f)) is;
          states = es;
          all = (λ y s lt. h.starts.0 y s (omega (arith, is)), λ y. h.starts.1 (λ s lt. y s (omega (arith, is))));
        },
      )
