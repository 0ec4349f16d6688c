-- The lines of goals, one after another. Assumes nothing.
use Rattle.std.proofs.Common.{◌≡◌, ℕ, ◌+◌, ◌<◌, false, cond, leb, List, [], ◌∷◌, ◌++◌, length, replicate, Some, None, Err, sym, refl, ap, ◌∙◌, subst, arith, below_more}
use native.Mathlib.Nat.{sub_self}
use lib.ListN.{length-replicate}
use Rattle.std.proofs.lemmas.Bool.{lt-leb}
use Rattle.std.proofs.lemmas.List.{get_or_append_left, get_or-append_right, length_push}
use Rattle.game.specs.Meaning.{Meaning, Lawful}
use Rattle.game.specs.Objectives.{States}
use Rattle.game.specs.declared.fault.Fault.{Fault}
use Rattle.game.specs.declared.fault.Reason.TheVariants.{NoBoard, NoSuchGoal, NotSettled, NoSuchState}
use Rattle.law.specs.Worlds.{Model, Play}
use Rattle.law.specs.Refusals.{refusals, first, no_board}
use Rattle.law.specs.Steps.{begun}
use Rattle.law.specs.declared.call.Call.TheVariants.{Query}
use Rattle.law.proofs.Speaking.{refused_so}
use Rattle.cases.specs.Shows.{world}
use Rattle.verdicts.specs.declared.line.Line.{Line}
use Rattle.verdicts.specs.Reports.{IsLine, Reports}
use Rattle.verdicts.specs.Judging.{line_at}
use Rattle.verdicts.proofs.Settling.{some_none}

-- a settled goal has a line
pub has_line : (M : Meaning) → Lawful M → (out : ℕ) (m : Model) (f : ℕ) (e : Fault) → no_board M m ≡ false → f < length m.goals → f < m.settled → Reports M out m f (Err e) → ⊥
has_line M law out m f e fit there settled h =
    let qs : List Play = replicate out (begun 0) in
    let (number, is, same) = refused_so M _ _ _ _ (h 0 law.some_state qs (length-replicate out (begun 0))) e refl in
    let known : leb (length m.goals) f ≡ false = lt-leb _ _ there in
    let done : leb m.settled f ≡ false = lt-leb _ _ settled in
    let zero : leb M.states 0 ≡ false = lt-leb _ _ law.some_state in
    let none : first (refusals M (world m qs) (Query f 0)) ≡ None = (λ i. cond (fit i) (Some NoBoard) (cond (known i) (Some NoSuchGoal) (cond (done i) (Some NotSettled) (cond (zero i) (Some NoSuchState) None)))) in
    some_none (sym number ∙ none)

-- the lines of the first k goals, which are granted on R
pub record Lined (M : Meaning) (R : ℕ → States) (k : ℕ) (xs : List Line) : Type 0 where
  pub long : length xs ≡ k
  pub lines : (f : ℕ) → f < k → IsLine M f (R f) (line_at xs f)

last : (k : ℕ) (xs : List Line) (x : Line) → length xs ≡ k → line_at (xs ++ x ∷ []) k ≡ x
last k xs x e = get_or-append_right xs (x ∷ []) k k _ e (omega arith) ∙ ap (λ n. line_at (x ∷ []) n) (sub_self k)

module _ (M : Meaning) (R : ℕ → States) where
  pub lined_none : (xs : List Line) → xs ≡ [] → Lined M R 0 xs
  lined_none xs e = record { long = ap length e; lines = λ f lt. absurd (omega arith) }

  pub lined_more : (k : ℕ) (xs ys : List Line) (x : Line) → Lined M R k xs → IsLine M k (R k) x → ys ≡ xs ++ x ∷ [] → Lined M R (k + 1) ys
  lined_more k xs ys x h is e = subst (Lined M R (k + 1)) (sym e) (record {
    long = length_push xs x ∙ ap (λ n. n + 1) h.long;
    lines = below_more _ _ (λ f lt. subst (IsLine M f (R f)) (sym (get_or_append_left xs (x ∷ []) _ f (omega (arith, h.long)))) (h.lines f lt)) (subst (IsLine M k (R k)) (sym (last k xs x h.long)) is);
  })
