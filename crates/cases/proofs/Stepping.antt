-- A step from its table of refusals. Assumes nothing.
use Rattle.std.proofs.Common.{◌≡◌, Bool, false, List, [], ◌∷◌, Some, None, sym, refl, ap, ◌∙◌, subst}
use Rattle.std.specs.List.{AllByRecursion}
use Rattle.std.proofs.lemmas.Bool.{cond-false}
use Rattle.game.specs.Meaning.{Meaning}
use Rattle.game.specs.declared.fault.Fault.{Fault}
use Rattle.game.specs.declared.fault.Reason.{Reason}
use Rattle.law.specs.Worlds.{World}
use Rattle.law.specs.Refusals.{refusals, first}
use Rattle.law.specs.Steps.{fault, Does, Ruled, Step}
use Rattle.law.specs.declared.call.Call.{Call}
use Rattle.law.specs.declared.call.Answer.{Answer}
use Rattle.law.specs.declared.call.Answer.TheVariants.{Refused}

pub step_refused : (M : Meaning) (w : World) (c : Call) (e : Fault) → first (refusals M w c) ≡ Some e.reason → e ≡ fault e.reason → Step M w c (Refused e) w
step_refused M w c e h is = record { is = subst (λ o. Ruled M w c o (Refused e) w) (sym h) (ap Refused is, refl) }

pub step_does : (M : Meaning) (w : World) (c : Call) (r : Answer) (w' : World) → first (refusals M w c) ≡ None → Does M w c r w' → Step M w c r w'
step_does M w c r w' h d = record { is = subst (λ o. Ruled M w c o r w') (sym h) d }

-- where every test of a list fails, no number is given
pub first_none : (xs : List (Reason × Bool)) → AllByRecursion (λ x. x.1 ≡ false) xs → first xs ≡ None
first_none [] h = refl
first_none (x ∷ xs) (e, h) = cond-false x.1 (Some x.0) (first xs) e ∙ first_none xs h
