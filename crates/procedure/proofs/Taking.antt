-- A word that has been taken, where the stage is known.
use Rattle.std.proofs.Common.{◌≡◌, ℕ, List, [], ◌∷◌, ◌++◌, map, Option, None, Ok, Err, vec_items, vec_len, Result, sym, ◌∙◌, subst, MatchResult}
use Rattle.game.specs.declared.fault.Reason.{Reason}
use Rattle.game.specs.declared.goal.Word.{Word}
use Rattle.procedure.specs.Texts.{rule_word, condition_word, label_word, local_word}
use Rattle.procedure.specs.Parts.{ruled, labelled}
use Rattle.procedure.specs.Reader.{part, Taken, Took, ClosedRule, ClosedLabel}
use Rattle.procedure.specs.declared.reader.Reader.{Reader}
use Rattle.procedure.specs.declared.stage.Stage.{Stage}
use Rattle.procedure.specs.declared.stage.Stage.TheVariants as stage
use Rattle.game.specs.declared.fault.Stop.{Stop}
use Rattle.game.specs.declared.fault.Stop.TheVariants.{Memory}

pub taken_at : (s : Stage) (before : List Word) (x : Word) (wrong : Option Reason) (r : Reader) → r.stage ≡ s → Taken s before x wrong r → Taken r.stage before x wrong r
taken_at s before x wrong r at t = subst (λ v. Taken v before x wrong r) (sym at) t

-- Want of memory is no refusal.
pub took_memory : (before : List Word) (x : Word) (place : ℕ) (wrong : Option Reason) (e : Stop) (r : Reader) → e ≡ Memory → Took before x place wrong {T = Unit {0}} (Err e) r
took_memory before x place wrong e r is = subst (λ v. Took before x place wrong {T = Unit {0}} (Err v) r) (sym is) tt

-- The last word of a line.
pub rule_closes : (before : List Word) (x : Word) (place : ℕ) (wrong : Option Reason) (result : Result (Unit {0}) Stop) (r r' : Reader) →
    MatchResult result (λ _. ClosedRule r r') (λ e. e ≡ Memory) → wrong ≡ None →
    ruled (part r) ++ (rule_word (vec_len r.tests) r.line ∷ map condition_word (vec_items r.tests)) ≡ before ++ (x ∷ []) →
    Took before x place wrong result r'
rule_closes before x place wrong (Ok v) r r' closed right says =
    taken_at stage.Rules before x wrong r' closed.at (record { right = right; says = closed.says ∙ says; ready = closed.ready })
rule_closes before x place wrong (Err e) r r' closed right says = took_memory before x place wrong e r' closed

pub label_closes : (before : List Word) (x : Word) (place : ℕ) (wrong : Option Reason) (result : Result (Unit {0}) Stop) (r r' : Reader) →
    MatchResult result (λ _. ClosedLabel r r') (λ e. e ≡ Memory) → wrong ≡ None →
    labelled (part r) ++ (label_word (vec_len r.wants) r.line ∷ map local_word (vec_items r.wants)) ≡ before ++ (x ∷ []) →
    Took before x place wrong result r'
label_closes before x place wrong (Ok v) r r' closed right says =
    taken_at stage.Labels before x wrong r' closed.at (record { right = right; says = closed.says ∙ says; ready = closed.ready })
label_closes before x place wrong (Err e) r r' closed right says = took_memory before x place wrong e r' closed
