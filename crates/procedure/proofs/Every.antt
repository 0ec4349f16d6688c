-- Tests of every element, and products.
use Rattle.std.proofs.Common.{◌≡◌, ℕ, ◌*◌, ◌≤◌, Bool, true, false, cond, eqb, ltb, List, [], ◌∷◌, ◌++◌, map, length, sym, refl, ap, ◌∙◌, mul_assoc, one-mul, mul-one, arith}
use Rattle.std.proofs.lemmas.Bool.{and_parts, and_from, le-ltb}
use Rattle.std.proofs.lemmas.List.{get_or_past}
use Rattle.std.specs.List.{list_all}
use Rattle.game.specs.declared.goal.Word.{Word}
use Rattle.systems.specs.Product as whole
use Rattle.systems.specs.declared.agent.Agent.{Agent}
use Rattle.procedure.specs.Parts.{product, want_fits}

pub all_push : {X : Type 0} (p : X → Bool) (xs : List X) (x : X) → list_all p xs ≡ true → p x ≡ true → list_all p (xs ++ (x ∷ [])) ≡ true
all_push p [] x all here = and_from (p x) true here refl
all_push p (y ∷ xs) x all here =
    let parts = and_parts (p y) (list_all p xs) all in
    and_from (p y) (list_all p (xs ++ (x ∷ []))) parts.0 (all_push p xs x parts.1 here)

pub product_push : (xs : List ℕ) (x : ℕ) → product (xs ++ (x ∷ [])) ≡ product xs * x
product_push [] x = mul-one x ∙ sym (one-mul x)
product_push (y ∷ xs) x = ap (λ v. y * v) (product_push xs x) ∙ sym (mul_assoc y (product xs) x)

pub product_agents : (gs : List Agent) → whole.product gs ≡ product (map (λ g. g.locals) gs)
product_agents [] = refl
product_agents (g ∷ gs) = ap (λ v. g.locals * v) (product_agents gs)

pub all_none : {X : Type 0} (p : X → Bool) (xs : List X) → xs ≡ [] → list_all p xs ≡ true
all_none p xs none = ap (list_all p) none

either : (b : Bool) → cond b false false ≡ false
either true = refl
either false = refl

-- An agent that there is not has no local states.
pub want_past : (sizes : List ℕ) (x : Word) → length sizes ≤ x.b → want_fits sizes x ≡ false
want_past sizes x past = ap (λ v. cond (eqb x.a 3) (ltb x.d v) false) (get_or_past sizes x.b 0 past) ∙ ap (λ v. cond (eqb x.a 3) v false) (le-ltb x.d 0 (omega arith)) ∙ either (eqb x.a 3)
