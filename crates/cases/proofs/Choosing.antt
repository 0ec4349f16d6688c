-- The test of a side's choice. Assumes nothing.
use Rattle.std.proofs.Common.{◌≡◌, ℕ, Bool, true, false, not, Decides, sym, refl}
use Rattle.game.specs.Meaning.{Meaning, Part, member}
use Rattle.plans.specs.Sides.{side_of}
use Rattle.law.specs.Refusals.{fits_side}
use Rattle.law.proofs.Sides.{sides_are_parts}

decided : (x y : Bool) (A B : Type 0) → (A → B) → (B → A) → Decides x A → (y ≡ true → B) → (B → y ≡ true) → x ≡ y
decided true y A B to from d out into = sym (into (to (d.0 refl)))
decided false true A B to from d out into = d.1 (from (out refl))
decided false false A B to from d out into = refl

part_own : (M : Meaning) (g t a : ℕ) → Part M (side_of g true) t a → Part M (member g) t a
part_own M g t a p = record { fits = p.fits; acting = p.acting; idle = p.idle }

own_part : (M : Meaning) (g t a : ℕ) → Part M (member g) t a → Part M (side_of g true) t a
own_part M g t a p = record { fits = p.fits; acting = p.acting; idle = p.idle }

pub choice_test : (M : Meaning) (g t a : ℕ) (x : Bool) → Decides x (Part M (side_of g true) t a) → x ≡ fits_side M (member g) t a
choice_test M g t a x d = let s = sides_are_parts M (member g) t a in decided x _ _ _ (part_own M g t a) (own_part M g t a) d s.0 s.1

pub reply_test : (M : Meaning) (g t b : ℕ) (x : Bool) → Decides x (Part M (side_of g false) t b) → x ≡ fits_side M (λ i. not (member g i)) t b
reply_test M g t b x d =
    let s = sides_are_parts M (λ i. not (member g i)) t b in
    decided x _ _ _ (λ p. record { fits = p.fits; acting = p.acting; idle = p.idle }) (λ p. record { fits = p.fits; acting = p.acting; idle = p.idle }) d s.0 s.1
