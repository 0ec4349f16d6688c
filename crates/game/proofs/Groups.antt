-- Members of a group. Assumes nothing.
use Rattle.std.proofs.Common.{◌≡◌, ℕ, zero, suc, ◌/◌, ◌%◌, ◌^◌, ◌<◌, ◌≤◌, false, eqb, sym, ap, ◌∙◌, arith, pow_mono}
use native.Mathlib.Nat.{div-eq_of_lt, div-div-eq-div-mul, pow-succ'}
use lib.Bits.{bit_and}
use Rattle.std.proofs.lemmas.Nat.{and_mask}
use Rattle.game.specs.Meaning.{member}

pub member_closed : (g i : ℕ) → member g i ≡ eqb (g / 2 ^ i % 2) 1
member_closed g zero = let e : g / 2 ^ 0 ≡ g = omega arith in ap (λ x. eqb (x % 2) 1) (sym e)
member_closed g (suc i) = member_closed (g / 2) i ∙ ap (λ x. eqb (x % 2) 1) (div-div-eq-div-mul g 2 (2 ^ i) ∙ ap (λ x. g / x) (sym (pow-succ' 2 i)))

pub not_member : (g i : ℕ) → g < 256 → 8 ≤ i → false ≡ member g i
not_member g i h k =
    let wide : 256 ≤ 2 ^ i = pow_mono {i = 8} {j = i} k in
    sym (member_closed g i ∙ ap (λ x. eqb (x % 2) 1) (div-eq_of_lt {n = g} {m = 2 ^ i} (omega arith)))

pub test_member : (g i : ℕ) → eqb (bit_and (g / 2 ^ i) 1) 1 ≡ member g i
test_member g i = ap (λ x. eqb x 1) (and_mask (g / 2 ^ i) 1) ∙ sym (member_closed g i)
