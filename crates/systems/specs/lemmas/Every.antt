-- Tests of a list by places. Assumes nothing.
use Rattle.std.specs.Prelude.{◌≡◌, ℕ, zero, suc, ◌<◌, Bool, true, false, List, [], ◌∷◌, length, slice_index_or, refl}
use Rattle.std.proofs.Common.{subst, le_of_suc-le-suc, not-suc-le-zero}
use Rattle.std.proofs.lemmas.List.{get_or_default}
use Rattle.std.specs.List.{AllByRecursion, HoldsAt, list_all, list_any}
use Rattle.std.proofs.lemmas.Bool.{and_from, or_parts}
use Rattle.std.proofs.lemmas.List.Sums.{AllPass-from_list_all}

module _ {X : Type 0} (p : X → Bool) where
  from_all : (xs : List X) → AllByRecursion (λ x. p x ≡ true) xs → list_all p xs ≡ true
  from_all [] h = refl
  from_all (x ∷ xs) h = and_from (p x) (list_all p xs) h.0 (from_all xs h.1)

  pub all_at : (xs : List X) (i : ℕ) (d : X) → i < length xs → list_all p xs ≡ true → p (slice_index_or xs i d) ≡ true
  all_at xs i d lt h = AllPass-from_list_all p xs h i d lt

  pub none_at : (xs : List X) (i : ℕ) (d : X) → i < length xs → list_any p xs ≡ false → p (slice_index_or xs i d) ≡ false
  none_at [] i d lt h = absurd (not-suc-le-zero lt)
  none_at (x ∷ xs) zero d lt h = (or_parts (p x) (list_any p xs) h).0
  none_at (x ∷ xs) (suc i) d lt h = none_at xs i d (le_of_suc-le-suc lt) (or_parts (p x) (list_any p xs) h).1

-- an element that was read, at any default
pub at_item : {X : Type 0} (P : X → Type 0) (xs : List X) (i : ℕ) (e : X) → i < length xs → P (slice_index_or xs i e) → HoldsAt P xs i
at_item P xs i e lt h d = subst P (get_or_default xs i e d lt) h
