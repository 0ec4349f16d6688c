-- The first word of a file.
use Rattle.std.proofs.Common.{◌≡◌, ℕ, ◌/◌, ◌%◌, ◌<◌, ◌≤◌, List, [], ◌∷◌, length, get_or, drop, refl, arith}
use Rattle.procedure.specs.Words.{w, words}

pub words_cut : (xs : List ℕ) → 4 ≤ length xs → words xs ≡ w (get_or xs 3 0 / 16) (get_or xs 3 0 % 16) (get_or xs 2 0) (get_or xs 1 0) (get_or xs 0 0) ∷ words (drop 4 xs)
words_cut [] h = absurd (omega arith)
words_cut (a ∷ []) h = absurd (omega arith)
words_cut (a ∷ b ∷ []) h = absurd (omega arith)
words_cut (a ∷ b ∷ c ∷ []) h = absurd (omega arith)
words_cut (a ∷ b ∷ c ∷ d ∷ rest) h = refl

pub words_short : (xs : List ℕ) → length xs < 4 → words xs ≡ []
words_short [] h = refl
words_short (a ∷ []) h = refl
words_short (a ∷ b ∷ []) h = refl
words_short (a ∷ b ∷ c ∷ []) h = refl
words_short (a ∷ b ∷ c ∷ d ∷ rest) h = absurd (omega arith)

pub words_count : (xs : List ℕ) → length (words xs) ≡ length xs / 4
words_count [] = refl
words_count (a ∷ []) = omega arith
words_count (a ∷ b ∷ []) = omega arith
words_count (a ∷ b ∷ c ∷ []) = omega arith
words_count (a ∷ b ∷ c ∷ d ∷ rest) = omega (arith, words_count rest)
