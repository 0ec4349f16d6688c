-- The words of a file. Assumes nothing.
use Rattle.std.specs.Prelude.{ℕ, ◌/◌, ◌%◌, List, [], ◌∷◌}
use Rattle.game.specs.declared.goal.Word.{Word}

-- The word of a kind, and its fields.
abbrev pub w : ℕ → ℕ → ℕ → ℕ → ℕ → Word
w kind a b c d = record { kind = kind; a = a; b = b; c = c; d = d }

-- The words of bytes: the lowest byte first, the top 4 bits are the kind, then a (4 bits), b, c and d (8 bits each).
abbrev pub words : List ℕ → List Word
words [] = []
words (w0 ∷ []) = []
words (w0 ∷ w1 ∷ []) = []
words (w0 ∷ w1 ∷ w2 ∷ []) = []
words (w0 ∷ w1 ∷ w2 ∷ w3 ∷ rest) = w (w3 / 16) (w3 % 16) w2 w1 w0 ∷ words rest
