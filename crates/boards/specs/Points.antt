-- Rows of change points: n + 1 numbers to a row, rising, and n from there on. Assumes nothing.
use Rattle.std.specs.Prelude.{◌≡◌, ℕ, ◌+◌, ◌*◌, ◌%◌, ◌<◌, ◌≤◌, Bool, cond, List, [], ◌∷◌, length, ◌==◌, nat_le, slice_index}
use Rattle.std.specs.List.{between}
use Rattle.boards.specs.Meaning.{Rows, framed}

-- how many of the numbers are at most t
abbrev pub at_most : List ℕ → ℕ → ℕ
at_most [] t = 0
at_most (x ∷ xs) t = cond (nat_le x t) 1 0 + at_most xs t

-- a state is a member when an odd number of change points are at most it
abbrev pub member : List ℕ → ℕ → Bool
member xs t = at_most xs t % 2 == 1

-- a row of n states: strictly rising change points below n, then n in every place that is left
pub record Rise (n : ℕ) (xs : List ℕ) : Type 0 where
  pub long : length xs ≡ n + 1
  pub top : (i : ℕ) → i < length xs → slice_index xs i ≤ n
  pub up : (i j : ℕ) → i < j → j < length xs → slice_index xs j < n → slice_index xs i < slice_index xs j

-- the numbers of row r
abbrev pub row_at : List ℕ → ℕ → ℕ → List ℕ
row_at ps n r = between (r * (n + 1)) (r * (n + 1) + (n + 1)) ps

abbrev pub change_rows : List ℕ → ℕ → ℕ → Rows
change_rows ps n h = framed n h (λ r. member (row_at ps n r))
