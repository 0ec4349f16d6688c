-- The numbers that a board of change points stores are the states where membership changes. Assumes nothing.
use Rattle.std.specs.Prelude.{◌≡◌, ℕ, zero, suc, ◌<◌, Bool, false, not, List, length, vec_items, slice_index}
use Rattle.boards.specs.Points.{row_at, change_rows}
use Rattle.boards.specs.declared.changes.ChangeBoard.{ChangeBoard}

-- Membership just before state t; there is none before state 0.
abbrev pub before : (ℕ → Bool) → ℕ → Bool
before f zero = false
before f (suc t) = f t

-- t is one of the numbers.
abbrev pub Listed : List ℕ → ℕ → Type 0
Listed xs t = (i : ℕ) × (i < length xs) × (slice_index xs i ≡ t)

-- Membership at t differs from membership just before.
abbrev pub Turns : (ℕ → Bool) → ℕ → Type 0
Turns f t = f t ≡ not (before f t)

-- In each row of every board, a state is stored exactly where the marks turn.
abbrev pub PointsAreChanges : Type 0
PointsAreChanges = (b : ChangeBoard) (r t : ℕ) → r < b.height → t < b.count →
    (Listed (row_at (vec_items b.points) b.count r) t → Turns ((change_rows (vec_items b.points) b.count b.height).marked r) t)
    × (Turns ((change_rows (vec_items b.points) b.count b.height).marked r) t → Listed (row_at (vec_items b.points) b.count r) t)
