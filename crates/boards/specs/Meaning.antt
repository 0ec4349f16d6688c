-- What a board means: a set of states for each of its rows. Assumes nothing.
use Rattle.std.specs.Prelude.{◌≡◌, ℕ, ◌/◌, ◌<◌, ◌≤◌, min, Bool, true, false, cond, ◌&&◌, ◌==◌, nat_le, nat_lt}

-- Rows and states are numbered from 0.
pub record Rows : Type 0 where
  pub states : ℕ
  pub rows : ℕ
  -- row, state
  pub marked : ℕ → ℕ → Bool

-- Both numbers are known.
abbrev pub known : Rows → ℕ → ℕ → Bool
known b r s = nat_lt r b.rows && nat_lt s b.states

-- The mark of state s in row r is v, where both numbers are known; all else is as in b.
abbrev pub with_mark : Rows → ℕ → ℕ → Bool → Rows
with_mark b r s v = record {
  states = b.states;
  rows = b.rows;
  marked = λ q t. cond (q == r && t == s) (v && known b r s) (b.marked q t);
}

-- Row r has no mark; all else is as in b.
abbrev pub wiped : Rows → ℕ → Rows
wiped b r = record {
  states = b.states;
  rows = b.rows;
  marked = λ q t. cond (q == r) false (b.marked q t);
}

-- No marks.
abbrev pub blank : ℕ → ℕ → Rows
blank n h = record { states = n; rows = h; marked = λ _ _. false }

-- The marks f, as far as the numbers are known.
abbrev pub framed : ℕ → ℕ → (ℕ → ℕ → Bool) → Rows
framed n h f = record { states = n; rows = h; marked = λ r s. (nat_lt r h && nat_lt s n) && f r s }

-- The whole rows, each so wide, in a memory of so many places: 64 at most, and none unless there are 1 to 1,024 states.
abbrev pub whole_rows : ℕ → ℕ → ℕ → ℕ
whole_rows n width size = cond (nat_le 1 n && nat_le n 1024) (min (size / width) 64) 0

-- 64 rows without marks, or none where there are not 1 to 1,024 states.
abbrev pub fresh : ℕ → Rows
fresh n = blank n (cond (nat_le 1 n && nat_le n 1024) 64 0)

-- What every board keeps.
pub record Sound (b : Rows) : Type 0 where
  pub few : b.rows ≤ 64
  pub some : 0 < b.rows → (1 ≤ b.states) × (b.states ≤ 1024)
  pub within : (r s : ℕ) → b.marked r s ≡ true → (r < b.rows) × (s < b.states)
