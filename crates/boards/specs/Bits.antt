-- Rows of bits, 16 words of 64 bits to a row. Assumes nothing.
use Rattle.std.specs.Prelude.{ℕ, ◌+◌, ◌*◌, ◌/◌, ◌%◌, ◌^◌, Bool, List, ◌==◌, slice_index}
use Rattle.boards.specs.Meaning.{Rows, framed}

abbrev pub bit : ℕ → ℕ → Bool
bit w k = w / 2 ^ k % 2 == 1

-- The bit of state s in row r.
abbrev pub mark_of : List ℕ → ℕ → ℕ → Bool
mark_of ws r s = bit (slice_index ws (r * 16 + s / 64)) (s % 64)

abbrev pub bit_rows : List ℕ → ℕ → ℕ → Rows
bit_rows ws n h = framed n h (mark_of ws)
