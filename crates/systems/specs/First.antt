-- What the first element of a list that passes a test gives. Assumes nothing.
use Rattle.std.specs.Prelude.{ℕ, Bool, cond, List, [], ◌∷◌}

-- What the first element that passes gives, else d.
abbrev pub given : {X : Type 0} → (X → Bool) → (X → ℕ) → ℕ → List X → ℕ
given p f d [] = d
given p f d (x ∷ xs) = cond (p x) (f x) (given p f d xs)
