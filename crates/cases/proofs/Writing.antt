-- A row written state by state. Assumes nothing.
use Rattle.std.proofs.Common.{◌≡◌, ℕ, ◌+◌, ◌<◌, ◌≤◌, Bool, false, cond, ◌&&◌, eqb, ltb, ap, inl, inr, arith}
use mathlib.Core.Path.{fun_ext}
use native.Mathlib.Decide.{dec_lt}
use Rattle.game.proofs.Bounded.{true_or_false}
use Rattle.std.proofs.lemmas.Bool.Decides.{nat_tests}
use Rattle.game.specs.Objectives.{States}
use Rattle.boards.specs.Meaning.{Rows, Sound, known, with_mark}
use Rattle.law.specs.Steps.{with_row}

-- row f is P at the states below n
abbrev pub row_to : Rows → ℕ → States → ℕ → Rows
row_to b f P n = record { states = b.states; rows = b.rows; marked = λ q t. cond (eqb q f && ltb t n) (known b f t && P t) (b.marked q t) }

same_rows : (n r : ℕ) (f g : ℕ → ℕ → Bool) → ((q t : ℕ) → f q t ≡ g q t) → ◌≡◌ {A = Rows} (record { states = n; rows = r; marked = f }) (record { states = n; rows = r; marked = g })
same_rows n r f g h = ap (λ (m : ℕ → ℕ → Bool). record { states = n; rows = r; marked = m }) (fun_ext (λ q. fun_ext (λ t. h q t)))

pub row_none : (b : Rows) (f : ℕ) (P : States) → b ≡ row_to b f P 0
row_none b f P = same_rows _ _ _ _ (λ q t. grind (arith, nat_tests))

pub row_more : (b : Rows) (f : ℕ) (P : States) (n : ℕ) → with_mark (row_to b f P n) f n (P n) ≡ row_to b f P (n + 1)
row_more b f P n = same_rows _ _ _ _ (λ q t. grind (arith, nat_tests))

unmarked : (b : Rows) → Sound b → (q t : ℕ) → b.states ≤ t → b.marked q t ≡ false
unmarked b sound q t h = elim (true_or_false (b.marked q t)) [ inl x ↦ absurd (omega (arith, (sound.within q t x).1)) | inr x ↦ x ]

pub row_all : (b : Rows) (f : ℕ) (P : States) (n : ℕ) → Sound b → n ≡ b.states → row_to b f P n ≡ with_row b f P
row_all b f P n sound e = same_rows _ _ _ _ (λ q t. go q t (dec_lt t n))
  where
    go : (q t : ℕ) → Dec (t < n) → cond (eqb q f && ltb t n) (known b f t && P t) (b.marked q t) ≡ cond (eqb q f) (known b f t && P t) (b.marked q t)
    go q t (yes less) = grind (arith, nat_tests)
    go q t (no more) = let out = unmarked b sound q t (omega arith) in grind (arith, nat_tests)
