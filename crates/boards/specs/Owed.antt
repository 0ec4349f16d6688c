-- Both boards are sound.
use Rattle.std.specs.Prelude.{◌≡◌, ℕ, ◌/◌, ◌≤◌, min, Bool, ◌&&◌, nat_le, nat_lt}
use Rattle.std.proofs.Common.{arith}
use Rattle.std.proofs.lemmas.Bool.{and_parts, ltb-true, leb-true, cond_both}
use Rattle.boards.specs.Meaning.{Sound, framed, whole_rows}

pub framed_sound : (n h width size : ℕ) (f : ℕ → ℕ → Bool) → h ≡ whole_rows n width size → Sound (framed n h f)
framed_sound n h width size f e = record {
  few = omega (arith, e, cond_both (nat_le 1 n && nat_le n 1024) (min (size / width) 64) 0 (λ (v : ℕ). v ≤ 64) (λ _. omega arith) (λ _. omega arith));
  some = λ lt.
      cond_both (nat_le 1 n && nat_le n 1024) (min (size / width) 64) 0 (λ (v : ℕ). h ≡ v → (1 ≤ n) × (n ≤ 1024))
      (λ t _. let both = and_parts (nat_le 1 n) (nat_le n 1024) t in (leb-true 1 n both.0, leb-true n 1024 both.1))
      (λ _ z. absurd (omega arith)) e;
  within = λ r s m.
      let known = and_parts (nat_lt r h) (nat_lt s n) (and_parts (nat_lt r h && nat_lt s n) (f r s) m).0 in
      (ltb-true r h known.0, ltb-true s n known.1);
}
