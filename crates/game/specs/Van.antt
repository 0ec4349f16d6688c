-- The van and its counter: agent 0 is at the shop (0) or away (1), agent 1 has counted (1) or not (0). A worked example. Assumes nothing.
use Rattle.std.specs.Prelude.{◌≡◌, ℕ, zero, suc, ◌+◌, ◌*◌, ◌/◌, ◌%◌, Bool, cond, ◌&&◌, ◌==◌, nat_lt}
use Rattle.game.specs.Meaning.{Meaning, Lawful, digit}
use Rattle.game.specs.Objectives.{Objective, until, States, IsSetOf}
use Rattle.game.specs.Sheets.{Sheet, IsSheet}

-- the local state of agent i in state t, which is l₀ + 2 × l₁
abbrev pub local : ℕ → ℕ → ℕ
local zero t = t % 2
local (suc i) t = t / 2

-- where its local state is 0 an agent may do 0 or 1, else only 0
abbrev pub may : ℕ → ℕ → ℕ → Bool
may i t x = nat_lt i 2 && nat_lt t 4 && nat_lt x (cond (local i t == 0) 2 1)

-- the van leaves by action 1, the counter counts by action 1 when the van is away
abbrev pub moved : ℕ → ℕ → ℕ
moved t j = cond (digit j 0 == 1) 1 (local 0 t) + 2 * cond (digit j 1 == 1 && local 0 t == 1) 1 (local 1 t)

abbrev pub van : Meaning
van = record {
  agents = 2;
  states = 4;
  atoms = 2;
  allowed = may;
  next = λ t j. cond (nat_lt t 4 && nat_lt j 16 && may 0 t (digit j 0) && may 1 t (digit j 1)) (moved t j) 0;
  look = λ i t. cond (nat_lt i 2 && nat_lt t 4) (local i t) 0;
  holds = λ p t. nat_lt p 2 && nat_lt t 4 && (cond (p == 0) (local 1 t) (local 0 t) == 1);
  start = λ t. (t == 0);
}

abbrev pub everywhere : States
everywhere t = nat_lt t 4

abbrev pub counted : States
counted = van.holds 0

-- Objective 3, the counter alone, and goal 4, both: true U counted.
abbrev pub goal : Objective
goal = until everywhere counted

abbrev pub alone_set : States
alone_set t = nat_lt t 4 && nat_lt 0 t

abbrev pub alone_sheet : Sheet
alone_sheet = record {
  rank = λ t. cond (nat_lt t 2) 1 0;
  move = λ t. cond (t == 1) 4 0;
  reply = λ t a. 0;
}

abbrev pub both_sheet : Sheet
both_sheet = record {
  rank = λ t. cond (nat_lt t 2) (cond (t == 0) 2 1) 0;
  move = λ t. cond (t == 0) 1 (cond (t == 1) 4 0);
  reply = λ t a. 0;
}

pub record VanCase : Type 0 where
  pub lawful : Lawful van
  pub step_5 : van.next 0 5 ≡ 1
  pub step_4 : van.next 1 4 ≡ 3
  pub alone : IsSheet van 2 goal alone_set alone_sheet
  pub alone_is : IsSetOf van 2 goal alone_set
  pub both : IsSheet van 3 goal everywhere both_sheet
  pub both_is : IsSetOf van 3 goal everywhere
  -- what every sheet of these goals has: goal 3 at 1, goal 3's reply to choice 0 at 0, and goal 4 at 0
  pub alone_values : (S : Sheet) → IsSheet van 2 goal alone_set S → (S.rank 1 ≡ 1) × (S.move 1 ≡ 4) × (S.rank 0 ≡ 1) × (S.reply 0 0 ≡ 0)
  pub both_values : (S : Sheet) → IsSheet van 3 goal everywhere S → (S.rank 0 ≡ 2) × (S.move 0 ≡ 1)
