-- Drawn entries as the sheet of a case. Assumes nothing.
use Rattle.std.proofs.Common.{ℕ, ◌<◌, List, sym, refl}
use Rattle.game.specs.Meaning.{Meaning, Lawful}
use Rattle.game.proofs.Sheeting.{sheet_like}
use Rattle.arenas.specs.declared.entry.Entry.{Entry}
use Rattle.plans.specs.Drawing.{granted_in, rank_in, choice_in}
use Rattle.law.specs.Worlds.{Plan, Model, goal_at, IsPlan, with_replies}
use Rattle.goals.specs.Planned.{DrawnFor}

-- the plan that entries show
abbrev pub shown : ℕ → List Entry → Plan
shown f es = record { goal = f; granted = granted_in es; rank = rank_in es; move = choice_in es }

pub is_plan : (M : Meaning) → Lawful M → (m : Model) (f : ℕ) (es : List Entry) → f < m.settled → DrawnFor M m.rows.marked (goal_at m f) es → IsPlan M m (shown f es)
is_plan M law m f es low d =
    let k = d.drawn in
    record {
      settled = low;
      group = d.group;
      objective = d.objective;
      aims = d.aims;
      set = k.right;
      sheet = (k.sheet.reply, sheet_like M law d.group (granted_in es) k.sheet (with_replies (shown f es) k.sheet.reply) (λ t ht. sym (k.rank t ht)) (λ t ht. sym (k.move t ht)) (λ t a. refl) d.objective k.is_sheet);
    }
