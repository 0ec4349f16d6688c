-- The kinds of words and their numbers. Assumes nothing.
use Rattle.std.specs.Prelude.{◌≡◌, ℕ, cond, Option, Some, None, Ok, Err, Result, ◌==◌}
use Rattle.game.specs.declared.fault.Reason.{Reason}
use Rattle.game.specs.declared.fault.Reason.TheVariants as reason
use Rattle.procedure.specs.declared.kind.Kind.{Kind}
use Rattle.procedure.specs.declared.kind.Kind.TheVariants as kind

abbrev pub kind_of : ℕ → Option Kind
kind_of k = cond (k == 1) (Some kind.System) (cond (k == 2) (Some kind.Agent) (cond (k == 3) (Some kind.Protocol) (cond (k == 4) (Some kind.Rule)
    (cond (k == 5) (Some kind.Condition) (cond (k == 6) (Some kind.Start) (cond (k == 7) (Some kind.Label) (cond (k == 8) (Some kind.Goal)
    (cond (k == 9) (Some kind.End) None))))))))

-- The number of a kind.
abbrev pub number_of : Kind → ℕ
number_of kind.System = 1
number_of kind.Agent = 2
number_of kind.Protocol = 3
number_of kind.Rule = 4
number_of kind.Condition = 5
number_of kind.Start = 6
number_of kind.Label = 7
number_of kind.Goal = 8
number_of kind.End = 9

-- The kind of a number, or that it is of none.
abbrev pub NamesKind : ℕ → Result Kind Reason → Type 0
NamesKind k (Ok v) = (kind_of k ≡ Some v) × (k ≡ number_of v)
NamesKind k (Err e) = (kind_of k ≡ None) × (e ≡ reason.Kind)
