-- What is printed of a goal. Assumes nothing.
use Rattle.std.specs.Prelude.{ℕ, Bool, cond, List, ◌++◌, codes, decimal}
use Rattle.verdicts.specs.declared.line.Line.{Line}

abbrev pub answer : Bool → List ℕ
answer all = cond all (codes "yes") (codes "no")

-- goal granted/states yes|no
abbrev pub line_text : Line → List ℕ
line_text x = decimal x.goal ++ (codes " " ++ (decimal x.granted ++ (codes "/" ++ (decimal x.states ++ (codes " " ++ answer x.all)))))
