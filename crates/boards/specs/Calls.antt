-- What a list of changes makes of a board. Assumes nothing.
use Rattle.std.specs.Prelude.{true, false, List, [], ◌∷◌}
use Rattle.boards.specs.Meaning.{Rows, with_mark, wiped}
use Rattle.boards.specs.declared.edits.Change.{Change}
use Rattle.boards.specs.declared.edits.Change.TheVariants.{Put, Remove, Wipe}

abbrev pub changed : Rows → Change → Rows
changed b (Put r s) = with_mark b r s true
changed b (Remove r s) = with_mark b r s false
changed b (Wipe r) = wiped b r

-- The changes in their order.
abbrev pub after : Rows → List Change → Rows
after b [] = b
after b (c ∷ cs) = after (changed b c) cs
