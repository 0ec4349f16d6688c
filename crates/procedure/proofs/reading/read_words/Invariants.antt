use Rattle.procedure.specs.Words.{words}
use Rattle.procedure.proofs.Going.{Going}
use Rattle.procedure.proofs.reading.read_words.Given as goal

abbrev pub invariant-loop-place : goal.invariant-loop-place
invariant-loop-place l =
    (goal.iterator-loop-place).can_next l.place-iterator
    × (goal.iterator-loop-place).is_finite l.place-iterator
    × Going (words l.bytes) (words l.place-iterator.iter.0.now) l.place-iterator.count l.reader
