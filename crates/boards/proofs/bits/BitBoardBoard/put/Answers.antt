use Rattle.std.proofs.Common.{◌%◌, arith}
use Rattle.boards.proofs.Marks.{rows_set, put_bits, inside}
use Rattle.boards.proofs.bits.BitBoardBoard.put.Goals as goal

pub returns-then-state-self : goal.returns-then-state-self
returns-then-state-self c =
    let me = c.args.self.now in
    let s = c.args.state in
    let place = inside _ _ _ c.args.row s me.fits c.if-row-self.true c.if-state-self.true in
    rows_set _ _ _ _ _ c.index-word.result.now _ _ place.0 c.if-row-self.true c.if-state-self.true (omega (arith, place.1, me.words.ok.0)) c.index-word.ensures
    (λ j. put_bits c.index-word.result.now (s % 64) j (omega arith))
