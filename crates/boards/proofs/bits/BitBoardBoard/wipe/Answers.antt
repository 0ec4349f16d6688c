use Rattle.std.proofs.Common.{◌≡◌, ◌+◌, ◌-◌, ◌*◌, vec_items, vec_len, ap, ◌∙◌, arith}
use borrow.Rule.Slice.PartMut.{put_mid}
use Rattle.std.specs.Vec.{with_items}
use Rattle.std.proofs.lemmas.List.{with_items_is}
use Rattle.boards.specs.Meaning.{wiped}
use Rattle.boards.specs.Bits.{bit_rows}
use Rattle.boards.proofs.Marks.{rows_wiped, row_inside, cleared_words, cleared_len}
use Rattle.boards.proofs.bits.BitBoardBoard.wipe.Goals as goal

pub returns-then-row-self : goal.returns-then-row-self
returns-then-row-self c =
    let me = c.args.self.now in
    let r = c.args.row in
    let lent = c.deref_mut.ensures in
    let old = c.deref_mut.result.now in
    let ws = put_mid (r * 16) (r * 16 + 16 - r * 16) old c.fill.new.self in
    let place = row_inside me.count (vec_len me.words) me.height r me.fits c.if-row-self.true in
    let zeros = c.fill.ensures.after (λ y e. e) in
    let is : vec_items (with_items me.words ws) ≡ ws = with_items_is me.words ws (cleared_len old c.fill.new.self (r * 16) zeros ∙ lent.len) in
    ap (λ l. bit_rows l me.count me.height) is
    ∙ rows_wiped old ws me.count me.height r place.0 (cleared_words old c.fill.new.self (r * 16) (omega (arith, place.1, lent.len)) zeros)
    ∙ ap (λ l. wiped (bit_rows l me.count me.height) r) lent.value
