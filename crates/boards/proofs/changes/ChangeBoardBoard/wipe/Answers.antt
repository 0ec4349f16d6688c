use Rattle.std.proofs.Common.{◌≡◌, ℕ, ◌+◌, ◌-◌, List, length, replicate, vec_items, vec_len, sym, ap, ◌∙◌, subst, arith}
use borrow.Rule.Slice.PartMut.{mid_of, put_mid}
use Rattle.std.specs.Vec.{with_items}
use Rattle.std.proofs.lemmas.List.{with_items_is, length-replicate}
use Rattle.boards.specs.Points.{Rise}
use Rattle.boards.proofs.Memory.{wrote, span_is, length_row, kept, board_cleared, blank_rises}
use Rattle.boards.proofs.changes.ChangeBoardBoard.wipe.Goals as goal

pub invariant_of-self : goal.invariant_of-self
invariant_of-self c =
    let me = c.args.self.now in
    let lent = c.deref_mut.ensures in
    let span = c.span-all in
    let ps = c.deref_mut.result.now in
    let row = c.fill.new.self in
    let from = span.result.start in
    let to = span.result.end in
    let ws = put_mid from (to - from) ps row in
    let size : length (mid_of from (to - from) ps) ≡ me.count + 1 =
    ap length (span_is ps me.count c.args.row from to span.ensures.from span.ensures.to) ∙ length_row ps me.count c.args.row (omega (arith, lent.len)) in
    let is : row ≡ replicate (me.count + 1) me.count = c.fill.ensures.after (λ y e. e) ∙ ap (λ k. replicate k me.count) size in
    let long : length row ≡ me.count + 1 = ap length is ∙ length-replicate (me.count + 1) me.count in
    let all = wrote ps row me.count c.args.row from to span.ensures.from span.ensures.to (omega (arith, lent.len)) (omega arith) in
    let whole : vec_items (with_items me.points ws) ≡ ws = with_items_is me.points ws (omega (arith, lent.len, all.long)) in
    let here = subst (λ (l : List ℕ). Rise me.count l) (sym (all.here ∙ is)) (blank_rises me.count) in
    let still = kept (vec_items me.points) ps ws (vec_items (with_items me.points ws)) me.count me.height (vec_len me.points) c.args.row lent.value lent.len me.fits me.top me.up whole here all.others in
    record { fits = me.fits; top = still.0; up = still.1 }

pub returns-then-row-self : goal.returns-then-row-self
returns-then-row-self c =
    let me = c.args.self.now in
    let lent = c.deref_mut.ensures in
    let span = c.span-all in
    let ps = c.deref_mut.result.now in
    let row = c.fill.new.self in
    let from = span.result.start in
    let to = span.result.end in
    let ws = put_mid from (to - from) ps row in
    let size : length (mid_of from (to - from) ps) ≡ me.count + 1 =
    ap length (span_is ps me.count c.args.row from to span.ensures.from span.ensures.to) ∙ length_row ps me.count c.args.row (omega (arith, lent.len)) in
    let is : row ≡ replicate (me.count + 1) me.count = c.fill.ensures.after (λ y e. e) ∙ ap (λ k. replicate k me.count) size in
    let long : length row ≡ me.count + 1 = ap length is ∙ length-replicate (me.count + 1) me.count in
    let all = wrote ps row me.count c.args.row from to span.ensures.from span.ensures.to (omega (arith, lent.len)) (omega arith) in
    let whole : vec_items (with_items me.points ws) ≡ ws = with_items_is me.points ws (omega (arith, lent.len, all.long)) in
    board_cleared (vec_items me.points) ps ws (vec_items (with_items me.points ws)) me.count me.height c.args.row lent.value whole (all.here ∙ is) all.others
