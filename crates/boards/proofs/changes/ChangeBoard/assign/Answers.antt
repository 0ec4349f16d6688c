use Rattle.std.proofs.Common.{◌≡◌, ℕ, ◌-◌, cond, eqb, List, vec_items, vec_len, sym, ap, ◌∙◌, subst, arith}
use borrow.Rule.Slice.PartMut.{put_mid}
use Rattle.std.specs.Vec.{with_items}
use Rattle.std.proofs.lemmas.List.{with_items_is}
use Rattle.boards.specs.Points.{Rise, member}
use Rattle.boards.proofs.Memory.{wrote, span_is, kept, board_assigned}
use Rattle.boards.proofs.changes.ChangeBoard.assign.Goals as goal

pub invariant_of-self : goal.invariant_of-self
invariant_of-self c =
    let me = c.args.self.now in
    let lent = c.deref_mut.ensures in
    let span = c.span-span in
    let ps = c.deref_mut.result.now in
    let ws = put_mid span.result.start (span.result.end - span.result.start) ps c.assign.new.row in
    let all = wrote ps c.assign.new.row me.count c.args.row span.result.start span.result.end span.ensures.from span.ensures.to (omega (arith, lent.len)) (omega (arith, c.assign.ensures.rise.long)) in
    let is : vec_items (with_items me.points ws) ≡ ws = with_items_is me.points ws (omega (arith, lent.len, all.long)) in
    let here = subst (λ (l : List ℕ). Rise me.count l) (sym all.here) c.assign.ensures.rise in
    let still = kept (vec_items me.points) ps ws (vec_items (with_items me.points ws)) me.count me.height (vec_len me.points) c.args.row lent.value lent.len me.fits me.top me.up is here all.others in
    record { fits = me.fits; top = still.0; up = still.1 }

pub returns-then-state-self : goal.returns-then-state-self
returns-then-state-self c =
    let me = c.args.self.now in
    let lent = c.deref_mut.ensures in
    let span = c.span-span in
    let ps = c.deref_mut.result.now in
    let ws = put_mid span.result.start (span.result.end - span.result.start) ps c.assign.new.row in
    let all = wrote ps c.assign.new.row me.count c.args.row span.result.start span.result.end span.ensures.from span.ensures.to (omega (arith, lent.len)) (omega (arith, c.assign.ensures.rise.long)) in
    let is : vec_items (with_items me.points ws) ≡ ws = with_items_is me.points ws (omega (arith, lent.len, all.long)) in
    board_assigned (vec_items me.points) ps ws (vec_items (with_items me.points ws)) me.count me.height c.args.row c.args.state c.args.to
    lent.value is c.if-row-self.true c.if-state-self.true
    (λ t known. ap (λ l. member l t) all.here ∙ c.assign.ensures.turned t known
    ∙ ap (λ l. cond (eqb t c.args.state) c.args.to (member l t)) (span_is ps me.count c.args.row span.result.start span.result.end span.ensures.from span.ensures.to))
    all.others
