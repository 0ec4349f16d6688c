use Rattle.std.proofs.Common.{◌≡◌, ◌+◌, vec_items, vec_len, sym, ap, ◌∙◌}
use Rattle.boards.specs.Meaning.{blank, whole_rows}
use Rattle.boards.proofs.Memory.{new_height, new_rows, new_rise, rows_blank, top_from, up_from}
use Rattle.boards.proofs.changes.ChangeBoardInMemory.new.Goals as goal

pub invariant_of-result : goal.invariant_of-result
invariant_of-result c =
    let n = c.args.states in
    let h = c.height_of-height.result in
    let ps = vec_items c.fill.new.self in
    let high : h ≡ whole_rows n (n + 1) (vec_len c.args.memory) = new_height n h c.len.result (vec_len c.args.memory) c.min-top.result c.min-top.ensures c.len.ensures c.height_of-height.ensures in
    let each = new_rows ps n h (vec_len c.args.memory) c.min-top.result high c.min-top.ensures (c.fill.ensures.items (λ y e. e)) in
    let all = new_rise ps n h each in
    record { fits = high ∙ ap (λ k. whole_rows n (n + 1) k) (sym c.fill.ensures.len); top = top_from ps n h all; up = up_from ps n h all }

pub returns : goal.returns
returns c =
    let n = c.args.states in
    let h = c.height_of-height.result in
    let ps = vec_items c.fill.new.self in
    let high : h ≡ whole_rows n (n + 1) (vec_len c.args.memory) = new_height n h c.len.result (vec_len c.args.memory) c.min-top.result c.min-top.ensures c.len.ensures c.height_of-height.ensures in
    let each = new_rows ps n h (vec_len c.args.memory) c.min-top.result high c.min-top.ensures (c.fill.ensures.items (λ y e. e)) in
    rows_blank ps n h each ∙ ap (λ k. blank n k) high
