use Rattle.std.proofs.Common.{rules, ◌≡◌, ◌<◌, not, ◌||◌, ltb, sym, ap, ◌∙◌}
use borrow.Author.Tests.{tests}
use Rattle.std.specs.List.{list_any}
use Rattle.std.proofs.lemmas.Bool.{lt-ltb, not_from_true}
use Rattle.std.proofs.lemmas.Iterator.{YieldsList-from_slice}
use Rattle.std.proofs.lemmas.Iterator.Search.{any_from_yields_List}
use Rattle.systems.proofs.check.breaks.Goals as goal

pub returns-else-from-states-2 : goal.returns-else-from-states-2
returns-else-from-states-2 c =
    let covers : c.any.result ≡ list_any (ltb 15) c.args.line.now.covers =
    any_from_yields_List (ltb 15) _ _ _ c.any.ensures.ran (YieldsList-from_slice c.args.line.now.covers cc) (λ x b q k. search (rules, tests)) in
    let state : c.args.line.now.state < c.args.states = search rules in
    let next : c.args.line.now.next < c.args.states = search rules in
    let n = c.args.states in
    let l = c.args.line.now in
    covers ∙ sym (ap (λ b. b || (not (ltb l.next n) || list_any (ltb 15) l.covers)) (not_from_true (ltb l.state n) (lt-ltb l.state n state))
    ∙ ap (λ b. b || list_any (ltb 15) l.covers) (not_from_true (ltb l.next n) (lt-ltb l.next n next)))
