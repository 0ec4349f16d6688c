use Rattle.std.proofs.Common.{◌≡◌, ℕ, ◌+◌, ◌-◌, ◌*◌, ◌^◌, ◌<◌, ◌≤◌, Bool, true, false, length, ⊎_elim, rules, get_or, sym, ap, ◌∙◌, arith}
use Rattle.std.proofs.lemmas.Bool.{cond-true, cond-false}
use Rattle.std.specs.List.{HoldsAt, position}
use borrow.Author.Rules.{get_or_read}
use Rattle.std.proofs.lemmas.List.Quantifiers.{position-Some}
use Rattle.std.proofs.lemmas.Option.{MatchOption-at_some, MatchOption-at_none}
use Rattle.game.specs.Meaning.{actions}
use Rattle.systems.specs.Fits.{bit, move_fits}
use Rattle.systems.specs.Joint.{all_below, joint}
use Rattle.systems.specs.Lists.{allows, leads}
use Rattle.systems.specs.lemmas.GameLawful.{fine, place_below}
use Rattle.systems.specs.lemmas.Given.{given_none, given_read}
use Rattle.systems.specs.lemmas.Joints.{joint_is}
use Rattle.systems.specs.declared.line.MoveLine.{MoveLine}
use Rattle.systems.specs.declared.listed.Game.{Game}
use Rattle.systems.proofs.Walk.{shift_short, shift_long, joint_long, actions_pass, piece_pass, option_cases}
use Rattle.systems.proofs.listed_system.GameSystem.next.Goals as goal

pub returns-then-choice-lists-ne0 : goal.returns-then-choice-lists-ne0
returns-then-choice-lists-ne0 c =
    let y = c.args.self.now.lists in
    let ch = c.args.choice in
    sym (cond-false _ (leads y c.args.state ch) 0 (joint_long y.agents y.states (allows y) c.args.state ch (shift_long ch y.agents c.if-choice-lists-ne0.true)))

within : (g : Game) (s : ℕ) → s < g.lists.states → s * g.lists.agents + g.lists.agents ≤ length g.lists.masks.now
within g s hs =
    let y = g.lists in
    let f = fine g.lists g.fine in
    let last = place_below s (y.agents - 1) y.agents y.states (omega (arith, f.some_agent)) hs in
    omega (arith, last, f.masked, f.some_agent)

tested : (g : Game) (s ch : ℕ) → s < g.lists.states → ch < 4 ^ g.lists.agents →
    joint g.lists.agents g.lists.states (allows g.lists) s ch
    ≡ all_below g.lists.agents (λ i. bit (get_or g.lists.masks.now (s * g.lists.agents + i) 0) (get_or (actions ch) i 0))
tested g s ch hs hc =
    let y = g.lists in
    let test : ℕ → ℕ → ℕ → Bool = λ i s a. bit (get_or y.masks.now (s * y.agents + i) 0) a in
    joint_is y.agents y.states test s ch hs hc ∙ sym (actions_pass y.agents (λ i a. test i s a) ch (fine y g.fine).few_agents)

pub returns-then-not-masks_allow : goal.returns-then-not-masks_allow
returns-then-not-masks_allow c =
    let g = c.args.self.now in
    let y = g.lists in
    let s = c.args.state in
    let ch = c.args.choice in
    let off : joint y.agents y.states (allows y) s ch ≡ false =
    tested g s ch (omega arith) (shift_short ch y.agents c.if-choice-lists-ne0.false) ∙ ap (λ acts. all_below y.agents (λ i. bit (get_or y.masks.now (s * y.agents + i) 0) (get_or acts i 0))) (sym c.unpack-actions.ensures)
    ∙ sym (piece_pass y.masks.now c.unpack-actions.result (s * y.agents) y.agents (within g s (omega arith))) ∙ sym c.if-not-masks_allow.ensures in
    sym (cond-false (joint y.agents y.states (allows y) s ch) (leads y s ch) 0 off)

pub returns : goal.returns
returns c =
    let g = c.args.self.now in
    let y = g.lists in
    let s = c.args.state in
    let ch = c.args.choice in
    let on : joint y.agents y.states (allows y) s ch ≡ true =
    tested g s ch (omega arith) (shift_short ch y.agents c.if-choice-lists-ne0.false) ∙ ap (λ acts. all_below y.agents (λ i. bit (get_or y.masks.now (s * y.agents + i) 0) (get_or acts i 0))) (sym c.unpack-actions.ensures)
    ∙ sym (piece_pass y.masks.now c.unpack-actions.result (s * y.agents) y.agents (within g s (omega arith))) ∙ sym c.if-not-masks_allow.ensures in
    let first : c.first_fit.result ≡ position (λ l. move_fits l (record { state = s; actions = actions ch })) y.moves.now =
    c.first_fit.ensures ∙ ap (λ acts. position (λ l. move_fits l (record { state = s; actions = acts })) y.moves.now) c.unpack-actions.ensures in
    let led : c.map_or.result ≡ leads y s ch =
    ⊎_elim
    (λ none. MatchOption-at_none _ _ none c.map_or.ensures ∙ sym (given_none (λ l. move_fits l (record { state = s; actions = actions ch })) (λ l. l.next) s y.moves.now (sym first ∙ none)))
    (λ some. let h = MatchOption-at_some _ _ some.0 some.1 c.map_or.ensures in
    let read : HoldsAt (λ (l : MoveLine). c.map_or.result ≡ l.next) y.moves.now some.0 = λ d.
    let lt : some.0 < length y.moves.now = (position-Some (λ l. move_fits l (record { state = s; actions = actions ch })) y.moves.now some.0 d (sym first ∙ some.1)).0 in
    search (rules, h, lt, get_or_read) in
    given_read (λ l. move_fits l (record { state = s; actions = actions ch })) (λ l. l.next) s y.moves.now some.0 c.map_or.result (sym first ∙ some.1) read)
    (option_cases c.first_fit.result) in
    c.from.ensures ∙ led ∙ sym (cond-true (joint y.agents y.states (allows y) s ch) (leads y s ch) 0 on)
