use Rattle.std.proofs.Common.{rules, ◌≡◌, ◌≤◌, ℕ, Bool, true, not, leb, List, Some, None, Option, is_some, refl, sym, ap, ◌∙◌, subst, arith}
use borrow.Author.Tests.{tests}
use Rattle.std.specs.List.{list_any, position}
use Rattle.std.specs.Option.{option_or}
use Rattle.std.proofs.lemmas.Bool.{and_parts, and_from, not_from_false, leb-true}
use Rattle.std.proofs.lemmas.Option.{none-some}
use Rattle.std.proofs.lemmas.Iterator.{YieldsList-from_slice}
use Rattle.std.proofs.lemmas.Iterator.Search.{any_from_yields_List}
use Rattle.game.specs.declared.fault.Reason.TheVariants.{Entry}
use Rattle.systems.specs.Lists.{shaped, bad_mask, bad_mark, bad_move, begins, fault, Broken, misshaped, masked, marked, moved, startless}
use Rattle.systems.specs.lemmas.Given.{some_first}
use Rattle.systems.specs.declared.lists.Lists.{Lists}
use Rattle.systems.proofs.check.check.Goals as goal

few_atoms : (y : Lists) → shaped y ≡ true → y.atoms ≤ 28
few_atoms y on =
    let agents = (and_parts (leb 1 y.agents) _ on).1 in
    let states = (and_parts (leb y.agents 6) _ agents).1 in
    let most = (and_parts (leb 1 y.states) _ states).1 in
    let atoms = (and_parts (leb y.states 1024) _ most).1 in
    leb-true y.atoms 28 (and_parts (leb y.atoms 28) _ atoms).0

module _ (y : Lists) (on : shaped y ≡ true) where
  abbrev first : Option ℕ
  first = option_or (option_or (position bad_mask y.masks.now) (position (bad_mark y.atoms) y.marks.now)) (position (bad_move y.states) y.moves.now)

  entry : (i : ℕ) → Some i ≡ first → Broken y (fault Entry i)
  entry i = go (position bad_mask y.masks.now) (position (bad_mark y.atoms) y.marks.now) (position (bad_move y.states) y.moves.now) refl refl refl
    where
      go : (a b c : Option ℕ) → position bad_mask y.masks.now ≡ a → position (bad_mark y.atoms) y.marks.now ≡ b → position (bad_move y.states) y.moves.now ≡ c →
          Some i ≡ option_or (option_or a b) c → Broken y (fault Entry i)
      go (Some j) b c masks marks moves e = masked i on (masks ∙ sym e)
      go None (Some j) c masks marks moves e = marked i on masks (marks ∙ sym e)
      go None None (Some j) masks marks moves e = moved i on masks marks (moves ∙ sym e)
      go None None None masks marks moves e = absurd (none-some i (sym e))

  none : None ≡ first → (position bad_mask y.masks.now ≡ None) × (position (bad_mark y.atoms) y.marks.now ≡ None) × (position (bad_move y.states) y.moves.now ≡ None)
  none = go (position bad_mask y.masks.now) (position (bad_mark y.atoms) y.marks.now) (position (bad_move y.states) y.moves.now) refl refl refl
    where
      go : (a b c : Option ℕ) → position bad_mask y.masks.now ≡ a → position (bad_mark y.atoms) y.marks.now ≡ b → position (bad_move y.states) y.moves.now ≡ c →
          None ≡ option_or (option_or a b) c → (position bad_mask y.masks.now ≡ None) × (position (bad_mark y.atoms) y.marks.now ≡ None) × (position (bad_move y.states) y.moves.now ≡ None)
      go (Some j) b c masks marks moves e = absurd (none-some j e)
      go None (Some j) c masks marks moves e = absurd (none-some j e)
      go None None (Some j) masks marks moves e = absurd (none-some j e)
      go None None None masks marks moves e = (masks, marks, moves)

none_bad : {X : Type 0} (p : X → Bool) (xs : List X) → position p xs ≡ None → not (list_any p xs) ≡ true
none_bad p xs h = not_from_false (list_any p xs) (sym (some_first p xs) ∙ ap is_some h)

pub first_bad-requires : goal.first_bad-requires
first_bad-requires c = omega (arith, few_atoms c.args.lists.now (sym c.if-not-shaped.ensures))

pub returns-then-not-shaped : goal.returns-then-not-shaped
returns-then-not-shaped c = subst (Broken c.args.lists.now) (sym c.from.ensures) (misshaped (sym c.if-not-shaped.ensures))

pub returns-in-Some : goal.returns-in-Some
returns-in-Some c = entry c.args.lists.now (sym c.if-not-shaped.ensures) c.in-Some.place c.in-Some.ensures

pub returns-then-not-any : goal.returns-then-not-any
returns-then-not-any c =
    let y = c.args.lists.now in
    let on = sym c.if-not-shaped.ensures in
    let starts : c.any.result ≡ list_any begins y.starts.now =
    any_from_yields_List begins _ _ _ c.any.ensures.ran (YieldsList-from_slice y.starts.now cc) (λ x b q k. search (rules, tests)) in
    let (masks, marks, moves) = none y on c.in_default.ensures in
    subst (Broken y) (sym c.from-then-not-any.ensures) (startless on masks marks moves (sym starts ∙ c.if-not-any.true))

pub returns : goal.returns
returns c =
    let y = c.args.lists.now in
    let on = sym c.if-not-shaped.ensures in
    let starts : c.any.result ≡ list_any begins y.starts.now =
    any_from_yields_List begins _ _ _ c.any.ensures.ran (YieldsList-from_slice y.starts.now cc) (λ x b q k. search (rules, tests)) in
    let (masks, marks, moves) = none y on c.in_default.ensures in
    and_from (shaped y) _ on
    (and_from (not (list_any bad_mask y.masks.now)) _ (none_bad bad_mask y.masks.now masks)
    (and_from (not (list_any (bad_mark y.atoms) y.marks.now)) _ (none_bad (bad_mark y.atoms) y.marks.now marks)
    (and_from (not (list_any (bad_move y.states) y.moves.now)) _ (none_bad (bad_move y.states) y.moves.now moves) (sym starts ∙ c.if-not-any.false))))
