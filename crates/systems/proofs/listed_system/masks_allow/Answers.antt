use Rattle.std.proofs.Common.{rules, ◌≡◌, ℕ, length, ◌∙◌, arith}
use borrow.Author.Tests.{tests}
use Rattle.std.specs.List.{list_all, zip}
use Rattle.std.proofs.lemmas.Iterator.{YieldsList-from_slice, YieldsList-from_zip}
use Rattle.std.proofs.lemmas.Iterator.Search.{all_from_yields_List}
use Rattle.systems.specs.Fits.{bit}
use Rattle.systems.specs.lemmas.Joints.{zip_all}
use Rattle.systems.proofs.listed_system.masks_allow.Goals as goal

pub returns : goal.returns
returns c =
    let masks = c.args.masks.now in
    let acts = c.args.actions in
    let zipped : c.all.result ≡ list_all (λ (p : ℕ × ℕ). bit p.0 p.1) (zip masks acts) =
    all_from_yields_List (λ (p : ℕ × ℕ). bit p.0 p.1) c.all.new.self _ _ c.all.ensures.ran (YieldsList-from_zip (YieldsList-from_slice masks cc) (YieldsList-from_slice acts cc)) (λ x b q k. search (rules, tests)) in
    let long : length acts ≡ 6 = search rules in
    zipped ∙ zip_all bit masks acts 0 0 (omega (arith, c.requires))
