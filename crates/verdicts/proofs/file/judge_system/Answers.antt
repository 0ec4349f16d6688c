use Rattle.std.proofs.Common.{◌≡◌, ℕ, ◌≤◌, ap, ◌∙◌, subst₂}
use Rattle.std.proofs.lemmas.Bool.{le-leb, and_from, cond-true}
use Rattle.game.specs.Meaning.{Meaning}
use Rattle.boards.specs.Meaning.{Rows, blank, fresh}
use Rattle.verdicts.specs.Judging.{Judges}
use Rattle.verdicts.proofs.file.judge_system.Goals as goal

sixty_four : (n : ℕ) → 1 ≤ n → n ≤ 1024 → fresh n ≡ blank n 64
sixty_four n some few = ap (blank n) (cond-true _ 64 0 (and_from _ _ (le-leb _ _ some) (le-leb _ _ few)))

pub returns : goal.returns
returns g c =
    let law = g.S.System.lawful c.args.system.now in
    let same = c.in_ok-table.ensures in
    let size = c.states.ensures ∙ ap (λ (M : Meaning). M.states) same in
    let shows = c.in_ok-board.ensures ∙ ap fresh size ∙ sixty_four _ law.some_state law.few_states in
    subst₂ (λ (M : Meaning) (b : Rows). Judges M b c.args.words.now c.judge.result) same shows c.judge.ensures
