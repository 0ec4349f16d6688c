-- What stands after every list of calls. Assumes nothing.
use Rattle.std.proofs.Common.{◌≡◌, ℕ, suc, ◌+◌, ◌≤◌, true, ◌↔◌, [], Some, sym, refl, ◌∙◌, subst, subst₂, arith}
use Rattle.std.proofs.ByRecursion.{All-weaker}
use Rattle.game.specs.Meaning.{Meaning, Lawful}
use Rattle.game.specs.Objectives.{Objective, until}
use Rattle.game.specs.Plays.{MetBy, FailedBy}
use Rattle.game.specs.Sheets.{IsSheet}
use Rattle.game.proofs.Strategy.{strategy_theorem, granted_where_ensured}
use Rattle.boards.specs.Meaning.{Rows, Sound}
use Rattle.game.specs.declared.goal.Goal.TheVariants.{Until as UNTIL}
use Rattle.game.specs.Goals.{group_of}
use Rattle.game.specs.Formulas.{Aims, of_until}
use Rattle.law.specs.Worlds.{Plan, Model, Play, World, opened, goal_at, aim, met_by, met, with_replies}
use Rattle.law.specs.Laws.{Played, InPlay, Along, Meeting, Promise, Law}
use Rattle.game.proofs.Spelling.{decided, spelled, aims_group}
use Rattle.law.proofs.Kept.{Fit, Kept, aim_is, row_plan, set_of}
use Rattle.law.proofs.Calls.{run_kept}
use Rattle.law.proofs.Telling.{run_told}
use Rattle.law.proofs.Speaking.{spoken, refused_so, refused_layer}
use Rattle.law.proofs.Journeys.{aims_unique, meets, nearer}

pub opened_kept : (M : Meaning) (b : Rows) → Sound b → Kept M (opened b)
opened_kept M b sound = record {
  fit = record {
    within = omega arith;
    room = omega arith;
    ordered = λ f hf. absurd (omega arith);
    right = λ f hf. absurd (omega arith);
    past = λ f hf. absurd (omega arith);
    sheet = λ p e. let z : ◌≡◌ {A = ℕ} 0 1 = cc in absurd (omega arith);
    sound = sound;
  };
  plays = tt;
  few = omega arith;
}

module _ (M : Meaning) (law : Lawful M) (m : Model) (fit : Fit M m) (q : Play) (p : Plan) (e : m.plan ≡ Some p) (pl : Played M (group_of (aim m)) p (met_by m.rows (aim m)) q) where
  told_of : (g : ℕ) (φ : Objective) → Aims m.rows.marked (aim m) g φ → (π : ℕ → ℕ) → Along M π q.start q.told → (met m q ≡ true ↔ MetBy φ π q.steps) × ¬ FailedBy φ π q.steps
  told_of g φ aims π a =
      let h = row_plan M m fit p e in
      let there = subst (λ ψ. Aims m.rows.marked ψ g φ) (aim_is m p e) aims in
      let u = aims_unique m.rows.marked (goal_at m p.goal) h.group h.goal g φ h.aims there in
      let sheet = subst₂ (λ x y. IsSheet M x y (m.rows.marked p.goal) (with_replies p h.sheet.0)) u.0 u.1 h.sheet.1 in
      let set = set_of M m fit p.goal h.settled g φ there in
      let gr : group_of (aim m) ≡ g = aims_group m.rows.marked (aim m) g φ aims in
      let pl' = subst (λ x. Played M x p (met_by m.rows (aim m)) q) gr pl in
      meets M law m.rows g p (m.rows.marked p.goal) h.sheet.0 (λ s _. h.granted s) (aim m) φ aims sheet set q pl' π a

  in_time : (g c d : ℕ) → aim m ≡ UNTIL g c d → q.steps + p.rank q.state ≤ p.rank q.start
  in_time g c d is =
      let h = row_plan M m fit p e in
      let there : Aims m.rows.marked (goal_at m p.goal) g (until (m.rows.marked c) (m.rows.marked d)) =
      subst (λ ψ. Aims m.rows.marked ψ g (until (m.rows.marked c) (m.rows.marked d))) (sym is ∙ aim_is m p e) (of_until g c d) in
      let u = aims_unique m.rows.marked (goal_at m p.goal) h.group h.goal g _ h.aims there in
      let sheet = subst₂ (λ x y. IsSheet M x y (m.rows.marked p.goal) (with_replies p h.sheet.0)) u.0 u.1 h.sheet.1 in
      let pl' = subst (λ ψ. Played M (group_of ψ) p (met_by m.rows ψ) q) is pl in
      let near = nearer M law m.rows g p (m.rows.marked p.goal) h.sheet.0 (λ s _. h.granted s) c d sheet q.start pl.begins.0 q.told pl'.followed in
      subst₂ (λ s n. n + p.rank s ≤ p.rank q.start) (sym pl.stands.1) (sym pl.counts) near

meeting : (M : Meaning) → Lawful M → (m : Model) → Fit M m → (q : Play) → InPlay M m q → Meeting M m q
meeting M law m fit q (p, e, pl) = record {
  met_is = λ g φ aims π a. (told_of M law m fit q p e pl g φ aims π a).0;
  not_failed = λ g φ aims π a. (told_of M law m fit q p e pl g φ aims π a).1;
  in_time = λ p' e' g c d is. let same : p ≡ p' = cc in subst (λ (x : Plan). q.steps + x.rank q.state ≤ x.rank q.start) same (in_time M law m fit q p e pl g c d is);
}

promised : (M : Meaning) → Lawful M → (w : World) → Kept M w → Promise M w
promised M law w k =
    let m = w.model in
    let fit = k.fit in
    record {
      spelled = λ f hf. spelled m.goals fit.ordered f hf;
      decides = λ f hf s hs. decided M law m.rows.marked m.goals m.settled (λ c hc. fit.ordered c (omega (arith, fit.within))) fit.right (suc f) f (omega arith) hf s hs;
      ensures = λ f hf g φ aims s hs.
          let set = set_of M m fit f hf g φ aims in
          let both = granted_where_ensured M law g φ s hs in
          ((λ x. both.0 ((set.decides s hs).0 x), λ x. (set.decides s hs).1 (both.1 x)), λ S sheet. strategy_theorem M law g φ (m.rows.marked f) set S sheet s hs);
      sheet = fit.sheet;
      plays = k.plays;
      meetings = All-weaker (InPlay M m) (Meeting M m) (meeting M law m fit) w.plays k.plays;
      few = k.few;
      counted = (fit.within, fit.room);
      sound = fit.sound;
    }

pub law_stands : Law
law_stands M law b sound cs rs w run =
    let k = run_kept M law (opened b) cs rs w run (opened_kept M b sound) in
    record {
      promise = promised M law w k;
      as_told = run_told M (opened b) cs rs w run [] refl;
      speaks = λ c r w' step. spoken M law w w' k (promised M law w k) c r step;
      refuses = λ c r w' step. refused_so M w c r w' step;
      of_case = λ c r w' step. refused_layer M w c r w' step;
    }
