use Rattle.std.proofs.Common.{rules, ◌≡◌, ◌+◌, ◌<◌, ◌^◌, [], length, inl, sym, ap, ◌∙◌, subst, append-nil, arith}
use Rattle.std.proofs.lemmas.Result.{err_from_is_err_and}
use Rattle.game.specs.declared.fault.Reason.TheVariants as reason
use Rattle.procedure.specs.Faults.{Faulty, fault_at}
use Rattle.procedure.specs.Words.{words}
use Rattle.procedure.proofs.Cut.{words_count}
use Rattle.procedure.proofs.Going.{Going, going_fresh, going_turn, going_more, going_refused, going_missing}
use Rattle.procedure.proofs.reading.read_words.Goals as goal

pub loop-place-init : goal.loop-place-init
loop-place-init c =
    let bs = c.args.bytes.now in
    let it = c.into_iter-place-iterator.result in
    let left : words it.iter.0.now ≡ words bs = cc in
    let none : it.count ≡ 0 = cc in
    let bound : length bs < 2 ^ 64 = search rules in
    let few : it.count + length (words it.iter.0.now) < 2 ^ 64 = omega (arith, none, ap length left, words_count bs, bound) in (
      (tt, tt, inl few),
      tt,
      subst (λ v. Going (words bs) v it.count c.fresh-reader.result) (sym left)
          (subst (λ n. Going (words bs) (words bs) n c.fresh-reader.result) (sym none) (going_fresh (words bs) c.fresh-reader.result c.fresh-reader.ensures.at c.fresh-reader.ensures.ready)),
    )

pub loop-place-preserved : goal.loop-place-preserved
loop-place-preserved c =
    let ws = words c.args.bytes.now in
    let left = words c.next.new.self.iter.0.now in
    let r = c.loop-place.reader in
    let g = going_turn ws _ left _ c.in-Some.place c.in-Some.word r c.loop-place.invariant.2 c.in-Some.ensures.steps.0 c.in-Some.ensures.steps.1 in
    let next : c.in-Some.place + 1 ≡ c.next.new.self.count = omega (arith, c.in-Some.ensures.steps.1, c.in-Some.ensures.steps.2) in (
      search rules,
      tt,
      subst (λ n. Going ws left n c.step.new.self) next (going_more ws left c.in-Some.place c.in-Some.word r c.step.new.self g c.in_ok-step.ensures),
    )

pub returns-in_err-step : goal.returns-in_err-step
returns-in_err-step c =
    let p = err_from_is_err_and c.from_residual.result c.from_residual.ensures.1 in
    let ws = words c.args.bytes.now in
    let left = words c.next.new.self.iter.0.now in
    let r = c.loop-place.reader in
    let g = going_turn ws _ left _ c.in-Some.place c.in-Some.word r c.loop-place.invariant.2 c.in-Some.ensures.steps.0 c.in-Some.ensures.steps.1 in
    rw (p.1, p.2) (going_refused ws left c.in-Some.place c.in-Some.word r c.step.new.self c.in_err-step.field-0.0 g c.in_err-step.ensures)

pub returns-in_default : goal.returns-in_default
returns-in_default c =
    let ws = words c.args.bytes.now in
    let n = c.loop-place.place-iterator.count in
    let r = c.loop-place.reader in
    let g : Going ws [] n r = subst (λ v. Going ws v n r) c.in-None.ensures.steps.0.0 c.loop-place.invariant.2 in
    subst (λ n. Faulty ws (fault_at n reason.Kind)) (g.counted ∙ sym (ap length (g.is ∙ append-nil _)) ∙ words_count c.args.bytes.now) (going_missing ws n r g c.in_default.not-Done)
