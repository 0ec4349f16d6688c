use Rattle.std.proofs.Common.{◌≡◌, ◌<◌, length, get_or, vec_items, sym, ap, ◌∙◌, ap₂, refl, arith}
use Rattle.std.proofs.lemmas.List.{get_or_push, length_push}
use Rattle.law.specs.Refusals.{no_board}
use Rattle.cases.specs.Shows.{model}
use Rattle.rehearsal.proofs.Serving.{end_made, end_never}
use Rattle.rehearsal.proofs.desk.Desk.end_last.Goals as goal

pub invariant_of-self-2 : goal.invariant_of-self-2
invariant_of-self-2 g c =
    let me = c.args.self.now in
    let b = c.end.ensures in
    let ts = vec_items me.plays in
    let rest = vec_items c.pop.new.self in
    let i = length rest in
    let popped = c.in-Some.ensures in
    let less : i < length ts = omega (arith, ap length popped.items, length_push rest c.in-Some.play) in
    let last : c.in-Some.play ≡ get_or ts i c.in-Some.play = sym (ap (λ l. get_or l i c.in-Some.play) popped.items ∙ get_or_push rest c.in-Some.play c.in-Some.play i refl) in
    let fewer = end_made (g.S.System.means me.case.system) me.case.out (model g.B.Board.shows me.case) _ ts (me.counted ∙ me.plays.ok.0) b.shows i c.in-Some.play less last _ (me.fit (omega (arith, me.plays.ok.0, less))) c.end.result b.steps in
    record {
      counted = omega (arith, fewer, me.counted, me.plays.ok.0, c.pop.new.self.ok.0, ap length popped.items, length_push rest c.in-Some.play);
      room = omega (arith, me.room, popped.capacity);
      fit = λ some. ap₂ (λ s m. no_board (g.S.System.means s) m) b.same b.shows ∙ me.fit (omega (arith, me.plays.ok.0, less));
    }

pub unreachable-requires : goal.unreachable-requires
unreachable-requires g c =
    let me = c.args.self.now in
    let b = c.end.ensures in
    let ts = vec_items me.plays in
    let rest = vec_items c.pop.new.self in
    let i = length rest in
    let popped = c.in-Some.ensures in
    let less : i < length ts = omega (arith, ap length popped.items, length_push rest c.in-Some.play) in
    let last : c.in-Some.play ≡ get_or ts i c.in-Some.play = sym (ap (λ l. get_or l i c.in-Some.play) popped.items ∙ get_or_push rest c.in-Some.play c.in-Some.play i refl) in
    end_never (g.S.System.means me.case.system) me.case.out (model g.B.Board.shows me.case) _ ts (me.counted ∙ me.plays.ok.0) b.shows i c.in-Some.play less last _ (me.fit (omega (arith, me.plays.ok.0, less))) c.end.result c.in-Err.field-0 c.in-Err.is b.steps
