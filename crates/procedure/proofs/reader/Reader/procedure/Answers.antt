use Rattle.std.proofs.Common.{vec_items, sym, ◌∙◌, arith}
use Rattle.procedure.proofs.Every.{product_agents}
use Rattle.procedure.proofs.reader.Reader.procedure.Goals as goal

pub invariant_of-system : goal.invariant_of-system
invariant_of-system c =
    let r = c.args.self in
    let h = c.requires.0 in
    record {
      some = omega (arith, h.all, h.numbered.some);
      few = omega (arith, h.all, h.numbered.few);
      counted = product_agents (vec_items r.agents) ∙ sym h.sized.is;
      small = h.sized.small;
      named = h.numbered.named;
      begins = c.requires.1;
      known = h.known;
    }
