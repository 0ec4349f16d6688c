use Rattle.std.proofs.Common.{◌≡◌, ◌+◌, ◌*◌, ◌<◌, None, map, length, vec_items, vec_len, sym, ap, ◌∙◌, arith, rules}
use lib.ListN.{length-map}
use Rattle.procedure.specs.Texts.{agent_text}
use Rattle.procedure.specs.Parts.{judged, agent_fits, crowded, heads}
use Rattle.procedure.specs.Reader.{part, full_sizes}
use Rattle.procedure.proofs.Every.{product_push, all_none}
use Rattle.procedure.proofs.Says.{agent_says}
use Rattle.procedure.proofs.reader.Reader.agent.Goals as goal

pub returns : goal.returns
returns c =
    let r = c.args.self.now in
    let x = c.args.next.word in
    let b = c.requires.between in
    let right : judged (x.a + x.d) (agent_fits (vec_len r.agents) x) (crowded r.states x) ≡ None = search rules in
    let one : 0 < x.c = search rules in
    let empty : vec_len r.masks ≡ 0 = r.masks.ok.0 ∙ ap length b.idle.masks in
    let none : vec_len r.masks < x.c = omega arith in
    let number : vec_len r.agents ≡ length (map agent_text (vec_items r.agents)) = r.agents.ok.0 ∙ sym (length-map (vec_items r.agents) agent_text) in
    record {
      right = right;
      says = agent_says (heads (part r)) _ (vec_items r.masks) x (vec_len r.agents) r.states c.requires.kind right number b.idle.masks;
      ready = (
        record {
          numbered = b.numbered;
          sized = record {
            is = ap (λ v. v * x.c) b.sized.is ∙ sym (product_push (full_sizes r) x.c);
            small = search rules;
          };
          count = omega (arith, c.requires.more);
          draft = record { one = search rules; few = search rules; allows = all_none _ _ b.idle.masks; lands = all_none _ _ b.idle.rules };
          later = b.later;
        },
        none,
        b.idle.rules,
        b.idle.tests,
      );
    }
