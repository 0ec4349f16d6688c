use Rattle.std.proofs.Common.{◌≡◌, ℕ, ◌+◌, [], ◌∷◌, ◌++◌, map, vec_items, vec_len, Vec, sym, refl, ap, ◌∙◌}
use Rattle.std.proofs.lemmas.List.{map-append}
use Rattle.std.specs.declared.alloc.Global.{Global}
use Rattle.systems.specs.declared.agent.Agent.{Agent}
use Rattle.systems.specs.declared.line.Rule.{Rule}
use Rattle.procedure.specs.Texts.{AgentText, agent_text, rule_text, system_word}
use Rattle.procedure.specs.Parts.{product}
use Rattle.procedure.proofs.Says.{agent_done}
use Rattle.procedure.proofs.reader.Reader.finish.Goals as goal

pub returns : goal.returns
returns c =
    let r = c.args.self.now in
    let h = c.requires.ready.0 in
    let gs = vec_items r.agents in
    let more = c.in_ok-push.ensures.items in
    let g : AgentText = record { locals = r.locals; masks = vec_items r.masks; rules = map rule_text (vec_items r.rules) } in
    let the : Vec ℕ Global → Vec Rule Global → AgentText = λ ms rs. record { locals = r.locals; masks = vec_items ms; rules = map rule_text (vec_items rs) } in
    let count : vec_len c.push.new.self ≡ vec_len r.agents + 1 = c.in_ok-push.ensures.len in
    let full : map (λ (v : Agent). v.locals) (vec_items c.push.new.self) ≡ map (λ (v : Agent). v.locals) gs ++ (r.locals ∷ []) =
    ap (map (λ (v : Agent). v.locals)) more ∙ map-append (λ (v : Agent). v.locals) gs _ in
    record {
      between = record {
        numbered = h.numbered;
        sized = record { is = h.sized.is ∙ ap product (sym full); small = h.sized.small };
        idle = record {
          masks = ap vec_items c.replace-masks.ensures.after ∙ c.new.ensures.items;
          rules = ap vec_items c.replace-rules.ensures.after ∙ c.new-2.ensures.items;
          tests = c.requires.ready.2;
        };
        later = h.later;
      };
      all = count;
      n = refl;
      states = refl;
      says = agent_done (system_word r.n r.atoms) (map agent_text gs) (map agent_text (vec_items c.push.new.self)) g
          (ap (map agent_text) more ∙ map-append agent_text gs _
          ∙ ap (λ (v : Vec ℕ Global). map agent_text gs ++ (the v c.replace-rules.result ∷ [])) c.replace-masks.ensures.value
          ∙ ap (λ (v : Vec Rule Global). map agent_text gs ++ (the r.masks v ∷ [])) c.replace-rules.ensures.value);
    }
