use Rattle.std.proofs.Common.{None, ◌≡◌, ℕ, ◌+◌, ◌<◌, true, ◌&&◌, ltb, List, ◌∷◌, ◌++◌, map, length, vec_items, vec_len, sym, ap, ◌∙◌, subst, append-nil, arith, rules}
use Rattle.std.specs.List.{list_all}
use Rattle.procedure.specs.Texts.{agent_text, agent_word, protocol_words, rule_text, rules_words}
use Rattle.procedure.specs.Parts.{judged, protocol_fits, heads}
use Rattle.procedure.specs.Reader.{part}
use Rattle.procedure.specs.declared.stage.Stage.TheVariants as stage
use Rattle.procedure.proofs.Every.{all_push}
use Rattle.procedure.proofs.Says.{protocol_says, mask_right}
use Rattle.procedure.proofs.Taking.{taken_at}
use Rattle.procedure.proofs.reader.Reader.protocol.Goals as goal

pub returns-then-len-self : goal.returns-then-len-self
returns-then-len-self c =
    let r = c.args.self.now in
    let x = c.args.next.word in
    let h = c.requires.ready.0 in
    let ms = vec_items r.masks in
    let ms' = vec_items c.push.new.self in
    let more = c.in_ok-push.ensures.items in
    let g = agent_word (length (map agent_text (vec_items r.agents))) r.locals in
    let P : List ℕ → Type 0 = λ ms. list_all (λ m. ltb 0 m && ltb m 16) ms ≡ true in
    let right : judged (x.a + x.b) (protocol_fits (vec_len r.masks) x) None ≡ None = search rules in
    record {
      right = right;
      says = ap (λ v. (heads (part r) ++ (g ∷ protocol_words 0 ms')) ++ rules_words (map rule_text v)) c.requires.ready.2
          ∙ append-nil (heads (part r) ++ (g ∷ protocol_words 0 ms'))
          ∙ protocol_says (heads (part r)) g ms ms' x (vec_len r.masks) c.requires.kind right r.masks.ok.0 more;
      ready = (
        record {
          numbered = h.numbered;
          sized = h.sized;
          count = h.count;
          draft = record {
            one = h.draft.one;
            few = h.draft.few;
            allows = subst P (sym more) (all_push _ ms x.d h.draft.allows (mask_right x (vec_len r.masks) right));
            lands = h.draft.lands;
          };
          later = h.later;
        },
        search rules,
        c.requires.ready.3,
      );
    }

pub returns-else-len-self : goal.returns-else-len-self
returns-else-len-self c =
    let r = c.args.self.now in
    let x = c.args.next.word in
    let h = c.requires.ready.0 in
    let ms = vec_items r.masks in
    let ms' = vec_items c.push.new.self in
    let more = c.in_ok-push.ensures.items in
    let g = agent_word (length (map agent_text (vec_items r.agents))) r.locals in
    let P : List ℕ → Type 0 = λ ms. list_all (λ m. ltb 0 m && ltb m 16) ms ≡ true in
    let right : judged (x.a + x.b) (protocol_fits (vec_len r.masks) x) None ≡ None = search rules in
    let fewer : vec_len c.push.new.self < r.locals =
    omega (arith, c.in_ok-push.ensures.len, c.len-2.ensures, c.if-len-self.false, c.requires.ready.1) in
    taken_at stage.Protocols _ _ _ _ c.requires.at (record {
      right = right;
      says = protocol_says (heads (part r)) g ms ms' x (vec_len r.masks) c.requires.kind right r.masks.ok.0 more;
      ready = (
        record {
          numbered = h.numbered;
          sized = h.sized;
          count = h.count;
          draft = record {
            one = h.draft.one;
            few = h.draft.few;
            allows = subst P (sym more) (all_push _ ms x.d h.draft.allows (mask_right x (vec_len r.masks) right));
            lands = h.draft.lands;
          };
          later = h.later;
        },
        fewer,
        c.requires.ready.2,
        c.requires.ready.3,
      );
    })
