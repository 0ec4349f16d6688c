use Rattle.std.proofs.Common.{◌<◌, [], ◌∷◌, ◌++◌, map, length, vec_items, vec_len, Vec, sym, refl, ap, ◌∙◌, append_assoc, arith}
use Rattle.std.proofs.lemmas.List.{map-append}
use Rattle.std.specs.declared.alloc.Global.{Global}
use Rattle.systems.specs.declared.line.LocalState.{LocalState}
use Rattle.systems.specs.declared.line.Label.{Label}
use Rattle.procedure.specs.Texts.{label_text, labels_words, label_word, local_word}
use Rattle.procedure.specs.Parts.{begun}
use Rattle.procedure.specs.Reader.{part}
use Rattle.procedure.proofs.Says.{labels_push}
use Rattle.procedure.proofs.reader.Reader.close_label.Goals as goal

pub returns : goal.returns
returns c =
    let r = c.args.self.now in
    let h = c.requires.complete in
    let ls = vec_items r.labels in
    let x : Label = record { atom = r.line; conditions = c.replace-conditions.result } in
    let more = c.in_ok-push.ensures.items in
    let line = label_word (vec_len r.wants) r.line ∷ map local_word (vec_items r.wants) in
    let some : 0 < vec_len c.push.new.self = omega (arith, c.in_ok-push.ensures.len) in
    record {
      at = refl;
      ready = (
        record { numbered = h.numbered; sized = h.sized; all = h.all; known = h.known; aims = h.aims },
        c.requires.begins,
        some,
        c.requires.goals,
        ap vec_items c.replace-conditions.ensures.after ∙ c.new.ensures.items,
      );
      says =
          ap (λ v. begun (part r) ++ v)
          (ap (λ v. labels_words (map label_text v)) more ∙ ap labels_words (map-append label_text ls (x ∷ [])) ∙ labels_push (map label_text ls) (label_text x)
          ∙ ap (λ (v : Vec LocalState Global). labels_words (map label_text ls) ++ (label_word (length (vec_items v)) r.line ∷ map local_word (vec_items v))) c.replace-conditions.ensures.value
          ∙ ap (λ v. labels_words (map label_text ls) ++ (label_word v r.line ∷ map local_word (vec_items r.wants))) (sym r.wants.ok.0))
          ∙ sym (append_assoc (begun (part r)) (labels_words (map label_text ls)) line);
    }
