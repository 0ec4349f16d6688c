-- What words say, read from the last to the first.
use Rattle.std.proofs.Common.{◌≡◌, ℕ, suc, ◌+◌, ◌*◌, ◌/◌, ◌%◌, cond, eqb, Option, Some, None, List, [], ◌∷◌, ◌++◌, map, length, sym, refl, ap, ◌∙◌, arith}
use Rattle.std.proofs.lemmas.Bool.{and_parts, eqb-true}
use Rattle.game.specs.declared.goal.Word.{Word}
use Rattle.std.specs.List.{list_all}
use Rattle.systems.specs.declared.line.Condition.{Condition}
use Rattle.systems.specs.declared.line.Condition.TheVariants.{Own, First, Action}
use Rattle.systems.specs.declared.line.LocalState.{LocalState}
use Rattle.procedure.specs.Kinds.{kind_of}
use Rattle.procedure.specs.Texts.{RuleText, LabelText, AgentText, Description, condition_word, local_word, rules_words, labels_words, protocol_words, agents_words, start_word, starts_words, body, written}
use Rattle.procedure.specs.Parts.{Aims}
use Rattle.procedure.specs.Laws.{OneReading}
use Rattle.procedure.specs.declared.kind.Kind.{Kind}
use Rattle.procedure.specs.declared.kind.Kind.TheVariants as kind

-- The conditions, masks and rule lines whose line or agent comes before them, and the description so far.
record Scan : Type 0 where
  conditions : List Word
  masks : List ℕ
  rules : List RuleText
  agents : List AgentText
  starts : List ℕ
  labels : List LabelText
  goals : List Word
  atoms : ℕ

abbrev make : List Word → List ℕ → List RuleText → List AgentText → List ℕ → List LabelText → List Word → ℕ → Scan
make cs ms rs gs ss ls fs a = record { conditions = cs; masks = ms; rules = rs; agents = gs; starts = ss; labels = ls; goals = fs; atoms = a }

abbrev condition_of : Word → Condition
condition_of x = cond (eqb x.a 0) (Own x.d) (cond (eqb x.a 1) (First x.d) (Action x.b x.d))

abbrev local_of : Word → LocalState
local_of x = record { agent = x.b; value = x.d }

abbrev put : Kind → Word → Scan → Scan
put kind.System x s = make s.conditions s.masks s.rules s.agents s.starts s.labels s.goals x.c
put kind.Agent x s = make s.conditions [] [] (record { locals = x.c; masks = s.masks; rules = s.rules } ∷ s.agents) s.starts s.labels s.goals s.atoms
put kind.Protocol x s = make s.conditions (x.d ∷ s.masks) s.rules s.agents s.starts s.labels s.goals s.atoms
put kind.Rule x s = make [] s.masks (record { next = x.d; conditions = map condition_of s.conditions } ∷ s.rules) s.agents s.starts s.labels s.goals s.atoms
put kind.Condition x s = make (x ∷ s.conditions) s.masks s.rules s.agents s.starts s.labels s.goals s.atoms
put kind.Start x s = make s.conditions s.masks s.rules s.agents ((x.c * 256 + x.d) ∷ s.starts) s.labels s.goals s.atoms
put kind.Label x s = make [] s.masks s.rules s.agents s.starts (record { atom = x.d; conditions = map local_of s.conditions } ∷ s.labels) s.goals s.atoms
put kind.Goal x s = make s.conditions s.masks s.rules s.agents s.starts s.labels (x ∷ s.goals) s.atoms
put kind.End x s = s

abbrev put_if : Option Kind → Word → Scan → Scan
put_if None x s = s
put_if (Some v) x s = put v x s

abbrev onto : List Word → Scan → Scan
onto [] s = s
onto (x ∷ ws) s = put_if (kind_of x.kind) x (onto ws s)

onto_append : (ws vs : List Word) (s : Scan) → onto (ws ++ vs) s ≡ onto ws (onto vs s)
onto_append [] vs s = refl
onto_append (x ∷ ws) vs s = ap (put_if (kind_of x.kind) x) (onto_append ws vs s)

conditions_back : (cs : List Condition) → map condition_of (map condition_word cs) ≡ cs
conditions_back [] = refl
conditions_back (Own v ∷ cs) = ap (λ v'. Own v ∷ v') (conditions_back cs)
conditions_back (First v ∷ cs) = ap (λ v'. First v ∷ v') (conditions_back cs)
conditions_back (Action i v ∷ cs) = ap (λ v'. Action i v ∷ v') (conditions_back cs)

locals_back : (ts : List LocalState) → map local_of (map local_word ts) ≡ ts
locals_back [] = refl
locals_back (t ∷ ts) = ap (λ v. t ∷ v) (locals_back ts)

module _ (ms : List ℕ) (rs : List RuleText) (gs : List AgentText) (ss : List ℕ) (ls : List LabelText) (fs : List Word) (a : ℕ) where
  tests_scan : (cs : List Condition) → onto (map condition_word cs) (make [] ms rs gs ss ls fs a) ≡ make (map condition_word cs) ms rs gs ss ls fs a
  tests_scan [] = refl
  tests_scan (Own v ∷ cs) = ap (put kind.Condition (condition_word (Own v))) (tests_scan cs)
  tests_scan (First v ∷ cs) = ap (put kind.Condition (condition_word (First v))) (tests_scan cs)
  tests_scan (Action i v ∷ cs) = ap (put kind.Condition (condition_word (Action i v))) (tests_scan cs)

  wants_scan : (ts : List LocalState) → onto (map local_word ts) (make [] ms rs gs ss ls fs a) ≡ make (map local_word ts) ms rs gs ss ls fs a
  wants_scan [] = refl
  wants_scan (t ∷ ts) = ap (put kind.Condition (local_word t)) (wants_scan ts)

  goals_scan : (xs : List Word) → Aims xs → onto xs (make [] ms rs gs ss ls [] a) ≡ make [] ms rs gs ss ls xs a
  goals_scan [] aims = refl
  goals_scan (x ∷ xs) aims =
      let p = and_parts (eqb x.kind 8) (list_all (λ v. eqb v.kind 8) xs) aims in
      ap (λ v. put_if (kind_of v) x (onto xs (make [] ms rs gs ss ls [] a))) (eqb-true x.kind 8 p.0) ∙ ap (put kind.Goal x) (goals_scan xs p.1)

  starts_scan : (xs : List ℕ) → onto (starts_words xs) (make [] ms rs gs [] ls fs a) ≡ make [] ms rs gs xs ls fs a
  starts_scan [] = refl
  starts_scan (x ∷ xs) =
      let is : x / 256 * 256 + x % 256 ≡ x = omega arith in
      ap (put kind.Start (start_word x)) (starts_scan xs) ∙ ap (λ v. make [] ms rs gs (v ∷ xs) ls fs a) is

  masks_scan : (i : ℕ) (xs : List ℕ) → onto (protocol_words i xs) (make [] [] rs gs ss ls fs a) ≡ make [] xs rs gs ss ls fs a
  masks_scan i [] = refl
  masks_scan i (x ∷ xs) = ap (λ s. put kind.Protocol (record { kind = 3; a = 0; b = 0; c = i; d = x }) s) (masks_scan (suc i) xs)

labels_scan : (ms : List ℕ) (rs : List RuleText) (gs : List AgentText) (ss : List ℕ) (fs : List Word) (a : ℕ) (xs : List LabelText) →
    onto (labels_words xs) (make [] ms rs gs ss [] fs a) ≡ make [] ms rs gs ss xs fs a
labels_scan ms rs gs ss fs a [] = refl
labels_scan ms rs gs ss fs a (x ∷ xs) =
    let cs = map local_word x.conditions in
    let word : Word = record { kind = 7; a = length x.conditions; b = 0; c = 0; d = x.atom } in
    ap (put kind.Label word)
    (onto_append cs (labels_words xs) (make [] ms rs gs ss [] fs a) ∙ ap (onto cs) (labels_scan ms rs gs ss fs a xs) ∙ wants_scan ms rs gs ss xs fs a x.conditions)
    ∙ ap (λ v. make [] ms rs gs ss (record { atom = x.atom; conditions = v } ∷ xs) fs a) (locals_back x.conditions)

rules_scan : (ms : List ℕ) (gs : List AgentText) (ss : List ℕ) (ls : List LabelText) (fs : List Word) (a : ℕ) (xs : List RuleText) →
    onto (rules_words xs) (make [] ms [] gs ss ls fs a) ≡ make [] ms xs gs ss ls fs a
rules_scan ms gs ss ls fs a [] = refl
rules_scan ms gs ss ls fs a (x ∷ xs) =
    let cs = map condition_word x.conditions in
    let word : Word = record { kind = 4; a = length x.conditions; b = 0; c = 0; d = x.next } in
    ap (put kind.Rule word)
    (onto_append cs (rules_words xs) (make [] ms [] gs ss ls fs a) ∙ ap (onto cs) (rules_scan ms gs ss ls fs a xs) ∙ tests_scan ms xs gs ss ls fs a x.conditions)
    ∙ ap (λ v. make [] ms (record { next = x.next; conditions = v } ∷ xs) gs ss ls fs a) (conditions_back x.conditions)

agents_scan : (i : ℕ) (ss : List ℕ) (ls : List LabelText) (fs : List Word) (a : ℕ) (xs : List AgentText) →
    onto (agents_words i xs) (make [] [] [] [] ss ls fs a) ≡ make [] [] [] xs ss ls fs a
agents_scan i ss ls fs a [] = refl
agents_scan i ss ls fs a (x ∷ xs) =
    let ms = protocol_words 0 x.masks in
    let rs = rules_words x.rules in
    let gs = agents_words (suc i) xs in
    let none = make [] [] [] [] ss ls fs a in
    let word : Word = record { kind = 2; a = 0; b = i; c = x.locals; d = 0 } in
    ap (put kind.Agent word)
    (onto_append ms (rs ++ gs) none
    ∙ ap (onto ms) (onto_append rs gs none ∙ ap (onto rs) (agents_scan (suc i) ss ls fs a xs) ∙ rules_scan [] xs ss ls fs a x.rules)
    ∙ masks_scan [] x.rules xs ss ls fs a 0 x.masks)

abbrev blank : Scan
blank = make [] [] [] [] [] [] [] 0

scan_written : (d : Description) → Aims d.goals → onto (written d) blank ≡ make [] [] [] d.agents d.starts d.labels d.goals d.atoms
scan_written d aims =
    let gs = agents_words 0 d.agents in
    let ss = starts_words d.starts in
    let ls = labels_words d.labels in
    let fs = d.goals in
    let n = length d.agents in
    let word : Word = record { kind = 1; a = 0; b = n; c = d.atoms; d = 1 } in
    let end : Word = record { kind = 9; a = 0; b = 0; c = length (body n d) / 256; d = length (body n d) % 256 } in
    onto_append (body n d) (end ∷ []) blank
    ∙ ap (put kind.System word)
    (onto_append gs (ss ++ (ls ++ fs)) blank
    ∙ ap (onto gs)
    (onto_append ss (ls ++ fs) blank
    ∙ ap (onto ss)
    (onto_append ls fs blank ∙ ap (onto ls) (goals_scan [] [] [] [] [] [] 0 fs aims) ∙ labels_scan [] [] [] [] fs 0 d.labels)
    ∙ starts_scan [] [] [] [] d.labels fs 0 d.starts)
    ∙ agents_scan 0 d.starts d.labels fs 0 d.agents)

abbrev description : Scan → Description
description s = record { agents = s.agents; atoms = s.atoms; starts = s.starts; labels = s.labels; goals = s.goals }

pub one_reading : OneReading
one_reading d d' aims aims' same =
    sym (ap description (scan_written d aims)) ∙ ap (λ ws. description (onto ws blank)) same ∙ ap description (scan_written d' aims')
