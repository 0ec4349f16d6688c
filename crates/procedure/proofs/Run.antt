-- What words fix for the next one, gone through from the first to the last.
use Rattle.std.proofs.Common.{◌≡◌, ℕ, zero, suc, pred, ◌+◌, ◌/◌, ◌%◌, ◌<◌, true, cond, eqb, Option, Some, None, List, [], ◌∷◌, ◌++◌, map, length, sym, refl, ap, ◌∙◌, subst, append_assoc, append-nil, add-zero, add-suc, suc-add, zero-add, arith}
use Rattle.std.proofs.lemmas.Bool.{and_parts, eqb-true, eq-eqb, ne_eqb}
use Rattle.game.specs.declared.goal.Word.{Word}
use Rattle.std.specs.List.{list_all}
use Rattle.systems.specs.declared.line.Condition.{Condition}
use Rattle.systems.specs.declared.line.Condition.TheVariants.{Own, First, Action}
use Rattle.systems.specs.declared.line.LocalState.{LocalState}
use Rattle.procedure.specs.Words.{w}
use Rattle.procedure.specs.Kinds.{kind_of}
use Rattle.procedure.specs.Texts.{RuleText, LabelText, AgentText, condition_word, local_word, rule_word, rules_words, label_word, labels_words, protocol_words, agent_word, agents_words, start_word, starts_words}
use Rattle.procedure.specs.Parts.{Part, Aims, told, heads, begun, labelled, aimed}
use Rattle.procedure.specs.declared.kind.Kind.{Kind}
use Rattle.procedure.specs.declared.kind.Kind.TheVariants as kind
use Rattle.procedure.specs.declared.stage.Stage.{Stage}
use Rattle.procedure.specs.declared.stage.Stage.TheVariants as stage

pub record Fixed : Type 0 where
  pub stage : Stage
  pub n : ℕ
  pub atoms : ℕ
  pub sizes : List ℕ
  pub locals : ℕ
  pub masks : ℕ
  pub left : ℕ

abbrev pub fix : Stage → ℕ → ℕ → List ℕ → ℕ → ℕ → ℕ → Fixed
fix s n a z l m k = record { stage = s; n = n; atoms = a; sizes = z; locals = l; masks = m; left = k }

abbrev opened : ℕ → ℕ → Stage
opened masks locals = cond (eqb masks locals) stage.Rules stage.Protocols

abbrev pub in_rule : ℕ → Stage
in_rule zero = stage.Rules
in_rule (suc k) = stage.RuleLine

abbrev pub in_label : ℕ → Stage
in_label zero = stage.Labels
in_label (suc k) = stage.LabelLine

abbrev in_line : Stage → ℕ → Stage
in_line stage.Begin k = stage.Begin
in_line stage.Agents k = stage.Agents
in_line stage.Protocols k = stage.Protocols
in_line stage.Rules k = stage.Rules
in_line stage.RuleLine k = in_rule k
in_line stage.Starts k = stage.Starts
in_line stage.Labels k = stage.Labels
in_line stage.LabelLine k = in_label k
in_line stage.Goals k = stage.Goals
in_line stage.Done k = stage.Done

abbrev after : Kind → Word → Fixed → Fixed
after kind.System x s = fix stage.Agents x.b x.c [] 0 0 0
after kind.Agent x s = fix (opened 0 x.c) s.n s.atoms (s.sizes ++ (x.c ∷ [])) x.c 0 0
after kind.Protocol x s = fix (opened (suc s.masks) s.locals) s.n s.atoms s.sizes s.locals (suc s.masks) 0
after kind.Rule x s = fix (in_rule x.a) s.n s.atoms s.sizes s.locals s.masks x.a
after kind.Condition x s = fix (in_line s.stage (pred s.left)) s.n s.atoms s.sizes s.locals s.masks (pred s.left)
after kind.Start x s = fix stage.Starts s.n s.atoms s.sizes 0 0 0
after kind.Label x s = fix (in_label x.a) s.n s.atoms s.sizes 0 0 x.a
after kind.Goal x s = fix stage.Goals s.n s.atoms s.sizes 0 0 0
after kind.End x s = fix stage.Done s.n s.atoms s.sizes 0 0 0

abbrev after_if : Option Kind → Word → Fixed → Fixed
after_if None x s = s
after_if (Some v) x s = after v x s

abbrev pub run : List Word → Fixed → Fixed
run [] s = s
run (x ∷ ws) s = run ws (after_if (kind_of x.kind) x s)

pub run_append : (ws vs : List Word) (s : Fixed) → run (ws ++ vs) s ≡ run vs (run ws s)
run_append [] vs s = refl
run_append (x ∷ ws) vs s = run_append ws vs (after_if (kind_of x.kind) x s)

-- The numbers of the system word, and the sizes of the agents.
record Numbers (n a : ℕ) (z : List ℕ) (s : Fixed) : Type 0 where
  n_is : s.n ≡ n
  atoms_is : s.atoms ≡ a
  sizes_is : s.sizes ≡ z

module _ (n a : ℕ) (z : List ℕ) where
  same_numbers : (s t : Fixed) → Numbers n a z s → t.n ≡ s.n → t.atoms ≡ s.atoms → t.sizes ≡ s.sizes → Numbers n a z t
  same_numbers s t h e f g = record { n_is = e ∙ h.n_is; atoms_is = f ∙ h.atoms_is; sizes_is = g ∙ h.sizes_is }

  -- A state by its numbers.
  by_numbers : (st : Stage) (l m k : ℕ) (s : Fixed) → Numbers n a z s → fix st s.n s.atoms s.sizes l m k ≡ fix st n a z l m k
  by_numbers st l m k s h =
      ap (λ v. fix st v s.atoms s.sizes l m k) h.n_is ∙ ap (λ v. fix st n v s.sizes l m k) h.atoms_is ∙ ap (λ v. fix st n a v l m k) h.sizes_is

  masks_numbers : (i : ℕ) (ms : List ℕ) (s : Fixed) → Numbers n a z s → Numbers n a z (run (protocol_words i ms) s)
  masks_numbers i [] s h = h
  masks_numbers i (m ∷ ms) s h = masks_numbers (suc i) ms (after kind.Protocol (w 3 0 0 i m) s) (record { n_is = h.n_is; atoms_is = h.atoms_is; sizes_is = h.sizes_is })

  tests_numbers : (cs : List Condition) (s : Fixed) → Numbers n a z s → Numbers n a z (run (map condition_word cs) s)
  tests_numbers [] s h = h
  tests_numbers (Own v ∷ cs) s h = tests_numbers cs (after kind.Condition (condition_word (Own v)) s) (record { n_is = h.n_is; atoms_is = h.atoms_is; sizes_is = h.sizes_is })
  tests_numbers (First v ∷ cs) s h = tests_numbers cs (after kind.Condition (condition_word (First v)) s) (record { n_is = h.n_is; atoms_is = h.atoms_is; sizes_is = h.sizes_is })
  tests_numbers (Action i v ∷ cs) s h = tests_numbers cs (after kind.Condition (condition_word (Action i v)) s) (record { n_is = h.n_is; atoms_is = h.atoms_is; sizes_is = h.sizes_is })

  wants_numbers : (ts : List LocalState) (s : Fixed) → Numbers n a z s → Numbers n a z (run (map local_word ts) s)
  wants_numbers [] s h = h
  wants_numbers (t ∷ ts) s h = wants_numbers ts (after kind.Condition (local_word t) s) (record { n_is = h.n_is; atoms_is = h.atoms_is; sizes_is = h.sizes_is })

  rules_numbers : (rs : List RuleText) (s : Fixed) → Numbers n a z s → Numbers n a z (run (rules_words rs) s)
  rules_numbers [] s h = h
  rules_numbers (r ∷ rs) s h =
      let x = rule_word (length r.conditions) r.next in
      let t = after kind.Rule x s in
      subst (Numbers n a z) (sym (run_append (map condition_word r.conditions) (rules_words rs) t))
      (rules_numbers rs (run (map condition_word r.conditions) t) (tests_numbers r.conditions t (record { n_is = h.n_is; atoms_is = h.atoms_is; sizes_is = h.sizes_is })))

  labels_numbers : (ls : List LabelText) (s : Fixed) → Numbers n a z s → Numbers n a z (run (labels_words ls) s)
  labels_numbers [] s h = h
  labels_numbers (l ∷ ls) s h =
      let x = label_word (length l.conditions) l.atom in
      let t = after kind.Label x s in
      subst (Numbers n a z) (sym (run_append (map local_word l.conditions) (labels_words ls) t))
      (labels_numbers ls (run (map local_word l.conditions) t) (wants_numbers l.conditions t (record { n_is = h.n_is; atoms_is = h.atoms_is; sizes_is = h.sizes_is })))

  starts_numbers : (ss : List ℕ) (s : Fixed) → Numbers n a z s → Numbers n a z (run (starts_words ss) s)
  starts_numbers [] s h = h
  starts_numbers (x ∷ ss) s h = starts_numbers ss (after kind.Start (start_word x) s) (record { n_is = h.n_is; atoms_is = h.atoms_is; sizes_is = h.sizes_is })

agents_numbers : (n a : ℕ) (z : List ℕ) (i : ℕ) (gs : List AgentText) (s : Fixed) → Numbers n a z s →
    Numbers n a (z ++ map (λ g. g.locals) gs) (run (agents_words i gs) s)
agents_numbers n a z i [] s h = record { n_is = h.n_is; atoms_is = h.atoms_is; sizes_is = h.sizes_is ∙ sym (append-nil z) }
agents_numbers n a z i (g ∷ gs) s h =
    let z' = z ++ (g.locals ∷ []) in
    let ms = protocol_words 0 g.masks in
    let rs = rules_words g.rules in
    let t = after kind.Agent (agent_word i g.locals) s in
    let h' : Numbers n a z' t = record { n_is = h.n_is; atoms_is = h.atoms_is; sizes_is = ap (λ v. v ++ (g.locals ∷ [])) h.sizes_is } in
    let one = rules_numbers n a z' g.rules (run ms t) (masks_numbers n a z' 0 g.masks t h') in
    let rest = agents_numbers n a z' (suc i) gs (run rs (run ms t)) one in
    subst (λ v. Numbers n a v (run (agents_words i (g ∷ gs)) s)) (append_assoc z (g.locals ∷ []) (map (λ v. v.locals) gs))
    (subst (Numbers n a (z' ++ map (λ v. v.locals) gs)) (sym (run_append ms (rs ++ agents_words (suc i) gs) t ∙ run_append rs (agents_words (suc i) gs) (run ms t))) rest)

-- Where words leave the stage.
masks_run : (n a : ℕ) (z : List ℕ) (l i j : ℕ) (ms : List ℕ) →
    run (protocol_words i ms) (fix (opened j l) n a z l j 0) ≡ fix (opened (j + length ms) l) n a z l (j + length ms) 0
masks_run n a z l i j [] = ap (λ v. fix (opened v l) n a z l v 0) (sym (add-zero j))
masks_run n a z l i j (m ∷ ms) =
    masks_run n a z l (suc i) (suc j) ms ∙ ap (λ v. fix (opened v l) n a z l v 0) (suc-add j (length ms) ∙ sym (add-suc j (length ms)))

module _ (n a : ℕ) (z : List ℕ) (l m : ℕ) where
  abbrev at_rule : ℕ → Fixed
  at_rule k = fix (in_rule k) n a z l m k

  tests_run : (cs : List Condition) (k : ℕ) → run (map condition_word cs) (at_rule (length cs + k)) ≡ at_rule k
  tests_run [] k = ap at_rule (zero-add k)
  tests_run (Own v ∷ cs) k = ap (λ j. run (map condition_word (Own v ∷ cs)) (at_rule j)) (suc-add (length cs) k) ∙ tests_run cs k
  tests_run (First v ∷ cs) k = ap (λ j. run (map condition_word (First v ∷ cs)) (at_rule j)) (suc-add (length cs) k) ∙ tests_run cs k
  tests_run (Action i v ∷ cs) k = ap (λ j. run (map condition_word (Action i v ∷ cs)) (at_rule j)) (suc-add (length cs) k) ∙ tests_run cs k

  rules_run : (rs : List RuleText) → run (rules_words rs) (at_rule 0) ≡ at_rule 0
  rules_run [] = refl
  rules_run (r ∷ rs) =
      let cs = r.conditions in
      run_append (map condition_word cs) (rules_words rs) (at_rule (length cs))
      ∙ ap (run (rules_words rs)) (ap (λ k. run (map condition_word cs) (at_rule k)) (sym (add-zero (length cs))) ∙ tests_run cs 0)
      ∙ rules_run rs

  abbrev at_label : ℕ → Fixed
  at_label k = fix (in_label k) n a z l m k

  wants_run : (ts : List LocalState) (k : ℕ) → run (map local_word ts) (at_label (length ts + k)) ≡ at_label k
  wants_run [] k = ap at_label (zero-add k)
  wants_run (t ∷ ts) k = ap (λ j. run (map local_word (t ∷ ts)) (at_label j)) (suc-add (length ts) k) ∙ wants_run ts k

module _ (n a : ℕ) (z : List ℕ) where
  starts_run : (x : ℕ) (ss : List ℕ) (s : Fixed) → Numbers n a z s → run (starts_words (x ∷ ss)) s ≡ fix stage.Starts n a z 0 0 0
  starts_run x [] s h = by_numbers n a z stage.Starts 0 0 0 s h
  starts_run x (y ∷ ss) s h = starts_run y ss (after kind.Start (start_word x) s) (record { n_is = h.n_is; atoms_is = h.atoms_is; sizes_is = h.sizes_is })

  label_run : (l : LabelText) (s : Fixed) → Numbers n a z s →
      run (label_word (length l.conditions) l.atom ∷ map local_word l.conditions) s ≡ fix stage.Labels n a z 0 0 0
  label_run l s h =
      let ts = l.conditions in
      ap (run (map local_word ts)) (by_numbers n a z (in_label (length ts)) 0 0 (length ts) s h ∙ ap (at_label n a z 0 0) (sym (add-zero (length ts))))
      ∙ wants_run n a z 0 0 ts 0

  labels_run : (l : LabelText) (ls : List LabelText) (s : Fixed) → Numbers n a z s → run (labels_words (l ∷ ls)) s ≡ fix stage.Labels n a z 0 0 0
  labels_run l [] s h =
      ap (λ v. run v s) (ap (λ v. label_word (length l.conditions) l.atom ∷ v) (append-nil (map local_word l.conditions))) ∙ label_run l s h
  labels_run l (k ∷ ls) s h =
      let x = label_word (length l.conditions) l.atom in
      run_append (map local_word l.conditions) (labels_words (k ∷ ls)) (after kind.Label x s)
      ∙ ap (run (labels_words (k ∷ ls))) (label_run l s h)
      ∙ labels_run k ls (fix stage.Labels n a z 0 0 0) (record { n_is = refl; atoms_is = refl; sizes_is = refl })

  goals_run : (x : Word) (xs : List Word) (s : Fixed) → Aims (x ∷ xs) → Numbers n a z s → run (x ∷ xs) s ≡ fix stage.Goals n a z 0 0 0
  goals_run x [] s aims h =
      ap (λ v. after_if (kind_of v) x s) (eqb-true x.kind 8 (and_parts (eqb x.kind 8) true aims).0) ∙ by_numbers n a z stage.Goals 0 0 0 s h
  goals_run x (y ∷ xs) s aims h =
      let p = and_parts (eqb x.kind 8) (list_all (λ v. eqb v.kind 8) (y ∷ xs)) aims in
      ap (λ v. run (y ∷ xs) (after_if (kind_of v) x s)) (eqb-true x.kind 8 p.0)
      ∙ goals_run y xs (after kind.Goal x s) p.1 (record { n_is = h.n_is; atoms_is = h.atoms_is; sizes_is = h.sizes_is })

  goals_numbers : (xs : List Word) (s : Fixed) → Aims xs → Numbers n a z s → Numbers n a z (run xs s)
  goals_numbers [] s aims h = h
  goals_numbers (x ∷ xs) s aims h = subst (Numbers n a z) (sym (goals_run x xs s aims h)) (record { n_is = refl; atoms_is = refl; sizes_is = refl })

abbrev pub start : Fixed
start = fix stage.Begin 0 0 [] 0 0 0

module _ (p : Part) where
  abbrev sizes : List ℕ
  sizes = map (λ g. g.locals) p.agents

  heads_numbers : Numbers p.n p.atoms sizes (run (heads p) start)
  heads_numbers = agents_numbers p.n p.atoms [] 0 p.agents (fix stage.Agents p.n p.atoms [] 0 0 0) (record { n_is = refl; atoms_is = refl; sizes_is = refl })

  begun_numbers : Numbers p.n p.atoms sizes (run (begun p) start)
  begun_numbers = subst (Numbers p.n p.atoms sizes) (sym (run_append (heads p) (starts_words p.starts) start)) (starts_numbers p.n p.atoms sizes p.starts (run (heads p) start) heads_numbers)

  labelled_numbers : Numbers p.n p.atoms sizes (run (labelled p) start)
  labelled_numbers = subst (Numbers p.n p.atoms sizes) (sym (run_append (begun p) (labels_words p.labels) start)) (labels_numbers p.n p.atoms sizes p.labels (run (begun p) start) begun_numbers)

  abbrev own : List ℕ
  own = sizes ++ (p.locals ∷ [])

  masked_run : run (told stage.Protocols p) start ≡ fix (opened (length p.masks) p.locals) p.n p.atoms own p.locals (length p.masks) 0
  masked_run =
      let s = run (heads p) start in
      let x = agent_word (length p.agents) p.locals in
      let h = heads_numbers in
      run_append (heads p) (x ∷ protocol_words 0 p.masks) start
      ∙ ap (run (protocol_words 0 p.masks))
      (by_numbers p.n p.atoms own (opened 0 p.locals) p.locals 0 0 (after kind.Agent x s)
      (record { n_is = h.n_is; atoms_is = h.atoms_is; sizes_is = ap (λ v. v ++ (p.locals ∷ [])) h.sizes_is }))
      ∙ masks_run p.n p.atoms own p.locals 0 0 p.masks
      ∙ ap (λ v. fix (opened v p.locals) p.n p.atoms own p.locals v 0) (zero-add (length p.masks))

  pub at_protocols : length p.masks < p.locals → run (told stage.Protocols p) start ≡ fix stage.Protocols p.n p.atoms own p.locals (length p.masks) 0
  at_protocols few =
      masked_run ∙ ap (λ v. fix (cond v stage.Rules stage.Protocols) p.n p.atoms own p.locals (length p.masks) 0) (ne_eqb (length p.masks) p.locals (λ e. omega arith))

  pub at_rules : length p.masks ≡ p.locals → run (told stage.Rules p) start ≡ fix stage.Rules p.n p.atoms own p.locals (length p.masks) 0
  at_rules all =
      run_append (told stage.Protocols p) (rules_words p.rules) start
      ∙ ap (run (rules_words p.rules))
      (masked_run ∙ ap (λ v. fix (cond v stage.Rules stage.Protocols) p.n p.atoms own p.locals (length p.masks) 0) (eq-eqb (length p.masks) p.locals all))
      ∙ rules_run p.n p.atoms own p.locals (length p.masks) p.rules

  pub at_rule_line : length p.masks ≡ p.locals → run (told stage.RuleLine p) start ≡ fix (in_rule p.left) p.n p.atoms own p.locals (length p.masks) p.left
  at_rule_line all =
      run_append (told stage.Rules p) (rule_word (length p.tests + p.left) p.line ∷ map condition_word p.tests) start
      ∙ ap (run (rule_word (length p.tests + p.left) p.line ∷ map condition_word p.tests)) (at_rules all)
      ∙ tests_run p.n p.atoms own p.locals (length p.masks) p.tests p.left

  pub at_label_line : run (told stage.LabelLine p) start ≡ fix (in_label p.left) p.n p.atoms sizes 0 0 p.left
  at_label_line =
      let k = length p.wants + p.left in
      run_append (labelled p) (label_word k p.line ∷ map local_word p.wants) start
      ∙ ap (run (map local_word p.wants)) (by_numbers p.n p.atoms sizes (in_label k) 0 0 k (run (labelled p) start) labelled_numbers)
      ∙ wants_run p.n p.atoms sizes 0 0 p.wants p.left

  pub at_done : Aims p.goals → run (told stage.Done p) start ≡ fix stage.Done p.n p.atoms sizes 0 0 0
  at_done aims =
      let h = goals_numbers p.n p.atoms sizes p.goals (run (labelled p) start) aims labelled_numbers in
      run_append (aimed p) (w 9 0 0 (length (aimed p) / 256) (length (aimed p) % 256) ∷ []) start
      ∙ by_numbers p.n p.atoms sizes stage.Done 0 0 0 (run (aimed p) start) (subst (Numbers p.n p.atoms sizes) (sym (run_append (labelled p) p.goals start)) h)

  starts_some : (ss : List ℕ) → 0 < length ss → run (starts_words ss) (run (heads p) start) ≡ fix stage.Starts p.n p.atoms sizes 0 0 0
  starts_some [] some = absurd (omega arith)
  starts_some (x ∷ ss) some = starts_run p.n p.atoms sizes x ss (run (heads p) start) heads_numbers

  labels_some : (ls : List LabelText) → 0 < length ls → run (labels_words ls) (run (begun p) start) ≡ fix stage.Labels p.n p.atoms sizes 0 0 0
  labels_some [] some = absurd (omega arith)
  labels_some (x ∷ ls) some = labels_run p.n p.atoms sizes x ls (run (begun p) start) begun_numbers

  goals_some : (xs : List Word) → 0 < length xs → Aims xs → run xs (run (labelled p) start) ≡ fix stage.Goals p.n p.atoms sizes 0 0 0
  goals_some [] some aims = absurd (omega arith)
  goals_some (x ∷ xs) some aims = goals_run p.n p.atoms sizes x xs (run (labelled p) start) aims labelled_numbers

  pub at_starts : 0 < length p.starts → run (told stage.Starts p) start ≡ fix stage.Starts p.n p.atoms sizes 0 0 0
  at_starts some = run_append (heads p) (starts_words p.starts) start ∙ starts_some p.starts some

  pub at_labels : 0 < length p.labels → run (told stage.Labels p) start ≡ fix stage.Labels p.n p.atoms sizes 0 0 0
  at_labels some = run_append (begun p) (labels_words p.labels) start ∙ labels_some p.labels some

  pub at_goals : 0 < length p.goals → Aims p.goals → run (told stage.Goals p) start ≡ fix stage.Goals p.n p.atoms sizes 0 0 0
  at_goals some aims = run_append (labelled p) p.goals start ∙ goals_some p.goals some aims
