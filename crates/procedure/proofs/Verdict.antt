-- A file has one verdict.
use Rattle.std.proofs.Common.{◌≡◌, ℕ, zero, suc, ◌/◌, ◌%◌, ◌<◌, ◌⊎◌, Option, Some, None, List, [], ◌∷◌, ◌++◌, length, sym, refl, ap, ◌∙◌, subst, inl, inr, append-nil, arith, length-append}
use Rattle.std.proofs.lemmas.Bool.{both_ways}
use Rattle.std.specs.Option.{option_map}
use Rattle.std.proofs.lemmas.Option.{none-some, same_Some}
use Rattle.game.specs.declared.fault.Reason.{Reason}
use Rattle.game.specs.declared.fault.Reason.TheVariants as reason
use Rattle.game.specs.declared.goal.Word.{Word}
use Rattle.game.specs.declared.fault.Fault.{Fault}
use Rattle.procedure.specs.Words.{w, words}
use Rattle.procedure.specs.Kinds.{kind_of}
use Rattle.procedure.specs.Texts.{Description, body, written}
use Rattle.procedure.specs.Parts.{Part, Known, told, said, Shown, known, sizes_at, product, wrong_of, wrong}
use Rattle.procedure.specs.Faults.{Flawless, none, more, Faulty, Amiss, Refusal, misfits, faulty, Accepted, misfit, fault_at}
use Rattle.procedure.specs.Laws.{OneVerdictEach}
use Rattle.procedure.specs.declared.kind.Kind.{Kind}
use Rattle.procedure.specs.declared.kind.Kind.TheVariants as kind
use Rattle.procedure.specs.declared.stage.Stage.{Stage}
use Rattle.procedure.specs.declared.stage.Stage.TheVariants as stage
use Rattle.procedure.proofs.Run.{Fixed, fix, run, run_append, start, in_rule, in_label, at_protocols, at_rules, at_rule_line, at_starts, at_labels, at_label_line, at_goals, at_done}

abbrev make : Stage → ℕ → ℕ → List ℕ → ℕ → ℕ → ℕ → ℕ → Known
make s n a z st l m c = record { stage = s; n = n; atoms = a; sizes = z; states = st; locals = l; masks = m; words = c }

-- Where no agent is under way, its local states and masks do not matter.
abbrev Free : Stage → Type 0
Free stage.Begin = Unit {0}
Free stage.Agents = Unit {0}
Free stage.Protocols = ⊥
Free stage.Rules = ⊥
Free stage.RuleLine = ⊥
Free stage.Starts = Unit {0}
Free stage.Labels = Unit {0}
Free stage.LabelLine = Unit {0}
Free stage.Goals = Unit {0}
Free stage.Done = Unit {0}

free_same : (v : Option Kind) (s : Stage) → Free s → (n a : ℕ) (z : List ℕ) (st l m l' m' c : ℕ) (x : Word) →
    wrong_of v (make s n a z st l m c) x ≡ wrong_of v (make s n a z st l' m' c) x
free_same None s free n a z st l m l' m' c x = refl
free_same (Some kind.System) s free n a z st l m l' m' c x = refl
free_same (Some kind.Agent) s free n a z st l m l' m' c x = refl
free_same (Some kind.Protocol) stage.Begin free n a z st l m l' m' c x = refl
free_same (Some kind.Protocol) stage.Agents free n a z st l m l' m' c x = refl
free_same (Some kind.Protocol) stage.Protocols free n a z st l m l' m' c x = absurd free
free_same (Some kind.Protocol) stage.Rules free n a z st l m l' m' c x = absurd free
free_same (Some kind.Protocol) stage.RuleLine free n a z st l m l' m' c x = absurd free
free_same (Some kind.Protocol) stage.Starts free n a z st l m l' m' c x = refl
free_same (Some kind.Protocol) stage.Labels free n a z st l m l' m' c x = refl
free_same (Some kind.Protocol) stage.LabelLine free n a z st l m l' m' c x = refl
free_same (Some kind.Protocol) stage.Goals free n a z st l m l' m' c x = refl
free_same (Some kind.Protocol) stage.Done free n a z st l m l' m' c x = refl
free_same (Some kind.Rule) stage.Begin free n a z st l m l' m' c x = refl
free_same (Some kind.Rule) stage.Agents free n a z st l m l' m' c x = refl
free_same (Some kind.Rule) stage.Protocols free n a z st l m l' m' c x = absurd free
free_same (Some kind.Rule) stage.Rules free n a z st l m l' m' c x = absurd free
free_same (Some kind.Rule) stage.RuleLine free n a z st l m l' m' c x = absurd free
free_same (Some kind.Rule) stage.Starts free n a z st l m l' m' c x = refl
free_same (Some kind.Rule) stage.Labels free n a z st l m l' m' c x = refl
free_same (Some kind.Rule) stage.LabelLine free n a z st l m l' m' c x = refl
free_same (Some kind.Rule) stage.Goals free n a z st l m l' m' c x = refl
free_same (Some kind.Rule) stage.Done free n a z st l m l' m' c x = refl
free_same (Some kind.Condition) stage.Begin free n a z st l m l' m' c x = refl
free_same (Some kind.Condition) stage.Agents free n a z st l m l' m' c x = refl
free_same (Some kind.Condition) stage.Protocols free n a z st l m l' m' c x = absurd free
free_same (Some kind.Condition) stage.Rules free n a z st l m l' m' c x = absurd free
free_same (Some kind.Condition) stage.RuleLine free n a z st l m l' m' c x = absurd free
free_same (Some kind.Condition) stage.Starts free n a z st l m l' m' c x = refl
free_same (Some kind.Condition) stage.Labels free n a z st l m l' m' c x = refl
free_same (Some kind.Condition) stage.LabelLine free n a z st l m l' m' c x = refl
free_same (Some kind.Condition) stage.Goals free n a z st l m l' m' c x = refl
free_same (Some kind.Condition) stage.Done free n a z st l m l' m' c x = refl
free_same (Some kind.Start) s free n a z st l m l' m' c x = refl
free_same (Some kind.Label) s free n a z st l m l' m' c x = refl
free_same (Some kind.Goal) s free n a z st l m l' m' c x = refl
free_same (Some kind.End) s free n a z st l m l' m' c x = refl

-- Before the system word its numbers do not matter either.
begin_same : (v : Option Kind) (n a l m : ℕ) (x : Word) → wrong_of v (make stage.Begin n a [] 1 l m 0) x ≡ wrong_of v (make stage.Begin 0 0 [] 1 0 0 0) x
begin_same None n a l m x = refl
begin_same (Some kind.System) n a l m x = refl
begin_same (Some kind.Agent) n a l m x = refl
begin_same (Some kind.Protocol) n a l m x = refl
begin_same (Some kind.Rule) n a l m x = refl
begin_same (Some kind.Condition) n a l m x = refl
begin_same (Some kind.Start) n a l m x = refl
begin_same (Some kind.Label) n a l m x = refl
begin_same (Some kind.Goal) n a l m x = refl
begin_same (Some kind.End) n a l m x = refl

-- What the words of a part fix is what the next word is judged by.
abbrev seen : Fixed → ℕ → Known
seen s c = make s.stage s.n s.atoms s.sizes (product s.sizes) s.locals s.masks c

abbrev known_at : Stage → Part → Known
known_at s p = make s p.n p.atoms (sizes_at s p) (product (sizes_at s p)) p.locals (length p.masks) (length (told s p))

abbrev judge : List Word → Word → Option Reason
judge ws x = wrong (seen (run ws start) (length ws)) x

rule_some : (k : ℕ) → 0 < k → in_rule k ≡ stage.RuleLine
rule_some zero some = absurd (omega arith)
rule_some (suc k) some = refl

label_some : (k : ℕ) → 0 < k → in_label k ≡ stage.LabelLine
label_some zero some = absurd (omega arith)
label_some (suc k) some = refl

rule_line_run : (p : Part) → Shown stage.RuleLine p →
    run (told stage.RuleLine p) start ≡ fix stage.RuleLine p.n p.atoms (sizes_at stage.RuleLine p) p.locals (length p.masks) p.left
rule_line_run p h =
    at_rule_line p h.0 ∙ ap (λ v. fix v p.n p.atoms (sizes_at stage.RuleLine p) p.locals (length p.masks) p.left) (rule_some p.left h.1)

label_line_run : (p : Part) → Shown stage.LabelLine p →
    run (told stage.LabelLine p) start ≡ fix stage.LabelLine p.n p.atoms (sizes_at stage.LabelLine p) 0 0 p.left
label_line_run p h = at_label_line p ∙ ap (λ v. fix v p.n p.atoms (sizes_at stage.LabelLine p) 0 0 p.left) (label_some p.left h)

-- The stage that the words of a part lead to is its own.
abbrev stage_of : Fixed → Stage
stage_of s = s.stage

stage_at : (s : Stage) (p : Part) → Shown s p → stage_of (run (told s p) start) ≡ s
stage_at stage.Begin p h = refl
stage_at stage.Agents p h = refl
stage_at stage.Protocols p h = ap stage_of (at_protocols p h)
stage_at stage.Rules p h = ap stage_of (at_rules p h)
stage_at stage.RuleLine p h = ap stage_of (rule_line_run p h)
stage_at stage.Starts p h = ap stage_of (at_starts p h)
stage_at stage.Labels p h = ap stage_of (at_labels p h)
stage_at stage.LabelLine p h = ap stage_of (label_line_run p h)
stage_at stage.Goals p h = ap stage_of (at_goals p h.0 h.1)
stage_at stage.Done p h = ap stage_of (at_done p h)

-- Where no agent is under way.
free_judge : (s : Stage) → Free s → (p : Part) (x : Word) (k : ℕ) → run (told s p) start ≡ fix s p.n p.atoms (sizes_at s p) 0 0 k → wrong (known_at s p) x ≡ judge (told s p) x
free_judge s free p x k is =
    free_same (kind_of x.kind) s free p.n p.atoms (sizes_at s p) (product (sizes_at s p)) p.locals (length p.masks) 0 0 (length (told s p)) x
    ∙ ap (λ v. wrong (seen v (length (told s p))) x) (sym is)

judge_at : (s : Stage) (p : Part) (x : Word) → Shown s p → wrong (known_at s p) x ≡ judge (told s p) x
judge_at stage.Begin p x h = begin_same (kind_of x.kind) p.n p.atoms p.locals (length p.masks) x
judge_at stage.Agents p x h = free_judge stage.Agents tt p x 0 refl
judge_at stage.Protocols p x h = ap (λ v. wrong (seen v (length (told stage.Protocols p))) x) (sym (at_protocols p h))
judge_at stage.Rules p x h = ap (λ v. wrong (seen v (length (told stage.Rules p))) x) (sym (at_rules p h))
judge_at stage.RuleLine p x h = ap (λ v. wrong (seen v (length (told stage.RuleLine p))) x) (sym (rule_line_run p h))
judge_at stage.Starts p x h = free_judge stage.Starts tt p x 0 (at_starts p h)
judge_at stage.Labels p x h = free_judge stage.Labels tt p x 0 (at_labels p h)
judge_at stage.LabelLine p x h = free_judge stage.LabelLine tt p x p.left (label_line_run p h)
judge_at stage.Goals p x h = free_judge stage.Goals tt p x 0 (at_goals p h.0 h.1)
judge_at stage.Done p x h = free_judge stage.Done tt p x 0 (at_done p h)

same_judgement : (p q : Part) (x : Word) → Shown p.stage p → Shown q.stage q → said p ≡ said q → wrong (known p) x ≡ wrong (known q) x
same_judgement p q x h k same = judge_at p.stage p x h ∙ ap (λ ws. judge ws x) same ∙ sym (judge_at q.stage q x k)

-- Two ways to part a list.
snoc_split : (us : List Word) (y : Word) (vs : List Word) (x : Word) (rest : List Word) → us ++ (y ∷ []) ≡ vs ++ (x ∷ rest) →
    ((us ≡ vs) × (y ≡ x)) ⊎ ((rest' : List Word) × (us ≡ vs ++ (x ∷ rest')))
snoc_split [] y [] x rest e = inl (refl, cc)
snoc_split [] y (v ∷ vs) x rest e = absurd (omega (arith, ap length e, length-append vs (x ∷ rest)))
snoc_split (a ∷ us) y [] x rest e = let is : a ≡ x = cc in inr (us, ap (λ v. v ∷ us) is)
snoc_split (a ∷ us) y (v ∷ vs) x rest e =
    let is : a ≡ v = cc in
    let tails : us ++ (y ∷ []) ≡ vs ++ (x ∷ rest) = cc in
    elim (snoc_split us y vs x rest tails) [
      | inl h ↦ inl (ap (λ u. u ∷ us) is ∙ ap (λ ts. v ∷ ts) h.0, h.1)
      | inr h ↦ inr (h.0, ap (λ u. u ∷ us) is ∙ ap (λ ts. v ∷ ts) h.1)
    ]

data Parting (us bs cs ds : List Word) : Type 0 where
  even : us ≡ cs → bs ≡ ds → Parting us bs cs ds
  later : (x : Word) (m : List Word) → cs ≡ us ++ (x ∷ m) → bs ≡ x ∷ (m ++ ds) → Parting us bs cs ds
  sooner : (x : Word) (m : List Word) → us ≡ cs ++ (x ∷ m) → ds ≡ x ∷ (m ++ bs) → Parting us bs cs ds

parting : (us bs cs ds : List Word) → us ++ bs ≡ cs ++ ds → Parting us bs cs ds
parting [] bs [] ds e = even refl e
parting [] bs (c ∷ cs) ds e = later c cs refl e
parting (a ∷ us) bs [] ds e = sooner a us refl (sym e)
parting (a ∷ us) bs (c ∷ cs) ds e =
    let is : a ≡ c = cc in
    let tails : us ++ bs ≡ cs ++ ds = cc in
    elim (parting us bs cs ds tails) [
      | even f g ↦ even (ap (λ u. u ∷ us) is ∙ ap (λ ts. c ∷ ts) f) g
      | later x m f g ↦ later x m (ap (λ ts. c ∷ ts) f ∙ ap (λ u. u ∷ (us ++ (x ∷ m))) (sym is)) g
      | sooner x m f g ↦ sooner x m (ap (λ u. u ∷ us) is ∙ ap (λ ts. c ∷ ts) f) g
    ]

-- Each word of a flawless list may follow what some part says.
record Follows (vs : List Word) (x : Word) : Type 0 where
  by : Part
  shown : Shown by.stage by
  is : said by ≡ vs
  right : wrong (known by) x ≡ None

flawless_at : (us : List Word) → Flawless us → (vs : List Word) (x : Word) (rest : List Word) → us ≡ vs ++ (x ∷ rest) → Follows vs x
flawless_at us none vs x rest e = absurd (omega (arith, ap length e, length-append vs (x ∷ rest)))
flawless_at us (more p y shown before right) vs x rest e =
    elim (snoc_split (said p) y vs x rest e) [
      | inl h ↦ record { by = p; shown = shown; is = h.0; right = subst (λ v. wrong (known p) v ≡ None) h.1 right }
      | inr h ↦ flawless_at (said p) before vs x h.0 h.1
    ]

never : (us : List Word) → Flawless us → (p : Part) → Shown p.stage p → (x : Word) (rest : List Word) (f : Fault) → us ≡ said p ++ (x ∷ rest) →
    Amiss p (x ∷ rest) f → ⊥
never us flawless p shown x rest f e bad =
    let h = flawless_at us flawless (said p) x rest e in
    none-some f (ap (option_map (fault_at (length (said p)))) (sym h.right ∙ same_judgement h.by p x h.shown shown h.is) ∙ sym bad)

amiss_head : (p : Part) (rest : List Word) (f : Fault) (x : Word) (m m' : List Word) → rest ≡ x ∷ m → Amiss p rest f → Amiss p (x ∷ m') f
amiss_head p rest f x m m' e h = subst (λ v. Amiss p v f) e h

amiss_same : (p q : Part) (rest : List Word) (f f' : Fault) → Shown p.stage p → Shown q.stage q → said p ≡ said q → Amiss p rest f → Amiss q rest f' → f ≡ f'
amiss_same p q [] f f' sp sq same h k = h.0 ∙ ap (λ v. fault_at (length v) reason.Kind) same ∙ sym k.0
amiss_same p q (x ∷ rest) f f' sp sq same h k =
    same_Some f f'
    (h ∙ ap (λ v. option_map (fault_at (length v)) (wrong (known p) x)) same
    ∙ ap (option_map (fault_at (length (said q)))) (same_judgement p q x sp sq same) ∙ sym k)

faulty_same : (ws : List Word) (f f' : Fault) → Faulty ws f → Faulty ws f' → f ≡ f'
faulty_same ws f f' h k =
    elim (parting (said h.said_part) h.rest (said k.said_part) k.rest (sym h.is ∙ k.is)) [
      | even e g ↦ amiss_same h.said_part k.said_part k.rest f f' h.shown k.shown e (subst (λ v. Amiss h.said_part v f) g h.amiss) k.amiss
      | later x m e g ↦ absurd (never (said k.said_part) k.flawless h.said_part h.shown x m f e (amiss_head h.said_part h.rest f x (m ++ k.rest) m g h.amiss))
      | sooner x m e g ↦ absurd (never (said h.said_part) h.flawless k.said_part k.shown x m f' e (amiss_head k.said_part k.rest f' x (m ++ h.rest) m g k.amiss))
    ]

-- After an end word all is read.
written_done : (d : Description) (p : Part) → Shown p.stage p → written d ≡ said p → p.stage ≡ stage.Done
written_done d p shown e =
    let n = length d.agents in
    let last = run_append (body n d) (w 9 0 0 (length (body n d) / 256) (length (body n d) % 256) ∷ []) start in
    sym (stage_at p.stage p shown) ∙ sym (ap (λ ws. stage_of (run ws start)) e) ∙ ap stage_of last

faulty_apart : (ws : List Word) (d : Description) (p : Part) (rest : List Word) (f : Fault) → Shown p.stage p → Flawless ws → ws ≡ written d → ws ≡ said p ++ rest → Amiss p rest f → ⊥
faulty_apart ws d p [] f shown flawless is parts h = h.1 (written_done d p shown (sym is ∙ parts ∙ append-nil (said p)))
faulty_apart ws d p (x ∷ rest) f shown flawless is parts h = never ws flawless p shown x rest f parts h

refusals_same : (bytes : List ℕ) (f f' : Fault) → Refusal bytes f → Refusal bytes f' → f ≡ f'
refusals_same bytes f f' (misfits h) (misfits k) = refl
refusals_same bytes f f' (misfits h) (faulty g fits k) = absurd (both_ways (misfit (length bytes)) fits h)
refusals_same bytes f f' (faulty g fits h) (misfits k) = absurd (both_ways (misfit (length bytes)) fits k)
refusals_same bytes f f' (faulty g fits h) (faulty g' fits' k) = faulty_same (words bytes) g g' h k

verdict_apart : (bytes : List ℕ) (d : Description) (f : Fault) → Accepted bytes d → Refusal bytes f → ⊥
verdict_apart bytes d f a (misfits h) = both_ways (misfit (length bytes)) a.fits h
verdict_apart bytes d f a (faulty g fits h) = faulty_apart (words bytes) d h.said_part h.rest g h.shown a.sound.flawless a.sound.is h.is h.amiss

pub one_verdict : OneVerdictEach
one_verdict bytes = record { refused = refusals_same bytes; apart = verdict_apart bytes }
