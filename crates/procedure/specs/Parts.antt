-- A part of a description, what it says in words, and which word cannot follow. Assumes nothing.
use Rattle.std.specs.Prelude.{◌≡◌, ℕ, ◌+◌, ◌*◌, ◌<◌, Bool, true, false, cond, ◌&&◌, ◌||◌, List, [], ◌∷◌, ◌++◌, map, length, Option, Some, None, ◌==◌, nat_eq, nat_le, nat_lt, slice_index}
use Rattle.game.specs.declared.goal.Word.{Word}
use Rattle.std.specs.List.{list_all}
use Rattle.game.specs.declared.fault.Reason.{Reason}
use Rattle.game.specs.declared.fault.Reason.TheVariants as reason
use Rattle.systems.specs.declared.line.Condition.{Condition}
use Rattle.systems.specs.declared.line.LocalState.{LocalState}
use Rattle.procedure.specs.Kinds.{kind_of, number_of}
use Rattle.procedure.specs.Texts.{RuleText, LabelText, AgentText, Description, condition_word, local_word, rule_word, rules_words, label_word, labels_words, protocol_words, agent_word, agents_words, starts_words, system_word, ended}
use Rattle.procedure.specs.declared.kind.Kind.{Kind}
use Rattle.procedure.specs.declared.kind.Kind.TheVariants as kind
use Rattle.procedure.specs.declared.stage.Stage.{Stage}
use Rattle.procedure.specs.declared.stage.Stage.TheVariants as stage

-- The numbers of the system word; the agents before the one under way, and that one's local states, masks and rule lines; starts, label
-- lines and goals; of the line under way its number, the conditions so far and how many are to come.
pub record Part : Type 0 where
  pub stage : Stage
  pub n : ℕ
  pub atoms : ℕ
  pub agents : List AgentText
  pub locals : ℕ
  pub masks : List ℕ
  pub rules : List RuleText
  pub starts : List ℕ
  pub labels : List LabelText
  pub goals : List Word
  pub line : ℕ
  pub tests : List Condition
  pub wants : List LocalState
  pub left : ℕ

-- The words of a part: the agents that are complete, the agent under way, its line under way, ..
abbrev pub heads : Part → List Word
heads p = system_word p.n p.atoms ∷ agents_words 0 p.agents

abbrev pub masked : Part → List Word
masked p = heads p ++ (agent_word (length p.agents) p.locals ∷ protocol_words 0 p.masks)

abbrev pub ruled : Part → List Word
ruled p = masked p ++ rules_words p.rules

abbrev pub begun : Part → List Word
begun p = heads p ++ starts_words p.starts

abbrev pub labelled : Part → List Word
labelled p = begun p ++ labels_words p.labels

abbrev pub aimed : Part → List Word
aimed p = labelled p ++ p.goals

abbrev pub told : Stage → Part → List Word
told stage.Begin p = []
told stage.Agents p = system_word p.n p.atoms ∷ []
told stage.Protocols p = masked p
told stage.Rules p = ruled p
told stage.RuleLine p = ruled p ++ (rule_word (length p.tests + p.left) p.line ∷ map condition_word p.tests)
told stage.Starts p = begun p
told stage.Labels p = labelled p
told stage.LabelLine p = labelled p ++ (label_word (length p.wants + p.left) p.line ∷ map local_word p.wants)
told stage.Goals p = aimed p
told stage.Done p = ended (aimed p)

abbrev pub said : Part → List Word
said p = told p.stage p

-- The description that a part with all its agents is.
abbrev pub whole : Part → Description
whole p = record { agents = p.agents; atoms = p.atoms; starts = p.starts; labels = p.labels; goals = p.goals }

-- Words of kind 8.
abbrev pub Aims : List Word → Type 0
Aims goals = list_all (λ x. nat_eq x.kind 8) goals ≡ true

-- The stage of a part is the one that its words show.
abbrev pub Shown : Stage → Part → Type 0
Shown stage.Begin p = Unit {0}
Shown stage.Agents p = Unit {0}
Shown stage.Protocols p = length p.masks < p.locals
Shown stage.Rules p = length p.masks ≡ p.locals
Shown stage.RuleLine p = (length p.masks ≡ p.locals) × (0 < p.left)
Shown stage.Starts p = 0 < length p.starts
Shown stage.Labels p = 0 < length p.labels
Shown stage.LabelLine p = 0 < p.left
Shown stage.Goals p = (0 < length p.goals) × Aims p.goals
Shown stage.Done p = Aims p.goals

-- What a next word is judged by: the stage, the numbers of the system word, the local states of each agent so far and their product,
-- those of the agent under way and how many masks it has, and the number of words so far.
pub record Known : Type 0 where
  pub stage : Stage
  pub n : ℕ
  pub atoms : ℕ
  pub sizes : List ℕ
  pub states : ℕ
  pub locals : ℕ
  pub masks : ℕ
  pub words : ℕ

abbrev pub product : List ℕ → ℕ
product [] = 1
product (x ∷ xs) = x * product xs

-- The number of local states of each agent so far, with the agent under way where there is one.
abbrev pub sizes_at : Stage → Part → List ℕ
sizes_at stage.Begin p = []
sizes_at stage.Agents p = []
sizes_at stage.Protocols p = map (λ g. g.locals) p.agents ++ (p.locals ∷ [])
sizes_at stage.Rules p = map (λ g. g.locals) p.agents ++ (p.locals ∷ [])
sizes_at stage.RuleLine p = map (λ g. g.locals) p.agents ++ (p.locals ∷ [])
sizes_at stage.Starts p = map (λ g. g.locals) p.agents
sizes_at stage.Labels p = map (λ g. g.locals) p.agents
sizes_at stage.LabelLine p = map (λ g. g.locals) p.agents
sizes_at stage.Goals p = map (λ g. g.locals) p.agents
sizes_at stage.Done p = map (λ g. g.locals) p.agents

abbrev pub known : Part → Known
known p = record {
  stage = p.stage;
  n = p.n;
  atoms = p.atoms;
  sizes = sizes_at p.stage p;
  states = product (sizes_at p.stage p);
  locals = p.locals;
  masks = length p.masks;
  words = length (said p);
}

-- The kind's number is among these.
abbrev pub among : (low high : ℕ) → Kind → Bool
among low high k = nat_le low (number_of k) && nat_le (number_of k) high

-- The kinds that may come next. After an agent's protocol words: its rule lines, then the next agent, or a start after the last.
abbrev pub after_rules : (agents n : ℕ) → Kind → Bool
after_rules agents n k = cond (number_of k == 2) (nat_lt agents n) (cond (number_of k == 6) (agents == n) (number_of k == 4))

abbrev pub expected : Stage → (agents n : ℕ) → Kind → Bool
expected stage.Begin agents n k = among 1 1 k
expected stage.Agents agents n k = among 2 2 k
expected stage.Protocols agents n k = among 3 3 k
expected stage.Rules agents n k = after_rules agents n k
expected stage.RuleLine agents n k = among 5 5 k
expected stage.Starts agents n k = among 6 9 k
expected stage.Labels agents n k = among 7 9 k
expected stage.LabelLine agents n k = among 5 5 k
expected stage.Goals agents n k = among 8 9 k
expected stage.Done agents n k = false

-- The sum of the fields that a kind leaves unused. A condition uses b where it names an agent.
abbrev pub unnamed : Word → ℕ
unnamed x = cond (x.a == 2 || x.a == 3) 0 x.b

abbrev pub spare : Kind → Word → ℕ
spare kind.System x = x.a
spare kind.Agent x = x.a + x.d
spare kind.Protocol x = x.a + x.b
spare kind.Rule x = x.b + x.c
spare kind.Condition x = x.c + unnamed x
spare kind.Start x = x.a + x.b
spare kind.Label x = x.b + x.c
spare kind.Goal x = 0
spare kind.End x = x.a + x.b

-- The numbers that each record may hold.
abbrev pub system_fits : Word → Bool
system_fits x = nat_lt 0 x.b && (nat_lt x.b 7 && (nat_lt x.c 29 && x.d == 1))

abbrev pub agent_fits : ℕ → Word → Bool
agent_fits number x = x.b == number && (nat_lt 0 x.c && nat_lt x.c 17)

abbrev pub protocol_fits : ℕ → Word → Bool
protocol_fits number x = x.c == number && (nat_lt 0 x.d && nat_lt x.d 16)

-- A line of either sort: at most 8 conditions, and its number below the limit.
abbrev pub line_fits : ℕ → Word → Bool
line_fits limit x = nat_lt x.a 9 && nat_lt x.d limit

-- The own local state, that of agent 0, or an agent's action.
abbrev pub test_fits : (own first n : ℕ) → Word → Bool
test_fits own first n x =
    cond (x.a == 0) (nat_lt x.d own) (cond (x.a == 1) (nat_lt x.d first) (cond (x.a == 2) (nat_lt x.b n && nat_lt x.d 4) false))

-- An agent's local state; an agent that there is not has none.
abbrev pub want_fits : List ℕ → Word → Bool
want_fits sizes x = cond (x.a == 3) (nat_lt x.d (slice_index sizes x.b)) false

abbrev pub start_fits : ℕ → Word → Bool
start_fits states x = nat_lt (x.c * 256 + x.d) states

-- A condition of a rule line, and of a label line.
abbrev pub condition_fits : Stage → Known → Word → Bool
condition_fits stage.Begin k x = false
condition_fits stage.Agents k x = false
condition_fits stage.Protocols k x = false
condition_fits stage.Rules k x = false
condition_fits stage.RuleLine k x = test_fits k.locals (slice_index k.sizes 0) k.n x
condition_fits stage.Starts k x = false
condition_fits stage.Labels k x = false
condition_fits stage.LabelLine k x = want_fits k.sizes x
condition_fits stage.Goals k x = false
condition_fits stage.Done k x = false

abbrev pub in_range : Kind → Known → Word → Bool
in_range kind.System k x = system_fits x
in_range kind.Agent k x = agent_fits (length k.sizes) x
in_range kind.Protocol k x = protocol_fits k.masks x
in_range kind.Rule k x = line_fits k.locals x
in_range kind.Condition k x = condition_fits k.stage k x
in_range kind.Start k x = start_fits k.states x
in_range kind.Label k x = line_fits k.atoms x
in_range kind.Goal k x = true
in_range kind.End k x = true

-- More than 1,024 states; another count in the end word than the words before it.
abbrev pub crowded : ℕ → Word → Option Reason
crowded states x = cond (nat_lt 1024 (states * x.c)) (Some reason.Crowded) None

abbrev pub miscounted : ℕ → Word → Option Reason
miscounted words x = cond (x.c * 256 + x.d == words) None (Some reason.Count)

abbrev pub amiss : Kind → Known → Word → Option Reason
amiss kind.System k x = None
amiss kind.Agent k x = crowded k.states x
amiss kind.Protocol k x = None
amiss kind.Rule k x = None
amiss kind.Condition k x = None
amiss kind.Start k x = None
amiss kind.Label k x = None
amiss kind.Goal k x = None
amiss kind.End k x = miscounted k.words x

-- After the end word no word is expected, whatever its kind.
abbrev pub unexpected : Stage → Reason
unexpected stage.Begin = reason.Kind
unexpected stage.Agents = reason.Kind
unexpected stage.Protocols = reason.Kind
unexpected stage.Rules = reason.Kind
unexpected stage.RuleLine = reason.Kind
unexpected stage.Starts = reason.Kind
unexpected stage.Labels = reason.Kind
unexpected stage.LabelLine = reason.Kind
unexpected stage.Goals = reason.Kind
unexpected stage.Done = reason.Count

-- The first that fits of: an unused field is not 0, a number out of its range, and what else is amiss.
abbrev pub judged : (spare : ℕ) → (fits : Bool) → (amiss : Option Reason) → Option Reason
judged unused fits other = cond (unused == 0) (cond fits other (Some reason.Range)) (Some reason.Unused)

-- Why a word is refused, if it may not follow. A word of no kind is never expected.
abbrev pub wrong_of : Option Kind → Known → Word → Option Reason
wrong_of None k x = Some (unexpected k.stage)
wrong_of (Some v) k x = cond (expected k.stage (length k.sizes) k.n v) (judged (spare v x) (in_range v k x) (amiss v k x)) (Some (unexpected k.stage))

abbrev pub wrong : Known → Word → Option Reason
wrong k x = wrong_of (kind_of x.kind) k x
