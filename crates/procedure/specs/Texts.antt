-- What a system and its goals say of themselves in words. Assumes nothing.
use Rattle.std.specs.Prelude.{ℕ, suc, ◌/◌, ◌%◌, List, [], ◌∷◌, ◌++◌, map, length, vec_items}
use Rattle.game.specs.declared.goal.Word.{Word}
use Rattle.systems.specs.declared.line.Condition.{Condition}
use Rattle.systems.specs.declared.line.Condition.TheVariants.{Own, First, Action}
use Rattle.systems.specs.declared.line.LocalState.{LocalState}
use Rattle.systems.specs.declared.line.Rule.{Rule}
use Rattle.systems.specs.declared.line.Label.{Label}
use Rattle.systems.specs.declared.agent.Agent.{Agent}
use Rattle.systems.specs.declared.agents.AgentsSystem.{AgentsSystem}
use Rattle.procedure.specs.Words.{w}

-- Rule lines, label lines, agents and whole descriptions, by their lists.
pub record RuleText : Type 0 where
  pub next : ℕ
  pub conditions : List Condition

pub record LabelText : Type 0 where
  pub atom : ℕ
  pub conditions : List LocalState

pub record AgentText : Type 0 where
  pub locals : ℕ
  pub masks : List ℕ
  pub rules : List RuleText

pub record Description : Type 0 where
  pub agents : List AgentText
  pub atoms : ℕ
  pub starts : List ℕ
  pub labels : List LabelText
  pub goals : List Word

abbrev pub rule_text : Rule → RuleText
rule_text r = record { next = r.next; conditions = vec_items r.conditions }

abbrev pub label_text : Label → LabelText
label_text l = record { atom = l.atom; conditions = vec_items l.conditions }

abbrev pub agent_text : Agent → AgentText
agent_text g = record { locals = g.locals; masks = vec_items g.masks; rules = map rule_text (vec_items g.rules) }

-- A system and goal words.
abbrev pub described : AgentsSystem → List Word → Description
described y goals = record {
  agents = map agent_text (vec_items y.agents);
  atoms = y.atoms;
  starts = vec_items y.starts;
  labels = map label_text (vec_items y.labels);
  goals = goals;
}

-- Conditions: the own local state, that of agent 0, an agent's action, an agent's local state.
abbrev pub condition_word : Condition → Word
condition_word (Own v) = w 5 0 0 0 v
condition_word (First v) = w 5 1 0 0 v
condition_word (Action i v) = w 5 2 i 0 v

abbrev pub local_word : LocalState → Word
local_word t = w 5 3 t.agent 0 t.value

-- A line: how many conditions it has and what it gives; then the conditions.
abbrev pub rule_word : ℕ → ℕ → Word
rule_word conditions next = w 4 conditions 0 0 next

abbrev pub rules_words : List RuleText → List Word
rules_words [] = []
rules_words (r ∷ rs) = rule_word (length r.conditions) r.next ∷ (map condition_word r.conditions ++ rules_words rs)

abbrev pub label_word : ℕ → ℕ → Word
label_word conditions atom = w 7 conditions 0 0 atom

abbrev pub labels_words : List LabelText → List Word
labels_words [] = []
labels_words (l ∷ ls) = label_word (length l.conditions) l.atom ∷ (map local_word l.conditions ++ labels_words ls)

-- Protocol masks, from local state i on.
abbrev pub protocol_words : ℕ → List ℕ → List Word
protocol_words i [] = []
protocol_words i (m ∷ ms) = w 3 0 0 i m ∷ protocol_words (suc i) ms

-- Agents, from number i on: a protocol word for every local state, then the rule lines.
abbrev pub agent_word : ℕ → ℕ → Word
agent_word i locals = w 2 0 i locals 0

abbrev pub agents_words : ℕ → List AgentText → List Word
agents_words i [] = []
agents_words i (g ∷ gs) = agent_word i g.locals ∷ (protocol_words 0 g.masks ++ (rules_words g.rules ++ agents_words (suc i) gs))

abbrev pub start_word : ℕ → Word
start_word s = w 6 0 0 (s / 256) (s % 256)

abbrev pub starts_words : List ℕ → List Word
starts_words ss = map start_word ss

abbrev pub system_word : ℕ → ℕ → Word
system_word n atoms = w 1 0 n atoms 1

-- The end word counts the words before it.
abbrev pub ended : List Word → List Word
ended ws = ws ++ (w 9 0 0 (length ws / 256) (length ws % 256) ∷ [])

-- The words of a description, without the end word and with it.
abbrev pub body : ℕ → Description → List Word
body n d = system_word n d.atoms ∷ (agents_words 0 d.agents ++ (starts_words d.starts ++ (labels_words d.labels ++ d.goals)))

abbrev pub written : Description → List Word
written d = ended (body (length d.agents) d)
