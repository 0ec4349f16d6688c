-- One record more.
use Rattle.std.proofs.Common.{◌≡◌, ℕ, suc, ◌+◌, ◌*◌, ◌/◌, ◌%◌, ◌<◌, Bool, true, false, cond, ◌&&◌, eqb, ltb, List, [], ◌∷◌, ◌++◌, map, length, Option, Some, None, get_or, sym, refl, ap, ◌∙◌, append_assoc, append-nil, add-zero, add-suc, suc-add, zero-add, arith}
use Rattle.std.proofs.lemmas.Nat.{div-mul-add, mod-mul-add}
use Rattle.std.proofs.lemmas.List.{map-append, length_push}
use Rattle.std.proofs.lemmas.Bool.{and_parts, eqb-true}
use Rattle.std.proofs.lemmas.Option.{none-some}
use Rattle.game.specs.declared.fault.Reason.{Reason}
use Rattle.game.specs.declared.fault.Reason.TheVariants as reason
use Rattle.game.specs.declared.goal.Word.{Word}
use Rattle.procedure.specs.Words.{w}
use Rattle.procedure.specs.Texts.{RuleText, LabelText, AgentText, condition_word, local_word, rule_word, rules_words, label_word, labels_words, protocol_words, agent_word, agents_words, start_word, system_word, ended}
use Rattle.procedure.specs.Parts.{judged, system_fits, agent_fits, protocol_fits, line_fits, start_fits, want_fits, unnamed, crowded, miscounted}

-- A word by its fields.
pub word_is : (x : Word) (k a b c d : ℕ) → x.kind ≡ k → x.a ≡ a → x.b ≡ b → x.c ≡ c → x.d ≡ d → x ≡ w k a b c d
word_is x k a b c d ek ea eb ec ed =
    ap (λ v. w v x.a x.b x.c x.d) ek ∙ ap (λ v. w k v x.b x.c x.d) ea ∙ ap (λ v. w k a v x.c x.d) eb
    ∙ ap (λ v. w k a b v x.d) ec ∙ ap (λ v. w k a b c v) ed

-- A word that is judged right.
cond_none : (b f : Bool) (o : Option Reason) → cond b (cond f o (Some reason.Range)) (Some reason.Unused) ≡ None → (b ≡ true) × (f ≡ true) × (o ≡ None)
cond_none true true o e = (refl, refl, e)
cond_none true false o e = absurd (none-some reason.Range (sym e))
cond_none false f o e = absurd (none-some reason.Unused (sym e))

pub judged_right : (u : ℕ) (fits : Bool) (other : Option Reason) → judged u fits other ≡ None → (u ≡ 0) × (fits ≡ true) × (other ≡ None)
judged_right u fits other right = let p = cond_none (eqb u 0) fits other right in (eqb-true u 0 p.0, p.1, p.2)

pub system_says : (x : Word) → x.kind ≡ 1 → judged x.a (system_fits x) None ≡ None → (system_word x.b x.c ∷ []) ≡ (x ∷ [])
system_says x k right =
    let p = judged_right x.a (system_fits x) None right in
    let q = and_parts (ltb x.b 7) (ltb x.c 29 && eqb x.d 1) (and_parts (ltb 0 x.b) (ltb x.b 7 && (ltb x.c 29 && eqb x.d 1)) p.1).1 in
    let one = eqb-true x.d 1 (and_parts (ltb x.c 29) (eqb x.d 1) q.1).1 in
    ap (λ v. v ∷ []) (sym (word_is x 1 0 x.b x.c 1 k p.0 refl refl one))

pub agent_says : (before : List Word) (k : ℕ) (ms : List ℕ) (x : Word) (n states : ℕ) → x.kind ≡ 2 →
    judged (x.a + x.d) (agent_fits n x) (crowded states x) ≡ None → n ≡ k → ms ≡ [] → before ++ (agent_word k x.c ∷ protocol_words 0 ms) ≡ before ++ (x ∷ [])
agent_says before k ms x n states kind right number none =
    let p = judged_right (x.a + x.d) (agent_fits n x) (crowded states x) right in
    let b = eqb-true x.b n (and_parts (eqb x.b n) (ltb 0 x.c && ltb x.c 17) p.1).0 in
    let unused = p.0 in
    ap (λ v. before ++ (agent_word k x.c ∷ protocol_words 0 v)) none
    ∙ ap (λ v. before ++ (v ∷ [])) (sym (word_is x 2 0 k x.c 0 kind (omega arith) (b ∙ number) refl (omega arith)))

protocol_push : (i : ℕ) (ms : List ℕ) (m : ℕ) → protocol_words i (ms ++ (m ∷ [])) ≡ protocol_words i ms ++ (w 3 0 0 (i + length ms) m ∷ [])
protocol_push i [] m = ap (λ k. w 3 0 0 k m ∷ []) (sym (add-zero i))
protocol_push i (x ∷ ms) m =
    ap (λ ws. w 3 0 0 i x ∷ ws) (protocol_push (suc i) ms m ∙ ap (λ k. protocol_words (suc i) ms ++ (w 3 0 0 k m ∷ [])) (suc-add i (length ms) ∙ sym (add-suc i (length ms))))

pub protocol_says : (before : List Word) (g : Word) (ms ms' : List ℕ) (x : Word) (n : ℕ) → x.kind ≡ 3 → judged (x.a + x.b) (protocol_fits n x) None ≡ None →
    n ≡ length ms → ms' ≡ ms ++ (x.d ∷ []) → before ++ (g ∷ protocol_words 0 ms') ≡ (before ++ (g ∷ protocol_words 0 ms)) ++ (x ∷ [])
protocol_says before g ms ms' x n kind right number more =
    let p = judged_right (x.a + x.b) (protocol_fits n x) None right in
    let c = eqb-true x.c n (and_parts (eqb x.c n) (ltb 0 x.d && ltb x.d 16) p.1).0 in
    let unused = p.0 in
    let is : x ≡ w 3 0 0 (0 + length ms) x.d = word_is x 3 0 0 (0 + length ms) x.d kind (omega arith) (omega arith) (c ∙ number ∙ sym (zero-add (length ms))) refl in
    ap (λ v. before ++ (g ∷ v)) (ap (protocol_words 0) more ∙ protocol_push 0 ms x.d ∙ ap (λ v. protocol_words 0 ms ++ (v ∷ [])) (sym is))
    ∙ sym (append_assoc before (g ∷ protocol_words 0 ms) (x ∷ []))

-- The first word of a line, and a condition more.
pub line_begins : {C : Type 0} (f : C → Word) (before : List Word) (k : ℕ) (cs : List C) (x : Word) (limit : ℕ) → x.kind ≡ k →
    judged (x.b + x.c) (line_fits limit x) None ≡ None → cs ≡ [] → before ++ (w k (length cs + x.a) 0 0 x.d ∷ map f cs) ≡ before ++ (x ∷ [])
line_begins f before k cs x limit kind right none =
    let unused = (judged_right (x.b + x.c) (line_fits limit x) None right).0 in
    ap (λ v. before ++ (w k (length v + x.a) 0 0 x.d ∷ map f v)) none
    ∙ ap (λ v. before ++ (v ∷ [])) (sym (word_is x k (0 + x.a) 0 0 x.d kind (sym (zero-add x.a)) (omega arith) (omega arith) refl))

pub line_goes : {C : Type 0} (f : C → Word) (before : List Word) (head : ℕ → Word) (cs cs' : List C) (t : C) (left left' : ℕ) (x : Word) →
    cs' ≡ cs ++ (t ∷ []) → f t ≡ x → left ≡ left' + 1 →
    before ++ (head (length cs' + left') ∷ map f cs') ≡ (before ++ (head (length cs + left) ∷ map f cs)) ++ (x ∷ [])
line_goes f before head cs cs' t left left' x more is fewer =
    let count : length cs' + left' ≡ length cs + left = omega (arith, ap length more, length_push cs t) in
    ap (λ v. before ++ (head v ∷ map f cs')) count
    ∙ ap (λ v. before ++ (head (length cs + left) ∷ v)) (ap (map f) more ∙ map-append f cs (t ∷ []) ∙ ap (λ v. map f cs ++ (v ∷ [])) is)
    ∙ sym (append_assoc before (head (length cs + left) ∷ map f cs) (x ∷ []))

pub rules_push : (rs : List RuleText) (r : RuleText) →
    rules_words (rs ++ (r ∷ [])) ≡ rules_words rs ++ (rule_word (length r.conditions) r.next ∷ map condition_word r.conditions)
rules_push [] r = ap (λ v. rule_word (length r.conditions) r.next ∷ v) (append-nil (map condition_word r.conditions))
rules_push (y ∷ rs) r =
    ap (λ v. rule_word (length y.conditions) y.next ∷ v)
    (ap (λ v. map condition_word y.conditions ++ v) (rules_push rs r)
    ∙ sym (append_assoc (map condition_word y.conditions) (rules_words rs) (rule_word (length r.conditions) r.next ∷ map condition_word r.conditions)))

pub labels_push : (ls : List LabelText) (l : LabelText) →
    labels_words (ls ++ (l ∷ [])) ≡ labels_words ls ++ (label_word (length l.conditions) l.atom ∷ map local_word l.conditions)
labels_push [] l = ap (λ v. label_word (length l.conditions) l.atom ∷ v) (append-nil (map local_word l.conditions))
labels_push (y ∷ ls) l =
    ap (λ v. label_word (length y.conditions) y.atom ∷ v)
    (ap (λ v. map local_word y.conditions ++ v) (labels_push ls l)
    ∙ sym (append_assoc (map local_word y.conditions) (labels_words ls) (label_word (length l.conditions) l.atom ∷ map local_word l.conditions)))

agents_push : (i : ℕ) (gs : List AgentText) (g : AgentText) →
    agents_words i (gs ++ (g ∷ [])) ≡ agents_words i gs ++ (agent_word (i + length gs) g.locals ∷ (protocol_words 0 g.masks ++ rules_words g.rules))
agents_push i [] g =
    ap (λ k. agent_word k g.locals ∷ (protocol_words 0 g.masks ++ (rules_words g.rules ++ []))) (sym (add-zero i))
    ∙ ap (λ v. agent_word (i + 0) g.locals ∷ (protocol_words 0 g.masks ++ v)) (append-nil (rules_words g.rules))
agents_push i (y ∷ gs) g =
    let new = protocol_words 0 g.masks ++ rules_words g.rules in
    let step : agents_words (suc i) (gs ++ (g ∷ [])) ≡ agents_words (suc i) gs ++ (agent_word (i + suc (length gs)) g.locals ∷ new) =
    agents_push (suc i) gs g ∙ ap (λ k. agents_words (suc i) gs ++ (agent_word k g.locals ∷ new)) (suc-add i (length gs) ∙ sym (add-suc i (length gs))) in
    let last = agent_word (i + suc (length gs)) g.locals ∷ new in
    ap (λ v. agent_word i y.locals ∷ v)
    (ap (λ v. protocol_words 0 y.masks ++ (rules_words y.rules ++ v)) step
    ∙ ap (λ v. protocol_words 0 y.masks ++ v) (sym (append_assoc (rules_words y.rules) (agents_words (suc i) gs) last))
    ∙ sym (append_assoc (protocol_words 0 y.masks) (rules_words y.rules ++ agents_words (suc i) gs) last))

-- An agent that is complete.
pub agent_done : (s : Word) (gs gs' : List AgentText) (g : AgentText) → gs' ≡ gs ++ (g ∷ []) →
    (s ∷ agents_words 0 gs') ≡ (s ∷ (agents_words 0 gs ++ (agent_word (length gs) g.locals ∷ protocol_words 0 g.masks))) ++ rules_words g.rules
agent_done s gs gs' g more =
    ap (λ v. s ∷ v)
    (ap (agents_words 0) more ∙ agents_push 0 gs g
    ∙ ap (λ k. agents_words 0 gs ++ (agent_word k g.locals ∷ (protocol_words 0 g.masks ++ rules_words g.rules))) (zero-add (length gs))
    ∙ sym (append_assoc (agents_words 0 gs) (agent_word (length gs) g.locals ∷ protocol_words 0 g.masks) (rules_words g.rules)))

pub start_says : (before : List Word) (ss ss' : List ℕ) (x : Word) (states : ℕ) → x.kind ≡ 6 → judged (x.a + x.b) (start_fits states x) None ≡ None → x.d < 256 →
    ss' ≡ ss ++ ((x.c * 256 + x.d) ∷ []) → before ++ map start_word ss' ≡ (before ++ map start_word ss) ++ (x ∷ [])
start_says before ss ss' x states kind right byte more =
    let unused = (judged_right (x.a + x.b) (start_fits states x) None right).0 in
    let s = x.c * 256 + x.d in
    let is : x ≡ start_word s = word_is x 6 0 0 (s / 256) (s % 256) kind (omega arith) (omega arith) (sym (div-mul-add x.c 256 x.d byte)) (sym (mod-mul-add x.c 256 x.d byte)) in
    ap (λ v. before ++ v) (ap (map start_word) more ∙ map-append start_word ss (s ∷ []) ∙ ap (λ v. map start_word ss ++ (v ∷ [])) (sym is))
    ∙ sym (append_assoc before (map start_word ss) (x ∷ []))

miscount_none : (b : Bool) → cond b None (Some reason.Count) ≡ None → b ≡ true
miscount_none true e = refl
miscount_none false e = absurd (none-some reason.Count (sym e))

pub end_says : (ws : List Word) (x : Word) (place : ℕ) → x.kind ≡ 9 → judged (x.a + x.b) true (miscounted place x) ≡ None → x.d < 256 → place ≡ length ws →
    ended ws ≡ ws ++ (x ∷ [])
end_says ws x place kind right byte at =
    let p = judged_right (x.a + x.b) true (miscounted place x) right in
    let unused = p.0 in
    let n : length ws ≡ x.c * 256 + x.d = sym (eqb-true (x.c * 256 + x.d) place (miscount_none (eqb (x.c * 256 + x.d) place) p.2) ∙ at) in
    let is : x ≡ w 9 0 0 (length ws / 256) (length ws % 256) =
    word_is x 9 0 0 (length ws / 256) (length ws % 256) kind (omega arith) (omega arith)
    (sym (ap (λ v. v / 256) n ∙ div-mul-add x.c 256 x.d byte)) (sym (ap (λ v. v % 256) n ∙ mod-mul-add x.c 256 x.d byte)) in
    ap (λ v. ws ++ (v ∷ [])) (sym is)

-- What a right word's numbers are.
pub mask_right : (x : Word) (n : ℕ) → judged (x.a + x.b) (protocol_fits n x) None ≡ None → (ltb 0 x.d && ltb x.d 16) ≡ true
mask_right x n right = (and_parts (eqb x.c n) (ltb 0 x.d && ltb x.d 16) (judged_right (x.a + x.b) (protocol_fits n x) None right).1).1

pub line_right : (x : Word) (limit : ℕ) → judged (x.b + x.c) (line_fits limit x) None ≡ None → ltb x.d limit ≡ true
line_right x limit right = (and_parts (ltb x.a 9) (ltb x.d limit) (judged_right (x.b + x.c) (line_fits limit x) None right).1).1

pub start_right : (x : Word) (states : ℕ) → judged (x.a + x.b) (start_fits states x) None ≡ None → ltb (x.c * 256 + x.d) states ≡ true
start_right x states right = (judged_right (x.a + x.b) (start_fits states x) None right).1

only_third : (b f : Bool) → cond b f false ≡ true → b ≡ true
only_third true f e = refl
only_third false f e = e

-- The condition of a label line that a right word says.
pub want_word : (x : Word) (sizes : List ℕ) → x.kind ≡ 5 → judged (x.c + unnamed x) (want_fits sizes x) None ≡ None →
    local_word (record { agent = x.b; value = x.d }) ≡ x
want_word x sizes kind right =
    let p = judged_right (x.c + unnamed x) (want_fits sizes x) None right in
    let unused = p.0 in
    sym (word_is x 5 3 x.b 0 x.d kind (eqb-true x.a 3 (only_third (eqb x.a 3) (ltb x.d (get_or sizes x.b 0)) p.1)) refl (omega arith) refl)
