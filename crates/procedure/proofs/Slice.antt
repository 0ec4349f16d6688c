-- The goal words as a part of the file.
use Rattle.std.proofs.Common.{◌≡◌, ℕ, zero, suc, ◌+◌, ◌-◌, ◌*◌, ◌/◌, ◌%◌, ◌≤◌, false, not, ◌||◌, eqb, ltb, List, [], ◌∷◌, ◌++◌, length, take, drop, sym, refl, ap, ◌∙◌, append_assoc, arith, length-append, length-drop}
use Rattle.std.proofs.lemmas.Bool.{or_parts, not-false, eqb-true}
use Rattle.game.specs.declared.goal.Word.{Word}
use Rattle.procedure.specs.Words.{w, words}
use Rattle.procedure.specs.Texts.{Description, agents_words, starts_words, labels_words, system_word, body, written}
use Rattle.procedure.specs.Faults.{misfit, Accepted}

words_length : (bs : List ℕ) → length bs % 4 ≡ 0 → length (words bs) * 4 ≡ length bs
words_length [] whole = refl
words_length (a ∷ []) whole = absurd (omega arith)
words_length (a ∷ b ∷ []) whole = absurd (omega arith)
words_length (a ∷ b ∷ c ∷ []) whole = absurd (omega arith)
words_length (a ∷ b ∷ c ∷ d ∷ rest) whole = let below : length rest % 4 ≡ 0 = omega arith in omega (arith, words_length rest below)

four_more : (k : ℕ) → suc k * 4 ≡ suc (suc (suc (suc (k * 4))))
four_more k = omega arith

words_drop : (j : ℕ) (bs : List ℕ) → words (drop (j * 4) bs) ≡ drop j (words bs)
words_drop zero bs = refl
words_drop (suc j) [] = ap (λ v. words (drop v [])) (four_more j)
words_drop (suc j) (a ∷ []) = ap (λ v. words (drop v (a ∷ []))) (four_more j)
words_drop (suc j) (a ∷ b ∷ []) = ap (λ v. words (drop v (a ∷ b ∷ []))) (four_more j)
words_drop (suc j) (a ∷ b ∷ c ∷ []) = ap (λ v. words (drop v (a ∷ b ∷ c ∷ []))) (four_more j)
words_drop (suc j) (a ∷ b ∷ c ∷ d ∷ rest) = ap (λ v. words (drop v (a ∷ b ∷ c ∷ d ∷ rest))) (four_more j) ∙ words_drop j rest

words_take : (k : ℕ) (bs : List ℕ) → k * 4 ≤ length bs → words (take (k * 4) bs) ≡ take k (words bs)
words_take zero bs long = refl
words_take (suc k) [] long = absurd (omega arith)
words_take (suc k) (a ∷ []) long = absurd (omega arith)
words_take (suc k) (a ∷ b ∷ []) long = absurd (omega arith)
words_take (suc k) (a ∷ b ∷ c ∷ []) long = absurd (omega arith)
words_take (suc k) (a ∷ b ∷ c ∷ d ∷ rest) long =
    ap (λ v. words (take v (a ∷ b ∷ c ∷ d ∷ rest))) (four_more k) ∙ ap (λ v. w (d / 16) (d % 16) c b a ∷ v) (words_take k rest (omega arith))

drop_front : (xs ys : List Word) → drop (length xs) (xs ++ ys) ≡ ys
drop_front [] ys = refl
drop_front (x ∷ xs) ys = drop_front xs ys

take_front : (xs ys : List Word) → take (length xs) (xs ++ ys) ≡ xs
take_front [] ys = refl
take_front (x ∷ xs) ys = ap (λ v. x ∷ v) (take_front xs ys)

-- Words before, in the middle, and one word.
middle_length : (bs : List ℕ) (before middle : List Word) (e : Word) → length bs % 4 ≡ 0 → words bs ≡ before ++ (middle ++ (e ∷ [])) →
    length bs ≡ (length before + (length middle + 1)) * 4
middle_length bs before middle e whole is =
    let count : length (words bs) ≡ length before + (length middle + 1) =
    ap length is ∙ length-append before (middle ++ (e ∷ [])) ∙ ap (λ v. length before + v) (length-append middle (e ∷ [])) in
    sym (words_length bs whole) ∙ ap (λ v. v * 4) count

pub middle_part : (bs : List ℕ) (before middle : List Word) (e : Word) (n0 n1 : ℕ) → length bs % 4 ≡ 0 → words bs ≡ before ++ (middle ++ (e ∷ [])) →
    n0 ≡ length bs - 4 - 4 * length middle → n1 ≡ length bs - 4 - n0 → words (take n1 (drop n0 bs)) ≡ middle
middle_part bs before middle e n0 n1 whole is from for =
    let long = middle_length bs before middle e whole is in
    let first : n0 ≡ length before * 4 = omega arith in
    let many : n1 ≡ length middle * 4 = omega arith in
    let room : length middle * 4 ≤ length (drop (length before * 4) bs) = omega (arith, length-drop (length before * 4) bs) in
    ap (λ v. words (take v (drop n0 bs))) many ∙ ap (λ v. words (take (length middle * 4) (drop v bs))) first
    ∙ words_take (length middle) (drop (length before * 4) bs) room
    ∙ ap (take (length middle)) (words_drop (length before) bs ∙ ap (drop (length before)) is ∙ drop_front before (middle ++ (e ∷ [])))
    ∙ take_front middle (e ∷ [])

-- The goals of a description stand before its end word.
abbrev ahead : Description → List Word
ahead d = system_word (length d.agents) d.atoms ∷ (agents_words 0 d.agents ++ (starts_words d.starts ++ labels_words d.labels))

abbrev last : Description → Word
last d = w 9 0 0 (length (body (length d.agents) d) / 256) (length (body (length d.agents) d) % 256)

goals_last : (d : Description) → written d ≡ ahead d ++ (d.goals ++ (last d ∷ []))
goals_last d = ap (λ v. system_word (length d.agents) d.atoms ∷ v) (simp append_assoc)

whole_words : (n : ℕ) → misfit n ≡ false → n % 4 ≡ 0
whole_words n fits =
    eqb-true (n % 4) 0 (not-false (eqb (n % 4) 0) (or_parts (not (eqb (n % 4) 0)) (ltb 16384 n) (or_parts (eqb n 0) (not (eqb (n % 4) 0) || ltb 16384 n) fits).1).0)

pub goals_room : (bs : List ℕ) (d : Description) (k : ℕ) → Accepted bs d → k ≡ length d.goals → 4 * k ≤ length bs - 4
goals_room bs d k a count =
    omega (arith, middle_length bs (ahead d) d.goals (last d) (whole_words (length bs) a.fits) (a.sound.is ∙ goals_last d))

pub goals_part : (bs : List ℕ) (d : Description) (k n0 n1 : ℕ) → Accepted bs d → k ≡ length d.goals → n0 ≡ length bs - 4 - 4 * k → n1 ≡ length bs - 4 - n0 →
    words (take n1 (drop n0 bs)) ≡ d.goals
goals_part bs d k n0 n1 a count from for =
    middle_part bs (ahead d) d.goals (last d) n0 n1 (whole_words (length bs) a.fits) (a.sound.is ∙ goals_last d) (omega arith) for
