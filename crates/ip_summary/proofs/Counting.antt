-- One reply more is counted by the entry of its first word.
--     set_noted      the entry at an index, noted in its turn
--     tallies_more      entries that counted replies count one more
use Rattle.std.proofs.Common.{◌≡◌, ℕ, zero, suc, ◌+◌, ◌-◌, ◌^◌, ◌<◌, ◌≤◌, min, Bool, true, false, List, [], ◌∷◌, ◌++◌, map, length, take, drop, set, get_or, refl, sym, ap, ◌∙◌, subst, arith, if◌then◌else◌, vec_capacity}
use Rattle.ip_spec.specs.Load.{first_word}
use Rattle.ip_spec.specs.Path.{Bytes, same_bytes}
use Rattle.ip_spec.specs.declared.reply.Reply.{Reply}
use Rattle.ip_summary.specs.declared.summary.Entry.{Entry}
use Rattle.ip_summary.specs.declared.summary.Summary.{Summary}
use Rattle.ip_summary.specs.Tally.{Tallies, first_words, occurrences, noted, pair_of}

-- what was changed up to an index, with the element there changed too
set_mapped : {A : Type 0} (f : A → A) (xs : List A) (i : ℕ) (d : A) → i < length xs → set (map f (take i xs) ++ drop i xs) i (f (get_or xs i d)) ≡ map f (take (suc i) xs) ++ drop (suc i) xs
set_mapped f [] i d l = absurd (omega (arith, l))
set_mapped f (x ∷ xs) zero d l = refl
set_mapped f (x ∷ xs) (suc i) d l = ap (λ ys. f x ∷ ys) (set_mapped f xs i d (omega (arith, l)))

get_rest : {A : Type 0} (f : A → A) (xs : List A) (i : ℕ) (d : A) → i < length xs → get_or (map f (take i xs) ++ drop i xs) i d ≡ get_or xs i d
get_rest f [] i d l = absurd (omega (arith, l))
get_rest f (x ∷ xs) zero d l = refl
get_rest f (x ∷ xs) (suc i) d l = get_rest f xs i d (omega (arith, l))

pub set_noted : (word : Bytes) (xs ys : List Entry) (i : ℕ) (y d : Entry) → i < length xs → ys ≡ map (noted word) (take i xs) ++ drop i xs → y ≡ noted word (get_or ys i d) → set ys i y ≡ map (noted word) (take (i + 1) xs) ++ drop (i + 1) xs
set_noted word xs ys i y d l are is =
    let more : suc i ≡ i + 1 = omega arith in
    let element : y ≡ noted word (get_or xs i d) = is ∙ ap (noted word) (ap (λ zs. get_or zs i d) are ∙ get_rest (noted word) xs i d l) in
    ap (λ zs. set zs i y) are ∙ ap (set (map (noted word) (take i xs) ++ drop i xs) i) element ∙ set_mapped (noted word) xs i d l
    ∙ ap (λ n. map (noted word) (take n xs) ++ drop n xs) more

-- ---- occurrences

occurrences_behind : (word : Bytes) (replies : List Reply) (reply : Reply) → occurrences word (replies ++ reply ∷ []) ≡ occurrences word replies + (if same_bytes word (first_word reply) then 1 else 0)
occurrences_behind word [] reply = omega arith
occurrences_behind word (r ∷ replies) reply = omega (arith, occurrences_behind word replies reply)

one_at_most : (b : Bool) (m n : ℕ) → m ≤ n → (if b then 1 else 0) + m ≤ suc n
one_at_most true m n h = omega (arith, h)
one_at_most false m n h = omega (arith, h)

few_occurrences : (word : Bytes) (replies : List Reply) → occurrences word replies ≤ length replies
few_occurrences word [] = omega arith
few_occurrences word (r ∷ replies) = one_at_most (same_bytes word (first_word r)) _ _ (few_occurrences word replies)

-- ---- pairs

-- an entry's pair, once a reply with this word was counted
unfoldable noted_pair : Bytes → Bytes × ℕ → Bytes × ℕ
noted_pair word p = (p.0, if same_bytes p.0 word then min (p.1 + 1) (2 ^ 64 - 1) else p.1)

pair_noted : (word : Bytes) (entry : Entry) → pair_of (noted word entry) ≡ noted_pair word (pair_of entry)
unfolding noted_pair
pair_noted word entry = by (same_bytes entry.word.now word)
  where
    by : (b : Bool) → pair_of (if b then record entry { count = min (entry.count + 1) (2 ^ 64 - 1) } else entry) ≡ (entry.word.now, if b then min (entry.count + 1) (2 ^ 64 - 1) else entry.count)
    by true = refl
    by false = refl

pairs_noted : (word : Bytes) (es : List Entry) → map pair_of (map (noted word) es) ≡ map (noted_pair word) (map pair_of es)
pairs_noted word [] = refl
pairs_noted word (e ∷ es) = ap (λ p. p ∷ map pair_of (map (noted word) es)) (pair_noted word e) ∙ ap (λ ps. noted_pair word (pair_of e) ∷ ps) (pairs_noted word es)

counted_more : (b : Bool) (m n : ℕ) → m ≤ n → n < 2 ^ 64 - 1 → (if b then min (m + 1) (2 ^ 64 - 1) else m) ≡ m + (if b then 1 else 0)
counted_more true m n h l = omega (arith, h, l)
counted_more false m n h l = omega arith

word_counted : (word : Bytes) (replies : List Reply) (reply : Reply) → length replies < 2 ^ 64 - 1 → noted_pair (first_word reply) (word, occurrences word replies) ≡ (word, occurrences word (replies ++ reply ∷ []))
unfolding noted_pair
word_counted word replies reply l =
    ap (λ (n : ℕ). (word, n)) (counted_more (same_bytes word (first_word reply)) (occurrences word replies) (length replies) (few_occurrences word replies) l ∙ sym (occurrences_behind word replies reply))

words_counted : (words : List Bytes) (replies : List Reply) (reply : Reply) → length replies < 2 ^ 64 - 1 → map (noted_pair (first_word reply)) (map (λ word. (word, occurrences word replies)) words) ≡ map (λ word. (word, occurrences word (replies ++ reply ∷ []))) words
words_counted [] replies reply l = refl
words_counted (word ∷ words) replies reply l =
    ap (λ p. p ∷ map (noted_pair (first_word reply)) (map (λ w. (w, occurrences w replies)) words)) (word_counted word replies reply l)
    ∙ ap (λ ps. (word, occurrences word (replies ++ reply ∷ [])) ∷ ps) (words_counted words replies reply l)

entries_more : (words : List Bytes) (word : Bytes) (es fs : List Entry) (replies : List Reply) (reply : Reply) → fs ≡ map (noted word) es → word ≡ first_word reply → length replies < 2 ^ 64 - 1 → map pair_of es ≡ map (λ w. (w, occurrences w replies)) words → map pair_of fs ≡ map (λ w. (w, occurrences w (replies ++ reply ∷ []))) words
entries_more words word es fs replies reply are is l tallied =
    ap (map pair_of) are ∙ pairs_noted word es ∙ ap (map (noted_pair word)) tallied
    ∙ ap (λ (w : Bytes). map (noted_pair w) (map (λ v. (v, occurrences v replies)) words)) is ∙ words_counted words replies reply l

pub tallies_more : (old new : Summary) (replies : List Reply) (reply : Reply) (word : Bytes) → new.entries.items ≡ map (noted word) old.entries.items → new.line.items ≡ old.line.items → vec_capacity new.line ≡ vec_capacity old.line → word ≡ first_word reply → length replies < 2 ^ 64 - 1 → Tallies old replies → Tallies new (replies ++ reply ∷ [])
tallies_more old new replies reply word are items capacity is l t = record {
  entries = entries_more first_words word old.entries.items new.entries.items replies reply are is l t.entries;
  empty = items ∙ t.empty;
  room = subst (λ (n : ℕ). 2048 ≤ n) (sym capacity) t.room;
}
