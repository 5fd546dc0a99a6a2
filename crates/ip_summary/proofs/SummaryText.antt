-- The line of a load, by its entries.
--     few_entries, short_words      how many entries there are, and how long their words are
--     summary_text      the summary is what is written of each entry, behind the count
use Rattle.std.proofs.Common.{◌≡◌, ℕ, zero, suc, ◌+◌, ◌≤◌, ◌==◌, Bool, true, false, cond, not, T, List, [], ◌∷◌, ◌++◌, map, length, get_or, drop, flat_map, codes, decimal, Option, Some, None, refl, sym, ap, ◌∙◌, subst, arith, if◌then◌else◌, append_assoc, All}
use Rattle.std.proofs.Math.Dec.{lit≤}
use Rattle.std.proofs.lemmas.List.{append-nil, length-map}
use Rattle.std.proofs.lemmas.List.Elements.{All-from_recursion}
use Rattle.std.proofs.lemmas.List.Folds.{flat_map-map}
use Rattle.std.specs.List.{list_any, join_with_byte, AllByRecursion}
use Rattle.std.specs.Prelude.{◌||◌, unwrap_or}
use Rattle.std.specs.Cmp.Lexicographic.{nat_list_cmp_total}
use Rattle.std.specs.FinMap.Entries.{find, where_key, is_sorted, is_sorted-where_key, find-where_key, same_entries}
use Rattle.ip_spec.specs.Load.{first_word, counts_of, summary}
use Rattle.ip_spec.specs.Map.{empty, get, get-insert}
use Rattle.ip_spec.specs.Path.{Bytes, bytes_cmp, space, line_feed, same_bytes}
use Rattle.ip_spec.specs.declared.reply.Reply.{Reply}
use Rattle.ip_spec.proofs.Subtrees.{same_step, step_antisymmetric}
use Rattle.ip_summary.specs.declared.summary.Entry.{Entry}
use Rattle.ip_summary.specs.Tally.{first_words, occurrences, entry_text, pair_of}
use Rattle.ip_summary.proofs.Firsts.{known_first}

-- ---- entries

few : (words : List Bytes) (f : Bytes → ℕ) (es : List Entry) → map pair_of es ≡ map (λ word. (word, f word)) words → length es ≡ length words
few words f es are = sym (length-map es pair_of) ∙ ap length are ∙ length-map words (λ word. (word, f word))

pub few_entries : (replies : List Reply) (es : List Entry) → map pair_of es ≡ map (λ word. (word, occurrences word replies)) first_words → length es ≡ 39
few_entries replies es are = few first_words (λ word. occurrences word replies) es are

short_by : (words : List Bytes) (f : Bytes → ℕ) (es : List Entry) → map pair_of es ≡ map (λ word. (word, f word)) words → AllByRecursion (λ (word : Bytes). length word ≤ 11) words → AllByRecursion (λ (entry : Entry). length entry.word.now ≤ 11) es
short_by words f [] are short = tt
short_by [] f (e ∷ es) are short = absurd (cc are)
short_by (word ∷ words) f (e ∷ es) are short =
    (subst (λ (w : Bytes). length w ≤ 11) (sym (ap (λ (ps : List (Bytes × ℕ)). (get_or ps 0 ([], 0)).0) are)) short.0, short_by words f es (ap (λ (ps : List (Bytes × ℕ)). drop 1 ps) are) short.1)

short_firsts : AllByRecursion (λ (word : Bytes). length word ≤ 11) first_words
short_firsts = (lit≤ tt, (lit≤ tt, (lit≤ tt, (lit≤ tt, (lit≤ tt, (lit≤ tt, (lit≤ tt, (lit≤ tt, (lit≤ tt, (lit≤ tt, (lit≤ tt, (lit≤ tt, (lit≤ tt, (lit≤ tt, (lit≤ tt, (lit≤ tt, (lit≤ tt, (lit≤ tt, (lit≤ tt, (lit≤ tt, (lit≤ tt, (lit≤ tt, (lit≤ tt, (lit≤ tt, (lit≤ tt, (lit≤ tt, (lit≤ tt, (lit≤ tt, (lit≤ tt, (lit≤ tt, (lit≤ tt, (lit≤ tt, (lit≤ tt, (lit≤ tt, (lit≤ tt, (lit≤ tt, (lit≤ tt, (lit≤ tt, (lit≤ tt, tt)))))))))))))))))))))))))))))))))))))))

pub short_words : (replies : List Reply) (es : List Entry) → map pair_of es ≡ map (λ word. (word, occurrences word replies)) first_words → All (λ (entry : Entry). length entry.word.now ≤ 11) es
short_words replies es are = All-from_recursion (λ (entry : Entry). length entry.word.now ≤ 11) es (short_by first_words (λ word. occurrences word replies) es are short_firsts)

-- ---- what the counts have of a word

abbrev some_count : ℕ → Option ℕ
some_count zero = None
some_count (suc n) = Some (suc n)

one_more : (n : ℕ) → Some (unwrap_or (some_count n) 0 + 1) ≡ some_count (1 + n)
one_more zero = refl
one_more (suc n) = ap (λ (m : ℕ). Some m) (let e : suc n + 1 ≡ suc (suc n) = omega arith in e) ∙ ap some_count (let e : suc (suc n) ≡ 1 + suc n = omega arith in e)

no_counts : (q : Bytes) → find bytes_cmp q (counts_of []).entries ≡ None
unfolding empty
no_counts q = refl

find_counts : (q : Bytes) (replies : List Reply) → find bytes_cmp q (counts_of replies).entries ≡ some_count (occurrences q replies)
find_counts q [] = no_counts q
find_counts q (reply ∷ replies) =
    get-insert nat_list_cmp_total (counts_of replies) (first_word reply) (unwrap_or (get (counts_of replies) (first_word reply)) 0 + 1) q
    ∙ by (same_bytes q (first_word reply)) refl (find_counts q replies) (find_counts (first_word reply) replies)
  where
    by : (b : Bool) → same_bytes q (first_word reply) ≡ b → find bytes_cmp q (counts_of replies).entries ≡ some_count (occurrences q replies) → find bytes_cmp (first_word reply) (counts_of replies).entries ≡ some_count (occurrences (first_word reply) replies)
        → cond b (Some (unwrap_or (find bytes_cmp (first_word reply) (counts_of replies).entries) 0 + 1)) (find bytes_cmp q (counts_of replies).entries) ≡ some_count ((if b then 1 else 0) + occurrences q replies)
    by true e here first =
        ap (λ (o : Option ℕ). Some (unwrap_or o 0 + 1)) first ∙ one_more (occurrences (first_word reply) replies)
        ∙ ap (λ (w : Bytes). some_count (1 + occurrences w replies)) (sym (same_step q (first_word reply) e))
    by false e here first = here ∙ ap some_count (let same : occurrences q replies ≡ 0 + occurrences q replies = omega arith in same)

-- ---- the words that have replies

-- those of the words that have any, with how many
abbrev shown : (Bytes → ℕ) → List Bytes → List (Bytes × ℕ)
shown f words = where_key bytes_cmp (λ word. not (f word == 0)) (map (λ word. (word, f word)) words)

find_words : (f : Bytes → ℕ) (q : Bytes) (words : List Bytes) → find bytes_cmp q (map (λ word. (word, f word)) words) ≡ cond (list_any (same_bytes q) words) (Some (f q)) None
find_words f q [] = refl
find_words f q (word ∷ words) = by (same_bytes q word) refl (find_words f q words)
  where
    by : (b : Bool) → same_bytes q word ≡ b → find bytes_cmp q (map (λ w. (w, f w)) words) ≡ cond (list_any (same_bytes q) words) (Some (f q)) None → cond b (Some (f word)) (find bytes_cmp q (map (λ w. (w, f w)) words)) ≡ cond (b || list_any (same_bytes q) words) (Some (f q)) None
    by true e rest = ap (λ (w : Bytes). Some (f w)) (sym (same_step q word e))
    by false e rest = rest

none_at_zero : (n : ℕ) → (suc n == 0) ≡ false
none_at_zero n = grind arith

where_known : (b : Bool) (n : ℕ) → (b ≡ false → n ≡ 0) → cond (not (n == 0)) (cond b (Some n) None) None ≡ some_count n
where_known true zero known = refl
where_known true (suc n) known = ap (λ (t : Bool). cond (not t) (Some (suc n)) None) (none_at_zero n)
where_known false zero known = refl
where_known false (suc n) known = absurd (omega (arith, known refl))

find_shown : (f : Bytes → ℕ) (q : Bytes) (words : List Bytes) → (list_any (same_bytes q) words ≡ false → f q ≡ 0) → find bytes_cmp q (shown f words) ≡ some_count (f q)
find_shown f q words known =
    find-where_key bytes_cmp (λ word. not (f word == 0)) q (λ x e. ap (λ (w : Bytes). not (f w == 0)) (sym (step_antisymmetric q x e))) (map (λ word. (word, f word)) words)
    ∙ ap (λ (o : Option ℕ). cond (not (f q == 0)) o None) (find_words f q words) ∙ where_known (list_any (same_bytes q) words) (f q) known

module _ (words : List Bytes) (known : (reply : Reply) → list_any (same_bytes (first_word reply)) words ≡ true) (sorted : (f : Bytes → ℕ) → T (is_sorted bytes_cmp (map (λ word. (word, f word)) words))) where
  unknown : (q : Bytes) (replies : List Reply) → list_any (same_bytes q) words ≡ false → occurrences q replies ≡ 0
  unknown q [] none = refl
  unknown q (reply ∷ replies) none = by (same_bytes q (first_word reply)) refl (unknown q replies none)
    where
      by : (b : Bool) → same_bytes q (first_word reply) ≡ b → occurrences q replies ≡ 0 → (if b then 1 else 0) + occurrences q replies ≡ 0
      by true e rest = absurd (cc (none, subst (λ (w : Bytes). list_any (same_bytes w) words ≡ true) (sym (same_step q (first_word reply) e)) (known reply)))
      by false e rest = omega (arith, rest)

  counts_shown : (replies : List Reply) → (counts_of replies).entries ≡ shown (λ word. occurrences word replies) words
  counts_shown replies =
      same_entries bytes_cmp nat_list_cmp_total step_antisymmetric (counts_of replies).entries (shown (λ word. occurrences word replies) words) (counts_of replies).sorted
      (is_sorted-where_key bytes_cmp (λ word. not (occurrences word replies == 0)) (map (λ word. (word, occurrences word replies)) words) (sorted (λ word. occurrences word replies)))
      (λ q. find_counts q replies ∙ sym (find_shown (λ word. occurrences word replies) q words (unknown q replies)))

-- ---- the text

abbrev two_words : Bytes × ℕ → List Bytes
two_words e = e.0 ∷ decimal e.1 ∷ []

abbrev two_text : Bytes × ℕ → Bytes
two_text e = space ∷ (e.0 ++ space ∷ decimal e.1)

abbrev pair_text : Bytes × ℕ → Bytes
pair_text e = if e.1 == 0 then [] else space ∷ e.0 ++ space ∷ decimal e.1

joined_words : (word : Bytes) (es : List (Bytes × ℕ)) → join_with_byte space (word ∷ flat_map two_words es) ≡ word ++ flat_map two_text es
joined_words word [] = sym (append-nil word)
joined_words word (e ∷ es) =
    ap (λ (t : Bytes). word ++ (space ∷ (e.0 ++ (space ∷ t)))) (joined_words (decimal e.1) es) ∙ ap (λ (t : Bytes). word ++ (space ∷ t)) (sym (append_assoc e.0 (space ∷ decimal e.1) (flat_map two_text es)))

shown_text : (f : Bytes → ℕ) (words : List Bytes) → flat_map two_text (shown f words) ≡ flat_map pair_text (map (λ word. (word, f word)) words)
shown_text f [] = refl
shown_text f (word ∷ words) = by (f word == 0) (shown_text f words)
  where
    by : (b : Bool) → flat_map two_text (shown f words) ≡ flat_map pair_text (map (λ w. (w, f w)) words) → flat_map two_text (cond (not b) ((word, f word) ∷ shown f words) (shown f words)) ≡ (if b then [] else space ∷ word ++ space ∷ decimal (f word)) ++ flat_map pair_text (map (λ w. (w, f w)) words)
    by true rest = rest
    by false rest = ap (λ (t : Bytes). space ∷ (word ++ (space ∷ decimal (f word))) ++ t) rest

entries_text : (words : List Bytes) (f : Bytes → ℕ) (es : List Entry) → map pair_of es ≡ map (λ word. (word, f word)) words → flat_map two_text (shown f words) ≡ flat_map entry_text es
entries_text words f es are = shown_text f words ∙ ap (flat_map pair_text) (sym are) ∙ flat_map-map pair_text pair_of es

counts_text : (words : List Bytes) (number : Bytes) (counts : List (Bytes × ℕ)) (f : Bytes → ℕ) (es : List Entry) → counts ≡ shown f words → map pair_of es ≡ map (λ word. (word, f word)) words → join_with_byte space (number ∷ flat_map two_words counts) ≡ number ++ flat_map entry_text es
counts_text words number counts f es shows are =
    joined_words number counts ∙ ap (λ (t : Bytes). number ++ t) (ap (flat_map two_text) shows ∙ entries_text words f es are)

pub summary_text : (count : ℕ) (replies : List Reply) (es : List Entry) → map pair_of es ≡ map (λ word. (word, occurrences word replies)) first_words → codes "load " ++ decimal count ++ flat_map entry_text es ++ line_feed ∷ [] ≡ summary count replies
unfolding summary
summary_text count replies es are =
    ap (λ (t : Bytes). codes "load " ++ t ++ line_feed ∷ [])
    (sym (counts_text first_words (decimal count) (counts_of replies).entries (λ word. occurrences word replies) es (counts_shown first_words known_first (λ f. tt) replies) are))
