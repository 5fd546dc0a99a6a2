-- Lines that are commands, and lines that go wrong: shown of the set of lines, whatever reads them.
use Rattle.std.proofs.Common.{◌≡◌, ◌≢◌, inl, inr, ℕ, zero, suc, ◌<◌, ◌≤◌, List, [], ◌∷◌, ◌++◌, refl, sym, ap, ◌∙◌, Option, Some, None, Bool, true, false, lit<, lit≤, arith, take}
use Rattle.std.specs.Prelude.{codes, ◌==◌, ◌&&◌}
use Rattle.std.proofs.Common.{append_assoc}
use Rattle.ip_spec.specs.Path.{Bytes, space, IsWordByte}
use Rattle.std.specs.Fmt.{digits}
use Rattle.std.proofs.lemmas.List.Elements.{All-from_recursion}
use Rattle.ip_spec.specs.Record.{IsInfo, IsBranchName}
use Rattle.ip_spec.specs.Machine.{Command, Target}
use Rattle.ip_spec.specs.Line.{LineOf, first_word, forms_of, IsLineOf, Begins, IsBadAt}

abbrev StartsWith : Bytes → Bytes → Type 0
StartsWith line head = (rest : Bytes) × (line ≡ head ++ rest)

line_starts : (forms : List (Bytes → Type 0)) (head line : Bytes) → LineOf head forms line → StartsWith line head
line_starts [] head line is = ([], is ∙ sym (append_nil head))
  where
    append_nil : (xs : Bytes) → xs ++ [] ≡ xs
    append_nil [] = refl
    append_nil (x ∷ xs) = ap (λ ys. x ∷ ys) (append_nil xs)
line_starts (Form ∷ forms) head line (word, is, rest) =
    let more = line_starts forms (head ++ space ∷ word) line rest in
    ((space ∷ word) ++ more.0, more.1 ∙ append_assoc head (space ∷ word) more.0)

starts : (c : Command) (line : Bytes) → IsLineOf c line → StartsWith line (first_word c)
starts c line h = line_starts (forms_of c) (first_word c) line h

-- two texts agree as far as both go
agree : Bytes → Bytes → Bool
agree [] ys = true
agree (x ∷ xs) [] = true
agree (x ∷ xs) (y ∷ ys) = x == y && agree xs ys

agrees : (text head rest more : Bytes) → text ++ rest ≡ head ++ more → agree text head ≡ true
unfolding agree
agrees [] head rest more e = refl
agrees (x ∷ text) [] rest more e = refl
agrees (x ∷ text) (y ∷ head) rest more e = both (x == y) (agree text head) (same x y cc) (agrees text head rest more (tails e))
  where
    both : (b c : Bool) → b ≡ true → c ≡ true → (b && c) ≡ true
    both true c h g = g
    both false c h g = h

    same : (m n : ℕ) → m ≡ n → (m == n) ≡ true
    same m n e = grind arith

    tail : Bytes → Bytes
    tail [] = []
    tail (z ∷ zs) = zs

    tails : x ∷ (text ++ rest) ≡ y ∷ (head ++ more) → text ++ rest ≡ head ++ more
    tails e = ap tail e

-- no line begins with a text that agrees with no first word
none_begins : (text : Bytes) → ((c : Command) → agree text (first_word c) ≡ false) → ¬ (Begins IsLineOf text)
none_begins text apart (c, rest, is) =
    let s = starts c (text ++ rest) is in
    no_true (apart c) (agrees text (first_word c) rest s.0 s.1)
  where
    no_true : {b : Bool} → b ≡ false → b ≡ true → ⊥
    no_true f t = cc

-- `comi`, and what follows
comi_apart : (tail : Bytes) (c : Command) → agree (99 ∷ 111 ∷ 109 ∷ 105 ∷ tail) (first_word c) ≡ false
unfolding agree
comi_apart tail Command.Empty = refl
comi_apart tail _ = refl

-- a line that begins with `comi` agrees with no first word
comit_is_none : (c : Command) → ¬ (IsLineOf c (codes "comit"))
comit_is_none c is = none_begins (codes "comit") (comi_apart (116 ∷ [])) (c, [], is)

is_word_byte : (b : ℕ) → b < 256 → b ≢ 32 → b ≢ 10 → b ≢ 0 → IsWordByte b
is_word_byte b a c d e = (a, c, d, e)

short_name : IsBranchName (codes "m")
short_name = record { some = lit< tt; short = lit≤ tt; each = All-from_recursion IsWordByte (codes "m") (is_word_byte 109 (lit< tt) (omega arith) (omega arith) (omega arith), tt); no_reference = λ e. absurd (other e) }
  where
    at : Option ℕ → ℕ
    at None = 0
    at (Some b) = b

    other : ◌≡◌ {A = Option ℕ} (Some 109) (Some 64) → ⊥
    other e = let f : 109 ≡ 64 = ap at e in omega (arith, f)

short_info : IsInfo (record { date = 0; author = codes "m"; message = codes "m" })
short_info = record {
  date = lit< tt;
  author_some = lit< tt;
  author_short = lit≤ tt;
  author = All-from_recursion IsWordByte (codes "m") (is_word_byte 109 (lit< tt) (omega arith) (omega arith) (omega arith), tt);
  message_some = lit< tt;
  message_short = lit≤ tt;
  message = All-from_recursion (λ b. (b < 256) × (b ≢ 10) × (b ≢ 0)) (codes "m") ((lit< tt, omega arith, omega arith), tt);
}

commit_line : IsLineOf (Command.Commit (codes "m") (record { date = 0; author = codes "m"; message = codes "m" })) (codes "commit m 0 m m")
unfolding digits
commit_line = (codes "m", (short_name, refl), (codes "0 m m", (short_info, refl), refl))

comit_begins : Begins IsLineOf (codes "com")
comit_begins = (Command.Commit (codes "m") (record { date = 0; author = codes "m"; message = codes "m" }), codes "mit m 0 m m", commit_line)

comit_longest : (n : ℕ) → 3 < n → n ≤ 5 → ¬ (Begins IsLineOf (take n (codes "comit")))
comit_longest zero l h = absurd (omega (arith, l))
comit_longest (suc zero) l h = absurd (omega (arith, l))
comit_longest (suc (suc zero)) l h = absurd (omega (arith, l))
comit_longest (suc (suc (suc zero))) l h = absurd (omega (arith, l))
comit_longest (suc (suc (suc (suc n)))) l h = none_begins (99 ∷ 111 ∷ 109 ∷ 105 ∷ take n (116 ∷ [])) (comi_apart (take n (116 ∷ [])))

a_misspelled_word_goes_wrong_where_no_word_goes_on : IsBadAt IsLineOf (codes "comit") 3
a_misspelled_word_goes_wrong_where_no_word_goes_on = record { no_command = comit_is_none; in_line = lit≤ tt; begins = comit_begins; longest = comit_longest }

message_byte : (b : ℕ) → b < 256 → b ≢ 10 → b ≢ 0 → (b < 256) × (b ≢ 10) × (b ≢ 0)
message_byte b low no_feed no_nul = (low, no_feed, no_nul)

spaced_info : IsInfo (record { date = 0; author = codes "m"; message = codes " m " })
spaced_info = record {
  date = lit< tt;
  author_some = lit< tt;
  author_short = lit≤ tt;
  author = All-from_recursion IsWordByte (codes "m") (is_word_byte 109 (lit< tt) (omega arith) (omega arith) (omega arith), tt);
  message_some = lit< tt;
  message_short = lit≤ tt;
  message = All-from_recursion (λ b. (b < 256) × (b ≢ 10) × (b ≢ 0)) (codes " m ")
      (message_byte 32 (lit< tt) (omega arith) (omega arith), (message_byte 109 (lit< tt) (omega arith) (omega arith), (message_byte 32 (lit< tt) (omega arith) (omega arith), tt)));
}

-- a message is the rest of the line, with the spaces at its ends
a_message_keeps_its_spaces : IsLineOf (Command.Commit (codes "m") (record { date = 0; author = codes "m"; message = codes " m " })) (codes "commit m 0 m  m ")
unfolding digits
a_message_keeps_its_spaces = (codes "m", (short_name, refl), (codes "0 m  m ", (spaced_info, refl), refl))

digits_may_be_of_either_case : IsLineOf (Command.Hash (171 ∷ [])) (codes "hash aB")
digits_may_be_of_either_case = (codes "aB", (inr (lit≤ tt, lit< tt, inl refl), inr (lit≤ tt, lit< tt, inr refl), tt), refl)

no_bytes_are_a_minus : IsLineOf (Command.Hash []) (codes "hash -")
no_bytes_are_a_minus = (codes "-", refl, refl)
