-- The first words of replies.
--     first_at      the bytes before the first stop are the word before it
--     known_first      each reply begins with a word of the table
--     before_stop      what stands before the first stop of a reply's text is its first word
use Rattle.std.proofs.Common.{◌≡◌, ℕ, zero, suc, ◌||◌, Bool, true, false, List, [], ◌∷◌, ◌++◌, take, drop, get_or, refl, ap, ◌∙◌, IsTrue, append_assoc}
use Rattle.std.specs.List.{list_any, join_with_byte}
use Rattle.ip_spec.specs.Load.{first_word}
use Rattle.ip_spec.specs.Path.{Bytes, space, line_feed, same_bytes}
use Rattle.ip_spec.specs.Text.{words_of, reply_text}
use Rattle.ip_spec.specs.declared.reply.Reply.{Reply}
use Rattle.ip_spec.specs.declared.reply.Reply.TheVariants as kind
use Rattle.ip_summary.specs.Tally.{is_stop, first_words}

left_false : (a b : Bool) → (a || b) ≡ false → a ≡ false
left_false false b e = refl
left_false true b e = absurd (cc e)

right_false : (a b : Bool) → (a || b) ≡ false → b ≡ false
right_false false b e = e
right_false true b e = absurd (cc e)

pub first_at : (word : List ℕ) (c : ℕ) (rest : List ℕ) (n : ℕ) → list_any is_stop word ≡ false → IsTrue (is_stop c) → list_any is_stop (take n (word ++ c ∷ rest)) ≡ false → IsTrue (is_stop (get_or (word ++ c ∷ rest) n 0)) → take n (word ++ c ∷ rest) ≡ word
first_at [] c rest zero none is before here = refl
first_at [] c rest (suc n) none is before here = absurd (cc (is, left_false (is_stop c) _ before))
first_at (b ∷ word) c rest zero none is before here = absurd (cc (here, left_false (is_stop b) _ none))
first_at (b ∷ word) c rest (suc n) none is before here = ap (λ bytes. b ∷ bytes) (first_at word c rest n (right_false (is_stop b) _ none) is (right_false (is_stop b) _ before) here)

-- ---- replies

-- the words of a reply begin with one of the words in the table, in which nothing ends a word
abbrev BeginsBy : Bytes → List Bytes → Type 0
BeginsBy word words = (words ≡ word ∷ drop 1 words) × (list_any is_stop word ≡ false) × (list_any (same_bytes word) first_words ≡ true)

reply_begins : (reply : Reply) → BeginsBy (first_word reply) (words_of reply)
reply_begins kind.Accepted = (refl, refl, refl)
reply_begins kind.Absent = (refl, refl, refl)
reply_begins kind.Contents = (refl, refl, refl)
reply_begins kind.Idle = (refl, refl, refl)
reply_begins kind.Running = (refl, refl, refl)
reply_begins kind.Cancelled = (refl, refl, refl)
reply_begins kind.CancelledOrphan = (refl, refl, refl)
reply_begins kind.StartFault = (refl, refl, refl)
reply_begins kind.WaitFault = (refl, refl, refl)
reply_begins kind.Memory = (refl, refl, refl)
reply_begins (kind.Bad n) = (refl, refl, refl)
reply_begins (kind.At h) = (refl, refl, refl)
reply_begins (kind.Committed h) = (refl, refl, refl)
reply_begins (kind.Merged h) = (refl, refl, refl)
reply_begins (kind.Current h) = (refl, refl, refl)
reply_begins (kind.Forward h) = (refl, refl, refl)
reply_begins (kind.Started h) = (refl, refl, refl)
reply_begins (kind.Hash h) = (refl, refl, refl)
reply_begins (kind.Existing h) = (refl, refl, refl)
reply_begins (kind.HeadMoved h) = (refl, refl, refl)
reply_begins (kind.Busy h) = (refl, refl, refl)
reply_begins (kind.NoCommit h) = (refl, refl, refl)
reply_begins (kind.Dir n) = (refl, refl, refl)
reply_begins (kind.Leaving n) = (refl, refl, refl)
reply_begins (kind.GivenUp n) = (refl, refl, refl)
reply_begins (kind.Bases n) = (refl, refl, refl)
reply_begins (kind.Checking n) = (refl, refl, refl)
reply_begins (kind.Collected n left) = (refl, refl, refl)
reply_begins (kind.Value bytes) = (refl, refl, refl)
reply_begins (kind.List es) = (refl, refl, refl)
reply_begins (kind.Branches heads) = (refl, refl, refl)
reply_begins (kind.Commit h n root parents info) = (refl, refl, refl)
reply_begins (kind.Log hashes) = (refl, refl, refl)
reply_begins (kind.Lcas hashes) = (refl, refl, refl)
reply_begins (kind.Held name) = (refl, refl, refl)
reply_begins (kind.NoBranch name) = (refl, refl, refl)
reply_begins (kind.Conflict path) = (refl, refl, refl)
reply_begins (kind.Limit l) = (refl, refl, refl)
reply_begins (kind.RejectedExit e) = (refl, refl, refl)
reply_begins (kind.Rejected d) = (refl, refl, refl)
reply_begins (kind.Stat floor next branches at) = (refl, refl, refl)

pub known_first : (reply : Reply) → list_any (same_bytes (first_word reply)) first_words ≡ true
known_first reply = (reply_begins reply).2

-- behind its first word a text of words has a stop
stop_behind : (word : Bytes) (words : List Bytes) → (c : ℕ) × (rest : Bytes) × (join_with_byte space (word ∷ words) ++ line_feed ∷ [] ≡ word ++ c ∷ rest) × IsTrue (is_stop c)
stop_behind word [] = (line_feed, [], refl, refl)
stop_behind word (w ∷ words) = (space, join_with_byte space (w ∷ words) ++ line_feed ∷ [], append_assoc word (space ∷ join_with_byte space (w ∷ words)) (line_feed ∷ []), refl)

-- what stands before the first stop of a reply's text is its first word
pub before_stop : (reply : Reply) (found : Bytes) → ((word : Bytes) (c : ℕ) (rest : Bytes) → reply_text reply ≡ word ++ c ∷ rest → list_any is_stop word ≡ false → IsTrue (is_stop c) → found ≡ word) → found ≡ first_word reply
unfolding reply_text
before_stop reply found at =
    let begins = reply_begins reply in
    let behind = stop_behind (first_word reply) (drop 1 (words_of reply)) in
    at (first_word reply) behind.0 behind.1 (ap (λ (words : List Bytes). join_with_byte space words ++ line_feed ∷ []) begins.0 ∙ behind.2) begins.1 behind.3
