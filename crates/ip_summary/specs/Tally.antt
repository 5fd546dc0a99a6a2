-- How replies are counted by their first words.
--     first_words      the words with which replies begin.      is_stop b      a byte that ends a word
--     occurrences word replies      how many replies begin with it
--     noted word entry      one more, where the word is the entry's.      entry_text entry      what is written of it
--     Tallies s replies      the entries count these replies, and there is room for the line
use Rattle.std.specs.Prelude.{◌≡◌, ◌≤◌, ◌+◌, ◌-◌, ◌^◌, ◌==◌, ℕ, Bool, ◌||◌, List, [], ◌∷◌, ◌++◌, map, codes, min, if◌then◌else◌}
use Rattle.std.specs.Fmt.{decimal}
use Rattle.std.specs.Vec.{vec_capacity}
use Rattle.ip_spec.specs.Path.{Bytes, space, line_feed, same_bytes}
use Rattle.ip_spec.specs.Load.{first_word}
use Rattle.ip_spec.specs.declared.reply.Reply.{Reply}
use Rattle.ip_summary.specs.declared.summary.Entry.{Entry}
use Rattle.ip_summary.specs.declared.summary.Summary.{Summary}

abbrev pub is_stop : ℕ → Bool
is_stop b = (b == space) || (b == line_feed)

abbrev pub first_words : List Bytes
first_words =
    codes "absent" ∷ codes "at" ∷ codes "bad" ∷ codes "bases" ∷ codes "branches" ∷ codes "busy" ∷ codes "cancelled" ∷ codes "checking" ∷ codes "collected" ∷ codes "commit" ∷ codes "committed"
    ∷ codes "conflict" ∷ codes "contents" ∷ codes "current" ∷ codes "dir" ∷ codes "existing" ∷ codes "forward" ∷ codes "given-up" ∷ codes "hash" ∷ codes "head-moved" ∷ codes "held" ∷ codes "idle"
    ∷ codes "lcas" ∷ codes "leaving" ∷ codes "limit" ∷ codes "list" ∷ codes "log" ∷ codes "memory" ∷ codes "merged" ∷ codes "no-branch" ∷ codes "no-commit" ∷ codes "ok" ∷ codes "rejected"
    ∷ codes "running" ∷ codes "start-fault" ∷ codes "started" ∷ codes "stat" ∷ codes "value" ∷ codes "wait-fault" ∷ []

abbrev pub occurrences : Bytes → List Reply → ℕ
occurrences word [] = 0
occurrences word (reply ∷ replies) = (if same_bytes word (first_word reply) then 1 else 0) + occurrences word replies

-- ---- entries

abbrev pub noted : Bytes → Entry → Entry
noted word entry = if same_bytes entry.word.now word then record entry { count = min (entry.count + 1) (2 ^ 64 - 1) } else entry

abbrev pub entry_text : Entry → Bytes
entry_text entry = if entry.count == 0 then [] else space ∷ entry.word.now ++ space ∷ decimal entry.count

abbrev pub pair_of : Entry → Bytes × ℕ
pair_of entry = (entry.word.now, entry.count)

pub record Tallies (s : Summary) (replies : List Reply) : Type 0 where
  pub entries : map pair_of s.entries.items ≡ map (λ word. (word, occurrences word replies)) first_words
  pub empty : s.line.items ≡ []
  pub room : 2048 ≤ vec_capacity s.line
