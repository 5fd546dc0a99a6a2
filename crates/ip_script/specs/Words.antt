-- What the words of a line say, one behind the other.
--     left_of words      what is still to be read
--     word_at field text, left_at field text      the word behind the byte at the front of a text, and what is left behind it
--     path_at word, place_at word      the steps that a path and a place say
--     contents_of word      what digits say.      target_of word      what a reference names.      info_at text      the info of a commit, which takes three words
use Rattle.std.specs.Prelude.{ℕ, ◌==◌, if◌then◌else◌, [], ◌∷◌, take, drop, replicate}
use Rattle.std.specs.Result.{result_unwrap_or}
use Rattle.hex.specs.Hex.{decode_of, decode_sized}
use Rattle.ip_base.specs.declared.hash.Hash.{Hash}
use Rattle.ip_base.specs.declared.info.Info.{Info}
use Rattle.ip_spec.specs.declared.command.Target.{Target}
use Rattle.ip_spec.specs.Path.{Bytes, Path}
use Rattle.ip_script.specs.declared.field.Field.{Field}
use Rattle.ip_script.specs.declared.field.Field.TheVariants.{Date, Author, Message}
use Rattle.ip_script.specs.declared.words.Words.{Words}
use Rattle.ip_script.specs.Dates.{date_value}
use Rattle.ip_script.specs.Fields.{field_length}

abbrev pub left_of : Words → Bytes
left_of words = words.left.now

abbrev pub word_at : Field → Bytes → Bytes
word_at field text = take (field_length field (drop 1 text)) (drop 1 text)

abbrev pub left_at : Field → Bytes → Bytes
left_at field text = drop (field_length field (drop 1 text)) (drop 1 text)

-- one more byte in front of the first step
abbrev pub step_with : ℕ → Path → Path
step_with b [] = (b ∷ []) ∷ []
step_with b (step ∷ path) = (b ∷ step) ∷ path

-- what stands between slashes
abbrev pub path_at : Bytes → Path
path_at [] = [] ∷ []
path_at (b ∷ word) = if b == 47 then [] ∷ path_at word else step_with b (path_at word)

-- a `/` in front is the root, which has no steps
abbrev pub place_at : Bytes → Path
place_at [] = path_at []
place_at (b ∷ word) = if b == 47 then [] else path_at (b ∷ word)

-- a `-` has no pair of digits, and says no bytes
abbrev pub contents_of : Bytes → Bytes
contents_of word = result_unwrap_or (decode_of word) []

-- Of a commit's name there are 64 digits. No line has other ones there, and they say zeros.
abbrev pub hash_of : Bytes → Hash
hash_of digits = result_unwrap_or (decode_sized digits 32) (replicate 32 0)

-- a commit's name stands behind `@`; any other word is a branch
abbrev pub target_of : Bytes → Target
target_of [] = Target.Branch []
target_of (b ∷ text) = if b == 64 then Target.Commit (hash_of text) else Target.Branch (b ∷ text)

abbrev pub info_at : Bytes → Info
info_at text = record {
  date = date_value (word_at Date text);
  author = word_at Author (left_at Date text);
  message = word_at Message (left_at Author (left_at Date text));
}
