-- What is spelled is read, whatever follows.
use Rattle.std.proofs.Common.{◌≡◌, ◌≢◌, ◌⊎◌, inl, inr, ℕ, ◌+◌, ◌^◌, ◌<◌, ◌≤◌, List, [], ◌∷◌, ◌++◌, refl, sym, ap, subst, ◌∙◌, Option, Some, None, Result, Ok, Err, Bool, true, false, cond, length, take, arith, append_assoc, append-nil}
use Rattle.std.specs.Prelude.{◌&&◌, ◌||◌, ◌==◌, not, nat_le, nat_lt, All, flat_map}
use Rattle.std.specs.List.{AllByRecursion, list_all}
use Rattle.std.proofs.lemmas.List.Elements.{recursion_from_All}
use Rattle.std.proofs.lemmas.List.{take_at, drop_at}
use Rattle.std.proofs.lemmas.Nat.{from_le_bytes-to_le_bytes_2, from_le_bytes-to_le_bytes_4, from_le_bytes-to_le_bytes_8}
use Rattle.std.specs.Int.{Width, w8, w16, w32, w64, byte_len, from_le_bytes, to_le_bytes}
use Rattle.std.proofs.lemmas.Bool.{and_from}
use Rattle.ip_spec.specs.Path.{Bytes, IsWordByte, IsStep, is_word_byte}
use Rattle.ip_spec.specs.Record.{Record, body, LeafEntry, IsLeafEntry, entry_spelling, short_text, u8, u16, u32, u64}
use Rattle.ip_spec.specs.Reading.{after, Fields, Left, ◌>>=◌, done, bytes_where, number_where, text_field, is_behind, is_name, is_step, hash_field, any, entry_field, entry_fields, leaf_fields}

-- reading these bytes gives the value, and goes on behind them
abbrev pub Reads : {A : Type 0} → Fields A → Bytes → A → Type 0
Reads f text x = (at : ℕ) (rest : Bytes) → f (at, text ++ rest) ≡ Ok (x, (at + length text, rest))

pub reads_as : {A : Type 0} (f : Fields A) (t u : Bytes) (x : A) → t ≡ u → Reads f t x → Reads f u x
reads_as f t u x e r = subst (λ v. Reads f v x) e r

pub reads_done : {A : Type 0} (x : A) → Reads (done x) [] x
reads_done x at rest = let e : at ≡ at + 0 = omega arith in ap (λ n. Ok (x, (n, rest))) e

length_both : (t u : Bytes) → length (t ++ u) ≡ length t + length u
length_both [] u = sym (zero_plus (length u))
  where
    zero_plus : (n : ℕ) → 0 + n ≡ n
    zero_plus n = omega arith
length_both (x ∷ t) u = let e = length_both t u in omega (arith, e)

pub reads_then : {A B : Type 0} (f : Fields A) (g : A → Fields B) (t u : Bytes) (x : A) (y : B) → Reads f t x → Reads (g x) u y → Reads (f >>= g) (t ++ u) y
reads_then f g t u x y r s at rest =
    let e : (at + length t) + length u ≡ at + length (t ++ u) = (let l = length_both t u in omega (arith, l)) in
    ap (λ bytes. (f >>= g) (at, bytes)) (append_assoc t u rest)
    ∙ ap (after g) (r at (u ++ rest))
    ∙ s (at + length t) rest
    ∙ ap (λ n. Ok (y, (n, rest))) e

-- a done that follows adds no bytes
pub reads_last : {A B : Type 0} (f : Fields A) (h : A → B) (t : Bytes) (x : A) → Reads f t x → Reads (f >>= λ a. done (h a)) t (h x)
reads_last f h t x r = reads_as (f >>= λ a. done (h a)) (t ++ []) t (h x) (append-nil t) (reads_then f (λ a. done (h a)) t [] x (h x) r (reads_done (h x)))

abbrev taken : ℕ → Bool → Bytes → ℕ → Bytes → Result (Bytes × Left) ℕ
taken at b text n rest = cond b (Ok (text, (at + n, rest))) (Err at)

fits : (t rest : Bytes) (n : ℕ) → length t ≡ n → nat_le n (length (t ++ rest)) ≡ true
fits t rest n l = le_test n (length (t ++ rest)) (let e = length_both t rest in omega (arith, e, l))
  where
    le_test : (m n : ℕ) → m ≤ n → nat_le m n ≡ true
    le_test m n h = grind arith

pub reads_bytes : (n : ℕ) (test : Bytes → Bool) (t : Bytes) → length t ≡ n → test t ≡ true → Reads (bytes_where n test) t t
reads_bytes n test t l pass at rest =
    let head : take n (t ++ rest) ≡ t = take_at t rest n l in
    let passes : (nat_le n (length (t ++ rest)) && test (take n (t ++ rest))) ≡ true = and_from _ _ (fits t rest n l) (ap test head ∙ pass) in
    λ i. taken at (passes i) (head i) (sym l i) (drop_at t rest n l i)

pub reads_number : (w : Width) (test : ℕ → Bool) (n : ℕ) → length (to_le_bytes w n) ≡ byte_len w → from_le_bytes w (to_le_bytes w n) ≡ n → test n ≡ true → Reads (number_where w test) (to_le_bytes w n) n
reads_number w test n l again pass =
    subst (λ m. Reads (number_where w test) (to_le_bytes w n) m) again
    (reads_last (bytes_where (byte_len w) (λ bytes. test (from_le_bytes w bytes))) (from_le_bytes w) (to_le_bytes w n) (to_le_bytes w n)
    (reads_bytes (byte_len w) (λ bytes. test (from_le_bytes w bytes)) (to_le_bytes w n) l (ap test again ∙ pass)))

pub reads_u8 : (test : ℕ → Bool) (n : ℕ) → test n ≡ true → Reads (number_where w8 test) (u8 n) n
reads_u8 test n pass = reads_last (bytes_where 1 (λ bytes. test (from_le_bytes w8 bytes))) (from_le_bytes w8) (u8 n) (u8 n) (reads_bytes 1 (λ bytes. test (from_le_bytes w8 bytes)) (u8 n) refl pass)

pub reads_u16 : (test : ℕ → Bool) (n : ℕ) → n < 2 ^ 16 → test n ≡ true → Reads (number_where w16 test) (u16 n) n
reads_u16 test n l pass = reads_number w16 test n refl (from_le_bytes-to_le_bytes_2 n l) pass

pub reads_u32 : (test : ℕ → Bool) (n : ℕ) → n < 2 ^ 32 → test n ≡ true → Reads (number_where w32 test) (u32 n) n
reads_u32 test n l pass = reads_number w32 test n refl (from_le_bytes-to_le_bytes_4 n l) pass

pub reads_u64 : (test : ℕ → Bool) (n : ℕ) → n < 2 ^ 64 → test n ≡ true → Reads (number_where w64 test) (u64 n) n
reads_u64 test n l pass = reads_number w64 test n refl (from_le_bytes-to_le_bytes_8 n l) pass

pub reads_text : (test : Bytes → Bool) (before : Option Bytes) (t : Bytes) → 0 < length t → test t ≡ true → is_behind before t ≡ true → Reads (text_field test before) (short_text t) t
reads_text test before t some pass behind =
    reads_then (number_where w8 (λ n. nat_lt 0 n)) (λ n. bytes_where n (λ bytes. test bytes && is_behind before bytes)) (u8 (length t)) t (length t) t
    (reads_u8 (λ n. nat_lt 0 n) (length t) (lt_test (length t) some)) (reads_bytes (length t) (λ bytes. test bytes && is_behind before bytes) t refl (and_from (test t) (is_behind before t) pass behind))
  where
    lt_test : (n : ℕ) → 0 < n → nat_lt 0 n ≡ true
    lt_test n l = grind arith

-- a name that is set or removed is read back
pub reads_name : (t rest : Bytes) (at : ℕ) → 0 < length t → is_name t ≡ true → text_field is_name None (at, short_text t ++ rest) ≡ Ok (t, (at + length (short_text t), rest))
reads_name t rest at some pass = reads_text is_name None t some pass refl at rest

-- ---- tests of fields

pub all_test : {X : Type 0} (P : X → Type 0) (p : X → Bool) → ((x : X) → P x → p x ≡ true) → (xs : List X) → AllByRecursion P xs → list_all p xs ≡ true
all_test P p h [] a = refl
all_test P p h (x ∷ xs) a = and_from (p x) (list_all p xs) (h x a.0) (all_test P p h xs a.1)

pub test_all : {X : Type 0} (P : X → Type 0) (p : X → Bool) → ((x : X) → P x → p x ≡ true) → (xs : List X) → All P xs → list_all p xs ≡ true
test_all P p h xs a = all_test P p h xs (recursion_from_All P xs a)

pub apart : (b c : ℕ) → b ≢ c → (b == c) ≡ false
apart b c n = grind arith

pub neither : (c d : Bool) → c ≡ false → d ≡ false → (c || d) ≡ false
neither true d h g = h
neither false d h g = g

pub negated : (c : Bool) → c ≡ false → not c ≡ true
negated true h = sym h
negated false h = refl

pub word_byte : (b : ℕ) → IsWordByte b → is_word_byte b ≡ true
word_byte b w = negated (b == 32 || b == 10 || b == 0) (neither (b == 32 || b == 10) (b == 0) (neither (b == 32) (b == 10) (apart b 32 w.1) (apart b 10 w.2)) (apart b 0 w.3))

step_test : (s : Bytes) → IsStep s → is_step s ≡ true
step_test s is = test_all (λ b. IsWordByte b × (b ≢ 47)) (λ b. is_word_byte b && not (b == 47)) (λ b w. and_from (is_word_byte b) (not (b == 47)) (word_byte b w.0) (negated (b == 47) (apart b 47 w.1))) s is.each

pub le_test : (m n : ℕ) → m ≤ n → nat_le m n ≡ true
le_test m n l = grind arith

pub lt_test : (m n : ℕ) → m < n → nat_lt m n ≡ true
lt_test m n l = grind arith

kind_test : (n : ℕ) → (n ≡ 1) ⊎ (n ≡ 2) → (n == 1 || n == 2) ≡ true
kind_test n (inl e) = ap (λ k. k == 1 || k == 2) e
kind_test n (inr e) = ap (λ k. k == 1 || k == 2) e

-- ---- entries of leaves

assoc5 : (a b c d e : Bytes) → a ++ (b ++ (c ++ (d ++ e))) ≡ a ++ b ++ c ++ d ++ e
assoc5 a b c d e = sym (append_assoc a b (c ++ (d ++ e))) ∙ sym (append_assoc (a ++ b) c (d ++ e)) ∙ sym (append_assoc (a ++ b ++ c) d e)

abbrev pub entry_made : Bytes → ℕ → ℕ → Bytes → ℕ → LeafEntry
entry_made step kind height name at = record { step = step; kind = kind; height = height; name = name; at = at }

abbrev pub from_name : Bytes → ℕ → ℕ → Bytes → Fields LeafEntry
from_name step kind height name = number_where w64 any >>= λ at. done (entry_made step kind height name at)

abbrev pub from_height : Bytes → ℕ → ℕ → Fields LeafEntry
from_height step kind height = hash_field >>= from_name step kind height

abbrev pub from_kind : Bytes → ℕ → Fields LeafEntry
from_kind step kind = number_where w8 (λ n. nat_le n 63) >>= from_height step kind

abbrev pub from_step : Bytes → Fields LeafEntry
from_step step = number_where w8 (λ n. n == 1 || n == 2) >>= from_kind step

pub reads_entry : (before : Option Bytes) (e : LeafEntry) → IsLeafEntry e → is_behind before e.step ≡ true → Reads (entry_field before) (entry_spelling e) e
reads_entry before e is behind =
    let at_name : Reads (from_name e.step e.kind e.height e.name) (u64 e.at) e = reads_last (number_where w64 any) (entry_made e.step e.kind e.height e.name) (u64 e.at) e.at (reads_u64 any e.at is.at refl) in
    let at_height : Reads (from_height e.step e.kind e.height) (e.name ++ u64 e.at) e = reads_then hash_field (from_name e.step e.kind e.height) e.name (u64 e.at) e.name e (reads_bytes 32 (λ bytes. true) e.name is.name.0 refl) at_name in
    let at_kind : Reads (from_kind e.step e.kind) (u8 e.height ++ (e.name ++ u64 e.at)) e = reads_then (number_where w8 (λ n. nat_le n 63)) (from_height e.step e.kind) (u8 e.height) (e.name ++ u64 e.at) e.height e (reads_u8 (λ n. nat_le n 63) e.height (le_test e.height 63 is.height)) at_height in
    let at_step : Reads (from_step e.step) (u8 e.kind ++ (u8 e.height ++ (e.name ++ u64 e.at))) e = reads_then (number_where w8 (λ n. n == 1 || n == 2)) (from_kind e.step) (u8 e.kind) (u8 e.height ++ (e.name ++ u64 e.at)) e.kind e (reads_u8 (λ n. n == 1 || n == 2) e.kind (kind_test e.kind is.kind)) at_kind in
    reads_as (entry_field before) (short_text e.step ++ (u8 e.kind ++ (u8 e.height ++ (e.name ++ u64 e.at)))) (entry_spelling e) e (assoc5 (short_text e.step) (u8 e.kind) (u8 e.height) e.name (u64 e.at))
    (reads_then (text_field is_step before) from_step (short_text e.step) (u8 e.kind ++ (u8 e.height ++ (e.name ++ u64 e.at))) e.step e (reads_text is_step before e.step is.step.some (step_test e.step is.step) behind) at_step)

-- each behind the one before it
abbrev pub Behind : Option Bytes → List LeafEntry → Type 0
Behind before [] = Unit {0}
Behind before (e ∷ es) = (is_behind before e.step ≡ true) × Behind (Some e.step) es

abbrev pub from_entry : ℕ → LeafEntry → Fields (List LeafEntry)
from_entry n e = entry_fields n (Some e.step) >>= λ es. done (e ∷ es)

pub reads_entries : (before : Option Bytes) (es : List LeafEntry) → AllByRecursion IsLeafEntry es → Behind before es → Reads (entry_fields (length es) before) (flat_map entry_spelling es) es
unfolding entry_fields
reads_entries before [] each behind = reads_done []
reads_entries before (e ∷ es) each behind =
    reads_then (entry_field before) (from_entry (length es)) (entry_spelling e) (flat_map entry_spelling es) e (e ∷ es) (reads_entry before e each.0 behind.0)
    (reads_last (entry_fields (length es) (Some e.step)) (λ es. e ∷ es) (flat_map entry_spelling es) es (reads_entries (Some e.step) es each.1 behind.1))

abbrev pub from_count : ℕ → Fields Record
from_count count = entry_fields count None >>= λ es. done (Record.Leaf es)

-- the body of a leaf
pub reads_leaf : (es : List LeafEntry) → length es < 2 ^ 32 → AllByRecursion IsLeafEntry es → Behind None es → (at : ℕ) (rest : Bytes) → leaf_fields (at, body (Record.Leaf es) ++ rest) ≡ Ok (Record.Leaf es, (at + length (body (Record.Leaf es)), rest))
unfolding body
reads_leaf es count each behind =
    reads_then (number_where w32 any) from_count (u32 (length es)) (flat_map entry_spelling es) (length es) (Record.Leaf es) (reads_u32 any (length es) count refl)
    (reads_last (entry_fields (length es) None) Record.Leaf (flat_map entry_spelling es) es (reads_entries None es each behind))
