-- What is read is a record within its bounds, and spells the bytes that were read.
use Rattle.std.proofs.Common.{◌≡◌, ◌≢◌, ◌⊎◌, ℕ, zero, suc, ◌+◌, ◌^◌, ◌<◌, ◌≤◌, List, [], ◌∷◌, ◌++◌, refl, sym, ap, subst, ◌∙◌, Option, Some, None, Result, Ok, Err, Bool, true, false, T, map, length, take, drop, arith, append_assoc, append-nil, lit≤, ◌-◌, eqb→eq}
use Rattle.std.specs.Prelude.{◌&&◌, ◌||◌, ◌==◌, not, nat_le, nat_lt, All, flat_map, slice_get, if◌then◌else◌}
use Rattle.std.specs.List.{AllByRecursion, list_all}
use Rattle.std.specs.List.Sorted.{IsStrictlyIncreasing}
use Rattle.std.specs.FinMap.Entries as Entries
use Rattle.std.specs.Cmp.Lexicographic.{nat_list_cmp_total}
use Rattle.std.specs.Ordering.{is_lt}
use Rattle.std.specs.declared.cmp.Ordering.{Ordering}
use Rattle.std.specs.declared.cmp.Ordering.TheVariants.{Less, Equal, Greater}
use Rattle.std.specs.Int.{w8, w16, w32, w64, from_le_bytes}
use Rattle.std.proofs.lemmas.Nat.{le_bytes_4}
use Rattle.std.proofs.lemmas.List.{take-append-drop, length-take-le, length-drop}
use Rattle.std.proofs.lemmas.List.Elements.{All-from_recursion, recursion_from_All}
use Rattle.ip_spec.specs.Path.{Bytes, bytes_cmp, IsWordByte, IsStep, is_word_byte, AreBytes}
use Rattle.ip_spec.specs.Record.{Record, Names, name_set, name_remove, name_table, Branch, body, spelling, kind_of, FieldsFit, HasTags, Fits, LeafEntry, IsLeafEntry, entry_spelling, InodeChild, IsInodeChild, bitmap, child_spelling, Parent, IsInfo, info_spelling, IsHash, IsU64, IsBranchName, IsTable, are_rising, short_text, long_text, u8, u16, u32, u64, contents_limit}
use Rattle.ip_spec.specs.Reading.{Fields, Left, ◌>>=◌, done, bytes_where, number_where, text_field, is_behind, is_name, is_step, begins_with_at, is_author, is_message, hash_field, any, entry_field, entry_fields, leaf_fields, child_field, child_fields, inode_fields, parent_fields, info_fields, commit_fields, set_fields, remove_fields, row_fields, table_fields, bits_of, reading, RecordFault, known, whole, body_of, fields_of}
use Rattle.ip_spec.proofs.BitmapLaws.{added, sum_of_bits, bits_small, bits_rise}
use Rattle.ip_spec.proofs.ReadingLaws.{entry_made, from_name, from_height, from_kind, from_step, from_entry, from_count, Behind}
use Rattle.ip_spec.proofs.ReadingExact.{weights, child_made, c_name, c_height, c_count, from_child, s_number, row_spelling, RowsBehind, r_number, r_name, t_count, from_length, from_author, from_date, parent_spelling, p_name, p_number, commit_made, k_parents, k_count, k_root_at, k_root_name, k_number, assoc6, five}
use Rattle.ip_spec.proofs.FieldsRead.{EachByte, Took, Takes, steps, of_done, both_left, both_right, takes_bytes, takes_u8, takes_u16, takes_u32, takes_u64, IsText, lt_of, le_of, takes_text, get_small, take_bytes, drop_bytes, ok_same, small_4}

-- ---- tests and what they say

each_of : {X : Type 0} (P : X → Type 0) (p : X → Bool) (Q : X → Type 0) → ((x : X) → Q x → p x ≡ true → P x) → (xs : List X) → AllByRecursion Q xs → list_all p xs ≡ true → AllByRecursion P xs
each_of P p Q h [] q all = tt
each_of P p Q h (x ∷ xs) q all = (h x q.0 (both_left (p x) _ all), each_of P p Q h xs q.1 (both_right (p x) _ all))

not_equal : (b c : ℕ) → (b == c) ≡ false → b ≢ c
not_equal b c h e = grind arith

not_true : (c : Bool) → not c ≡ true → c ≡ false
not_true true h = cc
not_true false h = refl

or_left : (c d : Bool) → (c || d) ≡ false → c ≡ false
or_left true d h = h
or_left false d h = refl

or_right : (c d : Bool) → (c || d) ≡ false → d ≡ false
or_right true d h = cc
or_right false d h = h

word_byte : (b : ℕ) → b < 256 → is_word_byte b ≡ true → IsWordByte b
word_byte b low h =
    let f = not_true (b == 32 || b == 10 || b == 0) h in
    (low, not_equal b 32 (or_left (b == 32) _ (or_left (b == 32 || b == 10) _ f)), not_equal b 10 (or_right (b == 32) _ (or_left (b == 32 || b == 10) _ f)), not_equal b 0 (or_right (b == 32 || b == 10) _ f))

words : (t : Bytes) → EachByte t → list_all is_word_byte t ≡ true → All IsWordByte t
words t bytes h = All-from_recursion IsWordByte t (each_of IsWordByte is_word_byte (λ b. b < 256) word_byte t bytes h)

step_is : (t : Bytes) → 0 < length t → length t ≤ 255 → EachByte t → is_step t ≡ true → IsStep t
step_is t some short bytes h = record {
  some = some;
  short = short;
  each = All-from_recursion (λ b. IsWordByte b × (b ≢ 47)) t (each_of (λ b. IsWordByte b × (b ≢ 47)) (λ b. is_word_byte b && not (b == 47)) (λ b. b < 256)
      (λ b low h. (word_byte b low (both_left (is_word_byte b) _ h), not_equal b 47 (not_true (b == 47) (both_right (is_word_byte b) _ h)))) t bytes h);
}

name_is : (previous : Option Bytes) (t : Bytes) → IsText is_name previous t → IsBranchName t
name_is previous t is = record {
  some = is.some;
  short = is.short;
  each = words t is.bytes (both_left (list_all is_word_byte t) _ is.passes);
  no_reference = first t (not_true (begins_with_at t) (both_right (list_all is_word_byte t) _ is.passes));
}
  where
    first : (t : Bytes) → begins_with_at t ≡ false → slice_get t 0 ≢ Some 64
    first [] h e = cc
    first (b ∷ t) h e = not_equal b 64 h (same b e)
      where
        same : (b : ℕ) → Some b ≡ Some 64 → b ≡ 64
        same b e = cc

hash_is : (t : Bytes) → length t ≡ 32 → EachByte t → IsHash t
hash_is t long bytes = (long, All-from_recursion (λ b. b < 256) t bytes)

kind_is : (n : ℕ) → (n == 1 || n == 2) ≡ true → (n ≡ 1) ⊎ (n ≡ 2)
kind_is n h = grind arith

takes_hash : Takes hash_field (λ h. h) IsHash
takes_hash before x last each e = let t = takes_bytes 32 (λ bytes. true) before x last each e in record { is = hash_is x t.is.0 t.is.2; front = t.front; rest = t.rest }

-- ---- entries of leaves

IsEntry : Option Bytes → LeafEntry → Type 0
IsEntry previous e = IsLeafEntry e × (is_behind previous e.step ≡ true)

takes_entry : (previous : Option Bytes) → Takes (entry_field previous) entry_spelling (IsEntry previous)
unfolding IsEntry
takes_entry previous before x last each eq =
    let a = steps (text_field is_step previous) from_step before x last eq in
    let ta = takes_text is_step previous before a.value a.middle each a.first in
    let b = steps (number_where w8 (λ n. n == 1 || n == 2)) (from_kind a.value) a.middle x last a.second in
    let tb = takes_u8 (λ n. n == 1 || n == 2) a.middle b.value b.middle ta.rest b.first in
    let c = steps (number_where w8 (λ n. nat_le n 63)) (from_height a.value b.value) b.middle x last b.second in
    let tc = takes_u8 (λ n. nat_le n 63) b.middle c.value c.middle tb.rest c.first in
    let d = steps hash_field (from_name a.value b.value c.value) c.middle x last c.second in
    let td = takes_hash c.middle d.value d.middle tc.rest d.first in
    let f = steps (number_where w64 any) (λ at. done (entry_made a.value b.value c.value d.value at)) d.middle x last d.second in
    let tf = takes_u64 any d.middle f.value f.middle td.rest f.first in
    of_done entry_spelling (IsEntry previous) before f.middle (entry_made a.value b.value c.value d.value f.value) x last f.second (record {
      is = (record { step = step_is a.value ta.is.some ta.is.short ta.is.bytes ta.is.passes; kind = kind_is b.value tb.is.1; height = le_of c.value 63 tc.is.1; name = td.is; at = tf.is.0 }, ta.is.behind);
      front = ta.front ∙ ap (λ (u : Bytes). short_text a.value ++ u) (tb.front ∙ ap (λ (u : Bytes). u8 b.value ++ u) (tc.front ∙ ap (λ (u : Bytes). u8 c.value ++ u) (td.front ∙ ap (λ (u : Bytes). d.value ++ u) tf.front)))
          ∙ assoc6 (short_text a.value) (u8 b.value) (u8 c.value) d.value (u64 f.value) f.middle.1;
      rest = tf.rest;
    })

AreEntries : ℕ → Option Bytes → List LeafEntry → Type 0
AreEntries n previous es = (length es ≡ n) × AllByRecursion IsLeafEntry es × Behind previous es

takes_entries : (n : ℕ) (previous : Option Bytes) → Takes (entry_fields n previous) (flat_map entry_spelling) (AreEntries n previous)
unfolding entry_fields AreEntries IsEntry
takes_entries zero previous before x last each eq = of_done (flat_map entry_spelling) (AreEntries zero previous) before before [] x last eq (record { is = (refl, tt, tt); front = refl; rest = each })
takes_entries (suc n) previous before x last each eq =
    let a = steps (entry_field previous) (from_entry n) before x last eq in
    let ta = takes_entry previous before a.value a.middle each a.first in
    let b = steps (entry_fields n (Some a.value.step)) (λ es. done (a.value ∷ es)) a.middle x last a.second in
    let tb = takes_entries n (Some a.value.step) a.middle b.value b.middle ta.rest b.first in
    of_done (flat_map entry_spelling) (AreEntries (suc n) previous) before b.middle (a.value ∷ b.value) x last b.second (record {
      is = (ap suc tb.is.0, (ta.is.0, tb.is.1), (ta.is.1, tb.is.2));
      front = ta.front ∙ ap (λ (u : Bytes). entry_spelling a.value ++ u) tb.front ∙ sym (append_assoc (entry_spelling a.value) (flat_map entry_spelling b.value) b.middle.1);
      rest = tb.rest;
    })

-- ---- texts that stand behind each other rise

abbrev Chain : Option Bytes → List Bytes → Type 0
Chain previous [] = Unit {0}
Chain previous (t ∷ ts) = (is_behind previous t ≡ true) × Chain (Some t) ts

abbrev twice : List Bytes → List (Bytes × Bytes)
twice ts = map (λ t. (t, t)) ts

T_of : (b : Bool) → b ≡ true → T b
T_of b e = subst T (sym e) tt

T_is : (b : Bool) → T b → b ≡ true
T_is true h = refl
T_is false h = absurd h

T_both : (c d : Bool) → T c → T d → T (c && d)
T_both true d h g = g
T_both false d h g = absurd h

T_first : (c d : Bool) → T (c && d) → T c
T_first true d h = tt
T_first false d h = h

T_second : (c d : Bool) → T (c && d) → T d
T_second true d h = h
T_second false d h = absurd h

less_of : (o : Ordering) → is_lt o ≡ true → o ≡ Less
less_of Less h = refl
less_of Equal h = cc
less_of Greater h = cc

below_less : (p t : Bytes) (ts : List Bytes) → bytes_cmp p t ≡ Less → T (Entries.below_all bytes_cmp t (twice ts)) → T (Entries.below_all bytes_cmp p (twice ts))
below_less p t [] less below = tt
below_less p t (u ∷ ts) less below =
    let next = less_of (bytes_cmp t u) (T_is _ (T_first (is_lt (bytes_cmp t u)) _ below)) in
    T_both (is_lt (bytes_cmp p u)) _ (subst (λ o. T (is_lt o)) (sym (nat_list_cmp_total.trans p t u less next)) tt) (below_less p t ts less (T_second (is_lt (bytes_cmp t u)) _ below))

rises : (p : Bytes) (ts : List Bytes) → Chain (Some p) ts → T (Entries.is_sorted bytes_cmp (twice (p ∷ ts)))
rises p [] chain = tt
rises p (t ∷ ts) (lt, chain) =
    let next = rises t ts chain in
    T_both (is_lt (bytes_cmp p t) && Entries.below_all bytes_cmp p (twice ts)) _
    (T_both (is_lt (bytes_cmp p t)) _ (T_of _ lt) (below_less p t ts (less_of _ lt) (T_first (Entries.below_all bytes_cmp t (twice ts)) _ next))) next

rising_is : (ts : List Bytes) → Chain None ts → are_rising ts ≡ true
rising_is [] chain = refl
rising_is (t ∷ ts) chain = T_is _ (rises t ts chain.1)

entry_chain : (previous : Option Bytes) (es : List LeafEntry) → Behind previous es → Chain previous (map (λ e. e.step) es)
entry_chain previous [] behind = tt
entry_chain previous (e ∷ es) behind = (behind.0, entry_chain (Some e.step) es behind.1)

row_chain : (previous : Option Bytes) (rows : List Branch) → RowsBehind previous rows → Chain previous (map (λ row. row.name) rows)
row_chain previous [] behind = tt
row_chain previous (row ∷ rows) behind = (behind.0, row_chain (Some row.name) rows behind.1)

-- ---- leaves

-- a record of the kind, within the bounds of the version
abbrev Fit : ℕ → ℕ → Record → Type 0
Fit version kind r = (kind_of r ≡ kind) × FieldsFit version r

takes_leaf : (v : ℕ) → Takes leaf_fields body (Fit v 2)
unfolding body AreEntries
takes_leaf v before x last each eq =
    let a = steps (number_where w32 any) from_count before x last eq in
    let ta = takes_u32 any before a.value a.middle each a.first in
    let b = steps (entry_fields a.value None) (λ es. done (Record.Leaf es)) a.middle x last a.second in
    let tb = takes_entries a.value None a.middle b.value b.middle ta.rest b.first in
    of_done body (Fit v 2) before b.middle (Record.Leaf b.value) x last b.second (record {
      is = (refl, record { count = subst (λ n. n < 2 ^ 32) (sym tb.is.0) ta.is.0; each = All-from_recursion IsLeafEntry b.value tb.is.1; rising = rising_is _ (entry_chain None b.value tb.is.2) });
      front = ta.front ∙ ap (λ (u : Bytes). u32 a.value ++ u) tb.front ∙ ap (λ n. u32 n ++ (flat_map entry_spelling b.value ++ b.middle.1)) (sym tb.is.0) ∙ sym (append_assoc (u32 (length b.value)) (flat_map entry_spelling b.value) b.middle.1);
      rest = tb.rest;
    })

-- ---- inodes

IsChild : ℕ → InodeChild → Type 0
IsChild index c = (c.index ≡ index) × IsInodeChild c

assoc4 : (a b c d e : Bytes) → a ++ (b ++ (c ++ (d ++ e))) ≡ a ++ b ++ c ++ d ++ e
assoc4 a b c d e = sym (append_assoc a b (c ++ (d ++ e))) ∙ sym (append_assoc (a ++ b) c (d ++ e)) ∙ sym (append_assoc (a ++ b ++ c) d e)

takes_child : (index : ℕ) → index < 32 → Takes (child_field index) child_spelling (IsChild index)
unfolding IsChild
takes_child index low before x last each eq =
    let a = steps (number_where w32 (λ n. nat_lt 0 n)) (c_count index) before x last eq in
    let ta = takes_u32 (λ n. nat_lt 0 n) before a.value a.middle each a.first in
    let b = steps (number_where w8 (λ n. nat_le n 64)) (c_height index a.value) a.middle x last a.second in
    let tb = takes_u8 (λ n. nat_le n 64) a.middle b.value b.middle ta.rest b.first in
    let c = steps hash_field (c_name index a.value b.value) b.middle x last b.second in
    let tc = takes_hash b.middle c.value c.middle tb.rest c.first in
    let d = steps (number_where w64 any) (λ at. done (child_made index a.value b.value c.value at)) c.middle x last c.second in
    let td = takes_u64 any c.middle d.value d.middle tc.rest d.first in
    of_done child_spelling (IsChild index) before d.middle (child_made index a.value b.value c.value d.value) x last d.second (record {
      is = (refl, record { index = low; some = lt_of 0 a.value ta.is.1; count = ta.is.0; height = le_of b.value 64 tb.is.1; name = tc.is; at = td.is.0 });
      front = ta.front ∙ ap (λ (u : Bytes). u32 a.value ++ u) (tb.front ∙ ap (λ (u : Bytes). u8 b.value ++ u) (tc.front ∙ ap (λ (u : Bytes). c.value ++ u) td.front))
          ∙ assoc4 (u32 a.value) (u8 b.value) c.value (u64 d.value) d.middle.1;
      rest = td.rest;
    })

AreChildren : List ℕ → List InodeChild → Type 0
AreChildren indexes cs = (map (λ c. c.index) cs ≡ indexes) × AllByRecursion IsInodeChild cs

takes_children : (indexes : List ℕ) → AllByRecursion (λ i. i < 32) indexes → Takes (child_fields indexes) (flat_map child_spelling) (AreChildren indexes)
unfolding child_fields AreChildren IsChild
takes_children [] low before x last each eq = of_done (flat_map child_spelling) (AreChildren []) before before [] x last eq (record { is = (refl, tt); front = refl; rest = each })
takes_children (i ∷ indexes) low before x last each eq =
    let a = steps (child_field i) (from_child indexes) before x last eq in
    let ta = takes_child i low.0 before a.value a.middle each a.first in
    let b = steps (child_fields indexes) (λ cs. done (a.value ∷ cs)) a.middle x last a.second in
    let tb = takes_children indexes low.1 a.middle b.value b.middle ta.rest b.first in
    of_done (flat_map child_spelling) (AreChildren (i ∷ indexes)) before b.middle (a.value ∷ b.value) x last b.second (record {
      is = ((λ k. ta.is.0 k ∷ tb.is.0 k), (ta.is.1, tb.is.1));
      front = ta.front ∙ ap (λ (u : Bytes). child_spelling a.value ++ u) tb.front ∙ sym (append_assoc (child_spelling a.value) (flat_map child_spelling b.value) b.middle.1);
      rest = tb.rest;
    })

abbrev n_bitmap : ℕ → ℕ → Fields Record
n_bitmap depth m = child_fields (bits_of m) >>= λ cs. done (Record.Inode depth cs)

abbrev n_depth : ℕ → Fields Record
n_depth depth = number_where w32 (λ n. nat_lt 0 n) >>= n_bitmap depth

takes_inode : (v : ℕ) → Takes inode_fields body (Fit v 3)
unfolding body AreChildren
takes_inode v before x last each eq =
    let a = steps (number_where w8 (λ n. nat_le n 50)) n_depth before x last eq in
    let ta = takes_u8 (λ n. nat_le n 50) before a.value a.middle each a.first in
    let b = steps (number_where w32 (λ n. nat_lt 0 n)) (n_bitmap a.value) a.middle x last a.second in
    let tb = takes_u32 (λ n. nat_lt 0 n) a.middle b.value b.middle ta.rest b.first in
    let c = steps (child_fields (bits_of b.value)) (λ cs. done (Record.Inode a.value cs)) b.middle x last b.second in
    let tc = takes_children (bits_of b.value) (bits_small b.value) b.middle c.value c.middle tb.rest c.first in
    let same : bitmap c.value ≡ b.value = weights 0 c.value ∙ ap (added 0) tc.is.0 ∙ sum_of_bits b.value tb.is.0 in
    of_done body (Fit v 3) before c.middle (Record.Inode a.value c.value) x last c.second (record {
      is = (
        refl,
        record {
          shallow = le_of a.value 50 ta.is.1;
          some = some_child c.value (subst (λ n. 0 < n) (sym same) (lt_of 0 b.value tb.is.1));
          each = All-from_recursion IsInodeChild c.value tc.is.1;
          rising = subst IsStrictlyIncreasing (sym tc.is.0) (bits_rise b.value);
        },
      );
      front = ta.front ∙ ap (λ (u : Bytes). u8 a.value ++ u) (tb.front ∙ ap (λ (u : Bytes). u32 b.value ++ u) tc.front)
          ∙ ap (λ n. u8 a.value ++ (u32 n ++ (flat_map child_spelling c.value ++ c.middle.1))) (sym same)
          ∙ sym (append_assoc (u8 a.value) (u32 (bitmap c.value)) (flat_map child_spelling c.value ++ c.middle.1)) ∙ sym (append_assoc (u8 a.value ++ u32 (bitmap c.value)) (flat_map child_spelling c.value) c.middle.1);
      rest = tc.rest;
    })
  where
    some_child : (cs : List InodeChild) → 0 < bitmap cs → 0 < length cs
    some_child [] l = l
    some_child (c ∷ cs) l = omega arith

-- ---- commits

AreParents : ℕ → List Parent → Type 0
AreParents n ps = (length ps ≡ n) × AllByRecursion (λ p. IsU64 p.number × IsHash p.name) ps

takes_parents : (n : ℕ) → Takes (parent_fields n) (flat_map parent_spelling) (AreParents n)
unfolding parent_fields AreParents
takes_parents zero before x last each eq = of_done (flat_map parent_spelling) (AreParents zero) before before [] x last eq (record { is = (refl, tt); front = refl; rest = each })
takes_parents (suc n) before x last each eq =
    let a = steps (number_where w64 any) (p_number n) before x last eq in
    let ta = takes_u64 any before a.value a.middle each a.first in
    let b = steps hash_field (p_name n a.value) a.middle x last a.second in
    let tb = takes_hash a.middle b.value b.middle ta.rest b.first in
    let c = steps (parent_fields n) (λ ps. done (record { number = a.value; name = b.value } ∷ ps)) b.middle x last b.second in
    let tc = takes_parents n b.middle c.value c.middle tb.rest c.first in
    of_done (flat_map parent_spelling) (AreParents (suc n)) before c.middle (record { number = a.value; name = b.value } ∷ c.value) x last c.second (record {
      is = (ap suc tc.is.0, ((ta.is.0, tb.is), tc.is.1));
      front = ta.front ∙ ap (λ (u : Bytes). u64 a.value ++ u) (tb.front ∙ ap (λ (u : Bytes). b.value ++ u) tc.front)
          ∙ sym (append_assoc (u64 a.value) b.value (flat_map parent_spelling c.value ++ c.middle.1)) ∙ sym (append_assoc (u64 a.value ++ b.value) (flat_map parent_spelling c.value) c.middle.1);
      rest = tc.rest;
    })

takes_info : Takes info_fields info_spelling IsInfo
takes_info before x last each eq =
    let a = steps (number_where w64 any) from_date before x last eq in
    let ta = takes_u64 any before a.value a.middle each a.first in
    let b = steps (text_field is_author None) (from_author a.value) a.middle x last a.second in
    let tb = takes_text is_author None a.middle b.value b.middle ta.rest b.first in
    let c = steps (number_where w16 (λ n. nat_lt 0 n && nat_le n 4096)) (from_length a.value b.value) b.middle x last b.second in
    let tc = takes_u16 (λ n. nat_lt 0 n && nat_le n 4096) b.middle c.value c.middle tb.rest c.first in
    let d = steps (bytes_where c.value is_message) (λ message. done (record { date = a.value; author = b.value; message = message })) c.middle x last c.second in
    let td = takes_bytes c.value is_message c.middle d.value d.middle tc.rest d.first in
    let long : length d.value ≡ c.value = td.is.0 in
    of_done info_spelling IsInfo before d.middle (record { date = a.value; author = b.value; message = d.value }) x last d.second (record {
      is = record {
        date = ta.is.0;
        author_some = tb.is.some;
        author_short = tb.is.short;
        author = words b.value tb.is.bytes tb.is.passes;
        message_some = let l = lt_of 0 c.value (both_left _ _ tc.is.1) in omega (arith, l, long);
        message_short = let l = le_of c.value 4096 (both_right (nat_lt 0 c.value) _ tc.is.1) in omega (arith, l, long);
        message = All-from_recursion (λ b. (b < 256) × (b ≢ 10) × (b ≢ 0)) d.value (each_of (λ b. (b < 256) × (b ≢ 10) × (b ≢ 0)) (λ b. not (b == 10 || b == 0)) (λ b. b < 256)
            (λ b low h. (low, not_equal b 10 (or_left (b == 10) _ (not_true _ h)), not_equal b 0 (or_right (b == 10) _ (not_true _ h)))) d.value td.is.2 td.is.1);
      };
      front = ta.front ∙ ap (λ (u : Bytes). u64 a.value ++ u) (tb.front ∙ ap (λ (u : Bytes). short_text b.value ++ u) (tc.front ∙ ap (λ (u : Bytes). u16 c.value ++ u) td.front ∙ ap (λ n. u16 n ++ (d.value ++ d.middle.1)) (sym long) ∙ sym (append_assoc (u16 (length d.value)) d.value d.middle.1)))
          ∙ sym (append_assoc (u64 a.value) (short_text b.value) (long_text d.value ++ d.middle.1)) ∙ sym (append_assoc (u64 a.value ++ short_text b.value) (long_text d.value) d.middle.1);
      rest = td.rest;
    })

assoc7 : (a b c d e f g : Bytes) → a ++ (b ++ (c ++ (d ++ (e ++ (f ++ g))))) ≡ a ++ b ++ c ++ d ++ e ++ f ++ g
assoc7 a b c d e f g = assoc6 a b c d e (f ++ g) ∙ sym (append_assoc (a ++ b ++ c ++ d ++ e) f g)

takes_commit : (v : ℕ) → Takes commit_fields body (Fit v 4)
unfolding body AreParents
takes_commit v before x last each eq =
    let a = steps (number_where w64 any) k_number before x last eq in
    let ta = takes_u64 any before a.value a.middle each a.first in
    let b = steps hash_field (k_root_name a.value) a.middle x last a.second in
    let tb = takes_hash a.middle b.value b.middle ta.rest b.first in
    let c = steps (number_where w64 any) (k_root_at a.value b.value) b.middle x last b.second in
    let tc = takes_u64 any b.middle c.value c.middle tb.rest c.first in
    let d = steps (number_where w8 (λ n. nat_le n 16)) (k_count a.value b.value c.value) c.middle x last c.second in
    let td = takes_u8 (λ n. nat_le n 16) c.middle d.value d.middle tc.rest d.first in
    let e = steps (parent_fields d.value) (k_parents a.value b.value c.value) d.middle x last d.second in
    let te = takes_parents d.value d.middle e.value e.middle td.rest e.first in
    let f = steps info_fields (λ info. done (commit_made a.value b.value c.value e.value info)) e.middle x last e.second in
    let tf = takes_info e.middle f.value f.middle te.rest f.first in
    of_done body (Fit v 4) before f.middle (commit_made a.value b.value c.value e.value f.value) x last f.second (record {
      is = (refl, record { number = ta.is.0; root_name = tb.is; root_at = tc.is.0; parents = subst (λ n. n ≤ 16) (sym te.is.0) (le_of d.value 16 td.is.1); each = All-from_recursion (λ p. IsU64 p.number × IsHash p.name) e.value te.is.1; info = tf.is });
      front = ta.front ∙ ap (λ (u : Bytes). u64 a.value ++ u) (tb.front ∙ ap (λ (u : Bytes). b.value ++ u) (tc.front ∙ ap (λ (u : Bytes). u64 c.value ++ u) (td.front ∙ ap (λ (u : Bytes). u8 d.value ++ u) (te.front ∙ ap (λ (u : Bytes). flat_map parent_spelling e.value ++ u) tf.front)
          ∙ ap (λ n. u8 n ++ (flat_map parent_spelling e.value ++ (info_spelling f.value ++ f.middle.1))) (sym te.is.0))))
          ∙ assoc7 (u64 a.value) b.value (u64 c.value) (u8 (length e.value)) (flat_map parent_spelling e.value) (info_spelling f.value) f.middle.1;
      rest = tf.rest;
    })

-- ---- names

kind_set : Names → ℕ
kind_set Names.branches = 5
kind_set Names.tags = 8

kind_remove : Names → ℕ
kind_remove Names.branches = 6
kind_remove Names.tags = 9

kind_table : Names → ℕ
kind_table Names.branches = 7
kind_table Names.tags = 10

-- tags are there from the second version on
MayHave : ℕ → Names → Type 0
MayHave v Names.branches = Unit {0}
MayHave v Names.tags = HasTags v

takes_set : (v : ℕ) (names : Names) → MayHave v names → Takes (set_fields names) body (Fit v (kind_set names))
unfolding body kind_set MayHave
takes_set v names may before x last each eq =
    let a = steps (number_where w64 any) (s_number names) before x last eq in
    let ta = takes_u64 any before a.value a.middle each a.first in
    let b = steps (text_field is_name None) (λ name. done (name_set names a.value name)) a.middle x last a.second in
    let tb = takes_text is_name None a.middle b.value b.middle ta.rest b.first in
    of_done body (Fit v (kind_set names)) before b.middle (name_set names a.value b.value) x last b.second
    (made names may (ta.front ∙ ap (λ (u : Bytes). u64 a.value ++ u) tb.front ∙ sym (append_assoc (u64 a.value) (short_text b.value) b.middle.1)) ta.is.0 (name_is None b.value tb.is) tb.rest)
  where
    made : (names : Names) → MayHave v names → {n : ℕ} {name : Bytes} {middle : Left} → before.1 ≡ u64 n ++ short_text name ++ middle.1 → IsU64 n → IsBranchName name → EachByte middle.1 → Took body (Fit v (kind_set names)) before (name_set names n name) middle
    made Names.branches may front number name rest = record { is = (refl, (number, name)); front = front; rest = rest }
    made Names.tags may front number name rest = record { is = (refl, (may, number, name)); front = front; rest = rest }

takes_remove : (v : ℕ) (names : Names) → MayHave v names → Takes (remove_fields names) body (Fit v (kind_remove names))
unfolding body kind_remove MayHave
takes_remove v names may before x last each eq =
    let b = steps (text_field is_name None) (λ name. done (name_remove names name)) before x last eq in
    let tb = takes_text is_name None before b.value b.middle each b.first in
    of_done body (Fit v (kind_remove names)) before b.middle (name_remove names b.value) x last b.second (made names may tb.front (name_is None b.value tb.is) tb.rest)
  where
    made : (names : Names) → MayHave v names → {name : Bytes} {middle : Left} → before.1 ≡ short_text name ++ middle.1 → IsBranchName name → EachByte middle.1 → Took body (Fit v (kind_remove names)) before (name_remove names name) middle
    made Names.branches may front name rest = record { is = (refl, name); front = front; rest = rest }
    made Names.tags may front name rest = record { is = (refl, (may, name)); front = front; rest = rest }

AreRows : ℕ → Option Bytes → List Branch → Type 0
AreRows n previous rows = (length rows ≡ n) × AllByRecursion (λ row. IsBranchName row.name × IsU64 row.number) rows × RowsBehind previous rows

takes_rows : (n : ℕ) (previous : Option Bytes) → Takes (row_fields n previous) (flat_map row_spelling) (AreRows n previous)
unfolding row_fields AreRows
takes_rows zero previous before x last each eq = of_done (flat_map row_spelling) (AreRows zero previous) before before [] x last eq (record { is = (refl, tt, tt); front = refl; rest = each })
takes_rows (suc n) previous before x last each eq =
    let a = steps (text_field is_name previous) (r_name n) before x last eq in
    let ta = takes_text is_name previous before a.value a.middle each a.first in
    let b = steps (number_where w64 any) (r_number n a.value) a.middle x last a.second in
    let tb = takes_u64 any a.middle b.value b.middle ta.rest b.first in
    let c = steps (row_fields n (Some a.value)) (λ rows. done (record { name = a.value; number = b.value } ∷ rows)) b.middle x last b.second in
    let tc = takes_rows n (Some a.value) b.middle c.value c.middle tb.rest c.first in
    of_done (flat_map row_spelling) (AreRows (suc n) previous) before c.middle (record { name = a.value; number = b.value } ∷ c.value) x last c.second (record {
      is = (ap suc tc.is.0, ((name_is previous a.value ta.is, tb.is.0), tc.is.1), (ta.is.behind, tc.is.2));
      front = ta.front ∙ ap (λ (u : Bytes). short_text a.value ++ u) (tb.front ∙ ap (λ (u : Bytes). u64 b.value ++ u) tc.front)
          ∙ sym (append_assoc (short_text a.value) (u64 b.value) (flat_map row_spelling c.value ++ c.middle.1)) ∙ sym (append_assoc (short_text a.value ++ u64 b.value) (flat_map row_spelling c.value) c.middle.1);
      rest = tc.rest;
    })

takes_table : (v : ℕ) (names : Names) → MayHave v names → Takes (table_fields names) body (Fit v (kind_table names))
unfolding body kind_table MayHave AreRows
takes_table v names may before x last each eq =
    let a = steps (number_where w16 (λ n. nat_le n 4096)) (t_count names) before x last eq in
    let ta = takes_u16 (λ n. nat_le n 4096) before a.value a.middle each a.first in
    let b = steps (row_fields a.value None) (λ rows. done (name_table names rows)) a.middle x last a.second in
    let tb = takes_rows a.value None a.middle b.value b.middle ta.rest b.first in
    of_done body (Fit v (kind_table names)) before b.middle (name_table names b.value) x last b.second
    (made names may
    (ta.front ∙ ap (λ (u : Bytes). u16 a.value ++ u) tb.front ∙ ap (λ n. u16 n ++ (flat_map row_spelling b.value ++ b.middle.1)) (sym tb.is.0) ∙ sym (append_assoc (u16 (length b.value)) (flat_map row_spelling b.value) b.middle.1))
    (record { count = subst (λ n. n ≤ 4096) (sym tb.is.0) (le_of a.value 4096 ta.is.1); each = All-from_recursion (λ row. IsBranchName row.name × IsU64 row.number) b.value tb.is.1; rising = rising_is _ (row_chain None b.value tb.is.2) })
    tb.rest)
  where
    made : (names : Names) → MayHave v names → {rows : List Branch} {middle : Left} → before.1 ≡ u16 (length rows) ++ flat_map row_spelling rows ++ middle.1 → IsTable rows → EachByte middle.1 → Took body (Fit v (kind_table names)) before (name_table names rows) middle
    made Names.branches may front table rest = record { is = (refl, table); front = front; rest = rest }
    made Names.tags may front table rest = record { is = (refl, (may, table)); front = front; rest = rest }

-- ---- records

abbrev Read : Type 0
Read = Result (Record × ℕ) RecordFault

-- the four tests let it through
record Through (a b c d : Bool) (t : Read) (p : Record × ℕ) : Type 0 where
  one : a ≡ false
  two : b ≡ false
  three : c ≡ false
  four : d ≡ false
  rest : t ≡ Ok p

through : (a b c d : Bool) (w x y z : RecordFault) (t : Read) (p : Record × ℕ) → (if a then Err w else if b then Err x else if c then Err y else if d then Err z else t) ≡ Ok p → Through a b c d t p
through false false false false w x y z t p e = record { one = refl; two = refl; three = refl; four = refl; rest = e }
through true b c d w x y z t p e = cc
through false true c d w x y z t p e = cc
through false false true d w x y z t p e = cc
through false false false true w x y z t p e = cc

some_same : {A : Type 0} (x y : A) → Some x ≡ Some y → x ≡ y
some_same x y e = cc

-- a whole body is read
record Body (v k : ℕ) (b : Bytes) (p : Record × ℕ) : Type 0 where
  fit : Fit v k p.0
  is : b ≡ body p.0
  long : p.1 ≡ 5 + length b

whole_is : (v k : ℕ) (b : Bytes) (f : Fields Record) (p : Record × ℕ) → Takes f body (Fit v k) → EachByte b → whole (5 + length b) (f (5, b)) ≡ Ok p → Body v k b p
whole_is v k b f p takes each e = by (f (5, b)) refl e
  where
    by : (r : Result (Record × Left) ℕ) → f (5, b) ≡ r → whole (5 + length b) r ≡ Ok p → Body v k b p
    by (Err at) is e = cc
    by (Ok (r, (at, x ∷ left))) is e = cc
    by (Ok (r, (at, []))) is e =
        let t = takes (5, b) r (at, []) each is in
        subst (Body v k b) (ok_same (r, 5 + length b) p e) (record { fit = t.is; is = t.front ∙ append-nil (body r); long = refl })

not_less : (m n : ℕ) → nat_lt m n ≡ false → n ≤ m
not_less m n h = grind arith

known_true : (c : Bool) → not c ≡ false → c ≡ true
known_true true h = refl
known_true false h = cc

tags_known : (v k : ℕ) → known v k ≡ true → 8 ≤ k → HasTags v
tags_known v k h high = by (nat_le 2 v) refl (le_of k _ (both_right (nat_lt 0 k) _ h))
  where
    by : (b : Bool) → nat_le 2 v ≡ b → k ≤ (if b then 10 else 7) → HasTags v
    by true e l = le_of 2 v e
    by false e l = absurd (omega (arith, l, high))

-- the fields of a kind, but for contents, which the test of their length bounds
takes_kind : (v k : ℕ) (f : Fields Record) → known v k ≡ true → (k == 1) ≡ false → fields_of k ≡ Some f → Takes f body (Fit v k)
unfolding fields_of MayHave kind_set kind_remove kind_table
takes_kind v zero f is_known other e = cc
takes_kind v (suc zero) f is_known other e = cc
takes_kind v (suc (suc zero)) f is_known other e = subst (λ f. Takes f body (Fit v 2)) (some_same _ f e) (takes_leaf v)
takes_kind v (suc (suc (suc zero))) f is_known other e = subst (λ f. Takes f body (Fit v 3)) (some_same _ f e) (takes_inode v)
takes_kind v (suc (suc (suc (suc zero)))) f is_known other e = subst (λ f. Takes f body (Fit v 4)) (some_same _ f e) (takes_commit v)
takes_kind v (suc (suc (suc (suc (suc zero))))) f is_known other e = subst (λ f. Takes f body (Fit v 5)) (some_same _ f e) (takes_set v Names.branches tt)
takes_kind v (suc (suc (suc (suc (suc (suc zero)))))) f is_known other e = subst (λ f. Takes f body (Fit v 6)) (some_same _ f e) (takes_remove v Names.branches tt)
takes_kind v (suc (suc (suc (suc (suc (suc (suc zero))))))) f is_known other e = subst (λ f. Takes f body (Fit v 7)) (some_same _ f e) (takes_table v Names.branches tt)
takes_kind v (suc (suc (suc (suc (suc (suc (suc (suc zero)))))))) f is_known other e = subst (λ f. Takes f body (Fit v 8)) (some_same _ f e) (takes_set v Names.tags (tags_known v 8 is_known (lit≤ tt)))
takes_kind v (suc (suc (suc (suc (suc (suc (suc (suc (suc zero))))))))) f is_known other e = subst (λ f. Takes f body (Fit v 9)) (some_same _ f e) (takes_remove v Names.tags (tags_known v 9 is_known (lit≤ tt)))
takes_kind v (suc (suc (suc (suc (suc (suc (suc (suc (suc (suc zero)))))))))) f is_known other e = subst (λ f. Takes f body (Fit v 10)) (some_same _ f e) (takes_table v Names.tags (tags_known v 10 is_known (lit≤ tt)))
takes_kind v (suc (suc (suc (suc (suc (suc (suc (suc (suc (suc (suc k))))))))))) f is_known other e = absurd (too_high (le_of (suc (suc (suc (suc (suc (suc (suc (suc (suc (suc (suc k))))))))))) _ (both_right (nat_lt 0 (suc (suc (suc (suc (suc (suc (suc (suc (suc (suc (suc k)))))))))))) _ is_known)))
  where
    too_high : suc (suc (suc (suc (suc (suc (suc (suc (suc (suc (suc k)))))))))) ≤ (if nat_le 2 v then 10 else 7) → ⊥
    too_high = by (nat_le 2 v)
      where
        by : (b : Bool) → suc (suc (suc (suc (suc (suc (suc (suc (suc (suc (suc k)))))))))) ≤ (if b then 10 else 7) → ⊥
        by true l = omega (arith, l)
        by false l = omega (arith, l)

body_is : (v k : ℕ) (b : Bytes) (p : Record × ℕ) → known v k ≡ true → (k == 1 && nat_lt (contents_limit v) (length b)) ≡ false → EachByte b → body_of k b (fields_of k) ≡ Ok p → Body v k b p
unfolding fields_of body
body_is v k b p is_known short each e = by (k == 1) refl short
  where
    contents : k ≡ 1 → nat_lt (contents_limit v) (length b) ≡ false → Body v k b p
    contents one low =
        let read : (Record.Contents b, 5 + length b) ≡ p = ok_same (Record.Contents b, 5 + length b) p (ap (λ j. body_of j b (fields_of j)) (sym one) ∙ e) in
        subst (Body v k b) read (record { fit = (sym one, (not_less (contents_limit v) (length b) low, All-from_recursion (λ b. b < 256) b each)); is = refl; long = refl })

    others : (k == 1) ≡ false → (o : Option (Fields Record)) → fields_of k ≡ o → body_of k b o ≡ Ok p → Body v k b p
    others other None is e = cc
    others other (Some f) is e = whole_is v k b f p (takes_kind v k f is_known other is) each e

    by : (c : Bool) → (k == 1) ≡ c → (c && nat_lt (contents_limit v) (length b)) ≡ false → Body v k b p
    by true one low = contents (eqb→eq k 1 (T_of _ one)) low
    by false other low = others other (fields_of k) refl e

-- What is read fits the version, and the bytes that were read spell it.
pub reading_spelled : (v : ℕ) (bytes : Bytes) (r : Record) (n : ℕ) → AreBytes bytes → reading v bytes ≡ Ok (r, n) → Fits v r × ((rest : Bytes) × (bytes ≡ spelling r ++ rest)) × (n ≡ length (spelling r))
unfolding reading spelling
reading_spelled v [] r n all e = cc
reading_spelled v (k ∷ bs) r n all e =
    let each = recursion_from_All (λ b. b < 256) (k ∷ bs) all in
    let len : ℕ = from_le_bytes w32 (take 4 bs) in
    let b : Bytes = take len (drop 4 bs) in
    let rest : Bytes = drop len (drop 4 bs) in
    let t = through (not (known v k)) (nat_lt (length bs) 4) (k == 1 && nat_lt (contents_limit v) len) (nat_lt (length bs) (4 + len)) _ _ _ _ (body_of k b (fields_of k)) (r, n) e in
    let four : 4 ≤ length bs = not_less (length bs) 4 t.two in
    let enough : 4 + len ≤ length bs = not_less (length bs) (4 + len) t.four in
    let head_long : length (take 4 bs) ≡ 4 = length-take-le 4 bs four in
    let head_bytes : EachByte (take 4 bs) = take_bytes 4 bs each.1 in
    let head : u32 len ≡ take 4 bs = le_bytes_4 (take 4 bs) len head_long (get_small (take 4 bs) head_bytes) refl in
    let small : len < 2 ^ 32 = small_4 (take 4 bs) head_long head_bytes in
    let left : length (drop 4 bs) ≡ length bs - 4 = length-drop 4 bs in
    let long : length b ≡ len = length-take-le len (drop 4 bs) (omega (arith, enough, left)) in
    let y = body_is v k b (r, n) (known_true (known v k) t.one) (ap (λ m. k == 1 && nat_lt (contents_limit v) m) long ∙ t.three) (take_bytes len (drop 4 bs) (drop_bytes 4 bs each.1)) t.rest in
    let body_long : length (body r) ≡ len = ap length (sym y.is) ∙ long in (
      record { size = subst (λ m. m < 2 ^ 32) (sym body_long) small; fields = y.fit.1 },
      (
        rest,
        ap (λ j. j ∷ bs) (sym y.fit.0) ∙ ap (λ (u : Bytes). kind_of r ∷ u)
            (sym (take-append-drop 4 bs) ∙ ap (λ (u : Bytes). u ++ drop 4 bs) (sym head) ∙ ap (λ (u : Bytes). u32 len ++ u) (sym (take-append-drop len (drop 4 bs)))
            ∙ ap (λ m. u32 m ++ (b ++ rest)) (sym long) ∙ ap (λ (u : Bytes). u32 (length u) ++ (u ++ rest)) y.is ∙ sym (append_assoc (u32 (length (body r))) (body r) rest)),
      ),
      y.long ∙ ap (λ (u : Bytes). 5 + length u) y.is ∙ five (length (body r)),
    )
