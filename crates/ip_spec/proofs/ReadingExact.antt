-- What is spelled is read: each kind of record, and records whole.
use Rattle.std.proofs.Common.{◌≡◌, ◌≢◌, ℕ, zero, suc, ◌+◌, ◌*◌, ◌^◌, ◌<◌, ◌≤◌, List, [], ◌∷◌, ◌++◌, refl, sym, ap, subst, ◌∙◌, Option, Some, None, Result, Ok, Err, Bool, true, false, T, length, take, drop, arith, append_assoc, append-nil, lit<, lit≤}
use Rattle.std.specs.Prelude.{◌&&◌, ◌||◌, ◌==◌, not, nat_le, nat_lt, All, map, flat_map, fold, slice_index, slice_get, if◌then◌else◌}
use Rattle.std.specs.List.{AllByRecursion, list_all}
use Rattle.std.specs.Ordering.{is_lt}
use Rattle.std.specs.FinMap.Entries as Entries
use Rattle.std.proofs.lemmas.List.Elements.{recursion_from_All}
use Rattle.std.proofs.lemmas.List.{take_at}
use Rattle.std.proofs.lemmas.Nat.{from_le_bytes-to_le_bytes_4}
use Rattle.std.proofs.Math.Nat.{pow-le-pow_right, one-le-pow}
use Rattle.std.specs.Int.{w8, w16, w32, w64}
use Rattle.std.proofs.lemmas.Bool.{and_from}
use Rattle.ip_spec.specs.Path.{Bytes, bytes_cmp, IsWordByte, is_word_byte}
use Rattle.ip_spec.specs.Record.{Record, Names, name_set, name_remove, name_table, Branch, body, spelling, kind_of, Fits, LeafEntry, IsLeafEntry, InodeChild, IsInodeChild, IsInode, bitmap, child_spelling, CommitRecord, IsCommitRecord, Parent, Info, IsInfo, info_spelling, IsHash, IsU64, IsBranchName, IsTable, short_text, long_text, u8, u16, u32, u64, contents_limit}
use Rattle.ip_spec.specs.Reading.{Fields, ◌>>=◌, done, bytes_where, number_where, text_field, is_behind, is_name, begins_with_at, is_author, is_message, hash_field, any, child_field, child_fields, inode_fields, parent_fields, info_fields, commit_fields, set_fields, remove_fields, row_fields, table_fields, leaf_fields, fields_of, reading, RecordFault, known, whole, body_of, bits_of}
use Rattle.ip_spec.proofs.BitmapLaws.{Within, added, bits_of_sum}
use Rattle.ip_spec.proofs.ReadingLaws.{Reads, reads_as, reads_done, reads_then, reads_last, reads_bytes, reads_u8, reads_u16, reads_u32, reads_u64, reads_text, reads_leaf, Behind, test_all, apart, neither, negated, word_byte, le_test, lt_test}

-- ---- children of inodes

abbrev pub child_made : ℕ → ℕ → ℕ → Bytes → ℕ → InodeChild
child_made index count height name at = record { index = index; count = count; height = height; name = name; at = at }

abbrev pub c_name : ℕ → ℕ → ℕ → Bytes → Fields InodeChild
c_name index count height name = number_where w64 any >>= λ at. done (child_made index count height name at)

abbrev pub c_height : ℕ → ℕ → ℕ → Fields InodeChild
c_height index count height = hash_field >>= c_name index count height

abbrev pub c_count : ℕ → ℕ → Fields InodeChild
c_count index count = number_where w8 (λ n. nat_le n 64) >>= c_height index count

reads_child : (c : InodeChild) → IsInodeChild c → Reads (child_field c.index) (child_spelling c) c
reads_child c is =
    let at_name : Reads (c_name c.index c.count c.height c.name) (u64 c.at) c = reads_last (number_where w64 any) (child_made c.index c.count c.height c.name) (u64 c.at) c.at (reads_u64 any c.at is.at refl) in
    let at_height : Reads (c_height c.index c.count c.height) (c.name ++ u64 c.at) c = reads_then hash_field (c_name c.index c.count c.height) c.name (u64 c.at) c.name c (reads_bytes 32 (λ bytes. true) c.name is.name.0 refl) at_name in
    let at_count : Reads (c_count c.index c.count) (u8 c.height ++ (c.name ++ u64 c.at)) c = reads_then (number_where w8 (λ n. nat_le n 64)) (c_height c.index c.count) (u8 c.height) (c.name ++ u64 c.at) c.height c (reads_u8 (λ n. nat_le n 64) c.height (le_test c.height 64 is.height)) at_height in
    reads_as (child_field c.index) (u32 c.count ++ (u8 c.height ++ (c.name ++ u64 c.at))) (child_spelling c) c (sym (append_assoc (u32 c.count) (u8 c.height) (c.name ++ u64 c.at)) ∙ sym (append_assoc (u32 c.count ++ u8 c.height) c.name (u64 c.at)))
    (reads_then (number_where w32 (λ n. nat_lt 0 n)) (c_count c.index) (u32 c.count) (u8 c.height ++ (c.name ++ u64 c.at)) c.count c (reads_u32 (λ n. nat_lt 0 n) c.count is.count (lt_test 0 c.count is.some)) at_count)

abbrev pub from_child : List ℕ → InodeChild → Fields (List InodeChild)
from_child is c = child_fields is >>= λ cs. done (c ∷ cs)

reads_children : (cs : List InodeChild) → AllByRecursion IsInodeChild cs → Reads (child_fields (map (λ c. c.index) cs)) (flat_map child_spelling cs) cs
unfolding child_fields
reads_children [] each = reads_done []
reads_children (c ∷ cs) each =
    reads_then (child_field c.index) (from_child (map (λ c. c.index) cs)) (child_spelling c) (flat_map child_spelling cs) c (c ∷ cs) (reads_child c each.0)
    (reads_last (child_fields (map (λ c. c.index) cs)) (λ cs. c ∷ cs) (flat_map child_spelling cs) cs (reads_children cs each.1))

-- ---- bitmaps

rising_within : (a top : ℕ) (is : List ℕ) → ((k : ℕ) → k + 1 < length is → slice_index is k < slice_index is (k + 1)) → ((k : ℕ) → k < length is → slice_index is k < top) → (0 < length is → a ≤ slice_index is 0) → Within a top is
rising_within a top [] r t l = tt
rising_within a top (i ∷ is) r t l = (
  l (omega arith),
  t 0 (omega arith),
  rising_within (i + 1) top is
      (λ k h. let e : suc k + 1 ≡ suc (k + 1) = omega arith in subst (λ m. slice_index is k < slice_index (i ∷ is) m) e (r (suc k) (omega (arith, h))))
      (λ k h. t (suc k) (omega (arith, h)))
      (λ h. let f : i < slice_index is 0 = r 0 (omega (arith, h)) in omega (arith, f)),
)

pub weights : (acc : ℕ) (cs : List InodeChild) → fold (λ n (c : InodeChild). n + 2 ^ c.index) acc cs ≡ fold (λ n i. n + 2 ^ i) acc (map (λ c. c.index) cs)
weights acc [] = refl
weights acc (c ∷ cs) = weights (acc + 2 ^ c.index) cs

added_small : (a top low : ℕ) (is : List ℕ) → a ≤ top → Within a top is → low < 2 ^ a → added low is < 2 ^ top
added_small a top low [] l w s = (let p = pow-le-pow_right {n = 2} (lit< tt) l in omega (arith, s, p))
added_small a top low (i ∷ is) l w s =
    let p = pow-le-pow_right {n = 2} (lit< tt) w.0 in
    let e : 2 ^ (i + 1) ≡ 2 * 2 ^ i = (let f : i + 1 ≡ suc i = omega arith in ap (λ k. 2 ^ k) f) ∙ (let g : 2 ^ suc i ≡ 2 * 2 ^ i = omega arith in g) in
    added_small (i + 1) top (low + 2 ^ i) is (let h = w.1 in omega (arith, h)) w.2 (omega (arith, s, p, e))

added_more : (low : ℕ) (is : List ℕ) → low ≤ added low is
added_more low [] = omega arith
added_more low (i ∷ is) = let h = added_more (low + 2 ^ i) is in omega (arith, h)

added_some : (is : List ℕ) → 0 < length is → 0 < added 0 is
added_some [] l = absurd (omega (arith, l))
added_some (i ∷ is) l = let h = added_more (0 + 2 ^ i) is in let p = one-le-pow i 2 (lit< tt) in omega (arith, h, p)

length_map : {A B : Type 0} (f : A → B) (xs : List A) → length (map f xs) ≡ length xs
length_map f [] = refl
length_map f (x ∷ xs) = ap suc (length_map f xs)

at_map : (cs : List InodeChild) (k : ℕ) → AllByRecursion IsInodeChild cs → k < length (map (λ c. c.index) cs) → slice_index (map (λ c. c.index) cs) k < 32
at_map [] k each l = absurd (omega (arith, l))
at_map (c ∷ cs) zero each l = each.0.index
at_map (c ∷ cs) (suc k) each l = at_map cs k each.1 (omega (arith, l))

module _ (depth : ℕ) (cs : List InodeChild) (is : IsInode depth cs) where
  each_child : AllByRecursion IsInodeChild cs
  each_child = recursion_from_All IsInodeChild cs is.each

  within : Within 0 32 (map (λ c. c.index) cs)
  within = rising_within 0 32 (map (λ c. c.index) cs) is.rising (λ k l. at_map cs k each_child l) (λ l. omega arith)

  pub bits_are : bits_of (bitmap cs) ≡ map (λ c. c.index) cs
  bits_are = ap bits_of (weights 0 cs) ∙ bits_of_sum (map (λ c. c.index) cs) within

  -- the bits of different indexes below 32 fit their field
  pub bitmap_small : bitmap cs < 2 ^ 32
  bitmap_small = let e = weights 0 cs in let s = added_small 0 32 0 (map (λ c. c.index) cs) (lit≤ tt) within (lit< tt) in subst (λ n. n < 2 ^ 32) (sym e) s

  not_zero : 0 < bitmap cs
  not_zero = let e = weights 0 cs in let l = length_map (λ (c : InodeChild). c.index) cs in let some = is.some in let s = added_some (map (λ c. c.index) cs) (omega (arith, l, some)) in subst (λ n. 0 < n) (sym e) s

  abbrev i_bitmap : ℕ → Fields Record
  i_bitmap m = child_fields (bits_of m) >>= λ cs. done (Record.Inode depth cs)

  abbrev i_depth : ℕ → Fields Record
  i_depth d = number_where w32 (λ n. nat_lt 0 n) >>= λ m. (child_fields (bits_of m) >>= λ cs. done (Record.Inode d cs))

  reads_inode : Reads inode_fields (body (Record.Inode depth cs)) (Record.Inode depth cs)
  unfolding body
  reads_inode =
      let children : Reads (child_fields (bits_of (bitmap cs))) (flat_map child_spelling cs) cs = subst (λ ks. Reads (child_fields ks) (flat_map child_spelling cs) cs) (sym bits_are) (reads_children cs each_child) in
      let at_bitmap : Reads (i_bitmap (bitmap cs)) (flat_map child_spelling cs) (Record.Inode depth cs) = reads_last (child_fields (bits_of (bitmap cs))) (Record.Inode depth) (flat_map child_spelling cs) cs children in
      let at_depth : Reads (i_depth depth) (u32 (bitmap cs) ++ flat_map child_spelling cs) (Record.Inode depth cs) = reads_then (number_where w32 (λ n. nat_lt 0 n)) i_bitmap (u32 (bitmap cs)) (flat_map child_spelling cs) (bitmap cs) (Record.Inode depth cs) (reads_u32 (λ n. nat_lt 0 n) (bitmap cs) bitmap_small (lt_test 0 (bitmap cs) not_zero)) at_bitmap in
      reads_as inode_fields (u8 depth ++ (u32 (bitmap cs) ++ flat_map child_spelling cs)) (u8 depth ++ u32 (bitmap cs) ++ flat_map child_spelling cs) (Record.Inode depth cs) (sym (append_assoc (u8 depth) (u32 (bitmap cs)) (flat_map child_spelling cs)))
      (reads_then (number_where w8 (λ n. nat_le n 50)) i_depth (u8 depth) (u32 (bitmap cs) ++ flat_map child_spelling cs) depth (Record.Inode depth cs) (reads_u8 (λ n. nat_le n 50) depth (le_test depth 50 is.shallow)) at_depth)

-- ---- names

at_test : (t : Bytes) → slice_get t 0 ≢ Some 64 → begins_with_at t ≡ false
at_test [] n = refl
at_test (b ∷ t) n = apart b 64 (λ e. n (ap Some e))

name_test : (t : Bytes) → IsBranchName t → is_name t ≡ true
name_test t is = and_from (list_all is_word_byte t) (not (begins_with_at t)) (test_all IsWordByte is_word_byte word_byte t is.each) (negated (begins_with_at t) (at_test t is.no_reference))

abbrev pub s_number : Names → ℕ → Fields Record
s_number names number = text_field is_name None >>= λ name. done (name_set names number name)

reads_set : (names : Names) (number : ℕ) (name : Bytes) → IsU64 number → IsBranchName name → Reads (set_fields names) (body (name_set names number name)) (name_set names number name)
unfolding body
reads_set Names.branches number name n is =
    reads_then (number_where w64 any) (s_number Names.branches) (u64 number) (short_text name) number (Record.BranchSet number name) (reads_u64 any number n refl)
    (reads_last (text_field is_name None) (Record.BranchSet number) (short_text name) name (reads_text is_name None name is.some (name_test name is) refl))
reads_set Names.tags number name n is =
    reads_then (number_where w64 any) (s_number Names.tags) (u64 number) (short_text name) number (Record.TagSet number name) (reads_u64 any number n refl)
    (reads_last (text_field is_name None) (Record.TagSet number) (short_text name) name (reads_text is_name None name is.some (name_test name is) refl))

reads_remove : (names : Names) (name : Bytes) → IsBranchName name → Reads (remove_fields names) (body (name_remove names name)) (name_remove names name)
unfolding body
reads_remove Names.branches name is = reads_last (text_field is_name None) Record.BranchRemove (short_text name) name (reads_text is_name None name is.some (name_test name is) refl)
reads_remove Names.tags name is = reads_last (text_field is_name None) Record.TagRemove (short_text name) name (reads_text is_name None name is.some (name_test name is) refl)

-- ---- tables

abbrev pub row_spelling : Branch → Bytes
row_spelling row = short_text row.name ++ u64 row.number

abbrev pub RowsBehind : Option Bytes → List Branch → Type 0
RowsBehind before [] = Unit {0}
RowsBehind before (row ∷ rows) = (is_behind before row.name ≡ true) × RowsBehind (Some row.name) rows

abbrev pub r_number : ℕ → Bytes → ℕ → Fields (List Branch)
r_number n name number = row_fields n (Some name) >>= λ rows. done (record { name = name; number = number } ∷ rows)

abbrev pub r_name : ℕ → Bytes → Fields (List Branch)
r_name n name = number_where w64 any >>= r_number n name

reads_rows : (before : Option Bytes) (rows : List Branch) → AllByRecursion (λ row. IsBranchName row.name × IsU64 row.number) rows → RowsBehind before rows → Reads (row_fields (length rows) before) (flat_map row_spelling rows) rows
unfolding row_fields
reads_rows before [] each behind = reads_done []
reads_rows before (row ∷ rows) each behind =
    let later : Reads (row_fields (length rows) (Some row.name)) (flat_map row_spelling rows) rows = reads_rows (Some row.name) rows each.1 behind.1 in
    let at_number : Reads (r_number (length rows) row.name row.number) (flat_map row_spelling rows) (row ∷ rows) = reads_last (row_fields (length rows) (Some row.name)) (λ rows. row ∷ rows) (flat_map row_spelling rows) rows later in
    let at_name : Reads (r_name (length rows) row.name) (u64 row.number ++ flat_map row_spelling rows) (row ∷ rows) = reads_then (number_where w64 any) (r_number (length rows) row.name) (u64 row.number) (flat_map row_spelling rows) row.number (row ∷ rows) (reads_u64 any row.number each.0.1 refl) at_number in
    reads_as (row_fields (suc (length rows)) before) (short_text row.name ++ (u64 row.number ++ flat_map row_spelling rows)) (row_spelling row ++ flat_map row_spelling rows) (row ∷ rows) (sym (append_assoc (short_text row.name) (u64 row.number) (flat_map row_spelling rows)))
    (reads_then (text_field is_name before) (r_name (length rows)) (short_text row.name) (u64 row.number ++ flat_map row_spelling rows) row.name (row ∷ rows) (reads_text is_name before row.name each.0.0.some (name_test row.name each.0.0) behind.0) at_name)

abbrev pub t_count : Names → ℕ → Fields Record
t_count names count = row_fields count None >>= λ rows. done (name_table names rows)

reads_table : (names : Names) (rows : List Branch) → IsTable rows → RowsBehind None rows → Reads (table_fields names) (body (name_table names rows)) (name_table names rows)
unfolding body
reads_table Names.branches rows is behind =
    reads_then (number_where w16 (λ n. nat_le n 4096)) (t_count Names.branches) (u16 (length rows)) (flat_map row_spelling rows) (length rows) (Record.BranchTable rows) (reads_u16 (λ n. nat_le n 4096) (length rows) (let c = is.count in omega (arith, c)) (le_test (length rows) 4096 is.count))
    (reads_last (row_fields (length rows) None) Record.BranchTable (flat_map row_spelling rows) rows (reads_rows None rows (recursion_from_All (λ row. IsBranchName row.name × IsU64 row.number) rows is.each) behind))
reads_table Names.tags rows is behind =
    reads_then (number_where w16 (λ n. nat_le n 4096)) (t_count Names.tags) (u16 (length rows)) (flat_map row_spelling rows) (length rows) (Record.TagTable rows) (reads_u16 (λ n. nat_le n 4096) (length rows) (let c = is.count in omega (arith, c)) (le_test (length rows) 4096 is.count))
    (reads_last (row_fields (length rows) None) Record.TagTable (flat_map row_spelling rows) rows (reads_rows None rows (recursion_from_All (λ row. IsBranchName row.name × IsU64 row.number) rows is.each) behind))

-- ---- commits

abbrev pub from_length : ℕ → Bytes → ℕ → Fields Info
from_length date author n = bytes_where n is_message >>= λ message. done (record { date = date; author = author; message = message })

abbrev pub from_author : ℕ → Bytes → Fields Info
from_author date author = number_where w16 (λ n. nat_lt 0 n && nat_le n 4096) >>= from_length date author

abbrev pub from_date : ℕ → Fields Info
from_date date = text_field is_author None >>= from_author date

message_test : (t : Bytes) → All (λ b. (b < 256) × (b ≢ 10) × (b ≢ 0)) t → is_message t ≡ true
message_test t a = test_all (λ b. (b < 256) × (b ≢ 10) × (b ≢ 0)) (λ b. not (b == 10 || b == 0)) (λ b w. negated (b == 10 || b == 0) (neither (b == 10) (b == 0) (apart b 10 w.1) (apart b 0 w.2))) t a

reads_info : (i : Info) → IsInfo i → Reads info_fields (info_spelling i) i
reads_info i is =
    let at_length : Reads (from_length i.date i.author (length i.message)) i.message i = reads_last (bytes_where (length i.message) is_message) (λ message. record { date = i.date; author = i.author; message = message }) i.message i.message (reads_bytes (length i.message) is_message i.message refl (message_test i.message is.message)) in
    let at_author : Reads (from_author i.date i.author) (long_text i.message) i = reads_then (number_where w16 (λ n. nat_lt 0 n && nat_le n 4096)) (from_length i.date i.author) (u16 (length i.message)) i.message (length i.message) i (reads_u16 (λ n. nat_lt 0 n && nat_le n 4096) (length i.message) (let s = is.message_short in omega (arith, s)) (and_from (nat_lt 0 (length i.message)) (nat_le (length i.message) 4096) (lt_test 0 (length i.message) is.message_some) (le_test (length i.message) 4096 is.message_short))) at_length in
    let at_date : Reads (from_date i.date) (short_text i.author ++ long_text i.message) i = reads_then (text_field is_author None) (from_author i.date) (short_text i.author) (long_text i.message) i.author i (reads_text is_author None i.author is.author_some (test_all IsWordByte is_word_byte word_byte i.author is.author) refl) at_author in
    reads_as info_fields (u64 i.date ++ (short_text i.author ++ long_text i.message)) (info_spelling i) i (sym (append_assoc (u64 i.date) (short_text i.author) (long_text i.message)))
    (reads_then (number_where w64 any) from_date (u64 i.date) (short_text i.author ++ long_text i.message) i.date i (reads_u64 any i.date is.date refl) at_date)

abbrev pub parent_spelling : Parent → Bytes
parent_spelling p = u64 p.number ++ p.name

abbrev pub p_name : ℕ → ℕ → Bytes → Fields (List Parent)
p_name n number name = parent_fields n >>= λ ps. done (record { number = number; name = name } ∷ ps)

abbrev pub p_number : ℕ → ℕ → Fields (List Parent)
p_number n number = hash_field >>= p_name n number

reads_parents : (ps : List Parent) → AllByRecursion (λ p. IsU64 p.number × IsHash p.name) ps → Reads (parent_fields (length ps)) (flat_map parent_spelling ps) ps
unfolding parent_fields
reads_parents [] each = reads_done []
reads_parents (p ∷ ps) each =
    let at_name : Reads (p_name (length ps) p.number p.name) (flat_map parent_spelling ps) (p ∷ ps) = reads_last (parent_fields (length ps)) (λ ps. record { number = p.number; name = p.name } ∷ ps) (flat_map parent_spelling ps) ps (reads_parents ps each.1) in
    let at_number : Reads (p_number (length ps) p.number) (p.name ++ flat_map parent_spelling ps) (p ∷ ps) = reads_then hash_field (p_name (length ps) p.number) p.name (flat_map parent_spelling ps) p.name (p ∷ ps) (reads_bytes 32 (λ bytes. true) p.name each.0.1.0 refl) at_name in
    reads_as (parent_fields (suc (length ps))) (u64 p.number ++ (p.name ++ flat_map parent_spelling ps)) (parent_spelling p ++ flat_map parent_spelling ps) (p ∷ ps) (sym (append_assoc (u64 p.number) p.name (flat_map parent_spelling ps)))
    (reads_then (number_where w64 any) (p_number (length ps)) (u64 p.number) (p.name ++ flat_map parent_spelling ps) p.number (p ∷ ps) (reads_u64 any p.number each.0.0 refl) at_number)

abbrev pub commit_made : ℕ → Bytes → ℕ → List Parent → Info → Record
commit_made number root_name root_at parents info = Record.Commit (record { number = number; root_name = root_name; root_at = root_at; parents = parents; info = info })

abbrev pub k_parents : ℕ → Bytes → ℕ → List Parent → Fields Record
k_parents number root_name root_at parents = info_fields >>= λ info. done (commit_made number root_name root_at parents info)

abbrev pub k_count : ℕ → Bytes → ℕ → ℕ → Fields Record
k_count number root_name root_at count = parent_fields count >>= k_parents number root_name root_at

abbrev pub k_root_at : ℕ → Bytes → ℕ → Fields Record
k_root_at number root_name root_at = number_where w8 (λ n. nat_le n 16) >>= k_count number root_name root_at

abbrev pub k_root_name : ℕ → Bytes → Fields Record
k_root_name number root_name = number_where w64 any >>= k_root_at number root_name

abbrev pub k_number : ℕ → Fields Record
k_number number = hash_field >>= k_root_name number

pub assoc6 : (a b c d e f : Bytes) → a ++ (b ++ (c ++ (d ++ (e ++ f)))) ≡ a ++ b ++ c ++ d ++ e ++ f
assoc6 a b c d e f = sym (append_assoc a b (c ++ (d ++ (e ++ f)))) ∙ sym (append_assoc (a ++ b) c (d ++ (e ++ f))) ∙ sym (append_assoc (a ++ b ++ c) d (e ++ f)) ∙ sym (append_assoc (a ++ b ++ c ++ d) e f)

reads_commit : (c : CommitRecord) → IsCommitRecord c → Reads commit_fields (body (Record.Commit c)) (Record.Commit c)
unfolding body
reads_commit c is =
    let ps : Bytes = flat_map parent_spelling c.parents in
    let info : Bytes = info_spelling c.info in
    let at_parents : Reads (k_parents c.number c.root_name c.root_at c.parents) info (Record.Commit c) = reads_last info_fields (commit_made c.number c.root_name c.root_at c.parents) info c.info (reads_info c.info is.info) in
    let at_count : Reads (k_count c.number c.root_name c.root_at (length c.parents)) (ps ++ info) (Record.Commit c) = reads_then (parent_fields (length c.parents)) (k_parents c.number c.root_name c.root_at) ps info c.parents (Record.Commit c) (reads_parents c.parents (recursion_from_All (λ p. IsU64 p.number × IsHash p.name) c.parents is.each)) at_parents in
    let at_root_at : Reads (k_root_at c.number c.root_name c.root_at) (u8 (length c.parents) ++ (ps ++ info)) (Record.Commit c) = reads_then (number_where w8 (λ n. nat_le n 16)) (k_count c.number c.root_name c.root_at) (u8 (length c.parents)) (ps ++ info) (length c.parents) (Record.Commit c) (reads_u8 (λ n. nat_le n 16) (length c.parents) (le_test (length c.parents) 16 is.parents)) at_count in
    let at_root_name : Reads (k_root_name c.number c.root_name) (u64 c.root_at ++ (u8 (length c.parents) ++ (ps ++ info))) (Record.Commit c) = reads_then (number_where w64 any) (k_root_at c.number c.root_name) (u64 c.root_at) (u8 (length c.parents) ++ (ps ++ info)) c.root_at (Record.Commit c) (reads_u64 any c.root_at is.root_at refl) at_root_at in
    let at_number : Reads (k_number c.number) (c.root_name ++ (u64 c.root_at ++ (u8 (length c.parents) ++ (ps ++ info)))) (Record.Commit c) = reads_then hash_field (k_root_name c.number) c.root_name (u64 c.root_at ++ (u8 (length c.parents) ++ (ps ++ info))) c.root_name (Record.Commit c) (reads_bytes 32 (λ bytes. true) c.root_name is.root_name.0 refl) at_root_name in
    reads_as commit_fields (u64 c.number ++ (c.root_name ++ (u64 c.root_at ++ (u8 (length c.parents) ++ (ps ++ info))))) (u64 c.number ++ c.root_name ++ u64 c.root_at ++ u8 (length c.parents) ++ ps ++ info) (Record.Commit c) (assoc6 (u64 c.number) c.root_name (u64 c.root_at) (u8 (length c.parents)) ps info)
    (reads_then (number_where w64 any) k_number (u64 c.number) (c.root_name ++ (u64 c.root_at ++ (u8 (length c.parents) ++ (ps ++ info)))) c.number (Record.Commit c) (reads_u64 any c.number is.number refl) at_number)

-- ---- records

T_of : (b : Bool) → b ≡ true → T b
T_of b e = subst T (sym e) tt

head_before : (t u : Bytes) (ts : List (Bytes × Bytes)) → T (Entries.below_all bytes_cmp t ((u, u) ∷ ts)) → is_behind (Some t) u ≡ true
head_before t u ts h = by (is_lt (bytes_cmp t u)) h
  where
    by : (b : Bool) → T (b && Entries.below_all bytes_cmp t ts) → b ≡ true
    by true h = refl
    by false h = absurd h

T_first : (c d : Bool) → T (c && d) → T c
T_first true d h = tt
T_first false d h = h

T_second : (c d : Bool) → T (c && d) → T d
T_second true d h = h
T_second false d h = absurd h

leaf_behind : (before : Option Bytes) (es : List LeafEntry) → (0 < length es → (e : LeafEntry) → slice_get es 0 ≡ Some e → is_behind before e.step ≡ true) → T (Entries.is_sorted bytes_cmp (map (λ t. (t, t)) (map (λ (e : LeafEntry). e.step) es))) → Behind before es
leaf_behind before [] first sorted = tt
leaf_behind before (e ∷ es) first sorted = (first (omega arith) e refl, leaf_behind (Some e.step) es (λ l f is. by es f is (T_first (Entries.below_all bytes_cmp e.step (map (λ t. (t, t)) (map (λ (e : LeafEntry). e.step) es))) _ sorted)) (T_second (Entries.below_all bytes_cmp e.step (map (λ t. (t, t)) (map (λ (e : LeafEntry). e.step) es))) _ sorted))
  where
    by : (fs : List LeafEntry) (f : LeafEntry) → slice_get fs 0 ≡ Some f → T (Entries.below_all bytes_cmp e.step (map (λ t. (t, t)) (map (λ (e : LeafEntry). e.step) fs))) → is_behind (Some e.step) f.step ≡ true
    by [] f is h = cc
    by (g ∷ fs) f is h = ap (λ (o : Option LeafEntry). is_behind (Some e.step) (step_of o)) (sym is) ∙ head_before e.step g.step (map (λ t. (t, t)) (map (λ (e : LeafEntry). e.step) fs)) h
      where
        step_of : Option LeafEntry → Bytes
        step_of None = []
        step_of (Some x) = x.step

row_behind : (before : Option Bytes) (rows : List Branch) → (0 < length rows → (row : Branch) → slice_get rows 0 ≡ Some row → is_behind before row.name ≡ true) → T (Entries.is_sorted bytes_cmp (map (λ t. (t, t)) (map (λ (row : Branch). row.name) rows))) → RowsBehind before rows
row_behind before [] first sorted = tt
row_behind before (e ∷ es) first sorted = (first (omega arith) e refl, row_behind (Some e.name) es (λ l f is. by es f is (T_first (Entries.below_all bytes_cmp e.name (map (λ t. (t, t)) (map (λ (row : Branch). row.name) es))) _ sorted)) (T_second (Entries.below_all bytes_cmp e.name (map (λ t. (t, t)) (map (λ (row : Branch). row.name) es))) _ sorted))
  where
    by : (fs : List Branch) (f : Branch) → slice_get fs 0 ≡ Some f → T (Entries.below_all bytes_cmp e.name (map (λ t. (t, t)) (map (λ (row : Branch). row.name) fs))) → is_behind (Some e.name) f.name ≡ true
    by [] f is h = cc
    by (g ∷ fs) f is h = ap (λ (o : Option Branch). is_behind (Some e.name) (name_of_row o)) (sym is) ∙ head_before e.name g.name (map (λ t. (t, t)) (map (λ (row : Branch). row.name) fs)) h
      where
        name_of_row : Option Branch → Bytes
        name_of_row None = []
        name_of_row (Some x) = x.name

abbrev Read : Type 0
Read = Result (Record × ℕ) RecordFault

chain : (a b c d : Bool) (w x y z t : Read) → a ≡ false → b ≡ false → c ≡ false → d ≡ false → (if a then w else if b then x else if c then y else if d then z else t) ≡ t
chain false false false false w x y z t e f g h = refl
chain true b c d w x y z t e f g h = cc
chain false true c d w x y z t e f g h = cc
chain false false true d w x y z t e f g h = cc
chain false false false true w x y z t e f g h = cc

stage : ℕ → ℕ → Bytes → ℕ → Read
stage v k bytes len =
    if not (known v k) then Err (RecordFault.Kind k) else
    if nat_lt (length bytes) 4 then Err RecordFault.Short else
    if k == 1 && nat_lt (contents_limit v) len then Err RecordFault.Length else
    if nat_lt (length bytes) (4 + len) then Err RecordFault.Short else
    body_of k (take len (drop 4 bytes)) (fields_of k)

not_less : (m n : ℕ) → n ≤ m → nat_lt m n ≡ false
not_less m n l = grind arith

pub length_both : (t u : Bytes) → length (t ++ u) ≡ length t + length u
length_both [] u = omega arith
length_both (x ∷ t) u = let e = length_both t u in omega (arith, e)

reading_by : (v k : ℕ) (b rest : Bytes) (f : Fields Record) (r : Record) → known v k ≡ true → (k == 1 && nat_lt (contents_limit v) (length b)) ≡ false → length b < 2 ^ 32
    → fields_of k ≡ Some f → f (5, b) ≡ Ok (r, (5 + length b, [])) → reading v (k ∷ (u32 (length b) ++ (b ++ rest))) ≡ Ok (r, 5 + length b)
unfolding reading stage
reading_by v k b rest f r is_known fits small has gives =
    let bytes : Bytes = u32 (length b) ++ (b ++ rest) in
    let l = length_both b rest in
    ap (stage v k bytes) (from_le_bytes-to_le_bytes_4 (length b) small)
    ∙ chain (not (known v k)) (nat_lt (length bytes) 4) (k == 1 && nat_lt (contents_limit v) (length b)) (nat_lt (length bytes) (4 + length b)) _ _ _ _ (body_of k (take (length b) (b ++ rest)) (fields_of k))
    (ap not is_known) (not_less (length bytes) 4 (omega arith)) fits (not_less (length bytes) (4 + length b) (omega (arith, l)))
    ∙ (λ i. body_of k (take_at b rest (length b) refl i) (has i))
    ∙ ap (whole (5 + length b)) gives

at_end : (f : Fields Record) (b : Bytes) (r : Record) → Reads f b r → f (5, b) ≡ Ok (r, (5 + length b, []))
at_end f b r reads = ap (λ bytes. f (5, bytes)) (sym (append-nil b)) ∙ reads 5 []

abbrev Exact : ℕ → Record → Bytes → Type 0
Exact v r rest = reading v (spelling r ++ rest) ≡ Ok (r, length (spelling r))

pub five : (n : ℕ) → 5 + n ≡ suc (suc (suc (suc (suc n))))
five n = omega arith

exact_by : (v k : ℕ) (r : Record) (rest : Bytes) (f : Fields Record) → kind_of r ≡ k → known v k ≡ true → (k == 1 && nat_lt (contents_limit v) (length (body r))) ≡ false → length (body r) < 2 ^ 32 → fields_of k ≡ Some f → f (5, body r) ≡ Ok (r, (5 + length (body r), [])) → Exact v r rest
unfolding spelling
exact_by v k r rest f kind is_known fits small has gives =
    ap (λ j. reading v (j ∷ (u32 (length (body r)) ++ (body r ++ rest)))) kind
    ∙ reading_by v k (body r) rest f r is_known fits small has gives
    ∙ ap (λ n. Ok (r, n)) (five (length (body r)))

known_low : (v k : ℕ) → 0 < k → k ≤ 7 → known v k ≡ true
known_low v k low high = and_from (nat_lt 0 k) _ (lt_test 0 k low) (by (nat_le 2 v))
  where
    by : (b : Bool) → nat_le k (if b then 10 else 7) ≡ true
    by true = le_test k 10 (omega (arith, high))
    by false = le_test k 7 high

known_high : (v k : ℕ) → 0 < k → k ≤ 10 → 2 ≤ v → known v k ≡ true
known_high v k low high two = and_from (nat_lt 0 k) _ (lt_test 0 k low) (ap (λ b. nat_le k (if b then 10 else 7)) (le_test 2 v two) ∙ le_test k 10 high)

-- What is spelled is read, whatever follows.
pub reading_exact : (v : ℕ) (r : Record) (rest : Bytes) → Fits v r → reading v (spelling r ++ rest) ≡ Ok (r, length (spelling r))
unfolding fields_of body
reading_exact v (Record.Contents bytes) rest is = exact_by v 1 (Record.Contents bytes) rest _ refl (known_low v 1 (lit< tt) (lit≤ tt)) (not_less (contents_limit v) (length bytes) is.fields.0) is.size refl refl
reading_exact v (Record.Leaf es) rest is = exact_by v 2 (Record.Leaf es) rest leaf_fields refl (known_low v 2 (lit< tt) (lit≤ tt)) refl is.size refl
    (at_end leaf_fields (body (Record.Leaf es)) (Record.Leaf es) (reads_leaf es is.fields.count (recursion_from_All IsLeafEntry es is.fields.each) (leaf_behind None es (λ l e f. refl) (T_of _ is.fields.rising))))
reading_exact v (Record.Inode depth cs) rest is = exact_by v 3 (Record.Inode depth cs) rest inode_fields refl (known_low v 3 (lit< tt) (lit≤ tt)) refl is.size refl (at_end inode_fields (body (Record.Inode depth cs)) (Record.Inode depth cs) (reads_inode depth cs is.fields))
reading_exact v (Record.Commit c) rest is = exact_by v 4 (Record.Commit c) rest commit_fields refl (known_low v 4 (lit< tt) (lit≤ tt)) refl is.size refl (at_end commit_fields (body (Record.Commit c)) (Record.Commit c) (reads_commit c is.fields))
reading_exact v (Record.BranchSet n name) rest is = exact_by v 5 (Record.BranchSet n name) rest (set_fields Names.branches) refl (known_low v 5 (lit< tt) (lit≤ tt)) refl is.size refl (at_end (set_fields Names.branches) (body (Record.BranchSet n name)) (Record.BranchSet n name) (reads_set Names.branches n name is.fields.0 is.fields.1))
reading_exact v (Record.TagSet n name) rest is = exact_by v 8 (Record.TagSet n name) rest (set_fields Names.tags) refl (known_high v 8 (lit< tt) (lit≤ tt) is.fields.0) refl is.size refl (at_end (set_fields Names.tags) (body (Record.TagSet n name)) (Record.TagSet n name) (reads_set Names.tags n name is.fields.1 is.fields.2))
reading_exact v (Record.BranchRemove name) rest is = exact_by v 6 (Record.BranchRemove name) rest (remove_fields Names.branches) refl (known_low v 6 (lit< tt) (lit≤ tt)) refl is.size refl (at_end (remove_fields Names.branches) (body (Record.BranchRemove name)) (Record.BranchRemove name) (reads_remove Names.branches name is.fields))
reading_exact v (Record.TagRemove name) rest is = exact_by v 9 (Record.TagRemove name) rest (remove_fields Names.tags) refl (known_high v 9 (lit< tt) (lit≤ tt) is.fields.0) refl is.size refl (at_end (remove_fields Names.tags) (body (Record.TagRemove name)) (Record.TagRemove name) (reads_remove Names.tags name is.fields.1))
reading_exact v (Record.BranchTable rows) rest is = exact_by v 7 (Record.BranchTable rows) rest (table_fields Names.branches) refl (known_low v 7 (lit< tt) (lit≤ tt)) refl is.size refl (at_end (table_fields Names.branches) (body (Record.BranchTable rows)) (Record.BranchTable rows) (reads_table Names.branches rows is.fields (row_behind None rows (λ l e f. refl) (T_of _ is.fields.rising))))
reading_exact v (Record.TagTable rows) rest is = exact_by v 10 (Record.TagTable rows) rest (table_fields Names.tags) refl (known_high v 10 (lit< tt) (lit≤ tt) is.fields.0) refl is.size refl (at_end (table_fields Names.tags) (body (Record.TagTable rows)) (Record.TagTable rows) (reads_table Names.tags rows is.fields.1 (row_behind None rows (λ l e f. refl) (T_of _ is.fields.1.rising))))

-- No spelling begins another: two records that are spelled at one place are one.
pub one_record : (v : ℕ) (r s : Record) (a b : Bytes) → Fits v r → Fits v s → spelling r ++ a ≡ spelling s ++ b → r ≡ s
one_record v r s a b fr fs e = ap (record_of_read r) (sym (reading_exact v r a fr) ∙ ap (reading v) e ∙ reading_exact v s b fs)
  where
    record_of_read : Record → Read → Record
    record_of_read d (Ok x) = x.0
    record_of_read d (Err f) = d
