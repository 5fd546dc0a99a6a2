-- Lines cut one at a time, and sets of lines in order.
use Rattle.std.proofs.Common.{◌≡◌, ◌≢◌, ℕ, zero, suc, ◌+◌, ◌-◌, ◌<◌, Bool, true, false, ◌&&◌, ◌||◌, not, ◌==◌, filter, flat_map, List, [], ◌∷◌, ◌++◌, map, length, take, drop, get_or, refl, sym, ap, ◌∙◌, arith, eq-eqb, if◌then◌else◌, is_eq}
use Rattle.std.specs.List.{list_any}
use Rattle.std.specs.BTreeSet.{insert_key}
use Rattle.std.specs.BTreeMap.{is_at}
use Rattle.std.proofs.lemmas.Grind.{common_steps}
use Rattle.std.specs.Ordering.{match_ordering}
use Rattle.std.specs.declared.cmp.Ordering.TheVariants.{Less, Equal, Greater}
use Rattle.std.specs.FinMap.Entries.{put, by_order}
use Rattle.std.proofs.lemmas.Bool.Decides.{nat_tests}
use Rattle.std.proofs.lemmas.Cmp.{nat_list_cmp_total}
use denote.Ref.{Bor}
use Rattle.ip_spec.specs.Map.{Map, keys, insert_all, insert, empty, entries-insert}
use Rattle.ip_spec.specs.Path.{Bytes, bytes_cmp, same_bytes, line_feed}
use Rattle.ip_spec.specs.Merge.{lines_of, before_lines, ascending, has_line, merged_lines}
use Rattle.ip_merge.proofs.SameText.{same_text}
use Rattle.ip_merge.specs.Lines.{insert_lines, texts}

other_byte : (b : ℕ) → b ≢ 10 → (b == 10) ≡ false
other_byte b h = grind (arith, nat_tests)

pub line_cut : (at : ℕ) (bytes : Bytes) → at < length bytes → get_or bytes at 0 ≡ 10 → ((k : ℕ) → k < at → get_or bytes k 0 ≢ 10) → lines_of bytes ≡ take at bytes ∷ lines_of (drop (suc at) bytes)
line_cut at [] h here before = absurd (omega arith)
line_cut zero (b ∷ bytes) h here before = ap (λ t. if t then [] ∷ lines_of bytes else before_lines b (lines_of bytes)) (eq-eqb b 10 here)
line_cut (suc at) (b ∷ bytes) h here before =
    ap (λ t. if t then [] ∷ lines_of bytes else before_lines b (lines_of bytes)) (other_byte b (before 0 (omega arith)))
    ∙ ap (before_lines b) (line_cut at bytes (omega arith) here (λ k below. before (suc k) (omega arith)))

pub line_last : (bytes : Bytes) → 0 < length bytes → ((k : ℕ) → k < length bytes → get_or bytes k 0 ≢ 10) → lines_of bytes ≡ bytes ∷ []
line_last [] some none = absurd (omega arith)
line_last (b ∷ []) some none = ap (λ t. if t then [] ∷ [] else (b ∷ []) ∷ []) (other_byte b (none 0 (omega arith)))
line_last (b ∷ c ∷ bytes) some none =
    ap (λ t. if t then [] ∷ lines_of (c ∷ bytes) else before_lines b (lines_of (c ∷ bytes))) (other_byte b (none 0 (omega arith)))
    ∙ ap (before_lines b) (line_last (c ∷ bytes) (omega arith) (λ k below. none (suc k) (omega arith)))

-- an insertion among references is one among what they refer to
pub texts_insert : (line : Bor Bytes) (lines : List (Bor Bytes)) → texts (insert_key (λ x y. bytes_cmp x.now y.now) lines line) ≡ insert_key bytes_cmp (texts lines) line.now
texts_insert line [] = refl
texts_insert line (x ∷ lines) = elim (bytes_cmp line.now x.now) as (λ o. texts (match_ordering o (line ∷ x ∷ lines) (x ∷ lines) (x ∷ insert_key (λ x y. bytes_cmp x.now y.now) lines line)) ≡ match_ordering o (line.now ∷ x.now ∷ texts lines) (x.now ∷ texts lines) (x.now ∷ insert_key bytes_cmp (texts lines) line.now)) [
  | Less ↦ refl
  | Equal ↦ refl
  | Greater ↦ ap (λ rest. x.now ∷ rest) (texts_insert line lines)
]

pub insert_both : (a b lines : List Bytes) → insert_lines (insert_lines lines a) b ≡ insert_lines lines (a ++ b)
insert_both [] b lines = refl
insert_both (x ∷ a) b lines = insert_both a b (insert_key bytes_cmp lines x)

keys_put : (line : Bytes) (es : List (Bytes × Bytes)) → map (λ e. e.0) (put bytes_cmp line line es) ≡ insert_key bytes_cmp (map (λ e. e.0) es) line
keys_put line [] = refl
keys_put line (e ∷ es) = elim (bytes_cmp line e.0) as (λ o. map (λ e. e.0) (by_order o ((line, line) ∷ e ∷ es) ((e.0, line) ∷ es) (e ∷ put bytes_cmp line line es)) ≡ match_ordering o (line ∷ e.0 ∷ map (λ e. e.0) es) (e.0 ∷ map (λ e. e.0) es) (e.0 ∷ insert_key bytes_cmp (map (λ e. e.0) es) line)) [
  | Less ↦ refl
  | Equal ↦ refl
  | Greater ↦ ap (λ rest. e.0 ∷ rest) (keys_put line es)
]

keys_insert_all : (lines : List Bytes) (m : Map bytes_cmp Bytes) → keys (insert_all m (map (λ line. (line, line)) lines)) ≡ insert_lines (keys m) lines
keys_insert_all [] m = refl
keys_insert_all (line ∷ lines) m =
    keys_insert_all lines (insert m line line)
    ∙ ap (λ ks. insert_lines ks lines) (ap (map (λ e. e.0)) (entries-insert nat_list_cmp_total m line line) ∙ keys_put line m.entries)

pub ascending_is : (lines : List Bytes) → ascending lines ≡ insert_lines [] lines
unfolding empty
ascending_is lines = keys_insert_all lines empty

pub rest_after : (at : ℕ) (bytes : Bytes) → drop (suc at) bytes ≡ take (length bytes - (at + 1)) (drop (at + 1) bytes)
rest_after at bytes = grind (arith, common_steps)

pub has_text : (q : Bytes) (lines : List (Bor Bytes)) → list_any (is_at (λ k. bytes_cmp q k.now)) lines ≡ has_line (texts lines) q
has_text q [] = refl
has_text q (x ∷ lines) = ap (λ b. is_eq (bytes_cmp q x.now) || b) (has_text q lines)

twice : (a b c : Bool) → a ≡ b → (a || c) ≡ (b || (a || c))
twice true b c e = ap (λ b. b || true) e
twice false b c e = ap (λ b. b || c) e

turned : (a b c : Bool) → (a || (b || c)) ≡ (b || (a || c))
turned true true c = refl
turned true false c = refl
turned false b c = refl

joined : (a b c : Bool) → (a || (b || c)) ≡ ((a || b) || c)
joined true b c = refl
joined false b c = refl

-- the lines of a set are those that were put into it
has_inserted : (q line : Bytes) (lines : List Bytes) → has_line (insert_key bytes_cmp lines line) q ≡ (same_bytes q line || has_line lines q)
has_inserted q line [] = refl
has_inserted q line (x ∷ lines) = elim (bytes_cmp line x) as (λ o. bytes_cmp line x ≡ o → has_line (match_ordering o (line ∷ x ∷ lines) (x ∷ lines) (x ∷ insert_key bytes_cmp lines line)) q ≡ (same_bytes q line || (same_bytes q x || has_line lines q))) [
  | Less ↦ λ _. refl
  | Equal ↦ λ e. twice (same_bytes q x) (same_bytes q line) (has_line lines q) (ap (same_bytes q) (sym (same_text line x (ap is_eq e))))
  | Greater ↦ λ _. ap (λ b. same_bytes q x || b) (has_inserted q line lines) ∙ turned (same_bytes q x) (same_bytes q line) (has_line lines q)
] refl

pub has_all : (q : Bytes) (more lines : List Bytes) → has_line (insert_lines lines more) q ≡ (has_line more q || has_line lines q)
has_all q [] lines = refl
has_all q (line ∷ more) lines = has_all q more (insert_key bytes_cmp lines line) ∙ ap (λ b. has_line more q || b) (has_inserted q line lines) ∙ turned (has_line more q) (same_bytes q line) (has_line lines q) ∙ joined (same_bytes q line) (has_line more q) (has_line lines q)

nothing_more : (b : Bool) → (b || false) ≡ b
nothing_more true = refl
nothing_more false = refl

has_of : (lines a : List Bytes) (q : Bytes) → lines ≡ insert_lines [] a → has_line lines q ≡ has_line a q
has_of lines a q e = ap (λ ls. has_line ls q) e ∙ has_all q a [] ∙ nothing_more (has_line a q)

-- what is written of the two sides' lines, by sets of the three values' lines
pub merged_is : (o a b base left right sides : List Bytes) → base ≡ insert_lines [] o → left ≡ insert_lines [] a → right ≡ insert_lines [] b → sides ≡ insert_lines (insert_lines [] a) b
    → flat_map (λ line. line ++ line_feed ∷ []) (filter (λ line. (has_line left line && has_line right line) || not (has_line base line)) sides) ≡ merged_lines o a b
merged_is o a b base left right sides eo ea eb es =
    let all : sides ≡ ascending (a ++ b) = es ∙ insert_both a b [] ∙ sym (ascending_is (a ++ b)) in
    λ i. flat_map (λ line. line ++ line_feed ∷ []) (filter (λ line. (has_of left a line ea i && has_of right b line eb i) || not (has_of base o line eo i)) (all i))

pub texts_as_are : (lines : List (Bor Bytes)) → texts lines ≡ texts (map (λ line. line) lines)
texts_as_are [] = refl
texts_as_are (x ∷ lines) = ap (λ rest. x.now ∷ rest) (texts_as_are lines)
