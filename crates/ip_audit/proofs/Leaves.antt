-- The test of a leaf: it passes exactly where the leaf is a part of some directory.
use Rattle.std.proofs.Common.{◌≡◌, ◌⊎◌, inl, inr, ℕ, ◌<◌, ◌≤◌, List, [], ◌∷◌, refl, sym, ap, subst, ◌∙◌, Option, Some, None, Bool, true, false, T, length, arith, take, leb→le, length-take}
use Rattle.std.specs.Prelude.{IsTrue, IsFalse, nat_le, map, ◌||◌, ◌&&◌, is_some}
use Rattle.std.specs.List.{AllByRecursion}
use Rattle.std.specs.Ordering.{is_lt}
use Rattle.std.specs.Option.{option_and_then}
use Rattle.std.specs.FinMap.Entries as Entries
use Rattle.std.proofs.lemmas.List.{length-take-le}
use Rattle.std.specs.Cmp.Lexicographic.{nat_list_cmp_total}
use Rattle.std.proofs.lemmas.Bool.{cases_Bool}
use Rattle.sha2.specs.Sha256.{sha256}
use Rattle.ip_spec.specs.Map.{Map, get, empty, insert, checked}
use Rattle.ip_spec.specs.Path.{Step, Path, Bytes, bytes_cmp}
use Rattle.ip_spec.specs.declared.record.Record.{Record}
use Rattle.ip_spec.specs.declared.record.LeafEntry.{LeafEntry}
use Rattle.ip_spec.specs.Record.{Hash, are_rising}
use Rattle.ip_spec.specs.Tree as Tree
use Rattle.ip_spec.specs.Tree.{Tree, entries_of, height, is_empty, is_contents}
use Rattle.ip_spec.specs.Shape.{Entries, is_leaf, child_of, child_by, root_name, leaf_limit, deepest}
use Rattle.ip_spec.specs.TreeAt.{EntryAt, EntriesAt, PartAt, contents_at, directory_at, no_entries, entry_first, leaf_at, inode_at}
use Rattle.ip_spec.specs.Step.{entries_limit}
use Rattle.ip_image.specs.Standing.{AreTogether, IsSomePart}
use Rattle.ip_spec.proofs.SameDirectory.{get-below}
use Rattle.ip_audit.proofs.Basics.{no_true, bytes_antisymmetric, same_fields, leaf_or_inode}
use Rattle.ip_audit.specs.Memory.{Part, Kept, kept_contents, kept_part, Look, leaf_part, inode_part, kept_by, AtDepth, EntryIs, EntryPasses, LeafPasses, common_of, places}
use Rattle.ip_audit.proofs.Trees.{In, first_in, found_in, a_directory, height_entries, some_entry, some_below, below_in}
use Rattle.ip_spec.proofs.Naming.{root_name-entries}
use Rattle.ip_audit.proofs.Children.{in_map, map_of_in, some_length}
use Rattle.ip_audit.proofs.Parts.{RemembersBelow, IsTrueOf, kept_same, part_true, at_depth, part_some, entries_steps, entries_count}
use Rattle.ip_audit.proofs.Common.{together, are_together, common_each, common_begins, length_places, with_short, some_is, none_some}

-- each part that is remembered below an offset is a part of some directory
abbrev pub Good : Look → (ℕ → Option Record) → ℕ → Type 0
Good look records top = (at : ℕ) (p : Part) → at < top → look at ≡ Some (kept_part p) → IsSomePart records at

-- ---- directories

contents_child : (bytes : Bytes) → child_of (Tree.contents bytes) ≡ (1, sha256 bytes)
unfolding Tree.contents empty insert checked
contents_child bytes = refl

pub directory_child : (sub : Tree) → IsFalse (is_contents sub) → child_of sub ≡ (2, root_name sub)
directory_child sub h = by (get sub []) refl
  where
    by : (o : Option Bytes) → get sub [] ≡ o → child_of sub ≡ (2, root_name sub)
    by None e = ap (λ o. child_by o sub) e
    by (Some x) e = absurd (no_true (is_some (get sub [])) h (ap is_some e))

pub some_entries : (sub : Tree) → IsFalse (is_contents sub) → IsFalse (is_empty sub) → 0 < length (entries_of sub).entries
some_entries sub h some = let g = some_entry sub some in by g.0 g.1 g.2
  where
    by : (p : Path) (v : Bytes) → get sub p ≡ Some v → 0 < length (entries_of sub).entries
    by [] v e = absurd (no_true (is_some (get sub [])) h (ap is_some e))
    by (s ∷ p) v e = under (get (entries_of sub) s) refl (sym (get-below sub s p) ∙ e)
      where
        under : (o : Option Tree) → get (entries_of sub) s ≡ o → option_and_then (λ t. get t p) (get (entries_of sub) s) ≡ Some v → 0 < length (entries_of sub).entries
        under None e g = none_some v (sym (ap (option_and_then (λ t. get t p)) e) ∙ g)
        under (Some t) e g = some_length (s, t) (entries_of sub).entries (found_in nat_list_cmp_total bytes_antisymmetric s t (entries_of sub).entries e)

pub entries_some : (sub : Tree) → 0 < length (entries_of sub).entries → IsFalse (is_empty sub)
entries_some sub l = by (entries_of sub).entries refl l
  where
    not_empty : (es : List (Path × Bytes)) → sub.entries ≡ es → 0 < length es → IsFalse (is_empty sub)
    not_empty [] e l = absurd (omega (arith, l))
    not_empty (x ∷ es) e l = ap (λ (xs : List (Path × Bytes)). elim xs [ [] ↦ true | _ ∷ _ ↦ false ]) e

    by : (es : Entries) → (entries_of sub).entries ≡ es → 0 < length es → IsFalse (is_empty sub)
    by [] e l = absurd (omega (arith, l))
    by (x ∷ es) e l =
        let i : In x (entries_of sub).entries = subst (In x) (sym e) (first_in x es) in
        let b = some_below sub x.0 x.1 i in
        not_empty sub.entries refl (some_length (x.0 ∷ b.0, b.1) sub.entries (below_in sub x.0 x.1 b.0 b.1 i b.2))

part_or_contents : {X : Type 0} (p : Part) (name : Hash) → ◌≡◌ {A = Option Kept} (Some (kept_part p)) (Some (kept_contents name)) → X
part_or_contents p name e = cc

below_keys : (s : Step) (es : Entries) → Entries.below_all bytes_cmp s es ≡ Entries.below_all bytes_cmp s (map (λ (t : Step). (t, t)) (map (λ (x : Step × Tree). x.0) es))
below_keys s [] = refl
below_keys s (e ∷ es) = ap (λ b. is_lt (bytes_cmp s e.0) && b) (below_keys s es)

rising_ordered : (es : Entries) → Entries.is_sorted bytes_cmp es ≡ are_rising (map (λ (x : Step × Tree). x.0) es)
rising_ordered [] = refl
rising_ordered (e ∷ es) = let a = below_keys e.0 es in let b = rising_ordered es in λ i. a i && b i

-- ---- what fits passes

module _ (look : Look) (records : ℕ → Option Record) (at : ℕ) (rem : RemembersBelow look records at) where
  entry_passes : {top : ℕ} {e : LeafEntry} {x : Step × Tree} → top ≡ at → EntryAt records top e x → EntryPasses look top e
  entry_passes here (contents_at {e = e} bytes below is height child) =
      let l : e.at < at = omega (arith, below, here) in
      let same = child ∙ contents_child bytes in
      (below, subst (λ o. EntryIs o e) (sym (rem e.at l ∙ ap (kept_by look) is)) (ap (λ c. c.0) same, height, ap (λ c. c.1) same))
  entry_passes here (directory_at {e = e} sub below part directory some height child) =
      let l : e.at < at = omega (arith, below, here) in
      let p = part_true records look at rem l part in
      let same = child ∙ directory_child sub directory in
      let n = some_entries sub directory some in
      let c = p.2.count in
      (below, subst (λ o. EntryIs o e) (sym p.1) (ap (λ c. c.0) same, p.2.depths, omega (arith, n, c), height ∙ height_entries sub directory ∙ sym p.2.height, ap (λ c. c.1) same ∙ root_name-entries sub ∙ sym p.2.name))

  each_passes : {top : ℕ} {fs : List LeafEntry} {xs : Entries} → top ≡ at → EntriesAt records top fs xs → AllByRecursion (EntryPasses look top) fs
  each_passes here no_entries = tt
  each_passes here (entry_first first rest) = (entry_passes here first, each_passes here rest)

  all_places : (ss : List Step) (s : Step) → In s ss → ((r : Step) → In r ss → take 51 (places r) ≡ take 51 (places s)) → length (common_of ss) ≡ 51
  unfolding In
  all_places [] s i h = absurd i
  all_places (r ∷ ss) s i h =
      let n : length (take 51 (places s)) ≡ 51 = length-take-le 51 (places s) (let k = length_places s in omega (arith, k)) in
      let is = common_begins 51 (take 51 (places s)) (r ∷ ss) s i n h in
      let high = with_short (places r) ss in
      let k = length_places r in
      let t = length-take 51 (common_of (r ∷ ss)) in
      let m : length (take 51 (common_of (r ∷ ss))) ≡ 51 = ap length is ∙ n in
      omega (arith, high, k, t, m)

  pub leaf_passes : (depth : ℕ) (es : Entries) (fields : List LeafEntry) → PartAt records depth at es → AreTogether depth es → length es ≤ entries_limit → records at ≡ Some (Record.Leaf fields) → LeafPasses look at fields
  leaf_passes depth es fields (inode_at children is inode each) t small here = leaf_or_inode (records at) fields depth children here is
  leaf_passes depth es fields (leaf_at fs is leaf each) t small here =
      let same : fs ≡ fields = same_fields (records at) fs fields is here in
      subst (λ gs. LeafPasses look at gs) same record {
        each = each_passes refl each;
        few = few depth es leaf t each (cases_Bool (nat_le (length es) leaf_limit));
        bounded = let n = entries_count records each in omega (arith, n, small);
      }
    where
      few : (depth : ℕ) (es : Entries) → IsTrue (is_leaf depth es) → AreTogether depth es → EntriesAt records at fs es → (nat_le (length es) leaf_limit ≡ true) ⊎ (nat_le (length es) leaf_limit ≡ false)
          → (length fs ≤ leaf_limit) ⊎ (length (common_of (map (λ e. e.step) fs)) ≡ deepest)
      few depth es leaf t each (inl b) = inl (let n = entries_count records each in let l = leb→le (length es) leaf_limit (subst T (sym b) tt) in omega (arith, n, l))
      few depth [] leaf t each (inr b) = absurd (no_true false refl (sym b))
      few depth (x ∷ xs) leaf t each (inr b) = inr (
          let deep : 51 ≤ depth = second depth (nat_le (length (x ∷ xs)) leaf_limit) b leaf in
          let steps = entries_steps records each in
          ap (λ ss. length (common_of ss)) steps
          ∙ all_places (map (λ (y : Step × Tree). y.0) (x ∷ xs)) x.0 (map_of_in (λ (y : Step × Tree). y.0) x (x ∷ xs) (first_in x xs))
          (λ r i. let m = in_map (λ (y : Step × Tree). y.0) r (x ∷ xs) i in
          ap (λ s. take 51 (places s)) m.2 ∙ together 51 (x ∷ xs) (omega arith) (λ d l. t d (omega (arith, l, deep))) m.0 x m.1 (first_in x xs)))
        where
          low : (d : ℕ) → nat_le 51 d ≡ true → 51 ≤ d
          low d h = leb→le 51 d (subst T (sym h) tt)

          second : (d : ℕ) (c : Bool) → c ≡ false → (c || nat_le 51 d) ≡ true → 51 ≤ d
          second d true f h = absurd (no_true true f refl)
          second d false f h = low d h

-- ---- what passes fits

module _ (look : Look) (records : ℕ → Option Record) (at : ℕ) (rem : RemembersBelow look records at) (good : Good look records at) where
  pub contents_there : (o : Option Record) (name : Hash) → kept_by look o ≡ Some (kept_contents name) → (bytes : Bytes) × (o ≡ Some (Record.Contents bytes)) × (name ≡ sha256 bytes)
  contents_there None name e = none_some (kept_contents name) e
  contents_there (Some (Record.Contents bytes)) name e = (bytes, refl, sym (ap name_in (some_is (kept_contents (sha256 bytes)) (kept_contents name) e)))
    where
      name_in : Kept → Hash
      name_in (kept_contents n) = n
      name_in (kept_part p) = []
  contents_there (Some (Record.Leaf fields)) name e = part_or_contents (leaf_part fields) name e
  contents_there (Some (Record.Inode depth cs)) name e = part_or_contents (inode_part look depth cs) name e
  contents_there (Some (Record.Commit c)) name e = none_some (kept_contents name) e
  contents_there (Some (Record.BranchSet n t)) name e = none_some (kept_contents name) e
  contents_there (Some (Record.TagSet n t)) name e = none_some (kept_contents name) e
  contents_there (Some (Record.BranchRemove t)) name e = none_some (kept_contents name) e
  contents_there (Some (Record.TagRemove t)) name e = none_some (kept_contents name) e
  contents_there (Some (Record.BranchTable rows)) name e = none_some (kept_contents name) e
  contents_there (Some (Record.TagTable rows)) name e = none_some (kept_contents name) e

  -- what is remembered as a part at a depth is one there
  pub part_there : (a : ℕ) (p : Part) (d : ℕ) → a < at → look a ≡ Some (kept_part p) → AtDepth d p
      → (es : Map bytes_cmp Tree) × PartAt records d a es.entries × IsTrueOf d es.entries p
  part_there a p d l is deep =
      let g = good a p l is in
      let part = at_depth records look at rem l g.2 p is d deep in
      let t = part_true records look at rem l part in
      let same : t.0 ≡ p = kept_same t.0 p (sym t.1 ∙ is) in
      (g.1, part, subst (λ q. IsTrueOf d g.1.entries q) same t.2)

  -- a whole directory, and its tree
  pub tree_there : (a : ℕ) (p : Part) → a < at → look a ≡ Some (kept_part p) → AtDepth 0 p
      → (t : Tree) × IsFalse (is_contents t) × PartAt records 0 a (entries_of t).entries × IsTrueOf 0 (entries_of t).entries p
  tree_there a p l is deep =
      let g = part_there a p 0 l is deep in
      let d = a_directory g.0.entries g.0.sorted (part_some records g.1) in
      (d.0, d.1, subst (λ es. PartAt records 0 a es) (sym d.2) g.1, subst (λ es. IsTrueOf 0 es p) (sym d.2) g.2)

  entry_fits : (e : LeafEntry) → EntryPasses look at e → (sub : Tree) × EntryAt records at e (e.step, sub)
  entry_fits e (below, is) = by (look e.at) refl is
    where
      by : (o : Option Kept) → look e.at ≡ o → EntryIs o e → (sub : Tree) × EntryAt records at e (e.step, sub)
      by None same is = absurd is
      by (Some (kept_contents name)) same is =
          let c = contents_there (records e.at) name (sym (rem e.at below) ∙ same) in
          (Tree.contents c.0, contents_at c.0 below c.1 is.1 ((λ i. (is.0 i, (is.2 ∙ c.2) i)) ∙ sym (contents_child c.0)))
      by (Some (kept_part p)) same is =
          let t = tree_there e.at p below same is.1 in
          let c = t.3.count in let n = is.2 in (
            t.0,
            directory_at t.0 below t.2 t.1 (entries_some t.0 (omega (arith, c, n))) (is.3 ∙ t.3.height ∙ sym (height_entries t.0 t.1))
                ((λ i. (is.0 i, (is.4 ∙ t.3.name ∙ sym (root_name-entries t.0)) i)) ∙ sym (directory_child t.0 t.1)),
          )

  entries_fit : (fs : List LeafEntry) → AllByRecursion (EntryPasses look at) fs → (es : Entries) × EntriesAt records at fs es
  entries_fit [] h = ([], no_entries)
  entries_fit (f ∷ fs) h = let x = entry_fits f h.0 in let xs = entries_fit fs h.1 in ((f.step, x.0) ∷ xs.0, entry_first x.1 xs.1)

  pub leaf_fits : (fields : List LeafEntry) → IsTrue (are_rising (map (λ e. e.step) fields)) → records at ≡ Some (Record.Leaf fields) → LeafPasses look at fields → IsSomePart records at
  leaf_fits fields rising here passes =
      let g = entries_fit fields passes.each in
      let n = entries_count records g.1 in
      let b = passes.bounded in
      let es : Map bytes_cmp Tree = record { entries = g.0; sorted = subst T (sym (rising_ordered g.0 ∙ ap are_rising (sym (entries_steps records g.1)) ∙ rising)) tt } in
      by es n g.1 (omega (arith, n, b)) passes.few
    where
      by : (es : Map bytes_cmp Tree) → length fields ≡ length es.entries → EntriesAt records at fields es.entries → length es.entries ≤ entries_limit
          → (length fields ≤ leaf_limit) ⊎ (length (common_of (map (λ e. e.step) fields)) ≡ deepest) → IsSomePart records at
      by es n each b (inl few) = (0, es, leaf_at fields here (few_test (length es.entries) (omega (arith, n, few))) each, (λ d l. absurd (omega (arith, l))), b)
        where
          few_test : (k : ℕ) → k ≤ 32 → (nat_le k 32 || nat_le 51 0) ≡ true
          few_test k l = grind arith
      by es n each b (inr deep) = (51, es, leaf_at fields here (or_true (nat_le (length es.entries) leaf_limit)) each, are_together 51 es.entries (omega arith) (λ x y i j. same x i ∙ sym (same y j)), b)
        where
          or_true : (c : Bool) → (c || nat_le 51 51) ≡ true
          or_true true = refl
          or_true false = refl

          same : (x : Step × Tree) → In x es.entries → take 51 (places x.0) ≡ take 51 (common_of (map (λ e. e.step) fields))
          same x i = sym (common_each 51 (map (λ e. e.step) fields) (omega (arith, deep)) x.0 (subst (In x.0) (sym (entries_steps records each)) (map_of_in (λ (y : Step × Tree). y.0) x es.entries i)))
