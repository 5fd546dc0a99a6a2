-- The contents of a tree that no record is known to hold, by its nodes.
--     news n      each with its path.      fresh_values      their bytes
--     kept P es      those whose paths pass a test
--     Quiet known t      contents below a path that is known are known.      nothing_new      below what was not read there are no new ones.      news_of, news_of_root      they are the contents whose paths no record is known for
use Rattle.std.proofs.Common.{◌≡◌, ℕ, ◌+◌, zero, suc, List, [], ◌∷◌, ◌++◌, length, refl, sym, ap, subst, ◌∙◌, Option, Some, None, Bool, true, false, cond, map, T, arith}
use Rattle.std.specs.Prelude.{is_none, is_some, filter, ◌||◌, ◌&&◌, IsFalse, IsSomeAnd, option_map}
use Rattle.std.specs.Cmp.Lexicographic.{nat_list_cmp_total}
use Rattle.std.specs.Option.{option_and_then}
use Rattle.std.specs.Ordering.{is_eq}
use Rattle.std.specs.FinMap.Entries.{find, is_sorted, below_all}
use Rattle.std.proofs.lemmas.Bool.{false≢true, eq-eqb}
use Rattle.std.proofs.lemmas.List.{map-append}
use Rattle.ip_spec.specs.Map.{get}
use Rattle.ip_spec.specs.Path.{Bytes, Step, Path, bytes_cmp, path_cmp, same_bytes}
use Rattle.ip_spec.specs.declared.record.Record.{Record}
use Rattle.ip_spec.specs.declared.record.LeafEntry.{LeafEntry}
use Rattle.ip_spec.specs.declared.record.Ref.{Ref}
use Rattle.ip_spec.specs.Tree.{Tree, contents, entries_of, is_contents, tree_runs}
use Rattle.ip_spec.specs.Shape.{Entries, deepest, part}
use Rattle.ip_spec.specs.StoredParts.{entry_at, entry_through, part_at, stored_at, stored_by, stored_part}
use Rattle.ip_spec.specs.TreeAt.{PartAt}
use Rattle.ip_spec.specs.View.{leads}
use Rattle.ip_spec.proofs.TreeLaws.{path_total}
use Rattle.ip_spec.proofs.Subtrees.{same_bytes_turned, step_itself, get-contents}
use Rattle.ip_spec.proofs.SameDirectory.{get-below}
use Rattle.ip_spec.proofs.Naming.{Member, here, there, member_found}
use Rattle.ip_shape.specs.Loaded.{behind, is_under, known_here, unread_here, unread_in, way, way_to}
use Rattle.ip_shape.specs.Shape.{has}
use Rattle.ip_shape.specs.declared.part.Part.{Part, out-Part}
use Rattle.ip_shape.specs.declared.part.Part.TheOpen.{Part-F, Leaf, Inode, Unread}
use Rattle.ip_shape.proofs.LeafRead.{on_way}
use Rattle.ip_shape.proofs.Members.{has-filter}
use Rattle.ip_tree.specs.Node.{Node, Nodes, Root, stored, contents as new_contents, directory, none, first, unread, loaded, steps_in}
use Rattle.ip_tree.specs.Meaning.{HasSteps, KnowsParts, NodeIs, NodesAre, RootIs, StoredIs, contents_in, directory_in, is_read, steps_of}
use Rattle.ip_tree.specs.Known.{below_entry, below_unread, known_among, known_at, known_by, known_of, known_part, offset_of, unread_entry}
use Rattle.ip_tree.specs.Reads.{FindsEntry, stored_of_entry}
use Rattle.ip_tree.specs.declared.node.Stored.{Stored}
use Rattle.ip_tree.proofs.Indexes.{first_unread, no_some, some_same}
use Rattle.ip_tree.proofs.PartEntries.{part_found}
use Rattle.ip_tree.proofs.PartLookups.{through}
use Rattle.ip_save.specs.Laid.{fresh, fresh_among, fresh_root, record_in, record_of, unless_known}
use Rattle.ip_save.proofs.Unless.{unless_map}
use Rattle.ip_save.proofs.Split.{under, below_entries, both_first, both_second, less_of, split}

abbrev mutual
  pub news : Node → List (Path × Bytes)
  news (stored x) = []
  news (new_contents b) = ([], b) ∷ []
  news (directory root ns) = unless_known (record_of root) [] (news_among ns)

  pub news_among : Nodes → List (Path × Bytes)
  news_among none = []
  news_among (first s n ns) = map (under s) (news n) ++ news_among ns

abbrev pub news_root : Root → List (Path × Bytes)
news_root (unread r) = []
news_root (loaded root ns) = news (directory root ns)

abbrev pub value_of : Path × Bytes → Bytes
value_of e = e.1

pub values_under : (s : Step) (es : List (Path × Bytes)) → map value_of (map (under s) es) ≡ map value_of es
values_under s [] = refl
values_under s (e ∷ es) = ap (λ l. e.1 ∷ l) (values_under s es)

mutual
  pub fresh_values : (n : Node) → map value_of (news n) ≡ fresh n
  fresh_values (stored x) = refl
  fresh_values (new_contents b) = refl
  fresh_values (directory root ns) = unless_map (map value_of) (record_of root) [] (news_among ns) ∙ ap (unless_known (record_of root) []) (fresh_values_among ns)

  pub fresh_values_among : (ns : Nodes) → map value_of (news_among ns) ≡ fresh_among ns
  fresh_values_among none = refl
  fresh_values_among (first s n ns) =
      map-append value_of (map (under s) (news n)) (news_among ns)
      ∙ ap (λ l. l ++ map value_of (news_among ns)) (values_under s (news n) ∙ fresh_values n) ∙ ap (λ l. fresh n ++ l) (fresh_values_among ns)

pub fresh_values_root : (root : Root) → map value_of (news_root root) ≡ fresh_root root
fresh_values_root (unread r) = refl
fresh_values_root (loaded root ns) = fresh_values (directory root ns)

-- ---- those whose paths pass a test

abbrev pub kept : (Path → Bool) → List (Path × Bytes) → List (Path × Bytes)
kept P es = filter (λ e. P e.0) es

kept_append : (P : Path → Bool) (xs ys : List (Path × Bytes)) → kept P (xs ++ ys) ≡ kept P xs ++ kept P ys
kept_append P [] ys = refl
kept_append P (x ∷ xs) ys = by (P x.0) (kept_append P xs ys)
  where
    by : (b : Bool) → kept P (xs ++ ys) ≡ kept P xs ++ kept P ys → cond b (x ∷ kept P (xs ++ ys)) (kept P (xs ++ ys)) ≡ cond b (x ∷ kept P xs) (kept P xs) ++ kept P ys
    by true e = ap (λ l. x ∷ l) e
    by false e = e

kept_none : (P : Path → Bool) (es : List (Path × Bytes)) → ((e : Path × Bytes) → Member e es → P e.0 ≡ false) → kept P es ≡ []
kept_none P [] out = refl
kept_none P (e ∷ es) out = ap (λ b. cond b (e ∷ kept P es) (kept P es)) (out e here) ∙ kept_none P es (λ f m. out f (there m))

kept_under : (P Q : Path → Bool) (r s : Step) → r ≡ s → ((p : Path) → P (r ∷ p) ≡ Q p) → (es : List (Path × Bytes)) → kept P (map (under r) es) ≡ map (under s) (kept Q es)
kept_under P Q r s is same [] = refl
kept_under P Q r s is same (e ∷ es) =
    ap (λ b. cond b (under r e ∷ kept P (map (under r) es)) (kept P (map (under r) es))) (same e.0) ∙ ap (λ l. cond (Q e.0) (under r e ∷ l) l) (kept_under P Q r s is same es) ∙ by (Q e.0)
  where
    by : (b : Bool) → cond b (under r e ∷ map (under s) (kept Q es)) (map (under s) (kept Q es)) ≡ map (under s) (cond b (e ∷ kept Q es) (kept Q es))
    by true = ap (λ (k : Step). under k e ∷ map (under s) (kept Q es)) is
    by false = refl

same_under : (P Q : Path → Bool) (r : Step) → ((p : Path) → P (r ∷ p) ≡ Q (r ∷ p)) → (es : List (Path × Bytes)) → kept P (map (under r) es) ≡ kept Q (map (under r) es)
same_under P Q r same [] = refl
same_under P Q r same (e ∷ es) =
    ap (λ b. cond b (under r e ∷ kept P (map (under r) es)) (kept P (map (under r) es))) (same e.0) ∙ ap (λ l. cond (Q (r ∷ e.0)) (under r e ∷ l) l) (same_under P Q r same es)

-- a step that comes later is another one
pub apart_later : (s r : Step) (xs : Entries) (x : Step × Tree) → T (below_all bytes_cmp s (x ∷ xs)) → same_bytes x.0 s ≡ false
apart_later s r xs x below = same_bytes_turned x.0 s ∙ ap is_eq (less_of _ (both_first _ _ below))

same_later : (P Q : Path → Bool) (s : Step) → ((r : Step) (p : Path) → same_bytes r s ≡ false → P (r ∷ p) ≡ Q (r ∷ p)) → (xs : Entries) → T (below_all bytes_cmp s xs) → kept P (below_entries xs) ≡ kept Q (below_entries xs)
same_later P Q s same [] below = refl
same_later P Q s same (x ∷ xs) below =
    kept_append P (map (under x.0) x.1.entries) (below_entries xs)
    ∙ ap (λ l. l ++ kept P (below_entries xs)) (same_under P Q x.0 (λ p. same x.0 p (apart_later s s xs x below)) x.1.entries)
    ∙ ap (λ l. kept Q (map (under x.0) x.1.entries) ++ l) (same_later P Q s same xs (both_second _ _ below))
    ∙ sym (kept_append Q (map (under x.0) x.1.entries) (below_entries xs))

apart_member : (s : Step) (xs : Entries) (y : Step × Tree) → T (below_all bytes_cmp s xs) → Member y xs → same_bytes y.0 s ≡ false
apart_member s [] y below m = elim m [ ]
apart_member s (x ∷ xs) y below here = apart_later s s xs x below
apart_member s (x ∷ xs) y below (there m) = apart_member s xs y (both_second _ _ below) m

-- ---- below what is known

-- contents below a path that is known are known
abbrev pub Quiet : (Path → Option ℕ) → Tree → Type 0
Quiet known t = (above : Path) (s : Step) (below : Path) → is_some (known above) ≡ true → is_some (get t (above ++ s ∷ below)) ≡ true → is_some (known (above ++ s ∷ below)) ≡ true

same_quiet : (f g : Path → Option ℕ) (t : Tree) → ((p : Path) → f p ≡ g p) → Quiet f t → Quiet g t
same_quiet f g t same quiet above s below some stands = sym (ap is_some (same (above ++ s ∷ below))) ∙ quiet above s below (ap is_some (same above) ∙ some) stands

not_none : (o : Option ℕ) → is_some o ≡ true → is_none o ≡ false
not_none None e = absurd (false≢true e)
not_none (Some x) e = refl

-- ---- what was not read

-- below steps
abbrev pub known_path : (Step → Path → Option ℕ) → Path → Option ℕ
known_path f [] = None
known_path f (s ∷ p) = f s p

long_from : (levels depth : ℕ) (s : Step) → length (way levels depth s) ≡ levels
long_from zero depth s = refl
long_from (suc levels) depth s = ap suc (long_from levels (suc depth) s)

long_way : (s : Step) → length (way_to s) ≡ 51
unfolding way_to
long_way s = long_from deepest 0 s

long_append : (front left : List ℕ) → length (front ++ left) ≡ length front + length left
long_append [] left = omega arith
long_append (i ∷ front) left = omega (arith, long_append front left)

behind_front : (front left : List ℕ) → behind front (front ++ left) ≡ Some left
behind_front [] left = refl
behind_front (i ∷ front) left = ap (λ b. cond b (behind front (front ++ left)) None) (eq-eqb i i refl) ∙ behind_front front left

led : (front left : List ℕ) (s : Step) → way_to s ≡ front ++ left → leads 0 front s ≡ true
led front left s whole =
    sym (on_way front s (omega (arith, long_append front left, ap (λ (l : List ℕ). length l) whole, long_way s))) ∙ ap (λ (l : List ℕ). is_under (Some front) l) whole ∙ ap is_some (behind_front front left)

module _ (records : ℕ → Option Record) where
  some_none : (o : Option ℕ) → is_some o ≡ true → is_none (option_and_then (part_at records []) o) ≡ false
  some_none None h = absurd (false≢true h)
  some_none (Some x) h = refl

  found_below : (t : Tree) (s : Step) (q : Path) (b : Bytes) → get t (s ∷ q) ≡ Some b → option_and_then (λ (sub : Tree). get sub q) (find bytes_cmp s (entries_of t).entries) ≡ Some b
  found_below t s q b found = sym (get-below t s q) ∙ found

  -- what stands below a record lies in a record too
  stored_by_entry : (q : Path) (b : Bytes) (x : Stored) (t : Tree) → StoredIs records x t → ((at : ℕ) (u : Tree) → PartAt records 0 at (entries_of u).entries → get u q ≡ Some b → is_some (stored_at records q at) ≡ true) → get t q ≡ Some b
      → is_some (stored_at records q x.reference.at) ≡ true
  stored_by_entry [] b x t is deeper found = refl
  stored_by_entry (s ∷ q) b x y (contents_in bytes at height child) deeper found = absurd (false≢true (ap is_some (sym (get-contents bytes (s ∷ q)) ∙ found)))
  stored_by_entry (s ∷ q) b x y (directory_in t some spells) deeper found = deeper x.reference.at t spells.part found

  at_entry : (s : Step) (at : ℕ) (t : Tree) → PartAt records 0 at (entries_of t).entries → FindsEntry records (entries_of t).entries s (option_map stored_of_entry (entry_at records at s))
  unfolding entry_at
  at_entry s at t spelled = through records deepest spelled refl s

  pub reach_some : (q : Path) (b : Bytes) (at : ℕ) (t : Tree) → PartAt records 0 at (entries_of t).entries → get t q ≡ Some b → is_some (stored_at records q at) ≡ true
  reach_some [] b at t spelled found = refl
  reach_some (s ∷ q) b at t spelled found =
      by (entry_at records at s) (at_entry s at t spelled) (found_below t s q b found) (λ n u inner f. reach_some q b n u inner f)
    where
      by : (e : Option LeafEntry) → FindsEntry records (entries_of t).entries s (option_map stored_of_entry e) → option_and_then (λ (sub : Tree). get sub q) (find bytes_cmp s (entries_of t).entries) ≡ Some b
          → ((n : ℕ) (u : Tree) → PartAt records 0 n (entries_of u).entries → get u q ≡ Some b → is_some (stored_at records q n) ≡ true) → is_some (stored_by (stored_at records q) e) ≡ true
      by None finds f deeper = no_some b (sym (ap (option_and_then (λ (sub : Tree). get sub q)) finds) ∙ f)
      by (Some e) finds f deeper = stored_by_entry q b (stored_of_entry e) finds.0 finds.2 deeper (sym (ap (option_and_then (λ (sub : Tree). get sub q)) finds.1) ∙ f)

  stored_known : (q : Path) (b : Bytes) (x : Stored) (t : Tree) → StoredIs records x t → get t q ≡ Some b → is_none (stored_part records x.reference.at q []) ≡ false
  stored_known q b x t is found = some_none (stored_at records q x.reference.at) (stored_by_entry q b x t is (λ at u spelled f. reach_some q b at u spelled f) found)

  -- nothing below it is new
  stored_old : (x : Stored) (t : Tree) → StoredIs records x t → kept (λ p. is_none (stored_part records x.reference.at p [])) t.entries ≡ []
  stored_old x t is = kept_none (λ p. is_none (stored_part records x.reference.at p [])) t.entries (λ e m. stored_known e.0 e.1 x t is (member_found path_cmp path_total t.entries e t.sorted m))

  pub nothing_new : (r : Ref) (t : Tree) → PartAt records 0 r.at (entries_of t).entries → kept (λ p. is_none (stored_part records r.at p [])) t.entries ≡ []
  nothing_new r t spelled =
      kept_none (λ p. is_none (stored_part records r.at p [])) t.entries
      (λ e m. some_none (stored_at records e.0 r.at) (reach_some e.0 e.1 r.at t spelled (member_found path_cmp path_total t.entries e t.sorted m)))

  -- nor below an entry whose part was not read
  module _ (root : Part Stored) (es : Entries) (known : KnowsParts records root es) where
    unread_by : (s : Step) (sub : Tree) (p : Path) (b : Bytes) (front : List ℕ) (e : Option LeafEntry) → leads 0 front s ≡ true → find bytes_cmp s es ≡ Some sub → get sub p ≡ Some b
        → FindsEntry records (part es front) s (option_map stored_of_entry e) → is_none (below_entry records p [] e) ≡ false
    unread_by s sub p b front e on found stands finds = by e finds
      where
        place_is : find bytes_cmp s (part es front) ≡ Some sub
        place_is = part_found 0 front es s ∙ ap (λ c. cond c (find bytes_cmp s es) None) on ∙ found

        by : (e : Option LeafEntry) → FindsEntry records (part es front) s (option_map stored_of_entry e) → is_none (below_entry records p [] e) ≡ false
        by None f = no_some sub (sym f ∙ place_is)
        by (Some e) f = stored_known p b (stored_of_entry e) sub (subst (StoredIs records (stored_of_entry e)) (some_same f.0 sub (sym f.1 ∙ place_is)) f.2) stands

    pub unread_old : (s : Step) (sub : Tree) (p : Path) (b : Bytes) → is_read root s ≡ false → find bytes_cmp s es ≡ Some sub → get sub p ≡ Some b → is_none (below_unread records root s p []) ≡ false
    unread_old s sub p b shut found stands = by (unread_in (way_to s) root) refl shut
      where
        by : (u : Option (Stored × List ℕ)) → unread_in (way_to s) root ≡ u → is_none u ≡ false → is_none (below_entry records p [] (unread_entry records s u)) ≡ false
        by None e f = absurd (false≢true (sym f))
        by (Some u) e f =
            let a = first_unread (way_to s) u.0 u.1 root e in
            let sum : length u.1 + length a.front ≡ 51 = omega (arith, long_append a.front u.1, ap (λ (l : List ℕ). length l) a.whole, long_way s) in
            unread_by s sub p b a.front (entry_through (length u.1) records s u.0.reference.at) (led a.front u.1 s a.whole) found stands (through records (length u.1) (known.unread a.front u.0 a.found).spells.part sum s)

  -- ---- by the nodes

  abbrev pub is_new : Node → Path → Bool
  is_new n p = is_none (known_at records n p [])

  abbrev among : (Step → Path → Option ℕ) → Nodes → Step → Path → Option ℕ
  among other ns s p = known_among records ns s p [] (other s p)

  abbrev is_new_among : (Step → Path → Option ℕ) → Nodes → Path → Bool
  is_new_among other ns p = is_none (known_path (among other ns) p)

  entries_of_bytes : (b : Bytes) → (contents b).entries ≡ ([], b) ∷ []
  unfolding tree_runs
  entries_of_bytes b = refl

  same_of : (r s : Step) → r ≡ s → same_bytes r s ≡ true
  same_of r s is = ap (same_bytes r) (sym is) ∙ ap is_eq (step_itself r)

  first_among : (other : Step → Path → Option ℕ) (s : Step) (n : Node) (ns : Nodes) (r : Step) (p : Path) → same_bytes r s ≡ true → is_new_among other (first s n ns) (r ∷ p) ≡ is_new n p
  first_among other s n ns r p same = ap (λ b. is_none (cond b (known_at records n p []) (among other ns r p))) same

  later_among : (other : Step → Path → Option ℕ) (s : Step) (n : Node) (ns : Nodes) (r : Step) (p : Path) → same_bytes r s ≡ false → is_new_among other (first s n ns) (r ∷ p) ≡ is_new_among other ns (r ∷ p)
  later_among other s n ns r p apart = ap (λ b. is_none (cond b (known_at records n p []) (among other ns r p))) apart

  none_among : (ns : Nodes) (s : Step) (p : Path) (o : Option ℕ) → has s (steps_in ns) ≡ false → known_among records ns s p [] o ≡ o
  none_among none s p o out = refl
  none_among (first t n ns) s p o out = by (same_bytes s t) out (λ f. none_among ns s p o f)
    where
      by : (b : Bool) → (b || has s (steps_in ns)) ≡ false → (has s (steps_in ns) ≡ false → known_among records ns s p [] o ≡ o) → cond b (known_at records n p []) (known_among records ns s p [] o) ≡ o
      by true f later = absurd (false≢true (sym f))
      by false f later = later f

  kept_out : (P : Path → Bool) (s : Step) (es : List (Path × Bytes)) → ((e : Path × Bytes) → Member e es → P (s ∷ e.0) ≡ false) → kept P (map (under s) es) ≡ []
  kept_out P s [] out = refl
  kept_out P s (e ∷ es) out = ap (λ b. cond b (under s e ∷ kept P (map (under s) es)) (kept P (map (under s) es))) (out e here) ∙ kept_out P s es (λ f m. out f (there m))

  -- entries from one on, of which the nodes are those that were read
  record AreEntries (root : Part Stored) (other : Step → Path → Option ℕ) (all : Entries) (ns : Nodes) (xs : Entries) : Type 0 where
    steps : steps_in ns ≡ filter (is_read root) (steps_of xs)
    found : (x : Step × Tree) → Member x xs → find bytes_cmp x.0 all ≡ Some x.1
    old : (x : Step × Tree) → Member x xs → is_read root x.0 ≡ false → (p : Path) (b : Bytes) → get x.1 p ≡ Some b → is_none (other x.0 p) ≡ false
    quiet : (x : Step × Tree) → Member x xs → Quiet (among other ns x.0) x.1
    sorted : T (is_sorted bytes_cmp xs)

  module _ (root : Part Stored) (other : Step → Path → Option ℕ) (all : Entries) where
    -- an entry that was not read is passed
    pass : (ns : Nodes) (x : Step × Tree) (xs : Entries) → is_read root x.0 ≡ false → AreEntries root other all ns (x ∷ xs) → AreEntries root other all ns xs
    pass ns x xs shut are = record {
      steps = are.steps ∙ ap (λ b. cond b (x.0 ∷ filter (is_read root) (steps_of xs)) (filter (is_read root) (steps_of xs))) shut;
      found = λ y m. are.found y (there m);
      old = λ y m. are.old y (there m);
      quiet = λ y m. are.quiet y (there m);
      sorted = both_second _ _ are.sorted;
    }

    passed : (ns : Nodes) (x : Step × Tree) (xs : Entries) → is_read root x.0 ≡ false → AreEntries root other all ns (x ∷ xs) → kept (is_new_among other ns) (map (under x.0) x.1.entries) ≡ []
    passed ns x xs shut are =
        let rest = pass ns x xs shut are in
        let out : has x.0 (steps_in ns) ≡ false = ap (has x.0) rest.steps ∙ has-filter (is_read root) x.0 (steps_of xs) ∙ ap (λ b. b && has x.0 (steps_of xs)) shut in
        kept_out (is_new_among other ns) x.0 x.1.entries
        (λ e m. ap is_none (none_among ns x.0 e.0 (other x.0 e.0) out) ∙ are.old x here shut e.0 e.1 (member_found path_cmp path_total x.1.entries e x.1.sorted m))

    -- up to the first that was read
    skip : (ns : Nodes) (target : List (Path × Bytes)) → (steps_in ns ≡ [] → [] ≡ target)
        → ((x : Step × Tree) (xs : Entries) → is_read root x.0 ≡ true → AreEntries root other all ns (x ∷ xs) → kept (is_new_among other ns) (below_entries (x ∷ xs)) ≡ target)
        → (xs : Entries) → AreEntries root other all ns xs → kept (is_new_among other ns) (below_entries xs) ≡ target
    skip ns target last read [] are = last are.steps
    skip ns target last read (x ∷ xs) are = by (is_read root x.0) refl (λ rest. skip ns target last read xs rest)
      where
        by : (b : Bool) → is_read root x.0 ≡ b → (AreEntries root other all ns xs → kept (is_new_among other ns) (below_entries xs) ≡ target) → kept (is_new_among other ns) (below_entries (x ∷ xs)) ≡ target
        by true e later = read x xs e are
        by false e later =
            kept_append (is_new_among other ns) (map (under x.0) x.1.entries) (below_entries xs)
            ∙ ap (λ l. l ++ kept (is_new_among other ns) (below_entries xs)) (passed ns x xs e are) ∙ later (pass ns x xs e are)

    -- one that was read
    taken : (t : Step) (n : Node) (ns : Nodes) (x : Step × Tree) (xs : Entries) → is_read root x.0 ≡ true → AreEntries root other all (first t n ns) (x ∷ xs) → t ∷ steps_in ns ≡ x.0 ∷ filter (is_read root) (steps_of xs)
    taken t n ns x xs seen are = are.steps ∙ ap (λ b. cond b (x.0 ∷ filter (is_read root) (steps_of xs)) (filter (is_read root) (steps_of xs))) seen

    one : (t : Step) (n : Node) (ns : Nodes) (x : Step × Tree) (xs : Entries) → is_read root x.0 ≡ true → AreEntries root other all (first t n ns) (x ∷ xs) → IsSomeAnd (find bytes_cmp t all) (λ sub. NodeIs records n sub)
        → (NodeIs records n x.1 → Quiet (λ p. known_at records n p []) x.1 → kept (is_new n) x.1.entries ≡ news n) → (AreEntries root other all ns xs → kept (is_new_among other ns) (below_entries xs) ≡ news_among ns)
        → kept (is_new_among other (first t n ns)) (below_entries (x ∷ xs)) ≡ news_among (first t n ns)
    one t n ns x xs seen are means own_news later =
        let steps = taken t n ns x xs seen are in
        let same : t ≡ x.0 = cc in
        let rest : steps_in ns ≡ filter (is_read root) (steps_of xs) = cc in
        let node : NodeIs records n x.1 = subst (λ o. IsSomeAnd o (λ sub. NodeIs records n sub)) (ap (λ (k : Step). find bytes_cmp k all) same ∙ are.found x here) means in
        let P = is_new_among other (first t n ns) in
        let low : T (below_all bytes_cmp t xs) = subst (λ (k : Step). T (below_all bytes_cmp k xs)) (sym same) (both_first _ _ are.sorted) in
        let own_quiet : Quiet (λ p. known_at records n p []) x.1 =
        same_quiet (among other (first t n ns) x.0) (λ p. known_at records n p []) x.1 (λ p. ap (λ b. cond b (known_at records n p []) (among other ns x.0 p)) (same_of x.0 t (sym same))) (are.quiet x here) in
        let later_quiet : (y : Step × Tree) → Member y xs → Quiet (among other ns y.0) y.1 =
        (λ y m. same_quiet (among other (first t n ns) y.0) (among other ns y.0) y.1 (λ p. ap (λ b. cond b (known_at records n p []) (among other ns y.0 p)) (apart_member t xs y low m)) (are.quiet y (there m))) in
        kept_append P (map (under x.0) x.1.entries) (below_entries xs)
        ∙ ap (λ l. l ++ kept P (below_entries xs)) (kept_under P (is_new n) x.0 t (sym same) (λ p. first_among other t n ns x.0 p (same_of x.0 t (sym same))) x.1.entries)
        ∙ ap (λ l. map (under t) l ++ kept P (below_entries xs)) (own_news node own_quiet)
        ∙ ap (λ l. map (under t) (news n) ++ l)
        (same_later P (is_new_among other ns) t (λ r p apart. later_among other t n ns r p apart) xs low
        ∙ later record { steps = rest; found = λ y m. are.found y (there m); old = λ y m. are.old y (there m); quiet = later_quiet; sorted = both_second _ _ are.sorted })

  -- paths below a directory have steps
  only_below : (root : Part Stored) (ns : Nodes) (xs : Entries) → kept (is_new (directory root ns)) (below_entries xs) ≡ kept (is_new_among (λ s p. below_unread records root s p []) ns) (below_entries xs)
  only_below root ns [] = refl
  only_below root ns (x ∷ xs) =
      let P = is_new (directory root ns) in
      let Q = is_new_among (λ s p. below_unread records root s p []) ns in
      kept_append P (map (under x.0) x.1.entries) (below_entries xs)
      ∙ ap (λ l. l ++ kept P (below_entries xs)) (same_under P Q x.0 (λ p. refl) x.1.entries)
      ∙ ap (λ l. kept Q (map (under x.0) x.1.entries) ++ l) (only_below root ns xs)
      ∙ sym (kept_append Q (map (under x.0) x.1.entries) (below_entries xs))

  all_entries : (root : Part Stored) (ns : Nodes) (t : Tree) → HasSteps root (steps_in ns) (entries_of t).entries → KnowsParts records root (entries_of t).entries
      → Quiet (λ p. known_at records (directory root ns) p []) t → AreEntries root (λ s p. below_unread records root s p []) (entries_of t).entries ns (entries_of t).entries
  all_entries root ns t steps known quiet = record {
    steps = steps.held;
    found = λ x m. member_found bytes_cmp nat_list_cmp_total (entries_of t).entries x (entries_of t).sorted m;
    quiet = λ x m above s below some stands.
        quiet (x.0 ∷ above) s below some
        (ap is_some (get-below t x.0 (above ++ s ∷ below) ∙ ap (option_and_then (λ (sub : Tree). get sub (above ++ s ∷ below))) (member_found bytes_cmp nat_list_cmp_total (entries_of t).entries x (entries_of t).sorted m)) ∙ stands);
    old = λ x m shut p b stands. unread_old root (entries_of t).entries known x.0 x.1 p b shut (member_found bytes_cmp nat_list_cmp_total (entries_of t).entries x (entries_of t).sorted m) stands;
    sorted = (entries_of t).sorted;
  }

  no_first : (x : Step × Tree) (ys : Entries) (root : Part Stored) (other : Step → Path → Option ℕ) (all : Entries) → is_read root x.0 ≡ true → AreEntries root other all none (x ∷ ys) → ⊥
  no_first x ys root other all seen are =
      let e : [] ≡ x.0 ∷ filter (is_read root) (steps_of ys) = are.steps ∙ ap (λ b. cond b (x.0 ∷ filter (is_read root) (steps_of ys)) (filter (is_read root) (steps_of ys))) seen in cc

  -- below a directory that a record is known to spell
  whole_known : (root : Part Stored) (x : Stored) → record_of root ≡ Some x → is_some (known_part records root []) ≡ true
  whole_known root x e = by (out-Part Stored root) e
    where
      by : (l : Part-F Stored (Part Stored)) → record_in l ≡ Some x → is_some (known_by records (known_here l) (unread_here l)) ≡ true
      by (Leaf k steps) f = ap (λ (o : Option Stored). is_some (known_by records o None)) f
      by (Inode k n cs) f = ap (λ (o : Option Stored). is_some (known_by records o None)) f
      by (Unread y n) f = refl

  all_known : (root : Part Stored) (ns : Nodes) (t : Tree) → is_some (known_part records root []) ≡ true → Quiet (λ p. known_at records (directory root ns) p []) t → (xs : Entries)
      → ((x : Step × Tree) → Member x xs → find bytes_cmp x.0 (entries_of t).entries ≡ Some x.1) → kept (is_new (directory root ns)) (below_entries xs) ≡ []
  all_known root ns t some quiet [] found = refl
  all_known root ns t some quiet (x ∷ xs) found =
      let P = is_new (directory root ns) in
      kept_append P (map (under x.0) x.1.entries) (below_entries xs)
      ∙ ap (λ l. l ++ kept P (below_entries xs))
      (kept_out P x.0 x.1.entries
      (λ e m. not_none (known_at records (directory root ns) (x.0 ∷ e.0) [])
      (quiet [] x.0 e.0 some
      (ap is_some (get-below t x.0 e.0 ∙ ap (option_and_then (λ (sub : Tree). get sub e.0)) (found x here) ∙ member_found path_cmp path_total x.1.entries e x.1.sorted m)))))
      ∙ all_known root ns t some quiet xs (λ y m. found y (there m))

  directory_news : (root : Part Stored) (ns : Nodes) (t : Tree) → IsFalse (is_contents t) → Quiet (λ p. known_at records (directory root ns) p []) t
      → kept (is_new_among (λ s p. below_unread records root s p []) ns) (below_entries (entries_of t).entries) ≡ news_among ns → kept (is_new (directory root ns)) t.entries ≡ news (directory root ns)
  directory_news root ns t some quiet rest = by (record_of root) refl
    where
      by : (o : Option Stored) → record_of root ≡ o → kept (is_new (directory root ns)) t.entries ≡ unless_known o [] (news_among ns)
      by (Some x) e =
          ap (kept (is_new (directory root ns))) (split t some)
          ∙ all_known root ns t (whole_known root x e) quiet (entries_of t).entries (λ y m. member_found bytes_cmp nat_list_cmp_total (entries_of t).entries y (entries_of t).sorted m)
      by None e = ap (kept (is_new (directory root ns))) (split t some) ∙ only_below root ns (entries_of t).entries ∙ rest

  mutual
    pub news_of : (n : Node) (t : Tree) → NodeIs records n t → Quiet (λ p. known_at records n p []) t → kept (is_new n) t.entries ≡ news n
    news_of (stored x) t is quiet = stored_old x t is
    news_of (new_contents b) t is quiet = ap (λ (x : Tree). kept (is_new (new_contents b)) x.entries) is ∙ ap (kept (is_new (new_contents b))) (entries_of_bytes b)
    news_of (directory root ns) t is quiet =
        directory_news root ns t is.0.directory quiet
        (news_of_among ns root (λ s p. below_unread records root s p []) (entries_of t).entries is.3 (entries_of t).entries (all_entries root ns t is.1 is.2 quiet))

    news_of_among : (ns : Nodes) (root : Part Stored) (other : Step → Path → Option ℕ) (all : Entries) → NodesAre records ns all → (xs : Entries) → AreEntries root other all ns xs → kept (is_new_among other ns) (below_entries xs) ≡ news_among ns
    news_of_among none root other all means xs are =
        skip root other all none [] (λ e. refl) (λ x ys seen are. absurd (no_first x ys root other all seen are)) xs are
    news_of_among (first t n ns) root other all means xs are =
        skip root other all (first t n ns) (news_among (first t n ns)) (λ e. absurd (cc e))
        (λ x ys seen are. one root other all t n ns x ys seen are means.0 (λ is quiet. news_of n x.1 is quiet) (λ rest. news_of_among ns root other all means.1 ys rest)) xs are

  -- of a root
  pub news_of_root : (root : Root) (t : Tree) → RootIs records root t → Quiet (λ p. known_of records root (record { path = p; indexes = [] })) t
      → kept (λ p. is_none (known_of records root (record { path = p; indexes = [] }))) t.entries ≡ news_root root
  news_of_root (unread r) t is quiet = nothing_new r t is.1.part
  news_of_root (loaded root ns) t is quiet =
      directory_news root ns t is.directory quiet
      (news_of_among ns root (λ s p. below_unread records root s p []) (entries_of t).entries is.nodes (entries_of t).entries (all_entries root ns t is.steps is.parts quiet))
