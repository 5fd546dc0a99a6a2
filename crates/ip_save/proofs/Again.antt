-- The new contents that another tree has at their paths, by the nodes and by the definition of a batch.
--     found_first      those that the walk finds again are those of the first parent's tree
use Rattle.std.proofs.Common.{◌≡◌, ℕ, List, [], ◌∷◌, ◌++◌, refl, sym, ap, ◌∙◌, Option, Some, None, Bool, true, false, map}
use Rattle.std.specs.Prelude.{IsFalse, ◌&&◌, ◌==◌, is_some, option_and_then, option_map, if◌then◌else◌}
use Rattle.std.specs.List.{AllByRecursion}
use Rattle.std.specs.FinMap.Entries.{find}
use Rattle.std.specs.Ordering.{is_eq}
use Rattle.std.proofs.lemmas.Bool.{false≢true}
use Rattle.std.proofs.lemmas.List.{map-append}
use Rattle.sha2.specs.Sha256.{sha256}
use Rattle.ip_ground.specs.Told.{Told}
use Rattle.ip_space.specs.SpaceView.{SpaceView, records_of}
use Rattle.ip_spec.specs.Batch.{in_first, in_first_by, whole_part}
use Rattle.ip_spec.specs.Map.{get}
use Rattle.ip_spec.specs.Path.{Bytes, Step, Path, bytes_cmp, same_bytes}
use Rattle.ip_spec.specs.Shape.{deepest}
use Rattle.ip_spec.specs.StoredParts as parts
use Rattle.ip_spec.specs.StoredParts.{part_at, stored_at, stored_by, stored_part}
use Rattle.ip_spec.specs.Tree.{Tree, contents, entries_of, is_contents}
use Rattle.ip_spec.specs.TreeAt.{PartAt}
use Rattle.ip_spec.specs.View.{View}
use Rattle.ip_spec.specs.declared.record.LeafEntry.{LeafEntry}
use Rattle.ip_spec.specs.declared.record.Record.{Record}
use Rattle.ip_spec.specs.declared.record.Ref.{Ref}
use Rattle.ip_spec.proofs.SameDirectory.{get-below}
use Rattle.ip_spec.proofs.Subtrees.{get-contents, same_step, step_itself}
use Rattle.ip_tree.specs.Meaning.{Spells}
use Rattle.ip_tree.specs.Node.{Node, Nodes, Root, stored, contents as new_contents, directory, none, first, unread, loaded}
use Rattle.ip_tree.specs.Reads.{FindsEntry, IsOver, Reaches, contents_at, directory_at, ref_of_entry, stored_of_entry}
use Rattle.ip_tree.proofs.Found.{reaches}
use Rattle.ip_tree.proofs.MoreRecords.{same_entry}
use Rattle.ip_tree.proofs.PartLookups.{through}
use Rattle.ip_save.specs.Batches.{IsFirst, IsFirstTree}
use Rattle.ip_save.specs.Laid.{record_of, unless_known}
use Rattle.ip_save.specs.Reused.{again, again_among, again_root, as_directory, entry_at, held_by, reference_in, same_contents}
use Rattle.ip_save.proofs.News.{news, news_among, news_root}
use Rattle.ip_save.proofs.Split.{under}
use Rattle.ip_save.proofs.Unless.{unless_map}

-- ---- where the other tree has nothing

abbrev nothing : Path × Bytes → Option ℕ
nothing e = None

map_under : (f : Path × Bytes → Option ℕ) (s : Step) (es : List (Path × Bytes)) → map f (map (under s) es) ≡ map (λ e. f (under s e)) es
map_under f s [] = refl
map_under f s (e ∷ es) = ap (λ l. f (under s e) ∷ l) (map_under f s es)

same_map : (f g : Path × Bytes → Option ℕ) → ((e : Path × Bytes) → f e ≡ g e) → (es : List (Path × Bytes)) → map f es ≡ map g es
same_map f g same [] = refl
same_map f g same (e ∷ es) = ap (λ k. k ∷ map f es) (same e) ∙ ap (λ l. g e ∷ l) (same_map f g same es)

mutual
  none_again : (records : ℕ → Option Record) (n : Node) → map nothing (news n) ≡ again records n None
  none_again records (stored x) = refl
  none_again records (new_contents b) = refl
  none_again records (directory root ns) = unless_map (map nothing) (record_of root) [] (news_among ns) ∙ ap (unless_known (record_of root) []) (none_among records ns)

  none_among : (records : ℕ → Option Record) (ns : Nodes) → map nothing (news_among ns) ≡ again_among records ns None
  none_among records none = refl
  none_among records (first s n ns) =
      map-append nothing (map (under s) (news n)) (news_among ns)
      ∙ ap (λ l. l ++ map nothing (news_among ns)) (map_under nothing s (news n) ∙ none_again records n) ∙ ap (λ l. again records n None ++ l) (none_among records ns)

-- ---- contents

some_same : {A : Type 0} (x y : A) → Some x ≡ Some y → x ≡ y
some_same x y e = cc

same_itself : (b : Bytes) → same_bytes b b ≡ true
same_itself b = ap is_eq (step_itself b)

bytes_again : (b c : Bytes) (at : ℕ) → (if same_bytes b c then Some at else None) ≡ (if same_bytes (sha256 c) (sha256 b) then if same_bytes b c then Some at else None else None)
bytes_again b c at = by (same_bytes b c) refl
  where
    by : (t : Bool) → same_bytes b c ≡ t → (if t then Some at else None) ≡ (if same_bytes (sha256 c) (sha256 b) then if t then Some at else None else None)
    by true e = sym (ap (λ (u : Bool). if u then Some at else None) (ap (λ (x : Bytes). same_bytes (sha256 c) (sha256 x)) (same_step b c e) ∙ same_itself (sha256 c)))
    by false e = neither (same_bytes (sha256 c) (sha256 b))
      where
        neither : (u : Bool) → ◌≡◌ {A = Option ℕ} None (if u then None else None)
        neither true = refl
        neither false = refl

no_bytes : (t : Tree) → IsFalse (is_contents t) → get t [] ≡ None
no_bytes t is = by (get t []) is
  where
    by : (o : Option Bytes) → IsFalse (is_some o) → o ≡ None
    by None f = refl
    by (Some b) f = absurd (false≢true (sym f))

module _ (records all : ℕ → Option Record) (held : (at : ℕ) (r : Record) → records at ≡ Some r → all at ≡ Some r) where
  -- what the definition of a batch says of new contents at a path below a reference
  abbrev below : Tree → ℕ → Path × Bytes → Option ℕ
  below t at e = in_first_by (Some e.1) (get t e.0) (stored_at records e.0 at)

  at_contents : (b : Bytes) (r : Ref) (t : Tree) → Reaches records r t → in_first_by (Some b) (get t []) (Some r.at) ≡ held_by all b (Some r)
  at_contents b r t (contents_at c here kind name) =
      ap (λ o. in_first_by (Some b) o (Some r.at)) (get-contents c [])
      ∙ bytes_again b c r.at
      ∙ sym (ap (λ (o : Option Record). if same_bytes (sha256 c) (sha256 b) then same_contents b r.at o else None) (held r.at (Record.Contents c) here))
      ∙ sym (ap (λ (n : Bytes). if same_bytes n (sha256 b) then same_contents b r.at (all r.at) else None) name)
      ∙ sym (ap (λ (k : ℕ). if (k == 1) && same_bytes r.name (sha256 b) then same_contents b r.at (all r.at) else None) kind)
  at_contents b r t (directory_at sub spells no_contents) =
      ap (λ o. in_first_by (Some b) o (Some r.at)) (no_bytes sub no_contents)
      ∙ sym (ap (λ (k : ℕ). if (k == 1) && same_bytes r.name (sha256 b) then same_contents b r.at (all r.at) else None) spells.kind)

  -- below contents there is nothing
  none_below : (c : Bytes) (at : ℕ) (s : Step) (e : Path × Bytes) → below (contents c) at (under s e) ≡ None
  none_below c at s e = ap (λ o. in_first_by (Some e.1) o (stored_at records (s ∷ e.0) at)) (get-contents c (s ∷ e.0))

  contents_among : (c : Bytes) (at : ℕ) (ns : Nodes) → map (below (contents c) at) (news_among ns) ≡ map nothing (news_among ns)
  contents_among c at none = refl
  contents_among c at (first s n ns) =
      map-append (below (contents c) at) (map (under s) (news n)) (news_among ns)
      ∙ ap (λ l. l ++ map (below (contents c) at) (news_among ns))
      (map_under (below (contents c) at) s (news n) ∙ same_map (λ e. below (contents c) at (under s e)) nothing (none_below c at s) (news n) ∙ sym (map_under nothing s (news n)))
      ∙ ap (λ l. map nothing (map (under s) (news n)) ++ l) (contents_among c at ns) ∙ sym (map-append nothing (map (under s) (news n)) (news_among ns))

  -- ---- an entry

  finds_entry : (s : Step) (at : ℕ) (t : Tree) → PartAt records 0 at (entries_of t).entries → FindsEntry records (entries_of t).entries s (option_map stored_of_entry (parts.entry_at records at s))
  unfolding parts.entry_at
  finds_entry s at t spelled = through records deepest spelled refl s

  entry_is : (s : Step) (r : Ref) (t : Tree) → PartAt records 0 r.at (entries_of t).entries → entry_at all s (Some r) ≡ reference_in (option_map stored_of_entry (parts.entry_at records r.at s))
  unfolding parts.entry_at
  entry_is s r t spelled = ap (λ o. reference_in (option_map stored_of_entry o)) (same_entry records all held deepest s spelled)

  -- below a step of the directory
  under_entry : (s : Step) (r : Ref) (t : Tree) (n : Node) → PartAt records 0 r.at (entries_of t).entries → ((q : Ref) (u : Tree) → Reaches records q u → map (below u q.at) (news n) ≡ again all n (Some q))
      → map (λ e. below t r.at (under s e)) (news n) ≡ again all n (entry_at all s (Some r))
  under_entry s r t n spelled deeper = by (parts.entry_at records r.at s) refl (finds_entry s r.at t spelled) ∙ ap (again all n) (sym (entry_is s r t spelled))
    where
      at_path : (o : Option Tree) → find bytes_cmp s (entries_of t).entries ≡ o → (e : Path × Bytes) → get t (s ∷ e.0) ≡ option_and_then (λ (u : Tree). get u e.0) o
      at_path o found e = get-below t s e.0 ∙ ap (option_and_then (λ (u : Tree). get u e.0)) found

      by : (o : Option LeafEntry) → parts.entry_at records r.at s ≡ o → FindsEntry records (entries_of t).entries s (option_map stored_of_entry o) → map (λ e. below t r.at (under s e)) (news n) ≡ again all n (reference_in (option_map stored_of_entry o))
      by None is finds = same_map (λ e. below t r.at (under s e)) nothing (λ e. ap (λ o. in_first_by (Some e.1) o (stored_at records (s ∷ e.0) r.at)) (at_path None finds e)) (news n) ∙ none_again all n
      by (Some f) is finds =
          same_map (λ e. below t r.at (under s e)) (below finds.0 f.at)
          (λ e. ap (λ o. in_first_by (Some e.1) o (stored_at records (s ∷ e.0) r.at)) (at_path (Some finds.0) finds.1 e) ∙ ap (λ o. in_first_by (Some e.1) (get finds.0 e.0) (stored_by (stored_at records e.0) o)) is) (news n)
          ∙ deeper (ref_of_entry f) finds.0 (reaches records (stored_of_entry f) finds.0 finds.2)

  -- ---- by the nodes

  directory_again : (ns : Nodes) (r : Ref) (t : Tree) → Reaches records r t → (PartAt records 0 r.at (entries_of t).entries → map (below t r.at) (news_among ns) ≡ again_among all ns (Some r))
      → map (below t r.at) (news_among ns) ≡ again_among all ns (as_directory (Some r))
  directory_again ns r t (contents_at c here kind name) among =
      contents_among c r.at ns ∙ none_among all ns ∙ sym (ap (λ (k : ℕ). again_among all ns (if k == 2 then Some r else None)) kind)
  directory_again ns r t (directory_at sub spells no_contents) among =
      among spells.part ∙ sym (ap (λ (k : ℕ). again_among all ns (if k == 2 then Some r else None)) spells.kind)

  mutual
    node_again : (n : Node) (r : Ref) (t : Tree) → Reaches records r t → map (below t r.at) (news n) ≡ again all n (Some r)
    node_again (stored x) r t there = refl
    node_again (new_contents b) r t there = ap (λ k. k ∷ []) (at_contents b r t there)
    node_again (directory root ns) r t there =
        unless_map (map (below t r.at)) (record_of root) [] (news_among ns) ∙ ap (unless_known (record_of root) []) (directory_again ns r t there (λ spelled. among_again ns r t spelled))

    among_again : (ns : Nodes) (r : Ref) (t : Tree) → PartAt records 0 r.at (entries_of t).entries → map (below t r.at) (news_among ns) ≡ again_among all ns (Some r)
    among_again none r t spelled = refl
    among_again (first s n ns) r t spelled =
        map-append (below t r.at) (map (under s) (news n)) (news_among ns)
        ∙ ap (λ l. l ++ map (below t r.at) (news_among ns)) (map_under (below t r.at) s (news n) ∙ under_entry s r t n spelled (λ q u reached. node_again n q u reached))
        ∙ ap (λ l. again all n (entry_at all s (Some r)) ++ l) (among_again ns r t spelled)

-- ---- by the view

whole_is : (records : ℕ → Option Record) (p : Path) (at : ℕ) → stored_part records at p [] ≡ stored_at records p at
whole_is records p at = by (stored_at records p at)
  where
    by : (o : Option ℕ) → option_and_then (part_at records []) o ≡ o
    by None = refl
    by (Some x) = refl

module _ (told : Told) (space : SpaceView) (records : ℕ → Option Record) (over : IsOver told space records) (v : View) where
  abbrev Stands : Path × Bytes → Type 0
  Stands e = get v.map e.0 ≡ Some e.1

  by_view : (r : Ref) (w : View) → IsFirstTree records r w → (es : List (Path × Bytes)) → AllByRecursion Stands es
      → map (λ e. in_first v (Some w) e.0) es ≡ map (below records (records_of told space) over.held w.map r.at) es
  by_view r w is [] are = refl
  by_view r w is (e ∷ es) are =
      ap (λ k. k ∷ map (λ e. in_first v (Some w) e.0) es)
      (ap (λ o. in_first_by o (get w.map e.0) (w.known (whole_part e.0))) are.0
      ∙ ap (in_first_by (Some e.1) (get w.map e.0)) (is.known (whole_part e.0) ∙ whole_is records e.0 r.at))
      ∙ ap (λ l. below records (records_of told space) over.held w.map r.at e ∷ l) (by_view r w is es are.1)

  root_again : (root : Root) (r : Ref) (t : Tree) → Spells records r t → map (below records (records_of told space) over.held t r.at) (news_root root) ≡ again_root (records_of told space) root (Some r)
  root_again (unread q) r t spells = refl
  root_again (loaded part ns) r t spells =
      unless_map (map (below records (records_of told space) over.held t r.at)) (record_of part) [] (news_among ns)
      ∙ ap (unless_known (record_of part) []) (among_again records (records_of told space) over.held ns r t spells.part)

  none_root : (root : Root) → map nothing (news_root root) ≡ again_root (records_of told space) root None
  none_root (unread q) = refl
  none_root (loaded part ns) = unless_map (map nothing) (record_of part) [] (news_among ns) ∙ ap (unless_known (record_of part) []) (none_among (records_of told space) ns)

  pub found_first : (root : Root) → AllByRecursion Stands (news_root root) → (r : Option Ref) (other : Option View) → IsFirst records r other → map (λ (e : Path × Bytes). in_first v other e.0) (news_root root) ≡ again_root (records_of told space) root r
  found_first root are None None is = none_root root
  found_first root are None (Some w) is = absurd (false≢true (sym (ap is_some is)))
  found_first root are (Some r) None is = absurd is
  found_first root are (Some r) (Some w) is = by_view r w is (news_root root) are ∙ root_again root r w.map is.root.1
