-- What is laid for a node is what the definition of a batch spells for the tree that it means.
--     RefsAt p refs xs      what refers to new contents below a path.      ref_for, refs_are      to those of a table
--     TreeAgrees n t h p refs at      of a node.      RootAgrees refs root t at, root_agrees      of a root
use Rattle.std.proofs.Common.{◌≡◌, ℕ, zero, suc, ◌+◌, ◌<◌, ◌≤◌, List, [], ◌∷◌, ◌++◌, length, drop, refl, sym, ap, subst, ◌∙◌, Option, Some, None, Bool, true, false, cond, map, arith, append_assoc}
use Rattle.std.specs.Prelude.{◌||◌, ◌&&◌, is_none, is_some, if◌then◌else◌, IsSomeAnd}
use Rattle.std.specs.FinMap.Entries.{find}
use Rattle.std.proofs.lemmas.Bool.{false≢true}
use Rattle.std.proofs.lemmas.List.{append-nil, drop-drop}
use Rattle.ip_spec.specs.Path.{Bytes, Step, Path, bytes_cmp, same_bytes}
use Rattle.ip_spec.specs.declared.record.Record.{Record}
use Rattle.ip_spec.specs.Tree.{Tree, contents, entries_of, height, is_contents}
use Rattle.ip_spec.specs.Shape.{Entries, child_of, deepest, part, part_from, root_name}
use Rattle.ip_spec.specs.View.{View, Part}
use Rattle.ip_spec.specs.Batch.{Spelled, there_already, spell_directory, spell_part, whole_part}
use Rattle.ip_spec.proofs.Naming.{entry_height, root_name-entries}
use Rattle.ip_shape.specs.Loaded.{unread_in, way, way_to}
use Rattle.ip_shape.specs.Shape.{has}
use Rattle.ip_shape.specs.declared.part.Part as shape
use Rattle.ip_shape.proofs.Entries.{has_of}
use Rattle.ip_shape.proofs.Members.{has-filter}
use Rattle.ip_shape.proofs.Steps.{equal, same_step}
use Rattle.ip_tree.specs.Known.{below_unread, known_among, known_at, known_of, known_part}
use Rattle.ip_tree.specs.Meaning.{HasSteps, KnowsParts, NodeIs, NodesAre, RootIs, SpellsPart, StoredIs, contents_in, directory_in, is_read, steps_of}
use Rattle.ip_tree.specs.Node.{Node, Nodes, Root, stored, contents as new_contents, directory, none, first, unread, loaded, steps_in}
use Rattle.ip_tree.specs.declared.node.Stored.{Stored}
use Rattle.ip_tree.proofs.TreeHeights.{directory_height}
use Rattle.ip_save.specs.Laid.{behind_refs, contents_at, lay, lay_at, lay_root, record_of, ref_at}
use Rattle.ip_save.specs.Reused.{refs_of}
use Rattle.ip_save.proofs.Agreeing.{Names, NamesPart, Stands, if_false, if_true, part_agrees, part_known, spelled_by}
use Rattle.ip_save.proofs.Lawful.{child_of_contents, child_of_directory, contents_height, contents_some}
use Rattle.ip_save.proofs.News.{fresh_values, news, news_among, news_root, value_of, values_under}
use Rattle.ip_save.proofs.Split.{under}
use Rattle.ip_save.proofs.Unless.{unless_new}

-- what refers to contents at a path
abbrev pub ref_for : (Path → ℕ) → Path × Bytes → Stored
ref_for offset x = contents_at x.1 (offset x.0)

-- a table of new contents, each with where its record lies
pub refs_are : (offset : Path → ℕ) (xs : List (Path × Bytes)) (told : List (Bytes × Option ℕ)) → map (λ x. x.0) told ≡ map value_of xs → refs_of told (map (λ x. offset x.0) xs) ≡ map (ref_for offset) xs
refs_are offset [] [] same = refl
refs_are offset [] (t ∷ told) same = absurd (cc same)
refs_are offset (x ∷ xs) [] same = absurd (cc same)
refs_are offset (x ∷ xs) (t ∷ told) same =
    let one : t.0 ≡ x.1 = cc same in
    let rest : map (λ (y : Bytes × Option ℕ). y.0) told ≡ map value_of xs = cc same in
    ap (λ (b : Bytes). contents_at b (offset x.0) ∷ refs_of told (map (λ (y : Path × Bytes). offset y.0) xs)) one ∙ ap (λ (l : List Stored). ref_for offset x ∷ l) (refs_are offset xs told rest)

module _ (v : View) (offset : Path → ℕ) where
  -- what stands at a path
  abbrev spelled_at : ℕ → Path → Tree → ℕ → Spelled
  spelled_at h p t at = if is_contents t then there_already (offset p) at else spell_directory v offset h p t at

  known_directory : (h : ℕ) (p : Path) (t : Tree) (at o : ℕ) → v.known (whole_part p) ≡ Some o → spell_directory v offset (suc h) p t at ≡ there_already o at
  unfolding spell_directory
  known_directory h p t at o known = rw known refl

  as_part : (h : ℕ) (p : Path) (t : Tree) (at : ℕ) → spell_directory v offset (suc h) p t at ≡ spell_part v offset (spell_directory v offset h) deepest p [] (entries_of t).entries at
  unfolding spell_directory
  as_part h p t at = refl

  -- what refers to new contents below a path
  abbrev pub RefsAt : Path → List Stored → List (Path × Bytes) → Type 0
  RefsAt p refs [] = Unit {0}
  RefsAt p refs (x ∷ xs) = (ref_at refs ≡ contents_at x.1 (offset (p ++ x.0))) × RefsAt p (drop 1 refs) xs

  refs_first : (p : Path) (refs : List Stored) (xs ys : List (Path × Bytes)) → RefsAt p refs (xs ++ ys) → RefsAt p refs xs
  refs_first p refs [] ys are = tt
  refs_first p refs (x ∷ xs) ys are = (are.0, refs_first p (drop 1 refs) xs ys are.1)

  refs_rest : (p : Path) (refs : List Stored) (xs ys : List (Path × Bytes)) → RefsAt p refs (xs ++ ys) → RefsAt p (drop (length (map value_of xs)) refs) ys
  refs_rest p refs [] ys are = are
  refs_rest p refs (x ∷ xs) ys are =
      let e : drop (length (map value_of xs)) (drop 1 refs) ≡ drop (length (map value_of (x ∷ xs))) refs = drop-drop (length (map value_of xs)) 1 refs ∙ (let n : 1 + length (map value_of xs) ≡ length (map value_of (x ∷ xs)) = omega arith in ap (λ k. drop k refs) n) in
      subst (λ (l : List Stored). RefsAt p l ys) e (refs_rest p (drop 1 refs) xs ys are.1)

  refs_under : (p : Path) (s : Step) (refs : List Stored) (xs : List (Path × Bytes)) → RefsAt p refs (map (under s) xs) → RefsAt (p ++ s ∷ []) refs xs
  refs_under p s refs [] are = tt
  refs_under p s refs (x ∷ xs) are = (are.0 ∙ ap (λ (q : Path). contents_at x.1 (offset q)) (sym (append_assoc p (s ∷ []) x.0)), refs_under p s (drop 1 refs) xs are.1)

  -- each by its path
  refs_by : (xs : List (Path × Bytes)) → RefsAt [] (map (ref_for offset) xs) xs
  refs_by [] = tt
  refs_by (x ∷ xs) = (refl, refs_by xs)

  module _ (records : ℕ → Option Record) (known_offset : (p : Path) (at : ℕ) → v.known (whole_part p) ≡ Some at → offset p ≡ at) where
    -- what is known below a path is what the node tells
    abbrev pub KnownAt : Path → Node → Type 0
    KnownAt p n = (q : Path) (is : List ℕ) → v.known (record { path = p ++ q; indexes = is }) ≡ known_at records n q is

    known_here : (p : Path) (n : Node) (o : Option ℕ) → KnownAt p n → known_at records n [] [] ≡ o → v.known (whole_part p) ≡ o
    known_here p n o known is = ap (λ (q : Path). v.known (whole_part q)) (sym (append-nil p)) ∙ known [] [] ∙ is

    record Low (h : ℕ) (t : Tree) : Type 0 where
      under : height t < h
      shallow : height t ≤ 64

    pub record TreeAgrees (n : Node) (t : Tree) (h : ℕ) (p : Path) (refs : List Stored) (at : ℕ) : Type 0 where
      pub spelled : spelled_at h p t at ≡ spelled_by (lay n refs at)
      pub names : Names (lay n refs at).stands t

    -- what a record spells is only referred to
    stored_agrees : (x : Stored) (t : Tree) (h : ℕ) (p : Path) (refs : List Stored) (at : ℕ) → StoredIs records x t → KnownAt p (stored x) → Low h t → TreeAgrees (stored x) t h p refs at
    stored_agrees x y h p refs at (contents_in bytes is low child) known fits = record {
      spelled = if_true (is_contents (contents bytes)) (there_already (offset p) at) (spell_directory v offset h p (contents bytes) at) (contents_some bytes)
          ∙ ap (λ o. there_already o at) (known_offset p x.reference.at (known_here p (stored x) (Some x.reference.at) known refl));
      names = record { child = child; high = low ∙ sym (contents_height bytes) };
    }
    stored_agrees x y zero p refs at (directory_in t some spells) known fits = absurd (let u = fits.under in omega (arith, u))
    stored_agrees x y (suc h) p refs at (directory_in t some spells) known fits = record {
      spelled = if_false (is_contents t) (there_already (offset p) at) (spell_directory v offset (suc h) p t at) some.directory
          ∙ known_directory h p t at x.reference.at (known_here p (stored x) (Some x.reference.at) known refl);
      names = record {
        child = (λ i. (spells.kind i, (spells.name ∙ sym (root_name-entries t)) i)) ∙ sym (child_of_directory t some.directory);
        high = spells.height ∙ sym (directory_height t some.directory);
      };
    }

    -- ---- a directory

    pub record DirectoryAgrees (root : shape.Part Stored) (ns : Nodes) (t : Tree) (h : ℕ) (p : Path) (refs : List Stored) (at : ℕ) : Type 0 where
      pub spelled : spell_directory v offset h p t at ≡ spelled_by (lay (directory root ns) refs at)
      pub names : NamesPart 0 (entries_of t).entries (lay (directory root ns) refs at).stands

    -- each entry that was read is laid as it is spelled
    abbrev BelowAgrees : Nodes → Tree → ℕ → Path → List Stored → Type 0
    BelowAgrees ns t h p refs =
        (s : Step) (sub : Tree) → find bytes_cmp s (entries_of t).entries ≡ Some sub → has s (steps_in ns) ≡ true → (at : ℕ)
        → (spelled_at h (p ++ s ∷ []) sub at ≡ spelled_by (lay_at ns refs s at)) × Names (lay_at ns refs s at).stands sub

    was_read : (root : shape.Part Stored) (s : Step) → unread_in (way deepest 0 s) root ≡ None → is_read root s ≡ true
    unfolding way_to
    was_read root s e = ap is_none e

    spells_from : (x : Stored) (es : Entries) (is : List ℕ) → SpellsPart records (length is) x (part es is) → SpellsPart records (0 + length is) x (part_from 0 es is)
    spells_from x es is spells = let e : length is ≡ 0 + length is = omega arith in subst (λ d. SpellsPart records d x (part es is)) e spells

    parts_known : (root : shape.Part Stored) (ns : Nodes) (p : Path) → KnownAt p (directory root ns) → (is : List ℕ) → v.known (record { path = p; indexes = [] ++ is }) ≡ known_part records root is
    parts_known root ns p known is = ap (λ (q : Path). v.known (record { path = q; indexes = is })) (sym (append-nil p)) ∙ known [] is

    -- one that a record is known to spell
    whole_agrees : (root : shape.Part Stored) (ns : Nodes) (t : Tree) (h : ℕ) (p : Path) (refs : List Stored) (at : ℕ) (x : Stored) → record_of root ≡ Some x → KnowsParts records root (entries_of t).entries → KnownAt p (directory root ns)
        → DirectoryAgrees root ns t (suc h) p refs at
    whole_agrees root ns t h p refs at x whole knows known =
        let es = (entries_of t).entries in
        let agrees =
        part_known v offset (spell_directory v offset h) p (λ s. lay_at ns refs s) records deepest 0 [] es root at x whole (parts_known root ns p known)
        record { known = λ is x e. spells_from x es is (knows.known is x e).spells; unread = λ is x e. spells_from x es is (knows.unread is x e).spells } in
        record { spelled = as_part h p t at ∙ agrees.spelled; names = agrees.names }

    new_agrees : (root : shape.Part Stored) (ns : Nodes) (t : Tree) (h : ℕ) (p : Path) (refs : List Stored) (at : ℕ) → HasSteps root (steps_in ns) (entries_of t).entries → KnowsParts records root (entries_of t).entries → KnownAt p (directory root ns)
        → Low (suc h) t → BelowAgrees ns t h p refs → DirectoryAgrees root ns t (suc h) p refs at
    new_agrees root ns t h p refs at steps knows known low below =
        let es = (entries_of t).entries in
        let stands : Stands v offset (spell_directory v offset h) p (λ s. lay_at ns refs s) records deepest 0 [] es root = record {
          sum = refl;
          up = steps.ascend;
          shape = steps.shape;
          known = parts_known root ns p known;
          below = record { known = λ is x e. spells_from x es is (knows.known is x e).spells; unread = λ is x e. spells_from x es is (knows.unread is x e).spells };
          read = λ s sub found open_way.
              let member : has s (steps_in ns) ≡ true =
              ap (has s) steps.held ∙ has-filter (is_read root) s (steps_of es) ∙ ap (λ b. b && has s (steps_of es)) (was_read root s open_way) ∙ has_of s es ∙ ap is_some found in
              (below s sub found member, (let a = entry_height t s sub found in let b = low.shallow in omega (arith, a, b)));
        } in
        let agrees = part_agrees v offset (spell_directory v offset h) p (λ s. lay_at ns refs s) records deepest 0 [] es root at stands in
        record { spelled = as_part h p t at ∙ agrees.spelled; names = agrees.names }

    directory_agrees : (root : shape.Part Stored) (ns : Nodes) (t : Tree) (h : ℕ) (p : Path) (refs : List Stored) (at : ℕ) → HasSteps root (steps_in ns) (entries_of t).entries → KnowsParts records root (entries_of t).entries → KnownAt p (directory root ns)
        → Low (suc h) t → (record_of root ≡ None → BelowAgrees ns t h p refs) → DirectoryAgrees root ns t (suc h) p refs at
    directory_agrees root ns t h p refs at steps knows known low below = by (record_of root) refl
      where
        by : (o : Option Stored) → record_of root ≡ o → DirectoryAgrees root ns t (suc h) p refs at
        by (Some x) is = whole_agrees root ns t h p refs at x is knows known
        by None new = new_agrees root ns t h p refs at steps knows known low (below new)

    -- ---- below

    rest_from : (p : Path) (t : Step) (n : Node) (ns : Nodes) (refs : List Stored) → RefsAt p refs (news_among (first t n ns)) → RefsAt p (behind_refs n refs) (news_among ns)
    rest_from p t n ns refs are = subst (λ (l : List Bytes). RefsAt p (drop (length l) refs) (news_among ns)) (values_under t (news n) ∙ fresh_values n) (refs_rest p refs (map (under t) (news n)) (news_among ns) are)

    abbrev StepAgrees : Nodes → Tree → Step → ℕ → Path → List Stored → ℕ → Type 0
    StepAgrees ns sub s h p refs at = (spelled_at h (p ++ s ∷ []) sub at ≡ spelled_by (lay_at ns refs s at)) × Names (lay_at ns refs s at).stands sub

    -- what is known below the step
    abbrev KnownUnder : Path → Step → Nodes → (Path → List ℕ → Option ℕ) → Type 0
    KnownUnder p s ns other = (q : Path) (is : List ℕ) → v.known (record { path = p ++ s ∷ q; indexes = is }) ≡ known_among records ns s q is (other q is)

    first_agrees : (t : Step) (n : Node) (ns : Nodes) (sub : Tree) (s : Step) (h : ℕ) (p : Path) (refs : List Stored) (at : ℕ) (all : Entries) (other : Path → List ℕ → Option ℕ) → IsSomeAnd (find bytes_cmp t all) (λ w. NodeIs records n w) → RefsAt p refs (news_among (first t n ns))
        → KnownUnder p s (first t n ns) other → find bytes_cmp s all ≡ Some sub → has s (steps_in (first t n ns)) ≡ true
        → (NodeIs records n sub → KnownAt (p ++ s ∷ []) n → RefsAt (p ++ s ∷ []) refs (news n) → TreeAgrees n sub h (p ++ s ∷ []) refs at)
        → (KnownUnder p s ns other → has s (steps_in ns) ≡ true → StepAgrees ns sub s h p (behind_refs n refs) at) → StepAgrees (first t n ns) sub s h p refs at
    first_agrees t n ns sub s h p refs at all other means are known found there one later = by (same_bytes s t) refl known there
      where
        by : (b : Bool) → same_bytes s t ≡ b → ((q : Path) (is : List ℕ) → v.known (record { path = p ++ s ∷ q; indexes = is }) ≡ cond b (known_at records n q is) (known_among records ns s q is (other q is)))
            → (b || has s (steps_in ns)) ≡ true → (spelled_at h (p ++ s ∷ []) sub at ≡ spelled_by (cond b (lay n refs at) (lay_at ns (behind_refs n refs) s at))) × Names (cond b (lay n refs at) (lay_at ns (behind_refs n refs) s at)).stands sub
        by true same below there =
            let is : s ≡ t = same_step s t (equal (bytes_cmp s t) same) in
            let node : NodeIs records n sub = subst (λ o. IsSomeAnd o (λ w. NodeIs records n w)) (ap (λ (k : Step). find bytes_cmp k all) (sym is) ∙ found) means in
            let agrees =
            one node (λ q w. ap (λ (r : Path). v.known (record { path = r; indexes = w })) (append_assoc p (s ∷ []) q) ∙ below q w)
            (subst (λ (k : Step). RefsAt (p ++ k ∷ []) refs (news n)) (sym is) (refs_under p t refs (news n) (refs_first p refs (map (under t) (news n)) (news_among ns) are))) in
            (agrees.spelled, agrees.names)
        by false apart below there = later below there

    mutual
      one_agrees : (n : Node) (t : Tree) (h : ℕ) (p : Path) (refs : List Stored) (at : ℕ) → NodeIs records n t → KnownAt p n → RefsAt p refs (news n) → Low h t → TreeAgrees n t h p refs at
      one_agrees (stored x) t h p refs at is known are low = stored_agrees x t h p refs at is known low
      one_agrees (new_contents b) t h p refs at is known are low = record {
        spelled = if_true (is_contents t) (there_already (offset p) at) (spell_directory v offset h p t at) (ap is_contents is ∙ contents_some b)
            ∙ ap (λ o. there_already o at) (ap offset (sym (append-nil p)) ∙ sym (ap (λ (x : Stored). x.reference.at) are.0));
        names = subst (λ (x : Stored). Names x t) (sym are.0) record { child = sym (child_of_contents b) ∙ ap child_of (sym is); high = sym (contents_height b) ∙ ap height (sym is) };
      }
      one_agrees (directory root ns) t zero p refs at is known are low = absurd (let u = low.under in omega (arith, u))
      one_agrees (directory root ns) t (suc h) p refs at is known are low =
          let d =
          directory_agrees root ns t h p refs at is.1 is.2 known low
          (λ new s sub found there next.
          let inner : Low h sub = (let a = entry_height t s sub found in let u = low.under in let k = low.shallow in record { under = omega (arith, a, u); shallow = omega (arith, a, k) }) in
          nodes_agree ns (entries_of t).entries h p refs is.3 (subst (RefsAt p refs) (unless_new (record_of root) [] (news_among ns) new) are) s sub (λ q w. below_unread records root s q w) (λ q w. known (s ∷ q) w) found there inner next) in
          record {
            spelled = if_false (is_contents t) (there_already (offset p) at) (spell_directory v offset (suc h) p t at) is.0.directory ∙ d.spelled;
            names = record {
              child = (λ i. (d.names.kind i, (d.names.name ∙ sym (root_name-entries t)) i)) ∙ sym (child_of_directory t is.0.directory);
              high = d.names.high ∙ sym (directory_height t is.0.directory);
            };
          }

      nodes_agree : (ns : Nodes) (all : Entries) (h : ℕ) (p : Path) (refs : List Stored) → NodesAre records ns all → RefsAt p refs (news_among ns) → (s : Step) (sub : Tree) (other : Path → List ℕ → Option ℕ) → KnownUnder p s ns other
          → find bytes_cmp s all ≡ Some sub → has s (steps_in ns) ≡ true → Low h sub → (at : ℕ) → StepAgrees ns sub s h p refs at
      nodes_agree none all h p refs means are s sub other known found there low at = absurd (false≢true there)
      nodes_agree (first t n ns) all h p refs means are s sub other known found there low at =
          first_agrees t n ns sub s h p refs at all other means.0 are known found there (λ node below under. one_agrees n sub h (p ++ s ∷ []) refs at node below under low)
          (λ below later. nodes_agree ns all h p (behind_refs n refs) means.1 (rest_from p t n ns refs are) s sub other below found later low at)

    -- ---- the root

    pub record RootAgrees (refs : List Stored) (root : Root) (t : Tree) (at : ℕ) : Type 0 where
      pub spelled : spell_directory v offset (suc (height t)) [] t at ≡ spelled_by (lay_root refs root at)
      pub named : (lay_root refs root at).stands.reference ≡ record { at = (lay_root refs root at).stands.reference.at; name = root_name t; kind = 2 }
      pub low : (lay_root refs root at).stands.height ≤ height t

    pub root_agrees : (refs : List Stored) (root : Root) (t : Tree) (at : ℕ) → RootIs records root t → ((part : Part) → v.known part ≡ known_of records root part) → refs ≡ map (ref_for offset) (news_root root) → height t ≤ 64 → RootAgrees refs root t at
    root_agrees refs (unread r) t at is known are shallow = record {
      spelled = known_directory (height t) [] t at r.at (known (whole_part []));
      named = λ i. record { at = r.at; name = is.1.name i; kind = is.1.kind i };
      low = omega arith;
    }
    root_agrees refs (loaded root ns) t at is known are shallow =
        let low : Low (suc (height t)) t = record { under = omega arith; shallow = shallow } in
        let d =
        directory_agrees root ns t (height t) [] refs at is.steps is.parts (λ q w. known (record { path = q; indexes = w })) low
        (λ new s sub found there next.
        let inner : Low (height t) sub = (let a = entry_height t s sub found in record { under = omega (arith, a); shallow = omega (arith, a, shallow) }) in
        nodes_agree ns (entries_of t).entries (height t) [] refs is.nodes
        (subst (RefsAt [] refs) (unless_new (record_of root) [] (news_among ns) new) (subst (λ (l : List Stored). RefsAt [] l (news (directory root ns))) (sym are) (refs_by (news (directory root ns))))) s sub (λ q w. below_unread records root s q w) (λ q w. known (record { path = s ∷ q; indexes = w })) found there inner next) in
        let high = d.names.high ∙ sym (directory_height t is.directory) in
        record {
          spelled = d.spelled;
          named = λ i. record { at = (lay (directory root ns) refs at).stands.reference.at; name = (d.names.name ∙ sym (root_name-entries t)) i; kind = d.names.kind i };
          low = omega (arith, high);
        }
