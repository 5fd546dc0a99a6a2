-- A directory of the code, and a node, after a node was put at a path.
--     placed_here      the node itself, where the path ends
--     placed_step      a directory, of which the child at the path's first step was put: a new one, or one that was changed and put back
--     placed_below, placed_new      of the one and of the other, by what is told of the child
--     chain_end, chain_step      new directories one in another
--     not_placed_step, not_placed      where it failed the node is the same
--     placed_after      what was read before, so that it is the same, and put then
use Rattle.std.proofs.Common.{◌≡◌, ℕ, ◌-◌, ◌≤◌, ◌<◌, Bool, true, false, List, [], ◌∷◌, map, length, refl, sym, ap, subst, ◌∙◌, Option, Some, None, cond, arith}
use Rattle.std.specs.Prelude.{Result, Ok, Err, IsErrAnd, IsFalse, is_none, is_some, is_ok, nat_le, option_map, ◌&&◌, ◌||◌, if◌then◌else◌}
use Rattle.std.proofs.lemmas.Bool.{false≢true, le-leb, lt-leb}
use Rattle.std.proofs.lemmas.Cmp.{nat_list_cmp_total}
use Rattle.std.specs.Ordering.{is_eq}
use Rattle.std.specs.FinMap.Entries.{find, put, find-put}
use Rattle.ip_spec.specs.Path.{Bytes, Step, Path, bytes_cmp, same_bytes, after_prefix}
use Rattle.ip_spec.specs.Shape.{deepest}
use Rattle.ip_spec.specs.Step.{entries_limit}
use Rattle.ip_spec.specs.declared.record.Record.{Record}
use Rattle.ip_spec.specs.Tree as Tree
use Rattle.ip_spec.specs.Tree.{Tree, entries_of, is_empty, no_tree, place, subtree, tree_runs}
use Rattle.ip_spec.specs.View as view
use Rattle.ip_spec.specs.View.{is_part_at, is_part_from}
use Rattle.ip_spec.proofs.Subtrees.{empty_is, entry_found, entry_lost, same_step, step_itself, subtree_root}
use Rattle.ip_shape.specs.Directory.{IsPartly, IsDir, root_of, steps_of}
use Rattle.ip_shape.specs.Loaded.{IsEdited, IsFresh, unread_in, known_in, way_to}
use Rattle.ip_shape.specs.Shape.{AreSteps, ByTest, IsPart, add, has}
use Rattle.ip_shape.specs.declared.dir.Dir.{Dir}
use Rattle.ip_shape.specs.declared.part.Part.{Part}
use Rattle.ip_shape.proofs.Entries.{AreSteps-add, has_of, none_of, steps_put}
use Rattle.ip_shape.proofs.ByEntries.{as_long}
use Rattle.ip_shape.proofs.Members.{has-add, has-filter, same_steps}
use Rattle.ip_tree.specs.Node as told
use Rattle.ip_tree.specs.Node.{directory, nodes_of}
use Rattle.ip_tree.specs.Meaning.{NodeIs, NodesAre, StoredIs, contents_in, directory_in, is_read}
use Rattle.ip_tree.specs.Known.{below_entry, below_unread, known_among, known_at, known_by, knows, unread_entry}
use Rattle.ip_tree.specs.Edits.{IsDirectory, IsNewAt, IsOpen, IsSame, NotPlaced, PlaceFaultBy, full_by, is_full}
use Rattle.ip_tree.specs.Placing.{IsChain, IsPlaced, Places, behind_or}
use Rattle.ip_tree.specs.Reads.{IsFree}
use Rattle.ip_tree.specs.Shown.{entries_shown, shown, shown_directory}
use Rattle.ip_tree.specs.declared.node.Node.{Node}
use Rattle.ip_tree.specs.declared.node.Stored.{Stored}
use Rattle.ip_tree.specs.declared.tree.TreeFault.{TreeFault}
use Rattle.ip_tree.specs.declared.tree.TreeFault.TheVariants.{Limit, Fetch, Memory}
use Rattle.ip_tree.proofs.DirectoryEdits.{entry_exchanged, entry_put}
use Rattle.ip_tree.proofs.Indexes.{no_some}
use Rattle.ip_tree.proofs.KnownStands.{known_stands}
use Rattle.ip_tree.proofs.PartlyShown.{has_steps, map_find, map_put, show, steps_shown}
use Rattle.ip_tree.proofs.PlacedParts.{IsBelow, after_nothing, after_placing, after_same, below_chain, below_child, known_behind, placed_knows}
use Rattle.ip_tree.proofs.PartsPut.{if_touched}
use Rattle.ip_tree.proofs.PlacedWidths.{below_bytes}
use Rattle.ip_tree.proofs.PlacedTrees.{entries_of-place, place_directory, place_not_empty, place_over_contents, place_root}
use Rattle.ip_tree.proofs.Trees.{contents_get, entries_of_contents, entries_of_nothing, nothing_directory}
use Rattle.ip_tree.proofs.Directories.{IsChild, IsNoDirectory, node_of, put_again, shown_found, some_node}

-- ---- entries of the code

found_put : {C : Type 0} (s : Step) (x : C) (es : List (Step × C)) → is_some (find bytes_cmp s (put bytes_cmp s x es)) ≡ true
found_put s x es = ap is_some (find-put bytes_cmp nat_list_cmp_total s s x es) ∙ ap (λ o. is_some (cond (is_eq o) (Some x) (find bytes_cmp s es))) (step_itself s)

-- a step that is there already adds none
steps_kept : {C : Type 0} (s : Step) (x y : C) (es : List (Step × C)) → AreSteps (steps_of es) → find bytes_cmp s es ≡ Some y → steps_of (put bytes_cmp s x es) ≡ steps_of es
steps_kept s x y es ascend found =
    steps_put s x es ∙ same_steps (add s (steps_of es)) (steps_of es) (AreSteps-add s (steps_of es) ascend) ascend (λ q. has-add q s (steps_of es) ∙ by q (same_bytes q s) refl)
  where
    by : (q : Step) (b : Bool) → same_bytes q s ≡ b → (b || has q (steps_of es)) ≡ has q (steps_of es)
    by q true e = sym (ap (λ (k : Step). has k (steps_of es)) (same_step q s e) ∙ has_of s es ∙ ap is_some found)
    by q false e = refl

-- nothing has no part
no_part : (q : Step) (is : List ℕ) → is_part_at (q ∷ []) no_tree is ≡ false
unfolding tree_runs
no_part q is = refl

-- ---- what nodes mean

module _ (records : ℕ → Option Record) where
  stored_bytes : (x : Stored) (t : Tree) → x.reference.kind ≡ 1 → StoredIs records x t → (bytes : Bytes) × (t ≡ Tree.contents bytes)
  stored_bytes x t' kind (contents_in bytes here low child) = (bytes, refl)
  stored_bytes x t' kind (directory_in sub some spells) = absurd (let two = spells.kind in omega arith)

  -- what was opened and is no directory are contents
  pub bytes_there : (n : told.Node) (t : Tree) → IsNoDirectory n → IsOpen n → NodeIs records n t → (bytes : Bytes) × (t ≡ Tree.contents bytes)
  bytes_there (told.stored x) t other opened is = stored_bytes x t opened is
  bytes_there (told.contents b) t other opened is = (b, is)
  bytes_there (told.directory root ns) t other opened is = absurd other

-- ---- a step that stands nowhere

pub record IsNewStep (d : Dir Node Stored) (t : Tree) (s : Step) : Type 0 where
  pub way : unread_in (way_to s) (root_of d) ≡ None
  pub lost : find bytes_cmp s d.entries.entries ≡ None
  pub missing : find bytes_cmp s (entries_of t).entries ≡ None

pub new_step : (records : ℕ → Option Record) (d : Dir Node Stored) (t : Tree) (s : Step) → IsDirectory records (shown_directory d) t → unread_in (way_to s) (root_of d) ≡ None → find bytes_cmp s d.entries.entries ≡ None → IsNewStep d t s
new_step records d t s means way lost = record {
  way = way;
  lost = lost;
  missing = none_of (find bytes_cmp s (entries_of t).entries) (
      sym (has_of s (entries_of t).entries)
      ∙ ap (λ b. b && has s (steps_of (entries_of t).entries)) (sym (ap is_none way))
      ∙ sym (has-filter (is_read (root_of d)) s (steps_of (entries_of t).entries))
      ∙ ap (has s) (sym means.steps.held)
      ∙ ap (has s) (steps_shown d)
      ∙ has_of s d.entries.entries
      ∙ ap is_some lost
      );
}

pub new_at : (records : ℕ → Option Record) (d : Dir Node Stored) (t : Tree) (p : Path) (s : Step) (path : Path) → p ≡ s ∷ path → IsDirectory records (shown_directory d) t → IsNewAt p (shown_directory d) → IsNewStep d t s
new_at records d t p s path split means new =
    let is : IsNewAt (s ∷ path) (shown_directory d) = subst (λ (q : Path). IsNewAt q (shown_directory d)) split new in
    new_step records d t s means is.0 (none_of (find bytes_cmp s d.entries.entries) (sym (has_of s d.entries.entries) ∙ ap (has s) (sym (steps_shown d)) ∙ is.1))

-- nothing was found there, so it is new
pub is_new_at : (d : Dir Node Stored) (p : Path) (s : Step) (path : Path) → p ≡ s ∷ path → unread_in (way_to s) (root_of d) ≡ None → find bytes_cmp s d.entries.entries ≡ None → IsNewAt p (shown_directory d)
is_new_at d p s path split way lost =
    subst (λ (q : Path). IsNewAt q (shown_directory d)) (sym split) (way, ap (has s) (steps_shown d) ∙ has_of s d.entries.entries ∙ ap is_some lost)

-- ---- how many entries there are

pub count_of : (records : ℕ → Option Record) (d : Dir Node Stored) (t : Tree) → IsDirectory records (shown_directory d) t → (part : Part Stored) → part ≡ root_of d
    → (n : ℕ) → ((depth : ℕ) (steps : List Step) → IsPart (deepest - depth) depth steps part → n ≡ length steps) → n ≡ length (entries_of t).entries
count_of records d t means part same n told = told 0 (steps_of (entries_of t).entries) (subst (IsPart deepest 0 (steps_of (entries_of t).entries)) (sym same) means.steps.shape) ∙ as_long (entries_of t).entries

pub whole_test : (m n : ℕ) → entries_limit ≤ m → m ≡ n → nat_le entries_limit n ≡ true
whole_test m n h e = le-leb _ _ (omega arith)

pub room_test : (m n : ℕ) → m < entries_limit → m ≡ n → nat_le entries_limit n ≡ false
room_test m n h e = lt-leb _ _ (omega arith)

-- no place for a new entry
pub full_at : (records : ℕ → Option Record) (d : Dir Node Stored) (t : Tree) (p : Path) (s : Step) (path : Path) → p ≡ s ∷ path → IsDirectory records (shown_directory d) t → IsNewAt p (shown_directory d)
    → nat_le entries_limit (length (entries_of t).entries) ≡ true → is_full p t ≡ true
full_at records d t p s path split means new whole =
    ap (λ (q : Path). is_full q t) split ∙ ap (full_by (is_full path) (entries_of t).entries) (new_at records d t p s path split means new).missing ∙ whole

-- ---- a call on the code's directory that failed

pub nothing_changed : (Means : told.Node → Tree → Type 0) (records : ℕ → Option Record) (n : told.Node) (t : Tree) → Means n t → IsSame Means records n n t
nothing_changed Means records n t means = record { means = means; known = λ part. refl }

-- ---- faults

pub free_place : (full : Bool) (fault : TreeFault) → IsFree fault → PlaceFaultBy full fault
free_place full (Limit l) free = absurd free
free_place full (Fetch f) free = free
free_place full Memory free = tt

pub not_placed : (Means : told.Node → Tree → Type 0) (records : ℕ → Option Record) (old new : told.Node) (t : Tree) (path : Path) (fault : TreeFault) → IsSame Means records old new t → IsFree fault → NotPlaced Means records path fault old new t
not_placed Means records old new t path fault same free = record { same = same; cause = free_place (is_full path t) fault free }

-- a call that failed, and left the same
pub refused : (Means : told.Node → Tree → Type 0) (records : ℕ → Option Record) (path : Path) (n : told.Node) (sub : Tree) (old new : told.Node) (t : Tree) (result : Result (Unit {0}) TreeFault) (fault : TreeFault)
    → IsErrAnd result (λ e. e ≡ fault) → IsFree fault → IsSame Means records old new t → Places Means records path n sub old new t result
refused Means records path n sub old new t (Ok done) fault is free same = absurd is
refused Means records path n sub old new t (Err e) fault is free same = not_placed Means records old new t path e same (subst IsFree (sym is) free)

-- what was read before is the same
pub placed_after : (Means Before : told.Node → Tree → Type 0) (records : ℕ → Option Record) (path : Path) (n : told.Node) (sub : Tree) (old mid new : told.Node) (t : Tree) (result : Result (Unit {0}) TreeFault)
    → IsSame Before records old mid t → Places Means records path n sub mid new t result → Places Means records path n sub old new t result
placed_after Means Before records path n sub old mid new t (Ok done) same is = record {
  means = is.means;
  known = λ part. is.known part ∙ after_same records n path (knows records mid) (knows records old) (place t path sub) part (same.known part);
  room = is.room;
}
placed_after Means Before records path n sub old mid new t (Err fault) same is = record {
  same = record { means = is.same.means; known = λ part. is.same.known part ∙ same.known part };
  cause = is.cause;
}

-- ---- putting

module _ (records : ℕ → Option Record) (n : told.Node) (sub : Tree) (is_node : NodeIs records n sub) where
  some : is_empty sub ≡ false
  some = some_node records n sub is_node

  pub placed_here : (old : told.Node) (t : Tree) → IsPlaced (NodeIs records) records [] n sub old n t
  placed_here old t = record { means = subst (λ (x : Tree). NodeIs records n x) (sym (place_root t sub)) is_node; known = λ part. refl; room = refl }

  -- a directory is a node: something stands in it
  pub placed_node : (path : Path) (old new : told.Node) (t : Tree) (result : Result (Unit {0}) TreeFault) → NodeIs records old t → Places (IsDirectory records) records path n sub old new t result
      → Places (NodeIs records) records path n sub old new t result
  placed_node path old new t (Ok done) is put = record { means = node_of records new (place t path sub) put.means (place_not_empty t path sub some); known = put.known; room = put.room }
  placed_node path old new t (Err fault) is put = record { same = record { means = node_of records new t put.same.means (some_node records old t is); known = put.same.known }; cause = put.cause }

  -- ---- below a directory

  module _ (d e : Dir Node Stored) (t : Tree) (s : Step) (path : Path) (means : IsDirectory records (shown_directory d) t) (way_read : unread_in (way_to s) (root_of d) ≡ None) where
    pub placed_step : (child : Node) (steps : List Step) → NodeIs records (shown child) (place (subtree t (s ∷ [])) path sub) → IsBelow records (root_of d) (entries_shown d) s path n (shown child) (place (subtree t (s ∷ [])) path sub)
        → IsPartly e steps (put bytes_cmp s child d.entries.entries) → IsEdited 0 s (root_of d) (root_of e) → steps ≡ steps_of (entries_of (place t (s ∷ path) sub)).entries → IsFalse (is_full (s ∷ path) t)
        → IsPlaced (IsDirectory records) records (s ∷ path) n sub (shown_directory d) (shown_directory e) t
    placed_step child steps child_means below is_partly edited same room =
        let now : entries_shown e ≡ put bytes_cmp s (shown child) (entries_shown d) = ap (λ (l : List (Step × Node)). map show l) is_partly.0 ∙ map_put shown s child d.entries.entries in record {
          means =
              entry_put records d e t (place t (s ∷ path) sub) s means child (place (subtree t (s ∷ [])) path sub) steps child_means (place_directory t s path sub) (entries_of-place t s path sub some) same way_read is_partly edited;
          known = λ part.
              ap (λ (l : List told.Entry). knows records (directory (root_of e) (nodes_of l)) part) now
              ∙ placed_knows records (root_of d) (root_of e) (entries_shown d) t s path n sub some means way_read edited (shown child) below part;
          room = room;
        }

    -- of a child that stood there
    pub placed_below : (old child : Node) (c : IsChild records d t s old) → find bytes_cmp s d.entries.entries ≡ Some old → IsPlaced (NodeIs records) records path n sub (shown old) (shown child) c.sub
        → IsPartly e (steps_of (entries_of t).entries) (put bytes_cmp s child d.entries.entries) → IsEdited 0 s (root_of d) (root_of e)
        → IsPlaced (IsDirectory records) records (s ∷ path) n sub (shown_directory d) (shown_directory e) t
    placed_below old child c found done is_partly edited =
        let same : c.sub ≡ subtree t (s ∷ []) = (entry_found t s c.sub c.here).is in
        placed_step child (steps_of (entries_of t).entries) (subst (λ (x : Tree). NodeIs records (shown child) (place x path sub)) same done.means)
        (subst (λ (x : Tree). IsBelow records (root_of d) (entries_shown d) s path n (shown child) (place x path sub)) same
        (below_child records (root_of d) (entries_shown d) s path n (shown old) (shown child) (place c.sub path sub) (shown_found d s old found) done.known)) is_partly edited
        (sym (ap (λ (l : List (Step × Tree)). steps_of l) (entries_of-place t s path sub some) ∙ steps_kept s (place (subtree t (s ∷ [])) path sub) c.sub (entries_of t).entries means.steps.ascend c.here))
        (ap (full_by (is_full path) (entries_of t).entries) c.here ∙ done.room)

    -- of new directories
    pub placed_new : (child : Node) → IsChain records path n sub (shown child) → find bytes_cmp s d.entries.entries ≡ None → find bytes_cmp s (entries_of t).entries ≡ None → nat_le entries_limit (length (entries_of t).entries) ≡ false
        → IsPartly e (add s (steps_of (entries_of t).entries)) (put bytes_cmp s child d.entries.entries) → IsEdited 0 s (root_of d) (root_of e)
        → IsPlaced (IsDirectory records) records (s ∷ path) n sub (shown_directory d) (shown_directory e) t
    placed_new child chain lost missing room is_partly edited =
        let nothing : no_tree ≡ subtree t (s ∷ []) = sym (empty_is (subtree t (s ∷ [])) (entry_lost t s missing)) in
        placed_step child (add s (steps_of (entries_of t).entries)) (subst (λ (x : Tree). NodeIs records (shown child) (place x path sub)) nothing chain.means)
        (below_chain records (root_of d) (entries_shown d) s path n (shown child) (place (subtree t (s ∷ [])) path sub) (map_find shown s d.entries.entries ∙ ap (option_map shown) lost) way_read chain.known) is_partly edited
        (sym (ap (λ (l : List (Step × Tree)). steps_of l) (entries_of-place t s path sub some) ∙ steps_put s (place (subtree t (s ∷ [])) path sub) (entries_of t).entries))
        (ap (full_by (is_full path) (entries_of t).entries) missing ∙ room)

  -- the child that was taken out is put back, as it is now
  module _ (d : Dir Node Stored) (t : Tree) (s : Step) (path : Path) (means : IsDirectory records (shown_directory d) t) (way_read : unread_in (way_to s) (root_of d) ≡ None) where
    pub placed_back : (between back : Dir Node Stored) (vacant old child : Node) (c : IsChild records d t s old) (result : Result (Unit {0}) TreeFault) → find bytes_cmp s d.entries.entries ≡ Some old
        → Places (NodeIs records) records path n sub (shown old) (shown child) c.sub result
        → IsPartly between (steps_of (entries_of t).entries) (put bytes_cmp s vacant d.entries.entries) → root_of between ≡ root_of d
        → ((steps : List Step) (es : List (Step × Node)) → IsPartly between steps es → is_some (find bytes_cmp s es) ≡ true
        → IsPartly back steps (put bytes_cmp s child es) × ByTest (is_ok result) (IsEdited 0 s (root_of between) (root_of back)) (root_of back ≡ root_of between))
        → Places (IsDirectory records) records (s ∷ path) n sub (shown_directory d) (shown_directory back) t result
    placed_back between back vacant old child c (Ok done) found put_at emptied root again =
        let a = again (steps_of (entries_of t).entries) (put bytes_cmp s vacant d.entries.entries) emptied (found_put s vacant d.entries.entries) in
        placed_below d back t s path means way_read old child c found put_at (subst (λ (l : List (Step × Node)). IsPartly back (steps_of (entries_of t).entries) l) (put_again s vacant child d.entries.entries) a.0)
        (subst (λ (r : Part Stored). IsEdited 0 s r (root_of back)) root a.1)
    placed_back between back vacant old child c (Err fault) found put_at emptied root again =
        let a = again (steps_of (entries_of t).entries) (put bytes_cmp s vacant d.entries.entries) emptied (found_put s vacant d.entries.entries) in record {
          same =
              entry_exchanged records d back t s old child c.sub means (shown_found d s old found) c.here put_at.same.means put_at.same.known
              (subst (λ (l : List (Step × Node)). IsPartly back (steps_of (entries_of t).entries) l) (put_again s vacant child d.entries.entries) a.0) (a.1 ∙ root);
          cause = subst (λ b. PlaceFaultBy b fault) (sym (ap (full_by (is_full path) (entries_of t).entries) c.here)) put_at.cause;
        }

  -- ---- new directories

  pub chain_end : IsChain records [] n sub n
  chain_end = record { means = subst (λ (x : Tree). NodeIs records n x) (sym (place_root no_tree sub)) is_node; known = λ part. refl }

  module _ (d : Dir Node Stored) (empty : IsDir d []) (fresh : IsFresh (root_of d)) where
    nothing_means : IsDirectory records (shown_directory d) no_tree
    nothing_means = record {
      directory = nothing_directory;
      steps = has_steps d [] [] (entries_of no_tree).entries empty.0 (sym (ap (λ (l : List (Step × Tree)). steps_of l) entries_of_nothing));
      parts = record { known = λ is x e. no_some x (sym (fresh is).1 ∙ e); unread = λ is x e. no_some (x, []) (sym (fresh is).0 ∙ e) };
      nodes = subst (λ (l : List (Step × Node)). NodesAre records (nodes_of (map show l)) (entries_of no_tree).entries) (sym empty.0.0) tt;
    }

    nothing_known : (part : view.Part) → knows records (shown_directory d) part ≡ None
    nothing_known part = by part.path
      where
        by : (p : Path) → known_at records (shown_directory d) p part.indexes ≡ None
        by [] = ap (known_by records (known_in part.indexes (root_of d))) (fresh part.indexes).0 ∙ ap (λ k. known_by records k None) (fresh part.indexes).1
        by (q ∷ r) =
            ap (λ (l : List (Step × Node)). known_among records (nodes_of (map show l)) q r part.indexes (below_unread records (root_of d) q r part.indexes)) empty.0.0
            ∙ ap (λ u. below_entry records r part.indexes (unread_entry records q u)) (fresh (way_to q)).0

    -- one more above those that lead down to the node
    pub chain_step : (e : Dir Node Stored) (s : Step) (path : Path) (child : Node) → IsChain records path n sub (shown child)
        → IsPartly e (add s []) (put bytes_cmp s child []) → IsEdited 0 s (root_of d) (root_of e) → IsChain records (s ∷ path) n sub (shown_directory e)
    chain_step e s path child chain is_partly edited =
        let placed =
        placed_new d e no_tree s path nothing_means (fresh (way_to s)).0 child chain (ap (find bytes_cmp s) empty.0.0) (ap (find bytes_cmp s) entries_of_nothing) (ap (λ (l : List (Step × Tree)). nat_le entries_limit (length l)) entries_of_nothing)
        (subst (λ (l : List (Step × Tree)). IsPartly e (add s (steps_of l)) (put bytes_cmp s child d.entries.entries)) (sym entries_of_nothing)
        (subst (λ (l : List (Step × Node)). IsPartly e (add s []) (put bytes_cmp s child l)) (sym empty.0.0) is_partly)) edited in
        record {
          means = node_of records (shown_directory e) (place no_tree (s ∷ path) sub) placed.means (place_not_empty no_tree (s ∷ path) sub some);
          known = λ part. placed.known part ∙ after_nothing records n (s ∷ path) (knows records (shown_directory d)) (place no_tree (s ∷ path) sub) part (nothing_known part);
        }

  -- ---- in place of contents

  module _ (bytes : Bytes) (old : told.Node) (is_bytes : NodeIs records old (Tree.contents bytes)) where
    never : (k : Option ℕ) → ((o : ℕ) → k ≡ Some o → ⊥) → k ≡ None
    never None unknown = refl
    never (Some o) unknown = absurd (unknown o refl)

    -- contents have one part, at no indexes, and nothing lies below them
    none_deeper : (i : ℕ) (is : List ℕ) → known_at records old [] (i ∷ is) ≡ None
    none_deeper i is = never (known_at records old [] (i ∷ is)) (λ o e. false≢true (sym (
        ap (λ (x : Tree). is_part_at [] x (i ∷ is)) (subtree_root (Tree.contents bytes)) ∙ ap (λ b. if b then false else if is_empty (Tree.contents bytes) then false else is_part_from 0 (entries_of (Tree.contents bytes)).entries (i ∷ is)) (ap is_some (contents_get bytes))
        ) ∙ (known_stands records old (Tree.contents bytes) [] [] (i ∷ is) o is_bytes e).is_part))

    none_below : (q : Step) (r : Path) (is : List ℕ) → known_at records old (q ∷ r) is ≡ None
    none_below q r is = never (known_at records old (q ∷ r) is) (λ o e. false≢true (sym (ap (λ (x : Tree). is_part_at (q ∷ []) x is) (below_bytes bytes q r) ∙ no_part q is) ∙ (known_stands records old (Tree.contents bytes) (q ∷ r) (q ∷ []) is o is_bytes e).is_part))

    pub chain_over : (s : Step) (path : Path) (new : told.Node) → IsChain records (s ∷ path) n sub new → IsPlaced (NodeIs records) records (s ∷ path) n sub old new (Tree.contents bytes)
    chain_over s path new chain = record {
      means = subst (λ (x : Tree). NodeIs records new x) (sym (place_over_contents bytes s path sub)) chain.means;
      known = λ part. chain.known part ∙ sym (by part.path part.indexes);
      room = ap (λ (l : List (Step × Tree)). full_by (is_full path) l (find bytes_cmp s l)) (entries_of_contents bytes);
    }
      where
        by : (q : Path) (is : List ℕ) → after_placing records n (s ∷ path) (knows records old) (place (Tree.contents bytes) (s ∷ path) sub) (record { path = q; indexes = is })
            ≡ behind_or (known_behind records n is) (after_prefix (s ∷ path) q) None
        by [] [] = sym (if_touched (view.is_part (place (Tree.contents bytes) (s ∷ path) sub) (record { path = []; indexes = [] })) (known_at records old [] []))
        by [] (i ∷ is) = after_nothing records n (s ∷ path) (knows records old) (place (Tree.contents bytes) (s ∷ path) sub) (record { path = []; indexes = i ∷ is }) (none_deeper i is)
        by (q ∷ r) is = after_nothing records n (s ∷ path) (knows records old) (place (Tree.contents bytes) (s ∷ path) sub) (record { path = q ∷ r; indexes = is }) (none_below q r is)
