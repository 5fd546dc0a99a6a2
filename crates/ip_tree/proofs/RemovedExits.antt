-- What a removal answers, over what its calls did.
--     kept_on      a call that failed behind one that changed nothing
--     front_nowhere, front_below      the front below a directory: where its step stands nowhere, and by what the node at the step answers
--     front_here, front_at_contents, front_written      the front at a node: at the end of the path, below contents, and through a directory, from which it is counted
--     front_within_above      so counted it is no longer than the path
--     directory_at      a node that is a directory, as the directory
--     takes_out, takes_refused      where the entry is taken out, and where that fails
--     rest_count, rest_stands, takes_under, takes_through      below a step, by what the node there answers, and at a node
--     first_stands, first_count, removes_first      both passes, one behind the other
use Rattle.std.proofs.Common.{◌≡◌, ℕ, suc, ◌<◌, ◌≤◌, Bool, true, false, List, [], ◌∷◌, take, drop, get_or, length, refl, sym, ap, subst, ◌∙◌, Option, Some, None, cond, arith}
use Rattle.std.specs.Prelude.{◌&&◌, ◌==◌, not, Result, Ok, Err, is_ok, is_some, if◌then◌else◌}
use Rattle.std.proofs.lemmas.Bool.{false≢true}
use Rattle.std.proofs.lemmas.List.{take-append-drop}
use Rattle.std.specs.FinMap.Entries.{find}
use Rattle.ip_spec.specs.Path.{Step, Path, bytes_cmp}
use Rattle.ip_spec.specs.declared.record.Record.{Record}
use Rattle.ip_spec.specs.Shape.{deepest}
use Rattle.ip_spec.specs.Tree.{Tree, entries_of, is_empty, remove, subtree}
use Rattle.ip_spec.specs.View.{is_part, touches}
use Rattle.ip_spec.proofs.Subtrees.{entry_found, subtree_root}
use Rattle.ip_shape.specs.Directory.{IsPartly, entries_in, root_of, steps_of, without}
use Rattle.ip_shape.specs.Directory as shape
use Rattle.ip_shape.specs.Loaded.{IsUnchanged}
use Rattle.ip_shape.specs.Reading.{IsNeeded}
use Rattle.ip_shape.specs.Shape.{IsPart, take_out}
use Rattle.ip_shape.specs.declared.dir.Dir.{Dir}
use Rattle.ip_shape.proofs.ByEntries.{as_long}
use Rattle.ip_shape.proofs.Entries.{has_of}
use Rattle.ip_tree.specs.Edits.{IsDirectory, IsKept, IsOpen, IsOpened, IsSame, IsUnfolded}
use Rattle.ip_tree.specs.Meaning.{NodeIs, contents_in, directory_in}
use Rattle.ip_tree.specs.Node as told
use Rattle.ip_tree.specs.Removal.{FindsFront, FindsFrontAt, IsFront, IsTaken, RemovesFrom, Takes, TakesAt, taken_front}
use Rattle.ip_tree.specs.Shown.{shown, shown_directory}
use Rattle.ip_tree.specs.declared.node.Node.{Node}
use Rattle.ip_tree.specs.declared.node.Node.TheVariants as variant
use Rattle.ip_tree.specs.declared.node.Stored.{Stored}
use Rattle.ip_tree.specs.declared.remove.Front.{Front}
use Rattle.ip_tree.specs.declared.remove.Front.TheVariants.{Nothing, Steps}
use Rattle.ip_tree.specs.declared.tree.TreeFault.{TreeFault}
use Rattle.ip_tree.proofs.Nodes.{directory_shown}
use Rattle.ip_tree.proofs.RemovedDirectories.{IsBack, held_at, same_under, stands_in, taken_out, taken_under}
use Rattle.ip_tree.proofs.RemovedFronts.{front_count, front_long, gone_is, taken_whole}
use Rattle.ip_tree.proofs.RemovedTrees.{below_contents, below_entry, below_nothing, front_stands, no_tree_empty, remove_root}
use Rattle.ip_tree.proofs.Directories.{IsChild, IsNoDirectory, child_none, no_directory, same_node, same_on, some_node, unchanged_same}

pub kept_on : (Means : told.Node → Tree → Type 0) (records : ℕ → Option Record) (a b c : told.Node) (t : Tree) (fault : TreeFault) → IsSame Means records a b t → IsKept Means records b c t fault → IsKept Means records a c t fault
kept_on Means records a b c t fault same kept = record { same = same_on Means records a b c t same kept.same; cause = kept.cause }

-- ---- the front, below a directory

module _ (records : ℕ → Option Record) (first : told.Node) (d e : Dir Node Stored) (t : Tree) (s : Step) (path : Path) (opened : IsOpened records s first (shown_directory d) t) where
  -- no such step
  pub front_nowhere : find bytes_cmp s (entries_in d) ≡ None → e ≡ d → FindsFront records (s ∷ path) first (shown_directory e) t (Ok Nothing)
  front_nowhere lost same = (
    below_nothing t s path (child_none records d t s opened.same.means lost opened.way),
    subst (λ (x : Dir Node Stored). IsSame (IsDirectory records) records first (shown_directory x) t) (sym same) opened.same,
  )

  pub front_below : (n m : Node) (c : IsChild records d t s n) → IsBack d e (steps_of (entries_of t).entries) s m false → (result : Result Front TreeFault) → FindsFrontAt records path (shown n) (shown m) c.sub result
      → FindsFront records (s ∷ path) first (shown_directory e) t result
  front_below n m c back result found = by result found
    where
      same : IsSame (NodeIs records) records (shown n) (shown m) c.sub → IsSame (IsDirectory records) records first (shown_directory e) t
      same kept = same_on (IsDirectory records) records first (shown_directory d) (shown_directory e) t opened.same (same_under records d e t s n m opened.same.means c back kept)

      by : (result : Result Front TreeFault) → FindsFrontAt records path (shown n) (shown m) c.sub result → FindsFront records (s ∷ path) first (shown_directory e) t result
      by (Ok Nothing) f = (below_entry t s path c.sub c.here ∙ f.0, same f.1)
      by (Ok (Steps k)) f = (
        record {
          stands = below_entry t s path c.sub c.here ∙ f.0.stands;
          count = f.0.count ∙ ap (λ (x : Tree). cond (is_empty (remove x path)) 1 (suc (taken_front x path))) (entry_found t s c.sub c.here).is;
        },
        same f.1,
      )
      by (Err fault) f = record { same = same f.same; cause = f.cause }

-- ---- and at a node

-- contents have nothing under them
below_no_directory : (records : ℕ → Option Record) (n : told.Node) (t : Tree) (s : Step) (p : Path) → IsNoDirectory n → IsOpen n → NodeIs records n t → is_empty (subtree t (s ∷ p)) ≡ true
below_no_directory records (told.stored x) t s p other opened (contents_in bytes is height child) = below_contents bytes s p
below_no_directory records (told.stored x) t s p other opened (directory_in sub some spells) = absurd (let kind = spells.kind in omega (arith, opened, kind))
below_no_directory records (told.contents bytes) t s p other opened is = ap (λ (x : Tree). is_empty (subtree x (s ∷ p))) is ∙ below_contents bytes s p
below_no_directory records (told.directory root ns) t s p other opened is = absurd other

module _ (records : ℕ → Option Record) where
  pub front_here : (n : told.Node) (t : Tree) → NodeIs records n t → FindsFrontAt records [] n n t (Ok (Steps 1))
  front_here n t is = (
    record {
      stands = ap is_empty (subtree_root t) ∙ some_node records n t is;
      count = sym (ap (λ b. cond b 1 1) (ap is_empty (remove_root t) ∙ no_tree_empty));
    },
    record { means = is; known = λ part. refl },
  )

  pub front_at_contents : (old : told.Node) (node : Node) (t : Tree) (s : Step) (p : Path) → ((d : Dir Node Stored) → node ≡ variant.Directory d → ⊥) → IsUnfolded records old (shown node) t → FindsFrontAt records (s ∷ p) old (shown node) t (Ok Nothing)
  front_at_contents old node t s p other unfolded = (below_no_directory records (shown node) t s p (no_directory node other) unfolded.unfolded unfolded.same.means, unfolded.same)

  -- it is a directory
  pub directory_at : (old : told.Node) (node : Node) (d : Dir Node Stored) (t : Tree) → node ≡ variant.Directory d → IsSame (NodeIs records) records old (shown node) t → IsSame (NodeIs records) records old (shown_directory d) t
  directory_at old node d t is same = subst (λ (n : told.Node). IsSame (NodeIs records) records old n t) (ap shown is ∙ directory_shown d) same

  module _ (old : told.Node) (d e : Dir Node Stored) (t : Tree) (same : IsSame (NodeIs records) records old (shown_directory d) t) where
    -- an edit of the directory that changes nothing
    through : IsSame (IsDirectory records) records (shown_directory d) (shown_directory e) t → IsSame (NodeIs records) records old (shown (variant.Directory e)) t
    through kept =
        subst (λ (n : told.Node). IsSame (NodeIs records) records old n t) (sym (directory_shown e))
        (same_on (NodeIs records) records old (shown_directory d) (shown_directory e) t same (same_node records (shown_directory d) (shown_directory e) t same.means.0.some kept))

    pub kept_through : (fault : TreeFault) → IsKept (IsDirectory records) records (shown_directory d) (shown_directory e) t fault → IsKept (NodeIs records) records old (shown (variant.Directory e)) t fault
    kept_through fault kept = record { same = through kept.same; cause = kept.cause }

    -- counted from above
    front_through : (s : Step) (p : Path) (entries : ℕ) (front result : Front) → ((steps : List Step) → IsPart deepest 0 steps (root_of e) → entries ≡ length steps) → (front ≡ Nothing → result ≡ Nothing)
        → ((k : ℕ) → front ≡ Steps k → result ≡ Steps (cond (k == 1 && entries == 1) 1 (suc k))) → FindsFront records (s ∷ p) (shown_directory d) (shown_directory e) t (Ok front)
        → FindsFrontAt records (s ∷ p) old (shown (variant.Directory e)) t (Ok result)
    front_through s p entries Nothing result count nothing steps found =
        subst (λ (r : Front). FindsFrontAt records (s ∷ p) old (shown (variant.Directory e)) t (Ok r)) (sym (nothing refl)) (found.0, through found.1)
    front_through s p entries (Steps k) result count nothing steps found =
        let all : entries ≡ length (entries_of t).entries = count (steps_of (entries_of t).entries) found.1.means.steps.shape ∙ as_long (entries_of t).entries in
        subst (λ (r : Front). FindsFrontAt records (s ∷ p) old (shown (variant.Directory e)) t (Ok r)) (sym (steps k refl)) (
          record {
            stands = found.0.stands;
            count = ap (λ (j : ℕ). cond (k == 1 && j == 1) 1 (suc k)) all ∙ ap (λ (j : ℕ). cond (j == 1 && length (entries_of t).entries == 1) 1 (suc j)) found.0.count
                ∙ sym (ap (λ b. cond b 1 (suc (taken_front t (s ∷ p)))) (gone_is t s p same.means.0.directory found.0.stands));
          },
          through found.1,
        )

    -- with the node into which the directory was written, and the path not split
    pub front_written : (q : Path) (s : Step) (p : Path) (entries : ℕ) (front result : Front) (m : Node) → q ≡ s ∷ p → m ≡ variant.Directory e → ((steps : List Step) → IsPart deepest 0 steps (root_of e) → entries ≡ length steps)
        → (front ≡ Nothing → result ≡ Nothing) → ((k : ℕ) → front ≡ Steps k → result ≡ Steps (cond (k == 1 && entries == 1) 1 (suc k))) → FindsFront records q (shown_directory d) (shown_directory e) t (Ok front)
        → FindsFrontAt records q old (shown m) t (Ok result)
    front_written q s p entries front result m split written count nothing steps found =
        subst (λ (n : Node). FindsFrontAt records q old (shown n) t (Ok result)) (sym written)
        (subst (λ (x : Path). FindsFrontAt records x old (shown (variant.Directory e)) t (Ok result)) (sym split)
        (front_through s p entries front result count nothing steps (subst (λ (x : Path). FindsFront records x (shown_directory d) (shown_directory e) t (Ok front)) split found)))

pub front_within_above : (front result : Front) (long entries n : ℕ) → (front ≡ Nothing → result ≡ Nothing) → ((k : ℕ) → front ≡ Steps k → result ≡ Steps (cond (k == 1 && entries == 1) 1 (suc k)))
    → ((k : ℕ) → front ≡ Steps k → (0 < k) × (k ≤ long)) → result ≡ Steps n → (0 < n) × (n ≤ suc long)
front_within_above Nothing result long entries n nothing steps within is = absurd (apart n (sym (nothing refl) ∙ is))
  where
    apart : (n : ℕ) → Nothing ≡ Steps n → ⊥
    apart n e = cc
front_within_above (Steps k) result long entries n nothing steps within is = by (k == 1 && entries == 1) (same _ _ (sym (steps k refl) ∙ is))
  where
    same : (i j : ℕ) → Steps i ≡ Steps j → i ≡ j
    same i j e = cc

    by : (b : Bool) → cond b 1 (suc k) ≡ n → (0 < n) × (n ≤ suc long)
    by true e = (omega (arith, e), omega (arith, e))
    by false e = let w = (within k refl).1 in (omega (arith, e), omega (arith, e, w))

-- ---- taking the entry out

pub only_step : (p : Path) (s : Step) → length p ≡ 1 → s ≡ get_or p 0 s → p ≡ s ∷ []
only_step [] s one is = absurd (omega (arith, one))
only_step (q ∷ []) s one is = ap (λ (k : Step). k ∷ []) (sym is)
only_step (q ∷ r ∷ p) s one is = absurd (omega (arith, one))

module _ (records : ℕ → Option Record) where
  -- what was known before the parts were read
  pub taken_from : (old mid new : told.Node) (t : Tree) (path : Path) → IsSame (IsDirectory records) records old mid t → IsTaken records path mid new t → IsTaken records path old new t
  taken_from old mid new t path same taken = record {
    means = taken.means;
    known = λ part. taken.known part ∙ ap (λ k. if is_part (remove t path) part && not (touches part path) then k else None) (same.known part);
  }

  module _ (old : told.Node) (d e : Dir Node Stored) (t : Tree) (s : Step) (opened : IsOpened records s old (shown_directory d) t) where
    pub takes_out : IsNeeded s (steps_of (entries_of t).entries) (root_of d) None → is_empty (subtree t (s ∷ [])) ≡ false → (removed : Option Node)
        → (removed ≡ find bytes_cmp s (entries_in d)) × IsPartly e (take_out s (steps_of (entries_of t).entries)) (without s (entries_in d)) × shape.IsTaken removed s (steps_of (entries_of t).entries) (root_of d) (root_of e)
        → IsTaken records (s ∷ []) old (shown_directory e) t
    takes_out needed stands removed out = by removed (ap is_some out.0 ∙ held_at records d t s opened.same.means stands opened.way) out.2
      where
        by : (removed : Option Node) → is_some removed ≡ true → shape.IsTaken removed s (steps_of (entries_of t).entries) (root_of d) (root_of e) → IsTaken records (s ∷ []) old (shown_directory e) t
        by None some taken = absurd (false≢true some)
        by (Some n) some taken =
            taken_from old (shown_directory d) (shown_directory e) t (s ∷ []) opened.same
            (taken_out records d e t s opened.same.means (has_of s (entries_of t).entries ∙ ap is_some (stands_in records d t s opened.same.means stands)) opened.way needed.1 out.1 taken)

    pub takes_refused : IsPartly e (steps_of (entries_of t).entries) (entries_in d) × IsUnchanged (root_of d) (root_of e) → IsSame (IsDirectory records) records old (shown_directory e) t
    takes_refused kept = same_on (IsDirectory records) records old (shown_directory d) (shown_directory e) t opened.same (unchanged_same records d e t opened.same.means kept.0 kept.1)

  module _ (d : Dir Node Stored) (t : Tree) (s : Step) (path : Path) (n : Node) (c : IsChild records d t s n) (more : length (s ∷ path) ≡ 1 → ⊥) (count : length (s ∷ path) ≡ taken_front t (s ∷ path)) where
    rest : (is_empty (remove c.sub path) ≡ false) × (length path ≡ taken_front c.sub path)
    rest = subst (λ (x : Tree). (is_empty (remove x path) ≡ false) × (length path ≡ taken_front x path)) (sym (entry_found t s c.sub c.here).is) (by (is_empty (remove (subtree t (s ∷ [])) path)) refl count)
      where
        by : (b : Bool) → is_empty (remove (subtree t (s ∷ [])) path) ≡ b → length (s ∷ path) ≡ cond b 1 (suc (taken_front (subtree t (s ∷ [])) path))
            → (is_empty (remove (subtree t (s ∷ [])) path) ≡ false) × (length path ≡ taken_front (subtree t (s ∷ [])) path)
        by true e long = absurd (more long)
        by false e long = (e, omega (arith, long))

    pub rest_count : length path ≡ taken_front c.sub path
    rest_count = rest.1

    pub rest_stands : is_empty (subtree t (s ∷ path)) ≡ false → is_empty (subtree c.sub path) ≡ false
    rest_stands stands = sym (below_entry t s path c.sub c.here) ∙ stands

    pub takes_under : (e : Dir Node Stored) (m : Node) → IsDirectory records (shown_directory d) t → (result : Result (Unit {0}) TreeFault) → IsBack d e (steps_of (entries_of t).entries) s m (is_ok result)
        → TakesAt records path (shown n) (shown m) c.sub result → Takes records (s ∷ path) (shown_directory d) (shown_directory e) t result
    takes_under e m is (Ok done) back taken = taken_under records d e t s n m is c path back rest.0 taken
    takes_under e m is (Err fault) back kept = record { same = same_under records d e t s n m is c back kept.same; cause = kept.cause }

  -- a node that is a directory
  pub takes_through : (d e : Dir Node Stored) (t : Tree) (path : Path) → is_empty t ≡ false → (result : Result (Unit {0}) TreeFault) → Takes records path (shown_directory d) (shown_directory e) t result
      → TakesAt records path (shown (variant.Directory d)) (shown (variant.Directory e)) t result
  takes_through d e t path some result taken =
      subst (λ (n : told.Node). TakesAt records path n (shown (variant.Directory e)) t result) (sym (directory_shown d))
      (subst (λ (n : told.Node). TakesAt records path (shown_directory d) n t result) (sym (directory_shown e)) (by result taken))
    where
      by : (result : Result (Unit {0}) TreeFault) → Takes records path (shown_directory d) (shown_directory e) t result → TakesAt records path (shown_directory d) (shown_directory e) t result
      by (Ok done) taken = taken
      by (Err fault) kept = record { same = same_node records (shown_directory d) (shown_directory e) t some kept.same; cause = kept.cause }

-- ---- both passes

module _ (records : ℕ → Option Record) (old mid : told.Node) (t : Tree) (path : Path) (n : ℕ) (front : IsFront path n t) (same : IsSame (IsDirectory records) records old mid t) where
  pub first_stands : is_empty (subtree t (take n path)) ≡ false
  first_stands = front_stands t (take n path) (drop n path) (ap (λ (p : Path). is_empty (subtree t p)) (take-append-drop n path) ∙ front.stands)

  pub first_count : length (take n path) ≡ taken_front t (take n path)
  first_count = ap (λ (k : ℕ). length (take k path)) front.count ∙ front_long t path ∙ sym (front_count t path) ∙ sym (ap (λ (k : ℕ). taken_front t (take k path)) front.count)

  pub removes_first : (new : told.Node) → IsTaken records (take n path) mid new t → RemovesFrom records path old new t (Ok true)
  removes_first new taken = (
    front.stands,
    taken_from records old mid new t path same (taken_whole records path mid new t (subst (λ (k : ℕ). IsTaken records (take k path) mid new t) front.count taken)),
  )
