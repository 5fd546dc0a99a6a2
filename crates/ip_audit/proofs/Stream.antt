-- The test of each record passes exactly where it fits, and what is remembered stays true.
use Rattle.std.proofs.Common.{◌≡◌, ◌≢◌, ◌⊎◌, inl, inr, ℕ, zero, suc, ◌-◌, ◌<◌, ◌≤◌, ◌+◌, List, [], ◌∷◌, ◌++◌, refl, sym, ap, subst, ◌∙◌, Option, Some, None, Bool, true, false, cond, length, arith, slice_index_or, take}
use Rattle.std.specs.Prelude.{All, IfSome, slice_get, map}
use Rattle.std.specs.List.{AllByRecursion, cons_option}
use Rattle.sha2.specs.Sha256.{sha256}
use Rattle.std.proofs.lemmas.List.{length-map, map-append}
use Rattle.std.specs.Ordering.{is_eq, nat_cmp}
use Rattle.std.specs.FinMap.{find}
use Rattle.ip_spec.specs.declared.record.Record.{Record}
use Rattle.ip_spec.specs.declared.record.CommitRecord.{CommitRecord}
use Rattle.ip_spec.specs.declared.record.InodeChild.{InodeChild}
use Rattle.ip_spec.specs.Record.{Hash, Fits, IsInodeChild}
use Rattle.ip_spec.specs.Tree.{Tree}
use Rattle.ip_spec.specs.Shape.{Entries, root_name}
use Rattle.ip_spec.specs.TreeAt.{Records, present, PartAt, TreeAt, ChildrenAt, child_first, leaf_at, inode_at}
use Rattle.ip_spec.proofs.TreeAtLaws.{more_part}
use Rattle.ip_image.specs.declared.terms.Terms.{Terms}
use Rattle.ip_image.specs.Standing.{IsSomePart, CommitFits, RecordFits, commits_in, commit_of}
use Rattle.ip_audit.proofs.Basics.{or_else, leaf_or_inode, same_inode}
use Rattle.ip_audit.specs.Memory.{IsTrueMemory}
use Rattle.ip_audit.specs.Memory.{Kept, kept_contents, kept_part, Part, Look, kept_of, kept_by, Memory, commit_name, RootIs, CommitPasses, Passes, names_in, IsMore, IsBeyond, InodePasses, inode_part, common_at}
use Rattle.ip_audit.proofs.Parts.{RemembersBelow, part_true}
use Rattle.ip_audit.proofs.Common.{some_is, none_some}
use Rattle.ip_spec.proofs.Naming.{root_name-entries}
use Rattle.ip_audit.proofs.Leaves.{Good, leaf_passes, leaf_fits, tree_there}
use Rattle.ip_audit.proofs.Inodes.{inode_passes}
use Rattle.ip_audit.proofs.InodeFits.{inode_fits}

abbrev Keeps : (ℕ → Option Record) → (ℕ → Option Record) → Type 0
Keeps records more = (at : ℕ) (r : Record) → records at ≡ Some r → more at ≡ Some r

-- ---- one more

is_same : (a : ℕ) → is_eq (nat_cmp a a) ≡ true
is_same a = grind arith

not_same : (a b : ℕ) → a ≢ b → is_eq (nat_cmp a b) ≡ false
not_same a b h = grind arith

find_more : {X : Type 0} (a at : ℕ) (x : X) (xs : List (ℕ × X)) → find nat_cmp a (xs ++ (at, x) ∷ []) ≡ or_else (find nat_cmp a xs) (cond (is_eq (nat_cmp a at)) (Some x) None)
unfolding or_else
find_more a at x [] = refl
find_more a at x (y ∷ ys) = by (is_eq (nat_cmp a y.0)) (find_more a at x ys)
  where
    by : (b : Bool) → find nat_cmp a (ys ++ (at, x) ∷ []) ≡ or_else (find nat_cmp a ys) (cond (is_eq (nat_cmp a at)) (Some x) None)
        → cond b (Some y.1) (find nat_cmp a (ys ++ (at, x) ∷ [])) ≡ or_else (cond b (Some y.1) (find nat_cmp a ys)) (cond (is_eq (nat_cmp a at)) (Some x) None)
    by true ih = refl
    by false ih = ih

or_none : {X : Type 0} (o : Option X) → or_else o None ≡ o
unfolding or_else
or_none None = refl
or_none (Some y) = refl

pub find_other : {X : Type 0} (a at : ℕ) (x : X) (xs : List (ℕ × X)) → a ≢ at → find nat_cmp a (xs ++ (at, x) ∷ []) ≡ find nat_cmp a xs
unfolding or_else
find_other a at x xs h = find_more a at x xs ∙ ap (λ b. or_else (find nat_cmp a xs) (cond b (Some x) None)) (not_same a at h) ∙ or_none (find nat_cmp a xs)

pub find_this : {X : Type 0} (at : ℕ) (x : X) (xs : List (ℕ × X)) → find nat_cmp at xs ≡ None → find nat_cmp at (xs ++ (at, x) ∷ []) ≡ Some x
unfolding or_else
find_this at x xs h = find_more at at x xs ∙ ap (λ o. or_else o (cond (is_eq (nat_cmp at at)) (Some x) None)) h ∙ ap (λ b. cond b (Some x) None) (is_same at)

pub find_kept : {X : Type 0} (a at : ℕ) (x y : X) (xs : List (ℕ × X)) → find nat_cmp a xs ≡ Some y → find nat_cmp a (xs ++ (at, x) ∷ []) ≡ Some y
unfolding or_else
find_kept a at x y xs h = find_more a at x xs ∙ ap (λ o. or_else o (cond (is_eq (nat_cmp a at)) (Some x) None)) h

none_beyond : (at : ℕ) (rs : Records) → IsBeyond at rs → present rs at ≡ None
none_beyond at [] h = refl
none_beyond at (x ∷ rs) h = ap (λ b. cond b (Some x.1) (present rs at)) (not_same at x.0 (λ e. let l = h.0 in omega (arith, l, e))) ∙ none_beyond at rs h.1

below_beyond : (at a : ℕ) (r : Record) (rs : Records) → IsBeyond at rs → present rs a ≡ Some r → a < at
below_beyond at a r [] h e = none_some r e
below_beyond at a r (x ∷ rs) h e = by (is_eq (nat_cmp a x.0)) refl e (below_beyond at a r rs h.1)
  where
    equal : is_eq (nat_cmp a x.0) ≡ true → a ≡ x.0
    equal t = grind arith

    by : (b : Bool) → is_eq (nat_cmp a x.0) ≡ b → cond b (Some x.1) (present rs a) ≡ Some r → (present rs a ≡ Some r → a < at) → a < at
    by true t e ih = let k = equal t in let l = h.0 in omega (arith, k, l)
    by false t e ih = ih e

equal_or_not : (a b : ℕ) → (a ≡ b) ⊎ (a ≢ b)
equal_or_not a b = grind arith

-- ---- lists of names

pub all_map : {A B : Type 0} (P : B → Type 0) (f : A → B) (xs : List A) → All (λ x. P (f x)) xs → (k : ℕ) (d : B) → k < length (map f xs) → P (slice_index_or (map f xs) k d)
all_map P f [] h k d l = absurd (omega (arith, l))
all_map P f (x ∷ xs) h zero d l = h 0 x (omega arith)
all_map P f (x ∷ xs) h (suc k) d l = all_map P f xs (λ j e m. h (suc j) e (omega (arith, m))) k d (omega (arith, l))

pub map_all : {A B : Type 0} (P : B → Type 0) (f : A → B) (xs : List A) → All P (map f xs) → (k : ℕ) (d : A) → k < length xs → P (f (slice_index_or xs k d))
map_all P f [] h k d l = absurd (omega (arith, l))
map_all P f (x ∷ xs) h zero d l = h 0 (f x) (omega arith)
map_all P f (x ∷ xs) h (suc k) d l = map_all P f xs (λ j e m. h (suc j) e (omega (arith, m))) k d (omega (arith, l))

each_bound : (cs : List InodeChild) → All IsInodeChild cs → AllByRecursion (λ c. (c.index < 32) × (0 < c.count)) cs
each_bound [] h = tt
each_bound (c ∷ cs) h = let x = h 0 c (omega arith) in ((x.index, x.some), each_bound cs (λ j d l. h (suc j) d (omega (arith, l))))

named_by : (cs : List CommitRecord) (k : ℕ) (name : Hash) → IfSome (slice_get (map commit_name cs) k) (λ n. n ≡ name) → IfSome (slice_get cs k) (λ d. ◌≡◌ {A = Option Hash} (Some (commit_name d)) (Some name))
named_by [] k name h = tt
named_by (c ∷ cs) zero name h = ap (λ n. Some n) h
named_by (c ∷ cs) (suc k) name h = named_by cs k name h

by_named : (cs : List CommitRecord) (k : ℕ) (name : Hash) → IfSome (slice_get cs k) (λ d. ◌≡◌ {A = Option Hash} (Some (commit_name d)) (Some name)) → IfSome (slice_get (map commit_name cs) k) (λ n. n ≡ name)
by_named [] k name h = tt
by_named (c ∷ cs) zero name h = some_is (commit_name c) name h
by_named (c ∷ cs) (suc k) name h = by_named cs k name h

-- ---- one more commit

module _ (terms : Terms) (memory : Memory) (rs : Records) (audited : IsTrueMemory memory rs) (at : ℕ) (c : CommitRecord) where
  rem_below : RemembersBelow memory.kept (present rs) at
  rem_below a l = audited.remembers a

  good_below : Good memory.kept (present rs) at
  good_below a p l is = audited.good a p is

  count : length memory.names ≡ length (commits_in rs)
  count = ap length audited.names ∙ length-map (commits_in rs) commit_name

  commit_fits : CommitPasses terms memory at c → CommitFits terms rs at c
  commit_fits passes = record {
    number = passes.number ∙ ap (λ n. terms.floor + n) count;
    root = root (memory.kept c.root_at) refl passes.root;
    root_below = passes.root_below;
    earlier = passes.earlier;
    distinct = passes.distinct;
    parents = λ k d l low known. named_by (commits_in rs) ((slice_index_or c.parents k d).number - terms.floor) (slice_index_or c.parents k d).name (subst (λ names. IfSome (slice_get names ((slice_index_or c.parents k d).number - terms.floor)) (λ n. n ≡ (slice_index_or c.parents k d).name)) audited.names (passes.parents k d l low known));
    new_name = λ k d l e. map_all (λ n. n ≢ commit_name c) commit_name (commits_in rs) (subst (λ names. All (λ n. n ≢ commit_name c) names) audited.names passes.new_name) k d l (some_is (commit_name (slice_index_or (commits_in rs) k d)) (commit_name c) e);
  }
    where
      root : (o : Option Kept) → memory.kept c.root_at ≡ o → RootIs o c.root_name → (tree : Tree) × TreeAt (present rs) c.root_at tree × (c.root_name ≡ root_name tree)
      root None e h = absurd h
      root (Some (kept_contents name)) e h = absurd h
      root (Some (kept_part p)) e h =
          let t = tree_there memory.kept (present rs) at rem_below good_below c.root_at p passes.root_below e h.0 in
          (t.0, (t.1, t.2), h.1 ∙ t.3.name ∙ sym (root_name-entries t.0))

  commit_passes : CommitFits terms rs at c → CommitPasses terms memory at c
  commit_passes fits = record {
    number = fits.number ∙ ap (λ n. terms.floor + n) (sym count);
    root_below = fits.root_below;
    root = root fits.root.0 fits.root.1 fits.root.2;
    earlier = fits.earlier;
    distinct = fits.distinct;
    parents = λ k d l low known. subst (λ names. IfSome (slice_get names ((slice_index_or c.parents k d).number - terms.floor)) (λ n. n ≡ (slice_index_or c.parents k d).name)) (sym audited.names) (by_named (commits_in rs) ((slice_index_or c.parents k d).number - terms.floor) (slice_index_or c.parents k d).name (fits.parents k d l low known));
    new_name = subst (λ names. All (λ n. n ≢ commit_name c) names) (sym audited.names) (all_map (λ n. n ≢ commit_name c) commit_name (commits_in rs) (λ k d l e. fits.new_name k d l (ap (λ n. Some n) e)));
  }
    where
      root : (tree : Tree) → TreeAt (present rs) c.root_at tree → c.root_name ≡ root_name tree → RootIs (memory.kept c.root_at) c.root_name
      root tree stands name =
          let p = part_true (present rs) memory.kept at rem_below fits.root_below stands.1 in
          subst (λ o. RootIs o c.root_name) (sym p.1) (p.2.depths, name ∙ root_name-entries tree ∙ sym p.2.name)

-- ---- what the test of a record says

-- the first child of an inode lies below it
abbrev FirstBelow : ℕ → Record → Type 0
FirstBelow at (Record.Inode depth (c ∷ cs)) = c.at < at
FirstBelow at r = Unit {0}

first_below : (records : ℕ → Option Record) (at depth d : ℕ) (es : Entries) (cs : List InodeChild) → PartAt records depth at es → records at ≡ Some (Record.Inode d cs) → FirstBelow at (Record.Inode d cs)
first_below records at depth d es cs (leaf_at fields is leaf each) here = leaf_or_inode (records at) fields d cs is here
first_below records at depth d es cs (inode_at children is inode each) here = subst (λ ds. FirstBelow at (Record.Inode d ds)) (same_inode (records at) depth d children cs is here) (by d children each)
  where
    by : (d : ℕ) (ds : List InodeChild) {xs : List (ℕ × Entries)} → ChildrenAt records depth at ds xs → FirstBelow at (Record.Inode d ds)
    by d [] each = tt
    by d (c ∷ cs) (child_first below part entries_count height name rest) = below

-- what is remembered of a record stands when more is remembered
same_kept : (one two : Look) (top at : ℕ) (r : Record) → ((b : ℕ) → b ≢ top → two b ≡ one b) → FirstBelow at r → at ≤ top → kept_of one r ≡ kept_of two r
same_kept one two top at (Record.Contents bytes) same first l = refl
same_kept one two top at (Record.Leaf fields) same first l = refl
same_kept one two top at (Record.Inode depth []) same first l = refl
same_kept one two top at (Record.Inode depth (c ∷ cs)) same first l =
    ap (λ o. Some (kept_part (record { depth = Some depth; count = (inode_part one depth (c ∷ cs)).count; height = (inode_part one depth (c ∷ cs)).height; name = (inode_part one depth (c ∷ cs)).name; common = take depth (common_at o) }))) (sym (same c.at (λ e. omega (arith, e, first, l))))
same_kept one two top at (Record.Commit c) same first l = refl
same_kept one two top at (Record.BranchSet k t) same first l = refl
same_kept one two top at (Record.TagSet k t) same first l = refl
same_kept one two top at (Record.BranchRemove t) same first l = refl
same_kept one two top at (Record.TagRemove t) same first l = refl
same_kept one two top at (Record.BranchTable rows) same first l = refl
same_kept one two top at (Record.TagTable rows) same first l = refl

commits_more : (rs : Records) (x : ℕ × Record) → commits_in (rs ++ x ∷ []) ≡ commits_in rs ++ commits_in (x ∷ [])
commits_more [] x = refl
commits_more (y ∷ rs) x = by (commit_of y) (commits_more rs x)
  where
    by : (o : Option CommitRecord) → commits_in (rs ++ x ∷ []) ≡ commits_in rs ++ commits_in (x ∷ []) → cons_option o (commits_in (rs ++ x ∷ [])) ≡ cons_option o (commits_in rs) ++ commits_in (x ∷ [])
    by None ih = ih
    by (Some c) ih = ap (λ cs. c ∷ cs) ih

names_more : (at : ℕ) (r : Record) → names_in r ≡ map commit_name (commits_in ((at, r) ∷ []))
names_more at (Record.Contents bytes) = refl
names_more at (Record.Leaf fields) = refl
names_more at (Record.Inode depth cs) = refl
names_more at (Record.Commit c) = refl
names_more at (Record.BranchSet k t) = refl
names_more at (Record.TagSet k t) = refl
names_more at (Record.BranchRemove t) = refl
names_more at (Record.TagRemove t) = refl
names_more at (Record.BranchTable rows) = refl
names_more at (Record.TagTable rows) = refl

contents_or_part : {X : Type 0} (name : Hash) (p : Part) → ◌≡◌ {A = Option Kept} (Some (kept_contents name)) (Some (kept_part p)) → X
contents_or_part name p e = cc

abbrev pub with : Records → ℕ → Record → Records
with rs at r = rs ++ (at, r) ∷ []

module _ (terms : Terms) (memory : Memory) (rs : Records) (audited : IsTrueMemory memory rs) (at : ℕ) (beyond : IsBeyond at rs) where
  here : (r : Record) → present (with rs at r) at ≡ Some r
  here r = find_this at r rs (none_beyond at rs beyond)

  keeps : (r : Record) → Keeps (present rs) (present (with rs at r))
  keeps r a x e = find_kept a at r x rs e

  rem : (r : Record) → RemembersBelow memory.kept (present (with rs at r)) at
  rem r a l = audited.remembers a ∙ ap (kept_by memory.kept) (sym (find_other a at r rs (λ e. omega (arith, e, l))))

  still : (r : Record) (a : ℕ) → IsSomePart (present rs) a → IsSomePart (present (with rs at r)) a
  still r a (depth, es, part, t, small) = (depth, es, more_part (present rs) (present (with rs at r)) (keeps r) part, t, small)

  good : (r : Record) → Good memory.kept (present (with rs at r)) at
  good r a p l is = still r a (audited.good a p is)

  -- the test passes exactly where the record fits
  pub passes_fits : (version : ℕ) (r : Record) → Fits version r → Passes terms memory at r → RecordFits terms rs at r
  passes_fits version (Record.Contents bytes) fits passes = tt
  passes_fits version (Record.Leaf fields) fits passes = leaf_fits memory.kept (present (with rs at (Record.Leaf fields))) at (rem (Record.Leaf fields)) (good (Record.Leaf fields)) fields fits.fields.rising (here (Record.Leaf fields)) passes
  passes_fits version (Record.Inode depth cs) fits passes = inode_fits memory.kept (present (with rs at (Record.Inode depth cs))) at (rem (Record.Inode depth cs)) (good (Record.Inode depth cs)) depth cs fits.fields.shallow (each_bound cs fits.fields.each) fits.fields.rising (here (Record.Inode depth cs)) passes
  passes_fits version (Record.Commit c) fits passes = commit_fits terms memory rs audited at c passes
  passes_fits version (Record.BranchSet k t) fits passes = tt
  passes_fits version (Record.TagSet k t) fits passes = tt
  passes_fits version (Record.BranchRemove t) fits passes = tt
  passes_fits version (Record.TagRemove t) fits passes = tt
  passes_fits version (Record.BranchTable rows) fits passes = tt
  passes_fits version (Record.TagTable rows) fits passes = tt

  pub fits_passes : (r : Record) → RecordFits terms rs at r → Passes terms memory at r
  fits_passes (Record.Contents bytes) fits = tt
  fits_passes (Record.Leaf fields) (depth, es, part, t, small) = leaf_passes memory.kept (present (with rs at (Record.Leaf fields))) at (rem (Record.Leaf fields)) depth es.entries fields part t small (here (Record.Leaf fields))
  fits_passes (Record.Inode d cs) (depth, es, part, t, small) =
      let g = inode_passes memory.kept (present (with rs at (Record.Inode d cs))) at (rem (Record.Inode d cs)) depth es.entries d cs part t small (here (Record.Inode d cs)) in
      subst (λ k. InodePasses memory.kept at k cs) (sym g.0) g.1
  fits_passes (Record.Commit c) fits = commit_passes terms memory rs audited at c fits
  fits_passes (Record.BranchSet k t) fits = tt
  fits_passes (Record.TagSet k t) fits = tt
  fits_passes (Record.BranchRemove t) fits = tt
  fits_passes (Record.TagRemove t) fits = tt
  fits_passes (Record.BranchTable rows) fits = tt
  fits_passes (Record.TagTable rows) fits = tt

  -- ---- what is remembered after it

  first_of : (r : Record) → RecordFits terms rs at r → FirstBelow at r
  first_of (Record.Contents bytes) fits = tt
  first_of (Record.Leaf fields) fits = tt
  first_of (Record.Inode d cs) (depth, es, part, t, small) = first_below (present (with rs at (Record.Inode d cs))) at depth d es.entries cs part (here (Record.Inode d cs))
  first_of (Record.Commit c) fits = tt
  first_of (Record.BranchSet k t) fits = tt
  first_of (Record.TagSet k t) fits = tt
  first_of (Record.BranchRemove t) fits = tt
  first_of (Record.TagRemove t) fits = tt
  first_of (Record.BranchTable rows) fits = tt
  first_of (Record.TagTable rows) fits = tt

  first_there : (a : ℕ) (r : Record) → present rs a ≡ Some r → FirstBelow a r
  first_there a (Record.Contents bytes) e = tt
  first_there a (Record.Leaf fields) e = tt
  first_there a (Record.Inode d cs) e = let g = audited.good a (inode_part memory.kept d cs) (audited.remembers a ∙ ap (kept_by memory.kept) e) in first_below (present rs) a g.0 d g.1.entries cs g.2 e
  first_there a (Record.Commit c) e = tt
  first_there a (Record.BranchSet k t) e = tt
  first_there a (Record.TagSet k t) e = tt
  first_there a (Record.BranchRemove t) e = tt
  first_there a (Record.TagRemove t) e = tt
  first_there a (Record.BranchTable rows) e = tt
  first_there a (Record.TagTable rows) e = tt

  this_good : (r : Record) (p : Part) → RecordFits terms rs at r → kept_of memory.kept r ≡ Some (kept_part p) → IsSomePart (present (with rs at r)) at
  this_good (Record.Contents bytes) p fits e = contents_or_part (sha256 bytes) p e
  this_good (Record.Leaf fields) p fits e = fits
  this_good (Record.Inode depth cs) p fits e = fits
  this_good (Record.Commit c) p fits e = none_some (kept_part p) e
  this_good (Record.BranchSet k t) p fits e = none_some (kept_part p) e
  this_good (Record.TagSet k t) p fits e = none_some (kept_part p) e
  this_good (Record.BranchRemove t) p fits e = none_some (kept_part p) e
  this_good (Record.TagRemove t) p fits e = none_some (kept_part p) e
  this_good (Record.BranchTable rows) p fits e = none_some (kept_part p) e
  this_good (Record.TagTable rows) p fits e = none_some (kept_part p) e

  -- nothing is remembered there before
  pub fresh : memory.kept at ≡ None
  fresh = audited.remembers at ∙ ap (kept_by memory.kept) (none_beyond at rs beyond)

  pub audited_more : (r : Record) → RecordFits terms rs at r → (after : Memory) → IsMore memory at r after → IsTrueMemory after (with rs at r)
  audited_more r fits after more = record {
    remembers = λ a. remembers a (equal_or_not a at);
    good = λ a p e. still_good a p e (equal_or_not a at);
    names = more.names ∙ ap (λ names. names ++ names_in r) audited.names ∙ ap (λ ns. map commit_name (commits_in rs) ++ ns) (names_more at r) ∙ sym (map-append commit_name (commits_in rs) (commits_in ((at, r) ∷ []))) ∙ ap (map commit_name) (sym (commits_more rs (at, r)));
  }
    where
      other : (b : ℕ) → b ≢ at → after.kept b ≡ memory.kept b
      other b h = more.others b h

      this : after.kept at ≡ kept_of memory.kept r
      this = more.this

      older : (a : ℕ) (o : Option Record) → present rs a ≡ o → kept_by memory.kept o ≡ kept_by after.kept o
      older a None e = refl
      older a (Some x) e = same_kept memory.kept after.kept at a x other (first_there a x e) (let l = below_beyond at a x rs beyond e in omega (arith, l))

      remembers : (a : ℕ) → (a ≡ at) ⊎ (a ≢ at) → after.kept a ≡ kept_by after.kept (present (with rs at r) a)
      remembers a (inl e) = subst (λ b. after.kept b ≡ kept_by after.kept (present (with rs at r) b)) (sym e)
          (this ∙ same_kept memory.kept after.kept at at r other (first_of r fits) (omega arith) ∙ sym (ap (kept_by after.kept) (here r)))
      remembers a (inr h) = other a h ∙ audited.remembers a ∙ older a (present rs a) refl ∙ sym (ap (kept_by after.kept) (find_other a at r rs h))

      still_good : (a : ℕ) (p : Part) → after.kept a ≡ Some (kept_part p) → (a ≡ at) ⊎ (a ≢ at) → IsSomePart (present (with rs at r)) a
      still_good a p is (inl e) = subst (IsSomePart (present (with rs at r))) (sym e) (this_good r p fits (sym this ∙ ap after.kept (sym e) ∙ is))
      still_good a p is (inr h) = still r a (audited.good a p (sym (other a h) ∙ is))
