-- The tree of a work's first parent, as its commit's record refers to it.
--     IsKept records n w      a view of the tree of commit n that records spell and that a commit's record reaches
--     first_kept      so is the first parent's.      first_stored      it is the machine's tree.      first_held      its contents are records.      first_staying      and stay so, where no parent goes
--     first_left      and the one of a tree that was read by that root
--     first_root_is, first_by      where its root lies, by the commit's record.      first_unread      it was not read
use Rattle.std.proofs.Common.{◌≡◌, ℕ, ◌-◌, ◌≤◌, List, [], ◌∷◌, Option, Some, None, refl, sym, ◌∙◌, ap, subst, arith}
use Rattle.std.specs.Prelude.{Err, All, IfSome, IsSomeAnd, IsTrue, option_and_then, option_map, slice_get, unwrap_or}
use Rattle.std.proofs.lemmas.List.Elements.{All-head}
use Rattle.ip_ground.specs.Told.{Told}
use Rattle.ip_spec.specs.Batch.{HoldsContents, KnownStand}
use Rattle.ip_spec.specs.Core.{IsKeptSet, core_records}
use Rattle.ip_spec.specs.Repository.{Repository, Commit, is_retained, tree_at}
use Rattle.ip_spec.specs.Shape.{root_name}
use Rattle.ip_spec.specs.Tree.{no_tree}
use Rattle.ip_spec.specs.StoredParts.{stored_part}
use Rattle.ip_spec.specs.TreeAt.{Records, TreeAt, present}
use Rattle.ip_spec.specs.View.{View}
use Rattle.ip_spec.specs.declared.record.CommitRecord.{CommitRecord}
use Rattle.ip_spec.specs.declared.record.Record.{Record}
use Rattle.ip_spec.specs.declared.record.Ref.{Ref}
use Rattle.ip_image.proofs.PairLaws.{Rises}
use Rattle.ip_image.proofs.StayingRecords.{ordered_rises}
use Rattle.ip_save.specs.Batches.{IsFirst, IsFirstTree}
use Rattle.ip_tree.specs.TreeView.{IsView, stored_view}
use Rattle.ip_tree.specs.declared.tree.Tree as lazy
use Rattle.ip_tree.specs.declared.tree.Root.TheVariants.{Stored}
use Rattle.ip_tree.proofs.Stands.{known_stand}
use Rattle.ip_tree.proofs.StoredWhole.{stored_view_below}
use Rattle.ip_held.specs.declared.held.Held.{Held}
use Rattle.ip_held.specs.Answers.{first_view, root_in, viewed_at}
use Rattle.ip_held.specs.Placed.{IsCommitAt}
use Rattle.ip_held.specs.Rooted.{IsRooted}
use Rattle.ip_held.specs.Showing.{IsFetchedOr, IsRootOf}
use Rattle.ip_held.specs.declared.fault.StoreFault.{StoreFault}
use Rattle.ip_held.specs.Held.{Holds, image_records, place_of_commit}
use Rattle.ip_held.specs.Trees.{IsRootAt}
use Rattle.ip_held.specs.Views.{IsStored}
use Rattle.ip_held.proofs.BatchRests.{known_staying, low_place, rooted_rests, staying}
use Rattle.ip_held.proofs.Listed.{good_here, records_below, records_good, records_ordered, records_parts}
use Rattle.ip_held.proofs.RootedViews.{rooted_stored}
use Rattle.ip_held.proofs.CommitPlaces.{there_is, commit_is, commit_here, some_there, within}
use Rattle.ip_held.proofs.SpelledTrees.{lawful_tree, narrow_tree}

-- ---- what is known of it

pub record IsKept (records : ℕ → Option Record) (n : ℕ) (w : View) : Type 0 where
  pub tree : lazy.Tree
  pub view : IsView records tree w
  pub rooted : IsRooted records w
  pub oldest : w.oldest ≡ Some n

module _ (store : Held) (told : Told) (r : Repository) (held : Holds store told r) (number : ℕ) (retained : IsTrue (is_retained r number)) where
  abbrev records : ℕ → Option Record
  records = image_records held

  abbrev place : (at : ℕ) × (place_of_commit store number ≡ Some at)
  place =
      let (low, high) = within r number retained in
      let same = held.tables.floor in
      let long = held.tables.placed in
      some_there store.places (number - store.slot.floor) (omega (arith, low, high, same, long))

  abbrev here : IsCommitAt records number place.0 (there_is r number retained).0
  here = commit_here r number retained store told held place.0 place.1

  abbrev commit : CommitRecord
  commit = here.spelled

  tree_is : tree_at r number ≡ (there_is r number retained).0.tree
  tree_is = ap (λ (o : Option Commit). unwrap_or (option_map (λ (c : Commit). c.tree) o) no_tree) (commit_is r number retained)

  -- its record refers to a root that spells its tree
  spelled : TreeAt records commit.root_at (tree_at r number)
  spelled = subst (TreeAt records commit.root_at) (sym tree_is) here.spells.tree

  pub view_is : viewed_at records r number (root_in (option_and_then records (place_of_commit store number))) ≡ Some (stored_view records number commit.root_at (tree_at r number))
  view_is = ap (λ (o : Option ℕ). viewed_at records r number (root_in (option_and_then records o))) place.1 ∙ ap (λ (o : Option Record). viewed_at records r number (root_in o)) here.here

  abbrev root : Ref
  root = record { at = commit.root_at; name = root_name (tree_at r number); kind = 2 }

  pub kept : IsKept records number (stored_view records number commit.root_at (tree_at r number))
  kept =
      let good = records_good store told r held in
      let parts = records_parts store told r held in
      let map = tree_at r number in
      record {
        tree = record { root = Stored root; oldest = Some number };
        view = record {
          root = (spelled.0, record { part = spelled.1; kind = refl; name = refl });
          lawful = lawful_tree records good parts commit.root_at map spelled;
          narrow = narrow_tree records good parts commit.root_at map spelled;
          oldest = refl;
          known = λ part. refl;
          below = stored_view_below records number commit.root_at (tree_at r number) spelled.1;
        };
        rooted = rooted_stored records number place.0 commit map here.here here.spells.number;
        oldest = refl;
      }

  pub stored : IsStored number (tree_at r number) (stored_view records number commit.root_at (tree_at r number))
  stored = record { records = records; at = commit.root_at; spelled = spelled; is = refl }

  -- the commit's record is the only one of its number
  module _ (at : ℕ) (is : IsRootAt records number at) where
    same_place : is.place ≡ place.0
    same_place =
        let rise = ordered_rises 0 held.stands.standing.records store.slot.end (records_ordered store told r held) in
        let good = good_here store told r held in
        let one = low_place store.slot held.stands.standing.records rise good is.place place.0 is.commit commit is.here here.here (let n = is.numbered in let m = here.spells.number in omega (arith, n, m)) in
        let other = low_place store.slot held.stands.standing.records rise good place.0 is.place commit is.commit here.here is.here (let n = is.numbered in let m = here.spells.number in omega (arith, n, m)) in
        omega (arith, one, other)

    same_commit : is.commit ≡ commit
    same_commit =
        let e : Some (Record.Commit is.commit) ≡ Some (Record.Commit commit) = sym is.here ∙ ap records same_place ∙ here.here in
        by is.commit commit e
      where
        by : (c d : CommitRecord) → Some (Record.Commit c) ≡ Some (Record.Commit d) → c ≡ d
        by c d e = cc

    pub same_root : at ≡ commit.root_at
    same_root = is.is ∙ ap (λ (c : CommitRecord). c.root_at) same_commit

  pub root_first : (ref : Ref) → IsRootOf records r number ref → IsFirstTree records ref (stored_view records number commit.root_at (tree_at r number))
  root_first ref is =
      let same = same_root ref.at (record { commit = is.commit; place = is.place; here = is.here; numbered = is.number; is = is.at }) in
      record {
        root = (is.tree.0, record { part = is.tree.1; kind = is.kind; name = is.name });
        lawful = lawful_tree records (records_good store told r held) (records_parts store told r held) ref.at (tree_at r number) is.tree;
        known = λ part. ap (λ (at : ℕ). stored_part records at part.path part.indexes) (sym same);
      }

-- ---- of a work's parents

retained_head : (r : Repository) (n : ℕ) (parents : List ℕ) → All (λ m. IsTrue (is_retained r m)) (n ∷ parents) → IsTrue (is_retained r n)
retained_head r n parents all = All-head (λ m. IsTrue (is_retained r m)) n parents all

pub first_retained : (r : Repository) (ns : List ℕ) (n : ℕ) → slice_get ns 0 ≡ Some n → All (λ m. IsTrue (is_retained r m)) ns → IsTrue (is_retained r n)
first_retained r [] n is all = absurd (cc (is))
first_retained r (m ∷ ns) n is all = let same : m ≡ n = cc (is) in subst (λ (k : ℕ). IsTrue (is_retained r k)) same (retained_head r m ns all)

-- it was not read
pub first_unread : {A B : Type 0} (P : A → Type 0) (Q : B → Type 0) (fault : StoreFault) → IsFetchedOr P (Err fault) → IsFetchedOr Q (Err fault)
first_unread P Q StoreFault.Ground is = tt
first_unread P Q StoreFault.Memory is = tt
first_unread P Q (StoreFault.Limit limit) is = absurd is
first_unread P Q _ is = absurd is

module _ (store : Held) (told : Told) (r : Repository) (held : Holds store told r) where
  pub first_kept : (n : ℕ) (parents : List ℕ) → All (λ m. IsTrue (is_retained r m)) (n ∷ parents) → IfSome (first_view (image_records held) store r (n ∷ parents)) (IsKept (image_records held) n)
  first_kept n parents all =
      let retained = retained_head r n parents all in
      subst (λ (o : Option View). IfSome o (IsKept (image_records held) n)) (sym (view_is store told r held n retained)) (kept store told r held n retained)

  pub first_stored : (n : ℕ) (parents : List ℕ) → All (λ m. IsTrue (is_retained r m)) (n ∷ parents) → IsSomeAnd (first_view (image_records held) store r (n ∷ parents)) (IsStored n (tree_at r n))
  first_stored n parents all =
      let retained = retained_head r n parents all in
      subst (λ (o : Option View). IsSomeAnd o (IsStored n (tree_at r n))) (sym (view_is store told r held n retained)) (stored store told r held n retained)

  -- by the root of a tree that was read
  pub first_left : (n : ℕ) (parents : List ℕ) → All (λ m. IsTrue (is_retained r m)) (n ∷ parents) → (at : ℕ) → IsRootAt (image_records held) n at
      → first_view (image_records held) store r (n ∷ parents) ≡ Some (stored_view (image_records held) n at (tree_at r n))
  first_left n parents all at is =
      let retained = retained_head r n parents all in
      view_is store told r held n retained ∙ ap (λ (k : ℕ). Some (stored_view (image_records held) n k (tree_at r n))) (sym (same_root store told r held n retained at is))

  -- by the root that was read
  pub first_root_is : (n : ℕ) (parents : List ℕ) → All (λ m. IsTrue (is_retained r m)) (n ∷ parents) → (ref : Ref) → IsRootOf (image_records held) r n ref
      → IsFirst (image_records held) (Some ref) (first_view (image_records held) store r (n ∷ parents))
  first_root_is n parents all ref is =
      let retained = retained_head r n parents all in
      subst (λ (o : Option View). IsSomeAnd o (IsFirstTree (image_records held) ref)) (sym (view_is store told r held n retained)) (root_first store told r held n retained ref is)

  -- the first of them was asked for
  pub first_by : (ns : List ℕ) (n : ℕ) → slice_get ns 0 ≡ Some n → All (λ m. IsTrue (is_retained r m)) ns → (ref : Ref) → IsRootOf (image_records held) r n ref → IsFirst (image_records held) (Some ref) (first_view (image_records held) store r ns)
  first_by [] n is all ref root = absurd (cc (is))
  first_by (m ∷ ns) n is all ref root = let same : m ≡ n = cc (is) in first_root_is m ns all ref (subst (λ (k : ℕ). IsRootOf (image_records held) r k ref) (sym same) root)

  known_of : (n : ℕ) (w : View) → IsKept (image_records held) n w → KnownStand (image_records held) w store.slot.end
  known_of n w is = known_stand (image_records held) is.tree w store.slot.end is.view (records_below store told r held)

  -- its contents are records of the image
  pub first_held : (parents : List ℕ) → All (λ n. IsTrue (is_retained r n)) parents → IfSome (first_view (image_records held) store r parents) (HoldsContents (image_records held))
  first_held [] all = tt
  first_held (n ∷ parents) all = by (first_view (image_records held) store r (n ∷ parents)) (first_kept n parents all)
    where
      by : (first : Option View) → IfSome first (IsKept (image_records held) n) → IfSome first (HoldsContents (image_records held))
      by None is = tt
      by (Some w) is = (known_of n w is).bytes

  -- and no collection takes them away that gives none of the parents up
  abbrev all_records : Records
  all_records = held.stands.standing.records

  module _ (h : ℕ) (kept : List ℕ) (set : IsKeptSet (core_records all_records) h kept) (c : CommitRecord) (here : image_records held h ≡ Some (Record.Commit c)) where
    pub first_staying : (parents : List ℕ) → All (λ n. IsTrue (is_retained r n)) parents → All (λ n. c.number ≤ n) parents
        → IfSome (first_view (image_records held) store r parents) (HoldsContents (present (staying all_records h kept)))
    first_staying [] all above = tt
    first_staying (n ∷ parents) all above = by (first_view (image_records held) store r (n ∷ parents)) (first_kept n parents all)
      where
        rise : Rises all_records
        rise = ordered_rises 0 all_records store.slot.end (records_ordered store told r held)

        low : c.number ≤ n
        low = All-head (λ m. c.number ≤ m) n parents above

        by : (first : Option View) → IfSome first (IsKept (image_records held) n) → IfSome first (HoldsContents (present (staying all_records h kept)))
        by None is = tt
        by (Some w) is =
            let rests = rooted_rests all_records h kept set store.slot rise (good_here store told r held) c here w (subst (λ (o : Option ℕ). IfSome o (λ m. c.number ≤ m)) (sym is.oldest) low) is.rooted in
            (known_staying all_records h kept set rise store.slot.end w (known_of n w is) rests).bytes
