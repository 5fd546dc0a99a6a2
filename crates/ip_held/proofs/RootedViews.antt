-- What trees rest on, from one to the next.
--     known_put, known_removed, known_grafted      the records that a view knows are those that it knew before an edit, and that the source of a graft knew
--     rooted_none, rooted_put, rooted_removed, rooted_grafted      so each rests on commits that are there
--     rooted_more      over more records.      rooted_stored      the tree of a commit, of which all is known
use Rattle.std.proofs.Common.{◌≡◌, ℕ, zero, suc, ◌≤◌, Bool, true, false, List, [], ◌∷◌, ◌++◌, map, refl, subst, arith, Option, Some, None}
use Rattle.std.specs.Prelude.{◌==◌, Contains, not, ◌&&◌, nat_le, cond, option_and_then, if◌then◌else◌}
use Rattle.std.proofs.lemmas.Bool.Decides.{nat_tests}
use Rattle.std.proofs.lemmas.List.Elements.{Contains-append_right}
use Rattle.ip_spec.specs.Path.{Bytes, Path, Step, same_bytes, after_prefix}
use Rattle.ip_spec.specs.declared.record.CommitRecord.{CommitRecord}
use Rattle.ip_spec.specs.declared.record.InodeChild.{InodeChild}
use Rattle.ip_spec.specs.declared.record.LeafEntry.{LeafEntry}
use Rattle.ip_spec.specs.declared.record.Record.{Record}
use Rattle.ip_spec.specs.declared.record.Ref.{Ref}
use Rattle.ip_spec.specs.Shape.{deepest, place}
use Rattle.ip_spec.specs.StoredParts.{entry_named, child_with, entry_by, entry_through, entry_at, stored_by, stored_at, part_by, part_at, stored_part}
use Rattle.ip_spec.specs.Tree.{Tree, put, remove, graft}
use Rattle.ip_spec.specs.View.{View, Part, least, is_part, touches, no_view, put_view, remove_view, graft_view, grafted_known}
use Rattle.ip_tree.specs.TreeView.{stored_view}
use Rattle.ip_held.specs.Rooted.{Leads, IsHeld, IsRootedIn, IsRooted}
use Rattle.ip_held.specs.Trees.{RecordsStay}

-- ---- edits, whatever is known

module _ (K : ℕ → Type 0) where
  known_edit : (v : View) (part : Part) (b : Bool) (at : ℕ) → IsRootedIn K v → (if b then v.known part else None) ≡ Some at → K at
  known_edit v part true at is e = is part at e
  known_edit v part false at is e = absurd (cc (e))

  pub known_put : (v : View) (path : Path) (bytes : Bytes) → IsRootedIn K v → IsRootedIn K (put_view v path bytes)
  unfolding put_view
  known_put v path bytes is part at e = known_edit v part (is_part (put v.map path bytes) part && not (touches part path)) at is e

  pub known_removed : (v : View) (path : Path) → IsRootedIn K v → IsRootedIn K (remove_view v path)
  unfolding remove_view
  known_removed v path is part at e = known_edit v part (is_part (remove v.map path) part && not (touches part path)) at is e

  beside_graft : (v : View) (part : Part) (b : Bool) (at : ℕ) → IsRootedIn K v → (if b then None else v.known part) ≡ Some at → K at
  beside_graft v part true at is e = absurd (cc (e))
  beside_graft v part false at is e = is part at e

  from_graft : (v source : View) (from : Path) (part : Part) (rest : Option Path) (b : Bool) (at : ℕ) → IsRootedIn K v → IsRootedIn K source
      → grafted_known v source from part.indexes rest (if b then None else v.known part) ≡ Some at → K at
  from_graft v source from part None b at is there e = beside_graft v part b at is e
  from_graft v source from part (Some rest) b at is there e = there (record { path = from ++ rest; indexes = part.indexes }) at e

  by_graft : (v source : View) (from : Path) (part : Part) (rest : Option Path) (a b : Bool) (at : ℕ) → IsRootedIn K v → IsRootedIn K source
      → (if a then grafted_known v source from part.indexes rest (if b then None else v.known part) else None) ≡ Some at → K at
  by_graft v source from part rest true b at is there e = from_graft v source from part rest b at is there e
  by_graft v source from part rest false b at is there e = absurd (cc (e))

  pub known_grafted : (v source : View) (from to : Path) → IsRootedIn K v → IsRootedIn K source → IsRootedIn K (graft_view v source from to)
  unfolding graft_view
  known_grafted v source from to is there part at e =
      by_graft v source from part (after_prefix to part.path) (is_part (graft v.map source.map from to) part) (touches part to) at is there e

-- ---- the least number

lower : (records : ℕ → Option Record) (m n at : ℕ) → n ≤ m → IsHeld records (Some m) at → IsHeld records (Some n) at
lower records m n at le (from, c, here, low, leads) = (from, c, here, omega (arith, le, low), leads)

pub held_left : (records : ℕ → Option Record) (a b : Option ℕ) (at : ℕ) → IsHeld records a at → IsHeld records (least a b) at
held_left records None b at is = absurd is
held_left records (Some m) None at is = is
held_left records (Some m) (Some n) at is = by_test (nat_le m n) refl
  where
    by_test : (t : Bool) → nat_le m n ≡ t → IsHeld records (if t then Some m else Some n) at
    by_test true e = is
    by_test false e = lower records m n at (grind (arith, nat_tests)) is

pub held_right : (records : ℕ → Option Record) (a b : Option ℕ) (at : ℕ) → IsHeld records b at → IsHeld records (least a b) at
held_right records None b at is = is
held_right records (Some m) None at is = absurd is
held_right records (Some m) (Some n) at is = by_test (nat_le m n) refl
  where
    by_test : (t : Bool) → nat_le m n ≡ t → IsHeld records (if t then Some m else Some n) at
    by_test true e = lower records n m at (grind (arith, nat_tests)) is
    by_test false e = is

module _ (records : ℕ → Option Record) where
  pub rooted_none : IsRooted records no_view
  unfolding no_view
  rooted_none part at e = absurd (cc (e))

  pub rooted_put : (v : View) (path : Path) (bytes : Bytes) → IsRooted records v → IsRooted records (put_view v path bytes)
  unfolding put_view
  rooted_put v path bytes is = known_put (IsHeld records v.oldest) v path bytes is

  pub rooted_removed : (v : View) (path : Path) → IsRooted records v → IsRooted records (remove_view v path)
  unfolding remove_view
  rooted_removed v path is = known_removed (IsHeld records v.oldest) v path is

  pub rooted_grafted : (v source : View) (from to : Path) → IsRooted records v → IsRooted records source → IsRooted records (graft_view v source from to)
  unfolding graft_view
  rooted_grafted v source from to is there =
      known_grafted (IsHeld records (least v.oldest source.oldest)) v source from to (λ part at e. held_left records v.oldest source.oldest at (is part at e)) (λ part at e. held_right records v.oldest source.oldest at (there part at e))

-- ---- more records

module _ (records more : ℕ → Option Record) (stay : RecordsStay records more) where
  leads_more : (from at : ℕ) → Leads records from at → Leads more from at
  leads_more from _ (Leads.itself) = Leads.itself
  leads_more from _ (Leads.by_ref mid x ref there here refers) = Leads.by_ref mid x ref (leads_more from mid there) (stay mid x here) refers

  held_more : (least : Option ℕ) (at : ℕ) → IsHeld records least at → IsHeld more least at
  held_more None at is = absurd is
  held_more (Some n) at (from, c, here, low, leads) = (from, c, stay from (Record.Commit c) here, low, leads_more from at leads)

  pub rooted_more : (v : View) → IsRooted records v → IsRooted more v
  rooted_more v is part at e = held_more v.oldest at (is part at e)

-- ---- the tree of a commit

first_has : {X : Type 0} (x : X) (xs : List X) → Contains (x ∷ xs) x
first_has x xs = (0, omega arith, refl)

later_has : {X : Type 0} (x y : X) (xs : List X) → Contains xs y → Contains (x ∷ xs) y
later_has x y xs has = Contains-append_right (x ∷ []) xs y has

abbrev of_entry : LeafEntry → Ref
of_entry e = record { at = e.at; name = e.name; kind = e.kind }

abbrev of_child : InodeChild → Ref
of_child c = record { at = c.at; name = c.name; kind = 2 }

some_is : {X : Type 0} (x y : X) → Some x ≡ Some y → x ≡ y
some_is x y e = cc (e)

entry_refers : (s : Step) (es : List LeafEntry) (e : LeafEntry) → entry_named s es ≡ Some e → Contains (map of_entry es) (of_entry e)
entry_refers s [] e is = absurd (cc (is))
entry_refers s (x ∷ es) e is = by_test (same_bytes s x.step) (entry_refers s es e) is
  where
    by_test : (b : Bool) → (entry_named s es ≡ Some e → Contains (map of_entry es) (of_entry e)) → cond b (Some x) (entry_named s es) ≡ Some e → Contains (of_entry x ∷ map of_entry es) (of_entry e)
    by_test true later same = subst (λ (y : LeafEntry). Contains (of_entry x ∷ map of_entry es) (of_entry y)) (some_is x e same) (first_has (of_entry x) (map of_entry es))
    by_test false later there = later_has (of_entry x) (of_entry e) (map of_entry es) (later there)

-- the child at an index
pub record IsChildAt (cs : List InodeChild) (at : ℕ) : Type 0 where
  child : InodeChild
  has : Contains (map of_child cs) (of_child child)
  is : child.at ≡ at

child_refers : (i : ℕ) (cs : List InodeChild) (at : ℕ) → child_with i cs ≡ Some at → IsChildAt cs at
child_refers i [] at is = absurd (cc (is))
child_refers i (c ∷ cs) at is = by_test (c.index == i) (child_refers i cs at) is
  where
    by_test : (b : Bool) → (child_with i cs ≡ Some at → IsChildAt cs at) → cond b (Some c.at) (child_with i cs) ≡ Some at → IsChildAt (c ∷ cs) at
    by_test true later same = record { child = c; has = first_has (of_child c) (map of_child cs); is = some_is c.at at same }
    by_test false later there = let more = later there in record { child = more.child; has = later_has (of_child c) (of_child more.child) (map of_child cs) more.has; is = more.is }

module _ (records : ℕ → Option Record) where
  leads_on : (from mid at : ℕ) → Leads records from mid → Leads records mid at → Leads records from at
  leads_on from mid _ there Leads.itself = there
  leads_on from mid _ there (Leads.by_ref last x ref behind here refers) = Leads.by_ref last x ref (leads_on from mid last there behind) here refers

  to_entry : (from at : ℕ) (es : List LeafEntry) (s : Step) (e : LeafEntry) → records at ≡ Some (Record.Leaf es) → entry_named s es ≡ Some e → Leads records at e.at
  to_entry from at es s e here is = Leads.by_ref at (Record.Leaf es) (of_entry e) Leads.itself here (entry_refers s es e is)

  to_child : (at : ℕ) (depth : ℕ) (cs : List InodeChild) (i child : ℕ) → records at ≡ Some (Record.Inode depth cs) → child_with i cs ≡ Some child → Leads records at child
  to_child at depth cs i child here is =
      let c = child_refers i cs child is in
      subst (Leads records at) c.is (Leads.by_ref at (Record.Inode depth cs) (of_child c.child) Leads.itself here c.has)

  -- through an inode, where what lies deeper is led to
  through : (deeper : ℕ → Option LeafEntry) → ((child : ℕ) (e : LeafEntry) → deeper child ≡ Some e → Leads records child e.at) → (s : Step) (at : ℕ) (e : LeafEntry) (r : Option Record) → records at ≡ r → entry_by deeper s r ≡ Some e → Leads records at e.at
  through deeper leads s at e None here is = absurd (cc (is))
  through deeper leads s at e (Some (Record.Leaf es)) here is = to_entry at at es s e here is
  through deeper leads s at e (Some (Record.Inode depth cs)) here is = by (child_with (place s depth) cs) refl is
    where
      by : (o : Option ℕ) → child_with (place s depth) cs ≡ o → option_and_then deeper o ≡ Some e → Leads records at e.at
      by None a is = absurd (cc (is))
      by (Some child) a is = leads_on at child e.at (to_child at depth cs (place s depth) child here a) (leads child e is)
  through deeper leads s at e (Some _) here is = absurd (cc (is))

  entry_leads : (levels : ℕ) (s : Step) (at : ℕ) (e : LeafEntry) → entry_through levels records s at ≡ Some e → Leads records at e.at
  entry_leads zero s at e is = through (λ at. None) (λ child e is. absurd (cc (is))) s at e (records at) refl is
  entry_leads (suc levels) s at e is = through (entry_through levels records s) (λ child e is. entry_leads levels s child e is) s at e (records at) refl is

  named_leads : (s : Step) (at : ℕ) (e : LeafEntry) → entry_at records at s ≡ Some e → Leads records at e.at
  unfolding entry_at
  named_leads s at e is = entry_leads deepest s at e is

  stored_leads : (path : Path) (at o : ℕ) → stored_at records path at ≡ Some o → Leads records at o
  stored_leads [] at o is = subst (Leads records at) (some_is at o is) Leads.itself
  stored_leads (s ∷ path) at o is = by (entry_at records at s) refl (λ from there. stored_leads path from o there) is
    where
      by : (x : Option LeafEntry) → entry_at records at s ≡ x → ((from : ℕ) → stored_at records path from ≡ Some o → Leads records from o) → stored_by (stored_at records path) x ≡ Some o → Leads records at o
      by None a later is = absurd (cc (is))
      by (Some e) a later is = leads_on at e.at o (named_leads s at e a) (later e.at is)

  deeper_part : (i : ℕ) (indexes : List ℕ) → ((at o : ℕ) → part_at records indexes at ≡ Some o → Leads records at o) → (at o : ℕ) (r : Option Record) → records at ≡ r → part_by (part_at records indexes) i r ≡ Some o → Leads records at o
  deeper_part i indexes leads at o None here is = absurd (cc (is))
  deeper_part i indexes leads at o (Some (Record.Inode depth cs)) here is = by (child_with i cs) refl is
    where
      by : (x : Option ℕ) → child_with i cs ≡ x → option_and_then (part_at records indexes) x ≡ Some o → Leads records at o
      by None a is = absurd (cc (is))
      by (Some child) a is = leads_on at child o (to_child at depth cs i child here a) (leads child o is)
  deeper_part i indexes leads at o (Some _) here is = absurd (cc (is))

  part_leads : (indexes : List ℕ) (at o : ℕ) → part_at records indexes at ≡ Some o → Leads records at o
  part_leads [] at o is = subst (Leads records at) (some_is at o is) Leads.itself
  part_leads (i ∷ indexes) at o is = deeper_part i indexes (λ at o is. part_leads indexes at o is) at o (records at) refl is

  known_leads : (path : Path) (indexes : List ℕ) (at o : ℕ) → stored_part records at path indexes ≡ Some o → Leads records at o
  known_leads path indexes at o is = by (stored_at records path at) refl is
    where
      by : (x : Option ℕ) → stored_at records path at ≡ x → option_and_then (part_at records indexes) x ≡ Some o → Leads records at o
      by None a is = absurd (cc (is))
      by (Some mid) a is = leads_on at mid o (stored_leads path at mid a) (part_leads indexes mid o is)

  -- the record of the commit refers to the root
  pub rooted_stored : (n place : ℕ) (c : CommitRecord) (map : Tree) → records place ≡ Some (Record.Commit c) → c.number ≡ n → IsRooted records (stored_view records n c.root_at map)
  rooted_stored n place c map here number part at is =
      (place, c, here, omega (arith, number), leads_on place c.root_at at (Leads.by_ref place (Record.Commit c) (record { at = c.root_at; name = c.root_name; kind = 2 }) Leads.itself here (first_has (record { at = c.root_at; name = c.root_name; kind = 2 }) [])) (known_leads part.path part.indexes c.root_at at is))
