-- Of records that stand, those that stay when a collection is accepted: the ones from its commit on, and what these reach.
--     present_has, has_present, filter_has, has_filter      which records are among some, by their offsets
--     good_refers      a reference of a good record leads to contents or a part, strictly below
--     staying_part      a part stands among those that stay, where references stay among them
--     RestsOn records h from kept      the records from an offset on refer to nothing below h but what is kept
--     Stays at      the record at the offset stays.      stays_closed      so do those that it refers to
use Rattle.std.proofs.Common.{◌≡◌, ◌⊎◌, inl, inr, ℕ, zero, suc, ◌+◌, ◌<◌, ◌≤◌, List, [], ◌∷◌, ◌++◌, refl, sym, ap, subst, ◌∙◌, Option, Some, None, Bool, true, false, cond, T, length, arith, append_assoc, append-nil, leb→le, eqb→eq}
use Rattle.std.proofs.lemmas.Bool.{false≢true, cases_lt}
use Rattle.std.proofs.lemmas.Cmp.{nat_cmp_total}
use Rattle.std.specs.Prelude.{map, filter, is_some, nat_le, ◌==◌, ◌||◌, Contains}
use Rattle.std.specs.List.{list_any}
use Rattle.std.specs.Cmp.{tied_itself}
use Rattle.std.specs.Ordering.{nat_cmp, eq_by_cmp, is_eq}
use Rattle.std.specs.FinMap.{nat_cmp-IsAntisymmetric}
use Rattle.std.specs.FinMap.Entries.{find}
use Rattle.ip_spec.specs.declared.record.Record.{Record}
use Rattle.ip_spec.specs.declared.record.LeafEntry.{LeafEntry}
use Rattle.ip_spec.specs.declared.record.InodeChild.{InodeChild}
use Rattle.ip_spec.specs.declared.event.CoreRecord.{CoreRecord}
use Rattle.ip_spec.specs.Path.{Step}
use Rattle.ip_spec.specs.Record.{spelling, kind_of, references}
use Rattle.ip_spec.specs.Tree.{Tree}
use Rattle.ip_spec.specs.Shape.{Entries}
use Rattle.ip_spec.specs.TreeAt.{Records, present, EntryAt, EntriesAt, ChildrenAt, PartAt, contents_at, directory_at, no_entries, entry_first, no_children, child_first, leaf_at, inode_at}
use Rattle.ip_spec.specs.Core.{core_record, core_records, stays, Reached, from_above, from_kept}
use Rattle.ip_image.specs.Slot.{Slot}
use Rattle.ip_image.specs.Standing.{terms_of, RecordFits, IsGood, AreGood}
use Rattle.ip_image.specs.Collection.{IsKept}
use Rattle.ip_image.specs.Collected.{offsets_of}
use Rattle.ip_image.proofs.PairLaws.{Has, Rises, has_from, contains_from}
use Rattle.ip_image.proofs.DamageLaws.{good_next}
use Rattle.ip_image.proofs.SpelledCommits.{present_front}
use Rattle.ip_image.proofs.KeptRuns.{Ordered, ordered_has, ordered_lower}
use Rattle.ip_image.proofs.InChunk.{eq_of}

-- ---- among a list

abbrev pub In : {X : Type 0} → List X → X → Type 0
In [] y = ⊥
In (x ∷ xs) y = (x ≡ y) ⊎ In xs y

pub in_from : {X : Type 0} (xs : List X) (x : X) → Contains xs x → In xs x
in_from [] x (k, low, is) = absurd (omega (arith, low))
in_from (y ∷ xs) x (zero, low, is) = inl is
in_from (y ∷ xs) x (suc k, low, is) = inr (in_from xs x (k, omega (arith, low), is))

pub in_contains : {X : Type 0} (xs : List X) (x : X) → In xs x → Contains xs x
in_contains [] x h = absurd h
in_contains (y ∷ xs) x (inl e) = (0, omega arith, e)
in_contains (y ∷ xs) x (inr h) = let (k, l, e) = in_contains xs x h in (suc k, omega (arith, l), e)

pub of_map : {X Y : Type 0} (f : X → Y) (xs : List X) (y : Y) → In (map f xs) y → (x : X) × In xs x × (f x ≡ y)
of_map f [] y h = absurd h
of_map f (x ∷ xs) y (inl e) = (x, inl refl, e)
of_map f (x ∷ xs) y (inr h) = let (z, there, e) = of_map f xs y h in (z, inr there, e)

pub in_map : {X Y : Type 0} (f : X → Y) (xs : List X) (x : X) → In xs x → In (map f xs) (f x)
in_map f [] x h = absurd h
in_map f (y ∷ xs) x (inl e) = inl (ap f e)
in_map f (y ∷ xs) x (inr h) = inr (in_map f xs x h)

pub has_in : (xs : Records) (x : ℕ × Record) → Has xs x → In xs x
has_in [] x h = absurd h
has_in (y ∷ xs) x (inl e) = inl e
has_in (y ∷ xs) x (inr h) = inr (has_in xs x h)

pub in_has : (xs : Records) (x : ℕ × Record) → In xs x → Has xs x
in_has [] x h = absurd h
in_has (y ∷ xs) x (inl e) = inl e
in_has (y ∷ xs) x (inr h) = inr (in_has xs x h)

pub has_left : (xs ys : Records) (x : ℕ × Record) → Has xs x → Has (xs ++ ys) x
has_left [] ys x h = absurd h
has_left (y ∷ xs) ys x (inl e) = inl e
has_left (y ∷ xs) ys x (inr h) = inr (has_left xs ys x h)

pub has_right : (xs ys : Records) (x : ℕ × Record) → Has ys x → Has (xs ++ ys) x
has_right [] ys x h = h
has_right (y ∷ xs) ys x h = inr (has_right xs ys x h)

pub has_either : (xs ys : Records) (x : ℕ × Record) → Has (xs ++ ys) x → Has xs x ⊎ Has ys x
has_either [] ys x h = inr h
has_either (y ∷ xs) ys x (inl e) = inl (inl e)
has_either (y ∷ xs) ys x (inr h) = by (has_either xs ys x h)
  where
    by : Has xs x ⊎ Has ys x → ((y ≡ x) ⊎ Has xs x) ⊎ Has ys x
    by (inl a) = inl (inr a)
    by (inr b) = inr b

-- ---- by offset

pub ordered_rises : (from : ℕ) (xs : Records) (to : ℕ) → Ordered from xs to → Rises xs
ordered_rises from [] to o = tt
ordered_rises from (x ∷ xs) to (low, some, o) =
    ((λ y has. let (a, b, c) = ordered_has (x.0 + length (spelling x.1)) xs to y o has in omega (arith, a, some)), ordered_rises (x.0 + length (spelling x.1)) xs to o)

pub rises_front : (xs ys : Records) → Rises (xs ++ ys) → Rises xs
rises_front [] ys r = tt
rises_front (x ∷ xs) ys (above, r) = ((λ y has. above y (has_left xs ys y has)), rises_front xs ys r)

some_same : (x y : Record) → Some x ≡ Some y → x ≡ y
some_same x y e = cc

pub present_has : (xs : Records) (at : ℕ) (r : Record) → present xs at ≡ Some r → Has xs (at, r)
present_has [] at r is = absurd (false≢true (ap is_some is))
present_has (x ∷ xs) at r is = by (eq_by_cmp nat_cmp at x.0) refl is (present_has xs at r)
  where
    by : (b : Bool) → eq_by_cmp nat_cmp at x.0 ≡ b → cond b (Some x.1) (find nat_cmp at xs) ≡ Some r → (find nat_cmp at xs ≡ Some r → Has xs (at, r)) → Has (x ∷ xs) (at, r)
    by true b is later =
        let place : at ≡ x.0 = nat_cmp-IsAntisymmetric at x.0 (eq_of _ b) in
        let same : x.1 ≡ r = some_same _ _ is in
        inl (λ i. (sym place i, same i))
    by false b is later = inr (later is)

pub has_present : (xs : Records) (x : ℕ × Record) → Rises xs → Has xs x → present xs x.0 ≡ Some x.1
has_present [] x r has = absurd has
has_present (y ∷ xs) x (above, r) (inl is) = subst (λ (z : ℕ × Record). present (y ∷ xs) z.0 ≡ Some z.1) is (ap (λ b. cond b (Some y.1) (find nat_cmp y.0 xs)) (ap is_eq (tied_itself nat_cmp_total y.0)))
has_present (y ∷ xs) x (above, r) (inr has) = by (eq_by_cmp nat_cmp x.0 y.0) refl (above x has) (has_present xs x r has)
  where
    by : (b : Bool) → eq_by_cmp nat_cmp x.0 y.0 ≡ b → y.0 < x.0 → find nat_cmp x.0 xs ≡ Some x.1 → cond b (Some y.1) (find nat_cmp x.0 xs) ≡ Some x.1
    by true b l is = let same : x.0 ≡ y.0 = nat_cmp-IsAntisymmetric x.0 y.0 (eq_of _ b) in absurd (omega (arith, same, l))
    by false b l is = is

-- at one offset lies one record
pub one_at : (xs : Records) (x y : ℕ × Record) → Rises xs → Has xs x → Has xs y → x.0 ≡ y.0 → x.1 ≡ y.1
one_at xs x y r a b e = some_same x.1 y.1 (sym (has_present xs x r a) ∙ ap (present xs) e ∙ has_present xs y r b)

-- ---- a test

no_true : {X : Type 0} (b : Bool) → b ≡ false → b ≡ true → X
no_true b f t = cc

module _ (p : ℕ × Record → Bool) where
  pub filter_has : (xs : Records) (y : ℕ × Record) → Has (filter p xs) y → Has xs y × (p y ≡ true)
  filter_has [] y h = absurd h
  filter_has (x ∷ xs) y h = by (p x) refl h (filter_has xs y)
    where
      by : (b : Bool) → p x ≡ b → Has (cond b (x ∷ filter p xs) (filter p xs)) y → (Has (filter p xs) y → Has xs y × (p y ≡ true)) → Has (x ∷ xs) y × (p y ≡ true)
      by true e (inl is) ih = (inl is, ap p (sym is) ∙ e)
      by true e (inr h) ih = let r = ih h in (inr r.0, r.1)
      by false e h ih = let r = ih h in (inr r.0, r.1)

  pub has_filter : (xs : Records) (y : ℕ × Record) → Has xs y → p y ≡ true → Has (filter p xs) y
  has_filter [] y h t = absurd h
  has_filter (x ∷ xs) y h t = by (p x) refl h (λ h. has_filter xs y h t)
    where
      by : (b : Bool) → p x ≡ b → Has (x ∷ xs) y → (Has xs y → Has (filter p xs) y) → Has (cond b (x ∷ filter p xs) (filter p xs)) y
      by true e (inl is) ih = inl is
      by true e (inr h) ih = inr (ih h)
      by false e (inl is) ih = no_true (p x) e (ap p is ∙ t)
      by false e (inr h) ih = ih h

  pub filter_rises : (xs : Records) → Rises xs → Rises (filter p xs)
  filter_rises [] r = tt
  filter_rises (x ∷ xs) (above, r) = by (p x) (filter_rises xs r)
    where
      by : (b : Bool) → Rises (filter p xs) → Rises (cond b (x ∷ filter p xs) (filter p xs))
      by true later = ((λ y has. above y (filter_has xs y has).0), later)
      by false later = later

  pub filter_ordered : (from : ℕ) (xs : Records) (to : ℕ) → Ordered from xs to → Ordered from (filter p xs) to
  filter_ordered from [] to o = o
  filter_ordered from (x ∷ xs) to (low, some, o) = by (p x) (filter_ordered (x.0 + length (spelling x.1)) xs to o)
    where
      by : (b : Bool) → Ordered (x.0 + length (spelling x.1)) (filter p xs) to → Ordered from (cond b (x ∷ filter p xs) (filter p xs)) to
      by true later = (low, some, later)
      by false later = ordered_lower from (x.0 + length (spelling x.1)) (filter p xs) to (omega (arith, low)) later

  pub filter_all : (xs : Records) → ((y : ℕ × Record) → Has xs y → p y ≡ true) → filter p xs ≡ xs
  filter_all [] all = refl
  filter_all (x ∷ xs) all = ap (λ b. cond b (x ∷ filter p xs) (filter p xs)) (all x (inl refl)) ∙ ap (λ (l : Records). x ∷ l) (filter_all xs (λ y has. all y (inr has)))

  pub filter_last : (xs : Records) (x : ℕ × Record) → p x ≡ true → filter p (xs ++ x ∷ []) ≡ filter p xs ++ x ∷ []
  filter_last [] x t = ap (λ b. cond b (x ∷ []) []) t
  filter_last (y ∷ xs) x t = by (p y) (filter_last xs x t)
    where
      by : (b : Bool) → filter p (xs ++ x ∷ []) ≡ filter p xs ++ x ∷ [] → cond b (y ∷ filter p (xs ++ x ∷ [])) (filter p (xs ++ x ∷ [])) ≡ cond b (y ∷ filter p xs) (filter p xs) ++ x ∷ []
      by true e = ap (λ (l : Records). y ∷ l) e
      by false e = e

  pub filter_none : (xs : Records) (x : ℕ × Record) → p x ≡ false → filter p (xs ++ x ∷ []) ≡ filter p xs
  filter_none [] x t = ap (λ b. cond b (x ∷ []) []) t
  filter_none (y ∷ xs) x t = by (p y) (filter_none xs x t)
    where
      by : (b : Bool) → filter p (xs ++ x ∷ []) ≡ filter p xs → cond b (y ∷ filter p (xs ++ x ∷ [])) (filter p (xs ++ x ∷ [])) ≡ cond b (y ∷ filter p xs) (filter p xs)
      by true e = ap (λ (l : Records). y ∷ l) e
      by false e = e

  -- what the test takes is present as before
  pub filter_present : (xs : Records) (at : ℕ) (r : Record) → Rises xs → present xs at ≡ Some r → p (at, r) ≡ true → present (filter p xs) at ≡ Some r
  filter_present xs at r rise is t = has_present (filter p xs) (at, r) (filter_rises xs rise) (has_filter xs (at, r) (present_has xs at r is) t)

-- ---- references

abbrev pub refs_of : Record → List ℕ
refs_of r = map (λ ref. ref.at) (references r)

unfoldable pub refs_in : Option Record → List ℕ
refs_in None = []
refs_in (Some r) = refs_of r

same_refs : (o : Option Record) (r s : Record) (b : ℕ) → o ≡ Some r → o ≡ Some s → In (refs_of s) b → In (refs_of r) b
unfolding refs_in
same_refs o r s b is is' h = subst (λ (o : Option Record). In (refs_in o) b) (sym is' ∙ is) h

-- a reference from an offset leads to contents or to a part, strictly below
pub record Leads (J : ℕ → Option Record) (at b : ℕ) : Type 0 where
  pub below : b < at
  pub to : Record
  pub there : J b ≡ Some to
  pub kind : kind_of to ≤ 3

module _ (J : ℕ → Option Record) where
  part_leads : {depth b at : ℕ} {es : Entries} → b < at → PartAt J depth b es → Leads J at b
  part_leads low (leaf_at fields is leaf each) = record { below = low; to = Record.Leaf fields; there = is; kind = omega arith }
  part_leads low (inode_at {depth = depth} children is inode each) = record { below = low; to = Record.Inode depth children; there = is; kind = omega arith }

  entry_leads : {at : ℕ} {e : LeafEntry} {x : Step × Tree} → EntryAt J at e x → Leads J at e.at
  entry_leads (contents_at bytes below is height child) = record { below = below; to = Record.Contents bytes; there = is; kind = omega arith }
  entry_leads (directory_at sub below part directory some height child) = part_leads below part

  entries_lead : {at : ℕ} {es : List LeafEntry} {xs : Entries} (b : ℕ) → EntriesAt J at es xs → In (refs_of (Record.Leaf es)) b → Leads J at b
  entries_lead b no_entries h = absurd h
  entries_lead {at = at} b (entry_first entry more) (inl e) = subst (Leads J at) e (entry_leads entry)
  entries_lead b (entry_first entry more) (inr h) = entries_lead b more h

  children_lead : {depth at : ℕ} {cs : List InodeChild} {xs : List (ℕ × Entries)} (outer b : ℕ) → ChildrenAt J depth at cs xs → In (refs_of (Record.Inode outer cs)) b → Leads J at b
  children_lead outer b no_children h = absurd h
  children_lead {at = at} outer b (child_first below part count height name more) (inl e) = subst (Leads J at) e (part_leads below part)
  children_lead outer b (child_first below part count height name more) (inr h) = children_lead outer b more h

  pub part_refers : {depth at : ℕ} {es : Entries} (r : Record) (b : ℕ) → PartAt J depth at es → J at ≡ Some r → In (refs_of r) b → Leads J at b
  part_refers {at = at} r b (leaf_at fields is leaf each) here h = entries_lead b each (same_refs (J at) (Record.Leaf fields) r b is here h)
  part_refers {at = at} r b (inode_at {depth = depth} children is inode each) here h = children_lead depth b each (same_refs (J at) (Record.Inode depth children) r b is here h)

pub more_leads : (J K : ℕ → Option Record) (at b : ℕ) → ((at : ℕ) (r : Record) → J at ≡ Some r → K at ≡ Some r) → Leads J at b → Leads K at b
more_leads J K at b keeps l = record { below = l.below; to = l.to; there = keeps b l.to l.there; kind = l.kind }

-- ---- a part among those that stay

module _ (J K : ℕ → Option Record) (S : ℕ → Type 0) (keeps : (at : ℕ) (r : Record) → S at → J at ≡ Some r → K at ≡ Some r)
    (closed : (at : ℕ) (r : Record) (b : ℕ) → S at → J at ≡ Some r → In (refs_of r) b → S b) where
  mutual
    staying_entry : {at : ℕ} {e : LeafEntry} {x : Step × Tree} → S e.at → EntryAt J at e x → EntryAt K at e x
    staying_entry stays (contents_at {e = e} bytes below is height child) = contents_at bytes below (keeps e.at (Record.Contents bytes) stays is) height child
    staying_entry stays (directory_at sub below part directory some height child) = directory_at sub below (staying_part stays part) directory some height child

    staying_entries : {at : ℕ} {es : List LeafEntry} {xs : Entries} → ((b : ℕ) → In (refs_of (Record.Leaf es)) b → S b) → EntriesAt J at es xs → EntriesAt K at es xs
    staying_entries stay no_entries = no_entries
    staying_entries stay (entry_first {e = e} entry more) = entry_first (staying_entry (stay e.at (inl refl)) entry) (staying_entries (λ b h. stay b (inr h)) more)

    staying_children : {depth at : ℕ} {cs : List InodeChild} {xs : List (ℕ × Entries)} → ((b : ℕ) → In (refs_of (Record.Inode 0 cs)) b → S b) → ChildrenAt J depth at cs xs → ChildrenAt K depth at cs xs
    staying_children stay no_children = no_children
    staying_children stay (child_first {c = c} below part count height name more) = child_first below (staying_part (stay c.at (inl refl)) part) count height name (staying_children (λ b h. stay b (inr h)) more)

    pub staying_part : {depth at : ℕ} {es : Entries} → S at → PartAt J depth at es → PartAt K depth at es
    staying_part stays (leaf_at {at = at} fields is leaf each) = leaf_at fields (keeps at (Record.Leaf fields) stays is) leaf (staying_entries (λ b h. closed at (Record.Leaf fields) b stays is h) each)
    staying_part stays (inode_at {depth = depth} {at = at} children is inode each) =
        inode_at children (keeps at (Record.Inode depth children) stays is) inode (staying_children (λ b h. closed at (Record.Inode depth children) b stays is h) each)

-- ---- good records refer to contents and parts below them

pub record Cut (xs : Records) (x : ℕ × Record) : Type 0 where
  pub before : Records
  pub after : Records
  pub is : xs ≡ before ++ x ∷ after

pub cut : (xs : Records) (x : ℕ × Record) → Has xs x → Cut xs x
cut [] x h = absurd h
cut (y ∷ xs) x (inl e) = record { before = []; after = xs; is = ap (λ (z : ℕ × Record). z ∷ xs) e }
cut (y ∷ xs) x (inr h) = let c = cut xs x h in record { before = y ∷ c.before; after = c.after; is = ap (λ (l : Records). y ∷ l) c.is }

module _ (s : Slot) (records : Records) (rise : Rises records) (good : AreGood s [] records) where
  pub good_at : (x : ℕ × Record) (c : Cut records x) → IsGood s c.before x
  good_at x c = good_next s [] c.before c.after x (subst (AreGood s []) c.is good)

  whole : (x : ℕ × Record) (c : Cut records x) → records ≡ (c.before ++ x ∷ []) ++ c.after
  whole x c = c.is ∙ sym (append_assoc c.before (x ∷ []) c.after)

  pub front_there : (x : ℕ × Record) (c : Cut records x) → (at : ℕ) (r : Record) → present (c.before ++ x ∷ []) at ≡ Some r → present records at ≡ Some r
  front_there x c at r is = subst (λ (l : Records). present l at ≡ Some r) (sym (whole x c)) (present_front (c.before ++ x ∷ []) c.after at r is)

  pub before_there : (x : ℕ × Record) (c : Cut records x) → (at : ℕ) (r : Record) → present c.before at ≡ Some r → present records at ≡ Some r
  before_there x c at r is = subst (λ (l : Records). present l at ≡ Some r) (sym c.is) (present_front c.before (x ∷ c.after) at r is)

  pub front_rises : (x : ℕ × Record) (c : Cut records x) → Rises (c.before ++ x ∷ [])
  front_rises x c = rises_front (c.before ++ x ∷ []) c.after (subst Rises (whole x c) rise)

  pub itself_there : (x : ℕ × Record) (c : Cut records x) → present (c.before ++ x ∷ []) x.0 ≡ Some x.1
  itself_there x c = has_present (c.before ++ x ∷ []) x (front_rises x c) (has_right c.before (x ∷ []) x (inl refl))

  pub good_refers : (x : ℕ × Record) → Has records x → (b : ℕ) → In (refs_of x.1) b → Leads (present records) x.0 b
  good_refers x has b ref = by x.0 x.1 (good_at x c).fits (itself_there x c) (front_there x c) (before_there x c) ref
    where
      c : Cut records x
      c = cut records x has

      by : (at : ℕ) (r : Record) → RecordFits (terms_of s) c.before at r → present (c.before ++ (at, r) ∷ []) at ≡ Some r
          → ((b : ℕ) (q : Record) → present (c.before ++ (at, r) ∷ []) b ≡ Some q → present records b ≡ Some q)
          → ((b : ℕ) (q : Record) → present c.before b ≡ Some q → present records b ≡ Some q)
          → In (refs_of r) b → Leads (present records) at b
      by at (Record.Contents bytes) fits here more less ref = absurd ref
      by at (Record.Leaf fields) (depth, es, part, together, few) here more less ref =
          more_leads (present (c.before ++ (at, Record.Leaf fields) ∷ [])) (present records) at b more (part_refers (present (c.before ++ (at, Record.Leaf fields) ∷ [])) (Record.Leaf fields) b part here ref)
      by at (Record.Inode d children) (depth, es, part, together, few) here more less ref =
          more_leads (present (c.before ++ (at, Record.Inode d children) ∷ [])) (present records) at b more (part_refers (present (c.before ++ (at, Record.Inode d children) ∷ [])) (Record.Inode d children) b part here ref)
      by at (Record.Commit commit) fits here more less (inl e) = subst (Leads (present records) at) e (more_leads (present c.before) (present records) at commit.root_at less (part_leads (present c.before) fits.root_below fits.root.1.1))
      by at (Record.Commit commit) fits here more less (inr h) = absurd h
      by at (Record.BranchSet number name) fits here more less ref = absurd ref
      by at (Record.TagSet number name) fits here more less ref = absurd ref
      by at (Record.BranchRemove name) fits here more less ref = absurd ref
      by at (Record.TagRemove name) fits here more less ref = absurd ref
      by at (Record.BranchTable rows) fits here more less ref = absurd ref
      by at (Record.TagTable rows) fits here more less ref = absurd ref

pub good_both : (s : Slot) (pre xs ys : Records) → AreGood s pre (xs ++ ys) → AreGood s pre xs × AreGood s (pre ++ xs) ys
good_both s pre [] ys good = (tt, subst (λ (before : Records). AreGood s before ys) (sym (append-nil pre)) good)
good_both s pre (x ∷ xs) ys good =
    let (a, b) = good_both s (pre ++ x ∷ []) xs ys good.1 in ((good.0, a), subst (λ (before : Records). AreGood s before ys) (append_assoc pre (x ∷ []) xs) b)

-- ---- tests

pub or_left : (c d : Bool) → c ≡ true → (c || d) ≡ true
or_left true d e = refl
or_left false d e = absurd (false≢true e)

pub or_right : (c d : Bool) → d ≡ true → (c || d) ≡ true
or_right true d e = refl
or_right false d e = e

pub or_cases : (c d : Bool) → (c || d) ≡ true → (c ≡ true) ⊎ (d ≡ true)
or_cases true d e = inl refl
or_cases false d e = inr e

pub le_test : (m n : ℕ) → m ≤ n → nat_le m n ≡ true
le_test m n l = grind arith

pub le_is : (m n : ℕ) → nat_le m n ≡ true → m ≤ n
le_is m n e = leb→le m n (subst T (sym e) tt)

equal_test : (m n : ℕ) → m ≡ n → (m == n) ≡ true
equal_test m n e = grind arith

pub any_there : (ks : List ℕ) (n : ℕ) → In ks n → list_any (λ at. at == n) ks ≡ true
any_there [] n i = absurd i
any_there (k ∷ ks) n (inl e) = or_left (k == n) (list_any (λ at. at == n) ks) (equal_test k n e)
any_there (k ∷ ks) n (inr i) = or_right (k == n) (list_any (λ at. at == n) ks) (any_there ks n i)

pub there_any : (ks : List ℕ) (n : ℕ) → list_any (λ at. at == n) ks ≡ true → In ks n
there_any [] n e = absurd (false≢true e)
there_any (k ∷ ks) n e = by (or_cases (k == n) (list_any (λ at. at == n) ks) e) (there_any ks n)
  where
    by : ((k == n) ≡ true) ⊎ (list_any (λ at. at == n) ks ≡ true) → (list_any (λ at. at == n) ks ≡ true → In ks n) → In (k ∷ ks) n
    by (inl same) later = inl (eqb→eq k n (subst T (sym same) tt))
    by (inr e) later = inr (later e)

-- ---- what stays

-- Records from an offset on refer to nothing below h but what is kept. Of those that the collection saw this is so: it kept what they refer to.
abbrev pub RestsOn : Records → ℕ → ℕ → Records → Type 0
RestsOn records h from kept = (x : CoreRecord) (at : ℕ) → Contains (core_records records) x → from ≤ x.at → Contains x.refs at → (h ≤ at) ⊎ Contains (offsets_of kept) at

pub above_or_below : (h at : ℕ) → (h ≤ at) ⊎ (at < h)
above_or_below h at = elim (cases_lt at h) [ inl under ↦ inr under | inr over ↦ inl over ]

module _ (s : Slot) (records : Records) (rise : Rises records) (good : AreGood s [] records) (h e0 : ℕ) (kept : Records) (is_kept : IsKept records h e0 kept) (rests : RestsOn records h e0 kept) where
  abbrev pub Stays : ℕ → Type 0
  Stays at = (h ≤ at) ⊎ Reached (core_records records) h e0 at

  core_has : (x : ℕ × Record) → Has records x → Contains (core_records records) (core_record x)
  core_has x has = in_contains (core_records records) (core_record x) (in_map core_record records x (has_in records x has))

  pub leads : (q : CoreRecord) (at : ℕ) → Contains (core_records records) q → Contains q.refs at → Leads (present records) q.at at
  leads q at in_q ref =
      let (x, there, is) = of_map core_record records q (in_from (core_records records) q in_q) in
      subst (λ (n : ℕ). Leads (present records) n at) (ap (λ (c : CoreRecord). c.at) is)
      (good_refers s records rise good x (in_has records x there) at (in_from (refs_of x.1) at (subst (λ (c : CoreRecord). Contains c.refs at) (sym is) ref)))

  -- what is reached lies below the commit, and is contents or a part
  pub reached_leads : (at : ℕ) → Reached (core_records records) h e0 at → Leads (present records) h at
  reached_leads at (from_above q b in_q high low ref under) = record { below = under; to = (leads q b in_q ref).to; there = (leads q b in_q ref).there; kind = (leads q b in_q ref).kind }
  reached_leads at (from_kept q b in_q deep ref) =
      let l = leads q b in_q ref in
      let under = (reached_leads q.at deep).below in
      let low = l.below in
      record { below = omega (arith, low, under); to = l.to; there = l.there; kind = l.kind }

  -- what is kept is reached, and what is reached is kept
  pub kept_reached : (at : ℕ) → Contains (offsets_of kept) at → Reached (core_records records) h e0 at
  kept_reached at c =
      let (x, there, is) = of_map (λ (x : ℕ × Record). x.0) kept at (in_from (offsets_of kept) at c) in
      subst (Reached (core_records records) h e0) is ((is_kept.each x).0 (in_contains kept x there)).1

  pub reached_kept : (x : ℕ × Record) → Has records x → Reached (core_records records) h e0 x.0 → Has kept x
  reached_kept x has reached = let (k, l, e) = (is_kept.each x).1 (contains_from records x has, reached) in has_from kept x k l e

  pub stays_closed : (at : ℕ) (r : Record) (b : ℕ) → Stays at → present records at ≡ Some r → In (refs_of r) b → Stays b
  stays_closed at r b stay is ref = by stay (above_or_below h b) (above_or_below e0 at)
    where
      has : Contains (core_records records) (core_record (at, r))
      has = core_has (at, r) (present_has records at r is)

      refers : Contains (refs_of r) b
      refers = in_contains (refs_of r) b ref

      of_rest : (h ≤ b) ⊎ Contains (offsets_of kept) b → Stays b
      of_rest (inl high) = inl high
      of_rest (inr c) = inr (kept_reached b c)

      by : Stays at → (h ≤ b) ⊎ (b < h) → (e0 ≤ at) ⊎ (at < e0) → Stays b
      by (inr reached) _ _ = inr (from_kept (core_record (at, r)) b has reached refers)
      by (inl high) (inl above) _ = inl above
      by (inl high) (inr below) (inl late) = of_rest (rests (core_record (at, r)) b has late refers)
      by (inl high) (inr below) (inr early) = inr (from_above (core_record (at, r)) b has high early refers below)

  -- ---- by the core's test

  abbrev pub test : ℕ × Record → Bool
  test x = stays h (offsets_of kept) (core_record x)

  pub test_stays : (x : ℕ × Record) → Has records x → Stays x.0 → test x ≡ true
  test_stays x has (inl high) = or_left (nat_le h x.0) (list_any (λ at. at == x.0) (offsets_of kept)) (le_test h x.0 high)
  test_stays x has (inr reached) =
      or_right (nat_le h x.0) (list_any (λ at. at == x.0) (offsets_of kept)) (any_there (offsets_of kept) x.0 (in_map (λ (x : ℕ × Record). x.0) kept x (has_in kept x (reached_kept x has reached))))

  pub stays_test : (x : ℕ × Record) → test x ≡ true → Stays x.0
  stays_test x e = by (or_cases (nat_le h x.0) (list_any (λ at. at == x.0) (offsets_of kept)) e)
    where
      by : (nat_le h x.0 ≡ true) ⊎ (list_any (λ at. at == x.0) (offsets_of kept) ≡ true) → Stays x.0
      by (inl is) = inl (le_is h x.0 is)
      by (inr any) = inr (kept_reached x.0 (in_contains (offsets_of kept) x.0 (there_any (offsets_of kept) x.0 any)))
