-- The walk over new contents: each way out of each call.
--     lost_later      what failed behind a call that only looked
--     first_there, entry_there, directory_there      the other tree's root, and what an entry refers to, lie in the records
--     held_lost      a record of the other tree was not read
--     held_later, lost_result, directory_later      behind a look-up.      one_found, none_found      one more, and none.      root_none      none below a root.      empty      a list of none
--     SoFar, none_yet, one_more, failed, all_found      a directory's entries, one after the other
use Rattle.std.proofs.Common.{◌≡◌, ℕ, ◌+◌, ◌≤◌, arith, List, [], ◌∷◌, ◌++◌, append_assoc, length, refl, sym, ap, subst, ◌∙◌, Option, Some, None, Bool, true, false}
use Rattle.std.specs.Prelude.{Result, Ok, Err, IfOk, IfErr, IsTrue, MatchResult, ◌==◌, if◌then◌else◌}
use Rattle.std.specs.List.{AllByRecursion}
use Rattle.std.proofs.lemmas.List.{append-nil, map-append}
use Rattle.sha2.specs.Sha256.{sha256}
use Rattle.ip_base.specs.declared.limit.Limit.TheVariants as limit
use Rattle.ip_ground.specs.Told.{Told}
use Rattle.ip_space.specs.Fetching.{Blames, Fetches}
use Rattle.ip_space.specs.SpaceView.{SpaceView, IsReadable, records_of}
use Rattle.ip_space.specs.declared.fault.FetchFault.{FetchFault}
use Rattle.ip_space.specs.declared.fault.FetchFault.TheVariants as fetch
use Rattle.ip_spec.specs.Path.{Bytes, Step}
use Rattle.ip_spec.specs.Shape.{Entries}
use Rattle.ip_spec.specs.Tree.{Tree}
use Rattle.ip_spec.specs.View.{View}
use Rattle.ip_spec.specs.declared.record.Record.{Record}
use Rattle.ip_spec.specs.declared.record.Ref.{Ref}
use Rattle.ip_shape.specs.declared.part.Part.{Part}
use Rattle.ip_tree.specs.Node.{Node, Nodes, Root, stored, contents, directory, none, first, unread, loaded}
use Rattle.ip_tree.specs.Reads.{FindsEntry, IsFree, IsOver, Looks, Reaches, contents_at, directory_at}
use Rattle.ip_tree.specs.declared.node.Stored.{Stored}
use Rattle.ip_tree.specs.declared.tree.TreeFault.TheVariants as fault
use Rattle.ip_tree.proofs.Found.{reaches}
use Rattle.ip_tree.proofs.Loading.{spells_ref}
use Rattle.ip_tree.proofs.Looking.{cause_on, looks_on, looks_nothing, still_over}
use Rattle.ip_tree.proofs.Walk.{asked_contents, contents_fault}
use Rattle.ip_save.specs.declared.batch.SaveFault.{SaveFault}
use Rattle.ip_save.specs.declared.batch.SaveFault.TheVariants.{Limit, Space, Fetch, Memory}
use Rattle.ip_save.specs.declared.fresh.Fresh.{Fresh}
use Rattle.ip_save.specs.Batches.{IsFirst}
use Rattle.ip_save.specs.Laid.{IsShort, fresh, fresh_among, fresh_root, longest, longest_among, record_of, unless_known}
use Rattle.ip_save.specs.Reused.{AreHashed, IsDirectoryThere, IsFound, IsFreeSave, IsFreshFault, IsLost, IsSaveCause, IsThere, again, again_among, again_root, as_directory, bytes_in, entry_at, found_in, held_by, reference_in}
use Rattle.ip_save.proofs.Unless.{unless_map}

-- ---- faults

more_fresh : (l m : ℕ) (f : SaveFault) → l ≤ m → IsFreshFault l f → IsFreshFault m f
more_fresh l m (Limit limit.Contents) low is = omega (arith, low, is)
more_fresh l m (Limit limit.Depth) low is = absurd is
more_fresh l m (Limit limit.Entries) low is = absurd is
more_fresh l m (Limit limit.Parents) low is = absurd is
more_fresh l m (Limit limit.Branches) low is = absurd is
more_fresh l m (Limit limit.Space) low is = absurd is
more_fresh l m (Limit limit.Sequence) low is = absurd is
more_fresh l m (Limit limit.Attempt) low is = absurd is
more_fresh l m (Space name) low is = absurd is
more_fresh l m (Fetch f) low is = tt
more_fresh l m Memory low is = tt

free_save : (f : FetchFault) → IsFree (fault.Fetch f) → IsFreeSave (Fetch f)
free_save fetch.Ground is = tt
free_save (fetch.Form at why) is = absurd is
free_save (fetch.Name at want got) is = absurd is
free_save fetch.Memory is = tt

module _ (tells : Bool) (old new : Told) (space now : SpaceView) (looks : Looks tells old new space now) where
  save_cause_on : (f : SaveFault) → IsSaveCause tells new now f → IsSaveCause tells old space f
  save_cause_on (Limit l) is = tt
  save_cause_on (Space name) is = tt
  save_cause_on (Fetch f) is = cause_on tells old new space now looks (fault.Fetch f) is
  save_cause_on Memory is = tt

  pub lost_later : (l m : ℕ) → l ≤ m → (there later : (ℕ → Option Record) → Type 0) → (IsTrue tells → (records : ℕ → Option Record) → IsOver old space records → there records → later records) → (f : SaveFault)
      → IsLost tells new now l later f → IsLost tells old space m there f
  lost_later l m low there later on f is = record {
    cause = more_fresh l m f low is.cause;
    because = save_cause_on f is.because;
    free = λ t records over here. is.free t records (still_over tells old new space now records looks t over) (on t records over here);
  }

-- ---- an entry

pub first_there : (records : ℕ → Option Record) (first : Option Ref) (other : Option View) → IsFirst records first other → IsDirectoryThere records first
first_there records None other is = tt
first_there records (Some r) None is = absurd is
first_there records (Some r) (Some w) is = (_, spells_ref records r w.map is.root.1)

pub entry_there : (records : ℕ → Option Record) (es : Entries) (s : Step) (found : Option Stored) → FindsEntry records es s found → IsThere records (reference_in found)
entry_there records es s None finds = tt
entry_there records es s (Some x) finds = (finds.0, reaches records x finds.0 finds.2)

part_there : (records : ℕ → Option Record) (r : Ref) (t : Tree) → Reaches records r t → (b : Bool) → (r.kind == 2) ≡ b → IsDirectoryThere records (if b then Some r else None)
part_there records r t (directory_at sub spells no_bytes) true e = (_, spells_ref records r sub spells)
part_there records r t (directory_at sub spells no_bytes) false e = tt
part_there records r t (contents_at bytes is kind name) true e = absurd (cc (kind, e))
part_there records r t (contents_at bytes is kind name) false e = tt

pub directory_there : (records : ℕ → Option Record) (entry : Option Ref) → IsThere records entry → IsDirectoryThere records (as_directory entry)
directory_there records None there = tt
directory_there records (Some r) there = part_there records r there.0 there.1 (r.kind == 2) refl

-- ---- a record of contents

pub held_lost : (tells : Bool) (told : Told) (space : SpaceView) (r : Ref) → r.kind ≡ 1 → (f : FetchFault) → Blames r (Err f) → (IsTrue tells → IsReadable told space → Fetches (records_of told space) r (Err f))
    → IsLost tells told space 0 (λ records. IsThere records (Some r)) (Fetch f)
held_lost tells told space r kind f blames found = record {
  cause = tt;
  because = record { blamed = (r, blames); damage = λ t readable. (r, blames, found t readable) };
  free = λ t records over there.
      let asked : r ≡ asked_contents r = ap (λ k. record { at = r.at; name = r.name; kind = k }) kind in
      free_save f (contents_fault told space records over r there.0 there.1 kind f (subst (λ q. Fetches (records_of told space) q (Err f)) asked (found t over.readable)));
}

-- ---- behind a look-up

module _ (tells : Bool) (old new : Told) (space now : SpaceView) (looks : Looks tells old new space now) (t : IsTrue tells) (readable : IsReadable old space) where
  same_records : records_of new now ≡ records_of old space
  same_records = λ i at. ((looks.reads t).records readable at) i

  pub held_later : (b : Bytes) (entry was : Option Ref) → entry ≡ was → (result : Result (Option ℕ) SaveFault) → IfOk result (λ at. at ≡ held_by (records_of new now) b entry) → IfOk result (λ at. at ≡ held_by (records_of old space) b was)
  held_later b entry was is (Ok at) held = held ∙ ap (λ r. held_by r b entry) same_records ∙ ap (held_by (records_of old space) b) is
  held_later b entry was is (Err f) held = tt

  among_later : (ns : Nodes) (below was : Option Ref) → below ≡ was → again_among (records_of new now) ns below ≡ again_among (records_of old space) ns was
  among_later ns below was is = ap (λ r. again_among r ns below) same_records ∙ ap (again_among (records_of old space) ns) is

  again_later : (n : Node) (s : Step) (other : Option Ref) → again (records_of new now) n (entry_at (records_of new now) s other) ≡ again (records_of old space) n (entry_at (records_of old space) s other)
  again_later n s other = ap (λ r. again r n (entry_at r s other)) same_records

module _ (tells : Bool) (old new : Told) (space now : SpaceView) (looks : Looks tells old new space now) where
  pub lost_result : {A : Type 0} (there later : (ℕ → Option Record) → Type 0) → (IsTrue tells → (records : ℕ → Option Record) → IsOver old space records → there records → later records) → (result : Result A SaveFault)
      → IfErr result (IsLost tells new now 0 later) → IfErr result (IsLost tells old space 0 there)
  lost_result there later on (Ok x) is = tt
  lost_result there later on (Err f) is = lost_later tells old new space now looks 0 0 (omega arith) there later on f is

  pub directory_later : (root : Part Stored) (ns : Nodes) → record_of root ≡ None → (s : Step) (other below : Option Ref) → (IsTrue tells → IsReadable old space → below ≡ as_directory (entry_at (records_of old space) s other))
      → (IsTrue tells → (records : ℕ → Option Record) → IsOver old space records → IsDirectoryThere records other → IsDirectoryThere records below) → (before after : List Fresh) → (result : Result (Unit {0}) SaveFault)
      → MatchResult result (λ u. IsFound tells new now (fresh_among ns) (λ records. again_among records ns below) before after) (IsLost tells new now (longest_among ns) (λ records. IsDirectoryThere records below))
      → MatchResult result (λ u. IsFound tells old space (fresh (directory root ns)) (λ records. again records (directory root ns) (entry_at records s other)) before after)
      (IsLost tells old space (longest (directory root ns)) (λ records. IsDirectoryThere records other))
  directory_later root ns whole s other below is there before after (Ok u) found =
      subst (λ o. IsFound tells old space (unless_known o [] (fresh_among ns)) (λ records. unless_known o [] (again_among records ns (as_directory (entry_at records s other)))) before after) (sym whole) record {
        bytes = found.bytes;
        found = λ t readable. found.found t ((looks.reads t).readable readable)
            ∙ ap (λ l. found_in before ++ l) (among_later tells old new space now looks t readable ns below (as_directory (entry_at (records_of old space) s other)) (is t readable));
        hashed = found.hashed;
        short = found.short;
      }
  directory_later root ns whole s other below is there before after (Err f) lost =
      subst (λ o. IsLost tells old space (unless_known o 0 (longest_among ns)) (λ records. IsDirectoryThere records other) f) (sym whole)
      (lost_later tells old new space now looks (longest_among ns) (longest_among ns) (omega arith) (λ records. IsDirectoryThere records other) (λ records. IsDirectoryThere records below) there f lost)

-- ---- one more

hashed_more : (before : List Fresh) (f : Fresh) → f.name ≡ sha256 f.bytes.now → AreHashed before → AreHashed (before ++ f ∷ [])
hashed_more [] f is are = (is, tt)
hashed_more (g ∷ before) f is are = (are.0, hashed_more before f is are.1)

pub one_found : (tells : Bool) (told : Told) (space : SpaceView) (f : Fresh) (held : (ℕ → Option Record) → Option ℕ) (before after : List Fresh) → f.name ≡ sha256 f.bytes.now → IsShort f.bytes.now
    → (IsTrue tells → IsReadable told space → f.at ≡ held (records_of told space)) → after ≡ before ++ f ∷ [] → IsFound tells told space (f.bytes.now ∷ []) (λ records. held records ∷ []) before after
one_found tells told space f held before after named short found is = record {
  bytes = ap bytes_in is ∙ map-append (λ (g : Fresh). g.bytes.now) before (f ∷ []);
  found = λ t readable. ap found_in is ∙ map-append (λ (g : Fresh). g.at) before (f ∷ []) ∙ ap (λ k. found_in before ++ k ∷ []) (found t readable);
  hashed = λ are. subst AreHashed (sym is) (hashed_more before f named are);
  short = (short, tt);
}

-- where there are none
long_append : {A : Type 0} (xs ys : List A) → length (xs ++ ys) ≡ length xs + length ys
long_append [] ys = omega arith
long_append (x ∷ xs) ys = let rest = long_append xs ys in omega (arith, rest)

mutual
  as_many : (records : ℕ → Option Record) (n : Node) (other : Option Ref) → length (again records n other) ≡ length (fresh n)
  as_many records (stored x) other = refl
  as_many records (contents b) other = refl
  as_many records (directory root ns) other =
      unless_map (λ (l : List (Option ℕ)). length l) (record_of root) [] (again_among records ns (as_directory other)) ∙ ap (unless_known (record_of root) 0) (among_many records ns (as_directory other))
      ∙ sym (unless_map (λ (l : List Bytes). length l) (record_of root) [] (fresh_among ns))

  among_many : (records : ℕ → Option Record) (ns : Nodes) (dir : Option Ref) → length (again_among records ns dir) ≡ length (fresh_among ns)
  among_many records none dir = refl
  among_many records (first s n ns) dir =
      let one = as_many records n (entry_at records s dir) in
      let rest = among_many records ns dir in
      omega (arith, one, rest, long_append (again records n (entry_at records s dir)) (again_among records ns dir), long_append (fresh n) (fresh_among ns))

root_many : (records : ℕ → Option Record) (root : Root) (other : Option Ref) → length (again_root records root other) ≡ length (fresh_root root)
root_many records (unread r) other = refl
root_many records (loaded root ns) other =
    unless_map (λ (l : List (Option ℕ)). length l) (record_of root) [] (again_among records ns other) ∙ ap (unless_known (record_of root) 0) (among_many records ns other)
    ∙ sym (unless_map (λ (l : List Bytes). length l) (record_of root) [] (fresh_among ns))

pub empty : {A : Type 0} (xs : List A) → length xs ≡ 0 → xs ≡ []
empty [] e = refl
empty (x ∷ xs) e = absurd (omega (arith, e))

pub root_none : (records : ℕ → Option Record) (root : Root) (other : Option Ref) → fresh_root root ≡ [] → again_root records root other ≡ []
root_none records root other is = empty (again_root records root other) (root_many records root other ∙ ap (λ (l : List Bytes). length l) is)

pub none_found : (tells : Bool) (told : Told) (space : SpaceView) (n : Node) (s : Step) (other : Option Ref) (before : List Fresh) → fresh n ≡ [] → IsFound tells told space (fresh n) (λ records. again records n (entry_at records s other)) before before
none_found tells told space n s other before e = record {
  bytes = sym (append-nil (bytes_in before)) ∙ ap (λ l. bytes_in before ++ l) (sym e);
  found = λ t readable.
      let R = records_of told space in
      sym (append-nil (found_in before)) ∙ ap (λ l. found_in before ++ l) (sym (empty (again R n (entry_at R s other)) (as_many R n (entry_at R s other) ∙ ap (λ (l : List Bytes). length l) e)));
  hashed = λ are. are;
  short = subst (AllByRecursion IsShort) (sym e) tt;
}

-- ---- the entries of a directory

pub record SoFar (tells : Bool) (old new : Told) (space now : SpaceView) (other : Option Ref) (rest all : Nodes) (before after : List Fresh) : Type 0 where
  pub bytes : bytes_in after ++ fresh_among rest ≡ bytes_in before ++ fresh_among all
  pub found : IsTrue tells → IsReadable old space → found_in after ++ again_among (records_of old space) rest other ≡ found_in before ++ again_among (records_of old space) all other
  pub hashed : AreHashed before → AreHashed after
  pub short : AllByRecursion IsShort (fresh_among rest) → AllByRecursion IsShort (fresh_among all)
  pub low : longest_among rest ≤ longest_among all
  pub looks : Looks tells old new space now

pub none_yet : (tells : Bool) (told : Told) (space : SpaceView) (other : Option Ref) (all : Nodes) (before : List Fresh) → SoFar tells told told space space other all all before before
none_yet tells told space other all before =
    record { bytes = refl; found = λ t readable. refl; hashed = λ are. are; short = λ each. each; low = omega arith; looks = looks_nothing tells told space }

both_short : (xs ys : List Bytes) → AllByRecursion IsShort xs → AllByRecursion IsShort ys → AllByRecursion IsShort (xs ++ ys)
both_short [] ys one other = other
both_short (x ∷ xs) ys one other = (one.0, both_short xs ys one.1 other)

module _ (tells : Bool) (old mid new : Told) (space midst now : SpaceView) (other : Option Ref) (s : Step) (n : Node) (rest all : Nodes) (before between : List Fresh)
    (so : SoFar tells old mid space midst other (first s n rest) all before between) where
  pub one_more : (after : List Fresh) → Looks tells mid new midst now → IsFound tells mid midst (fresh n) (λ records. again records n (entry_at records s other)) between after → SoFar tells old new space now other rest all before after
  one_more after looks is = record {
    bytes = ap (λ l. l ++ fresh_among rest) is.bytes ∙ append_assoc (bytes_in between) (fresh n) (fresh_among rest) ∙ so.bytes;
    found = λ t readable.
        let R = records_of old space in
        let one = again R n (entry_at R s other) in
        ap (λ l. l ++ again_among R rest other) (is.found t ((so.looks.reads t).readable readable) ∙ ap (λ l. found_in between ++ l) (again_later tells old mid space midst so.looks t readable n s other))
        ∙ append_assoc (found_in between) one (again_among R rest other) ∙ so.found t readable;
    hashed = λ are. is.hashed (so.hashed are);
    short = λ each. so.short (both_short (fresh n) (fresh_among rest) is.short each);
    low = let low = so.low in omega (arith, low);
    looks = looks_on tells old mid new space midst now so.looks looks;
  }

  pub failed : (f : SaveFault) → IsLost tells mid midst (longest n) (λ records. IsDirectoryThere records other) f → IsLost tells old space (longest_among all) (λ records. IsDirectoryThere records other) f
  failed f lost =
      lost_later tells old mid space midst so.looks (longest n) (longest_among all) (let low = so.low in omega (arith, low)) (λ records. IsDirectoryThere records other) (λ records. IsDirectoryThere records other) (λ t records over there. there) f lost

pub all_found : (tells : Bool) (old new : Told) (space now : SpaceView) (other : Option Ref) (all : Nodes) (before after : List Fresh) → SoFar tells old new space now other none all before after
    → IsFound tells old space (fresh_among all) (λ records. again_among records all other) before after
all_found tells old new space now other all before after so = record {
  bytes = sym (append-nil (bytes_in after)) ∙ so.bytes;
  found = λ t readable. sym (append-nil (found_in after)) ∙ so.found t readable;
  hashed = so.hashed;
  short = so.short tt;
}
