-- What fetching what a tree refers to answers.
use Rattle.std.proofs.Common.{◌≡◌, ℕ, refl, sym, ap, subst, ◌∙◌, arith, Option, Some, None}
use Rattle.std.proofs.lemmas.Bool.{false≢true}
use Rattle.std.specs.Prelude.{Bool, Result, Ok, Err, is_some, IsTrue, IfOk, IfErr, IsErrAnd, MatchResult}
use Rattle.ip_ground.specs.Told.{Told}
use Rattle.ip_base.specs.declared.hash.Hash.{Hash}
use Rattle.ip_spec.specs.declared.record.Record.{Record}
use Rattle.ip_spec.specs.declared.record.Ref.{Ref}
use Rattle.ip_spec.specs.Path.{Bytes}
use Rattle.ip_spec.specs.Record.{name_of, reference_kind}
use Rattle.ip_spec.specs.Shape.{Entries}
use Rattle.ip_spec.specs.TreeAt.{PartAt, leaf_at, inode_at}
use Rattle.ip_spec.specs.Tree.{Tree, contents}
use Rattle.sha2.specs.Sha256.{sha256}
use Rattle.ip_space.specs.SpaceView.{SpaceView, IsReadable, records_of}
use Rattle.ip_space.specs.Fetching.{Blames, Fetches, Meets}
use Rattle.ip_space.specs.declared.fault.FetchFault.{FetchFault}
use Rattle.ip_space.specs.declared.fault.FetchFault.TheVariants.{Ground, Form, Name, Memory}
use Rattle.ip_tree.specs.declared.tree.TreeFault.{TreeFault}
use Rattle.ip_tree.specs.declared.tree.TreeFault.TheVariants.{Fetch}
use Rattle.ip_tree.specs.Reads.{Reaches, IsOver, IsPartRef, IsFree, IsCause, contents_at, directory_at}
use Rattle.ip_shape.proofs.PartNames.{named_part}

same_some : {A : Type 0} (x y : A) → Some x ≡ Some y → x ≡ y
same_some x y e = cc

some_none : (x : Hash) → Some x ≡ None → ⊥
some_none x e = false≢true (sym (ap is_some e))

module _ (told : Told) (space : SpaceView) (records : ℕ → Option Record) (over : IsOver told space records) (r : Ref) (there : Record) (here : records r.at ≡ Some there) (meets : Meets r there) where
  -- the record is there, of the kind and of the name that are asked for
  pub free_fault : (fault : FetchFault) → Fetches (records_of told space) r (Err fault) → IsFree (Fetch fault)
  free_fault Ground h = tt
  free_fault Memory h = tt
  free_fault (Form at why) h = some_none r.name (sym meets.name ∙ h.none there (over.held r.at there here) meets.kind)
  free_fault (Name at want got) h =
      let same : there ≡ h.found = same_some _ _ (sym (over.held r.at there here) ∙ h.here) in
      h.other (same_some _ _ (sym h.name ∙ ap name_of (sym same) ∙ meets.name) ∙ sym h.wanted)

  pub fetched : (found : Record) → Fetches (records_of told space) r (Ok found) → records r.at ≡ Some found
  fetched found h =
      let same : there ≡ found = same_some _ _ (sym (over.held r.at there here) ∙ h.here) in
      subst (λ (x : Record). records r.at ≡ Some x) same here

-- contents are asked for by their kind
abbrev pub asked_contents : Ref → Ref
asked_contents r = record { at = r.at; name = r.name; kind = 1 }

module _ (told : Told) (space : SpaceView) (records : ℕ → Option Record) (over : IsOver told space records) (r : Ref) where
  contents_meet : (bytes : Bytes) → r.name ≡ sha256 bytes → Meets (asked_contents r) (Record.Contents bytes)
  contents_meet bytes name = record { kind = refl; name = ap Some (sym name) }

  pub contents_fault : (t : Tree) → Reaches records r t → r.kind ≡ 1 → (fault : FetchFault) → Fetches (records_of told space) (asked_contents r) (Err fault) → IsFree (Fetch fault)
  contents_fault t (directory_at sub spells no_bytes) kind fault h = absurd (let two = spells.kind in omega arith)
  contents_fault t (contents_at bytes is kind' name) kind fault h = free_fault told space records over (asked_contents r) (Record.Contents bytes) is (contents_meet bytes name) fault h

  same_bytes : (a b : Bytes) → Record.Contents a ≡ Record.Contents b → a ≡ b
  same_bytes a b e = cc

  pub contents_fetched : (t : Tree) → Reaches records r t → r.kind ≡ 1 → (found : Record) → Fetches (records_of told space) (asked_contents r) (Ok found)
      → (bytes : Bytes) → found ≡ Record.Contents bytes → t ≡ contents bytes
  contents_fetched t (directory_at sub spells no_bytes) kind found h bytes same = absurd (let two = spells.kind in omega arith)
  contents_fetched t (contents_at old is kind' name) kind found h bytes same =
      ap contents (same_bytes old bytes (same_some _ _ (sym is ∙ fetched told space records over (asked_contents r) (Record.Contents old) is (contents_meet old name) found h) ∙ same))

-- a directory's record, or a part's, is asked for by that kind
abbrev pub asked_part : Ref → Ref
asked_part r = record { at = r.at; name = r.name; kind = 2 }

pub record Leads (records : ℕ → Option Record) (r : Ref) : Type 0 where
  pub there : Record
  pub here : records r.at ≡ Some there
  pub meets : Meets (asked_part r) there

module _ (records : ℕ → Option Record) (depth : ℕ) (r : Ref) (es : Entries) (is : IsPartRef records depth r es) where
  met : (there : Record) → records r.at ≡ Some there → reference_kind there ≡ 2 → Leads records r
  met there here kind = record { there = there; here = here; meets = record { kind = kind; name = named_part records is.part there here ∙ ap Some (sym is.name) } }

  by_part : {d : ℕ} {xs : Entries} → PartAt records d r.at xs → Leads records r
  by_part (leaf_at fields here leaf each) = met (Record.Leaf fields) here refl
  by_part (inode_at {depth = d} children here inode each) = met (Record.Inode d children) here refl

  pub leads_part : Leads records r
  leads_part = by_part is.part

module _ (told : Told) (space : SpaceView) (records : ℕ → Option Record) (over : IsOver told space records) (depth : ℕ) (r : Ref) (es : Entries) (is : IsPartRef records depth r es) where
  pub part_fault : (fault : FetchFault) → Fetches (records_of told space) (asked_part r) (Err fault) → IsFree (Fetch fault)
  part_fault fault h = let l = leads_part records depth r es is in free_fault told space records over (asked_part r) l.there l.here l.meets fault h

  pub part_fetched : (found : Record) → Fetches (records_of told space) (asked_part r) (Ok found) → records r.at ≡ Some found
  part_fetched found h = let l = leads_part records depth r es is in fetched told space records over (asked_part r) l.there l.here l.meets found h

-- ---- the answer where a call failed

-- with the fault of the call
pub err_is : {A E : Type 0} (result : Result A E) (fault : E) → IsErrAnd result (λ e. e ≡ fault) → (P : A → Type 0) (Q : E → Type 0) → Q fault → MatchResult result P Q
err_is (Ok x) fault is P Q here = absurd is
err_is (Err e) fault is P Q here = subst Q (sym is) here

-- and an answer of which more is known
pub match_ok : {A E : Type 0} (result : Result A E) (P Q : A → Type 0) (F : E → Type 0) → ((x : A) → P x → Q x) → MatchResult result P F → MatchResult result Q F
match_ok (Ok x) P Q F more here = more x here
match_ok (Err e) P Q F more here = here

pub match_both : {A E : Type 0} (result : Result A E) (P Q R : A → Type 0) (F : E → Type 0) → ((x : A) → P x → Q x → R x) → MatchResult result P F → IfOk result Q → MatchResult result R F
match_both (Ok x) P Q R F more here too = more x here too
match_both (Err e) P Q R F more here too = here

-- where a fetch failed

module _ {A : Type 0} (result : Result A TreeFault) (fault : FetchFault) (is : IsErrAnd result (λ e. e ≡ Fetch fault)) where
  pub err_free : (P : A → Type 0) → IsFree (Fetch fault) → MatchResult result P IsFree
  err_free P free = by result is
    where
      by : (result : Result A TreeFault) → IsErrAnd result (λ e. e ≡ Fetch fault) → MatchResult result P IsFree
      by (Ok x) is = absurd is
      by (Err e) is = subst IsFree (sym is) free

  pub err_cause : (tells : Bool) (told : Told) (space : SpaceView) (r : Ref) → Blames r (Err fault) → (IsTrue tells → IsReadable told space → Fetches (records_of told space) r (Err fault))
      → IfErr result (IsCause tells told space)
  err_cause tells told space r blames found = by result is
    where
      cause : IsCause tells told space (Fetch fault)
      cause = record { blamed = (r, blames); damage = λ t readable. (r, blames, found t readable) }

      by : (result : Result A TreeFault) → IsErrAnd result (λ e. e ≡ Fetch fault) → IfErr result (IsCause tells told space)
      by (Ok x) is = tt
      by (Err e) is = subst (IsCause tells told space) (sym is) cause
