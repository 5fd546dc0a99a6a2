-- What fetching the record of a commit comes to.
--     commit_here      a retained commit's record stands at its place.      meets_commit      its reference is met
--     is_fetched      where its record stands, a fetch gives it
--     fetched_commit, damages_commit      what comes of what a fetch answers
--     shown_reply, root_found      what is made of the record
use Rattle.std.proofs.Common.{◌≡◌, ◌≢◌, ℕ, ◌-◌, List, [], ◌∷◌, map, refl, sym, ◌∙◌, ap, subst, arith}
use Rattle.std.specs.Prelude.{Option, Some, None, Result, Ok, Err, option_map, unwrap_or}
use Rattle.std.proofs.lemmas.Option.{same_Some}
use Rattle.ip_spec.specs.declared.record.Record.{Record}
use Rattle.ip_spec.specs.declared.record.CommitRecord.{CommitRecord}
use Rattle.ip_spec.specs.declared.record.Parent.{Parent}
use Rattle.ip_spec.specs.declared.record.Ref.{Ref}
use Rattle.ip_spec.specs.declared.reply.Reply.{Reply}
use Rattle.ip_spec.specs.Record.{Hash, name_of, reference_kind}
use Rattle.ip_spec.specs.Shape.{root_name}
use Rattle.ip_spec.specs.Tree.{Tree, no_tree}
use Rattle.ip_spec.specs.TreeAt.{TreeAt}
use Rattle.ip_spec.specs.Repository.{Repository, Commit, CommitParent, commit_at, name_at, tree_at}
use Rattle.ip_spec.specs.Step.{commit_reply}
use Rattle.ip_image.specs.Standing.{parent_of}
use Rattle.ip_space.specs.Fetching.{Fetches, IsFetched, Meets}
use Rattle.ip_space.specs.declared.fault.FetchFault.{FetchFault}
use Rattle.ip_space.specs.declared.fault.FetchFault.TheVariants.{Ground, Form, Name, Memory}
use Rattle.ip_held.specs.declared.fault.StoreFault.{StoreFault}
use Rattle.ip_held.specs.Placed.{IsCommitAt}
use Rattle.ip_held.specs.Showing.{IsFetchedOr, IsRecordOf, IsCommitFrom, Damages, IsRootOf}

-- ---- the commit and where it stands

-- ---- what comes of a fetch

same_commit : (c d : CommitRecord) → Record.Commit c ≡ Record.Commit d → c ≡ d
same_commit c d e = cc

pub meets_commit : (records : ℕ → Option Record) (n place : ℕ) (m : Commit) (at : IsCommitAt records n place m) (ref : Ref) → ref.name ≡ m.name → ref.kind ≡ 4 → Meets ref (Record.Commit at.spelled)
meets_commit records n place m at ref named kind = record { kind = sym kind; name = at.spells.name ∙ ap Some (sym named) }

-- a commit has a name
named_commit : (c : CommitRecord) → name_of (Record.Commit c) ≢ None
named_commit c e = absurd (cc (e))

-- where the commit's record stands, fetching it gives that record, or a fault of the ground, or want of memory
pub is_fetched : (records : ℕ → Option Record) (ref : Ref) (c : CommitRecord) → records ref.at ≡ Some (Record.Commit c) → Meets ref (Record.Commit c)
    → (fetched : Result Record FetchFault) → Fetches records ref fetched → IsFetched (Record.Commit c) fetched
is_fetched records ref c here meets (Ok found) is = same_Some found (Record.Commit c) (sym is.here ∙ here)
is_fetched records ref c here meets (Err Ground) is = tt
is_fetched records ref c here meets (Err (Form at fault)) is = named_commit c (is.none (Record.Commit c) here meets.kind)
is_fetched records ref c here meets (Err (Name at want got)) is =
    let same : is.found ≡ Record.Commit c = same_Some is.found (Record.Commit c) (sym is.here ∙ here) in
    is.other (same_Some got want (sym is.name ∙ (ap name_of same ∙ (meets.name ∙ ap Some (sym is.wanted)))))
is_fetched records ref c here meets (Err Memory) is = tt

pub fetched_commit : (records : ℕ → Option Record) (r : Repository) (number : ℕ) (c : CommitRecord) → IsRecordOf records r number c
    → (fetched : Result Record FetchFault) → IsFetched (Record.Commit c) fetched → (out : Result CommitRecord StoreFault) → IsCommitFrom fetched out → IsFetchedOr (IsRecordOf records r number) out
fetched_commit records r number c of (Ok (Record.Commit d)) is out from =
    subst (λ (o : Result CommitRecord StoreFault). IsFetchedOr (IsRecordOf records r number) o) (sym from) (subst (λ (x : CommitRecord). IsRecordOf records r number x) (sym (same_commit d c is)) of)
fetched_commit records r number c of (Ok _) is out from = absurd from
fetched_commit records r number c of (Err Ground) is out from = subst (λ (o : Result CommitRecord StoreFault). IsFetchedOr (IsRecordOf records r number) o) (sym from) tt
fetched_commit records r number c of (Err (Form at fault)) is out from = absurd is
fetched_commit records r number c of (Err (Name at want got)) is out from = absurd is
fetched_commit records r number c of (Err Memory) is out from = subst (λ (o : Result CommitRecord StoreFault). IsFetchedOr (IsRecordOf records r number) o) (sym from) tt

-- a record of this kind is a commit's
the_commit : (rec : Record) → reference_kind rec ≡ 4 → (c : CommitRecord) × (rec ≡ Record.Commit c)
the_commit (Record.Commit c) kind = (c, refl)
the_commit (Record.Contents bytes) kind = absurd (omega (arith, kind))
the_commit (Record.Leaf es) kind = absurd (omega (arith, kind))
the_commit (Record.Inode depth cs) kind = absurd (omega (arith, kind))
the_commit (Record.BranchSet n name) kind = absurd (omega (arith, kind))
the_commit (Record.BranchRemove name) kind = absurd (omega (arith, kind))
the_commit (Record.BranchTable rows) kind = absurd (omega (arith, kind))
the_commit (Record.TagSet n name) kind = absurd (omega (arith, kind))
the_commit (Record.TagRemove name) kind = absurd (omega (arith, kind))
the_commit (Record.TagTable rows) kind = absurd (omega (arith, kind))

pub damages_commit : (records : ℕ → Option Record) (ref : Ref) → ref.kind ≡ 4
    → (fetched : Result Record FetchFault) → Fetches records ref fetched → (out : Result CommitRecord StoreFault) → IsCommitFrom fetched out → Damages records out
damages_commit records ref kind (Ok (Record.Commit d)) is out from = subst (λ (o : Result CommitRecord StoreFault). Damages records o) (sym from) tt
damages_commit records ref kind (Ok _) is out from = absurd from
damages_commit records ref kind (Err Ground) is out from = subst (λ (o : Result CommitRecord StoreFault). Damages records o) (sym from) tt
damages_commit records ref kind (Err (Form at fault)) is out from =
    subst (λ (o : Result CommitRecord StoreFault). Damages records o) (sym from) (λ c there. named_commit c (is.none (Record.Commit c) (ap records (sym is.place) ∙ there) (sym kind)))
damages_commit records ref kind (Err (Name at want got)) is out from =
    let c = the_commit is.found (is.kind ∙ kind) in
    subst (λ (o : Result CommitRecord StoreFault). Damages records o) (sym from)
    (c.0, ap records is.place ∙ is.here ∙ ap Some c.1, ap name_of (sym c.1) ∙ is.name)
damages_commit records ref kind (Err Memory) is out from = subst (λ (o : Result CommitRecord StoreFault). Damages records o) (sym from) tt

-- ---- what is made of the record

parent_names : (ps : List Parent) → map (λ (p : CommitParent). p.name) (map parent_of ps) ≡ map (λ (p : Parent). p.name) ps
parent_names [] = refl
parent_names (p ∷ ps) = ap (λ ns. p.name ∷ ns) (parent_names ps)

abbrev reply_by : ℕ → Option Commit → Reply
reply_by number o = elim o [
  | None ↦ Reply.Accepted
  | Some c ↦ Reply.Commit c.name number (root_name c.tree) (map (λ p. p.name) c.parents) c.info
]

pub shown_reply : (records : ℕ → Option Record) (r : Repository) (number : ℕ) (c : CommitRecord) → IsRecordOf records r number c → (name : Hash) → name ≡ name_at r number
    → commit_reply r number ≡ Reply.Commit name number c.root_name (map (λ (p : Parent). p.name) c.parents) c.info
shown_reply records r number c (m, place, is, here, spells) name named =
    reply_of (commit_at r number) is
    ∙ (λ i. Reply.Commit (sym name_here i) number (sym spells.root i) ((ap (map (λ (p : CommitParent). p.name)) spells.parents ∙ parent_names c.parents) i) (spells.info i))
  where
    reply_of : (o : Option Commit) → o ≡ Some m → reply_by number o ≡ reply_by number (Some m)
    reply_of o e = ap (reply_by number) e

    name_here : name ≡ m.name
    name_here = named ∙ ap (λ (o : Option Commit). unwrap_or (option_map (λ (c : Commit). c.name) o) []) is

pub root_found : (records : ℕ → Option Record) (r : Repository) (number : ℕ) (c : CommitRecord) → IsRecordOf records r number c → (root : Ref) → root.at ≡ c.root_at → root.name ≡ c.root_name → root.kind ≡ 2 → IsRootOf records r number root
root_found records r number c (m, place, is, here, spells) root at name kind =
    let tree : tree_at r number ≡ m.tree = ap (λ (o : Option Commit). unwrap_or (option_map (λ (c : Commit). c.tree) o) no_tree) is in
    record {
      kind = kind;
      name = name ∙ spells.root ∙ ap root_name (sym tree);
      tree = subst (λ (t : Tree). TreeAt records root.at t) (sym tree) (subst (λ (n : ℕ). TreeAt records n m.tree) (sym at) spells.tree);
      commit = c;
      place = place;
      here = here;
      number = spells.number;
      at = at;
    }
