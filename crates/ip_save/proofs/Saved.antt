-- The bytes of a batch are those of the records that the definition has.
--     saved      what was put is the batch.      end_is, name_is      where it ends, and the commit's name
use Rattle.std.proofs.Common.{◌≡◌, ℕ, ◌+◌, ◌<◌, ◌≤◌, List, [], ◌∷◌, ◌++◌, refl, sym, ap, subst, ◌∙◌, Option, Some, map, length, arith, append_assoc}
use Rattle.std.specs.List.{AllByRecursion}
use Rattle.std.proofs.lemmas.List.{append-nil, length-append}
use Rattle.std.proofs.lemmas.List.Elements.{All-from_recursion}
use Rattle.sha2.specs.Sha256.{sha256}
use Rattle.ip_spec.specs.Path.{Bytes, Path}
use Rattle.ip_spec.specs.declared.record.Record.{Record}
use Rattle.ip_spec.specs.declared.record.Ref.{Ref}
use Rattle.ip_spec.specs.Record.{Hash, Fits, name_of, spelling, spelling_of, hashed_commit}
use Rattle.ip_spec.specs.Shape.{root_name}
use Rattle.ip_spec.specs.TreeAt.{Records}
use Rattle.ip_spec.proofs.Spelling.{some_bytes}
use Rattle.ip_spec.specs.View.{View}
use Rattle.ip_spec.specs.Batch as Batches
use Rattle.ip_spec.specs.Batch.{Spelled, Sources, reusing_sources, contents_record, root_spelled, tree_batch, batch, batch_root, batch_end, batch_name, commit_of, branch_of}
use Rattle.ip_tree.specs.Node.{Root, directory, unread, loaded}
use Rattle.ip_tree.specs.Shown.{shown_root}
use Rattle.ip_tree.specs.TreeView.{IsView}
use Rattle.ip_tree.specs.declared.node.Stored.{Stored}
use Rattle.ip_tree.specs.declared.tree.Tree as code
use Rattle.ip_save.specs.declared.batch.Batch.{Batch}
use Rattle.ip_save.specs.Batches.{IsBatch, commit_record, greatest_end}
use Rattle.ip_save.specs.Laid.{size_of, contents_bytes, lay_root, Laid, bytes_of, AllFit, IsShort, IsLaidRoot}
use Rattle.ip_save.specs.Reused.{spelled_from}
use Rattle.ip_save.proofs.Laying.{bytes_append, bytes_none, ends_node, fit_append}
use Rattle.ip_save.proofs.News.{news_root}
use Rattle.ip_save.proofs.Placed.{contents_records, records_are, records_spell, records_fit, bytes_length}
use Rattle.ip_save.proofs.Reusing.{spelled_ones}
use Rattle.ip_save.proofs.Viewed.{ones_new, placed_ones, refs_from, root_is, root_named, spelled_values, told}

root_next : (refs : List Stored) (root : Root) (at : ℕ) → (lay_root refs root at).next ≡ at + length (bytes_of (lay_root refs root at).records)
root_next refs (unread r) at = let e = ap length bytes_none in omega (arith, e)
root_next refs (loaded root ns) at = ends_node (directory root ns) refs at

same_some : (x y : Hash) → Some x ≡ Some y → x ≡ y
same_some x y e = cc

two_spelled : (a b : ℕ) (r s : Record) → bytes_of ((a, r) ∷ (b, s) ∷ []) ≡ spelling r ++ spelling s
unfolding spelling_of
two_spelled a b r s = ap (λ (x : Bytes). spelling r ++ x) (append-nil (spelling s))

module _ (records : ℕ → Option Record) (tree : code.Tree) (v : View) (is : IsView records tree v) (first : Option View) (f : Batches.CommitFields) (end : ℕ)
    (table : List (Bytes × Option ℕ)) (put : List Bytes) (refs : List Stored) (empty contents directories commits all : Bytes) (r : Ref) (name : Hash)
    (table_is : table ≡ told v first (shown_root tree.root)) (put_is : put ≡ spelled_from [] end table) (refs_are : refs ≡ refs_from end table)
    (none : empty ≡ []) (put_contents : contents ≡ empty ++ contents_bytes put) (short : AllByRecursion IsShort put)
    (laid : IsLaidRoot end refs (shown_root tree.root) contents directories r)
    (put_commit : commits ≡ directories ++ spelling (commit_record f r)) (commit_name : name_of (commit_record f r) ≡ Some name) (commit_fits : Fits 1 (commit_record f r))
    (put_branch : all ≡ commits ++ spelling (Record.BranchSet f.number f.branch)) (branch_fits : Fits 1 (Record.BranchSet f.number f.branch)) where
  abbrev root : Root
  root = shown_root tree.root

  abbrev from : Sources
  from = reusing_sources v first

  -- what the batch spells of the new contents
  abbrev spelled_new : List Bytes
  spelled_new = spelled_from [] end (told v first root)

  abbrev laid_root : Laid
  laid_root = lay_root (refs_from end (told v first root)) root (end + size_of spelled_new)

  put_new : put ≡ spelled_new
  put_new = put_is ∙ ap (spelled_from [] end) table_is

  contents_are : contents ≡ contents_bytes spelled_new
  contents_are = put_contents ∙ ap (λ (b : Bytes). b ++ contents_bytes put) none ∙ ap contents_bytes put_new

  contents_long : length contents ≡ size_of spelled_new
  contents_long = ap length contents_are ∙ bytes_length spelled_new

  laid_is : lay_root refs root (end + length contents) ≡ laid_root
  laid_is = ap (λ n. lay_root refs root (end + n)) contents_long ∙ ap (λ (l : List Stored). lay_root l root (end + size_of spelled_new)) (refs_are ∙ ap (refs_from end) table_is)

  directories_are : directories ≡ contents_bytes spelled_new ++ bytes_of laid_root.records
  directories_are = laid.bytes ∙ ap (λ (b : Bytes). b ++ bytes_of (lay_root refs root (end + length contents)).records) contents_are ∙ ap (λ (x : Laid). contents_bytes spelled_new ++ bytes_of x.records) laid_is

  next_is : (root_spelled v from end).next ≡ end + length directories
  next_is =
      let s = ap (λ (x : Spelled). x.next) (root_is records tree v is first end) in
      let n = root_next (refs_from end (told v first root)) root (end + size_of spelled_new) in
      let d = ap length directories_are in
      let j = length-append (contents_bytes spelled_new) (bytes_of laid_root.records) in
      let c = bytes_length spelled_new in
      omega (arith, s, n, d, j, c)

  root_ref : r ≡ batch_root v from end
  root_ref =
      laid.stands ∙ ap (λ (x : Laid). x.stands.reference) laid_is ∙ root_named records tree v is first end
      ∙ ap (λ (s : Spelled). record { at = s.root; name = root_name v.map; kind = 2 }) (sym (root_is records tree v is first end))

  commit_is : commit_of v from f end ≡ commit_record f r
  commit_is = ap (commit_record f) (sym root_ref)

  abbrev news : List (Path × Bytes)
  news = spelled_ones v first (news_root root)

  abbrev ones : Records
  ones = contents_records end news

  tree_is : tree_batch v from end ≡ ones ++ laid_root.records
  unfolding tree_batch
  tree_is =
      ap (λ l. map (λ (x : Path × ℕ). (x.1, contents_record v x.0)) l ++ (root_spelled v from end).records) (placed_ones records tree v is first end)
      ∙ ap (λ (l : Records). l ++ (root_spelled v from end).records) (records_are v news end (ones_new records tree v is first end))
      ∙ ap (λ (s : Spelled). ones ++ s.records) (root_is records tree v is first end)

  tree_bytes : bytes_of (tree_batch v from end) ≡ directories
  tree_bytes =
      ap bytes_of tree_is ∙ bytes_append ones laid_root.records
      ∙ ap (λ (b : Bytes). b ++ bytes_of laid_root.records) (records_spell news end ∙ ap contents_bytes (spelled_values records tree v is first end))
      ∙ sym directories_are

  abbrev last : Records
  last = ((root_spelled v from end).next, commit_of v from f end) ∷ ((root_spelled v from end).next + length (spelling (commit_of v from f end)), branch_of f) ∷ []

  batch_is : batch v from f end ≡ tree_batch v from end ++ last
  unfolding batch
  batch_is = refl

  batch_bytes : bytes_of (batch v from f end) ≡ all
  batch_bytes =
      ap bytes_of batch_is ∙ bytes_append (tree_batch v from end) last
      ∙ ap (λ (b : Bytes). b ++ bytes_of last) tree_bytes
      ∙ ap (λ (b : Bytes). directories ++ b) (two_spelled (root_spelled v from end).next ((root_spelled v from end).next + length (spelling (commit_of v from f end))) (commit_of v from f end) (branch_of f))
      ∙ ap (λ (c : Record). directories ++ (spelling c ++ spelling (branch_of f))) commit_is
      ∙ sym (append_assoc directories (spelling (commit_record f r)) (spelling (branch_of f)))
      ∙ ap (λ (b : Bytes). b ++ spelling (branch_of f)) (sym put_commit) ∙ sym put_branch

  pub end_is : batch_end v from f end ≡ end + length all
  unfolding batch_end
  end_is =
      let c = ap (λ (x : Record). length (spelling x)) commit_is in
      let p = ap length put_commit in
      let q = ap length put_branch in
      omega (arith, next_is, c, p, q, length-append directories (spelling (commit_record f r)), length-append commits (spelling (Record.BranchSet f.number f.branch)))

  pub name_is : name ≡ batch_name v f
  name_is = same_some _ _ (sym commit_name) ∙ ap (λ (x : Ref). sha256 (hashed_commit x.name (map (λ p. p.name) f.parents) f.info)) root_ref

  batch_fit : AllFit (batch v from f end)
  batch_fit =
      subst AllFit (sym batch_is)
      (fit_append (tree_batch v from end) last
      (subst AllFit (sym tree_is)
      (fit_append ones laid_root.records (records_fit news end (subst (AllByRecursion IsShort) (put_new ∙ sym (spelled_values records tree v is first end)) short)) (subst (λ (x : Laid). AllFit x.records) laid_is laid.fits)))
      (subst (Fits 1) (sym commit_is) commit_fits, (branch_fits, tt)))

  pub saved : (b : Batch) → b.bytes.items ≡ all → b.root ≡ r → b.name ≡ name → b.commit_at ≡ end + length directories → b.end ≡ end + length all → b.end ≤ greatest_end → IsBatch v first f end b
  saved b bytes root_at named commit_at ends room = record {
    bytes = bytes ∙ sym batch_bytes;
    root = root_at ∙ root_ref;
    name = named ∙ name_is;
    commit_at = commit_at ∙ sym next_is;
    ends = ends ∙ sym end_is;
    room = room;
    long = ends ∙ ap (λ (x : Bytes). end + length x) (sym bytes);
    fits = All-from_recursion (λ x. Fits 1 x.1) (batch v from f end) batch_fit;
  }

-- bytes with a record behind them
pub some_behind : (old new : Bytes) (r : Record) → new ≡ old ++ spelling r → 0 < length new
some_behind old new r is = let long = ap length is ∙ length-append old (spelling r) in let some = some_bytes r in omega arith

-- and a place below them
pub place_behind : (end n : ℕ) (old mid new : Bytes) (r x : Record) → n ≡ length old → mid ≡ old ++ spelling r → new ≡ mid ++ spelling x → (end ≤ end + n) × (end + n < end + length new)
place_behind end n old mid new r x at is on =
    let first = ap length is ∙ length-append old (spelling r) in
    let last = ap length on ∙ length-append mid (spelling x) in
    let some = some_bytes r in
    (omega arith, omega (arith, at, first, last, some))
