-- What good records say of the names of branches, and of the places of commits.
--     named_set, named_after      each name has the form of one behind one more, and after a record that fits.      named_all      so it is of good records
--     placed_within      each commit's record lies from the horizon on, below what is beyond all records
use Rattle.std.proofs.Common.{ℕ, ◌<◌, ◌≤◌, Bool, true, false, List, [], ◌∷◌, ◌++◌, inl, inr, sym, subst, cond, arith}
use Rattle.std.specs.Prelude.{All, map, fold}
use Rattle.std.specs.List.{AllByRecursion, filter}
use Rattle.std.specs.Cmp.Lexicographic.{nat_list_cmp_total}
use Rattle.std.specs.FinMap.Entries.{by_order}
use Rattle.std.specs.FinMap.Entries as E
use Rattle.std.specs.declared.cmp.Ordering.{Ordering}
use Rattle.std.specs.declared.cmp.Ordering.TheVariants.{Less, Equal, Greater}
use Rattle.std.proofs.lemmas.Bool.{cases_lt}
use Rattle.std.proofs.lemmas.List.Elements.{All-from_recursion, recursion_from_All}
use Rattle.ip_spec.specs.declared.record.Record.{Record}
use Rattle.ip_spec.specs.declared.record.Branch.{Branch}
use Rattle.ip_spec.specs.Map.{Map, empty, insert, retain_keys, insert_all, entries-insert}
use Rattle.ip_spec.specs.Path.{Bytes, bytes_cmp}
use Rattle.ip_spec.specs.Record.{Names, Fits, IsBranchName, IsU64}
use Rattle.ip_spec.specs.TreeAt.{Records}
use Rattle.ip_image.specs.declared.slot.Slot.{Slot}
use Rattle.ip_image.specs.Standing.{AreGood, names_after, named, row_of}
use Rattle.ip_audit.specs.Audits.{IsBeyond}
use Rattle.ip_held.specs.Placed.{places_in}

abbrev IsNamed : Bytes × ℕ → Type 0
IsNamed e = IsBranchName e.0

abbrev pub AreNamed : Map bytes_cmp ℕ → Type 0
AreNamed m = All (λ e. IsBranchName e.0) m.entries

put_named : (k : Bytes) (v : ℕ) (es : List (Bytes × ℕ)) → IsBranchName k → AllByRecursion IsNamed es → AllByRecursion IsNamed (E.put bytes_cmp k v es)
put_named k v [] here none = (here, tt)
put_named k v (e ∷ es) here (first, rest) = by (bytes_cmp k e.0) (put_named k v es here rest)
  where
    by : (o : Ordering) → AllByRecursion IsNamed (E.put bytes_cmp k v es) → AllByRecursion IsNamed (by_order o ((k, v) ∷ e ∷ es) ((e.0, v) ∷ es) (e ∷ E.put bytes_cmp k v es))
    by Less later = (here, (first, rest))
    by Equal later = (first, rest)
    by Greater later = (first, later)

filtered_named : (p : Bytes → Bool) (es : List (Bytes × ℕ)) → AllByRecursion IsNamed es → AllByRecursion IsNamed (filter (λ e. p e.0) es)
filtered_named p [] none = tt
filtered_named p (e ∷ es) (first, rest) = by (p e.0) (filtered_named p es rest)
  where
    by : (b : Bool) → AllByRecursion IsNamed (filter (λ e. p e.0) es) → AllByRecursion IsNamed (cond b (e ∷ filter (λ e. p e.0) es) (filter (λ e. p e.0) es))
    by true later = (first, later)
    by false later = later

pub named_set : (m : Map bytes_cmp ℕ) (name : Bytes) (number : ℕ) → IsBranchName name → AreNamed m → AreNamed (insert m name number)
named_set m name number here all = subst (All IsNamed) (sym (entries-insert nat_list_cmp_total m name number))
    (All-from_recursion IsNamed (E.put bytes_cmp name number m.entries) (put_named name number m.entries here (recursion_from_All IsNamed m.entries all)))

kept_named : (m : Map bytes_cmp ℕ) (p : Bytes → Bool) → AreNamed m → AreNamed (retain_keys m p)
unfolding retain_keys
kept_named m p all = All-from_recursion IsNamed (filter (λ e. p e.0) m.entries) (filtered_named p m.entries (recursion_from_All IsNamed m.entries all))

rows_named : (m : Map bytes_cmp ℕ) (rows : List Branch) → AreNamed m → AllByRecursion (λ row. IsBranchName row.name × IsU64 row.number) rows → AreNamed (insert_all m (map row_of rows))
rows_named m [] all none = all
rows_named m (row ∷ rows) all (first, rest) = rows_named (insert m row.name row.number) rows (named_set m row.name row.number first.0 all) rest

none_named : AreNamed empty
unfolding empty
none_named = All-from_recursion IsNamed [] tt

pub named_after : (version : ℕ) (m : Map bytes_cmp ℕ) (x : Record) → Fits version x → AreNamed m → AreNamed (names_after Names.branches m x)
named_after version m (Record.BranchSet number name) fits all = named_set m name number fits.fields.1 all
named_after version m (Record.BranchRemove name) fits all = kept_named m _ all
named_after version m (Record.BranchTable rows) fits all = rows_named empty rows none_named (recursion_from_All (λ (row : Branch). IsBranchName row.name × IsU64 row.number) rows fits.fields.each)
named_after version m (Record.Contents bytes) fits all = all
named_after version m (Record.Leaf entries) fits all = all
named_after version m (Record.Inode depth children) fits all = all
named_after version m (Record.Commit c) fits all = all
named_after version m (Record.TagSet number name) fits all = all
named_after version m (Record.TagRemove name) fits all = all
named_after version m (Record.TagTable rows) fits all = all

good_named : (s : Slot) (before records : Records) (m : Map bytes_cmp ℕ) → AreGood s before records → AreNamed m → AreNamed (fold (λ n (x : ℕ × Record). names_after Names.branches n x.1) m records)
good_named s before [] m good all = all
good_named s before (x ∷ records) m (here, rest) all = good_named s (before ++ x ∷ []) records (names_after Names.branches m x.1) rest (named_after s.version m x.1 here.bounds all)

pub named_all : (s : Slot) (records : Records) → AreGood s [] records → AreNamed (named Names.branches records)
named_all s records good = good_named s [] records empty good none_named

-- ---- places

abbrev IsPlace : Slot → ℕ → ℕ → Type 0
IsPlace s end at = (s.horizon ≤ at) × (at < end)

good_placed : (s : Slot) (end : ℕ) (before records : Records) → AreGood s before records → IsBeyond end records → AllByRecursion (IsPlace s end) (places_in records)
good_placed s end before [] good beyond = tt
good_placed s end before ((at, Record.Commit c) ∷ records) (here, rest) (below, later) =
    (elim (cases_lt at s.horizon) [ inl low ↦ (let few = here.kept_kind low in absurd (omega (arith, few))) | inr from ↦ (from, below) ], good_placed s end (before ++ (at, Record.Commit c) ∷ []) records rest later)
good_placed s end before ((at, Record.Contents bytes) ∷ records) (here, rest) (below, later) = good_placed s end (before ++ (at, Record.Contents bytes) ∷ []) records rest later
good_placed s end before ((at, Record.Leaf es) ∷ records) (here, rest) (below, later) = good_placed s end (before ++ (at, Record.Leaf es) ∷ []) records rest later
good_placed s end before ((at, Record.Inode depth cs) ∷ records) (here, rest) (below, later) = good_placed s end (before ++ (at, Record.Inode depth cs) ∷ []) records rest later
good_placed s end before ((at, Record.BranchSet n name) ∷ records) (here, rest) (below, later) = good_placed s end (before ++ (at, Record.BranchSet n name) ∷ []) records rest later
good_placed s end before ((at, Record.BranchRemove name) ∷ records) (here, rest) (below, later) = good_placed s end (before ++ (at, Record.BranchRemove name) ∷ []) records rest later
good_placed s end before ((at, Record.BranchTable rows) ∷ records) (here, rest) (below, later) = good_placed s end (before ++ (at, Record.BranchTable rows) ∷ []) records rest later
good_placed s end before ((at, Record.TagSet n name) ∷ records) (here, rest) (below, later) = good_placed s end (before ++ (at, Record.TagSet n name) ∷ []) records rest later
good_placed s end before ((at, Record.TagRemove name) ∷ records) (here, rest) (below, later) = good_placed s end (before ++ (at, Record.TagRemove name) ∷ []) records rest later
good_placed s end before ((at, Record.TagTable rows) ∷ records) (here, rest) (below, later) = good_placed s end (before ++ (at, Record.TagTable rows) ∷ []) records rest later

pub placed_within : (s : Slot) (end : ℕ) (records : Records) → AreGood s [] records → IsBeyond end records → All (λ at. (s.horizon ≤ at) × (at < end)) (places_in records)
placed_within s end records good beyond = All-from_recursion (IsPlace s end) (places_in records) (good_placed s end [] records good beyond)
