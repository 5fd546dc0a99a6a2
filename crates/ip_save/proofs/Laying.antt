-- The walks over directories: where they end, one thing behind the other, and why they give up.
--     bytes_append, bytes_one, bytes_none, fit_append      records one behind the other
--     Ends walk      the next record goes behind those of the walk.      ends_at, ends_part, ends_steps, ends_children      so it is of each
--     RowsOn end rest all out before row      what is to be laid for the rest completes what is laid for all
--     rows_more, rows_last      one more of them, and none
--     known_laid, new_laid, last_laid      what a part lays.      behind_result      the record behind its entries or children
--     nothing_laid, there_result      what a record spells
--     cause_up, entry_cause, child_cause      why a walk gives up
use Rattle.std.proofs.Common.{◌≡◌, ℕ, zero, suc, ◌+◌, ◌<◌, ◌≤◌, List, [], ◌∷◌, ◌++◌, length, refl, ap, ◌∙◌, sym, subst, arith, append_assoc, Option, Some, None, Bool, true, false, cond}
use Rattle.std.specs.Prelude.{◌==◌, Result, Ok, Err, OnOk, IfOk, IfErr, MatchResult}
use Rattle.std.proofs.lemmas.List.{append-nil, length-append}
use Rattle.ip_base.specs.declared.limit.Limit.TheVariants as limit
use Rattle.ip_spec.specs.Path.{Bytes, Step, same_bytes}
use Rattle.ip_spec.specs.Shape.{deepest}
use Rattle.ip_spec.specs.declared.record.Record.{Record}
use Rattle.ip_spec.specs.declared.record.LeafEntry.{LeafEntry}
use Rattle.ip_spec.specs.declared.record.InodeChild.{InodeChild}
use Rattle.ip_spec.specs.Record.{Fits, spelling, spelling_of}
use Rattle.ip_spec.specs.TreeAt.{Records}
use Rattle.ip_shape.specs.declared.part.Part.{Part, out-Part}
use Rattle.ip_shape.specs.declared.part.Part.TheOpen.{Part-F, Leaf, Inode, Unread}
use Rattle.ip_tree.specs.Node.{Node, Nodes, stored, contents, directory, none, first}
use Rattle.ip_tree.specs.declared.node.Stored.{Stored}
use Rattle.ip_save.specs.declared.batch.SaveFault.{SaveFault}
use Rattle.ip_save.specs.declared.batch.SaveFault.TheVariants.{Limit, Space, Fetch, Memory}
use Rattle.ip_save.specs.Laid.{AllFit, IsCause, IsHighFault, IsLaid, IsLayFault, IsRow, IsRowFault, Laid, LaidRow, behind, behind_bytes, behind_inode, behind_leaf, behind_refs, bytes_of, child_for, count_of, field_for, in_front, known_or, lay, lay_at, lay_children, lay_layer, lay_new, lay_nothing, lay_part, lay_steps, new_inode, new_leaf, no_row, record_of, there}
use Rattle.ip_shape.specs.Heights.{inode_height, leaf_height, raised}

-- ---- bytes of records

pub bytes_append : (xs ys : Records) → bytes_of (xs ++ ys) ≡ bytes_of xs ++ bytes_of ys
unfolding spelling_of
bytes_append [] ys = refl
bytes_append (x ∷ xs) ys = ap (λ (b : Bytes). spelling x.1 ++ b) (bytes_append xs ys) ∙ sym (append_assoc (spelling x.1) (bytes_of xs) (bytes_of ys))

pub bytes_one : (at : ℕ) (r : Record) → bytes_of ((at, r) ∷ []) ≡ spelling r
unfolding spelling_of
bytes_one at r = append-nil (spelling r)

pub bytes_none : bytes_of [] ≡ []
unfolding spelling_of
bytes_none = refl

pub fit_append : (xs ys : Records) → AllFit xs → AllFit ys → AllFit (xs ++ ys)
fit_append [] ys f g = g
fit_append (x ∷ xs) ys f g = (f.0, fit_append xs ys f.1 g)

-- ---- where the next record goes

abbrev IsEnd : ℕ → Records → ℕ → Type 0
IsEnd at records next = next ≡ at + length (bytes_of records)

abbrev pub Ends : (ℕ → Laid) → Type 0
Ends walk = (at : ℕ) → (walk at).next ≡ at + length (bytes_of (walk at).records)

abbrev pub EndsRow : {F : Type 0} → (ℕ → LaidRow F) → Type 0
EndsRow walk = (at : ℕ) → (walk at).next ≡ at + length (bytes_of (walk at).records)

none_end : (at : ℕ) → IsEnd at [] at
none_end at = let e = ap length bytes_none in omega (arith, e)

both_end : (at mid next : ℕ) (xs ys : Records) → IsEnd at xs mid → IsEnd mid ys next → IsEnd at (xs ++ ys) next
both_end at mid next xs ys e f =
    let l = ap length (bytes_append xs ys) in
    omega (arith, e, f, l, length-append (bytes_of xs) (bytes_of ys))

one_end : (at : ℕ) (r : Record) → IsEnd at ((at, r) ∷ []) (at + length (spelling r))
one_end at r = let e = ap length (bytes_one at r) in omega (arith, e)

ends_behind : {F : Type 0} (made : List F → Record) (refer : List F → ℕ → Stored) (at : ℕ) (row : LaidRow F) → IsEnd at row.records row.next → IsEnd at (behind made refer row).records (behind made refer row).next
ends_behind made refer at row e = both_end at row.next (row.next + length (spelling (made row.fields))) row.records ((row.next, made row.fields) ∷ []) e (one_end row.next (made row.fields))

ends_either : {F : Type 0} (b : Bool) (at : ℕ) (x y : LaidRow F) → IsEnd at x.records x.next → IsEnd at y.records y.next → IsEnd at (cond b x y).records (cond b x y).next
ends_either true at x y e f = e
ends_either false at x y e f = f

one_or_other : (b : Bool) (at : ℕ) (x y : Laid) → IsEnd at x.records x.next → IsEnd at y.records y.next → IsEnd at (cond b x y).records (cond b x y).next
one_or_other true at x y e f = e
one_or_other false at x y e f = f

ends_known : (o : Option Stored) (at : ℕ) (new : Laid) → IsEnd at new.records new.next → IsEnd at (known_or o at new).records (known_or o at new).next
ends_known (Some x) at new e = none_end at
ends_known None at new e = e

ends_nothing : (at : ℕ) → IsEnd at (behind_leaf (no_row at)).records (behind_leaf (no_row at)).next
ends_nothing at = ends_behind Record.Leaf new_leaf at (no_row at) (none_end at)

module _ (child : Step → ℕ → Laid) (each : (s : Step) → Ends (child s)) where
  pub ends_steps : (ss : List Step) → EndsRow (lay_steps child ss)
  ends_steps [] at = none_end at
  ends_steps (s ∷ ss) at =
      let x = child s at in
      let row = lay_steps child ss x.next in
      both_end at x.next row.next x.records row.records (each s at) (ends_steps ss x.next)

  pub ends_children : (deeper : Part Stored → ℕ → Laid) → ((c : Part Stored) → Ends (deeper c)) → (cs : List (Part Stored)) (i : ℕ) → EndsRow (lay_children child deeper i cs)
  ends_children deeper ends [] i at = none_end at
  ends_children deeper ends (c ∷ cs) i at =
      let x = deeper c at in
      let row = lay_children child deeper (suc i) cs x.next in
      ends_either (count_of c == 0) at (lay_children child deeper (suc i) cs at) (in_front x (child_for i (count_of c) x.stands) row) (ends_children deeper ends cs (suc i) at)
      (both_end at x.next row.next x.records row.records (ends c at) (ends_children deeper ends cs (suc i) x.next))

  ends_layer : (deeper : Part Stored → ℕ → Laid) → ((c : Part Stored) → Ends (deeper c)) → (depth : ℕ) (layer : Part-F Stored (Part Stored)) → Ends (λ at. lay_layer child deeper depth layer at)
  ends_layer deeper ends depth (Leaf known steps) at = ends_known known at (behind_leaf (lay_steps child steps.items at)) (ends_behind Record.Leaf new_leaf at (lay_steps child steps.items at) (ends_steps steps.items at))
  ends_layer deeper ends depth (Inode known n children) at =
      ends_known known at (behind_inode depth (lay_children child deeper 0 children.items at))
      (ends_behind (Record.Inode depth) (new_inode depth) at (lay_children child deeper 0 children.items at) (ends_children deeper ends children.items 0 at))
  ends_layer deeper ends depth (Unread x n) at = none_end at

  pub ends_part : (levels depth : ℕ) (part : Part Stored) → Ends (lay_part child levels depth part)
  ends_part zero depth part at = ends_layer (lay_nothing child) (λ c at. ends_nothing at) depth (out-Part Stored part) at
  ends_part (suc levels) depth part at = ends_layer (lay_part child levels (suc depth)) (λ c at. ends_part levels (suc depth) c at) depth (out-Part Stored part) at

mutual
  pub ends_node : (n : Node) (refs : List Stored) → Ends (lay n refs)
  ends_node (stored x) refs at = none_end at
  ends_node (contents b) refs at = none_end at
  ends_node (directory root ns) refs at = ends_part (λ s. lay_at ns refs s) (λ s at. ends_at ns refs s at) deepest 0 root at

  pub ends_at : (ns : Nodes) (refs : List Stored) (s : Step) → Ends (lay_at ns refs s)
  ends_at none refs s at = ends_nothing at
  ends_at (first t n ns) refs s at =
      one_or_other (same_bytes s t) at (lay n refs at) (lay_at ns (behind_refs n refs) s at) (ends_node n refs at) (ends_at ns (behind_refs n refs) s at)

-- ---- one behind the other

-- what is to be laid for the rest completes what is laid for all
pub record RowsOn {F : Type 0} (end : ℕ) (rest all : ℕ → LaidRow F) (out before : Bytes) (row : List F) : Type 0 where
  pub bytes : out ++ bytes_of (rest (behind_bytes end out)).records ≡ before ++ bytes_of (all (behind_bytes end before)).records
  pub fields : row ++ (rest (behind_bytes end out)).fields ≡ (all (behind_bytes end before)).fields
  pub fits : AllFit (rest (behind_bytes end out)).records → AllFit (all (behind_bytes end before)).records

pub rows_first : {F : Type 0} (end : ℕ) (all : ℕ → LaidRow F) (out : Bytes) (row : List F) → row ≡ [] → RowsOn end all all out out row
rows_first end all out row empty = record { bytes = refl; fields = ap (λ l. l ++ (all (behind_bytes end out)).fields) empty; fits = λ f. f }

-- one thing and then others
abbrev pub first_of : {F : Type 0} → (ℕ → Laid) → (Stored → F) → (ℕ → LaidRow F) → ℕ → LaidRow F
first_of one field later at = let x = one at in in_front x (field x.stands) (later x.next)

module _ {F : Type 0} (end : ℕ) (one : ℕ → Laid) (ends : Ends one) (field : Stored → F) (later all : ℕ → LaidRow F) (out before : Bytes) (row : List F) (now : RowsOn end (first_of one field later) all out before row) where
  abbrev y : Laid
  y = one (behind_bytes end out)

  module _ (after : Bytes) (x : Stored) (laid : IsLaid end one out after x) (longer : List F) (pushed : longer ≡ row ++ field x ∷ []) where
    reached : y.next ≡ behind_bytes end after
    reached = let e = ends (behind_bytes end out) in let l = ap length laid.bytes in omega (arith, e, l, length-append out (bytes_of y.records))

    row_is : later y.next ≡ later (behind_bytes end after)
    row_is = ap later reached

    pub rows_more : RowsOn end later all after before longer
    rows_more = record {
      bytes = ap (λ (b : Bytes). b ++ bytes_of (later (behind_bytes end after)).records) laid.bytes
          ∙ append_assoc out (bytes_of y.records) (bytes_of (later (behind_bytes end after)).records)
          ∙ ap (λ (r : LaidRow F). out ++ (bytes_of y.records ++ bytes_of r.records)) (sym row_is)
          ∙ ap (λ (b : Bytes). out ++ b) (sym (bytes_append y.records (later y.next).records))
          ∙ now.bytes;
      fields = ap (λ (l : List F). l ++ (later (behind_bytes end after)).fields) pushed
          ∙ append_assoc row (field x ∷ []) (later (behind_bytes end after)).fields
          ∙ ap (λ (z : Stored). row ++ field z ∷ (later (behind_bytes end after)).fields) laid.stands
          ∙ ap (λ (r : LaidRow F). row ++ field y.stands ∷ r.fields) (sym row_is)
          ∙ now.fields;
      fits = λ f. now.fits (fit_append y.records _ laid.fits (subst (λ (r : LaidRow F). AllFit r.records) (sym row_is) f));
    }

pub rows_last : {F : Type 0} (end : ℕ) (all : ℕ → LaidRow F) (out before : Bytes) (row : List F) → RowsOn end no_row all out before row → IsRow end all before out row
rows_last end all out before row now = record {
  bytes = sym (append-nil out) ∙ ap (λ (b : Bytes). out ++ b) (sym bytes_none) ∙ now.bytes;
  fields = sym (append-nil row) ∙ now.fields;
  fits = now.fits tt;
}

-- ---- parts

module _ (child : Step → ℕ → Laid) where
  pub known_laid : (levels depth : ℕ) (part : Part Stored) (at : ℕ) (x : Stored) → record_of part ≡ Some x → lay_part child levels depth part at ≡ there x at
  known_laid zero depth part at x known = ap (λ o. known_or o at (lay_new child (lay_nothing child) depth (out-Part Stored part) at)) known
  known_laid (suc levels) depth part at x known = ap (λ o. known_or o at (lay_new child (lay_part child levels (suc depth)) depth (out-Part Stored part) at)) known

  pub new_laid : (levels depth : ℕ) (part : Part Stored) (at : ℕ) → record_of part ≡ None → lay_part child (suc levels) depth part at ≡ lay_new child (lay_part child levels (suc depth)) depth (out-Part Stored part) at
  new_laid levels depth part at new = ap (λ o. known_or o at (lay_new child (lay_part child levels (suc depth)) depth (out-Part Stored part) at)) new

  pub last_laid : (depth : ℕ) (part : Part Stored) (at : ℕ) → record_of part ≡ None → lay_part child zero depth part at ≡ lay_new child (lay_nothing child) depth (out-Part Stored part) at
  last_laid depth part at new = ap (λ o. known_or o at (lay_new child (lay_nothing child) depth (out-Part Stored part) at)) new

-- ---- faults

pub cause_up : (b h c k : ℕ) (f : SaveFault) → b ≤ c → (64 < h → 64 < k) → IsCause b h f → IsCause c k f
cause_up b h c k (Limit limit.Contents) bc hk is = is
cause_up b h c k (Limit limit.Entries) bc hk is = omega arith
cause_up b h c k (Limit limit.Depth) bc hk is = hk is
cause_up b h c k (Limit limit.Parents) bc hk is = is
cause_up b h c k (Limit limit.Branches) bc hk is = is
cause_up b h c k (Limit limit.Space) bc hk is = is
cause_up b h c k (Limit limit.Sequence) bc hk is = is
cause_up b h c k (Limit limit.Attempt) bc hk is = is
cause_up b h c k (Space name) bc hk is = is
cause_up b h c k (Fetch fault) bc hk is = is
cause_up b h c k Memory bc hk is = is

above_at : (row : List LeafEntry) (e : LeafEntry) (more : List LeafEntry) → raised e.height ≤ leaf_height (row ++ e ∷ more)
above_at [] e more = omega arith
above_at (x ∷ row) e more = let l = above_at row e more in omega arith

over_at : (row : List InodeChild) (c : InodeChild) (more : List InodeChild) → c.height ≤ inode_height (row ++ c ∷ more)
over_at [] c more = omega arith
over_at (x ∷ row) c more = let l = over_at row c more in omega arith

-- one thing of a leaf, and of an inode, gives the cause of all
pub entry_cause : (breadth end : ℕ) (s : Step) (one : ℕ → Laid) (later all : ℕ → LaidRow LeafEntry) (out before : Bytes) (row : List LeafEntry) → RowsOn end (first_of one (field_for s) later) all out before row → (f : SaveFault)
    → IsLayFault breadth end one out f → IsRowFault leaf_height breadth end all before f
entry_cause breadth end s one later all out before row now f is =
    let x = one (behind_bytes end out) in
    let low : raised x.stands.height ≤ leaf_height (all (behind_bytes end before)).fields =
    subst (λ (l : List LeafEntry). raised x.stands.height ≤ leaf_height l) now.fields (above_at row (field_for s x.stands) (later x.next).fields) in
    cause_up breadth x.stands.height breadth (leaf_height (all (behind_bytes end before)).fields) f (omega arith) (λ high. omega (arith, high, low)) is

pub child_cause : (breadth end i n : ℕ) (one : ℕ → Laid) (later all : ℕ → LaidRow InodeChild) (out before : Bytes) (row : List InodeChild) → RowsOn end (first_of one (child_for i n) later) all out before row → (f : SaveFault)
    → IsLayFault breadth end one out f → IsRowFault inode_height breadth end all before f
child_cause breadth end i n one later all out before row now f is =
    let x = one (behind_bytes end out) in
    let low : x.stands.height ≤ inode_height (all (behind_bytes end before)).fields =
    subst (λ (l : List InodeChild). x.stands.height ≤ inode_height l) now.fields (over_at row (child_for i n x.stands) (later x.next).fields) in
    cause_up breadth x.stands.height breadth (inode_height (all (behind_bytes end before)).fields) f (omega arith) (λ high. omega (arith, high, low)) is

-- ---- the record behind a row

module _ {F : Type 0} (made : List F → Record) (refer : List F → ℕ → Stored) (end : ℕ) (walk : ℕ → LaidRow F) (ends : EndsRow walk) (before out : Bytes) (row : List F) (laid : IsRow end walk before out row) where
  abbrev all : LaidRow F
  all = walk (behind_bytes end before)

  ended : behind_bytes end out ≡ all.next
  ended = let e = ends (behind_bytes end before) in let l = ap length laid.bytes in omega (arith, e, l, length-append before (bytes_of all.records))

  pub behind_laid : (after : Bytes) (x : Stored) → after ≡ out ++ spelling (made row) → x ≡ refer row (end + length out) → Fits 1 (made row) → IsLaid end (λ at. behind made refer (walk at)) before after x
  behind_laid after x put is fits =
      let one : bytes_of ((all.next, made all.fields) ∷ []) ≡ spelling (made row) = bytes_one all.next (made all.fields) ∙ ap (λ (l : List F). spelling (made l)) (sym laid.fields) in
      record {
        bytes = put ∙ ap (λ (b : Bytes). b ++ spelling (made row)) laid.bytes ∙ append_assoc before (bytes_of all.records) (spelling (made row))
            ∙ ap (λ (b : Bytes). before ++ (bytes_of all.records ++ b)) (sym one)
            ∙ ap (λ (b : Bytes). before ++ b) (sym (bytes_append all.records ((all.next, made all.fields) ∷ [])));
        stands = is ∙ ap (λ (l : List F). refer l (behind_bytes end out)) laid.fields ∙ ap (refer all.fields) ended;
        fits = fit_append all.records ((all.next, made all.fields) ∷ []) laid.fits (subst (λ (l : List F). Fits 1 (made l)) laid.fields fits, tt);
      }

  -- a part whose record was put, or was not
  module _ (height : List F → ℕ) (high : (l : List F) (at : ℕ) → (refer l at).height ≡ height l) (breadth : ℕ) where
    pub behind_cause : (f : SaveFault) → IsHighFault (height row) f → IsLayFault breadth end (λ at. behind made refer (walk at)) before f
    behind_cause f is =
        let same : height row ≡ (refer all.fields all.next).height = ap height laid.fields ∙ sym (high all.fields all.next) in
        cause_up 0 (height row) breadth (refer all.fields all.next).height f (omega arith) (λ h. omega (arith, h, same)) is

    pub behind_result : (after : Bytes) (r : Result Stored SaveFault) → OnOk r (after ≡ out ++ spelling (made row)) → IfOk r (λ x. x ≡ refer row (end + length out)) → OnOk r (Fits 1 (made row)) → IfErr r (IsHighFault (height row))
        → MatchResult r (IsLaid end (λ at. behind made refer (walk at)) before after) (IsLayFault breadth end (λ at. behind made refer (walk at)) before)
    behind_result after (Ok x) put is fits cause = behind_laid after x put is fits
    behind_result after (Err f) put is fits cause = behind_cause f cause

-- what lays nothing
pub nothing_put : (out : Bytes) → out ≡ out ++ bytes_of []
nothing_put out = sym (append-nil out) ∙ ap (λ (b : Bytes). out ++ b) (sym bytes_none)

pub nothing_laid : (end : ℕ) (x : Stored) (out : Bytes) → IsLaid end (there x) out out x
nothing_laid end x out = record { bytes = nothing_put out; stands = refl; fits = tt }

-- what is only referred to, where there is memory
pub there_result : (end : ℕ) (x : Stored) (out : Bytes) (r : Result Stored SaveFault) (breadth : ℕ) → IfOk r (λ y. y ≡ x) → IfErr r (λ f. f ≡ Memory) → MatchResult r (IsLaid end (there x) out out) (IsLayFault breadth end (there x) out)
there_result end x out (Ok y) breadth is cause = subst (IsLaid end (there x) out out) (sym is) (nothing_laid end x out)
there_result end x out (Err f) breadth is cause = subst (IsLayFault breadth end (there x) out) (sym cause) tt
