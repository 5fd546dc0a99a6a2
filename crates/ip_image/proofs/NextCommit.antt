-- The commit record that is made of a commit's parts fits behind the records of its repository, and spells it.
--     named_parent      a commit record's name is that of the commit that it spells
--     next_number      the number that comes next is the slot's
--     commit_fits      the record of the next commit fits
--     spells_next      and spells it
use Rattle.std.proofs.Common.{◌≡◌, ◌≢◌, inl, ℕ, zero, suc, ◌+◌, ◌-◌, ◌<◌, ◌≤◌, List, [], ◌∷◌, refl, sym, ap, subst, ◌∙◌, Option, Some, None, Bool, true, false, cond, length, arith, map}
use Rattle.std.proofs.lemmas.Bool.{false≢true, true≢false, leb-true}
use Rattle.std.proofs.lemmas.Bool.Decides.{nat_tests}
use Rattle.std.proofs.lemmas.List.{get_or-map, length-map}
use Rattle.std.proofs.lemmas.List.Elements.{All-map, All-from_recursion, recursion_from_All}
use Rattle.std.proofs.lemmas.Slice.Zip.{AllZip-long}
use Rattle.std.specs.Prelude.{All, IfSome, IsTrue, is_some, not, option_map, unwrap_or, position, slice_get, get_or, nat_le, nat_lt, ◌==◌, ◌&&◌, if◌then◌else◌}
use Rattle.std.specs.List.{AllByRecursion, AllZip, prefix_len}
use Rattle.std.specs.Ordering.{is_eq}
use Rattle.sha2.specs.Sha256.{sha256}
use Rattle.ip_base.specs.declared.hash.Hash.{Hash}
use Rattle.ip_base.specs.declared.info.Info.{Info}
use Rattle.ip_ground.specs.Contents.{Image}
use Rattle.ip_spec.specs.declared.record.Record.{Record}
use Rattle.ip_spec.specs.declared.record.CommitRecord.{CommitRecord}
use Rattle.ip_spec.specs.declared.record.Parent.{Parent}
use Rattle.ip_spec.specs.Path.{Bytes, same_bytes}
use Rattle.ip_spec.specs.Record.{name_of, hashed_commit}
use Rattle.ip_spec.specs.Shape.{root_name}
use Rattle.ip_spec.specs.Tree.{Tree}
use Rattle.ip_spec.specs.TreeAt.{Records, present, TreeAt}
use Rattle.ip_spec.specs.Repository.{Repository, Commit, CommitParent, next, is_retained, name_at, number_named}
use Rattle.ip_spec.specs.Step.{new_commit, as_parent}
use Rattle.ip_spec.proofs.Subtrees.{step_itself}
use Rattle.ip_image.specs.Slot.{Slot, IsSlot}
use Rattle.ip_image.specs.Standing.{terms_of, CommitFits, IsEarlier, commits_in, outside, parent_of, Spells}
use Rattle.ip_image.specs.Appending.{MayGrow, fields_of}
use Rattle.ip_image.proofs.InChunk.{InChunk}
use Rattle.ip_image.proofs.TreeBatch.{commit_record}

-- ---- tests

below : (a b : ℕ) → nat_lt a b ≡ true → a < b
below a b e = grind (arith, nat_tests)

not_below : (a b : ℕ) → nat_lt a b ≡ false → b ≤ a
not_below a b e = grind (arith, nat_tests)

other : (a b : ℕ) → a < b → (a == b) ≡ false
other a b l = grind (arith, nat_tests)

both_first : (a b : Bool) → (a && b) ≡ true → a ≡ true
both_first true b e = refl
both_first false b e = e

both_second : (a b : Bool) → (a && b) ≡ true → b ≡ true
both_second true b e = e
both_second false b e = absurd (false≢true e)

-- ---- a name that no commit has

passes_none : {A : Type 0} (p : A → Bool) (xs : List A) → length xs ≤ prefix_len (λ x. not (p x)) xs → AllByRecursion (λ x. p x ≡ false) xs
passes_none p [] l = tt
passes_none p (x ∷ xs) l = by (p x) refl l (passes_none p xs)
  where
    by : (b : Bool) → p x ≡ b → suc (length xs) ≤ cond (not b) (1 + prefix_len (λ x. not (p x)) xs) 0 → (length xs ≤ prefix_len (λ x. not (p x)) xs → AllByRecursion (λ x. p x ≡ false) xs)
        → (p x ≡ false) × AllByRecursion (λ x. p x ≡ false) xs
    by true e l later = absurd (omega (arith, l))
    by false e l later = (e, later (omega (arith, l)))

no_position : {A : Type 0} (p : A → Bool) (xs : List A) → position p xs ≡ None → AllByRecursion (λ x. p x ≡ false) xs
no_position p xs none = passes_none p xs (not_below _ (length xs) (by (nat_lt (prefix_len (λ x. not (p x)) xs) (length xs)) none))
  where
    by : (b : Bool) → cond b (Some (prefix_len (λ x. not (p x)) xs)) None ≡ None → b ≡ false
    by true e = absurd (false≢true (sym (ap is_some e)))
    by false e = refl

not_named : (r : Repository) (hash : Hash) → number_named r hash ≡ None → AllByRecursion (λ c. same_bytes c.name hash ≡ false) r.commits
not_named r hash none = no_position (λ c. same_bytes c.name hash) r.commits (by (position (λ c. same_bytes c.name hash) r.commits) none)
  where
    by : (o : Option ℕ) → option_map (λ k. r.floor + k) o ≡ None → o ≡ None
    by None e = refl
    by (Some k) e = absurd (false≢true (sym (ap is_some e)))

hash_in : Hash → Option Hash → Hash
hash_in d None = d
hash_in d (Some hash) = hash

same_hash : (x y : Hash) → Some x ≡ Some y → x ≡ y
unfolding hash_in
same_hash x y e = ap (hash_in x) e

others_named : (records : Records) (hash : Hash) (cs : List CommitRecord) (ms : List Commit) → AllZip (Spells records) cs ms → AllByRecursion (λ (m : Commit). same_bytes m.name hash ≡ false) ms
    → AllByRecursion (λ c. name_of (Record.Commit c) ≢ Some hash) cs
others_named records hash [] [] zip none = tt
others_named records hash [] (m ∷ ms) zip none = absurd zip
others_named records hash (c ∷ cs) [] zip none = absurd zip
others_named records hash (c ∷ cs) (m ∷ ms) zip none = (
  (λ e.
      let same : m.name ≡ hash = same_hash m.name hash (sym zip.0.name ∙ e) in
      true≢false (sym (ap (λ (h : Hash). same_bytes h hash) same ∙ ap is_eq (step_itself hash)) ∙ none.0)),
  others_named records hash cs ms zip.1 none.1,
)

-- ---- parents

pub named_parent : (records : Records) (cs : List CommitRecord) (ms : List Commit) → AllZip (Spells records) cs ms → (k : ℕ)
    → IfSome (slice_get cs k) (λ c. name_of (Record.Commit c) ≡ Some (unwrap_or (option_map (λ c. c.name) (slice_get ms k)) []))
named_parent records [] ms zip k = tt
named_parent records (c ∷ cs) [] zip k = absurd zip
named_parent records (c ∷ cs) (m ∷ ms) zip zero = zip.0.name
named_parent records (c ∷ cs) (m ∷ ms) zip (suc k) = named_parent records cs ms zip.1 k

module _ (r : Repository) where
  abbrev stated : ℕ → Parent
  stated n = record { number = n; name = name_at r n }

  names_same : (ns : List ℕ) → map (λ (p : Parent). p.name) (map stated ns) ≡ map (λ (p : CommitParent). p.name) (map (as_parent r) ns)
  names_same [] = refl
  names_same (n ∷ ns) = ap (λ l. name_at r n ∷ l) (names_same ns)

  parents_same : (ns : List ℕ) → AllByRecursion (λ n. n < outside) ns → map (as_parent r) ns ≡ map parent_of (map stated ns)
  parents_same [] all = refl
  parents_same (n ∷ ns) all = λ i. record { number = if sym (other n outside all.0) i then None else Some n; name = name_at r n } ∷ parents_same ns all.1 i

-- ---- the next commit

module _ (s : Slot) (image : Image) (r : Repository) (fields : IsSlot s) (chunk : InChunk s image r) where
  pub next_number : next r ≡ s.next
  next_number =
      let long = AllZip-long (Spells chunk.records) (commits_in chunk.records) r.commits chunk.commits in
      let floor = chunk.floor in
      let is = chunk.fits.next in
      omega (arith, long, floor, is)

  -- offsets, and so the numbers of commits, are far below the number that stands for outside
  next_low : next r < outside
  next_low = let is = next_number in let low = fields.next in let end = fields.ends in omega (arith, is, low, end)

  retained_low : (n : ℕ) → IsTrue (is_retained r n) → n < next r
  retained_low n is = below n (next r) (both_second (nat_le r.floor n) _ is)

  retained_above : (n : ℕ) → IsTrue (is_retained r n) → s.floor ≤ n
  retained_above n is = let low = leb-true r.floor n (both_first (nat_le r.floor n) _ is) in let floor = chunk.floor in omega (arith, low, floor)

  module _ (tree : Tree) (parents : List ℕ) (info : Info) (branch : Bytes) (may : MayGrow r tree parents info branch) (root : ℕ) where
    abbrev c : CommitRecord
    c = commit_record tree (fields_of r parents info branch) root

    name_is : name_of (Record.Commit c) ≡ Some (new_commit r tree parents info).name
    name_is = ap (λ (names : List Hash). Some (sha256 (hashed_commit (root_name tree) names info))) (names_same r parents)

    pub spells_next : (records : Records) → TreeAt (present records) root tree → Spells records c (new_commit r tree parents info)
    spells_next records spelled = record {
      name = name_is;
      parents = parents_same r parents (recursion_from_All (λ n. n < outside) parents (λ k d l. let low = retained_low (get_or parents k d) (may.retained k d l) in let high = next_low in omega (arith, low, high)));
      info = refl;
      tree = spelled;
    }

    abbrev NamedIn : List CommitRecord → Parent → Type 0
    NamedIn cs p = s.floor ≤ p.number → p.number ≢ outside → IfSome (slice_get cs (p.number - s.floor)) (λ d. name_of (Record.Commit d) ≡ Some p.name)

    named_by : ℕ → ℕ → Hash
    named_by floor n = unwrap_or (option_map (λ (c : Commit). c.name) (slice_get r.commits (n - floor))) []

    name_at_is : (n : ℕ) → IsTrue (is_retained r n) → name_at r n ≡ named_by s.floor n
    unfolding named_by
    name_at_is n is =
        ap (λ b. unwrap_or (option_map (λ (c : Commit). c.name) (if b then slice_get r.commits (n - r.floor) else None)) []) (both_first (nat_le r.floor n) _ is)
        ∙ ap (λ (floor : ℕ). named_by floor n) chunk.floor

    named : (n : ℕ) → IsTrue (is_retained r n) → IfSome (slice_get (commits_in chunk.records) (n - s.floor)) (λ d. name_of (Record.Commit d) ≡ Some (name_at r n))
    unfolding named_by
    named n is = subst (λ (h : Hash). IfSome (slice_get (commits_in chunk.records) (n - s.floor)) (λ d. name_of (Record.Commit d) ≡ Some h)) (sym (name_at_is n is))
        (named_parent chunk.records (commits_in chunk.records) r.commits chunk.commits (n - s.floor))

    -- behind more records, whose commits are the same
    pub commit_fits : (before : Records) (at : ℕ) → commits_in before ≡ commits_in chunk.records → TreeAt (present before) root tree → root < at → CommitFits (terms_of s) before at c
    commit_fits before at same spelled low = record {
      number =
          (let long = AllZip-long (Spells chunk.records) (commits_in chunk.records) r.commits chunk.commits in
          let floor = chunk.floor in
          let all = ap length same in
          omega (arith, long, floor, all));
      root = (tree, spelled, refl);
      root_below = low;
      earlier = All-map (IsEarlier (terms_of s) (next r)) (stated r) parents (λ k d l. inl (retained_low (get_or parents k d) (may.retained k d l)));
      distinct = λ i j d low high. inl (λ e.
          let high' : j < length parents = subst (λ (n : ℕ). j < n) (length-map parents (stated r)) high in
          may.distinct i j d.number low high' (sym (number_at i d (omega (arith, low, high'))) ∙ e ∙ number_at j d high'));
      parents = subst (λ (cs : List CommitRecord). All (NamedIn cs) (map (stated r) parents)) (sym same)
          (All-map (NamedIn (commits_in chunk.records)) (stated r) parents (λ k d l low out. named (get_or parents k d) (may.retained k d l)));
      new_name = subst (λ (cs : List CommitRecord). All (λ d. name_of (Record.Commit d) ≢ name_of (Record.Commit c)) cs) (sym same)
          (All-from_recursion (λ d. name_of (Record.Commit d) ≢ name_of (Record.Commit c)) (commits_in chunk.records)
          (subst (λ (o : Option Hash). AllByRecursion (λ d. name_of (Record.Commit d) ≢ o) (commits_in chunk.records)) (sym name_is)
          (others_named chunk.records _ (commits_in chunk.records) r.commits chunk.commits (not_named r _ may.new_name))));
    }
      where
        number_at : (i : ℕ) (d : Parent) → i < length parents → (get_or (map (stated r) parents) i d).number ≡ get_or parents i d.number
        number_at i d l = ap (λ (p : Parent). p.number) (get_or-map (stated r) parents i d.number d l)
