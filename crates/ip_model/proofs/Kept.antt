-- What is told of the commits of a repository that the model keeps.
use Rattle.std.proofs.Common.{◌≡◌, ℕ, zero, suc, ◌+◌, ◌-◌, ◌<◌, List, [], ◌∷◌, ◌++◌, refl, sym, ap, subst, ◌∙◌, Bool, true, false, cond, map, length, arith}
use Rattle.std.specs.Prelude.{◌||◌, All, Contains, Option, Some, None, IfSome, is_some, MatchResult, option_map, unwrap_or, reverse, filter_map, slice_get, position, nat_le, if◌then◌else◌}
use Rattle.std.specs.List.{AllByRecursion, list_any, cons_option}
use Rattle.std.proofs.lemmas.Bool.Decides.{nat_tests}
use Rattle.std.proofs.lemmas.List.{length-map, map-append, length-reverse, get_or-reverse}
use Rattle.std.proofs.lemmas.List.FromFn.{length-range_with_len, get_or-range_with_len}
use Rattle.std.proofs.lemmas.List.Elements.{recursion_from_All, All-from_recursion, All-contains, All-filter}
use Rattle.std.proofs.lemmas.Option.{slice_get-map}
use Rattle.std.proofs.lemmas.Iterator.Adapters.{position_from-zero}
use Rattle.std.specs.List.{position_from}
use Rattle.ip_spec.specs.declared.record.Parent.{Parent}
use Rattle.ip_spec.specs.declared.reply.Reply.{Reply}
use Rattle.ip_spec.specs.Path.{Bytes, same_bytes}
use Rattle.ip_spec.specs.Record.{Hash, Info}
use Rattle.ip_spec.specs.Tree.{Tree}
use Rattle.ip_spec.specs.Shape.{root_name}
use Rattle.ip_spec.specs.Repository as Repository
use Rattle.ip_spec.specs.Repository.{Repository, CommitParent, IsRepository, IsCommit, commit_at, commit_name, is_retained, name_at, number_named}
use Rattle.ip_spec.specs.History.{retained_number, ParentsFirst, ancestors, common, lcas, retained}
use Rattle.ip_spec.specs.Step.{as_parent, new_commit, refuse_if, with_commit, commit_reply}
use Rattle.ip_history.specs.History.{Shows, history_of}
use Rattle.ip_history.proofs.Lists.{none}
use Rattle.ip_history.proofs.Shown.{shown}
use Rattle.ip_model_trees.proofs.Lists.{again}
use Rattle.ip_model.specs.declared.commits.Commit.{Commit}
use Rattle.ip_model.specs.Commits.{Told, told, kept, as_kept, IsOf, IsNext, name_in, history_in, told_reply}

-- ---- lists and options

alike : {A B : Type 0} (f g : A → B) → ((x : A) → f x ≡ g x) → (xs : List A) → map f xs ≡ map g xs
alike f g same [] = refl
alike f g same (x ∷ xs) = ap (λ y. y ∷ map f xs) (same x) ∙ ap (λ ys. g x ∷ ys) (alike f g same xs)

composed : {A B C : Type 0} (g : B → C) (f : A → B) (o : Option A) → option_map g (option_map f o) ≡ option_map (λ x. g (f x)) o
composed g f None = refl
composed g f (Some x) = refl

any_mapped : {A B : Type 0} (p : B → Bool) (f : A → B) (xs : List A) → list_any p (map f xs) ≡ list_any (λ x. p (f x)) xs
any_mapped p f [] = refl
any_mapped p f (x ∷ xs) = ap (λ b. p (f x) || b) (any_mapped p f xs)

found_from : {A : Type 0} (p : A → Bool) (i : ℕ) (xs : List A) → is_some (position_from p i xs) ≡ list_any p xs
found_from p i [] = refl
found_from p i (x ∷ xs) = by (p x) (found_from p (i + 1) xs)
  where
    by : (b : Bool) → is_some (position_from p (i + 1) xs) ≡ list_any p xs → is_some (cond b (Some i) (position_from p (i + 1) xs)) ≡ (b || list_any p xs)
    by true ih = refl
    by false ih = ih

position_mapped : {A B : Type 0} (p : B → Bool) (f : A → B) (i : ℕ) (xs : List A) → position_from p i (map f xs) ≡ position_from (λ x. p (f x)) i xs
position_mapped p f i [] = refl
position_mapped p f i (x ∷ xs) = ap (cond (p (f x)) (Some i)) (position_mapped p f (i + 1) xs)

unmoved : (o : Option ℕ) → option_map (λ k. 0 + k) o ≡ o
unmoved None = refl
unmoved (Some k) = let e : 0 + k ≡ k = omega arith in ap Some e

mapped_some : {A B : Type 0} (f : A → B) (o : Option A) → is_some (option_map f o) ≡ is_some o
mapped_some f None = refl
mapped_some f (Some x) = refl

-- ---- numbers of retained commits

below_same : {B : Type 0} (k : ℕ) (f g : ℕ → B) → ((n : ℕ) → n < k → f n ≡ g n) → (ns : List ℕ) → AllByRecursion (λ n. n < k) ns → map f ns ≡ map g ns
below_same k f g same [] below = refl
below_same k f g same (n ∷ ns) below = ap (λ y. y ∷ map f ns) (same n below.0) ∙ ap (λ ys. g n ∷ ys) (below_same k f g same ns below.1)

all_below : {B : Type 0} (k : ℕ) (f g : ℕ → B) → ((n : ℕ) → n < k → f n ≡ g n) → (ns : List ℕ) → All (λ n. n < k) ns → map f ns ≡ map g ns
all_below k f g same ns below = below_same k f g same ns (recursion_from_All (λ (n : ℕ). n < k) ns below)

reversed : (k : ℕ) (ns : List ℕ) → All (λ n. n < k) ns → All (λ n. n < k) (reverse ns)
reversed k ns all i d l =
    let size = length-reverse ns in
    let low : i < length ns = omega (arith, l, size) in
    subst (λ n. n < k) (sym (get_or-reverse ns i d low)) (all (length ns - 1 - i) d (omega (arith, low)))

parent_names : (ps : List Parent) → map (λ (p : CommitParent). p.name) (map as_kept ps) ≡ map (λ (p : Parent). p.name) ps
parent_names ps = again (λ (p : CommitParent). p.name) as_kept ps

parent_numbers : (ps : List Parent) → filter_map (λ (p : CommitParent). p.number) (map as_kept ps) ≡ map (λ (p : Parent). p.number) ps
parent_numbers [] = refl
parent_numbers (p ∷ ps) = ap (λ ns. p.number ∷ ns) (parent_numbers ps)

-- ---- a repository with these commits

abbrev numbers : List CommitParent → List ℕ
numbers ps = filter_map (λ (p : CommitParent). p.number) ps

abbrev reply_of : ℕ → Option Told → Reply
reply_of n None = Reply.Accepted
reply_of n (Some t) = Reply.Commit t.name n t.root (map (λ (p : CommitParent). p.name) t.parents) t.info

module _ (ms : List Commit) (r : Repository) (of : IsOf ms r) where
  pub size : length r.commits ≡ length ms
  size = sym (length-map r.commits told) ∙ (ap length of.commits ∙ length-map ms kept)

  pub place : (n : ℕ) → commit_at r n ≡ slice_get r.commits n
  place n =
      let floor = of.floor in
      let least : nat_le r.floor n ≡ true = grind (arith, nat_tests, floor) in
      let e : n - r.floor ≡ n = omega (arith, floor) in
      rw least (ap (slice_get r.commits) e)

  found : (n : ℕ) → option_map told (commit_at r n) ≡ option_map kept (slice_get ms n)
  found n = ap (option_map told) (place n) ∙ (sym (slice_get-map told r.commits n) ∙ (ap (λ (ts : List Told). slice_get ts n) of.commits ∙ slice_get-map kept ms n))

  name_found : (n : ℕ) → option_map (λ (c : Repository.Commit). c.name) (commit_at r n) ≡ option_map (λ (m : Commit). m.name) (slice_get ms n)
  name_found n = sym (composed (λ (t : Told). t.name) told (commit_at r n)) ∙ (ap (option_map (λ (t : Told). t.name)) (found n) ∙ composed (λ (t : Told). t.name) kept (slice_get ms n))

  in_reach : (xs : List Commit) (n : ℕ) → n < length xs → name_in xs n ≡ unwrap_or (option_map (λ (m : Commit). m.name) (slice_get xs n)) []
  in_reach [] n low = absurd (omega (arith, low))
  in_reach (x ∷ xs) zero low = refl
  in_reach (x ∷ xs) (suc n) low = in_reach xs n (omega (arith, low))

  pub named : (n : ℕ) → n < length ms → name_in ms n ≡ name_at r n
  named n low = in_reach ms n low ∙ ap (λ o. unwrap_or o []) (sym (name_found n))

  -- ---- what `show` tells

  pub shown_found : (n : ℕ) (m : Commit) → slice_get ms n ≡ Some m → told_reply n m ≡ commit_reply r n
  shown_found n m is = sym (by (commit_at r n) ∙ (ap (reply_of n) (found n ∙ ap (option_map kept) is) ∙ ap (λ hs. Reply.Commit m.name n m.root hs m.info) (parent_names m.parents)))
    where
      by : (o : Option Repository.Commit) → elim o [ None ↦ Reply.Accepted | Some c ↦ Reply.Commit c.name n (root_name c.tree) (map (λ p. p.name) c.parents) c.info ] ≡ reply_of n (option_map told o)
      by None = refl
      by (Some c) = refl

  pub shown_none : (n : ℕ) → slice_get ms n ≡ None → Reply.Accepted ≡ commit_reply r n
  shown_none n is = sym (by (commit_at r n) ∙ ap (reply_of n) (found n ∙ ap (option_map kept) is))
    where
      by : (o : Option Repository.Commit) → elim o [ None ↦ Reply.Accepted | Some c ↦ Reply.Commit c.name n (root_name c.tree) (map (λ p. p.name) c.parents) c.info ] ≡ reply_of n (option_map told o)
      by None = refl
      by (Some c) = refl

  -- ---- the history

  same_history : history_in ms ≡ history_of r
  same_history i = record { floor = sym of.floor i; parents = sym lists i }
    where
      lists : map (λ (c : Repository.Commit). numbers c.parents) r.commits ≡ map (λ (m : Commit). map (λ (p : Parent). p.number) m.parents) ms
      lists =
          sym (again (λ (t : Told). numbers t.parents) told r.commits) ∙ (ap (map (λ (t : Told). numbers t.parents)) of.commits
          ∙ (again (λ (t : Told). numbers t.parents) kept ms ∙ alike (λ (m : Commit). numbers (map as_kept m.parents)) (λ (m : Commit). map (λ (p : Parent). p.number) m.parents) (λ m. parent_numbers m.parents) ms))

  pub shows : IsRepository r → Shows (history_in ms) r
  shows is = subst (λ h. Shows h r) (sym same_history) (shown r is)

  numbers_retained : All (λ n. n < length ms) (retained r)
  numbers_retained k d l =
      let long = length-range_with_len r.floor (length r.commits) in
      let low : k < length r.commits = omega (arith, l, long) in
      let floor = of.floor in
      let many = size in
      subst (λ n. n < length ms) (sym (get_or-range_with_len r.floor (length r.commits) k d low)) (omega (arith, floor, many, low))

  names_of_all : (ns : List ℕ) → All (λ n. n < length ms) ns → map (λ (p : Parent). p.name) (map (λ (n : ℕ). record { number = n; name = name_in ms n }) ns) ≡ map (name_at r) ns
  names_of_all ns below = again (λ (p : Parent). p.name) (λ (n : ℕ). record { number = n; name = name_in ms n }) ns ∙ all_below (length ms) (name_in ms) (name_at r) named ns below

  pub logged : (n : ℕ) → map (λ (p : Parent). p.name) (map (λ (n : ℕ). record { number = n; name = name_in ms n }) (reverse (ancestors r n))) ≡ map (name_at r) (reverse (ancestors r n))
  unfolding ancestors
  logged n = names_of_all _ (reversed (length ms) _ (All-filter _ (λ m. m < length ms) (retained r) numbers_retained))

  pub least_named : (a b : ℕ) → map (λ (p : Parent). p.name) (map (λ (n : ℕ). record { number = n; name = name_in ms n }) (lcas r a b)) ≡ map (name_at r) (lcas r a b)
  unfolding common
  least_named a b = names_of_all _ (All-filter _ (λ m. m < length ms) _ (All-filter _ (λ m. m < length ms) (retained r) numbers_retained))

  -- ---- one commit more

  pub as_parents : (ns : List ℕ) → All (λ n. n < length ms) ns → map as_kept (map (λ (n : ℕ). record { number = n; name = name_in ms n }) ns) ≡ map (as_parent r) ns
  as_parents ns below =
      again as_kept (λ (n : ℕ). record { number = n; name = name_in ms n }) ns
      ∙ all_below (length ms) (λ n. as_kept (record { number = n; name = name_in ms n })) (as_parent r) (λ n low. ap (λ (h : Hash). record { number = Some n; name = h }) (named n low)) ns below

  pub names_as_parents : (ns : List ℕ) → All (λ n. n < length ms) ns → map (λ (p : CommitParent). p.name) (map (as_parent r) ns) ≡ map (λ (p : Parent). p.name) (map (λ (n : ℕ). record { number = n; name = name_in ms n }) ns)
  names_as_parents ns below = ap (map (λ (p : CommitParent). p.name)) (sym (as_parents ns below)) ∙ parent_names _

  taken : (hash : Hash) → is_some (number_named r hash) ≡ list_any (λ (m : Commit). same_bytes m.name hash) ms
  taken hash =
      mapped_some (λ k. r.floor + k) (position (λ (c : Repository.Commit). same_bytes c.name hash) r.commits)
      ∙ (ap is_some (position_from-zero (λ (c : Repository.Commit). same_bytes c.name hash) r.commits)
      ∙ (found_from (λ (c : Repository.Commit). same_bytes c.name hash) 0 r.commits
      ∙ (sym (any_mapped (λ (t : Told). same_bytes t.name hash) told r.commits)
      ∙ (ap (list_any (λ (t : Told). same_bytes t.name hash)) of.commits ∙ any_mapped (λ (t : Told). same_bytes t.name hash) kept ms))))

  pub placed : (hash : Hash) → number_named r hash ≡ position (λ (m : Commit). same_bytes m.name hash) ms
  placed hash =
      let p = λ (c : Repository.Commit). same_bytes c.name hash in
      let q = λ (t : Told). same_bytes t.name hash in
      let m = λ (m : Commit). same_bytes m.name hash in
      ap (λ f. option_map (λ k. f + k) (position p r.commits)) of.floor ∙ (unmoved (position p r.commits)
      ∙ (position_from-zero p r.commits
      ∙ (sym (position_mapped q told 0 r.commits) ∙ (ap (position_from q 0) of.commits ∙ (position_mapped q kept 0 ms ∙ sym (position_from-zero m ms))))))

  module _ (root : Hash) (tree : Tree) (ns : List ℕ) (info : Info) (is_root : root ≡ root_name tree) (below : All (λ n. n < length ms) ns) where
    abbrev c : Repository.Commit
    c = new_commit r tree ns info

    abbrev made : Commit
    made = record { name = c.name; parents = map (λ (n : ℕ). record { number = n; name = name_in ms n }) ns; info = info; root = root }

    same_told : told c ≡ kept made
    same_told i = record { name = c.name; parents = sym (as_parents ns below) i; info = info; root = sym is_root i }

    more : (branch : Bytes) → IsOf (ms ++ made ∷ []) (with_commit r c branch)
    more branch = record {
      floor = of.floor;
      commits = map-append told r.commits (c ∷ []) ∙ (ap (λ (ts : List Told). ts ++ told c ∷ []) of.commits ∙ (ap (λ (t : Told). map kept ms ++ t ∷ []) same_told ∙ sym (map-append kept ms (made ∷ []))));
    }

    named_so : (name : Hash) → name ≡ c.name → is_some (number_named r c.name) ≡ list_any (λ (m : Commit). same_bytes m.name name) ms
    named_so name e = taken c.name ∙ ap (λ h. list_any (λ (m : Commit). same_bytes m.name h) ms) (sym e)

    pub existing : (name : Hash) → name ≡ c.name → list_any (λ (m : Commit). same_bytes m.name name) ms ≡ true → IsNext r c (Reply.Existing name) ms
    existing name e t = by (is_some (number_named r c.name)) (named_so name e ∙ t)
      where
        by : (b : Bool) → b ≡ true → MatchResult (refuse_if b (Reply.Existing c.name)) (λ _. (Reply.Existing name ≡ Reply.Committed c.name) × ((branch : Bytes) → IsOf ms (with_commit r c branch))) (λ refused. (Reply.Existing name ≡ refused) × IsOf ms r)
        by true t = (ap Reply.Existing e, of)
        by false t = absurd (cc (t))

    pub committed : (name : Hash) (new : List Commit) → name ≡ c.name → list_any (λ (m : Commit). same_bytes m.name name) ms ≡ false → new ≡ ms ++ record { name = name; parents = map (λ (n : ℕ). record { number = n; name = name_in ms n }) ns; info = info; root = root } ∷ [] → IsNext r c (Reply.Committed name) new
    committed name new e t is = by (is_some (number_named r c.name)) (named_so name e ∙ t)
      where
        last : new ≡ ms ++ made ∷ []
        last = is ∙ ap (λ (h : Hash). ms ++ record { name = h; parents = map (λ (n : ℕ). record { number = n; name = name_in ms n }) ns; info = info; root = root } ∷ []) e

        by : (b : Bool) → b ≡ false → MatchResult (refuse_if b (Reply.Existing c.name)) (λ _. (Reply.Committed name ≡ Reply.Committed c.name) × ((branch : Bytes) → IsOf new (with_commit r c branch))) (λ refused. (Reply.Committed name ≡ refused) × IsOf new r)
        by true t = absurd (cc (t))
        by false t = (ap Reply.Committed e, λ branch. subst (λ xs. IsOf xs (with_commit r c branch)) (sym last) (more branch))

-- a parent's number is less than the child's
pub parents_first : (r : Repository) → IsRepository r → ParentsFirst r
parents_first r is n p at = by (commit_at r n) (is.commits n) at
  where
    each : (ps : List CommitParent) → AllByRecursion (λ (q : CommitParent). IfSome q.number (λ m. m < n)) ps → AllByRecursion (λ m. m < n) (filter_map (λ (q : CommitParent). retained_number r q.number) ps)
    each [] below = tt
    each (q ∷ ps) below = pick q.number below.0 (each ps below.1)
      where
        rest : List ℕ
        rest = filter_map (λ (q : CommitParent). retained_number r q.number) ps

        pick : (o : Option ℕ) → IfSome o (λ m. m < n) → AllByRecursion (λ m. m < n) rest → AllByRecursion (λ m. m < n) (cons_option (retained_number r o) rest)
        pick None low ih = ih
        pick (Some m) low ih = put (is_retained r m)
          where
            put : (b : Bool) → AllByRecursion (λ m. m < n) (cons_option (if b then Some m else None) rest)
            put true = (low, ih)
            put false = ih

    by : (o : Option Repository.Commit) → IfSome o (λ c. IsCommit n c) → Contains (filter_map (λ (q : CommitParent). retained_number r q.number) (unwrap_or (option_map (λ c. c.parents) o) [])) p → p < n
    by None good at = none p at
    by (Some c) good at = All-contains (λ m. m < n) _ p (All-from_recursion (λ m. m < n) _ (each c.parents (recursion_from_All (λ (q : CommitParent). IfSome q.number (λ m. m < n)) c.parents good.parents))) at
