-- The names of directories in small trees, entry by entry.
use Rattle.std.proofs.Common.{◌≡◌, Bool, true, false, ℕ, zero, suc, ◌+◌, ◌-◌, ◌<◌, ◌≤◌, List, [], ◌∷◌, ◌++◌, refl, sym, ap, subst, ◌∙◌, get_or, length, take, map, cond, arith}
use Rattle.std.specs.Prelude.{All, Option, Some, None, IsSome, not, is_some}
use Rattle.std.proofs.lemmas.List.{length-map, map-append, map_more, get_or-map}
use Rattle.std.specs.FinMap.Entries.{find}
use Rattle.std.specs.Cmp.Lexicographic.{nat_list_cmp_total}
use Rattle.sha2.specs.Sha256.{sha256}
use Rattle.ip_spec.specs.Map.{get, len}
use Rattle.ip_spec.specs.Path.{Bytes, Step, Path, bytes_cmp, path_cmp}
use Rattle.ip_spec.specs.Record.{Hash, Child}
use Rattle.ip_spec.specs.Step.{entries_limit}
use Rattle.ip_spec.specs.Tree.{Tree, is_empty, subtree, entries_of}
use Rattle.ip_spec.specs.Shape.{directory_name, entries_name}
use Rattle.ip_spec.proofs.Subtrees.{entry_found, get-subtree, subtree_root, narrow_under, same_itself}
use Rattle.ip_spec.proofs.Naming.{Member, member_found}
use Rattle.ip_model_trees.specs.declared.names.Entry.{Entry}
use Rattle.ip_model_trees.specs.Names.{paired, child_in, child_to}
use Rattle.ip_model_trees.specs.Small.{IsSmall}

abbrev Parts : Type 0
Parts = List (Path × Bytes)

-- ---- elements of lists

member_at : {A : Type 0} (xs : List A) (k : ℕ) (d : A) → k < length xs → Member (get_or xs k d) xs
member_at [] k d low = absurd (omega (arith, low))
member_at (x ∷ xs) zero d low = Member.here
member_at (x ∷ xs) (suc k) d low = Member.there (member_at xs k d (omega (arith, low)))

-- ---- what stands somewhere in a tree

record Somewhere (t : Tree) : Type 0 where
  path : Path
  some : IsSome (get t path)

somewhere : (t : Tree) → is_empty t ≡ false → Somewhere t
somewhere t some = by t.entries refl some
  where
    by : (es : Parts) → t.entries ≡ es → ◌≡◌ {A = Bool} (elim es [ [] ↦ true | _ ∷ _ ↦ false ]) false → Somewhere t
    by [] is none = absurd (cc (none))
    by (e ∷ es) is none = record { path = e.0; some = ap is_some (ap (find path_cmp e.0) is ∙ ap (λ b. cond b (Some e.1) (find path_cmp e.0 es)) (same_itself e.0)) }

-- ---- the entries of a small tree

record IsSmallEntry (e : Step × Tree) : Type 0 where
  pub tree : IsSmall e.1
  pub step : length e.0 ≤ 255

module _ (t : Tree) (small : IsSmall t) where
  few : length (entries_of t).entries ≤ entries_limit
  few = subst (λ (x : Tree). length (entries_of x).entries ≤ entries_limit) (subtree_root t) (small.entries [])

  under : (s : Step) (path : Path) → IsSome (get (subtree t (s ∷ [])) path) → All (λ step. length step ≤ 255) (s ∷ path)
  under s path some = small.steps (s ∷ path) (sym (ap is_some (get-subtree t (s ∷ []) path)) ∙ some)

  small_under : (s : Step) → is_empty (subtree t (s ∷ [])) ≡ false → IsSmallEntry (s, subtree t (s ∷ []))
  small_under s some = record {
    tree = record {
      steps = λ path there k d low. under s path there (suc k) d (omega (arith, low));
      entries = λ path. subst (λ (x : Tree). len (entries_of x) ≤ entries_limit) (sym (narrow_under t s path)) (small.entries (s ∷ path));
    };
    step = let deep = somewhere (subtree t (s ∷ [])) some in under s deep.path deep.some 0 s (omega arith);
  }

  small_entry : (e : Step × Tree) → Member e (entries_of t).entries → IsSmallEntry e
  small_entry e member =
      let found = entry_found t e.0 e.1 (member_found bytes_cmp nat_list_cmp_total (entries_of t).entries e (entries_of t).sorted member) in
      subst (λ (x : Tree). IsSmallEntry (e.0, x)) (sym found.is) (small_under e.0 found.some)

  small_at : (k : ℕ) (d : Step × Tree) → k < length (entries_of t).entries → IsSmallEntry (get_or (entries_of t).entries k d)
  small_at k d low = small_entry _ (member_at (entries_of t).entries k d low)

-- ---- what an entry leads to

abbrev pub named_in : ℕ → Step × Tree → Step × Child
named_in n e = (e.0, child_to n e.1)

abbrev child_by : ℕ → Tree → Option Bytes → Child
child_by n u o = elim o [ Some bytes ↦ (1, sha256 bytes) | None ↦ (2, directory_name n u) ]

module _ (n : ℕ) (u : Tree) (parts : Parts) (d : Bool) (name : Hash) (is : parts ≡ u.entries) (kind : d ≡ not (is_some (find path_cmp [] parts))) where
  pub contents_child : (bytes : Bytes) → Some bytes ≡ find path_cmp [] parts → name ≡ sha256 bytes → ◌≡◌ {A = Child} (cond d 2 1, name) (child_to n u)
  contents_child bytes found named =
      let here : Some bytes ≡ find path_cmp [] u.entries = found ∙ ap (find path_cmp []) is in
      let file : d ≡ false = kind ∙ ap (λ (o : Option Bytes). not (is_some o)) (sym found) in
      ap (λ (b : Bool). (cond b 2 1, name)) file ∙ (ap (λ (h : Hash). (1, h)) named ∙ ap (child_by n u) here)

  pub directory_child : None ≡ find path_cmp [] parts → name ≡ directory_name n u → ◌≡◌ {A = Child} (cond d 2 1, name) (child_to n u)
  directory_child found named =
      let here : None ≡ find path_cmp [] u.entries = found ∙ ap (find path_cmp []) is in
      let folder : d ≡ true = kind ∙ ap (λ (o : Option Bytes). not (is_some o)) (sym found) in
      ap (λ (b : Bool). (cond b 2 1, name)) folder ∙ (ap (λ (h : Hash). (2, h)) named ∙ ap (child_by n u) here)

-- ---- one entry more

abbrev pub seen : Step × Tree → Step × Parts
seen e = (e.0, e.1.entries)

pub named_more : (t : Tree) → IsSmall t → (n i : ℕ) (items : List (Step × Parts)) (item : Step × Parts) (old new : List Entry) (made : Entry) → items ≡ map seen (entries_of t).entries → i < length items → item ≡ get_or items i item
    → map paired old ≡ map (named_in n) (take i (entries_of t).entries) → new ≡ old ++ made ∷ [] → made.step ≡ item.0 → ((u : Tree) → IsSmall u → item.1 ≡ u.entries → child_in made ≡ child_to n u)
    → map paired new ≡ map (named_in n) (take (i + 1) (entries_of t).entries)
named_more t small n i items item old new made from low is before pushed step child =
    let es = (entries_of t).entries in
    let e = get_or es i (item.0, t) in
    let short : i < length es = subst (λ k. i < k) (ap length from ∙ length-map es seen) low in
    let at : item ≡ seen e = is ∙ (ap (λ (xs : List (Step × Parts)). get_or xs i item) from ∙ get_or-map seen es i (item.0, t) item short) in
    let good = small_at t small i (item.0, t) short in
    let last : paired made ≡ named_in n e = λ j. ((step ∙ ap (λ (x : Step × Parts). x.0) at) j, child e.1 good.tree (ap (λ (x : Step × Parts). x.1) at) j) in
    ap (map paired) pushed ∙ (map-append paired old (made ∷ []) ∙ (ap (λ ys. ys ++ paired made ∷ []) before ∙ (ap (λ (y : Step × Child). map (named_in n) (take i es) ++ y ∷ []) last
    ∙ sym (map_more (named_in n) es i (item.0, t) short))))

-- ---- all of them

pub directory_below : (n : ℕ) (t : Tree) → 0 < n → directory_name n t ≡ entries_name (map (named_in (n - 1)) (entries_of t).entries)
unfolding directory_name
directory_below zero t some = absurd (omega (arith, some))
directory_below (suc n) t some = let e : suc n - 1 ≡ n = omega arith in ap (λ k. entries_name (map (named_in k) (entries_of t).entries)) (sym e)

pub no_levels : (n : ℕ) (t : Tree) → n ≡ 0 → entries_name [] ≡ directory_name n t
unfolding directory_name
no_levels n t e = subst (λ k. entries_name [] ≡ directory_name k t) (sym e) refl

pub few_named : (t : Tree) → IsSmall t → (n : ℕ) (all : List Entry) → map paired all ≡ map (named_in n) (entries_of t).entries → length all ≤ entries_limit
few_named t small n all are = let h = few t small in subst (λ k. k ≤ entries_limit) (sym (sym (length-map all paired) ∙ (ap length are ∙ length-map _ _))) h

pub short_steps : (t : Tree) → IsSmall t → (n : ℕ) (all : List Entry) → map paired all ≡ map (named_in n) (entries_of t).entries → All (λ e. length e.step ≤ 255) all
short_steps t small n all are k d low =
    let es = (entries_of t).entries in
    let same : length all ≡ length es = sym (length-map all paired) ∙ (ap length are ∙ length-map _ _) in
    let short : k < length es = subst (λ m. k < m) same low in
    let pair = paired d in
    let at : paired (get_or all k d) ≡ named_in n (get_or es k (d.step, t)) = sym (get_or-map paired all k d pair low) ∙ (ap (λ (xs : List (Step × Child)). get_or xs k pair) are ∙ get_or-map (named_in n) es k (d.step, t) pair short) in
    subst (λ (s : Step). length s ≤ 255) (sym (ap (λ (x : Step × Child). x.0) at)) (small_at t small k (d.step, t) short).step
