-- What is done to trees as lists is what the definitions do to them as maps.
use Rattle.std.proofs.Common.{◌≡◌, ℕ, zero, suc, ◌+◌, ◌<◌, ◌≤◌, Bool, true, false, cond, List, [], ◌∷◌, ◌++◌, map, length, take, drop, get_or, refl, sym, ap, ◌∙◌, append_assoc, arith}
use Rattle.std.proofs.lemmas.List.{append-nil, length-map, drop-map, drop_all}
use Rattle.std.specs.Prelude.{Option, Some, None, is_some, option_map, not, ◌&&◌, ◌||◌, filter, filter_map, fold, max}
use Rattle.std.specs.List.{cons_option}
use Rattle.std.specs.Cmp.{IsTotalOrder}
use Rattle.std.specs.FinMap.Entries as E
use Rattle.std.specs.FinMap.Entries.{find, where_key}
use Rattle.std.specs.declared.cmp.Ordering.{Ordering}
use Rattle.std.specs.declared.cmp.Ordering.TheVariants.{Less, Equal, Greater}
use Rattle.ip_spec.specs.Map.{Map, empty, get, len, insert, insert_all, retain_keys, entries-insert}
use Rattle.std.specs.Cmp.Lexicographic.{nat_list_cmp_total}
use Rattle.ip_spec.specs.Path.{Bytes, Path, Step, path_cmp, bytes_cmp, same_bytes, after_prefix, is_prefix, is_related}
use Rattle.ip_spec.specs.declared.tree.Item.{Item}
use Rattle.ip_spec.specs.Tree.{is_empty, is_root, got_by, listed_by, got_at, listed_at, ways, widest}
use Rattle.ip_spec.specs.declared.tree.Listed.TheVariants as Listed
use Rattle.ip_spec.specs.Tree.{Tree, subtree, remove, place, put, graft, contents, height, entries_of, first_step, tree_runs}
use Rattle.ip_spec.proofs.TreeLaws.{path_total}
use Rattle.ip_model_trees.specs.Parts.{put_all, put_some, rest_of, beside, moved, first_in, step_in, item_in}
use Rattle.ip_model_trees.proofs.Lists.{again}
use Rattle.ip_model_trees.proofs.Placing.{split_at}

pub some_prefix : (p q : Path) → is_some (after_prefix p q) ≡ is_prefix p q
some_prefix [] q = refl
some_prefix (s ∷ p) [] = refl
some_prefix (s ∷ p) (r ∷ q) = by (same_bytes s r) (some_prefix p q)
  where
    by : (b : Bool) → is_some (after_prefix p q) ≡ is_prefix p q → is_some (cond b (after_prefix p q) None) ≡ (b && is_prefix p q)
    by true ih = ih
    by false ih = refl

-- ---- one element more of a list that is gone over

module _ {A K X : Type 0} (R : K → K → Ordering) where
  pub some_more : (f : A → Option (K × X)) (xs : List A) (i : ℕ) (x : A) (old new : List (K × X)) → i < length xs → x ≡ get_or xs i x → new ≡ put_some R (f x) old → put_all R new (filter_map f (drop (i + 1) xs)) ≡ put_all R old (filter_map f (drop i xs))
  some_more f xs i x old new low is e =
      ap (λ es. put_all R es (filter_map f (drop (i + 1) xs))) e ∙ (by (f x) ∙ sym (ap (λ ys. put_all R old (filter_map f ys)) (split_at xs i x low is)))
    where
      by : (o : Option (K × X)) → put_all R (put_some R o old) (filter_map f (drop (i + 1) xs)) ≡ put_all R old (cons_option o (filter_map f (drop (i + 1) xs)))
      by None = refl
      by (Some y) = refl

  pub put_more : (f : A → K × X) (xs : List A) (i : ℕ) (x : A) (old new : List (K × X)) → i < length xs → x ≡ get_or xs i x → new ≡ E.put R (f x).0 (f x).1 old → put_all R new (map f (drop (i + 1) xs)) ≡ put_all R old (map f (drop i xs))
  put_more f xs i x old new low is e = ap (λ es. put_all R es (map f (drop (i + 1) xs))) e ∙ sym (ap (λ ys. put_all R old (map f ys)) (split_at xs i x low is))

pub put_next : {K X : Type 0} (R : K → K → Ordering) (xs : List (K × X)) (i : ℕ) (x : K × X) (old new : List (K × X)) → i < length xs → x ≡ get_or xs i x → new ≡ E.put R x.0 x.1 old → put_all R new (drop (i + 1) xs) ≡ put_all R old (drop i xs)
put_next R xs i x old new low is e = ap (λ es. put_all R es (drop (i + 1) xs)) e ∙ sym (ap (put_all R old) (split_at xs i x low is))

pub kept_more : {A : Type 0} (p : A → Bool) (xs : List A) (i : ℕ) (x : A) (goes : Bool) (old new : List A) → i < length xs → x ≡ get_or xs i x → p x ≡ not goes → new ≡ old ++ cond goes [] (x ∷ []) → new ++ filter p (drop (i + 1) xs) ≡ old ++ filter p (drop i xs)
kept_more p xs i x goes old new low is test e =
    ap (λ ys. ys ++ filter p (drop (i + 1) xs)) e ∙ (by goes ∙ sym (ap (λ ys. old ++ filter p ys) (split_at xs i x low is) ∙ ap (λ b. old ++ cond b (x ∷ filter p (drop (i + 1) xs)) (filter p (drop (i + 1) xs))) test))
  where
    by : (b : Bool) → (old ++ cond b [] (x ∷ [])) ++ filter p (drop (i + 1) xs) ≡ old ++ cond (not b) (x ∷ filter p (drop (i + 1) xs)) (filter p (drop (i + 1) xs))
    by true = ap (λ ys. ys ++ filter p (drop (i + 1) xs)) (append-nil old)
    by false = append_assoc old (x ∷ []) (filter p (drop (i + 1) xs))

-- ---- maps

pub entries-insert_all : {K X : Type 0} {R : K → K → Ordering} → IsTotalOrder R → (m : Map R X) (es : List (K × X)) → (insert_all m es).entries ≡ put_all R m.entries es
entries-insert_all o m [] = refl
entries-insert_all {R = R} o m (e ∷ es) = entries-insert_all o (insert m e.0 e.1) es ∙ ap (λ xs. put_all R xs es) (entries-insert o m e.0 e.1)

where_alike : (f g : Path → Bool) → ((q : Path) → f q ≡ g q) → (es : List (Path × Bytes)) → where_key path_cmp f es ≡ where_key path_cmp g es
where_alike f g same [] = refl
where_alike f g same (e ∷ es) = ap (λ b. cond b (e ∷ where_key path_cmp f es) (where_key path_cmp f es)) (same e.0) ∙ ap (λ ys. cond (g e.0) (e ∷ ys) ys) (where_alike f g same es)

pub subtree_parts : (t : Tree) (p : Path) → (subtree t p).entries ≡ put_all path_cmp [] (filter_map (rest_of p) t.entries)
unfolding subtree empty
subtree_parts t p = entries-insert_all path_total empty (filter_map (rest_of p) t.entries)

pub remove_parts : (t : Tree) (p : Path) → (remove t p).entries ≡ where_key path_cmp (beside p false) t.entries
unfolding remove retain_keys
remove_parts t p = where_alike (λ q. not (is_prefix p q)) (beside p false) (λ q. by (is_prefix p q)) t.entries
  where
    by : (b : Bool) → not b ≡ not (b || false)
    by true = refl
    by false = refl

pub place_parts : (t u : Tree) (p : Path) → (place t p u).entries ≡ put_all path_cmp (where_key path_cmp (beside p true) t.entries) (map (moved p) u.entries)
unfolding place retain_keys
place_parts t u p = entries-insert_all path_total (retain_keys t (λ q. not (is_related p q))) (map (moved p) u.entries)

pub contents_parts : (b : Bytes) → (contents b).entries ≡ ([], b) ∷ []
unfolding tree_runs
contents_parts b = refl

pub mapped : {A B : Type 0} (f : A → B) (o : Option A) → is_some o ≡ is_some (option_map f o)
mapped f None = refl
mapped f (Some x) = refl

pub height_parts : (t : Tree) → height t ≡ fold (λ (n : ℕ) (e : Path × Bytes). max n (length e.0)) 0 t.entries
unfolding height
height_parts t = refl

pub put_is : (t : Tree) (p : Path) (b : Bytes) → place t p (contents b) ≡ put t p b
unfolding put
put_is t p b = refl

pub graft_is : (t u : Tree) (from to : Path) → place t to (subtree u from) ≡ graft t u from to
unfolding graft
graft_is t u from to = refl

-- ---- entries

module _ {K X Y : Type 0} (R : K → K → Ordering) (h : X → Y) where
  abbrev with_value : K × X → K × Y
  with_value e = (e.0, h e.1)

  map_put : (k : K) (v : X) (es : List (K × X)) → map with_value (E.put R k v es) ≡ E.put R k (h v) (map with_value es)
  map_put k v [] = refl
  map_put k v (e ∷ es) = by (R k e.0) (map_put k v es)
    where
      by : (o : Ordering) → map with_value (E.put R k v es) ≡ E.put R k (h v) (map with_value es)
          → map with_value (E.by_order o ((k, v) ∷ e ∷ es) ((e.0, v) ∷ es) (e ∷ E.put R k v es)) ≡ E.by_order o ((k, h v) ∷ map with_value (e ∷ es)) ((e.0, h v) ∷ map with_value es) (with_value e ∷ E.put R k (h v) (map with_value es))
      by Less ih = refl
      by Equal ih = refl
      by Greater ih = ap (λ ys. with_value e ∷ ys) ih

  map_put_all : (es fs : List (K × X)) → map with_value (put_all R es fs) ≡ put_all R (map with_value es) (map with_value fs)
  map_put_all es [] = refl
  map_put_all es (f ∷ fs) = map_put_all (E.put R f.0 f.1 es) fs ∙ ap (λ ys. put_all R ys (map with_value fs)) (map_put f.0 f.1 es)

map_filtered : {A B C : Type 0} (g : B → C) (f : A → Option B) (xs : List A) → map g (filter_map f xs) ≡ filter_map (λ x. option_map g (f x)) xs
map_filtered g f [] = refl
map_filtered {B = B} g f (x ∷ xs) = by (f x) (map_filtered g f xs)
  where
    by : (o : Option B) → map g (filter_map f xs) ≡ filter_map (λ x. option_map g (f x)) xs → map g (cons_option o (filter_map f xs)) ≡ cons_option (option_map g o) (filter_map (λ x. option_map g (f x)) xs)
    by None ih = ih
    by (Some y) ih = ap (λ ys. g y ∷ ys) ih

module _ {Y : Type 0} (h : Tree → Y) (t : Tree) where
  valued_parts : map (with_value bytes_cmp h) (entries_of t).entries ≡ put_all bytes_cmp [] (filter_map (λ (e : Path × Bytes). option_map (with_value bytes_cmp h) (first_step t e.0)) t.entries)
  unfolding entries_of empty
  valued_parts =
      let firsts = filter_map (λ (e : Path × Bytes). first_step t e.0) t.entries in
      ap (map (with_value bytes_cmp h)) (entries-insert_all nat_list_cmp_total empty firsts)
      ∙ (map_put_all bytes_cmp h [] firsts ∙ ap (put_all bytes_cmp []) (map_filtered (with_value bytes_cmp h) (λ (e : Path × Bytes). first_step t e.0) t.entries))

pub entries_parts : (t : Tree) → map (λ (e : Step × Tree). (e.0, e.1.entries)) (entries_of t).entries ≡ put_all bytes_cmp [] (filter_map (first_in t) t.entries)
entries_parts t = valued_parts (λ (u : Tree). u.entries) t

pub count_parts : (t : Tree) → length (put_all bytes_cmp [] (filter_map (step_in t) t.entries)) ≡ len (entries_of t)
count_parts t = ap length (sym (valued_parts (λ (u : Tree). tt) t)) ∙ length-map (entries_of t).entries (with_value bytes_cmp (λ (u : Tree). tt))

-- ---- what stands at a path

pub got_is : (t : Tree) (p : Path) → got_by (get (subtree t p) []) (is_empty (subtree t p) && not (is_root p)) (subtree t p) ≡ got_at t p
unfolding got_at
got_is t p = refl

pub listed_is : (t : Tree) (p : Path) → listed_by (get (subtree t p) []) (is_empty (subtree t p) && not (is_root p)) (subtree t p) ≡ listed_at t p
unfolding listed_at
listed_is t p = refl

pub listed_directory : (u : Tree) (es : List (Path × Bytes)) (b d : Bool) (items : List Item) (entries : List (Step × List (Path × Bytes))) → es ≡ u.entries → d ≡ is_some (find path_cmp [] es) → d ≡ false → b ≡ false → items ≡ map item_in entries
    → entries ≡ map (λ (e : Step × Tree). (e.0, e.1.entries)) (entries_of u).entries → Listed.Entries items ≡ listed_by (get u []) b u
listed_directory u es b d items entries is there none t listed from =
    ap Listed.Entries (listed ∙ (ap (map item_in) from ∙ again item_in (λ (e : Step × Tree). (e.0, e.1.entries)) (entries_of u).entries))
    ∙ sym (ap (λ o. listed_by o b u) (ap (find path_cmp []) (sym is) ∙ nothing (find path_cmp [] es) (sym there ∙ none)) ∙ ap (λ c. listed_by None c u) t)
  where
    nothing : (o : Option Bytes) → is_some o ≡ false → o ≡ None
    nothing None e = refl
    nothing (Some v) e = absurd (cc (e))

-- ---- the widest directory

pub fold_more : {A B : Type 0} (g : B → A → B) (xs : List A) (i : ℕ) (x : A) (old new : B) → i < length xs → x ≡ get_or xs i x → new ≡ g old x → fold g new (drop (i + 1) xs) ≡ fold g old (drop i xs)
fold_more g xs i x old new low is e = ap (λ n. fold g n (drop (i + 1) xs)) e ∙ sym (ap (fold g old) (split_at xs i x low is))

abbrev pub wider : Tree → ℕ → Path → ℕ
wider t m way = max m (len (entries_of (subtree t way)))

pub widest_parts : (t : Tree) → fold (λ (n : ℕ) (e : Path × Bytes). fold (wider t) n (ways e.0)) 0 t.entries ≡ widest t
unfolding widest
widest_parts t = refl

pub length-ways : (p : Path) → length (ways p) ≡ length p
length-ways [] = refl
length-ways (s ∷ p) = ap suc (length-map (ways p) (λ q. s ∷ q) ∙ length-ways p)

ways_from : (p : Path) (n : ℕ) → n < length p → drop n (ways p) ≡ take n p ∷ drop (suc n) (ways p)
ways_from [] n low = absurd (omega (arith, low))
ways_from (s ∷ p) zero low = refl
ways_from (s ∷ p) (suc n) low =
    drop-map (λ q. s ∷ q) n (ways p) ∙ (ap (map (λ q. s ∷ q)) (ways_from p n (omega (arith, low))) ∙ ap (λ ys. (s ∷ take n p) ∷ ys) (sym (drop-map (λ q. s ∷ q) (suc n) (ways p))))

pub ways_more : (t : Tree) (p : Path) (n old new count : ℕ) → n < length p → count ≡ len (entries_of (subtree t (take n p))) → new ≡ max old count → fold (wider t) new (drop (n + 1) (ways p)) ≡ fold (wider t) old (drop n (ways p))
ways_more t p n old new count low is e =
    let next : suc n ≡ n + 1 = omega arith in
    ap (λ m. fold (wider t) m (drop (n + 1) (ways p))) (e ∙ ap (max old) is)
    ∙ sym (ap (fold (wider t) old) (ways_from p n low ∙ ap (λ k. take n p ∷ drop k (ways p)) next))

pub ways_end : (p : Path) (n : ℕ) → length p ≤ n → drop n (ways p) ≡ []
ways_end p n past = let size = length-ways p in drop_all n (ways p) (omega (arith, past, size))
