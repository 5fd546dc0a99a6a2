-- A directory after an edit, of which some parts may not be read.
use Rattle.std.proofs.Common.{◌≡◌, Bool, true, false, not, ℕ, List, [], ◌∷◌, filter, subst, sym, ap, ◌∙◌, refl, Option, Some, None}
use Rattle.std.specs.Prelude.{cond, T, ◌&&◌, ◌||◌, is_some, is_none}
use Rattle.std.specs.Map.{set_value}
use Rattle.std.specs.Ordering.{is_eq}
use Rattle.std.specs.declared.cmp.Ordering.{Ordering}
use Rattle.std.specs.declared.cmp.Ordering.TheVariants.{Less, Equal, Greater}
use Rattle.std.proofs.lemmas.Bool.{false≢true}
use Rattle.std.specs.FinMap.Entries.{by_order, find, put}
use Rattle.ip_spec.specs.Path.{Step, bytes_cmp, same_bytes}
use Rattle.ip_spec.specs.Shape.{deepest}
use Rattle.ip_shape.specs.Shape.{AreSteps, IsPart, add, ascend, has, is_below_all, take_out}
use Rattle.ip_shape.specs.Loaded.{unread_in, way_to, IsRead, IsLessened}
use Rattle.ip_shape.specs.Directory.{steps_of, without, root_of, is_read_to, IsTaken, IsPartly, IsDir}
use Rattle.ip_shape.specs.declared.dir.Dir.{Dir}
use Rattle.ip_shape.specs.declared.part.Part.{Part}
use Rattle.ip_shape.proofs.Entries.{AreSteps-add, below_absent, has_of, steps_put, steps_without, without_absent}
use Rattle.ip_shape.proofs.Steps.{AreSteps-filter, below_through, equal, first, second, filter-add, same_step}
use Rattle.ip_shape.proofs.Members.{has-add, has-filter, out_none, out_swaps, same_steps}

pub filter_alike : {A : Type 0} (p q : A → Bool) (xs : List A) → ((x : A) → p x ≡ q x) → filter p xs ≡ filter q xs
filter_alike p q [] same = refl
filter_alike p q (x ∷ xs) same = ap (λ b. cond b (x ∷ filter p xs) (filter p xs)) (same x) ∙ ap (λ ys. cond (q x) (x ∷ ys) ys) (filter_alike p q xs same)

both_true : (a b : Bool) → (a && b) ≡ true → b ≡ true
both_true true b e = e
both_true false b e = absurd (false≢true e)

first_true : (a b : Bool) → (a && b) ≡ true → a ≡ true
first_true true b e = refl
first_true false b e = e

absorbed : (a b : Bool) → (a ≡ true → b ≡ true) → (a || b) ≡ b
absorbed true b to = sym (to refl)
absorbed false b to = refl

pub add_again : (s : Step) (steps : List Step) → AreSteps steps → has s steps ≡ true → add s steps ≡ steps
add_again s steps ascend is_in =
    same_steps (add s steps) steps (AreSteps-add s steps ascend) ascend
    (λ q. has-add q s steps ∙ absorbed (same_bytes q s) (has q steps) (λ e. ap (λ t. has t steps) (same_step q s (equal _ e)) ∙ is_in))

module _ {R : Type 0} where
  abbrev pub reaches : Part R → Step → Bool
  reaches root s = is_none (unread_in (way_to s) root)

  abbrev pub SameUnread : Part R → Part R → Type 0
  SameUnread old new = (is : List ℕ) → unread_in is new ≡ unread_in is old

  filtered : (old new : Part R) (steps : List Step) → SameUnread old new → filter (reaches old) steps ≡ filter (reaches new) steps
  filtered old new steps same = filter_alike (reaches old) (reaches new) steps (λ s. ap is_none (sym (same (way_to s))))

  -- a directory that was read whole
  pub all_read : (root : Part R) (steps : List Step) → IsRead root → filter (reaches root) steps ≡ steps
  all_read root [] read = refl
  all_read root (s ∷ ss) read = ap (λ o. cond (is_none o) (s ∷ filter (reaches root) ss) (filter (reaches root) ss)) (read (way_to s)) ∙ ap (λ l. s ∷ l) (all_read root ss read)

module _ {C R : Type 0} where
  abbrev pub Stands : Part R → List Step → List (Step × C) → Type 0
  Stands root steps entries = AreSteps steps × IsPart deepest 0 steps root × (steps_of entries ≡ filter (reaches root) steps)

  -- a step among the entries is one of the directory; and one that is read to is among them
  pub stands_in : (root : Part R) (steps : List Step) (entries : List (Step × C)) (s : Step) → steps_of entries ≡ filter (reaches root) steps → is_some (find bytes_cmp s entries) ≡ (reaches root s && has s steps)
  stands_in root steps entries s are = sym (has_of s entries) ∙ ap (has s) are ∙ has-filter (reaches root) s steps

  pub in_steps : (root : Part R) (steps : List Step) (entries : List (Step × C)) (s : Step) → steps_of entries ≡ filter (reaches root) steps → is_some (find bytes_cmp s entries) ≡ true → has s steps ≡ true
  in_steps root steps entries s are found = both_true (reaches root s) (has s steps) (sym (stands_in root steps entries s are) ∙ found)

  pub read_is : (root : Part R) (steps : List Step) (entries : List (Step × C)) (s : Step) → steps_of entries ≡ filter (reaches root) steps → reaches root s ≡ true → is_some (find bytes_cmp s entries) ≡ has s steps
  read_is root steps entries s are read = stands_in root steps entries s are ∙ ap (λ b. b && has s steps) read

  -- and each part on the way to an entry was read
  pub read_there : (root : Part R) (steps : List Step) (entries : List (Step × C)) (s : Step) → steps_of entries ≡ filter (reaches root) steps → is_some (find bytes_cmp s entries) ≡ true → reaches root s ≡ true
  read_there root steps entries s are found = first_true (reaches root s) (has s steps) (sym (stands_in root steps entries s are) ∙ found)

  pub stands_still : (old new : Part R) (steps : List Step) (entries : List (Step × C)) → Stands old steps entries → IsPart deepest 0 steps new → SameUnread old new → Stands new steps entries
  stands_still old new steps entries is shape same = (is.0, shape, is.2 ∙ filtered old new steps same)

  pub stands_put : (old new : Part R) (steps : List Step) (entries : List (Step × C)) (s : Step) (x : C) → Stands old steps entries → reaches old s ≡ true → IsPart deepest 0 (add s steps) new → SameUnread old new
      → Stands new (add s steps) (put bytes_cmp s x entries)
  stands_put old new steps entries s x is read shape same = (
    AreSteps-add s steps is.0,
    shape,
    steps_put s x entries ∙ ap (add s) is.2 ∙ ap (λ b. cond b (add s (filter (reaches old) steps)) (filter (reaches old) steps)) (sym read) ∙ sym (filter-add (reaches old) s steps is.0) ∙ filtered old new (add s steps) same,
  )

  pub stands_less : (old new : Part R) (steps : List Step) (entries : List (Step × C)) (s : Step) → Stands old steps entries → IsPart deepest 0 (take_out s steps) new → SameUnread old new
      → Stands new (take_out s steps) (without s entries)
  stands_less old new steps entries s is shape same = (
    AreSteps-filter (λ t. not (same_bytes s t)) steps is.0,
    shape,
    steps_without s entries ∙ ap (take_out s) is.2 ∙ out_swaps (reaches old) s steps ∙ filtered old new (take_out s steps) same,
  )

  -- where nothing is at a step, there is nothing to take out
  pub stands_absent : (root : Part R) (steps : List Step) (entries : List (Step × C)) (s : Step) → Stands root steps entries → reaches root s ≡ true → is_some (find bytes_cmp s entries) ≡ false
      → (without s entries ≡ entries) × (take_out s steps ≡ steps)
  stands_absent root steps entries s is read none = (
    without_absent s entries (has_of s entries ∙ none),
    out_none s steps (sym (read_is root steps entries s is.2 read) ∙ none),
  )

  pub taken_some : (removed : Option C) (s : Step) (steps : List Step) (old new : Part R) → is_some removed ≡ true → IsLessened deepest 0 s steps old new → IsTaken removed s steps old new
  taken_some None s steps old new e less = absurd (false≢true e)
  taken_some (Some child) s steps old new e less = less

  -- a directory that was read whole, with one entry more
  pub whole_read : (dir : Dir C R) (es : List (Step × C)) (s : Step) → IsDir dir es → is_read_to dir s ≡ true
  whole_read dir es s is = ap is_none (is.1 (way_to s))

  pub whole_put : (dir new : Dir C R) (es : List (Step × C)) (s : Step) (x : C) → IsDir dir es → IsPartly new (add s (steps_of es)) (put bytes_cmp s x es) → SameUnread (root_of dir) (root_of new) → IsDir new (put bytes_cmp s x es)
  whole_put dir new es s x is more same = (subst (λ (ss : List Step). IsPartly new ss (put bytes_cmp s x es)) (sym (steps_put s x es)) more, λ q. same q ∙ is.1 q)

below_none : {C : Type 0} (s : Step) (es : List (Step × C)) → T (is_below_all s (steps_of es)) → is_some (find bytes_cmp s es) ≡ false
below_none s es below = sym (has_of s es) ∙ below_absent s (steps_of es) below

module _ {C : Type 0} where
  exchanged_by : (s : Step) (x : C) (e : Step × C) (es : List (Step × C)) (o : Ordering) → bytes_cmp s e.0 ≡ o → T (is_below_all e.0 (steps_of es)) → is_some (cond (is_eq o) (Some e.1) (find bytes_cmp s es)) ≡ true
      → (is_some (find bytes_cmp s es) ≡ true → set_value (λ k. is_eq (bytes_cmp s k)) es x ≡ put bytes_cmp s x es)
      → cond (is_eq o) ((e.0, x) ∷ es) (e ∷ set_value (λ k. is_eq (bytes_cmp s k)) es x) ≡ by_order o ((s, x) ∷ e ∷ es) ((e.0, x) ∷ es) (e ∷ put bytes_cmp s x es)
  exchanged_by s x e es Less is below found rest = absurd (false≢true (sym (below_none s es (below_through s e.0 (steps_of es) is below)) ∙ found))
  exchanged_by s x e es Equal is below found rest = refl
  exchanged_by s x e es Greater is below found rest = ap (λ l. e ∷ l) (rest found)

  pub exchanged_is : (s : Step) (x : C) (es : List (Step × C)) → AreSteps (steps_of es) → is_some (find bytes_cmp s es) ≡ true → set_value (λ k. is_eq (bytes_cmp s k)) es x ≡ put bytes_cmp s x es
  exchanged_is s x [] a found = absurd (false≢true found)
  exchanged_is s x (e ∷ es) a found =
      exchanged_by s x e es (bytes_cmp s e.0) refl (first (is_below_all e.0 (steps_of es)) (ascend (steps_of es)) a) found
      (exchanged_is s x es (second (is_below_all e.0 (steps_of es)) (ascend (steps_of es)) a))

  pub steps_exchanged : (s : Step) (x : C) (es : List (Step × C)) → AreSteps (steps_of es) → is_some (find bytes_cmp s es) ≡ true → steps_of (put bytes_cmp s x es) ≡ steps_of es
  steps_exchanged s x es a found = steps_put s x es ∙ add_again s (steps_of es) a (has_of s es ∙ found)
