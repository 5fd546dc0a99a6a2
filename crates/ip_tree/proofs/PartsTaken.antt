-- A directory without a step to which each part was read, and below what becomes a leaf.
--     join_on_way      what becomes a leaf stands on the way to the step
--     taken_knows      what is known then spells its part
--     taken_known      the parts that the step touches are forgotten, and all others that are still parts are known as they were
--     taken_below      below each other step that is known which was
--     taken_directory      it means the tree without that entry
use Rattle.std.proofs.Common.{◌≡◌, ◌⊎◌, inl, inr, ℕ, zero, suc, Bool, true, false, not, List, [], ◌∷◌, ◌++◌, refl, sym, ap, subst, ◌∙◌, Option, Some, None, cond, T, eqb→eq}
use Rattle.std.specs.Option.{option_map_or}
use Rattle.std.specs.Prelude.{◌&&◌, ◌||◌, ◌==◌, IsFalse, is_none, is_some, length, option_map, if◌then◌else◌}
use Rattle.std.proofs.lemmas.Bool.{false≢true, eq-eqb}
use Rattle.std.specs.FinMap.Entries.{find}
use Rattle.ip_spec.specs.Path.{Step, Path, bytes_cmp, same_bytes}
use Rattle.ip_spec.specs.declared.record.Record.{Record}
use Rattle.ip_spec.specs.Tree.{Tree, entries_of, is_contents}
use Rattle.ip_spec.specs.Shape.{Entries, deepest, place}
use Rattle.ip_spec.specs.View.{is_part_from, leads}
use Rattle.ip_shape.specs.Directory.{steps_of, without}
use Rattle.ip_shape.specs.Loaded.{IsLessened, behind, is_under, join_of, known_in, unread_in, way, way_to}
use Rattle.ip_shape.specs.Reading.{is_needed}
use Rattle.ip_shape.specs.Shape.{AreSteps, has, steps_at}
use Rattle.ip_shape.specs.declared.part.Part.{Part}
use Rattle.ip_shape.proofs.LeafRead.{cut_off}
use Rattle.ip_tree.specs.Node.{Entry, directory, nodes_of, steps_in}
use Rattle.ip_tree.specs.Meaning.{DirectoryIs, HasSteps, KnowsParts, SpellsAt}
use Rattle.ip_tree.specs.Known.{below_entry, known_at, known_by, known_part, unread_entry}
use Rattle.ip_tree.specs.declared.node.Stored.{Stored}
use Rattle.ip_tree.proofs.Indexes.{first_unread, no_some, read_above, some_same}
use Rattle.ip_tree.proofs.PartEntries.{IsOrdered, found_without, part_without}
use Rattle.ip_tree.proofs.PartEdits.{without_is_part}
use Rattle.ip_tree.proofs.KnownParts.{known_part_is, same_spells}
use Rattle.ip_tree.proofs.ChildNodes.{known_found, nodes_without}
use Rattle.ip_tree.proofs.PartlyShown.{steps_nodes}
use Rattle.ip_tree.proofs.PartsPut.{if_kept, if_touched, read_ascends}

join_way : (levels depth : ℕ) (s : Step) (steps : List Step) (j : List ℕ) → join_of levels depth s steps ≡ Some j → is_some (behind j (way levels depth s)) ≡ true
join_way zero depth s steps j e = no_some j e
join_way (suc levels) depth s steps j e = by (length steps == 33) (λ i f. join_way levels (suc depth) s (steps_at depth (place s depth) steps) i f) e
  where
    below : ((i : List ℕ) → join_of levels (suc depth) s (steps_at depth (place s depth) steps) ≡ Some i → is_some (behind i (way levels (suc depth) s)) ≡ true)
        → (o : Option (List ℕ)) → join_of levels (suc depth) s (steps_at depth (place s depth) steps) ≡ o → option_map (λ (is : List ℕ). place s depth ∷ is) o ≡ Some j → is_some (behind j (place s depth ∷ way levels (suc depth) s)) ≡ true
    below deeper None f g = no_some j g
    below deeper (Some i) f g =
        subst (λ (l : List ℕ). is_some (behind l (place s depth ∷ way levels (suc depth) s)) ≡ true) (some_same (place s depth ∷ i) j g)
        (ap (λ b. is_some (cond b (behind i (way levels (suc depth) s)) None)) (eq-eqb (place s depth) (place s depth) refl) ∙ deeper i f)

    by : (b : Bool) → ((i : List ℕ) → join_of levels (suc depth) s (steps_at depth (place s depth) steps) ≡ Some i → is_some (behind i (way levels (suc depth) s)) ≡ true)
        → cond b (Some []) (option_map (λ (is : List ℕ). place s depth ∷ is) (join_of levels (suc depth) s (steps_at depth (place s depth) steps))) ≡ Some j → is_some (behind j (place s depth ∷ way levels (suc depth) s)) ≡ true
    by true deeper f = subst (λ (l : List ℕ). is_some (behind l (place s depth ∷ way levels (suc depth) s)) ≡ true) (some_same [] j f) refl
    by false deeper f = below deeper (join_of levels (suc depth) s (steps_at depth (place s depth) steps)) refl f

pub join_on_way : (s : Step) (steps : List Step) (j : List ℕ) → join_of deepest 0 s steps ≡ Some j → is_some (behind j (way_to s)) ≡ true
unfolding way_to
join_on_way s steps j e = join_way deepest 0 s steps j e

-- of two that are in front of the same one is in front of the other
either_front : (j front left : List ℕ) → is_some (behind j (front ++ left)) ≡ true → (is_some (behind j front) ≡ true) ⊎ (is_some (behind front j) ≡ true)
either_front [] front left e = inl refl
either_front (i ∷ j) [] left e = inr refl
either_front (i ∷ j) (k ∷ front) left e = by (i == k) refl (λ f. either_front j front left f) e
  where
    turned : (i == k) ≡ true → (k == i) ≡ true
    turned f = eq-eqb k i (sym (eqb→eq i k (subst T (sym f) tt)))

    next : (i == k) ≡ true → (is_some (behind j front) ≡ true) ⊎ (is_some (behind front j) ≡ true) → (is_some (behind (i ∷ j) (k ∷ front)) ≡ true) ⊎ (is_some (behind (k ∷ front) (i ∷ j)) ≡ true)
    next f (inl g) = inl (ap (λ b. is_some (cond b (behind j front) None)) f ∙ g)
    next f (inr g) = inr (ap (λ b. is_some (cond b (behind front j) None)) (turned f) ∙ g)

    by : (b : Bool) → (i == k) ≡ b → (is_some (behind j (front ++ left)) ≡ true → (is_some (behind j front) ≡ true) ⊎ (is_some (behind front j) ≡ true)) → is_some (cond b (behind j (front ++ left)) None) ≡ true
        → (is_some (behind (i ∷ j) (k ∷ front)) ≡ true) ⊎ (is_some (behind (k ∷ front) (i ∷ j)) ≡ true)
    by true f deeper g = next f (deeper g)
    by false f deeper g = absurd (false≢true g)

front_of_front : (front j w : List ℕ) → is_some (behind front j) ≡ true → is_some (behind j w) ≡ true → is_some (behind front w) ≡ true
front_of_front [] j w e f = refl
front_of_front (i ∷ front) [] w e f = absurd (false≢true e)
front_of_front (i ∷ front) (k ∷ j) [] e f = absurd (false≢true f)
front_of_front (i ∷ front) (k ∷ j) (l ∷ w) e f = by (i == k) refl (k == l) refl (λ a b. front_of_front front j w a b) e f
  where
    by : (a : Bool) → (i == k) ≡ a → (b : Bool) → (k == l) ≡ b → (is_some (behind front j) ≡ true → is_some (behind j w) ≡ true → is_some (behind front w) ≡ true)
        → is_some (cond a (behind front j) None) ≡ true → is_some (cond b (behind j w) None) ≡ true → is_some (cond (i == l) (behind front w) None) ≡ true
    by true p true q deeper g h =
        ap (λ c. is_some (cond c (behind front w) None)) (eq-eqb i l (eqb→eq i k (subst T (sym p) tt) ∙ eqb→eq k l (subst T (sym q) tt))) ∙ deeper g h
    by true p false q deeper g h = absurd (false≢true h)
    by false p b q deeper g h = absurd (false≢true g)

module _ (records : ℕ → Option Record) (es : Entries) (ordered : IsOrdered es) (s : Step) (old new : Part Stored) (read : List Step) (held : HasSteps old read es) (known : KnowsParts records old es) (is_in : has s (steps_of es) ≡ true)
    (way_read : unread_in (way_to s) old ≡ None) (join_read : (is : List ℕ) (r : Stored) → is_needed s (steps_of es) is ≡ true → unread_in is old ≡ Some (r, []) → ⊥) (lessened : IsLessened deepest 0 s (steps_of es) old new) where
  abbrev join : Option (List ℕ)
  join = join_of deepest 0 s (steps_of es)

  needed : (is : List ℕ) → is_under join is ≡ true → is_needed s (steps_of es) is ≡ true
  needed is under = ap (λ b. is_under (Some is) (way_to s) || (b && is_under join is)) is_in ∙ ap (λ b. is_under (Some is) (way_to s) || b) under ∙ or_true (is_under (Some is) (way_to s))
    where
      or_true : (b : Bool) → (b || true) ≡ true
      or_true true = refl
      or_true false = refl

  -- all of what becomes a leaf was read
  under_read : (is : List ℕ) → is_under join is ≡ true → unread_in is old ≡ None
  under_read is under = by (unread_in is old) refl
    where
      at : (o : Option (List ℕ)) → join ≡ o → (front left : List ℕ) (x : Stored) → unread_in front old ≡ Some (x, []) → is_under o (front ++ left) ≡ true → ⊥
      at None j front left x e f = false≢true f
      at (Some w) j front left x e f = elim (either_front w front left f) [
        | inl g ↦ join_read front x (needed front (ap (λ o. is_under o front) j ∙ g)) e
        | inr g ↦ false≢true (sym (cut_off front (way_to s) x old e (front_of_front front w (way_to s) g (join_on_way s (steps_of es) w j))) ∙ ap is_none way_read)
      ]

      by : (o : Option (Stored × List ℕ)) → unread_in is old ≡ o → o ≡ None
      by None e = refl
      by (Some u) e =
          let first = first_unread is u.0 u.1 old e in
          absurd (at join refl first.front u.1 u.0 first.found (ap (is_under join) (sym first.whole) ∙ under))

  pub taken_knows : KnowsParts records new (without s es)
  taken_knows = record { known = λ is x e. known_new is x (leads 0 is s) refl (sym (lessened is).1 ∙ e); unread = λ is x e. unread_new is x (leads 0 is s) refl (sym (lessened is).0 ∙ e) }
    where
      beside : (is : List ℕ) (x : Stored) → leads 0 is s ≡ false → (b : Bool) → cond b None (known_in is old) ≡ Some x → SpellsAt records (without s es) is x
      beside is x away true e = no_some x e
      beside is x away false e = same_spells records es (without s es) is x (part_without is s es ordered away) (known.known is x e)

      known_new : (is : List ℕ) (x : Stored) (b : Bool) → leads 0 is s ≡ b → cond (b || is_under join is) None (known_in is old) ≡ Some x → SpellsAt records (without s es) is x
      known_new is x true there e = no_some x e
      known_new is x false away e = beside is x away (is_under join is) e

      unread_new : (is : List ℕ) (x : Stored) (b : Bool) → leads 0 is s ≡ b → unread_in is old ≡ Some (x, []) → SpellsAt records (without s es) is x
      unread_new is x true there e = no_some (x, []) (sym (read_above is s (steps_of es) old held.shape there way_read) ∙ e)
      unread_new is x false away e = same_spells records es (without s es) is x (part_without is s es ordered away) (known.unread is x e)

  pub taken_known : (is : List ℕ) → known_part records new is ≡ (if is_part_from 0 (without s es) is && not (leads 0 is s) then known_part records old is else None)
  taken_known is =
      ap (λ k. known_by records k (unread_in is new)) (lessened is).1 ∙ ap (known_by records (cond (leads 0 is s || is_under join is) None (known_in is old))) (lessened is).0 ∙ by (leads 0 is s) refl
    where
      now_part : leads 0 is s ≡ false → (o : ℕ) → known_part records old is ≡ Some o → is_part_from 0 (without s es) is ≡ not (is_under join is)
      now_part away o e = without_is_part s deepest 0 is es refl ordered is_in away (known_part_is records old read es held known is o e).is_part

      gone : (p : Bool) (k : Option ℕ) → ((o : ℕ) → k ≡ Some o → p ≡ false) → None ≡ (if p && true then k else None)
      gone false k is = refl
      gone true None is = refl
      gone true (Some o) is = absurd (false≢true (sym (is o refl)))

      beside : leads 0 is s ≡ false → (b : Bool) → is_under join is ≡ b → known_by records (cond b None (known_in is old)) (unread_in is old) ≡ (if is_part_from 0 (without s es) is && true then known_part records old is else None)
      beside away true under = ap (known_by records None) (under_read is under) ∙ gone (is_part_from 0 (without s es) is) (known_part records old is) (λ o e. now_part away o e ∙ ap not under)
      beside away false over = if_kept (is_part_from 0 (without s es) is) (known_part records old is) (λ o e. now_part away o e ∙ ap not over)

      by : (b : Bool) → leads 0 is s ≡ b → known_by records (cond (b || is_under join is) None (known_in is old)) (unread_in is old) ≡ (if is_part_from 0 (without s es) is && not b then known_part records old is else None)
      by true there = ap (known_by records None) (read_above is s (steps_of es) old held.shape there way_read) ∙ if_touched (is_part_from 0 (without s es) is) (known_part records old is)
      by false away = beside away (is_under join is) refl

  pub taken_below : (ys : List Entry) (q : Step) (path : Path) (indexes : List ℕ) → same_bytes s q ≡ false
      → known_at records (directory new (nodes_of (without s ys))) (q ∷ path) indexes ≡ known_at records (directory old (nodes_of ys)) (q ∷ path) indexes
  taken_below ys q path indexes other =
      known_found records (without s ys) q path indexes (below_entry records path indexes (unread_entry records q (unread_in (way_to q) new)))
      ∙ ap (λ u. option_map_or (λ m. known_at records m path indexes) (find bytes_cmp q (without s ys)) (below_entry records path indexes (unread_entry records q u))) (lessened (way_to q)).0
      ∙ ap (λ o. option_map_or (λ m. known_at records m path indexes) o (below_entry records path indexes (unread_entry records q (unread_in (way_to q) old)))) (found_without s ys q ∙ ap (λ b. cond (not b) (find bytes_cmp q ys) None) other)
      ∙ sym (known_found records ys q path indexes (below_entry records path indexes (unread_entry records q (unread_in (way_to q) old))))

  -- and below the step itself nothing
  pub taken_here : (ys : List Entry) (path : Path) (indexes : List ℕ) → same_bytes s s ≡ true → known_at records (directory new (nodes_of (without s ys))) (s ∷ path) indexes ≡ None
  taken_here ys path indexes itself =
      known_found records (without s ys) s path indexes (below_entry records path indexes (unread_entry records s (unread_in (way_to s) new)))
      ∙ ap (λ u. option_map_or (λ m. known_at records m path indexes) (find bytes_cmp s (without s ys)) (below_entry records path indexes (unread_entry records s u))) ((lessened (way_to s)).0 ∙ way_read)
      ∙ ap (λ o. option_map_or (λ m. known_at records m path indexes) o None) (found_without s ys s ∙ ap (λ b. cond (not b) (find bytes_cmp s ys) None) itself)

pub taken_directory : (records : ℕ → Option Record) (old new : Part Stored) (ys : List Entry) (t u : Tree) (s : Step) → DirectoryIs records old (nodes_of ys) t → has s (steps_of (entries_of t).entries) ≡ true
    → IsFalse (is_contents u) → (entries_of u).entries ≡ without s (entries_of t).entries → unread_in (way_to s) old ≡ None
    → ((is : List ℕ) (r : Stored) → is_needed s (steps_of (entries_of t).entries) is ≡ true → unread_in is old ≡ Some (r, []) → ⊥) → IsLessened deepest 0 s (steps_of (entries_of t).entries) old new
    → HasSteps new (steps_in (nodes_of (without s ys))) (entries_of u).entries → DirectoryIs records new (nodes_of (without s ys)) u
taken_directory records old new ys t u s is is_in no_contents entries way_read join_read lessened steps = record {
  directory = no_contents;
  steps = steps;
  parts = subst (KnowsParts records new) (sym entries) (taken_knows records (entries_of t).entries (entries_of t).sorted s old new (steps_in (nodes_of ys)) is.steps is.parts is_in way_read join_read lessened);
  nodes = nodes_without records ys (entries_of t).entries (entries_of u).entries s (subst AreSteps (steps_nodes ys) (read_ascends old (steps_in (nodes_of ys)) (entries_of t).entries is.steps)) is.nodes
      (λ q apart. ap (find bytes_cmp q) entries ∙ found_without s (entries_of t).entries q ∙ ap (λ b. cond (not b) (find bytes_cmp q (entries_of t).entries) None) apart);
}
