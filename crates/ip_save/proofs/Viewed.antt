-- The new contents of a view and the root of its tree, by the nodes, where contents are taken from another tree.
--     new_contents_are, each_new      the contents that are spelled are some of those of the nodes.      told v first root      what is found for each
--     refs_for      what refers to each.      root_is      what is spelled for the directories
use Rattle.std.proofs.Common.{◌≡◌, ℕ, suc, ◌+◌, ◌≤◌, arith, List, [], ◌∷◌, ◌++◌, refl, ap, subst, sym, ◌∙◌, Option, Some, None, Bool, true, false, cond, map, T}
use Rattle.std.specs.Prelude.{is_none, is_some, filter}
use Rattle.std.specs.List.{AllByRecursion}
use Rattle.std.specs.FinMap.Entries.{is_sorted, is_sorted-where_key}
use Rattle.std.proofs.lemmas.Bool.{false≢true}
use Rattle.ip_spec.specs.Path.{Bytes, Path, path_cmp}
use Rattle.ip_spec.specs.declared.record.Record.{Record}
use Rattle.ip_spec.specs.Tree.{height}
use Rattle.ip_spec.specs.Shape.{root_name}
use Rattle.ip_spec.specs.View.{View}
use Rattle.ip_spec.specs.Batch.{Sources, reusing_sources, new_contents, placed, contents_end, contents_offset, offset_by, spell_directory, root_spelled, whole_part}
use Rattle.ip_spec.proofs.TreeLaws.{path_total}
use Rattle.ip_spec.proofs.Naming.{Member, here, there, member_found}
use Rattle.ip_tree.specs.Node.{Root}
use Rattle.ip_tree.specs.Known.{known_of}
use Rattle.ip_tree.specs.Shown.{shown_root}
use Rattle.ip_tree.specs.TreeView.{IsView}
use Rattle.ip_tree.specs.declared.node.Stored.{Stored}
use Rattle.ip_tree.specs.declared.tree.Tree as code
use Rattle.ip_save.specs.Laid.{size_of, lay_root}
use Rattle.ip_save.specs.Reused.{places_from, refs_of, spelled_from}
use Rattle.ip_save.proofs.Lawful.{lawful_height}
use Rattle.ip_save.proofs.News.{Quiet, kept, news_of_root, news_root, value_of}
use Rattle.ip_save.proofs.Placed.{key_of, places, IsNew, placed_are, end_is}
use Rattle.ip_save.proofs.Reusing.{is_new, told_news, own, spelled_ones, only_new, offset_known, offsets_are, spelled_are, values_told}
use Rattle.ip_save.proofs.Agreeing.{spelled_by}
use Rattle.ip_save.proofs.TreesAgree.{RootAgrees, ref_for, refs_are, root_agrees}

-- ---- tests

kept_same : (P Q : Path → Bool) → ((p : Path) → P p ≡ Q p) → (es : List (Path × Bytes)) → kept P es ≡ kept Q es
kept_same P Q same [] = refl
kept_same P Q same (e ∷ es) = ap (λ b. cond b (e ∷ kept P es) (kept P es)) (same e.0) ∙ ap (λ l. cond (Q e.0) (e ∷ l) l) (kept_same P Q same es)

keys_kept : (P : Path → Bool) (es : List (Path × Bytes)) → filter P (map (λ (e : Path × Bytes). e.0) es) ≡ map key_of (kept P es)
keys_kept P [] = refl
keys_kept P (e ∷ es) = ap (λ l. cond (P e.0) (e.0 ∷ l) l) (keys_kept P es) ∙ by (P e.0)
  where
    by : (b : Bool) → cond b (e.0 ∷ map key_of (kept P es)) (map key_of (kept P es)) ≡ map key_of (cond b (e ∷ kept P es) (kept P es))
    by true = refl
    by false = refl

each_kept : (P : Path → Bool) (Q : Path × Bytes → Type 0) (es : List (Path × Bytes)) → ((e : Path × Bytes) → Member e es → P e.0 ≡ true → Q e) → AllByRecursion Q (kept P es)
each_kept P Q [] each = tt
each_kept P Q (e ∷ es) each = by (P e.0) refl (each_kept P Q es (λ f m. each f (there m)))
  where
    by : (b : Bool) → P e.0 ≡ b → AllByRecursion Q (kept P es) → AllByRecursion Q (cond b (e ∷ kept P es) (kept P es))
    by true is rest = (each e here is, rest)
    by false is rest = rest

each_left : (P : Path → Bool) (Q : Path × Bytes → Type 0) (es : List (Path × Bytes)) → AllByRecursion Q es → AllByRecursion Q (kept P es)
each_left P Q [] each = tt
each_left P Q (e ∷ es) (is, each) = by (P e.0) (each_left P Q es each)
  where
    by : (b : Bool) → AllByRecursion Q (kept P es) → AllByRecursion Q (cond b (e ∷ kept P es) (kept P es))
    by true rest = (is, rest)
    by false rest = rest

none_is : (o : Option ℕ) → is_none o ≡ true → o ≡ None
none_is None e = refl
none_is (Some x) e = absurd (false≢true e)

same_map : (f g : Path → ℕ) → ((p : Path) → f p ≡ g p) → (es : List (Path × Bytes)) → map (λ (x : Path × Bytes). f x.0) es ≡ map (λ (x : Path × Bytes). g x.0) es
same_map f g same [] = refl
same_map f g same (e ∷ es) = ap (λ n. n ∷ map (λ (x : Path × Bytes). f x.0) es) (same e.0) ∙ ap (λ l. g e.0 ∷ l) (same_map f g same es)

-- ---- the new contents

abbrev pub told : View → Option View → Root → List (Bytes × Option ℕ)
told v first root = told_news v first (news_root root)

-- what refers to new contents, where the first that is spelled lies at an offset
abbrev pub refs_from : ℕ → List (Bytes × Option ℕ) → List Stored
refs_from end table = refs_of table (places_from [] end table)

module _ (records : ℕ → Option Record) (tree : code.Tree) (v : View) (is : IsView records tree v) where
  abbrev root : Root
  root = shown_root tree.root

  abbrev fresh_ones : List (Path × Bytes)
  fresh_ones = news_root root

  quiet : Quiet (λ p. known_of records root (whole_part p)) v.map
  quiet above s below some stands = sym (ap is_some (is.known (whole_part (above ++ s ∷ below)))) ∙ is.below above [] s below refl (ap is_some (is.known (whole_part above)) ∙ some) stands

  kept_are : kept (is_new v) v.map.entries ≡ fresh_ones
  kept_are = kept_same (is_new v) (λ p. is_none (known_of records root (whole_part p))) (λ p. ap is_none (is.known (whole_part p))) v.map.entries ∙ news_of_root records root v.map is.root quiet

  pub each_new : AllByRecursion (IsNew v) fresh_ones
  each_new = subst (AllByRecursion (IsNew v)) kept_are
      (each_kept (is_new v) (IsNew v) v.map.entries (λ e m new. record { here = member_found path_cmp path_total v.map.entries e v.map.sorted m; new = none_is (v.known (whole_part e.0)) new }))

  ascending : T (is_sorted path_cmp fresh_ones)
  ascending = subst (λ (l : List (Path × Bytes)). T (is_sorted path_cmp l)) kept_are (is_sorted-where_key path_cmp (is_new v) v.map.entries v.map.sorted)

  module _ (first : Option View) (end : ℕ) where
    abbrev from : Sources
    from = reusing_sources v first

    abbrev ones : List (Path × Bytes)
    ones = spelled_ones v first fresh_ones

    pub ones_new : AllByRecursion (IsNew v) ones
    ones_new = each_left (own v first) (IsNew v) fresh_ones each_new

    new_contents_are : new_contents v from ≡ map key_of ones
    new_contents_are = keys_kept (own v first) v.map.entries ∙ ap (map key_of) (only_new v first ∙ ap (kept (own v first)) kept_are)

    pub placed_ones : placed v end (new_contents v from) ≡ places end ones
    placed_ones = ap (placed v end) new_contents_are ∙ placed_are v ones end ones_new

    pub spelled_values : map value_of ones ≡ spelled_from [] end (told v first root)
    spelled_values = spelled_are v first fresh_ones kept_are ascending end each_new

    -- where the directories begin
    directories_from : contents_end v end (new_contents v from) ≡ end + size_of (spelled_from [] end (told v first root))
    directories_from = ap (contents_end v end) new_contents_are ∙ end_is v ones end ones_new ∙ ap (λ bs. end + size_of bs) spelled_values

    abbrev offset : Path → ℕ
    offset = contents_offset v from end

    known_offset : (p : Path) (at : ℕ) → v.known (whole_part p) ≡ Some at → offset p ≡ at
    known_offset = offset_known v first (placed v end (new_contents v from))

    offsets : map (λ (x : Path × Bytes). offset x.0) fresh_ones ≡ places_from [] end (told v first root)
    offsets =
        same_map offset (λ p. offset_by (places end ones) (from p)) (λ p. ap (λ places. offset_by places (from p)) placed_ones) fresh_ones
        ∙ offsets_are v first fresh_ones kept_are ascending end each_new

    abbrev refs : List Stored
    refs = refs_from end (told v first root)

    refs_for : refs ≡ map (ref_for offset) fresh_ones
    refs_for = ap (refs_of (told v first root)) (sym offsets) ∙ refs_are offset fresh_ones (told v first root) (values_told v first fresh_ones)

    agrees : (at : ℕ) → RootAgrees v offset records known_offset refs root v.map at
    agrees at = root_agrees v offset records known_offset refs root v.map at is.root is.known refs_for (lawful_height v.map is.lawful)

    pub root_low : (at : ℕ) → (lay_root refs root at).stands.height ≤ 64
    root_low at = let low = (agrees at).low in let shallow = lawful_height v.map is.lawful in omega (arith, low, shallow)

    abbrev begins : ℕ
    begins = end + size_of (spelled_from [] end (told v first root))

    pub root_is : root_spelled v from end ≡ spelled_by (lay_root refs root begins)
    root_is = ap (spell_directory v offset (suc (height v.map)) [] v.map) directories_from ∙ (agrees begins).spelled

    pub root_named : (lay_root refs root begins).stands.reference ≡ record { at = (lay_root refs root begins).stands.reference.at; name = root_name v.map; kind = 2 }
    root_named = (agrees begins).named
