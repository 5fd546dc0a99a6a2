-- What comes and what goes, where the merge has what a side has wherever it is one side's.
--     coming_tree r p c      what stands at a path to which it comes
--     comes      why something comes to a path
--     there, some_there      the merge has it.      not_nested      nothing comes under a path to which something comes
--     kept      where nothing comes and nothing goes, the merge has what the left tree has.      gone_too      where something goes, it has nothing
use Rattle.std.proofs.Common.{◌≡◌, [], ◌∷◌, ◌++◌, refl, sym, ap, ◌∙◌, append_assoc, Option, Some, None, Bool, true, false}
use Rattle.std.proofs.lemmas.Bool.{and_parts, false≢true}
use Rattle.std.proofs.lemmas.List.{append-nil}
use Rattle.std.proofs.lemmas.Option.{none-some}
use Rattle.std.specs.Prelude.{not, ◌||◌, ◌&&◌, is_some, is_none, if◌then◌else◌}
use Rattle.ip_spec.specs.Map.{get}
use Rattle.ip_spec.specs.Path.{Bytes, Step, Path}
use Rattle.ip_spec.specs.Tree.{Tree, IsTree, contents, subtree, is_empty, ways}
use Rattle.ip_spec.specs.View.{View, is_nil}
use Rattle.ip_spec.proofs.Subtrees.{get-subtree, same_tree, some_not_empty}
use Rattle.ip_three.specs.Merging.{Side, of_left, of_right, Coming, put, taken, Follows, coming, coming_by, contents_side, decided, directory_side, first_side, goes, has_directory, is_merged, is_right, is_rights, map_of}
use Rattle.ip_three.proofs.Standing.{contents_some, contents_there, directory_bare, directory_below, directory_there, get_here, no_both, none_under, nothing_below, stands_at}
use Rattle.ip_three.proofs.Values.{right_is}
use Rattle.ip_three.proofs.Ways.{above_is, above_merged, below_decided, undecided}

abbrev pub coming_tree : Tree → Path → Coming → Tree
coming_tree r p (put bytes) = contents bytes
coming_tree r p taken = subtree r p

module _ (b l r : View) (t : Tree) where
  -- why something comes to a path
  pub data Comes (p : Path) (c : Coming) : Type 0 where
    ruled : (bytes : Bytes) → get t p ≡ Some bytes → c ≡ put bytes → Comes p c
    contents_taken : (bytes : Bytes) → get t p ≡ Some bytes → contents_side b l r p ≡ Some of_right → c ≡ taken → Comes p c
    directory_taken : get t p ≡ None → directory_side b l r p ≡ Some of_right → has_directory r.map p ≡ true → c ≡ taken → Comes p c

  comes_by : (p : Path) (c : Coming) (o : Option Bytes) (side : Option Side) (d : Bool) → get t p ≡ o → contents_side b l r p ≡ side → (is_rights b l r p && has_directory r.map p) ≡ d → coming_by o side d ≡ Some c → Comes p c
  comes_by p c (Some bytes) (Some of_left) d here is_side is_directory e = absurd (none-some c e)
  comes_by p c (Some bytes) (Some of_right) d here is_side is_directory e = contents_taken bytes here is_side cc
  comes_by p c (Some bytes) None d here is_side is_directory e = ruled bytes here cc
  comes_by p c None side true here is_side is_directory e = let both = and_parts (is_rights b l r p) _ is_directory in directory_taken here (right_is _ both.0) both.1 cc
  comes_by p c None side false here is_side is_directory e = absurd (none-some c e)

  merged_where : (p : Path) (c : Coming) → coming b l r t p ≡ Some c → is_merged b l r p ≡ true
  merged_where p c e = by (is_merged b l r p) e
    where
      by : (m : Bool) → (if m then coming_by (get t p) (contents_side b l r p) (is_rights b l r p && has_directory r.map p) else None) ≡ Some c → m ≡ true
      by true e = refl
      by false e = absurd (none-some c e)

  -- where it is merged
  at_merged : (p : Path) → is_merged b l r p ≡ true → coming b l r t p ≡ coming_by (get t p) (contents_side b l r p) (is_rights b l r p && has_directory r.map p)
  at_merged p merged = ap (λ m. if m then coming_by (get t p) (contents_side b l r p) (is_rights b l r p && has_directory r.map p) else None) merged

  pub comes : (p : Path) (c : Coming) → coming b l r t p ≡ Some c → Comes p c
  comes p c e = comes_by p c (get t p) (contents_side b l r p) _ refl refl refl (sym (at_merged p (merged_where p c e)) ∙ e)

  -- why something goes from a path
  pub data Goes (p : Path) : Type 0 where
    contents_go : (bytes : Bytes) → get l.map p ≡ Some bytes → get t p ≡ None → Goes p
    directory_goes : is_merged b l r p ≡ true → has_directory l.map p ≡ true → directory_side b l r p ≡ Some of_right → has_directory r.map p ≡ false → Goes p

  goes_by : (p : Path) (m : Bool) (o u : Option Bytes) (x y z : Bool) → is_merged b l r p ≡ m → get l.map p ≡ o → get t p ≡ u → has_directory l.map p ≡ x → is_rights b l r p ≡ y → has_directory r.map p ≡ z
      → (m && ((is_some o && is_none u) || (x && y && not z))) ≡ true → Goes p
  goes_by p false o u x y z is_m is_o is_u is_x is_y is_z e = absurd (false≢true e)
  goes_by p true (Some bytes) None x y z is_m is_o is_u is_x is_y is_z e = contents_go bytes is_o is_u
  goes_by p true (Some bytes) (Some c) true true false is_m is_o is_u is_x is_y is_z e = directory_goes is_m is_x (right_is _ is_y) is_z
  goes_by p true (Some bytes) (Some c) true true true is_m is_o is_u is_x is_y is_z e = absurd (false≢true e)
  goes_by p true (Some bytes) (Some c) true false z is_m is_o is_u is_x is_y is_z e = absurd (false≢true e)
  goes_by p true (Some bytes) (Some c) false y z is_m is_o is_u is_x is_y is_z e = absurd (false≢true e)
  goes_by p true None u true true false is_m is_o is_u is_x is_y is_z e = directory_goes is_m is_x (right_is _ is_y) is_z
  goes_by p true None u true true true is_m is_o is_u is_x is_y is_z e = absurd (false≢true e)
  goes_by p true None u true false z is_m is_o is_u is_x is_y is_z e = absurd (false≢true e)
  goes_by p true None u false y z is_m is_o is_u is_x is_y is_z e = absurd (false≢true e)

  why_goes : (p : Path) → goes b l r t p ≡ true → Goes p
  why_goes p e = goes_by p _ _ _ _ _ _ refl refl refl refl refl refl e

  module _ (l_is : IsTree l.map) (r_is : IsTree r.map) (t_is : IsTree t) (follows : Follows b l r t) (root : directory_side b l r [] ≡ Some of_right → ⊥) where
    not_root : (p : Path) → directory_side b l r p ≡ Some of_right → is_nil p ≡ false
    not_root [] e = absurd (root e)
    not_root (s ∷ p) e = refl

    -- where no directory above decides, the contents' side does, and else the directory's
    by_contents : (p : Path) (side : Side) → is_merged b l r p ≡ true → contents_side b l r p ≡ Some side → get t p ≡ get (map_of l r side) p
    by_contents p side merged is_side = follows p side (ap (λ o. first_side o (contents_side b l r p)) (undecided b l r p merged) ∙ is_side)

    by_directory : (p : Path) (side : Side) → decided b l r (ways p) ≡ Some side → get t p ≡ get (map_of l r side) p
    by_directory p side is_side = follows p side (ap (λ o. first_side o (contents_side b l r p)) is_side)

    under_right : (p : Path) (s : Step) (rest : Path) → is_merged b l r p ≡ true → directory_side b l r p ≡ Some of_right → get t (p ++ s ∷ rest) ≡ get r.map (p ++ s ∷ rest)
    under_right p s rest merged is_side = by_directory (p ++ s ∷ rest) of_right (below_decided b l r p s rest of_right merged is_side)

    -- ---- what comes

    there_by : (p : Path) (c : Coming) → is_merged b l r p ≡ true → Comes p c → subtree t p ≡ coming_tree r.map p c
    there_by p c merged (ruled bytes here is) = contents_there t t_is.prefix_free p bytes here ∙ ap (coming_tree r.map p) (sym is)
    there_by p c merged (contents_taken bytes here is_side is) =
        contents_there t t_is.prefix_free p bytes here ∙ sym (contents_there r.map r_is.prefix_free p bytes (sym (by_contents p of_right merged is_side) ∙ here)) ∙ ap (coming_tree r.map p) (sym is)
    there_by p c merged (directory_taken none is_side directory is) = same_tree (subtree t p) (subtree r.map p) by ∙ ap (coming_tree r.map p) (sym is)
      where
        by : (q : Path) → get (subtree t p) q ≡ get (subtree r.map p) q
        by [] = get_here t p ∙ none ∙ sym (get_here r.map p ∙ directory_bare r.map p directory)
        by (s ∷ rest) = get-subtree t p (s ∷ rest) ∙ under_right p s rest merged is_side ∙ sym (get-subtree r.map p (s ∷ rest))

    -- the merge has it
    pub there : (p : Path) (c : Coming) → coming b l r t p ≡ Some c → subtree t p ≡ coming_tree r.map p c
    there p c e = there_by p c (merged_where p c e) (comes p c e)

    some_by : (p : Path) (c : Coming) → is_merged b l r p ≡ true → Comes p c → is_empty (subtree t p) ≡ false
    some_by p c merged (ruled bytes here is) = ap is_empty (contents_there t t_is.prefix_free p bytes here) ∙ contents_some bytes
    some_by p c merged (contents_taken bytes here is_side is) = ap is_empty (contents_there t t_is.prefix_free p bytes here) ∙ contents_some bytes
    some_by p c merged (directory_taken none is_side directory is) =
        let d = directory_below r.map p (not_root p is_side) directory in
        some_not_empty (subtree t p) (d.step ∷ d.rest) d.bytes (get-subtree t p (d.step ∷ d.rest) ∙ under_right p d.step d.rest merged is_side ∙ d.here)

    pub some_there : (p : Path) (c : Coming) → coming b l r t p ≡ Some c → is_empty (subtree t p) ≡ false
    some_there p c e = some_by p c (merged_where p c e) (comes p c e)

    -- nothing comes under a path to which something comes
    pub not_nested : (q : Path) (s : Step) (rest : Path) (c d : Coming) → coming b l r t (q ++ s ∷ rest) ≡ Some c → coming b l r t q ≡ Some d → ⊥
    not_nested q s rest c d deep e = by (comes q d e)
      where
        side : directory_side b l r q ≡ None
        side = above_merged b l r q s rest (merged_where (q ++ s ∷ rest) c deep)

        under : (bytes : Bytes) → get t q ≡ Some bytes → ⊥
        under bytes here =
            let x = stands_at t (q ++ s ∷ rest) (some_there (q ++ s ∷ rest) c deep) in
            no_both t t_is.prefix_free q s (rest ++ x.rest) bytes x.bytes here (ap (get t) (sym (append_assoc q (s ∷ rest) x.rest)) ∙ x.here)

        by : Comes q d → ⊥
        by (ruled bytes here is) = under bytes here
        by (contents_taken bytes here is_side is) = under bytes here
        by (directory_taken none is_side directory is) = false≢true (ap is_some (sym side ∙ is_side))

    -- ---- where nothing comes

    -- a directory of the right tree that it decides comes
    right_comes : (p : Path) → is_merged b l r p ≡ true → directory_side b l r p ≡ Some of_right → has_directory r.map p ≡ true → coming b l r t p ≡ Some taken
    right_comes p merged is_side directory =
        at_merged p merged ∙ ap (λ o. coming_by o (contents_side b l r p) (is_rights b l r p && has_directory r.map p)) (bare (get t p) refl)
        ∙ ap (λ d. if d && has_directory r.map p then Some taken else None) (ap is_right is_side) ∙ ap (λ d. if d then Some taken else None) directory
      where
        bare : (o : Option Bytes) → get t p ≡ o → get t p ≡ None
        bare None e = e
        bare (Some bytes) e =
            let d = directory_below r.map p (not_root p is_side) directory in
            absurd (no_both t t_is.prefix_free p d.step d.rest bytes d.bytes e (under_right p d.step d.rest merged is_side ∙ d.here))

    module _ (q : Path) (quiet : (p rest : Path) (c : Coming) → q ≡ p ++ rest → coming b l r t p ≡ Some c → ⊥) where
      no_rule : (c : Coming) → coming b l r t q ≡ Some c → ⊥
      no_rule c e = quiet q [] c (sym (append-nil q)) e

      -- contents that are there where nothing comes are the left tree's
      lefts : (bytes : Bytes) → is_merged b l r q ≡ true → get t q ≡ Some bytes → get t q ≡ get l.map q
      lefts bytes merged here = by (contents_side b l r q) refl
        where
          at : (side : Option Side) → contents_side b l r q ≡ side → coming b l r t q ≡ coming_by (Some bytes) side (is_rights b l r q && has_directory r.map q)
          at side is_side = at_merged q merged ∙ ap (λ o. coming_by o (contents_side b l r q) (is_rights b l r q && has_directory r.map q)) here
              ∙ ap (λ o. coming_by (Some bytes) o (is_rights b l r q && has_directory r.map q)) is_side

          by : (side : Option Side) → contents_side b l r q ≡ side → get t q ≡ get l.map q
          by (Some of_left) is_side = by_contents q of_left merged is_side
          by (Some of_right) is_side = absurd (no_rule taken (at (Some of_right) is_side))
          by None is_side = absurd (no_rule (put bytes) (at None is_side))

      -- under a directory that the right tree decides nothing is there, and such a directory of the left tree goes
      module _ (p : Path) (s : Step) (rest : Path) (at : q ≡ p ++ s ∷ rest) (merged : is_merged b l r p ≡ true) (is_side : directory_side b l r p ≡ Some of_right) where
        no_right : has_directory r.map p ≡ false
        no_right = by (has_directory r.map p) refl
          where
            by : (d : Bool) → has_directory r.map p ≡ d → has_directory r.map p ≡ false
            by false e = e
            by true e = absurd (quiet p (s ∷ rest) taken at (right_comes p merged is_side e))

        none_there : get t q ≡ None
        none_there = ap (get t) at ∙ under_right p s rest merged is_side ∙ nothing_below r.map r_is.prefix_free p s rest no_right

        goes_above : (bytes : Bytes) → get l.map q ≡ Some bytes → goes b l r t p ≡ true
        goes_above bytes here =
            ap (λ m. m && ((is_some (get l.map p) && is_none (get t p)) || (has_directory l.map p && is_rights b l r p && not (has_directory r.map p)))) merged
            ∙ ap (λ d. (is_some (get l.map p) && is_none (get t p)) || (d && is_rights b l r p && not (has_directory r.map p))) (directory_there l.map l_is.prefix_free p s rest bytes (ap (get l.map) (sym at) ∙ here))
            ∙ ap (λ d. (is_some (get l.map p) && is_none (get t p)) || (d && not (has_directory r.map p))) (ap is_right is_side)
            ∙ ap (λ d. (is_some (get l.map p) && is_none (get t p)) || not d) no_right ∙ always (is_some (get l.map p) && is_none (get t p))
          where
            always : (b : Bool) → (b || true) ≡ true
            always true = refl
            always false = refl

      -- nothing goes
      pub kept : ((p rest : Path) → q ≡ p ++ rest → goes b l r t p ≡ true → ⊥) → get t q ≡ get l.map q
      kept stays = by (decided b l r (ways q)) refl
        where
          goes_here : (bytes : Bytes) → is_merged b l r q ≡ true → get t q ≡ None → get l.map q ≡ Some bytes → goes b l r t q ≡ true
          goes_here bytes merged none here =
              ap (λ m. m && ((is_some (get l.map q) && is_none (get t q)) || (has_directory l.map q && is_rights b l r q && not (has_directory r.map q)))) merged
              ∙ ap (λ o. (is_some o && is_none (get t q)) || (has_directory l.map q && is_rights b l r q && not (has_directory r.map q))) here
              ∙ ap (λ o. is_none o || (has_directory l.map q && is_rights b l r q && not (has_directory r.map q))) none

          none_left : is_merged b l r q ≡ true → get t q ≡ None → (o : Option Bytes) → get l.map q ≡ o → get t q ≡ get l.map q
          none_left merged none None e = none ∙ sym e
          none_left merged none (Some bytes) e = absurd (stays q [] (sym (append-nil q)) (goes_here bytes merged none e))

          merged_here : is_merged b l r q ≡ true → (o : Option Bytes) → get t q ≡ o → get t q ≡ get l.map q
          merged_here merged (Some bytes) e = lefts bytes merged e
          merged_here merged None e = none_left merged e (get l.map q) refl

          none_right : decided b l r (ways q) ≡ Some of_right → (o : Option Bytes) → get l.map q ≡ o → get t q ≡ get l.map q
          none_right is_side None e = let a = above_is b l r q of_right is_side in none_there a.front a.step a.rest a.is a.merged a.here ∙ sym e
          none_right is_side (Some bytes) e =
              let a = above_is b l r q of_right is_side in absurd (stays a.front (a.step ∷ a.rest) a.is (goes_above a.front a.step a.rest a.is a.merged a.here bytes e))

          by : (o : Option Side) → decided b l r (ways q) ≡ o → get t q ≡ get l.map q
          by (Some of_left) e = by_directory q of_left e
          by (Some of_right) e = none_right e (get l.map q) refl
          by None e = merged_here (ap is_none e) (get t q) refl

      -- where the left tree has nothing
      none_either : get l.map q ≡ None → get t q ≡ None
      none_either none = by (decided b l r (ways q)) refl
        where
          merged_here : is_merged b l r q ≡ true → (o : Option Bytes) → get t q ≡ o → get t q ≡ None
          merged_here merged None e = e
          merged_here merged (Some bytes) e = lefts bytes merged e ∙ none

          by : (o : Option Side) → decided b l r (ways q) ≡ o → get t q ≡ None
          by (Some of_left) e = by_directory q of_left e ∙ none
          by (Some of_right) e = let a = above_is b l r q of_right e in none_there a.front a.step a.rest a.is a.merged a.here
          by None e = merged_here (ap is_none e) (get t q) refl

      -- it goes, or what it lies under
      pub gone_too : (p rest : Path) → q ≡ p ++ rest → goes b l r t p ≡ true → get t q ≡ None
      gone_too p rest at e = by (why_goes p e) rest at
        where
          by : Goes p → (rest : Path) → q ≡ p ++ rest → get t q ≡ None
          by (contents_go bytes here none) [] at = ap (get t) (at ∙ append-nil p) ∙ none
          by (contents_go bytes here none) (s ∷ rest) at = none_either (ap (get l.map) at ∙ none_under l.map l_is.prefix_free p s rest bytes here)
          by (directory_goes merged directory is_side others) [] at = none_either (ap (get l.map) (at ∙ append-nil p) ∙ directory_bare l.map p directory)
          by (directory_goes merged directory is_side others) (s ∷ rest) at = none_there p s rest at merged is_side
