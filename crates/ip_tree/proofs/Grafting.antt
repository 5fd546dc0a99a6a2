-- A graft by the views of both trees.
--     fits, too_deep      whether the path and what is grafted are too long together
--     none_placed, grafted      it was not placed, or it was
--     copied_source      a copy of what stands in the source
use Rattle.std.proofs.Common.{◌≡◌, ℕ, ◌+◌, ◌<◌, ◌≤◌, ◌++◌, length, refl, sym, ap, subst, ◌∙◌, append_assoc, arith, Option, Some, None, Bool, true, false}
use Rattle.std.proofs.lemmas.Bool.{false≢true}
use Rattle.std.proofs.lemmas.List.{length-append}
use Rattle.std.specs.Prelude.{◌&&◌, Result, Ok, Err, IsErrAnd, IsTrue, is_some, not, if◌then◌else◌}
use Rattle.ip_base.specs.declared.limit.Limit.TheVariants as limits
use Rattle.ip_space.specs.declared.fault.FetchFault.TheVariants as fetch
use Rattle.ip_spec.specs.Map.{get, len}
use Rattle.ip_spec.specs.Path.{Path, IsPath, after_prefix}
use Rattle.ip_spec.specs.Step.{entries_limit, steps_limit}
use Rattle.ip_spec.specs.Tree.{Tree, IsTree, subtree, entries_of, height, widest, place, graft, is_empty}
use Rattle.ip_spec.specs.View.{View, Part, graft_view, grafted_known, is_part, is_part_at, least, touches}
use Rattle.ip_spec.specs.declared.record.Record.{Record}
use Rattle.ip_spec.proofs.KnownBelow.{graft_below}
use Rattle.ip_spec.proofs.Subtrees.{get-subtree, same_tree}
use Rattle.ip_tree.specs.Edits.{IsSame, PlaceFaultBy, is_full, known_after}
use Rattle.ip_tree.specs.Finding.{IsPartOf}
use Rattle.ip_tree.specs.Heights.{node_height}
use Rattle.ip_tree.specs.Known.{knows}
use Rattle.ip_tree.specs.Meaning.{NodeIs}
use Rattle.ip_tree.specs.Narrow.{IsNarrow}
use Rattle.ip_tree.specs.Node as told
use Rattle.ip_tree.specs.Placing.{IsNotPlacedIn, IsPlacedIn, behind_or}
use Rattle.ip_tree.specs.TreeView.{Grafts, IsView, IsGraftFault, IsGrafted, IsNotGrafted}
use Rattle.ip_tree.specs.declared.tree.Tree as code
use Rattle.ip_tree.specs.declared.tree.TreeFault.{TreeFault}
use Rattle.ip_tree.specs.declared.tree.TreeFault.TheVariants.{Limit, Fetch, Memory}
use Rattle.ip_tree.proofs.KnownStands.{known_stands}
use Rattle.ip_tree.proofs.PlacedLaws.{lawful_graft}
use Rattle.ip_tree.proofs.PlacedParts.{after_placing, known_behind}
use Rattle.ip_tree.proofs.PlacedTrees.{IsSplit, split, subtree_placed}
use Rattle.ip_tree.proofs.PlacedWidths.{placed_narrow, placed_wide}
use Rattle.ip_tree.proofs.TreeHeights.{height_most}
use Rattle.ip_tree.proofs.Widest.{narrow_of, widest_of, wide_of}
use Rattle.ip_tree.proofs.Directories.{some_node}

-- ---- what stands under a path

subtree_append : (t : Tree) (p q : Path) → subtree t (p ++ q) ≡ subtree (subtree t p) q
subtree_append t p q = same_tree _ _ (λ r. get-subtree t (p ++ q) r ∙ ap (get t) (append_assoc p q r) ∙ sym (get-subtree t p (q ++ r)) ∙ sym (get-subtree (subtree t p) q r))

narrow_under : (t : Tree) (p : Path) → IsNarrow t → IsNarrow (subtree t p)
narrow_under t p narrow q = subst (λ (x : Tree). len (entries_of x) ≤ entries_limit) (subtree_append t p q) (narrow (p ++ q))

-- no path of a lawful tree has more steps, from wherever it is seen
pub under_height : (t : Tree) (p : Path) → IsTree t → height (subtree t p) ≤ 64
under_height t p lawful = height_most (subtree t p) 64 (λ q b is.
    let l = (lawful.paths (p ++ q) (ap is_some (sym (get-subtree t p q) ∙ is))).short in
    let sum = length-append p q in omega arith)

-- ---- known parts

-- what is known is a part
only_known : (is : Bool) (k : Option ℕ) → ((o : ℕ) → k ≡ Some o → is ≡ true) → (if is then k else None) ≡ k
only_known true k h = refl
only_known false None h = refl
only_known false (Some o) h = absurd (false≢true (h o refl))

nested : (a b : Bool) (k : Option ℕ) → (if a then (if b then None else k) else None) ≡ (if a && not b then k else None)
nested true true k = refl
nested true false k = refl
nested false b k = refl

module _ (records : ℕ → Option Record) (v w : View) (from to : Path) (n : told.Node) (found : IsPartOf records w from n) where
  some : is_empty (subtree w.map from) ≡ false
  some = some_node records n (subtree w.map from) found.means

  -- what is grafted is a part of the whole
  grafted_part : (rest : Path) (part : Part) (o : ℕ) → part.path ≡ to ++ rest → knows records n (record { path = rest; indexes = part.indexes }) ≡ Some o → is_part (place v.map to (subtree w.map from)) part ≡ true
  grafted_part rest part o at known =
      ap (λ (x : Tree). is_part_at part.path x part.indexes) (ap (λ (p : Path). subtree (place v.map to (subtree w.map from)) p) at ∙ subtree_placed v.map to rest (subtree w.map from))
      ∙ (known_stands records n (subtree w.map from) rest part.path part.indexes o found.means known).is_part

  known_grafted : (part : Part) → (if is_part (place v.map to (subtree w.map from)) part then grafted_known v w from part.indexes (after_prefix to part.path) (if touches part to then None else v.known part) else None)
      ≡ after_placing records n to v.known (place v.map to (subtree w.map from)) part
  known_grafted part = by (after_prefix to part.path) (split to part.path)
    where
      by : (o : Option Path) → IsSplit to part.path o → (if is_part (place v.map to (subtree w.map from)) part then grafted_known v w from part.indexes o (if touches part to then None else v.known part) else None)
          ≡ behind_or (known_behind records n part.indexes) o (known_after v.known to (place v.map to (subtree w.map from)) part)
      by (Some rest) at =
          ap (λ k. if is_part (place v.map to (subtree w.map from)) part then k else None) (sym (found.known (record { path = rest; indexes = part.indexes })))
          ∙ only_known (is_part (place v.map to (subtree w.map from)) part) (knows records n (record { path = rest; indexes = part.indexes })) (λ o e. grafted_part rest part o at e)
      by None apart = nested (is_part (place v.map to (subtree w.map from)) part) (touches part to) (v.known part)

  -- a copy of what stands in the source stands for it
  pub copied_source : (copy : told.Node) → IsSame (NodeIs records) records n copy (subtree w.map from) → IsPartOf records w from copy
  copied_source copy same = record { means = same.means; known = λ part. same.known part ∙ found.known part }

  -- ---- the answers

  module _ (tree : code.Tree) (v_is : IsView records tree v) (same_height : node_height n ≡ height (subtree w.map from)) where
    -- it is too high
    pub too_deep : steps_limit < length to + node_height n → IsNotGrafted records from to tree v w (Limit limits.Depth)
    too_deep deep = record { view = v_is; cause = (some, omega arith) }

    module _ (shallow : length to + node_height n ≤ steps_limit) where
      fits : length to + height (subtree w.map from) ≤ steps_limit
      fits = omega arith

      too_wide : IsTrue (is_full to v.map) → entries_limit < widest (graft v.map w.map from to)
      unfolding graft
      too_wide full = wide_of (place v.map to (subtree w.map from)) (placed_wide (subtree w.map from) some v.map to full)

      -- it was not placed
      not_grafted : (new : code.Tree) (fault : TreeFault) → IsNotPlacedIn records to new v fault → IsNotGrafted records from to new v w fault
      not_grafted new fault not = record { view = not.view; cause = cause fault not.cause }
        where
          cause : (fault : TreeFault) → PlaceFaultBy (is_full to v.map) fault → IsGraftFault v.map w.map from to fault
          cause (Limit limits.Contents) c = absurd c
          cause (Limit limits.Depth) c = absurd c
          cause (Limit limits.Entries) c = (some, fits, too_wide c)
          cause (Limit limits.Parents) c = absurd c
          cause (Limit limits.Branches) c = absurd c
          cause (Limit limits.Space) c = absurd c
          cause (Limit limits.Sequence) c = absurd c
          cause (Limit limits.Attempt) c = absurd c
          cause (Fetch fetch.Ground) c = tt
          cause (Fetch (fetch.Form at why)) c = absurd c
          cause (Fetch (fetch.Name at want got)) c = absurd c
          cause (Fetch fetch.Memory) c = tt
          cause Memory c = tt

      pub none_placed : (new : code.Tree) (result : Result Bool TreeFault) (fault : TreeFault) → IsErrAnd result (λ e. e ≡ fault) → IsNotPlacedIn records to new v fault → Grafts records from to new v w result
      none_placed new (Ok done) fault same not = absurd same
      none_placed new (Err e) fault same not = not_grafted new e (subst (IsNotPlacedIn records to new v) (sym same) not)

      -- it was placed
      pub grafted : (source new : code.Tree) → IsView records source w → IsPath to → IsPlacedIn records to n (subtree w.map from) new v → (oldest : Option ℕ) → oldest ≡ least new.oldest source.oldest
          → IsGrafted records from to (record { root = new.root; oldest = oldest }) v w true
      unfolding graft graft_view
      grafted source new w_is is_to placed oldest lesser =
          let narrow : widest (graft v.map w.map from to) ≤ entries_limit =
          widest_of (graft v.map w.map from to) (placed_narrow (subtree w.map from) some v.map to (narrow_under w.map from (narrow_of w.map w_is.narrow)) (narrow_of v.map v_is.narrow) placed.room) in
          record {
            found = ap not (sym some);
            view = record {
              root = placed.root;
              lawful = lawful_graft v.map w.map from to v_is.lawful w_is.lawful is_to fits;
              narrow = narrow;
              oldest = ap (λ o. least o w.oldest) placed.oldest ∙ ap (least new.oldest) w_is.oldest ∙ sym lesser;
              known = λ part. known_grafted part ∙ sym (placed.known part);
              below = graft_below v w from to v_is.below w_is.below;
            };
            shallow = λ _. fits;
            narrow = λ _. narrow;
          }
