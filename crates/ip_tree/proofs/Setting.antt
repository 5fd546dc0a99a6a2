-- Setting contents in a tree, by its view: they are placed there as a node of which no part is known.
use Rattle.std.proofs.Common.{◌≡◌, ℕ, ◌≤◌, ◌<◌, length, refl, sym, ap, subst, ◌∙◌, Option, Some, None}
use Rattle.std.specs.Prelude.{Result, Ok, Err, ◌&&◌, ◌||◌, not, IsTrue, IsFalse, if◌then◌else◌}
use Rattle.ip_base.specs.declared.limit.Limit.TheVariants as limits
use Rattle.ip_space.specs.declared.fault.FetchFault.TheVariants as fetch
use Rattle.ip_spec.specs.Path.{Bytes, Path, IsPath, is_prefix, after_prefix}
use Rattle.ip_spec.specs.Step.{contents_limit, entries_limit}
use Rattle.ip_spec.specs.Tree.{Tree, contents, put, place, widest}
use Rattle.ip_spec.specs.View.{View, Part, holds_behind, is_part, put_view}
use Rattle.ip_spec.specs.declared.record.Record.{Record}
use Rattle.ip_spec.proofs.KnownBelow.{put_below}
use Rattle.ip_spec.proofs.Subtrees.{lawful_put, prefix_of_append}
use Rattle.ip_tree.specs.Edits.{PlaceFaultBy, is_full, known_after}
use Rattle.ip_tree.specs.Node as view
use Rattle.ip_tree.specs.Placing.{IsPlacedIn, PlacesTree, behind_or}
use Rattle.ip_tree.specs.TreeView.{IsView, IsSet, IsSetFault, Sets}
use Rattle.ip_tree.specs.declared.tree.Tree as code
use Rattle.ip_tree.specs.declared.tree.TreeFault.{TreeFault}
use Rattle.ip_tree.specs.declared.tree.TreeFault.TheVariants.{Limit, Fetch, Memory}
use Rattle.ip_tree.proofs.PartsPut.{if_touched}
use Rattle.ip_tree.proofs.PlacedParts.{after_placing, known_behind}
use Rattle.ip_tree.proofs.PlacedTrees.{IsSplit, split}
use Rattle.ip_tree.proofs.PlacedWidths.{bytes_narrow, placed_narrow, placed_wide}
use Rattle.ip_tree.proofs.Widest.{narrow_of, widest_of, wide_of}
use Rattle.ip_tree.proofs.Trees.{contents_some}

module _ (records : ℕ → Option Record) (tree : code.Tree) (v : View) (is : IsView records tree v) (path : Path) (bytes : Bytes) (is_path : IsPath path) (short : length bytes ≤ contents_limit) where
  -- what lies behind the path is not known any more, as all that the path touches
  forgotten : (map : Tree) (part : Part) → after_placing records (view.contents bytes) path v.known map part ≡ known_after v.known path map part
  forgotten map part = by (after_prefix path part.path) (split path part.path)
    where
      by : (o : Option Path) → IsSplit path part.path o → behind_or (known_behind records (view.contents bytes) part.indexes) o (known_after v.known path map part) ≡ known_after v.known path map part
      by (Some rest) at =
          if_touched (is_part map part) (v.known part)
          ∙ ap (λ b. if is_part map part && not (b || holds_behind part.indexes (after_prefix part.path path)) then v.known part else None) (sym (ap (is_prefix path) at ∙ prefix_of_append path rest))
      by None apart = refl

  put_narrow : IsFalse (is_full path v.map) → widest (put v.map path bytes) ≤ entries_limit
  unfolding put
  put_narrow room = widest_of (put v.map path bytes) (placed_narrow (contents bytes) (contents_some bytes) v.map path (bytes_narrow bytes) (narrow_of v.map is.narrow) room)

  put_wide : IsTrue (is_full path v.map) → entries_limit < widest (put v.map path bytes)
  unfolding put
  put_wide full = wide_of (put v.map path bytes) (placed_wide (contents bytes) (contents_some bytes) v.map path full)

  put_is : (new : code.Tree) → IsPlacedIn records path (view.contents bytes) (contents bytes) new v → IsSet records path bytes new v
  unfolding put_view put
  put_is new placed = record {
    view = record {
      root = placed.root;
      lawful = lawful_put v.map path bytes is.lawful is_path;
      narrow = put_narrow placed.room;
      oldest = placed.oldest;
      known = λ part. sym (placed.known part ∙ forgotten (place v.map path (contents bytes)) part);
      below = put_below v path bytes is.below;
    };
    short = short;
    narrow = put_narrow placed.room;
  }

  cause : (fault : TreeFault) → PlaceFaultBy (is_full path v.map) fault → IsSetFault v.map path bytes fault
  cause (Limit limits.Contents) c = absurd c
  cause (Limit limits.Depth) c = absurd c
  cause (Limit limits.Entries) c = (short, put_wide c)
  cause (Limit limits.Parents) c = absurd c
  cause (Limit limits.Branches) c = absurd c
  cause (Limit limits.Space) c = absurd c
  cause (Limit limits.Sequence) c = absurd c
  cause (Limit limits.Attempt) c = absurd c
  cause (Fetch fetch.Ground) c = tt
  cause (Fetch (fetch.Form at why)) c = absurd c
  cause (Fetch (fetch.Name at want got)) c = absurd c
  cause (Fetch fetch.Memory) c = tt
  cause Memory c = tt

  pub sets_placed : (new : code.Tree) (n : view.Node) (result : Result (Unit {0}) TreeFault) → n ≡ view.contents bytes → PlacesTree records path n (contents bytes) new v result → Sets records path bytes new v result
  sets_placed new n (Ok done) node placed = put_is new (subst (λ (x : view.Node). IsPlacedIn records path x (contents bytes) new v) node placed)
  sets_placed new n (Err fault) node not = record { view = not.view; cause = cause fault not.cause }
