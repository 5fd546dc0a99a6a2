-- Trees as lists of entries, ascending by key, and what is done to them.
--     put_all R es fs      the entries fs put into es, one after another.      put_some R o es      one of them, if there is one
--     rest_of path e      an entry as it is seen from a path above it.      beside path above q      q stays where what is at the path goes
--     moved path e      an entry as it is seen from above
--     first_in t e      the first step of an entry, and what stands there.      step_in t e      that step alone
--          item_in e      an entry of a listing, of a step and what stands there
use Rattle.std.specs.Prelude.{Bool, not, ◌||◌, ◌&&◌, List, [], ◌∷◌, ◌++◌, Option, Some, None, is_some, option_map}
use Rattle.std.specs.FinMap.Entries as E
use Rattle.std.specs.declared.cmp.Ordering.{Ordering}
use Rattle.ip_spec.specs.Path.{Bytes, Path, Step, path_cmp, is_prefix, after_prefix}
use Rattle.ip_spec.specs.Tree.{Tree, first_step}
use Rattle.ip_spec.specs.declared.tree.Item.{Item}

module _ {K X : Type 0} (R : K → K → Ordering) where
  abbrev pub put_all : List (K × X) → List (K × X) → List (K × X)
  put_all es [] = es
  put_all es (f ∷ fs) = put_all (E.put R f.0 f.1 es) fs

  abbrev pub put_some : Option (K × X) → List (K × X) → List (K × X)
  put_some None es = es
  put_some (Some f) es = E.put R f.0 f.1 es

abbrev pub rest_of : Path → Path × Bytes → Option (Path × Bytes)
rest_of path e = option_map (λ rest. (rest, e.1)) (after_prefix path e.0)

abbrev pub beside : Path → Bool → Path → Bool
beside path above q = not (is_prefix path q || (above && is_prefix q path))

abbrev pub moved : Path → Path × Bytes → Path × Bytes
moved path e = (path ++ e.0, e.1)

abbrev pub first_in : Tree → Path × Bytes → Option (Step × List (Path × Bytes))
first_in t e = option_map (λ (f : Step × Tree). (f.0, f.1.entries)) (first_step t e.0)

abbrev pub step_in : Tree → Path × Bytes → Option (Step × Unit {0})
step_in t e = option_map (λ (f : Step × Tree). (f.0, tt)) (first_step t e.0)

abbrev pub item_in : Step × List (Path × Bytes) → Item
item_in e = record { step = e.0; dir = not (is_some (E.find path_cmp [] e.1)) }
