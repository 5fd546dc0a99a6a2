-- What a lazy tree is made of, as contracts see it.
use Rattle.std.specs.Prelude.{List, [], ◌∷◌}
use Rattle.ip_spec.specs.Path.{Bytes, Step}
use Rattle.ip_spec.specs.declared.record.Ref.{Ref}
use Rattle.ip_shape.specs.declared.part.Part.{Part}
use Rattle.ip_tree.specs.declared.node.Stored.{Stored}

mutual
  -- a record of the store that was not read; or contents that are new; or a directory as its parts, and what stands at the
  -- steps of those that were read, in their order
  pub data Node : Type 0 where
    stored : Stored → Node
    contents : Bytes → Node
    directory : Part Stored → Nodes → Node

  pub data Nodes : Type 0 where
    none : Nodes
    first : Step → Node → Nodes → Nodes

-- an entry
abbrev pub Entry : Type 0
Entry = Step × Node

abbrev pub nodes_of : List Entry → Nodes
nodes_of [] = none
nodes_of (e ∷ es) = first e.0 e.1 (nodes_of es)

abbrev pub list_of : Nodes → List Entry
list_of none = []
list_of (first s n ns) = (s, n) ∷ list_of ns

abbrev pub steps_in : Nodes → List Step
steps_in none = []
steps_in (first s n ns) = s ∷ steps_in ns

-- the root: a record that was not read, or a directory
pub data Root : Type 0 where
  unread : Ref → Root
  loaded : Part Stored → Nodes → Root
