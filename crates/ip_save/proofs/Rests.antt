-- Entries of a directory as nodes.
--     rest_of es      these.      left_behind ns refs      the references that are left behind nodes.      left_first, left_more      one node and then the others
use Rattle.std.proofs.Common.{◌≡◌, List, ◌∷◌, map, length, drop, sym, ap, ◌∙◌}
use Rattle.std.proofs.lemmas.List.{drop-drop, length-append}
use Rattle.ip_spec.specs.Path.{Step}
use Rattle.ip_tree.specs.Node.{Node, Nodes, first, nodes_of}
use Rattle.ip_tree.specs.Shown.{shown}
use Rattle.ip_tree.specs.declared.node.Node as declared
use Rattle.ip_tree.specs.declared.node.Stored.{Stored}
use Rattle.ip_save.specs.Laid.{behind_refs, fresh, fresh_among}

abbrev pub rest_of : List (Step × declared.Node) → Nodes
rest_of es = nodes_of (map (λ (e : Step × declared.Node). (e.0, shown e.1)) es)

abbrev pub left_behind : Nodes → List Stored → List Stored
left_behind ns refs = drop (length (fresh_among ns)) refs

pub left_first : (s : Step) (n : Node) (ns : Nodes) (refs : List Stored) → left_behind ns (behind_refs n refs) ≡ left_behind (first s n ns) refs
left_first s n ns refs = drop-drop (length (fresh_among ns)) (length (fresh n)) refs ∙ ap (λ k. drop k refs) (sym (length-append (fresh n) (fresh_among ns)))

pub left_more : (s : Step) (n : declared.Node) (es : List (Step × declared.Node)) (refs : List Stored) → left_behind (rest_of es) (behind_refs (shown n) refs) ≡ left_behind (rest_of ((s, n) ∷ es)) refs
left_more s n es refs = left_first s (shown n) (rest_of es) refs
