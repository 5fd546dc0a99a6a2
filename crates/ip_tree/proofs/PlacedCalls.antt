-- What the calls that put a node at a path say together.
--     placed_whole      the node itself, where the path ends
--     placed_added      a directory of which the way was read, and a new entry was added
--     placed_entry      a directory of which the way was read, its child was taken out, and put back when the node was put below it
--     placed_through      a node that was opened, and is a directory in which the node was put
--     placed_over      a node that was opened, and is none: new directories stand there now
use Rattle.std.proofs.Common.{◌≡◌, ℕ, Bool, true, List, [], ◌∷◌, refl, sym, ap, subst, ◌∙◌, Option, Some, None}
use Rattle.std.specs.Prelude.{Result, Ok, is_ok, is_some}
use Rattle.std.specs.FinMap.Entries.{find, put}
use Rattle.ip_spec.specs.Path.{Step, Path, bytes_cmp}
use Rattle.ip_spec.specs.declared.record.Record.{Record}
use Rattle.ip_spec.specs.Tree.{Tree, entries_of}
use Rattle.ip_shape.specs.Directory.{IsPartly, root_of, steps_of}
use Rattle.ip_shape.specs.Loaded.{IsEdited}
use Rattle.ip_shape.specs.Shape.{ByTest}
use Rattle.ip_shape.specs.declared.dir.Dir.{Dir}
use Rattle.ip_tree.specs.Node as told
use Rattle.ip_tree.specs.Meaning.{NodeIs}
use Rattle.ip_tree.specs.Edits.{IsDirectory, IsNewAt, IsOpened, IsSame, IsUnfolded}
use Rattle.ip_tree.specs.Placing.{IsChain, IsPlaced, Places}
use Rattle.ip_tree.specs.Shown.{shown, shown_directory}
use Rattle.ip_tree.specs.declared.node.Node.{Node}
use Rattle.ip_tree.specs.declared.node.Node.TheVariants as variant
use Rattle.ip_tree.specs.declared.node.Stored.{Stored}
use Rattle.ip_tree.specs.declared.tree.TreeFault.{TreeFault}
use Rattle.ip_tree.proofs.Nodes.{directory_shown}
use Rattle.ip_tree.proofs.PartlyShown.{partly}
use Rattle.ip_tree.proofs.PlacedNodes.{bytes_there, chain_over, is_new_at, placed_after, placed_back, placed_here, placed_node}
use Rattle.ip_tree.proofs.Directories.{child_is, inner_directory, no_directory}

module _ (records : ℕ → Option Record) (n : told.Node) (sub : Tree) (is_node : NodeIs records n sub) where
  pub placed_whole : (old : told.Node) (t : Tree) (p : Path) → p ≡ [] → IsPlaced (NodeIs records) records p n sub old n t
  placed_whole old t p nil = subst (λ (q : Path). IsPlaced (NodeIs records) records q n sub old n t) (sym nil) (placed_here records n sub is_node old t)

  pub placed_added : (d mid between new : Dir Node Stored) (t : Tree) (p : Path) (s : Step) (path : Path) (result : Result (Unit {0}) TreeFault) → p ≡ s ∷ path → between ≡ mid → IsOpened records s (shown_directory d) (shown_directory mid) t
      → find bytes_cmp s mid.entries.entries ≡ None
      → (IsDirectory records (shown_directory between) t → IsNewAt (s ∷ path) (shown_directory between) → Places (IsDirectory records) records (s ∷ path) n sub (shown_directory between) (shown_directory new) t result)
      → Places (IsDirectory records) records p n sub (shown_directory d) (shown_directory new) t result
  placed_added d mid between new t p s path result split same opened lost added =
      let kept : IsSame (IsDirectory records) records (shown_directory d) (shown_directory between) t = subst (λ (x : Dir Node Stored). IsSame (IsDirectory records) records (shown_directory d) (shown_directory x) t) (sym same) opened.same in
      let new_there : IsNewAt (s ∷ path) (shown_directory between) = subst (λ (x : Dir Node Stored). IsNewAt (s ∷ path) (shown_directory x)) (sym same) (is_new_at mid (s ∷ path) s path refl opened.way lost) in
      subst (λ (q : Path). Places (IsDirectory records) records q n sub (shown_directory d) (shown_directory new) t result) (sym split)
      (placed_after (IsDirectory records) (IsDirectory records) records (s ∷ path) n sub (shown_directory d) (shown_directory between) (shown_directory new) t result kept (added kept.means new_there))

  pub placed_entry : (d mid between back : Dir Node Stored) (t : Tree) (p : Path) (s : Step) (path : Path) (vacant old child : Node) (result : Result (Unit {0}) TreeFault) (is_placed : Bool) → p ≡ s ∷ path
      → is_placed ≡ is_ok result → IsOpened records s (shown_directory d) (shown_directory mid) t → find bytes_cmp s mid.entries.entries ≡ Some old
      → ((w : Tree) → NodeIs records (shown old) w → Places (NodeIs records) records path n sub (shown old) (shown child) w result)
      → ((steps : List Step) (es : List (Step × Node)) → IsPartly mid steps es → IsPartly between steps (put bytes_cmp s vacant es)) → root_of between ≡ root_of mid
      → ((steps : List Step) (es : List (Step × Node)) → IsPartly between steps es → is_some (find bytes_cmp s es) ≡ true
      → IsPartly back steps (put bytes_cmp s child es) × ByTest is_placed (IsEdited 0 s (root_of between) (root_of back)) (root_of back ≡ root_of between))
      → Places (IsDirectory records) records p n sub (shown_directory d) (shown_directory back) t result
  placed_entry d mid between back t p s path vacant old child result is_placed split is_result opened found put_at emptied root again =
      let means = opened.same.means in
      let c = child_is records mid t s means old found in
      subst (λ (q : Path). Places (IsDirectory records) records q n sub (shown_directory d) (shown_directory back) t result) (sym split)
      (placed_after (IsDirectory records) (IsDirectory records) records (s ∷ path) n sub (shown_directory d) (shown_directory mid) (shown_directory back) t result opened.same
      (placed_back records n sub is_node mid t s path means opened.way between back vacant old child c result found (put_at c.sub c.means) (emptied (steps_of (entries_of t).entries) mid.entries.entries (partly records mid t means)) root
      (subst (λ (b : Bool). (steps : List Step) (es : List (Step × Node)) → IsPartly between steps es → is_some (find bytes_cmp s es) ≡ true
      → IsPartly back steps (put bytes_cmp s child es) × ByTest b (IsEdited 0 s (root_of between) (root_of back)) (root_of back ≡ root_of between)) is_result again)))

  pub placed_through : (old : told.Node) (node : Node) (inner new : Dir Node Stored) (p : Path) (t : Tree) (result : Result (Unit {0}) TreeFault) → node ≡ variant.Directory inner → IsUnfolded records old (shown node) t
      → (IsDirectory records (shown_directory inner) t → Places (IsDirectory records) records p n sub (shown_directory inner) (shown_directory new) t result) → Places (NodeIs records) records p n sub old (shown (variant.Directory new)) t result
  placed_through old node inner new p t result same opened put_in =
      let at : shown node ≡ shown_directory inner = ap shown same ∙ directory_shown inner in
      subst (λ (x : told.Node). Places (NodeIs records) records p n sub old x t result) (sym (directory_shown new))
      (placed_after (NodeIs records) (NodeIs records) records p n sub old (shown_directory inner) (shown_directory new) t result
      (subst (λ (x : told.Node). IsSame (NodeIs records) records old x t) at opened.same)
      (placed_node records n sub is_node p (shown_directory inner) (shown_directory new) t result (subst (λ (x : told.Node). NodeIs records x t) at opened.same.means) (put_in (inner_directory records node inner t same opened.same.means))))

  pub placed_over : (old : told.Node) (node made : Node) (p : Path) (s : Step) (path : Path) (t : Tree) → p ≡ s ∷ path → ((d : Dir Node Stored) → node ≡ variant.Directory d → ⊥) → IsUnfolded records old (shown node) t → IsChain records p n sub (shown made)
      → IsPlaced (NodeIs records) records p n sub old (shown made) t
  placed_over old node made p s path t split other opened chain =
      let b = bytes_there records (shown node) t (no_directory node other) opened.unfolded opened.same.means in
      placed_after (NodeIs records) (NodeIs records) records p n sub old (shown node) (shown made) t (Ok tt) opened.same
      (subst (λ (q : Path). IsPlaced (NodeIs records) records q n sub (shown node) (shown made) t) (sym split)
      (subst (λ (x : Tree). IsPlaced (NodeIs records) records (s ∷ path) n sub (shown node) (shown made) x) (sym b.1)
      (chain_over records n sub is_node b.0 (shown node) (subst (λ (x : Tree). NodeIs records (shown node) x) b.1 opened.same.means) s path (shown made)
      (subst (λ (q : Path). IsChain records q n sub (shown made)) split chain))))
