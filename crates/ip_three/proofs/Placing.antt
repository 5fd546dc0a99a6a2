-- One edit of a tree, by its view.
--     puts_node      a node of what comes was placed at a path, or was not
--     removed_at      what stood at a path was taken away
use Rattle.std.proofs.Common.{◌≡◌, ℕ, ◌+◌, ◌-◌, ◌≤◌, ◌++◌, length, refl, sym, ap, subst, ◌∙◌, arith, Option, Bool, false}
use Rattle.std.proofs.lemmas.List.{length-append}
use Rattle.std.specs.Prelude.{Result, Ok, Err, is_some, if◌then◌else◌}
use Rattle.ip_base.specs.declared.limit.Limit.TheVariants as limits
use Rattle.ip_space.specs.declared.fault.FetchFault.TheVariants as fetch
use Rattle.ip_spec.specs.Path.{Bytes, Path, IsPath}
use Rattle.ip_spec.specs.Step.{contents_limit, steps_limit}
use Rattle.ip_spec.specs.Tree.{Tree, contents, height, is_empty, place, subtree}
use Rattle.ip_spec.specs.View.{View, least, remove_view}
use Rattle.ip_spec.specs.declared.record.Record.{Record}
use Rattle.ip_spec.proofs.Subtrees.{get-subtree}
use Rattle.ip_tree.specs.Edits.{PlaceFaultBy, is_full}
use Rattle.ip_tree.specs.Finding.{IsPartOf}
use Rattle.ip_tree.specs.Heights.{node_height}
use Rattle.ip_tree.specs.Meaning.{NodeIs}
use Rattle.ip_tree.specs.Node as told
use Rattle.ip_tree.specs.Placing.{IsPlacedIn, PlacesTree}
use Rattle.ip_tree.specs.TreeView.{IsRemoved, IsView}
use Rattle.ip_tree.specs.declared.tree.Tree as code
use Rattle.ip_tree.specs.declared.tree.TreeFault.{TreeFault}
use Rattle.ip_tree.specs.declared.tree.TreeFault.TheVariants.{Limit, Fetch, Memory}
use Rattle.ip_tree.proofs.Directories.{some_node}
use Rattle.ip_tree.proofs.Grafting.{grafted, under_height}
use Rattle.ip_tree.proofs.Heights.{node_steps}
use Rattle.ip_tree.proofs.PlacedWidths.{placed_wide}
use Rattle.ip_tree.proofs.Setting.{sets_placed}
use Rattle.ip_tree.proofs.TreeHeights.{height_most}
use Rattle.ip_tree.proofs.Widest.{wide_of}
use Rattle.ip_three.specs.Applying.{IsFoundAt, IsPutFault, Puts, as_coming, node_of}
use Rattle.ip_three.specs.Merging.{less_at, more_at, put, taken}
use Rattle.ip_three.specs.declared.apply.Coming as coming
use Rattle.ip_three.specs.declared.apply.Coming.TheVariants.{Put, Taken}
use Rattle.ip_three.proofs.Edited.{coming_tree}
use Rattle.ip_three.proofs.Nearing.{more_map}
use Rattle.ip_three.proofs.Standing.{contents_some}

module _ (records : ℕ → Option Record) (tree : code.Tree) (v r : View) (is : IsView records tree v) (path : Path) (is_path : IsPath path) (n : told.Node) (new : code.Tree) where
  cause : (sub : Tree) → is_empty sub ≡ false → (fault : TreeFault) → PlaceFaultBy (is_full path v.map) fault → IsPutFault (place v.map path sub) fault
  cause sub some (Limit limits.Contents) c = absurd c
  cause sub some (Limit limits.Depth) c = absurd c
  cause sub some (Limit limits.Entries) c = wide_of (place v.map path sub) (placed_wide sub some v.map path c)
  cause sub some (Limit limits.Parents) c = absurd c
  cause sub some (Limit limits.Branches) c = absurd c
  cause sub some (Limit limits.Space) c = absurd c
  cause sub some (Limit limits.Sequence) c = absurd c
  cause sub some (Limit limits.Attempt) c = absurd c
  cause sub some (Fetch fetch.Ground) c = tt
  cause sub some (Fetch (fetch.Form at why)) c = absurd c
  cause sub some (Fetch (fetch.Name at want got)) c = absurd c
  cause sub some (Fetch fetch.Memory) c = tt
  cause sub some Memory c = tt

  -- contents
  module _ (bytes : Bytes) (short : length bytes ≤ contents_limit) (node : n ≡ told.contents bytes) where
    contents_placed : IsPlacedIn records path n (contents bytes) new v → IsView records new (more_at r v path (put bytes))
    contents_placed placed = (sets_placed records tree v is path bytes is_path short new n (Ok tt) node placed).view

    puts_contents : (result : Result (Unit {0}) TreeFault) → PlacesTree records path n (contents bytes) new v result → Puts records (more_at r v path (put bytes)) new result
    puts_contents (Ok done) placed = contents_placed placed
    puts_contents (Err fault) not = subst (λ (t : Tree). IsPutFault t fault) (sym (more_map r v path (put bytes))) (cause (contents bytes) (contents_some bytes) fault not.cause)

  -- what stands in the right tree
  module _ (right : code.Tree) (right_is : IsView records right r) (part : IsPartOf records r path n) where
    low : length path + height (subtree r.map path) ≤ steps_limit
    low =
        let few = is_path.short in
        let under : height (subtree r.map path) ≤ 64 - length path =
        height_most (subtree r.map path) (64 - length path) (λ q b here.
        let whole = (right_is.lawful.paths (path ++ q) (ap is_some (sym (get-subtree r.map path q) ∙ here))).short in
        let sum = length-append path q in omega arith) in
        omega arith

    high : node_height n ≡ height (subtree r.map path)
    high = node_steps records n (subtree r.map path) part.means (let most = under_height r.map path right_is.lawful in omega arith)

    part_placed : IsPlacedIn records path n (subtree r.map path) new v → IsView records new (more_at r v path taken)
    part_placed placed =
        let all = grafted records v r path path n part tree is high (let h = high in let l = low in omega arith) right new right_is is_path placed (least new.oldest right.oldest) refl in
        record { root = all.view.root; lawful = all.view.lawful; narrow = all.view.narrow; oldest = placed.oldest; known = all.view.known; below = all.view.below }

    puts_part : (result : Result (Unit {0}) TreeFault) → PlacesTree records path n (subtree r.map path) new v result → Puts records (more_at r v path taken) new result
    puts_part (Ok done) placed = part_placed placed
    puts_part (Err fault) not = subst (λ (t : Tree). IsPutFault t fault) (sym (more_map r v path taken)) (cause (subtree r.map path) (some_node records n (subtree r.map path) part.means) fault not.cause)

  pub node_means : (c : coming.Coming) → IsFoundAt records r path c → n ≡ node_of c → NodeIs records n (coming_tree r.map path (as_coming c))
  node_means (Put bytes) found node = subst (λ (x : told.Node). NodeIs records x (contents bytes)) (sym node) refl
  node_means (Taken m) found node = subst (λ (x : told.Node). NodeIs records x (subtree r.map path)) (sym node) found.means

  pub puts_node : (right : code.Tree) → IsView records right r → (c : coming.Coming) → IsFoundAt records r path c → n ≡ node_of c → (result : Result (Unit {0}) TreeFault)
      → PlacesTree records path n (coming_tree r.map path (as_coming c)) new v result → Puts records (more_at r v path (as_coming c)) new result
  puts_node right right_is (Put bytes) found node result placed = puts_contents bytes found node result placed
  puts_node right right_is (Taken m) found node result placed = puts_part right right_is (subst (λ (x : told.Node). IsPartOf records r path x) (sym node) found) result placed

-- what stood there was taken away, where anything did
pub removed_at : (records : ℕ → Option Record) (v : View) (path : Path) (new : code.Tree) (answer : Bool) → IsRemoved records path new v answer → IsView records new (less_at v path)
removed_at records v path new answer is = subst (λ (b : Bool). IsView records new (if b then remove_view v path else v)) is.found is.view
