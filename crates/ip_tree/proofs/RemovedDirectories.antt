-- A directory of the code after a removal at a step or below one, and what stands at a step of it.
--     held_at      what stands there, and was read, is found in them
--     IsBack d e s m is_changed, back_is      another node was put back at the step
--     taken_out      the entry was taken out
--     taken_under      what stands at the step was exchanged for what a removal leaves of it
--     same_under      it was exchanged for one that means and knows the same
use Rattle.std.proofs.Common.{◌≡◌, ℕ, Bool, true, false, List, [], ◌∷◌, map, refl, sym, ap, subst, ◌∙◌, Option, Some, None, cond}
use Rattle.std.specs.Prelude.{◌||◌, is_some}
use Rattle.std.proofs.lemmas.Cmp.{nat_list_cmp_total}
use Rattle.std.specs.FinMap.Entries.{find, find-put, put}
use Rattle.ip_spec.specs.Path.{Step, Path, bytes_cmp, same_bytes}
use Rattle.ip_spec.specs.Shape.{deepest}
use Rattle.ip_spec.specs.declared.record.Record.{Record}
use Rattle.ip_spec.specs.Tree.{Tree, entries_of, is_empty, remove, subtree}
use Rattle.ip_spec.proofs.Subtrees.{get-entries_of, same_step}
use Rattle.ip_shape.specs.Directory.{IsPartly, entries_in, root_of, steps_of, without}
use Rattle.ip_shape.specs.Loaded.{IsEdited, IsLessened, unread_in, way_to}
use Rattle.ip_shape.specs.Reading.{is_needed}
use Rattle.ip_shape.specs.Shape.{AreSteps, ByTest, add, has, take_out}
use Rattle.ip_shape.specs.declared.dir.Dir.{Dir}
use Rattle.ip_shape.proofs.Entries.{AreSteps-add, has_of, steps_put}
use Rattle.ip_shape.proofs.Members.{has-add, same_steps}
use Rattle.ip_tree.specs.Edits.{IsDirectory, IsSame}
use Rattle.ip_tree.specs.Known.{knows}
use Rattle.ip_tree.specs.Meaning.{NodeIs}
use Rattle.ip_tree.specs.Node as told
use Rattle.ip_tree.specs.Node.{directory, nodes_of}
use Rattle.ip_tree.specs.Removal.{IsTaken}
use Rattle.ip_tree.specs.Shown.{entries_shown, shown, shown_directory}
use Rattle.ip_tree.specs.declared.node.Node.{Node}
use Rattle.ip_tree.specs.declared.node.Stored.{Stored}
use Rattle.ip_tree.proofs.DirectoryEdits.{entry_exchanged, entry_put, entry_taken}
use Rattle.ip_tree.proofs.PartlyShown.{map_put, map_without, show}
use Rattle.ip_tree.proofs.RemovedParts.{gone_directory, gone_entries_now, gone_known, under_directory, under_entries, under_known}
use Rattle.ip_tree.proofs.TouchedParts.{same_itself}
use Rattle.ip_tree.proofs.Directories.{IsChild, node_of, put_again, read_has}

-- ---- the node at a step

module _ (records : ℕ → Option Record) (d : Dir Node Stored) (t : Tree) (s : Step) (is : IsDirectory records (shown_directory d) t) where
  pub stands_in : is_empty (subtree t (s ∷ [])) ≡ false → find bytes_cmp s (entries_of t).entries ≡ Some (subtree t (s ∷ []))
  stands_in stands = get-entries_of t s ∙ ap (λ b. cond b None (Some (subtree t (s ∷ [])))) stands

  pub held_at : is_empty (subtree t (s ∷ [])) ≡ false → unread_in (way_to s) (root_of d) ≡ None → is_some (find bytes_cmp s (entries_in d)) ≡ true
  held_at stands way = read_has records d t s is way ∙ ap is_some (stands_in stands)

-- ---- a node is put back

pub record IsBack (d e : Dir Node Stored) (steps : List Step) (s : Step) (m : Node) (is_changed : Bool) : Type 0 where
  pub partly : IsPartly e steps (put bytes_cmp s m (entries_in d))
  pub root : ByTest is_changed (IsEdited 0 s (root_of d) (root_of e)) (root_of e ≡ root_of d)

-- what was held there was taken out before, and something stands in its place
pub back_is : (d mid e : Dir Node Stored) (steps : List Step) (s : Step) (gone m : Node) (is_changed : Bool) → IsPartly mid steps (put bytes_cmp s gone (entries_in d)) → root_of mid ≡ root_of d
    → ((steps : List Step) (es : List (Step × Node)) → IsPartly mid steps es → is_some (find bytes_cmp s es) ≡ true →
    IsPartly e steps (put bytes_cmp s m es) × ByTest is_changed (IsEdited 0 s (root_of mid) (root_of e)) (root_of e ≡ root_of mid))
    → IsBack d e steps s m is_changed
back_is d mid e steps s gone m is_changed out known back =
    let some : is_some (find bytes_cmp s (put bytes_cmp s gone (entries_in d))) ≡ true =
    ap is_some (find-put bytes_cmp nat_list_cmp_total s s gone (entries_in d) ∙ ap (λ b. cond b (Some gone) (find bytes_cmp s (entries_in d))) (same_itself s)) in
    let b = back steps (put bytes_cmp s gone (entries_in d)) out some in record {
      partly = subst (λ (l : List (Step × Node)). IsPartly e steps l) (put_again s gone m (entries_in d)) b.0;
      root = subst (λ r. ByTest is_changed (IsEdited 0 s r (root_of e)) (root_of e ≡ r)) known b.1;
    }

-- ---- the entry is taken out

pub taken_out : (records : ℕ → Option Record) (d e : Dir Node Stored) (t : Tree) (s : Step) → IsDirectory records (shown_directory d) t → has s (steps_of (entries_of t).entries) ≡ true → unread_in (way_to s) (root_of d) ≡ None
    → ((is : List ℕ) (r : Stored) → is_needed s (steps_of (entries_of t).entries) is ≡ true → unread_in is (root_of d) ≡ Some (r, []) → ⊥) → IsPartly e (take_out s (steps_of (entries_of t).entries)) (without s (entries_in d))
    → IsLessened deepest 0 s (steps_of (entries_of t).entries) (root_of d) (root_of e) → IsTaken records (s ∷ []) (shown_directory d) (shown_directory e) t
taken_out records d e t s is is_in way read partly lessened =
    let now : entries_shown e ≡ without s (entries_shown d) = ap (λ (l : List (Step × Node)). map show l) partly.0 ∙ map_without shown s (entries_in d) in record {
      means = entry_taken records d e t (remove t (s ∷ [])) s is is_in (gone_directory records (root_of d) (root_of e) (entries_shown d) t s is is_in way read lessened)
          (gone_entries_now records (root_of d) (root_of e) (entries_shown d) t s is is_in way read lessened) way read partly lessened;
      known = λ part.
          ap (λ (l : List told.Entry). knows records (directory (root_of e) (nodes_of l)) part) now
          ∙ gone_known records (root_of d) (root_of e) (entries_shown d) t s is is_in way read lessened part;
    }

-- ---- below the step

-- a step that stands among others is added to them by nothing
add_none : (s : Step) (steps : List Step) → AreSteps steps → has s steps ≡ true → add s steps ≡ steps
add_none s steps a is_in = same_steps (add s steps) steps (AreSteps-add s steps a) a (λ q. has-add q s steps ∙ by q (same_bytes q s) refl)
  where
    by : (q : Step) (b : Bool) → same_bytes q s ≡ b → (b || has q steps) ≡ has q steps
    by q true e = sym is_in ∙ sym (ap (λ k. has k steps) (same_step q s e))
    by q false e = refl

module _ (records : ℕ → Option Record) (d e : Dir Node Stored) (t : Tree) (s : Step) (n m : Node) (is : IsDirectory records (shown_directory d) t) (c : IsChild records d t s n) where
  pub same_under : IsBack d e (steps_of (entries_of t).entries) s m false → IsSame (NodeIs records) records (shown n) (shown m) c.sub → IsSame (IsDirectory records) records (shown_directory d) (shown_directory e) t
  same_under back same = entry_exchanged records d e t s n m c.sub is c.held c.here same.means same.known back.partly back.root

  pub taken_under : (path : Path) → IsBack d e (steps_of (entries_of t).entries) s m true → is_empty (remove c.sub path) ≡ false → IsTaken records path (shown n) (shown m) c.sub
      → IsTaken records (s ∷ path) (shown_directory d) (shown_directory e) t
  taken_under path back some taken =
      let now : entries_shown e ≡ put bytes_cmp s (shown m) (entries_shown d) = ap (λ (l : List (Step × Node)). map show l) back.partly.0 ∙ map_put shown s m (entries_in d) in
      let entries : (entries_of (remove t (s ∷ path))).entries ≡ put bytes_cmp s (remove c.sub path) (entries_of t).entries =
      under_entries records (root_of d) (root_of e) (entries_shown d) t s path (shown n) (shown m) c.sub is c.held c.here c.way back.root some taken in
      let same : steps_of (entries_of t).entries ≡ steps_of (entries_of (remove t (s ∷ path))).entries =
      sym (ap (λ (l : List (Step × Tree)). steps_of l) entries ∙ steps_put s (remove c.sub path) (entries_of t).entries
      ∙ add_none s (steps_of (entries_of t).entries) is.steps.ascend (has_of s (entries_of t).entries ∙ ap is_some c.here)) in record {
        means = entry_put records d e t (remove t (s ∷ path)) s is m (remove c.sub path) (steps_of (entries_of t).entries) (node_of records (shown m) (remove c.sub path) taken.means some)
            (under_directory records (root_of d) (root_of e) (entries_shown d) t s path (shown n) (shown m) c.sub is c.held c.here c.way back.root some taken) entries same c.way back.partly back.root;
        known = λ part.
            ap (λ (l : List told.Entry). knows records (directory (root_of e) (nodes_of l)) part) now
            ∙ under_known records (root_of d) (root_of e) (entries_shown d) t s path (shown n) (shown m) c.sub is c.held c.here c.way back.root some taken part;
      }
