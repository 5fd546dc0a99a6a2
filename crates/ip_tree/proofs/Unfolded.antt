-- A node of which the own record was read.
--     whole_at      a record of a directory that stands there is a root's
--     unfolded      what was read of it means the same
use Rattle.std.proofs.Common.{◌≡◌, ℕ, sym, ap, subst, ◌∙◌, Option, arith}
use Rattle.sha2.specs.Sha256.{sha256}
use Rattle.ip_shape.specs.declared.dir.Dir.{Dir}
use Rattle.ip_spec.specs.declared.record.Record.{Record}
use Rattle.ip_spec.specs.declared.record.Ref.{Ref}
use Rattle.ip_spec.specs.Record.{Child}
use Rattle.ip_spec.specs.StoredParts.{stored_part}
use Rattle.ip_spec.specs.Tree.{Tree}
use Rattle.ip_spec.specs.View.{Part}
use Rattle.ip_spec.proofs.Naming.{root_name-entries}
use Rattle.ip_tree.specs.Edits.{IsDirectory, IsOpen, IsUnfolded}
use Rattle.ip_tree.specs.Known.{knows}
use Rattle.ip_tree.specs.Meaning.{IsSome, NodeIs, Spells, StoredIs, contents_in, directory_in}
use Rattle.ip_tree.specs.Shown.{shown, shown_directory}
use Rattle.ip_tree.specs.declared.node.Node.{Node}
use Rattle.ip_tree.specs.declared.node.Node.TheVariants as variant
use Rattle.ip_tree.specs.declared.node.Stored.{Stored}
use Rattle.ip_tree.proofs.Nodes.{directory_shown, stored_shown}
use Rattle.ip_tree.proofs.StoredBelow.{child_of_contents}

module _ (records : ℕ → Option Record) where
  pub record IsWhole (r : Ref) (t : Tree) : Type 0 where
    pub spells : Spells records r t
    pub some : IsSome t

  pub whole : (x : Stored) (t : Tree) → x.reference.kind ≡ 2 → StoredIs records x t → IsWhole x.reference t
  whole x t kind (contents_in bytes is low child) =
      let both : ◌≡◌ {A = Child} (x.reference.kind, x.reference.name) (1, sha256 bytes) = child ∙ child_of_contents bytes in
      let one : x.reference.kind ≡ 1 = ap (λ (c : Child). c.0) both in absurd (omega (arith, one, kind))
  whole x t kind (directory_in sub some spells) = record { spells = record { part = spells.part; kind = spells.kind; name = spells.name ∙ sym (root_name-entries sub) }; some = some }

  pub whole_at : (node : Node) (x : Stored) (t : Tree) → node ≡ variant.Stored x → x.reference.kind ≡ 2 → NodeIs records (shown node) t → IsWhole x.reference t
  whole_at node x t same kind is = whole x t kind (subst (λ n. NodeIs records n t) (ap shown same ∙ stored_shown x) is)

  pub unfolded : (node : Node) (x : Stored) (d : Dir Node Stored) (t : Tree) → node ≡ variant.Stored x → IsSome t → IsDirectory records (shown_directory d) t
      → ((p : Part) → knows records (shown_directory d) p ≡ stored_part records x.reference.at p.path p.indexes) → IsUnfolded records (shown node) (shown (variant.Directory d)) t
  unfolded node x d t same some means known = record {
    same = record {
      means = subst (λ n. NodeIs records n t) (sym (directory_shown d)) (some, means.steps, means.parts, means.nodes);
      known = λ p. ap (λ n. knows records n p) (directory_shown d) ∙ known p ∙ sym (ap (λ n. knows records n p) (ap shown same ∙ stored_shown x));
    };
    unfolded = subst IsOpen (sym (directory_shown d)) tt;
  }
