-- The tree that contents are taken from.
--     first_stands      the contents that it knows are records of theirs
use Rattle.std.proofs.Common.{ℕ, [], sym, ap, subst, ◌∙◌, Option, Some, None}
use Rattle.std.specs.Prelude.{IfSome}
use Rattle.std.proofs.lemmas.List.{append-nil}
use Rattle.ip_spec.specs.Batch.{HoldsContents, whole_part}
use Rattle.ip_spec.specs.Map.{get}
use Rattle.ip_spec.specs.View.{View}
use Rattle.ip_spec.specs.declared.record.Record.{Record}
use Rattle.ip_spec.specs.declared.record.Ref.{Ref}
use Rattle.ip_spec.proofs.Subtrees.{get-subtree}
use Rattle.ip_tree.specs.Node.{unread}
use Rattle.ip_tree.proofs.Stands.{root_known}
use Rattle.ip_save.specs.Batches.{IsFirst}

pub first_stands : (records : ℕ → Option Record) (r : Option Ref) (first : Option View) → IsFirst records r first → IfSome first (HoldsContents records)
first_stands records None first is = subst (λ (f : Option View). IfSome f (HoldsContents records)) (sym is) tt
first_stands records (Some r) None is = absurd is
first_stands records (Some r) (Some w) is = λ p at b known here.
    (root_known records (unread r) w.map p [] at is.root (sym (is.known (whole_part p)) ∙ known)).bytes b (get-subtree w.map p [] ∙ ap (get w.map) (append-nil p) ∙ here)
