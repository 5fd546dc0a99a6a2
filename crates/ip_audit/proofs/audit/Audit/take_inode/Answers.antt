use Rattle.std.proofs.Common.{refl, sym, subst, take, arith}
use Rattle.std.specs.List.{AllByRecursion}
use Rattle.ip_audit.specs.Changes.{KeepsBesides}
use Rattle.ip_audit.specs.Memory.{ChildPasses, InodePasses, kept_part}
use Rattle.ip_audit.specs.View.{look_of, places_in}
use Rattle.ip_audit.proofs.Loops.{each_of, counts_sum, on_ok, inode_part_is}
use Rattle.ip_audit.proofs.Steps.{then_ok}
use Rattle.ip_audit.proofs.audit.Audit.take_inode.Goals as goal
use Rattle.ip_audit.proofs.audit.Audit.take_inode.Goals.{After-keep}

pub returns-in_default-clause-fails : goal.returns-in_default-clause-fails
returns-in_default-clause-fails c = λ e passes. c.in_default.ensures.none refl c.args.at passes

pub returns-in_default-counted-clause-fails : goal.returns-in_default-counted-clause-fails
returns-in_default-counted-clause-fails c = λ e passes. let l = c.in_default-counted.ensures.none refl in let n = counts_sum c.args.children.now in let b = passes.bounded in omega (arith, l, n, b)

pub returns-then-count-le-LEAF_ENTRIES-clause-fails : goal.returns-then-count-le-LEAF_ENTRIES-clause-fails
returns-then-count-le-LEAF_ENTRIES-clause-fails c = λ e passes. let l = c.if-count-le-LEAF_ENTRIES.true in let s = c.in-Some-counted.ensures.some.0 in let n = counts_sum c.args.children.now in let m = passes.many in omega (arith, l, s, n, m)

passes : (c : After-keep) → InodePasses (look_of c.args.self.now.kept) c.args.at c.args.depth c.args.children.now
passes c =
    let n = counts_sum c.args.children.now in
    let s = c.in-Some-counted.ensures.some.0 in
    record {
      each = subst (λ v. AllByRecursion (ChildPasses (look_of c.args.self.now.kept) c.args.at c.args.depth v) c.args.children.now) (sym c.in-Some.ensures.some) (each_of (ChildPasses (look_of c.args.self.now.kept) c.args.at c.args.depth (take c.args.depth (places_in c.in-Some.first))) c.args.children.now (c.if-not-children_pass.ensures.yes refl));
      many = let l = c.if-count-le-LEAF_ENTRIES.false in omega (arith, l, s, n);
      bounded = let b = c.in-Some-counted.ensures.some.1 in omega (arith, b, s, n);
    }

pub returns-clause-passes : goal.returns-clause-passes
returns-clause-passes c = on_ok c.keep.result (passes (goal.at.returns-clause-passes c).After-keep)

pub returns-clause-memory : goal.returns-clause-memory
returns-clause-memory c = λ e. passes (goal.at.returns-clause-memory c).After-keep

pub returns-clause-kept : goal.returns-clause-kept
returns-clause-kept c = then_ok c.keep.result c.keep.ensures.kept (λ k. subst (λ q. KeepsBesides c.args.self.now c.keep.new.self c.args.at (kept_part q))
    (inode_part_is (look_of c.args.self.now.kept) c.args.depth c.in-Some-counted.count c.inode_height.result c.args.name c.in-Some.first c.args.children.now c.in-Some-counted.ensures.some.0 c.inode_height.ensures.greatest c.requires.name c.in-Some.ensures.some) k)
