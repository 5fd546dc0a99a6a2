use Rattle.std.proofs.Common.{◌∙◌, sym, []}
use Rattle.ip_shape.specs.Directory.{entries_from, root_of, steps_of}
use Rattle.ip_shape.proofs.Entries.{own, moved, all_in}
use Rattle.ip_shape.proofs.Partly.{whole_put, whole_read}
use Rattle.ip_shape.proofs.Ways.{still_fresh}
use Rattle.ip_shape.proofs.dir.build.Goals as goal

pub loop-step-preserved : goal.loop-step-preserved
loop-step-preserved g c =
    let es = c.loop-step.dir.entries.entries in
    let s = c.in-Some.step in
    let is = c.loop-step.invariant.0 in
    let done = c.in_ok-insert.ensures.inserted (steps_of es) es is.0 (whole_read c.loop-step.dir es s is) in
    let last = c.in-Some.ensures.items in (
      own c.insert.new.dir _ (whole_put c.loop-step.dir c.insert.new.dir es s c.in-Some.child is done.1 (λ q. (done.2 q).0)),
      moved c.loop-step.left.items c.pop.new.self.items es c.insert.new.dir.entries.entries (entries_from c.args.entries.items []) s c.in-Some.child last done.1.0 c.loop-step.invariant.1,
      still_fresh 0 s (root_of c.loop-step.dir) (root_of c.insert.new.dir) c.loop-step.invariant.2 done.2,
    )

pub returns-clause-fresh : goal.returns-clause-fresh
returns-clause-fresh g c = c.loop-step.invariant.2

pub returns-clause-dir : goal.returns-clause-dir
returns-clause-dir g c =
    all_in c.loop-step.dir c.loop-step.left.items c.loop-step.dir.entries.entries (entries_from c.args.entries.items []) (sym c.loop-step.left.ok.0 ∙ c.in_default.ensures.cases.0) c.loop-step.invariant.0 c.loop-step.invariant.1
