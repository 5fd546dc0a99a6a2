use Rattle.std.proofs.Common.{ap, ◌∙◌, length, refl}
use Rattle.ip_shape.specs.Directory.{root_of}
use Rattle.ip_shape.specs.Loaded.{unread_in}
use Rattle.ip_spec.specs.Shape.{part}
use Rattle.ip_spec.specs.Tree.{entries_of}
use Rattle.ip_tree.proofs.Loading.{asked}
use Rattle.ip_tree.proofs.Walk.{err_is}
use Rattle.ip_tree.proofs.load.load_part.Goals as goal

pub returns-in_err-content-clause-loaded : goal.returns-in_err-content-clause-loaded
returns-in_err-content-clause-loaded g c tells records t over means found =
    let p = c.args.part.now in
    err_is c.from_residual.result c.in_err-content.field-0.0 c.from_residual.ensures.1 _ _ record {
      same = record { means = means; known = λ q. refl };
      cause =
          c.in_err-content.ensures.part tells records (length p.indexes.items) (part (entries_of t).entries p.indexes.items) over (asked records c.args.dir.now t p.indexes.items p.record means found);
    }

pub returns-in_err-enter-clause-loaded : goal.returns-in_err-enter-clause-loaded
returns-in_err-enter-clause-loaded g c tells records t over means found =
    let p = c.args.part.now in
    let here =
    c.in_ok-content.ensures.part tells records (length p.indexes.items) (part (entries_of t).entries p.indexes.items) over (asked records c.args.dir.now t p.indexes.items p.record means found) in
    let found' = ap (λ is. unread_in is (root_of c.args.dir.now)) c.deref.ensures.value ∙ found in
    err_is c.from_residual-in_err-enter.result _ c.from_residual-in_err-enter.ensures.1 _ _ record { same = c.in_err-enter.ensures.entered records t p.record means found' here; cause = tt }

pub returns-clause-loaded : goal.returns-clause-loaded
returns-clause-loaded g c tells records t over means found =
    let p = c.args.part.now in
    let here =
    c.in_ok-content.ensures.part tells records (length p.indexes.items) (part (entries_of t).entries p.indexes.items) over (asked records c.args.dir.now t p.indexes.items p.record means found) in
    let found' = ap (λ is. unread_in is (root_of c.args.dir.now)) c.deref.ensures.value ∙ found in (c.in_ok-enter.ensures.entered records t p.record means found' here).0
