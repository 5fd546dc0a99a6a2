use Rattle.std.proofs.Common.{subst}
use Rattle.std.specs.Prelude.{Ok}
use Rattle.ip_tree.specs.Removal.{FindsFront, RemovesFrom}
use Rattle.ip_tree.specs.Edits.{IsDirectory}
use Rattle.ip_tree.specs.Shown.{shown_directory}
use Rattle.ip_tree.specs.declared.remove.Front.{Front}
use Rattle.ip_tree.proofs.CallsOn.{err_causes_on, err_is}
use Rattle.ip_tree.proofs.Looking.{looks_on, still_over}
use Rattle.ip_tree.proofs.RemovedExits.{first_count, first_stands, kept_on, removes_first}
use Rattle.ip_tree.proofs.remove.remove_from.Goals as goal

pub returns-in_err-take_in-in-Steps-clause-removes : goal.returns-in_err-take_in-in-Steps-clause-removes
returns-in_err-take_in-in-Steps-clause-removes g c tells records tree over is =
    let old = shown_directory c.args.dir.now in
    let d = c.front_in.new.dir in
    let mid = shown_directory d in
    let found = subst (λ (f : Front). FindsFront records c.args.path.now old mid tree (Ok f)) c.in-Steps.is (c.in_ok-front_in.ensures.front tells records tree over is) in
    let stands = first_stands records old mid tree c.args.path.now c.in-Steps.count found.0 found.1 in
    let count = first_count records old mid tree c.args.path.now c.in-Steps.count found.0 found.1 in
    let kept = c.in_err-take_in-in-Steps.ensures.taken tells records tree (still_over _ _ _ _ _ records c.in_ok-front_in.ensures.looks tells over) found.1.means stands count in
    err_is (λ r. RemovesFrom records c.args.path.now old (shown_directory c.take_in.new.dir) tree r) c.from_residual-in_err-take_in-in-Steps.result c.in_err-take_in-in-Steps.field-0.0
    c.from_residual-in_err-take_in-in-Steps.ensures.1 (kept_on (IsDirectory records) records old mid (shown_directory c.take_in.new.dir) tree c.in_err-take_in-in-Steps.field-0.0 found.1 kept)

pub returns-in_err-take_in-in-Steps-clause-looks : goal.returns-in_err-take_in-in-Steps-clause-looks
returns-in_err-take_in-in-Steps-clause-looks g c = looks_on _ _ _ _ _ _ _ c.in_ok-front_in.ensures.looks c.take_in.ensures.looks

pub returns-in_err-take_in-in-Steps-clause-causes : goal.returns-in_err-take_in-in-Steps-clause-causes
returns-in_err-take_in-in-Steps-clause-causes g c =
    err_causes_on _ _ _ _ _ c.in_ok-front_in.ensures.looks c.from_residual-in_err-take_in-in-Steps.result c.in_err-take_in-in-Steps.field-0.0 c.from_residual-in_err-take_in-in-Steps.ensures.1
    c.in_err-take_in-in-Steps.ensures.causes

pub returns-in_ok-take_in-in-Steps-clause-removes : goal.returns-in_ok-take_in-in-Steps-clause-removes
returns-in_ok-take_in-in-Steps-clause-removes g c tells records tree over is =
    let old = shown_directory c.args.dir.now in
    let mid = shown_directory c.front_in.new.dir in
    let found = subst (λ (f : Front). FindsFront records c.args.path.now old mid tree (Ok f)) c.in-Steps.is (c.in_ok-front_in.ensures.front tells records tree over is) in
    let stands = first_stands records old mid tree c.args.path.now c.in-Steps.count found.0 found.1 in
    let count = first_count records old mid tree c.args.path.now c.in-Steps.count found.0 found.1 in
    let taken = c.in_ok-take_in-in-Steps.ensures.taken tells records tree (still_over _ _ _ _ _ records c.in_ok-front_in.ensures.looks tells over) found.1.means stands count in
    removes_first records old mid tree c.args.path.now c.in-Steps.count found.0 found.1 (shown_directory c.take_in.new.dir) taken

pub returns-in_ok-take_in-in-Steps-clause-looks : goal.returns-in_ok-take_in-in-Steps-clause-looks
returns-in_ok-take_in-in-Steps-clause-looks g c = looks_on _ _ _ _ _ _ _ c.in_ok-front_in.ensures.looks c.take_in.ensures.looks
