use Rattle.std.proofs.Common.{◌≡◌, sym, ◌∙◌, subst}
use Rattle.ip_spec.specs.History.{lcas}
use Rattle.ip_held.specs.Collecting.{phase_of}
use Rattle.ip_appends.specs.Merging.{IsCourse}
use Rattle.ip_held.proofs.Histories.{shows_of}
use Rattle.ip_appends.proofs.JoinedTrees.{course_is}
use Rattle.ip_appends.proofs.merging.course_of.Goals as goal

pub returns : goal.returns
returns c r of there here =
    let same : c.as_slice.result.now ≡ lcas r c.args.head c.args.number = c.as_slice.ensures ∙ c.in_ok-least.ensures r (shows_of c.args.store.now r of) in
    subst (IsCourse r (phase_of c.args.store.now.collection) c.args.head c.args.number) (sym c.allowed.ensures)
    (course_is c.args.store.now r (phase_of c.args.store.now.collection) of c.args.head c.args.number there here c.as_slice.result.now same c.in_ok-course.course c.in_ok-course.ensures)
