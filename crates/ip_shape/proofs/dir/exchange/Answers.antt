use Rattle.std.proofs.Common.{ap, ◌∙◌, List, sym, subst}
use Rattle.std.specs.Prelude.{Some, is_some}
use Rattle.std.specs.FinMap.Entries.{find}
use Rattle.std.specs.Map.{set_value}
use Rattle.std.specs.Ordering.{is_eq}
use Rattle.ip_spec.specs.Path.{Step, bytes_cmp}
use Rattle.ip_shape.specs.Shape.{AreSteps}
use Rattle.ip_shape.proofs.Entries.{find_is}
use Rattle.ip_shape.proofs.Partly.{exchanged_is, read_is, steps_exchanged}
use Rattle.ip_shape.proofs.Steps.{AreSteps-filter}
use Rattle.ip_shape.proofs.dir.exchange.Goals as goal

pub returns-in-None-clause-child : goal.returns-in-None-clause-child
returns-in-None-clause-child g c steps entries is =
    c.in-None.ensures.value ∙ find_is c.args.step.now c.args.dir.now.entries.entries ∙ ap (λ (es : List (Step × g.row.C.Denot)). find bytes_cmp c.args.step.now es) is.0

pub returns-in-Some-clause-child : goal.returns-in-Some-clause-child
returns-in-Some-clause-child g c steps entries is =
    ap Some c.replace.ensures.value ∙ c.in-Some.ensures.value ∙ find_is c.args.step.now c.args.dir.now.entries.entries ∙ ap (λ (es : List (Step × g.row.C.Denot)). find bytes_cmp c.args.step.now es) is.0

pub returns-in-Some-clause-exchanged : goal.returns-in-Some-clause-exchanged
returns-in-Some-clause-exchanged g c steps entries is _ =
    let s = c.args.step.now in
    let old : List (Step × g.row.C.Denot) = c.args.dir.now.entries.entries in
    let found = ap is_some (sym (c.in-Some.ensures.value ∙ find_is s old ∙ ap (λ (es : List (Step × g.row.C.Denot)). find bytes_cmp s es) is.0)) in
    let ascend = subst AreSteps (sym is.3) (AreSteps-filter _ steps is.1) in
    let exchanged = exchanged_is s c.args.child entries ascend found in (
      (c.get_mut.follows.holds c.replace.new.dest).0 ∙ ap (λ (es : List (Step × g.row.C.Denot)). set_value (λ k. is_eq (bytes_cmp s k)) es c.replace.new.dest) is.0
          ∙ ap (λ (x : g.row.C.Denot). set_value (λ k. is_eq (bytes_cmp s k)) entries x) c.replace.ensures.after ∙ exchanged,
      is.1,
      is.2,
      steps_exchanged s c.args.child entries ascend found ∙ is.3,
    )

pub returns-in-None-clause-held : goal.returns-in-None-clause-held
returns-in-None-clause-held g c = c.in-None.ensures.value ∙ find_is c.args.step.now c.args.dir.now.entries.entries

pub returns-in-Some-clause-held : goal.returns-in-Some-clause-held
returns-in-Some-clause-held g c = ap Some c.replace.ensures.value ∙ c.in-Some.ensures.value ∙ find_is c.args.step.now c.args.dir.now.entries.entries

pub returns-in-None-clause-absent : goal.returns-in-None-clause-absent
returns-in-None-clause-absent g c steps entries is read =
    ap is_some (c.in-None.ensures.value ∙ find_is c.args.step.now c.args.dir.now.entries.entries ∙ ap (λ (es : List (Step × g.row.C.Denot)). find bytes_cmp c.args.step.now es) is.0)
    ∙ read_is c.args.dir.now.root steps entries c.args.step.now is.3 read

pub returns-in-Some-clause-absent : goal.returns-in-Some-clause-absent
returns-in-Some-clause-absent g c steps entries is read =
    ap is_some
    (ap Some c.replace.ensures.value ∙ c.in-Some.ensures.value ∙ find_is c.args.step.now c.args.dir.now.entries.entries ∙ ap (λ (es : List (Step × g.row.C.Denot)). find bytes_cmp c.args.step.now es) is.0)
    ∙ read_is c.args.dir.now.root steps entries c.args.step.now is.3 read
