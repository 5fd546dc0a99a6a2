use Rattle.std.proofs.Common.{ℕ, subst, Option}
use Rattle.std.specs.Prelude.{Ok, Err}
use Rattle.ip_ground.specs.declared.names.FileName.TheVariants.{Control}
use Rattle.ip_ground.specs.Contents.{bytes_of}
use Rattle.ip_ground.specs.Counts.{Counts, Noted}
use Rattle.ip_ground.specs.Told.{NoFile}
use Rattle.ip_ground.proofs.Spans.{only_on}
use Rattle.ip_image.specs.declared.slot.Slot.{Slot}
use Rattle.ip_control.specs.declared.fault.ControlFault.{ControlFault}
use Rattle.ip_control.specs.Finding.{Finds}
use Rattle.ip_worker.specs.Faults.{counted_work}
use Rattle.ip_worker.proofs.Serving.{served_live, served_none, served_form, served_by}
use Rattle.ip_worker.proofs.served.refuse_served.Goals as goal

pub returns-in-Ok-Some-clause-served : goal.returns-in-Ok-Some-clause-served
returns-in-Ok-Some-clause-served g c told is done =
    let found = subst (λ (r : Option (ℕ × Slot)). Finds (bytes_of ((g.G.Ground.told c.read_live.new.outside).held Control)) (Ok r)) c.in-Ok-Some.field-0-is (c.in-Ok-Some.ensures.finds told) in
    c.refuse_live.ensures.served done (served_live _ _ (c.in-Ok-Some.ensures.only told) c.args.attempt is c.in-Ok-Some.field-0-0-0 c.in-Ok-Some.slot found)

pub returns-in-Ok-Some-clause-damaged : goal.returns-in-Ok-Some-clause-damaged
returns-in-Ok-Some-clause-damaged g c told damaged =
    let found = subst (λ (r : Option (ℕ × Slot)). Finds (bytes_of ((g.G.Ground.told c.read_live.new.outside).held Control)) (Ok r)) c.in-Ok-Some.field-0-is (c.in-Ok-Some.ensures.finds told) in
    served_by _ _ (c.in-Ok-Some.ensures.only told) c.args.attempt c.in-Ok-Some.field-0-0-0 c.in-Ok-Some.slot found (c.refuse_live.ensures.damaged damaged)

pub returns-in-Ok-None-clause-served : goal.returns-in-Ok-None-clause-served
returns-in-Ok-None-clause-served g c told is done =
    let found = subst (λ (r : Option (ℕ × Slot)). Finds (bytes_of ((g.G.Ground.told c.read_live.new.outside).held Control)) (Ok r)) c.in-Ok-None.field-0-is (c.in-Ok-None.ensures.finds told) in
    served_none _ _ (c.in-Ok-None.ensures.only told) c.args.attempt is found

pub returns-in-Err-Form-clause-served : goal.returns-in-Err-Form-clause-served
returns-in-Err-Form-clause-served g c told is done =
    let found = subst (λ (f : ControlFault). Finds (bytes_of ((g.G.Ground.told c.read_live.new.outside).held Control)) (Err f)) c.in-Err-Form.field-0-is (c.in-Err-Form.ensures.finds told) in
    served_form _ _ (c.in-Err-Form.ensures.only told) c.args.attempt is c.in-Err-Form.field-0-0 found.0 found.1

pub returns-in-Ok-Some-clause-only : goal.returns-in-Ok-Some-clause-only
returns-in-Ok-Some-clause-only g c told = only_on _ _ _ NoFile (c.in-Ok-Some.ensures.only told) (c.refuse_live.ensures.only told)

pub returns-in-Ok-Some-clause-counts : goal.returns-in-Ok-Some-clause-counts
returns-in-Ok-Some-clause-counts g c =
    subst (λ (n : Noted). Counts counted_work c.refuse_live.result n (g.G.Ground.counts_of c.refuse_live.new.outside)) c.in-Ok-Some.ensures.counts c.refuse_live.ensures.counts
