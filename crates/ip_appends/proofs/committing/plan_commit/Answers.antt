use Rattle.std.proofs.Common.{◌≡◌, ℕ, List, rules, refl, sym, ◌∙◌, subst, length}
use Rattle.std.specs.Prelude.{All, Ok, Err, IsTrue, is_some, nat_le, not, ◌&&◌}
use Rattle.ip_spec.specs.declared.reply.Reply.{Reply}
use Rattle.ip_spec.specs.Repository.{head, is_retained, name_at}
use Rattle.ip_spec.specs.Map.{len}
use Rattle.ip_spec.specs.Step.{below, branches_limit, moved_head, unless_some, room_for_branch, not_existing, new_commit}
use Rattle.ip_held.specs.declared.fault.StoreFault.TheVariants as StoreFault
use Rattle.ip_image.specs.Appending.{fields_of}
use Rattle.ip_image.specs.Slot.{IsSlot}
use Rattle.ip_save.specs.Batches.{IsBatch, fields_told}
use Rattle.ip_save.specs.declared.batch.Batch.{Batch}
use Rattle.ip_appends.specs.declared.committing.Plan.{Plan}
use Rattle.ip_held.specs.Changes.{HasAnswer, IsNextSlot, IsUndamaged, LimitsSpace}
use Rattle.ip_held.specs.Collecting.{phase_of, carried, not_leaving_in}
use Rattle.ip_held.specs.Answers.{RefusesBy, IsRefusal, first_parent, first_refusal, first_view}
use Rattle.ip_appends.specs.Commits.{IsNewBatch, end_of}
use Rattle.ip_held.specs.Held.{image_records}
use Rattle.ip_held.specs.Work.{IsThere}
use Rattle.ip_held.specs.declared.step.Entry.{Entry}
use Rattle.ip_appends.proofs.BehindPlan.{looks_nothing, slot_behind, undamaged_as, undamaged_batch, undamaged_slot}
use Rattle.ip_held.proofs.Causing.{cause_of, undamaged_cause}
use Rattle.ip_appends.proofs.Planning.{told_from, name_from, refused_batch, batch_limits, slot_limits, coming, passed, planned}
use Rattle.ip_appends.proofs.Unwanted.{none_full, none_given_up, none_leaving, none_moved, refused_answer}
use Rattle.ip_held.proofs.Machine.{if_err_is, Given, Moved, Leaves, by_given, by_moved, by_leaves, by_room, First, first_there, first_room, refused_first, refused_short, refused_memory}
use Rattle.ip_held.proofs.Phases.{retained_parents}
use Rattle.ip_appends.proofs.committing.plan_commit.Goals as goal

pub returns-in_err-there-clause-refused : goal.returns-in_err-there-clause-refused
returns-in_err-there-clause-refused g c told r v at =
    let of = at.holds.tables in
    let lawful = at.lawful in
    let fault = c.in_err-there.field-0.0 in
    let is : c.from_residual.result ≡ Err fault = search rules in
    if_err_is c.from_residual.result fault (IsRefusal r (phase_of c.args.store.now.collection) c.args.work.now v c.args.branch.now c.args.info) is
    (refused_first r (phase_of c.args.store.now.collection) c.args.work.now v c.args.branch.now c.args.info fault
    (by_given r (phase_of c.args.store.now.collection) c.args.work.now.least c.args.work.now.parents c.args.branch.now fault (c.in_err-there.ensures.refused r of)))

pub returns-in_err-head_among-clause-refused : goal.returns-in_err-head_among-clause-refused
returns-in_err-head_among-clause-refused g c told r v at =
    let of = at.holds.tables in
    let lawful = at.lawful in
    let fault = c.in_err-head_among.field-0.0 in
    let is : c.from_residual-in_err-head_among.result ≡ Err fault = search rules in
    let given : Given r (phase_of c.args.store.now.collection) c.args.work.now.least c.args.work.now.parents c.args.branch.now ≡ Ok tt = c.in_ok-there.ensures.refused r of in
    let guard : RefusesBy (Err fault) (Moved r (phase_of c.args.store.now.collection) c.args.work.now.least c.args.work.now.parents c.args.branch.now) = subst (λ ns. RefusesBy (Err fault) (unless_some (moved_head (head r c.args.branch.now) ns) (λ n. Reply.HeadMoved (name_at r n)))) c.as_slice.ensures (c.in_err-head_among.ensures.refused r of) in
    if_err_is c.from_residual-in_err-head_among.result fault (IsRefusal r (phase_of c.args.store.now.collection) c.args.work.now v c.args.branch.now c.args.info) is
    (refused_first r (phase_of c.args.store.now.collection) c.args.work.now v c.args.branch.now c.args.info fault
    (by_moved r (phase_of c.args.store.now.collection) c.args.work.now.least c.args.work.now.parents c.args.branch.now given fault guard))

pub returns-in_err-staying-clause-refused : goal.returns-in_err-staying-clause-refused
returns-in_err-staying-clause-refused g c told r v at =
    let of = at.holds.tables in
    let lawful = at.lawful in
    let fault = c.in_err-staying.field-0.0 in
    let is : c.from_residual-in_err-staying.result ≡ Err fault = search rules in
    let given : Given r (phase_of c.args.store.now.collection) c.args.work.now.least c.args.work.now.parents c.args.branch.now ≡ Ok tt = c.in_ok-there.ensures.refused r of in
    let moved : Moved r (phase_of c.args.store.now.collection) c.args.work.now.least c.args.work.now.parents c.args.branch.now ≡ Ok tt = subst (λ (ns : List ℕ). unless_some (moved_head (head r c.args.branch.now) ns) (λ n. Reply.HeadMoved (name_at r n)) ≡ Ok tt) c.as_slice.ensures (c.in_ok-head_among.ensures.refused r of) in
    if_err_is c.from_residual-in_err-staying.result fault (IsRefusal r (phase_of c.args.store.now.collection) c.args.work.now v c.args.branch.now c.args.info) is
    (refused_first r (phase_of c.args.store.now.collection) c.args.work.now v c.args.branch.now c.args.info fault
    (by_leaves r (phase_of c.args.store.now.collection) c.args.work.now.least c.args.work.now.parents c.args.branch.now given moved fault c.in_err-staying.ensures.refused))

pub returns-in_err-room_for-clause-refused : goal.returns-in_err-room_for-clause-refused
returns-in_err-room_for-clause-refused g c told r v at =
    let of = at.holds.tables in
    let lawful = at.lawful in
    let fault = c.in_err-room_for.field-0.0 in
    let is : c.from_residual-in_err-room_for.result ≡ Err fault = search rules in
    let given : Given r (phase_of c.args.store.now.collection) c.args.work.now.least c.args.work.now.parents c.args.branch.now ≡ Ok tt = c.in_ok-there.ensures.refused r of in
    let moved : Moved r (phase_of c.args.store.now.collection) c.args.work.now.least c.args.work.now.parents c.args.branch.now ≡ Ok tt = subst (λ (ns : List ℕ). unless_some (moved_head (head r c.args.branch.now) ns) (λ n. Reply.HeadMoved (name_at r n)) ≡ Ok tt) c.as_slice.ensures (c.in_ok-head_among.ensures.refused r of) in
    let leaves : Leaves r (phase_of c.args.store.now.collection) c.args.work.now.least c.args.work.now.parents c.args.branch.now ≡ Ok tt = c.in_ok-staying.ensures.refused in
    if_err_is c.from_residual-in_err-room_for.result fault (IsRefusal r (phase_of c.args.store.now.collection) c.args.work.now v c.args.branch.now c.args.info) is
    (refused_first r (phase_of c.args.store.now.collection) c.args.work.now v c.args.branch.now c.args.info fault
    (by_room r (phase_of c.args.store.now.collection) c.args.work.now.least c.args.work.now.parents c.args.branch.now given moved leaves fault (c.in_err-room_for.ensures.refused r of)))

pub fields-requires-clause-tables : goal.fields-requires-clause-tables
fields-requires-clause-tables g c =
    let r = c.requires.tables.0 in
    let of = c.requires.tables.1 in
    let first : first_refusal r (phase_of c.args.store.now.collection) c.args.work.now.least c.args.work.now.parents c.args.branch.now ≡ Ok tt = passed r (phase_of c.args.store.now.collection) c.args.work.now.least c.args.work.now.parents c.args.branch.now c.as_slice.result.now c.as_slice.ensures (c.in_ok-there.ensures.refused r of) (c.in_ok-head_among.ensures.refused r of) c.in_ok-staying.ensures.refused (c.in_ok-room_for.ensures.refused r of) in
    let there : IsThere r c.args.work.now.least = first_there r (phase_of c.args.store.now.collection) c.args.work.now.least c.args.work.now.parents c.args.branch.now first in
    (r, of, subst (All (λ n. IsTrue (is_retained r n))) (sym c.as_slice-2.ensures) (retained_parents r c.args.work.now.least c.args.work.now.parents c.requires.tables.2 there))

pub returns-in_err-fields-clause-refused : goal.returns-in_err-fields-clause-refused
returns-in_err-fields-clause-refused g c told r v at =
    let of = at.holds.tables in
    let lawful = at.lawful in
    let is : c.from_residual-in_err-fields.result ≡ Err StoreFault.Memory = search rules in
    if_err_is c.from_residual-in_err-fields.result StoreFault.Memory (IsRefusal r (phase_of c.args.store.now.collection) c.args.work.now v c.args.branch.now c.args.info) is
    (refused_memory r (phase_of c.args.store.now.collection) c.args.work.now v c.args.branch.now c.args.info)

pub returns-in_err-batch-clause-refused : goal.returns-in_err-batch-clause-refused
returns-in_err-batch-clause-refused g c told r v at =
    let of = at.holds.tables in
    let lawful = at.lawful in
    let fault = c.in_err-batch.field-0.0 in
    let is : c.from_residual-in_err-batch.result ≡ Err fault = search rules in
    let first : First r (phase_of c.args.store.now.collection) c.args.work.now v c.args.branch.now c.args.info ≡ Ok tt = passed r (phase_of c.args.store.now.collection) c.args.work.now.least c.args.work.now.parents c.args.branch.now c.as_slice.result.now c.as_slice.ensures (c.in_ok-there.ensures.refused r of) (c.in_ok-head_among.ensures.refused r of) c.in_ok-staying.ensures.refused (c.in_ok-room_for.ensures.refused r of) in
    let there : IsThere r c.args.work.now.least = first_there r (phase_of c.args.store.now.collection) c.args.work.now.least c.args.work.now.parents c.args.branch.now first in
    let fields_are : fields_told c.in_ok-fields.fields ≡ fields_of r c.args.work.now.parents c.args.info c.args.branch.now =
    told_from r c.in_ok-fields.fields c.args.info c.args.branch.now c.as_slice-2.result.now c.args.work.now.parents c.as_slice-2.ensures (c.in_ok-fields.ensures.fields r of) (retained_parents r c.args.work.now.least c.args.work.now.parents lawful.parents there) in
    if_err_is c.from_residual-in_err-batch.result fault (IsRefusal r (phase_of c.args.store.now.collection) c.args.work.now v c.args.branch.now c.args.info) is
    (refused_batch r (phase_of c.args.store.now.collection) c.args.work.now v (first_parent at) c.args.branch.now c.args.info first (fields_told c.in_ok-fields.fields) fields_are c.args.store.now.slot c.args.store.now.slot.end fault
    (subst (λ (ns : List ℕ). All (λ n. IsTrue (is_retained r n)) ns → IsNewBatch r v (first_view (image_records at.holds) c.args.store.now r ns) (fields_told c.in_ok-fields.fields) c.args.store.now.slot.end (Err fault)) c.as_slice-3.ensures (λ all. c.in_err-batch.ensures.made told r v at.holds all (lawful.tree there) lawful.short) (retained_parents r c.args.work.now.least c.args.work.now.parents lawful.parents there)))

pub returns-in_err-batch-clause-space : goal.returns-in_err-batch-clause-space
returns-in_err-batch-clause-space g c told r v at e =
    let of = at.holds.tables in
    let lawful = at.lawful in
    let fault = c.in_err-batch.field-0.0 in
    let is : c.from_residual-in_err-batch.result ≡ Err fault = search rules in
    let first : First r (phase_of c.args.store.now.collection) c.args.work.now v c.args.branch.now c.args.info ≡ Ok tt = passed r (phase_of c.args.store.now.collection) c.args.work.now.least c.args.work.now.parents c.args.branch.now c.as_slice.result.now c.as_slice.ensures (c.in_ok-there.ensures.refused r of) (c.in_ok-head_among.ensures.refused r of) c.in_ok-staying.ensures.refused (c.in_ok-room_for.ensures.refused r of) in
    let there : IsThere r c.args.work.now.least = first_there r (phase_of c.args.store.now.collection) c.args.work.now.least c.args.work.now.parents c.args.branch.now first in
    let fields_are : fields_told c.in_ok-fields.fields ≡ fields_of r c.args.work.now.parents c.args.info c.args.branch.now =
    told_from r c.in_ok-fields.fields c.args.info c.args.branch.now c.as_slice-2.result.now c.args.work.now.parents c.as_slice-2.ensures (c.in_ok-fields.ensures.fields r of) (retained_parents r c.args.work.now.least c.args.work.now.parents lawful.parents there) in
    (subst (λ res. LimitsSpace {A = Plan} (end_of r c.args.work.now v (first_parent at) c.args.branch.now c.args.info c.args.store.now) res c.args.store.now) (sym is)
    (batch_limits r (phase_of c.args.store.now.collection) c.args.work.now v (first_parent at) c.args.branch.now c.args.info first (fields_told c.in_ok-fields.fields) fields_are c.args.store.now fault (subst (λ (ns : List ℕ). All (λ n. IsTrue (is_retained r n)) ns → IsNewBatch r v (first_view (image_records at.holds) c.args.store.now r ns) (fields_told c.in_ok-fields.fields) c.args.store.now.slot.end (Err fault)) c.as_slice-3.ensures (λ all. c.in_err-batch.ensures.made told r v at.holds all (lawful.tree there) lawful.short) (retained_parents r c.args.work.now.least c.args.work.now.parents lawful.parents there)))).space e

pub returns-in_err-batch-clause-sequence : goal.returns-in_err-batch-clause-sequence
returns-in_err-batch-clause-sequence g c told r v at e =
    let of = at.holds.tables in
    let lawful = at.lawful in
    let fault = c.in_err-batch.field-0.0 in
    let is : c.from_residual-in_err-batch.result ≡ Err fault = search rules in
    let first : First r (phase_of c.args.store.now.collection) c.args.work.now v c.args.branch.now c.args.info ≡ Ok tt = passed r (phase_of c.args.store.now.collection) c.args.work.now.least c.args.work.now.parents c.args.branch.now c.as_slice.result.now c.as_slice.ensures (c.in_ok-there.ensures.refused r of) (c.in_ok-head_among.ensures.refused r of) c.in_ok-staying.ensures.refused (c.in_ok-room_for.ensures.refused r of) in
    let there : IsThere r c.args.work.now.least = first_there r (phase_of c.args.store.now.collection) c.args.work.now.least c.args.work.now.parents c.args.branch.now first in
    let fields_are : fields_told c.in_ok-fields.fields ≡ fields_of r c.args.work.now.parents c.args.info c.args.branch.now =
    told_from r c.in_ok-fields.fields c.args.info c.args.branch.now c.as_slice-2.result.now c.args.work.now.parents c.as_slice-2.ensures (c.in_ok-fields.ensures.fields r of) (retained_parents r c.args.work.now.least c.args.work.now.parents lawful.parents there) in
    (subst (λ res. LimitsSpace {A = Plan} (end_of r c.args.work.now v (first_parent at) c.args.branch.now c.args.info c.args.store.now) res c.args.store.now) (sym is)
    (batch_limits r (phase_of c.args.store.now.collection) c.args.work.now v (first_parent at) c.args.branch.now c.args.info first (fields_told c.in_ok-fields.fields) fields_are c.args.store.now fault (subst (λ (ns : List ℕ). All (λ n. IsTrue (is_retained r n)) ns → IsNewBatch r v (first_view (image_records at.holds) c.args.store.now r ns) (fields_told c.in_ok-fields.fields) c.args.store.now.slot.end (Err fault)) c.as_slice-3.ensures (λ all. c.in_err-batch.ensures.made told r v at.holds all (lawful.tree there) lawful.short) (retained_parents r c.args.work.now.least c.args.work.now.parents lawful.parents there)))).sequence e

pub returns-in_err-slot-clause-refused : goal.returns-in_err-slot-clause-refused
returns-in_err-slot-clause-refused g c told r v at =
    let of = at.holds.tables in
    let lawful = at.lawful in
    let fault = c.in_err-slot.field-0.0 in
    let is : c.from_residual-in_err-slot.result ≡ Err fault = search rules in
    let first : First r (phase_of c.args.store.now.collection) c.args.work.now v c.args.branch.now c.args.info ≡ Ok tt = passed r (phase_of c.args.store.now.collection) c.args.work.now.least c.args.work.now.parents c.args.branch.now c.as_slice.result.now c.as_slice.ensures (c.in_ok-there.ensures.refused r of) (c.in_ok-head_among.ensures.refused r of) c.in_ok-staying.ensures.refused (c.in_ok-room_for.ensures.refused r of) in
    let there : IsThere r c.args.work.now.least = first_there r (phase_of c.args.store.now.collection) c.args.work.now.least c.args.work.now.parents c.args.branch.now first in
    let fields_are : fields_told c.in_ok-fields.fields ≡ fields_of r c.args.work.now.parents c.args.info c.args.branch.now =
    told_from r c.in_ok-fields.fields c.args.info c.args.branch.now c.as_slice-2.result.now c.args.work.now.parents c.as_slice-2.ensures (c.in_ok-fields.ensures.fields r of) (retained_parents r c.args.work.now.least c.args.work.now.parents lawful.parents there) in
    let batch : IsBatch v (first_parent at) (fields_told c.in_ok-fields.fields) c.args.store.now.slot.end c.in_ok-batch.batch = (subst (λ (ns : List ℕ). All (λ n. IsTrue (is_retained r n)) ns → IsNewBatch r v (first_view (image_records at.holds) c.args.store.now r ns) (fields_told c.in_ok-fields.fields) c.args.store.now.slot.end (Ok c.in_ok-batch.batch)) c.as_slice-3.ensures (λ all. c.in_ok-batch.ensures.made told r v at.holds all (lawful.tree there) lawful.short) (retained_parents r c.args.work.now.least c.args.work.now.parents lawful.parents there)) in
    let name : c.in_ok-batch.batch.name ≡ (new_commit r v.map c.args.work.now.parents c.args.info).name = batch.name ∙ name_from r v c.args.work.now.parents c.args.info c.args.branch.now (fields_told c.in_ok-fields.fields) fields_are in
    if_err_is c.from_residual-in_err-slot.result fault (IsRefusal r (phase_of c.args.store.now.collection) c.args.work.now v c.args.branch.now c.args.info) is
    (refused_short r (phase_of c.args.store.now.collection) c.args.work.now v c.args.branch.now c.args.info first (subst (λ h. not_existing r h ≡ Ok tt) name (c.in_ok-batch.ensures.fresh r of)) (carried c.batch_of.new.store) _ fault c.in_err-slot.ensures)

pub returns-in_err-slot-clause-space : goal.returns-in_err-slot-clause-space
returns-in_err-slot-clause-space g c told r v at e =
    let of = at.holds.tables in
    let lawful = at.lawful in
    let fault = c.in_err-slot.field-0.0 in
    let is : c.from_residual-in_err-slot.result ≡ Err fault = search rules in
    let first : First r (phase_of c.args.store.now.collection) c.args.work.now v c.args.branch.now c.args.info ≡ Ok tt = passed r (phase_of c.args.store.now.collection) c.args.work.now.least c.args.work.now.parents c.args.branch.now c.as_slice.result.now c.as_slice.ensures (c.in_ok-there.ensures.refused r of) (c.in_ok-head_among.ensures.refused r of) c.in_ok-staying.ensures.refused (c.in_ok-room_for.ensures.refused r of) in
    let there : IsThere r c.args.work.now.least = first_there r (phase_of c.args.store.now.collection) c.args.work.now.least c.args.work.now.parents c.args.branch.now first in
    let fields_are : fields_told c.in_ok-fields.fields ≡ fields_of r c.args.work.now.parents c.args.info c.args.branch.now =
    told_from r c.in_ok-fields.fields c.args.info c.args.branch.now c.as_slice-2.result.now c.args.work.now.parents c.as_slice-2.ensures (c.in_ok-fields.ensures.fields r of) (retained_parents r c.args.work.now.least c.args.work.now.parents lawful.parents there) in
    (subst (λ res. LimitsSpace {A = Plan} (end_of r c.args.work.now v (first_parent at) c.args.branch.now c.args.info c.args.store.now) res c.args.store.now) (sym is)
    (slot_limits r (phase_of c.args.store.now.collection) c.args.work.now v (first_parent at) c.args.branch.now c.args.info first (fields_told c.in_ok-fields.fields) fields_are c.args.store.now of c.in_ok-batch.batch (subst (λ (ns : List ℕ). All (λ n. IsTrue (is_retained r n)) ns → IsNewBatch r v (first_view (image_records at.holds) c.args.store.now r ns) (fields_told c.in_ok-fields.fields) c.args.store.now.slot.end (Ok c.in_ok-batch.batch)) c.as_slice-3.ensures (λ all. c.in_ok-batch.ensures.made told r v at.holds all (lawful.tree there) lawful.short) (retained_parents r c.args.work.now.least c.args.work.now.parents lawful.parents there)) fault
    (slot_behind c.args.store.now c.batch_of.new.store c.batch_of.ensures.same (length c.in_ok-batch.batch.bytes.items) (Err fault) (subst (λ bytes. IsNextSlot (carried c.batch_of.new.store) (length bytes) 1 (Err fault)) c.bytes.ensures c.in_err-slot.ensures)))).space e

pub returns-in_err-slot-clause-sequence : goal.returns-in_err-slot-clause-sequence
returns-in_err-slot-clause-sequence g c told r v at e =
    let of = at.holds.tables in
    let lawful = at.lawful in
    let fault = c.in_err-slot.field-0.0 in
    let is : c.from_residual-in_err-slot.result ≡ Err fault = search rules in
    let first : First r (phase_of c.args.store.now.collection) c.args.work.now v c.args.branch.now c.args.info ≡ Ok tt = passed r (phase_of c.args.store.now.collection) c.args.work.now.least c.args.work.now.parents c.args.branch.now c.as_slice.result.now c.as_slice.ensures (c.in_ok-there.ensures.refused r of) (c.in_ok-head_among.ensures.refused r of) c.in_ok-staying.ensures.refused (c.in_ok-room_for.ensures.refused r of) in
    let there : IsThere r c.args.work.now.least = first_there r (phase_of c.args.store.now.collection) c.args.work.now.least c.args.work.now.parents c.args.branch.now first in
    let fields_are : fields_told c.in_ok-fields.fields ≡ fields_of r c.args.work.now.parents c.args.info c.args.branch.now =
    told_from r c.in_ok-fields.fields c.args.info c.args.branch.now c.as_slice-2.result.now c.args.work.now.parents c.as_slice-2.ensures (c.in_ok-fields.ensures.fields r of) (retained_parents r c.args.work.now.least c.args.work.now.parents lawful.parents there) in
    (subst (λ res. LimitsSpace {A = Plan} (end_of r c.args.work.now v (first_parent at) c.args.branch.now c.args.info c.args.store.now) res c.args.store.now) (sym is)
    (slot_limits r (phase_of c.args.store.now.collection) c.args.work.now v (first_parent at) c.args.branch.now c.args.info first (fields_told c.in_ok-fields.fields) fields_are c.args.store.now of c.in_ok-batch.batch (subst (λ (ns : List ℕ). All (λ n. IsTrue (is_retained r n)) ns → IsNewBatch r v (first_view (image_records at.holds) c.args.store.now r ns) (fields_told c.in_ok-fields.fields) c.args.store.now.slot.end (Ok c.in_ok-batch.batch)) c.as_slice-3.ensures (λ all. c.in_ok-batch.ensures.made told r v at.holds all (lawful.tree there) lawful.short) (retained_parents r c.args.work.now.least c.args.work.now.parents lawful.parents there)) fault
    (slot_behind c.args.store.now c.batch_of.new.store c.batch_of.ensures.same (length c.in_ok-batch.batch.bytes.items) (Err fault) (subst (λ bytes. IsNextSlot (carried c.batch_of.new.store) (length bytes) 1 (Err fault)) c.bytes.ensures c.in_err-slot.ensures)))).sequence e

pub returns-in_err-parents-clause-refused : goal.returns-in_err-parents-clause-refused
returns-in_err-parents-clause-refused g c told r v at =
    let of = at.holds.tables in
    let lawful = at.lawful in
    let is : c.from_residual-in_err-parents.result ≡ Err StoreFault.Memory = search rules in
    if_err_is c.from_residual-in_err-parents.result StoreFault.Memory (IsRefusal r (phase_of c.args.store.now.collection) c.args.work.now v c.args.branch.now c.args.info) is
    (refused_memory r (phase_of c.args.store.now.collection) c.args.work.now v c.args.branch.now c.args.info)

pub returns-in_err-copy_of-clause-refused : goal.returns-in_err-copy_of-clause-refused
returns-in_err-copy_of-clause-refused g c told r v at =
    let of = at.holds.tables in
    let lawful = at.lawful in
    let is : c.from_residual-in_err-copy_of.result ≡ Err StoreFault.Memory = search rules in
    if_err_is c.from_residual-in_err-copy_of.result StoreFault.Memory (IsRefusal r (phase_of c.args.store.now.collection) c.args.work.now v c.args.branch.now c.args.info) is
    (refused_memory r (phase_of c.args.store.now.collection) c.args.work.now v c.args.branch.now c.args.info)

pub returns-clause-coming : goal.returns-clause-coming
returns-clause-coming g c r of =
    let first : first_refusal r (phase_of c.args.store.now.collection) c.args.work.now.least c.args.work.now.parents c.args.branch.now ≡ Ok tt = passed r (phase_of c.args.store.now.collection) c.args.work.now.least c.args.work.now.parents c.args.branch.now c.as_slice.result.now c.as_slice.ensures (c.in_ok-there.ensures.refused r of) (c.in_ok-head_among.ensures.refused r of) c.in_ok-staying.ensures.refused (c.in_ok-room_for.ensures.refused r of) in
    let room : room_for_branch r c.args.branch.now ≡ Ok tt = first_room r (phase_of c.args.store.now.collection) c.args.work.now.least c.args.work.now.parents c.args.branch.now first in
    let entered_parents = c.in_ok-copy_of.ensures ∙ c.as_slice-4.ensures in
    coming r c.args.work.now.parents c.args.branch.now c.args.store.now of c.in_ok-fields.fields.number c.in_ok-batch.batch c.in_ok-slot.slot _ c.in_ok-parents.parents
    (c.in_ok-fields.ensures.number r of).0 (λ i. Entry.Commit (c.name.ensures i) (entered_parents i) ((c.in_ok-fields.ensures.number r of).1 i) (c.commit_at.ensures i)) c.in_ok-batch.ensures.is_name c.in_ok-batch.ensures.some c.requires.branch c.in_ok-batch.ensures.placed room (c.in_ok-batch.ensures.fresh r of)
    (slot_behind c.args.store.now c.batch_of.new.store c.batch_of.ensures.same (length c.in_ok-batch.batch.bytes.items) (Ok c.in_ok-slot.slot) (subst (λ bytes. IsNextSlot (carried c.batch_of.new.store) (length bytes) 1 (Ok c.in_ok-slot.slot)) c.bytes.ensures c.in_ok-slot.ensures)) c.in_ok-parents.ensures

pub returns-clause-planned : goal.returns-clause-planned
returns-clause-planned g c told r v at =
    let of = at.holds.tables in
    let lawful = at.lawful in
    let first : First r (phase_of c.args.store.now.collection) c.args.work.now v c.args.branch.now c.args.info ≡ Ok tt = passed r (phase_of c.args.store.now.collection) c.args.work.now.least c.args.work.now.parents c.args.branch.now c.as_slice.result.now c.as_slice.ensures (c.in_ok-there.ensures.refused r of) (c.in_ok-head_among.ensures.refused r of) c.in_ok-staying.ensures.refused (c.in_ok-room_for.ensures.refused r of) in
    let there : IsThere r c.args.work.now.least = first_there r (phase_of c.args.store.now.collection) c.args.work.now.least c.args.work.now.parents c.args.branch.now first in
    let fields_are : fields_told c.in_ok-fields.fields ≡ fields_of r c.args.work.now.parents c.args.info c.args.branch.now =
    told_from r c.in_ok-fields.fields c.args.info c.args.branch.now c.as_slice-2.result.now c.args.work.now.parents c.as_slice-2.ensures (c.in_ok-fields.ensures.fields r of) (retained_parents r c.args.work.now.least c.args.work.now.parents lawful.parents there) in
    planned (image_records at.holds) r c.args.work.now v (first_parent at) c.args.branch.now c.args.info c.args.store.now of lawful c.requires.branch c.requires.info c.in_ok-fields.fields.number c.in_ok-fields.fields c.in_ok-batch.batch _ c.in_ok-parents.parents
    fields_are (subst (λ (ns : List ℕ). All (λ n. IsTrue (is_retained r n)) ns → IsNewBatch r v (first_view (image_records at.holds) c.args.store.now r ns) (fields_told c.in_ok-fields.fields) c.args.store.now.slot.end (Ok c.in_ok-batch.batch)) c.as_slice-3.ensures (λ all. c.in_ok-batch.ensures.made told r v at.holds all (lawful.tree there) lawful.short) (retained_parents r c.args.work.now.least c.args.work.now.parents lawful.parents there)) first (c.in_ok-batch.ensures.fresh r of)

pub returns-clause-there : goal.returns-clause-there
returns-clause-there g c r of =
    let first : first_refusal r (phase_of c.args.store.now.collection) c.args.work.now.least c.args.work.now.parents c.args.branch.now ≡ Ok tt = passed r (phase_of c.args.store.now.collection) c.args.work.now.least c.args.work.now.parents c.args.branch.now c.as_slice.result.now c.as_slice.ensures (c.in_ok-there.ensures.refused r of) (c.in_ok-head_among.ensures.refused r of) c.in_ok-staying.ensures.refused (c.in_ok-room_for.ensures.refused r of) in
    first_there r (phase_of c.args.store.now.collection) c.args.work.now.least c.args.work.now.parents c.args.branch.now first

-- ---- the first parent's tree is read

pub batch_of-requires-clause-tables : goal.batch_of-requires-clause-tables
batch_of-requires-clause-tables g c =
    let r = c.requires.tables.0 in
    let of = c.requires.tables.1 in
    let first : first_refusal r (phase_of c.args.store.now.collection) c.args.work.now.least c.args.work.now.parents c.args.branch.now ≡ Ok tt = passed r (phase_of c.args.store.now.collection) c.args.work.now.least c.args.work.now.parents c.args.branch.now c.as_slice.result.now c.as_slice.ensures (c.in_ok-there.ensures.refused r of) (c.in_ok-head_among.ensures.refused r of) c.in_ok-staying.ensures.refused (c.in_ok-room_for.ensures.refused r of) in
    let there : IsThere r c.args.work.now.least = first_there r (phase_of c.args.store.now.collection) c.args.work.now.least c.args.work.now.parents c.args.branch.now first in
    (r, of, subst (All (λ n. IsTrue (is_retained r n))) (sym c.as_slice-3.ensures) (retained_parents r c.args.work.now.least c.args.work.now.parents c.requires.tables.2 there))

pub next_slot-requires-clause-slot : goal.next_slot-requires-clause-slot
next_slot-requires-clause-slot g c = subst IsSlot (sym c.batch_of.ensures.same.slot) c.requires.tables.1.slot

pub returns-in_err-there-clause-looks : goal.returns-in_err-there-clause-looks
returns-in_err-there-clause-looks g c told = looks_nothing c.args.store.now (g.G.Ground.told c.args.outside.now)

pub returns-in_err-head_among-clause-looks : goal.returns-in_err-head_among-clause-looks
returns-in_err-head_among-clause-looks g c told = looks_nothing c.args.store.now (g.G.Ground.told c.args.outside.now)

pub returns-in_err-staying-clause-looks : goal.returns-in_err-staying-clause-looks
returns-in_err-staying-clause-looks g c told = looks_nothing c.args.store.now (g.G.Ground.told c.args.outside.now)

pub returns-in_err-room_for-clause-looks : goal.returns-in_err-room_for-clause-looks
returns-in_err-room_for-clause-looks g c told = looks_nothing c.args.store.now (g.G.Ground.told c.args.outside.now)

pub returns-in_err-fields-clause-looks : goal.returns-in_err-fields-clause-looks
returns-in_err-fields-clause-looks g c told = looks_nothing c.args.store.now (g.G.Ground.told c.args.outside.now)

-- ---- no fault of the files

pub returns-in_err-batch-clause-undamaged : goal.returns-in_err-batch-clause-undamaged
returns-in_err-batch-clause-undamaged g c told r v at =
    let lawful = at.lawful in
    let of = at.holds.tables in
    let fault = c.in_err-batch.field-0.0 in
    let is : c.from_residual-in_err-batch.result ≡ Err fault = search rules in
    let first : First r (phase_of c.args.store.now.collection) c.args.work.now v c.args.branch.now c.args.info ≡ Ok tt = passed r (phase_of c.args.store.now.collection) c.args.work.now.least c.args.work.now.parents c.args.branch.now c.as_slice.result.now c.as_slice.ensures (c.in_ok-there.ensures.refused r of) (c.in_ok-head_among.ensures.refused r of) c.in_ok-staying.ensures.refused (c.in_ok-room_for.ensures.refused r of) in
    let there : IsThere r c.args.work.now.least = first_there r (phase_of c.args.store.now.collection) c.args.work.now.least c.args.work.now.parents c.args.branch.now first in
    subst IsUndamaged (sym is) (undamaged_batch Plan r v (first_parent at) (fields_told c.in_ok-fields.fields) c.args.store.now.slot.end fault (subst (λ (ns : List ℕ). All (λ n. IsTrue (is_retained r n)) ns → IsNewBatch r v (first_view (image_records at.holds) c.args.store.now r ns) (fields_told c.in_ok-fields.fields) c.args.store.now.slot.end (Err fault)) c.as_slice-3.ensures (λ all. c.in_err-batch.ensures.made told r v at.holds all (lawful.tree there) lawful.short) (retained_parents r c.args.work.now.least c.args.work.now.parents lawful.parents there)))

pub returns-in_err-slot-clause-undamaged : goal.returns-in_err-slot-clause-undamaged
returns-in_err-slot-clause-undamaged g c told r v at =
    let fault = c.in_err-slot.field-0.0 in
    let is : c.from_residual-in_err-slot.result ≡ Err fault = search rules in
    subst IsUndamaged (sym is) (undamaged_slot Plan (carried c.batch_of.new.store) _ fault c.in_err-slot.ensures)

-- ---- why not

pub returns-in_err-there-clause-causes : goal.returns-in_err-there-clause-causes
returns-in_err-there-clause-causes g c =
    let fault = c.in_err-there.field-0.0 in
    let is : c.from_residual.result ≡ Err fault = search rules in
    cause_of g.G.Ground.tells (g.G.Ground.told c.args.outside.now) c.args.store.now.space c.from_residual.result fault is (undamaged_cause g.G.Ground.tells (g.G.Ground.told c.args.outside.now) c.args.store.now.space (Unit {0}) fault c.in_err-there.ensures.undamaged)

pub returns-in_err-head_among-clause-causes : goal.returns-in_err-head_among-clause-causes
returns-in_err-head_among-clause-causes g c =
    let fault = c.in_err-head_among.field-0.0 in
    let is : c.from_residual-in_err-head_among.result ≡ Err fault = search rules in
    cause_of g.G.Ground.tells (g.G.Ground.told c.args.outside.now) c.args.store.now.space c.from_residual-in_err-head_among.result fault is (undamaged_cause g.G.Ground.tells (g.G.Ground.told c.args.outside.now) c.args.store.now.space (Unit {0}) fault c.in_err-head_among.ensures.undamaged)

pub returns-in_err-staying-clause-causes : goal.returns-in_err-staying-clause-causes
returns-in_err-staying-clause-causes g c =
    let fault = c.in_err-staying.field-0.0 in
    let is : c.from_residual-in_err-staying.result ≡ Err fault = search rules in
    cause_of g.G.Ground.tells (g.G.Ground.told c.args.outside.now) c.args.store.now.space c.from_residual-in_err-staying.result fault is (undamaged_cause g.G.Ground.tells (g.G.Ground.told c.args.outside.now) c.args.store.now.space (Unit {0}) fault c.in_err-staying.ensures.undamaged)

pub returns-in_err-room_for-clause-causes : goal.returns-in_err-room_for-clause-causes
returns-in_err-room_for-clause-causes g c =
    let fault = c.in_err-room_for.field-0.0 in
    let is : c.from_residual-in_err-room_for.result ≡ Err fault = search rules in
    cause_of g.G.Ground.tells (g.G.Ground.told c.args.outside.now) c.args.store.now.space c.from_residual-in_err-room_for.result fault is (undamaged_cause g.G.Ground.tells (g.G.Ground.told c.args.outside.now) c.args.store.now.space (Unit {0}) fault c.in_err-room_for.ensures.undamaged)

pub returns-in_err-batch-clause-causes : goal.returns-in_err-batch-clause-causes
returns-in_err-batch-clause-causes g c =
    let fault = c.in_err-batch.field-0.0 in
    let is : c.from_residual-in_err-batch.result ≡ Err fault = search rules in
    cause_of g.G.Ground.tells (g.G.Ground.told c.args.outside.now) c.args.store.now.space c.from_residual-in_err-batch.result fault is c.in_err-batch.ensures.causes

pub returns-in_err-slot-clause-causes : goal.returns-in_err-slot-clause-causes
returns-in_err-slot-clause-causes g c =
    let fault = c.in_err-slot.field-0.0 in
    let is : c.from_residual-in_err-slot.result ≡ Err fault = search rules in
    cause_of g.G.Ground.tells (g.G.Ground.told c.args.outside.now) c.args.store.now.space c.from_residual-in_err-slot.result fault is (undamaged_cause g.G.Ground.tells (g.G.Ground.told c.args.outside.now) c.args.store.now.space Plan fault (undamaged_slot Plan (carried c.batch_of.new.store) _ fault c.in_err-slot.ensures))

pub returns-in_err-fields-clause-causes : goal.returns-in_err-fields-clause-causes
returns-in_err-fields-clause-causes g c =
    let is : c.from_residual-in_err-fields.result ≡ Err StoreFault.Memory = search rules in
    cause_of g.G.Ground.tells (g.G.Ground.told c.args.outside.now) c.args.store.now.space c.from_residual-in_err-fields.result StoreFault.Memory is tt

pub returns-in_err-parents-clause-causes : goal.returns-in_err-parents-clause-causes
returns-in_err-parents-clause-causes g c =
    let is : c.from_residual-in_err-parents.result ≡ Err StoreFault.Memory = search rules in
    cause_of g.G.Ground.tells (g.G.Ground.told c.args.outside.now) c.args.store.now.space c.from_residual-in_err-parents.result StoreFault.Memory is tt

pub returns-in_err-copy_of-clause-causes : goal.returns-in_err-copy_of-clause-causes
returns-in_err-copy_of-clause-causes g c =
    let is : c.from_residual-in_err-copy_of.result ≡ Err StoreFault.Memory = search rules in
    cause_of g.G.Ground.tells (g.G.Ground.told c.args.outside.now) c.args.store.now.space c.from_residual-in_err-copy_of.result StoreFault.Memory is tt

-- ---- without parents

pub returns-in_err-there-clause-alone : goal.returns-in_err-there-clause-alone
returns-in_err-there-clause-alone g c none =
    let fault = c.in_err-there.field-0.0 in
    let is : c.from_residual.result ≡ Err fault = search rules in
    (refl {a = c.args.outside.now}, subst IsUndamaged (sym is) (undamaged_as (Unit {0}) Plan fault c.in_err-there.ensures.undamaged))

pub returns-in_err-head_among-clause-alone : goal.returns-in_err-head_among-clause-alone
returns-in_err-head_among-clause-alone g c none =
    let fault = c.in_err-head_among.field-0.0 in
    let is : c.from_residual-in_err-head_among.result ≡ Err fault = search rules in
    (refl {a = c.args.outside.now}, subst IsUndamaged (sym is) (undamaged_as (Unit {0}) Plan fault c.in_err-head_among.ensures.undamaged))

pub returns-in_err-staying-clause-alone : goal.returns-in_err-staying-clause-alone
returns-in_err-staying-clause-alone g c none =
    let fault = c.in_err-staying.field-0.0 in
    let is : c.from_residual-in_err-staying.result ≡ Err fault = search rules in
    (refl {a = c.args.outside.now}, subst IsUndamaged (sym is) (undamaged_as (Unit {0}) Plan fault c.in_err-staying.ensures.undamaged))

pub returns-in_err-room_for-clause-alone : goal.returns-in_err-room_for-clause-alone
returns-in_err-room_for-clause-alone g c none =
    let fault = c.in_err-room_for.field-0.0 in
    let is : c.from_residual-in_err-room_for.result ≡ Err fault = search rules in
    (refl {a = c.args.outside.now}, subst IsUndamaged (sym is) (undamaged_as (Unit {0}) Plan fault c.in_err-room_for.ensures.undamaged))

pub returns-in_err-fields-clause-alone : goal.returns-in_err-fields-clause-alone
returns-in_err-fields-clause-alone g c none =
    let is : c.from_residual-in_err-fields.result ≡ Err StoreFault.Memory = search rules in
    (refl {a = c.args.outside.now}, subst IsUndamaged (sym is) tt)

pub returns-in_err-batch-clause-alone : goal.returns-in_err-batch-clause-alone
returns-in_err-batch-clause-alone g c none =
    let fault = c.in_err-batch.field-0.0 in
    let is : c.from_residual-in_err-batch.result ≡ Err fault = search rules in
    let kept = c.in_err-batch.ensures.alone (c.as_slice-3.ensures ∙ none) in
    (kept.0, subst IsUndamaged (sym is) (undamaged_as Batch Plan fault kept.1))

pub returns-in_err-slot-clause-alone : goal.returns-in_err-slot-clause-alone
returns-in_err-slot-clause-alone g c none =
    let fault = c.in_err-slot.field-0.0 in
    let is : c.from_residual-in_err-slot.result ≡ Err fault = search rules in
    ((c.in_ok-batch.ensures.alone (c.as_slice-3.ensures ∙ none)).0, subst IsUndamaged (sym is) (undamaged_slot Plan (carried c.batch_of.new.store) _ fault c.in_err-slot.ensures))

pub returns-in_err-parents-clause-alone : goal.returns-in_err-parents-clause-alone
returns-in_err-parents-clause-alone g c none =
    let is : c.from_residual-in_err-parents.result ≡ Err StoreFault.Memory = search rules in
    ((c.in_ok-batch.ensures.alone (c.as_slice-3.ensures ∙ none)).0, subst IsUndamaged (sym is) tt)

pub returns-in_err-copy_of-clause-alone : goal.returns-in_err-copy_of-clause-alone
returns-in_err-copy_of-clause-alone g c none =
    let is : c.from_residual-in_err-copy_of.result ≡ Err StoreFault.Memory = search rules in
    ((c.in_ok-batch.ensures.alone (c.as_slice-3.ensures ∙ none)).0, subst IsUndamaged (sym is) tt)

pub returns-clause-alone : goal.returns-clause-alone
returns-clause-alone g c none = ((c.in_ok-batch.ensures.alone (c.as_slice-3.ensures ∙ none)).0, tt)

-- ---- memory is asked for behind the refusals

pub returns-in_err-there-clause-wanted : goal.returns-in_err-there-clause-wanted
returns-in_err-there-clause-wanted g c r of e =
    let fault = c.in_err-there.field-0.0 in
    let is : c.from_residual.result ≡ Err fault = search rules in
    absurd (none_given_up (below r.floor c.args.work.now.least) fault (c.in_err-there.ensures.refused r of) (sym is ∙ e))

pub returns-in_err-head_among-clause-wanted : goal.returns-in_err-head_among-clause-wanted
returns-in_err-head_among-clause-wanted g c r of e =
    let fault = c.in_err-head_among.field-0.0 in
    let is : c.from_residual-in_err-head_among.result ≡ Err fault = search rules in
    absurd (none_moved r (moved_head (head r c.args.branch.now) c.as_slice.result.now) fault (c.in_err-head_among.ensures.refused r of) (sym is ∙ e))

pub returns-in_err-staying-clause-wanted : goal.returns-in_err-staying-clause-wanted
returns-in_err-staying-clause-wanted g c r of e =
    let fault = c.in_err-staying.field-0.0 in
    let is : c.from_residual-in_err-staying.result ≡ Err fault = search rules in
    absurd (none_leaving (phase_of c.args.store.now.collection) c.args.work.now.least fault c.in_err-staying.ensures.refused (sym is ∙ e))

pub returns-in_err-room_for-clause-wanted : goal.returns-in_err-room_for-clause-wanted
returns-in_err-room_for-clause-wanted g c r of e =
    let fault = c.in_err-room_for.field-0.0 in
    let is : c.from_residual-in_err-room_for.result ≡ Err fault = search rules in
    absurd (none_full (not (is_some (head r c.args.branch.now)) && nat_le branches_limit (len r.branches)) fault (c.in_err-room_for.ensures.refused r of) (sym is ∙ e))

pub returns-in_err-fields-clause-wanted : goal.returns-in_err-fields-clause-wanted
returns-in_err-fields-clause-wanted g c r of e = passed r (phase_of c.args.store.now.collection) c.args.work.now.least c.args.work.now.parents c.args.branch.now c.as_slice.result.now c.as_slice.ensures (c.in_ok-there.ensures.refused r of) (c.in_ok-head_among.ensures.refused r of) c.in_ok-staying.ensures.refused (c.in_ok-room_for.ensures.refused r of)

pub returns-in_err-batch-clause-wanted : goal.returns-in_err-batch-clause-wanted
returns-in_err-batch-clause-wanted g c r of e = passed r (phase_of c.args.store.now.collection) c.args.work.now.least c.args.work.now.parents c.args.branch.now c.as_slice.result.now c.as_slice.ensures (c.in_ok-there.ensures.refused r of) (c.in_ok-head_among.ensures.refused r of) c.in_ok-staying.ensures.refused (c.in_ok-room_for.ensures.refused r of)

pub returns-in_err-slot-clause-wanted : goal.returns-in_err-slot-clause-wanted
returns-in_err-slot-clause-wanted g c r of e = passed r (phase_of c.args.store.now.collection) c.args.work.now.least c.args.work.now.parents c.args.branch.now c.as_slice.result.now c.as_slice.ensures (c.in_ok-there.ensures.refused r of) (c.in_ok-head_among.ensures.refused r of) c.in_ok-staying.ensures.refused (c.in_ok-room_for.ensures.refused r of)

pub returns-in_err-parents-clause-wanted : goal.returns-in_err-parents-clause-wanted
returns-in_err-parents-clause-wanted g c r of e = passed r (phase_of c.args.store.now.collection) c.args.work.now.least c.args.work.now.parents c.args.branch.now c.as_slice.result.now c.as_slice.ensures (c.in_ok-there.ensures.refused r of) (c.in_ok-head_among.ensures.refused r of) c.in_ok-staying.ensures.refused (c.in_ok-room_for.ensures.refused r of)

pub returns-in_err-copy_of-clause-wanted : goal.returns-in_err-copy_of-clause-wanted
returns-in_err-copy_of-clause-wanted g c r of e = passed r (phase_of c.args.store.now.collection) c.args.work.now.least c.args.work.now.parents c.args.branch.now c.as_slice.result.now c.as_slice.ensures (c.in_ok-there.ensures.refused r of) (c.in_ok-head_among.ensures.refused r of) c.in_ok-staying.ensures.refused (c.in_ok-room_for.ensures.refused r of)

pub returns-clause-passed : goal.returns-clause-passed
returns-clause-passed g c r of = passed r (phase_of c.args.store.now.collection) c.args.work.now.least c.args.work.now.parents c.args.branch.now c.as_slice.result.now c.as_slice.ensures (c.in_ok-there.ensures.refused r of) (c.in_ok-head_among.ensures.refused r of) c.in_ok-staying.ensures.refused (c.in_ok-room_for.ensures.refused r of)

-- ---- and so are files touched

pub returns-in_err-there-clause-begun : goal.returns-in_err-there-clause-begun
returns-in_err-there-clause-begun g c r of none =
    let fault = c.in_err-there.field-0.0 in
    let is : c.from_residual.result ≡ Err fault = search rules in
    absurd (none (subst HasAnswer (sym is) (refused_answer (unless_some (below r.floor c.args.work.now.least) Reply.GivenUp) fault (c.in_err-there.ensures.refused r of))))

pub returns-in_err-head_among-clause-begun : goal.returns-in_err-head_among-clause-begun
returns-in_err-head_among-clause-begun g c r of none =
    let fault = c.in_err-head_among.field-0.0 in
    let is : c.from_residual-in_err-head_among.result ≡ Err fault = search rules in
    absurd (none (subst HasAnswer (sym is) (refused_answer (unless_some (moved_head (head r c.args.branch.now) c.as_slice.result.now) (λ n. Reply.HeadMoved (name_at r n))) fault (c.in_err-head_among.ensures.refused r of))))

pub returns-in_err-staying-clause-begun : goal.returns-in_err-staying-clause-begun
returns-in_err-staying-clause-begun g c r of none =
    let fault = c.in_err-staying.field-0.0 in
    let is : c.from_residual-in_err-staying.result ≡ Err fault = search rules in
    absurd (none (subst HasAnswer (sym is) (refused_answer (not_leaving_in (phase_of c.args.store.now.collection) c.args.work.now.least) fault c.in_err-staying.ensures.refused)))

pub returns-in_err-room_for-clause-begun : goal.returns-in_err-room_for-clause-begun
returns-in_err-room_for-clause-begun g c r of none =
    let fault = c.in_err-room_for.field-0.0 in
    let is : c.from_residual-in_err-room_for.result ≡ Err fault = search rules in
    absurd (none (subst HasAnswer (sym is) (refused_answer (room_for_branch r c.args.branch.now) fault (c.in_err-room_for.ensures.refused r of))))

pub returns-in_err-fields-clause-begun : goal.returns-in_err-fields-clause-begun
returns-in_err-fields-clause-begun g c r of none = passed r (phase_of c.args.store.now.collection) c.args.work.now.least c.args.work.now.parents c.args.branch.now c.as_slice.result.now c.as_slice.ensures (c.in_ok-there.ensures.refused r of) (c.in_ok-head_among.ensures.refused r of) c.in_ok-staying.ensures.refused (c.in_ok-room_for.ensures.refused r of)

pub returns-in_err-batch-clause-begun : goal.returns-in_err-batch-clause-begun
returns-in_err-batch-clause-begun g c r of none = passed r (phase_of c.args.store.now.collection) c.args.work.now.least c.args.work.now.parents c.args.branch.now c.as_slice.result.now c.as_slice.ensures (c.in_ok-there.ensures.refused r of) (c.in_ok-head_among.ensures.refused r of) c.in_ok-staying.ensures.refused (c.in_ok-room_for.ensures.refused r of)

pub returns-in_err-slot-clause-begun : goal.returns-in_err-slot-clause-begun
returns-in_err-slot-clause-begun g c r of none = passed r (phase_of c.args.store.now.collection) c.args.work.now.least c.args.work.now.parents c.args.branch.now c.as_slice.result.now c.as_slice.ensures (c.in_ok-there.ensures.refused r of) (c.in_ok-head_among.ensures.refused r of) c.in_ok-staying.ensures.refused (c.in_ok-room_for.ensures.refused r of)

pub returns-in_err-parents-clause-begun : goal.returns-in_err-parents-clause-begun
returns-in_err-parents-clause-begun g c r of none = passed r (phase_of c.args.store.now.collection) c.args.work.now.least c.args.work.now.parents c.args.branch.now c.as_slice.result.now c.as_slice.ensures (c.in_ok-there.ensures.refused r of) (c.in_ok-head_among.ensures.refused r of) c.in_ok-staying.ensures.refused (c.in_ok-room_for.ensures.refused r of)

pub returns-in_err-copy_of-clause-begun : goal.returns-in_err-copy_of-clause-begun
returns-in_err-copy_of-clause-begun g c r of none = passed r (phase_of c.args.store.now.collection) c.args.work.now.least c.args.work.now.parents c.args.branch.now c.as_slice.result.now c.as_slice.ensures (c.in_ok-there.ensures.refused r of) (c.in_ok-head_among.ensures.refused r of) c.in_ok-staying.ensures.refused (c.in_ok-room_for.ensures.refused r of)

pub returns-clause-begun : goal.returns-clause-begun
returns-clause-begun g c r of none = absurd (none tt)
