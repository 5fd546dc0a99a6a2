-- What refuses a commit before its name is no want of memory, and no fault of the ground or of its files.
--     none_given_up, none_moved, none_leaving, none_full      no want of memory is any of these refusals.      refused_answer      a refusal is an answer
use Rattle.std.proofs.Common.{◌≡◌, ℕ, Bool, true, false, Option, Some, None, subst}
use Rattle.std.specs.Prelude.{Err, IsErrOf}
use Rattle.ip_base.specs.declared.limit.Limit.TheVariants as Limit
use Rattle.ip_spec.specs.declared.reply.Reply.{Reply}
use Rattle.ip_spec.specs.Machine.{Phase}
use Rattle.ip_spec.specs.Repository.{Repository, name_at}
use Rattle.ip_spec.specs.Step.{Refused, below, refuse_if, unless_some}
use Rattle.ip_held.specs.declared.fault.StoreFault.{StoreFault}
use Rattle.ip_held.specs.Answers.{RefusesBy}
use Rattle.ip_held.specs.Changes.{HasAnswer}
use Rattle.ip_held.specs.Collecting.{not_leaving_in}
use Rattle.ip_appends.specs.declared.committing.Plan.{Plan}

none_by : (fault : StoreFault) (refused : Refused (Unit {0})) → (refused ≡ Err Reply.Memory → ⊥) → RefusesBy (Err fault) refused → IsErrOf {T = Plan} (Err fault) StoreFault.Memory → ⊥
none_by fault refused none by e =
    let same : fault ≡ StoreFault.Memory = cc e in
    none (subst (λ (f : StoreFault). RefusesBy (Err f) refused) same by)

unless_no : (o : Option ℕ) (reply : ℕ → Reply) → ((n : ℕ) → reply n ≡ Reply.Memory → ⊥) → unless_some o reply ≡ Err Reply.Memory → ⊥
unless_no None reply other e = cc e
unless_no (Some n) reply other e = other n (cc e)

leaves_no : (phase : Phase) (n : Option ℕ) → not_leaving_in phase n ≡ Err Reply.Memory → ⊥
leaves_no Phase.Idle n e = cc e
leaves_no (Phase.Collecting commit exit) n e = unless_no (below commit n) Reply.Leaving (λ m is. cc is) e

full_no : (full : Bool) → refuse_if full (Reply.Limit Limit.Branches) ≡ Err Reply.Memory → ⊥
full_no true e = cc e
full_no false e = cc e

pub none_given_up : (o : Option ℕ) (fault : StoreFault) → RefusesBy (Err fault) (unless_some o Reply.GivenUp) → IsErrOf {T = Plan} (Err fault) StoreFault.Memory → ⊥
none_given_up o fault by = none_by fault (unless_some o Reply.GivenUp) (unless_no o Reply.GivenUp (λ n is. cc is)) by

pub none_moved : (r : Repository) (o : Option ℕ) (fault : StoreFault) → RefusesBy (Err fault) (unless_some o (λ n. Reply.HeadMoved (name_at r n))) → IsErrOf {T = Plan} (Err fault) StoreFault.Memory → ⊥
none_moved r o fault by = none_by fault (unless_some o (λ n. Reply.HeadMoved (name_at r n))) (unless_no o (λ n. Reply.HeadMoved (name_at r n)) (λ n is. cc is)) by

pub none_leaving : (phase : Phase) (n : Option ℕ) (fault : StoreFault) → RefusesBy (Err fault) (not_leaving_in phase n) → IsErrOf {T = Plan} (Err fault) StoreFault.Memory → ⊥
none_leaving phase n fault by = none_by fault (not_leaving_in phase n) (leaves_no phase n) by

pub none_full : (full : Bool) (fault : StoreFault) → RefusesBy (Err fault) (refuse_if full (Reply.Limit Limit.Branches)) → IsErrOf {T = Plan} (Err fault) StoreFault.Memory → ⊥
none_full full fault by = none_by fault (refuse_if full (Reply.Limit Limit.Branches)) (full_no full) by

pub refused_answer : (refused : Refused (Unit {0})) (fault : StoreFault) → RefusesBy (Err fault) refused → HasAnswer {A = Plan} (Err fault)
refused_answer refused StoreFault.Ground by = absurd by
refused_answer refused (StoreFault.Damaged at names) by = absurd by
refused_answer refused _ by = tt
