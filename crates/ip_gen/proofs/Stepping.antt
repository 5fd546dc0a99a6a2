-- One event, over plain cores: what an append leaves, and what an acceptance leaves.
use Rattle.std.proofs.Common.{◌≡◌, ℕ, ◌^◌, ◌≤◌, List, [], ◌∷◌, ◌++◌, refl, sym, ap, subst, ◌∙◌, Bool, true, false, arith, append_assoc}
use Rattle.std.specs.Prelude.{Contains, Result, Ok, Err, OnErr, IsTrue, filter}
use Rattle.std.proofs.lemmas.List.{append-nil}
use Rattle.ip_base.specs.declared.memory.Memory.{Memory}
use Rattle.ip_spec.specs.declared.event.CoreRecord.{CoreRecord}
use Rattle.ip_spec.specs.declared.event.Event.{Event}
use Rattle.ip_spec.specs.Core.{AreInOrder, AreReached, Core, CorePhase, CoreStep, FollowOn, IsClosed, end_of, stays}
use Rattle.ip_spec.proofs.CoreLaws.{step_keeps}
use Rattle.ip_gen.specs.Laws.{HasCommit}
use Rattle.ip_gen.proofs.Order.{end_push, end_filter, same_place}

abbrev pub with_records : Core → List CoreRecord → Core
with_records core rs = record core { records = rs }

-- what every core has
abbrev pub IsSound : Core → Type 0
IsSound core = IsClosed core × (end_of core.records ≤ 2 ^ 62)

pub closed_on : (old new : Core) (event : Event) → CoreStep old event new → IsClosed old → IsClosed new
closed_on old new event step closed = (step_keeps old new event step closed).0

room_on : (records : List CoreRecord) (phase : CorePhase) (more : List CoreRecord) → FollowOn records phase more → end_of records ≤ 2 ^ 62 → end_of (records ++ more) ≤ 2 ^ 62
room_on records phase [] f room = subst (λ rs. end_of rs ≤ 2 ^ 62) (sym (append-nil records)) room
room_on records phase (r ∷ rs) f room =
    subst (λ rs. end_of rs ≤ 2 ^ 62) (append_assoc records (r ∷ []) rs)
    (room_on (records ++ r ∷ []) phase rs f.1 (let e = end_push records r in let m = f.0.room in omega (arith, e, m)))

-- after an append, taken or not
pub appended : (core : Core) (more records : List CoreRecord) (result : Result Bool Memory) → IsSound core
    → (result ≡ Ok true → FollowOn core.records core.phase more × (records ≡ core.records ++ more))
    → (result ≡ Ok false → records ≡ core.records) → OnErr result (records ≡ core.records) → IsSound (with_records core records)
appended core more records (Ok true) sound taken refused memory =
    let t = taken refl in (
      closed_on core (with_records core records) (Event.Append more) (t.0, ap (with_records core) t.1) sound.0,
      subst (λ rs. end_of rs ≤ 2 ^ 62) (sym t.1) (room_on core.records core.phase more t.0 sound.1),
    )
appended core more records (Ok false) sound taken refused memory = subst (λ rs. IsSound (with_records core rs)) (sym (refused refl)) sound
appended core more records (Err e) sound taken refused memory = subst (λ rs. IsSound (with_records core rs)) (sym memory) sound

-- an acceptance
pub accepts : (core : Core) (h : ℕ) (kept : List ℕ) (ended : Bool) (records : List CoreRecord) → core.phase ≡ CorePhase.collecting h kept ended → ended ≡ true → records ≡ filter (stays h kept) core.records
    → CoreStep core Event.Accept (record { records = records; horizon = h; phase = CorePhase.idle })
accepts core h kept ended records is e same = (h, kept, is ∙ ap (CorePhase.collecting h kept) e, λ i. record { records = same i; horizon = h; phase = CorePhase.idle })

pub accepted : (core : Core) (h : ℕ) (kept : List ℕ) (ended : Bool) (records : List CoreRecord) → core.phase ≡ CorePhase.collecting h kept ended → ended ≡ true → records ≡ filter (stays h kept) core.records
    → IsSound core → IsSound (record { records = records; horizon = h; phase = CorePhase.idle })
accepted core h kept ended records is e same sound = (
  closed_on core (record { records = records; horizon = h; phase = CorePhase.idle }) Event.Accept (accepts core h kept ended records is e same) sound.0,
  subst (λ rs. end_of rs ≤ 2 ^ 62) (sym same) (let l = end_filter (stays h kept) core.records sound.0.order in let m = sound.1 in omega (arith, l, m)),
)

-- the one record at an offset tells whether a commit lies there
pub has_commit_is : (records : List CoreRecord) (at : ℕ) (r : CoreRecord) → AreInOrder 0 records → Contains records r → r.at ≡ at → HasCommit records at → IsTrue r.commit
has_commit_is records at r order c e (q, d, f, commit) = subst (λ (x : CoreRecord). IsTrue x.commit) (same_place 0 records q r order d c (f ∙ sym e)) commit

-- a start
pub starts : (core : Core) (commit : ℕ) (kept : List ℕ) → core.phase ≡ CorePhase.idle → core.horizon ≤ commit → HasCommit core.records commit → AreReached core.records commit (end_of core.records) kept
    → CoreStep core (Event.Start commit) (record core { phase = CorePhase.collecting commit kept false })
starts core commit kept idle low has are = (idle, low, has, (kept, are, refl))
