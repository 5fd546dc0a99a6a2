-- A branch that moves on: what comes of its record.
--     forward_may, forward_above      the record may stand behind the others, and goes below no collection's commit
--     forwarded_by name result      the merge's answer.      forward_done      the record was appended, or not.      forward_memory      it could not be made
use Rattle.std.proofs.Common.{◌≡◌, ℕ, ◌+◌, true, [], ◌∷◌, ap, refl, length}
use Rattle.std.specs.Prelude.{Result, Ok, Err, is_some, not, ◌&&◌, ◌==◌, nat_le, Option, Bool}
use Rattle.ip_base.specs.declared.limit.Limit.{Limit}
use Rattle.ip_ground.specs.Told.{Told}
use Rattle.ip_ground.proofs.Passing.{changes_nothing}
use Rattle.ip_ground.proofs.Spans.{only_nowhere}
use Rattle.ip_spec.specs.declared.record.Record.{Record}
use Rattle.ip_spec.specs.declared.reply.Reply.{Reply}
use Rattle.ip_spec.specs.History.{ParentsFirst, is_ancestor}
use Rattle.ip_spec.specs.Map.{len}
use Rattle.ip_spec.proofs.HistoryLaws.{ancestor_test}
use Rattle.ip_history.proofs.Lists.{both_first}
use Rattle.ip_history.proofs.Parents.{not_greater, parents_first}
use Rattle.ip_spec.specs.Path.{Bytes}
use Rattle.ip_spec.specs.Record.{Hash, spelling}
use Rattle.ip_spec.specs.Repository.{Repository, name_at}
use Rattle.ip_spec.specs.Step.{refuse_if, branches_limit, with_branch}
use Rattle.ip_image.specs.Appending.{MayName}
use Rattle.ip_publish.specs.Publishing.{IsOfStore}
use Rattle.ip_held.specs.declared.fault.StoreFault.{StoreFault}
use Rattle.ip_appends.specs.declared.merging.Merge.{Merge}
use Rattle.ip_held.specs.declared.held.Held.{Held}
use Rattle.ip_held.specs.Changes.{HasAnswer, IsUndamaged, LimitsSpace}
use Rattle.ip_appends.specs.Merging.{IsForward, IsForwarded, Forwards, moves}
use Rattle.ip_appends.specs.Naming.{AppendsRecord, Renames}
use Rattle.ip_held.specs.Held.{IsOf}
use Rattle.ip_held.specs.Collecting.{IsAbove}
use Rattle.ip_held.proofs.Histories.{shows_of}
use Rattle.ip_appends.proofs.BranchTurns.{set_may}
use Rattle.ip_appends.proofs.MergeExits.{goes_itself}
use Rattle.ip_held.proofs.Phases.{ahead_above}
use Rattle.ip_held.proofs.Room.{err_of}
use Rattle.ip_held.proofs.Stepping.{with_answer}
use Rattle.ip_held.proofs.Taking.{refused_took, refused_grew, value_took, value_grew, fault_took, fault_grew}

module _ (branch : Bytes) (number : ℕ) (store : Held) where
  abbrev one : Record
  one = Record.BranchSet number branch

  pub forward_may : (r : Repository) → IsOf store r → IsForward r branch number → MayName r one
  forward_may r of forward = set_may r branch number store of forward.retained (ap (λ (o : Option ℕ). refuse_if (not (is_some o) && nat_le branches_limit (len r.branches)) (Reply.Limit Limit.Branches)) forward.is_head)

  -- its head stays above a collection's commit
  pub forward_above : (r : Repository) → IsOf store r → IsForward r branch number → IsAbove store.collection one
  forward_above r of forward =
      let first : ParentsFirst r = parents_first store.history r (shows_of store r of) of.parents_first in
      let up = both_first (is_ancestor r forward.at number) (not (forward.at == number)) forward.forward in
      ahead_above store.slot r store.collection branch forward.at number of.phase forward.is_head (not_greater r first forward.at (ancestor_test r first forward.at number up))

  comes : (r : Repository) (now : Held) (fault : StoreFault) → Renames r one (Err fault) now → IsForwarded r number (Err fault)
  comes r now (StoreFault.Limit Limit.Space) of = tt
  comes r now (StoreFault.Limit Limit.Sequence) of = tt
  comes r now StoreFault.Memory of = tt
  comes r now StoreFault.Ground of = tt
  comes r now (StoreFault.Limit _) of = absurd of
  comes r now _ of = absurd of

  stays : (r : Repository) (now : Held) (fault : StoreFault) → Renames r one (Err fault) now → HasAnswer {A = Merge} (Err fault) → IsOf now r
  stays r now (StoreFault.Limit Limit.Space) of has = of
  stays r now (StoreFault.Limit Limit.Sequence) of has = of
  stays r now StoreFault.Memory of has = of
  stays r now StoreFault.Ground of has = absurd has
  stays r now (StoreFault.Limit _) of has = absurd of
  stays r now _ of has = absurd of

  undamaged : (fault : StoreFault) → IsUndamaged {A = Unit {0}} (Err fault) → IsUndamaged {A = Merge} (Err fault)
  undamaged (StoreFault.Damaged at names) is = absurd is
  undamaged _ is = tt

  abbrev end : ℕ
  end = store.slot.end + length (spelling one)

  limits_of : (fault : StoreFault) → LimitsSpace {A = Unit {0}} end (Err fault) store → LimitsSpace {A = Merge} end (Err fault) store
  limits_of fault was = record {
    space = λ e. was.space (err_of {A = Merge} {B = Unit {0}} fault (StoreFault.Limit Limit.Space) e);
    sequence = λ e. was.sequence (err_of {A = Merge} {B = Unit {0}} fault (StoreFault.Limit Limit.Sequence) e);
    enough = tt;
  }

  abbrev pub forwarded_by : Hash → Result (Unit {0}) StoreFault → Result Merge StoreFault
  forwarded_by name (Ok u) = Ok (Merge.Forward name)
  forwarded_by name (Err fault) = Err fault

  pub forward_done : (tells : Bool) (name : Hash) (result : Result (Unit {0}) StoreFault) (now : Held) (a b : Told) → ((r : Repository) → IsOf store r → IsForward r branch number → name ≡ name_at r number) → AppendsRecord tells one result store now a b
      → Forwards tells number branch (forwarded_by name result) store now a b
  forward_done tells name (Ok u) now a b named did = record {
    comes = λ r of is. named r of is;
    tables = λ r of is has. (with_branch r branch number, record { tables = did.tables r of (forward_may r of is); parents = λ least ns are. record { made = are.made; above = are.above; distinct = are.distinct; few = are.few } });
    same_collection = did.same_collection;
    unswept = did.unswept;
    limits = record { space = λ e. absurd (cc (e)); sequence = λ e. absurd (cc (e)); enough = did.limits.enough };
    appends = did.appends;
    grew = λ told r held. value_grew moves (Merge.Forward name) refl held now (did.grew told r held);
    untouched = λ told is other. absurd (cc is);
    beside = did.beside;
    took = λ told r held is. value_took moves (Merge.Forward name) refl held (with_branch r branch number) ((store.slot.end, one) ∷ []) now (did.took told r held (forward_may r held.tables is));
    clear = λ told has. did.clear told tt;
    undamaged = tt;
    room = λ e. absurd (cc e);
  }
  forward_done tells name (Err fault) now a b named did = record {
    comes = λ r of is. comes r now fault (did.tables r of (forward_may r of is));
    tables = λ r of is has. (r, goes_itself r now (stays r now fault (did.tables r of (forward_may r of is)) has));
    same_collection = did.same_collection;
    unswept = did.unswept;
    limits = limits_of fault did.limits;
    appends = λ told. tt;
    grew = λ told r held. fault_grew (λ (u : Unit {0}). true) moves fault held now (did.grew told r held);
    untouched = λ told is other. did.untouched told refl (λ e. other (err_of fault StoreFault.Ground e));
    beside = did.beside;
    took = λ told r held is. fault_took (λ (u : Unit {0}). true) moves fault held (with_branch r branch number) ((store.slot.end, one) ∷ []) now (did.took told r held (forward_may r held.tables is));
    clear = λ told has. did.clear told (with_answer (Unit {0}) Merge fault has);
    undamaged = undamaged fault did.undamaged;
    room = λ e. did.room (err_of fault StoreFault.Ground e);
  }

  pub forward_memory : (tells : Bool) (a : Told) → Forwards tells number branch (Err StoreFault.Memory) store store a a
  forward_memory tells a = record {
    comes = λ r of is. tt;
    tables = λ r of is has. (r, goes_itself r store of);
    same_collection = refl;
    unswept = refl;
    limits = record { space = λ e. absurd (cc (e)); sequence = λ e. absurd (cc (e)); enough = tt };
    appends = λ told. tt;
    grew = λ told r held. refused_grew moves StoreFault.Memory held;
    untouched = λ told is other. changes_nothing a;
    beside = λ told. only_nowhere a IsOfStore;
    took = λ told r held is. refused_took moves StoreFault.Memory held (with_branch r branch number) ((store.slot.end, one) ∷ []);
    clear = λ told has r held clear. clear;
    undamaged = tt;
    room = λ e. absurd (cc e);
  }
