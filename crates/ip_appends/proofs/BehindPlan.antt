-- A commit behind its plan, which only looked.
--     looks_nothing, looks_on      of no call and of two.      looked_space      of a store's space alone.      at_behind      the work is one over what the store holds then.      first_same      and the tree of its first parent has the same view
--     slot_behind, next_behind, plan_behind      the plan is one of the store that has looked.      records_behind, end_behind      of the same records
--     cut_limits, cut_undamaged, cut_memory      nothing was refused.      undamaged_batch, undamaged_slot, undamaged_saved, undamaged_as      a fault that is no fault of the files
use Rattle.std.proofs.Common.{◌≡◌, ℕ, ◌+◌, ◌-◌, ◌^◌, ◌<◌, ◌≤◌, List, [], ◌∷◌, length, Option, Ok, Err, refl, sym, ◌∙◌, ap, subst}
use Rattle.std.specs.Prelude.{Result, IfErr, option_and_then, slice_get}
use Rattle.ip_base.specs.declared.info.Info.{Info}
use Rattle.ip_ground.specs.Told.{Told}
use Rattle.ip_image.specs.declared.slot.Slot.{Slot}
use Rattle.ip_image.specs.Appending.{AreWithin, bytes_of_records, fields_of}
use Rattle.ip_save.specs.Reused.{IsUnfetched}
use Rattle.ip_save.specs.declared.batch.SaveFault.{SaveFault}
use Rattle.ip_save.specs.declared.batch.SaveFault.TheVariants as saved
use Rattle.ip_spec.specs.Batch.{CommitFields, batch, batch_end, batch_root, reusing_sources}
use Rattle.ip_spec.specs.Path.{Bytes}
use Rattle.ip_spec.specs.Record.{Hash}
use Rattle.ip_spec.specs.Repository.{Repository}
use Rattle.ip_spec.specs.Step.{turned}
use Rattle.ip_spec.specs.TreeAt.{Records}
use Rattle.ip_spec.specs.View.{View}
use Rattle.ip_spec.specs.declared.command.Command.{Command}
use Rattle.ip_spec.specs.declared.record.Record.{Record}
use Rattle.ip_held.specs.declared.collection.Collection.{Collection}
use Rattle.ip_appends.specs.declared.committing.Plan.{Plan}
use Rattle.ip_held.specs.declared.fault.StoreFault.{StoreFault}
use Rattle.ip_held.specs.declared.held.Held.{Held}
use Rattle.ip_held.specs.declared.work.Work.{Work}
use Rattle.ip_held.specs.Causes.{IsFaultFrom}
use Rattle.ip_held.specs.Changes.{HasAnswer, IsNextSlot, IsUndamaged, LimitsSpace, next_slot}
use Rattle.ip_held.specs.Collecting.{carried, carrying, not_leaving_in, phase_of}
use Rattle.ip_held.specs.Answers.{IsCut, committed, conditions_of, first_view, met_nothing, root_in, viewed_at}
use Rattle.ip_appends.specs.Commits.{IsNewBatch, IsNext, IsPlan, end_of, records_of}
use Rattle.ip_held.specs.Placed.{places_in}
use Rattle.ip_held.specs.Held.{SameTables}
use Rattle.ip_held.specs.Trees.{OnlyLooks}
use Rattle.ip_held.specs.Work.{IsAt, IsLawful, session}
use Rattle.ip_space.specs.SpaceView.{SpaceView}
use Rattle.ip_space.proofs.Passing.{reads_nothing, reads_on}
use Rattle.ip_held.proofs.Stepping.{itself, looks}

pub looks_nothing : (store : Held) (a : Told) → OnlyLooks a a store store
looks_nothing store a = looks store store (itself store) a a (reads_nothing a store.space)

pub looks_on : (a b c : Told) (store mid now : Held) → OnlyLooks a b store mid → OnlyLooks b c mid now → OnlyLooks a c store now
looks_on a b c store mid now first next = record {
  reads = reads_on a b c store.space mid.space now.space first.reads next.reads;
  holds = λ r held. next.holds r (first.holds r held);
  records = λ r held still. next.records r (first.holds r held) still ∙ first.records r held (first.holds r held);
}

-- its space alone has looked
pub looked_space : (store : Held) (space : SpaceView) → space.layout ≡ store.space.layout → space.runs ≡ store.space.runs → SameTables store (record store { space = space })
looked_space store space layout runs = record { index = refl; slot = refl; names = refl; places = refl; branches = refl; history = refl; layout = layout; runs = runs; collection = refl; unswept = refl }

abbrev pub at_behind : (store mid : Held) (a b : Told) → OnlyLooks a b store mid → (r : Repository) (work : Work) (v : View) → IsAt a store r work v → IsAt b mid r work v
at_behind store mid a b looks r work v at =
    let now = looks.holds r at.holds in
    record { holds = now; lawful = subst (λ (records : ℕ → Option Record). IsLawful records r work v) (sym (looks.records r at.holds now)) at.lawful }

module _ (store mid : Held) (same : SameTables store mid) where
  pub first_same : (records more : ℕ → Option Record) → more ≡ records → (r : Repository) (parents : List ℕ) → first_view more mid r parents ≡ first_view records store r parents
  first_same records more is r [] = refl
  first_same records more is r (n ∷ parents) = λ i. viewed_at (is i) r n (root_in (option_and_then (is i) (slice_get (same.places i) (n - (same.slot i).floor))))

  -- what comes of a slot behind it
  pub slot_behind : (n : ℕ) (res : Result Slot StoreFault) → IsNextSlot (carried mid) n 1 res → IsNextSlot (carried store) n 1 res
  slot_behind n res is = subst (λ (s : Slot). IsNextSlot s n 1 res) (λ i. carrying (same.slot i) (same.unswept i)) is

  pub next_behind : (r : Repository) (from : List ℕ) (branch : Bytes) (plan : Plan) → IsNext r from branch store plan → IsNext r from branch mid plan
  next_behind r from branch plan is = record {
    number = is.number;
    is_name = is.is_name;
    new_name = is.new_name;
    is_branch = is.is_branch;
    room = is.room;
    parents = is.parents;
    some = is.some;
    placed = subst (λ (s : Slot). (s.end ≤ plan.batch.commit_at) × (plan.batch.commit_at < s.end + length plan.batch.bytes.items)) (sym same.slot) is.placed;
    entry = is.entry;
    slot = is.slot ∙ (λ i. next_slot (carrying (sym same.slot i) (sym same.unswept i)) (length plan.batch.bytes.items) 1);
    ends = subst (λ (s : Slot). s.end + length plan.batch.bytes.items ≤ 2 ^ 62) (sym same.slot) is.ends;
    sequence = subst (λ (s : Slot). s.sequence < 2 ^ 62) (sym same.slot) is.sequence;
  }

  module _ (r : Repository) (work : Work) (v : View) (first other : Option View) (is : other ≡ first) (branch : Bytes) (info : Info) where
    pub records_behind : records_of r work v other branch info mid ≡ records_of r work v first branch info store
    records_behind = λ i. batch v (reusing_sources v (is i)) (fields_of r work.parents info branch) (same.slot i).end

    pub end_behind : end_of r work v other branch info mid ≡ end_of r work v first branch info store
    end_behind = λ i. batch_end v (reusing_sources v (is i)) (fields_of r work.parents info branch) (same.slot i).end

    pub plan_behind : (plan : Plan) → IsPlan r work v first branch info store plan → IsPlan r work v other branch info mid plan
    plan_behind plan p = record {
      name = p.name;
      bytes = p.bytes ∙ ap (λ (rs : Records). bytes_of_records rs) (sym records_behind);
      place = subst (λ (rs : Records). places_in rs ≡ plan.batch.commit_at ∷ []) (sym records_behind) p.place;
      root = p.root ∙ (λ i. batch_root v (reusing_sources v (sym is i)) (sym same.slot i).end);
      behind = end_behind ∙ p.behind ∙ ap (λ (s : Slot). s.end + length plan.batch.bytes.items) (sym same.slot);
      may = p.may;
      within = subst (λ (s : Slot). AreWithin s.version (records_of r work v other branch info mid)) (sym same.slot) (subst (λ (rs : Records). AreWithin store.slot.version rs) (sym records_behind) p.within);
      there = p.there;
      stays = subst (λ (o : Option Collection). not_leaving_in (phase_of o) work.least ≡ Ok tt) (sym same.collection) p.stays;
      turn = subst (λ (o : Option Collection). turned (session r (phase_of o) work v) (Command.Commit branch info) (conditions_of met_nothing) ≡ committed r (phase_of o) work v branch info) (sym same.collection) p.turn;
    }

-- ---- what comes of a commit that nothing refused

pub cut_limits : (end : ℕ) (store : Held) (res : Result Hash StoreFault) → IfErr res IsCut → (end ≤ 2 ^ 62) × (store.slot.sequence < 2 ^ 62) → LimitsSpace end res store
cut_limits end store (Ok name) cut enough = record { space = λ e. absurd (cc (e)); sequence = λ e. absurd (cc (e)); enough = enough }
cut_limits end store (Err StoreFault.Ground) cut enough = record { space = λ e. absurd (cc (e)); sequence = λ e. absurd (cc (e)); enough = tt }
cut_limits end store (Err StoreFault.Memory) cut enough = record { space = λ e. absurd (cc (e)); sequence = λ e. absurd (cc (e)); enough = tt }
cut_limits end store (Err _) cut enough = absurd cut

pub cut_undamaged : (res : Result Hash StoreFault) → IfErr res IsCut → IsUndamaged res
cut_undamaged (Ok name) cut = tt
cut_undamaged (Err StoreFault.Ground) cut = tt
cut_undamaged (Err StoreFault.Memory) cut = tt
cut_undamaged (Err _) cut = absurd cut

pub cut_memory : (fault : StoreFault) → IsCut fault → HasAnswer {A = Hash} (Err fault) → fault ≡ StoreFault.Memory
cut_memory StoreFault.Ground cut has = absurd has
cut_memory StoreFault.Memory cut has = refl
cut_memory _ cut has = absurd cut

pub undamaged_batch : (A : Type 0) (r : Repository) (v : View) (first : Option View) (f : CommitFields) (end : ℕ) (fault : StoreFault) → IsNewBatch r v first f end (Err fault) → IsUndamaged {A = A} (Err fault)
undamaged_batch A r v first f end (StoreFault.Damaged at names) is = absurd is
undamaged_batch A r v first f end _ is = tt

pub undamaged_slot : (A : Type 0) (s : Slot) (n : ℕ) (fault : StoreFault) → IsNextSlot s n 1 (Err fault) → IsUndamaged {A = A} (Err fault)
undamaged_slot A s n (StoreFault.Damaged at names) is = absurd is
undamaged_slot A s n _ is = tt

pub undamaged_as : (A B : Type 0) (fault : StoreFault) → IsUndamaged {A = A} (Err fault) → IsUndamaged {A = B} (Err fault)
undamaged_as A B (StoreFault.Damaged at names) is = absurd is
undamaged_as A B _ is = tt

pub undamaged_saved : (A : Type 0) (s : SaveFault) (fault : StoreFault) → IsFaultFrom s fault → IsUnfetched s → IsUndamaged {A = A} (Err fault)
undamaged_saved A (saved.Limit l) fault is none = undamaged_as (Unit {0}) A fault is
undamaged_saved A (saved.Space name) fault is none = undamaged_as (Unit {0}) A fault is
undamaged_saved A (saved.Fetch f) fault is none = absurd none
undamaged_saved A saved.Memory fault is none = undamaged_as (Unit {0}) A fault is
