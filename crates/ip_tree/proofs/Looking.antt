-- Calls that only read records, one behind another, and what their faults say.
--     looks_nothing, looks_on      no call, and two
--     cause_on      what a fault says of records later on it says of those before
--     causes_on      the same of an answer
--     still_over      later, the space is still over the same records
use Rattle.std.proofs.Common.{◌≡◌, ℕ, refl, sym, ◌∙◌, Bool, Option}
use Rattle.std.specs.Prelude.{Result, Ok, Err, IfErr, IsTrue}
use Rattle.ip_ground.specs.Told.{Told}
use Rattle.ip_spec.specs.declared.record.Record.{Record}
use Rattle.ip_spec.specs.declared.record.Ref.{Ref}
use Rattle.ip_space.specs.SpaceView.{SpaceView}
use Rattle.ip_space.specs.Fetching.{Fetches}
use Rattle.ip_space.specs.declared.fault.FetchFault.{FetchFault}
use Rattle.ip_space.specs.declared.fault.FetchFault.TheVariants.{Ground, Form, Name, Memory}
use Rattle.ip_space.proofs.Passing.{reads_nothing, reads_on}
use Rattle.ip_tree.specs.Reads.{Looks, IsCause, IsDamage, IsOver}
use Rattle.ip_tree.specs.declared.tree.TreeFault.{TreeFault}
use Rattle.ip_tree.specs.declared.tree.TreeFault.TheVariants as fault

pub looks_nothing : (tells : Bool) (told : Told) (space : SpaceView) → Looks tells told told space space
looks_nothing tells told space = record { reads = λ t. reads_nothing told space; layout = refl; runs = refl }

pub looks_on : (tells : Bool) (old mid new : Told) (space then now : SpaceView) → Looks tells old mid space then → Looks tells mid new then now → Looks tells old new space now
looks_on tells old mid new space then now one two = record {
  reads = λ t. reads_on old mid new space then now (one.reads t) (two.reads t);
  layout = two.layout ∙ one.layout;
  runs = two.runs ∙ one.runs;
}

module _ (old new : ℕ → Option Record) (same : (at : ℕ) → new at ≡ old at) where
  fetches_on : (r : Ref) (f : FetchFault) → Fetches new r (Err f) → Fetches old r (Err f)
  fetches_on r Ground is = tt
  fetches_on r Memory is = tt
  fetches_on r (Form at why) is = record { place = is.place; none = λ found here kind. is.none found (same r.at ∙ here) kind }
  fetches_on r (Name at want got) is =
      record { place = is.place; wanted = is.wanted; other = is.other; found = is.found; here = sym (same r.at) ∙ is.here; kind = is.kind; name = is.name }

  damage_on : (f : TreeFault) → IsDamage new f → IsDamage old f
  damage_on (fault.Limit l) is = tt
  damage_on fault.Memory is = tt
  damage_on (fault.Fetch f) is = (is.0, is.1, fetches_on is.0 f is.2)

pub cause_on : (tells : Bool) (old new : Told) (space now : SpaceView) → Looks tells old new space now → (f : TreeFault) → IsCause tells new now f → IsCause tells old space f
cause_on tells old new space now looks f is = record {
  blamed = is.blamed;
  damage = λ t readable. let reads = looks.reads t in damage_on _ _ (reads.records readable) f (is.damage t (reads.readable readable));
}

pub causes_on : {A : Type 0} (tells : Bool) (old new : Told) (space now : SpaceView) → Looks tells old new space now → (r : Result A TreeFault) → IfErr r (IsCause tells new now) → IfErr r (IsCause tells old space)
causes_on tells old new space now looks (Ok x) is = tt
causes_on tells old new space now looks (Err f) is = cause_on tells old new space now looks f is

pub still_over : (tells : Bool) (old new : Told) (space now : SpaceView) (records : ℕ → Option Record) → Looks tells old new space now → IsTrue tells → IsOver old space records → IsOver new now records
still_over tells old new space now records looks told over =
    let reads = looks.reads told in record { readable = reads.readable over.readable; held = λ at r is. reads.records over.readable at ∙ over.held at r is }
