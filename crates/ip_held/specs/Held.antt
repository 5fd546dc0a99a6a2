-- What an open store holds.
--     IsOf store r      its tables are the repository's, in its history parents come first, and a collection goes on at one of its commits, if any does, and is kept with its check
--     OwnsPair told s      no child changes the live pair of a slot.      OwnsLive told      nor that of the slot that is live
--     Holds store told r      so are its tables, and so is what the ground reads as; its places are those of the commits' records; and a collection that goes on may be accepted, once it is checked
--     SameTables store other      they differ alone in which records the space keeps.      place_of_commit store number      where the record of a commit lies
--     image_records holds      the records of the image that it holds, which are among those of its space
use Rattle.std.specs.Prelude.{◌≡◌, ◌≢◌, ℕ, ◌-◌, ◌<◌, ◌≤◌, length, map, All, Option, IfSome, slice_get}
use Rattle.ip_ground.specs.declared.names.FileName.TheVariants.{Control}
use Rattle.ip_ground.specs.Told.{Told, IsSynced}
use Rattle.ip_spec.specs.Record.{IsHash, IsBranchName}
use Rattle.ip_spec.specs.declared.record.Record.{Record}
use Rattle.ip_spec.specs.Repository.{Repository, next}
use Rattle.ip_spec.specs.TreeAt.{present}
use Rattle.ip_image.specs.declared.slot.Slot.{Slot}
use Rattle.ip_image.specs.Pending.{HasLive}
use Rattle.ip_image.specs.Slot.{IsSlot, IsLive, layout_of}
use Rattle.ip_image.specs.Standing.{StandsFor, AreRetained}
use Rattle.ip_image.specs.Virtual.{run_of}
use Rattle.ip_history.specs.History.{HasParentsFirst, history_of}
use Rattle.ip_space.specs.Pair.{IsOwnPair}
use Rattle.ip_space.specs.SpaceView.{AreCurrent, records_of}
use Rattle.ip_held.specs.Collecting.{IsPhaseOf, IsUnswept, IsGoing, Collects}
use Rattle.ip_held.specs.Control.{control_in}
use Rattle.ip_held.specs.Placed.{places_in, AreRising, IsSpaceOf}
use Rattle.ip_held.specs.declared.held.Held.{Held}

pub record IsOf (store : Held) (r : Repository) : Type 0 where
  pub slot : IsSlot store.slot
  pub index : store.index < 2
  pub floor : r.floor ≡ store.slot.floor
  pub next : next r ≡ store.slot.next
  pub names : map (λ c. c.name) r.commits ≡ store.names
  pub hashes : All IsHash store.names
  pub branches : r.branches ≡ store.branches
  pub retained : AreRetained store.slot r.branches
  pub history : history_of r ≡ store.history
  pub parents_first : HasParentsFirst store.history
  pub space : IsSpaceOf store.slot store.space
  pub placed : length store.places ≡ length r.commits
  pub phase : IsPhaseOf store.slot r store.collection
  pub unswept : IsUnswept store.slot store.unswept
  pub going : IfSome store.collection (IsGoing store.slot.floor store.places store.unswept store.space)
  -- each name has the form of one, and each commit's record lies from the horizon on
  pub named : All (λ e. IsBranchName e.0) r.branches.entries
  pub within : All (λ at. (store.slot.horizon ≤ at) × (at < store.slot.end)) store.places
  pub rising : AreRising store.slot.horizon store.places

abbrev pub OwnsPair : Told → Slot → Type 0
OwnsPair told s = s.live ≢ 0 → IsOwnPair told (layout_of s)

abbrev pub OwnsLive : Told → Type 0
OwnsLive told = (s : Slot) → HasLive s told.held → OwnsPair told s

pub record Holds (store : Held) (told : Told) (r : Repository) : Type 0 where
  pub tables : IsOf store r
  pub stands : StandsFor told.held r
  pub live : IsLive (control_in told.held) store.index store.slot
  pub kept : IsSynced told Control
  pub pair : OwnsPair told store.slot
  pub runs : store.space.runs ≡ map run_of stands.standing.rows
  -- the records of the image are those of the space, so that there each commit's record stands at its place, and its tree where that says
  pub places : store.places ≡ places_in stands.standing.records
  pub collects : IfSome store.collection (Collects told store.slot stands.standing.records r)
  pub current : AreCurrent (records_of told store.space) store.space.kept

abbrev pub image_records : {store : Held} {told : Told} {r : Repository} → Holds store told r → ℕ → Option Record
image_records holds = present holds.stands.standing.records

pub record SameTables (store other : Held) : Type 0 where
  pub index : other.index ≡ store.index
  pub slot : other.slot ≡ store.slot
  pub names : other.names ≡ store.names
  pub places : other.places ≡ store.places
  pub branches : other.branches ≡ store.branches
  pub history : other.history ≡ store.history
  -- records may be kept that were not, and others not any more
  pub layout : other.space.layout ≡ store.space.layout
  pub runs : other.space.runs ≡ store.space.runs
  pub collection : other.collection ≡ store.collection
  pub unswept : other.unswept ≡ store.unswept

abbrev pub place_of_commit : Held → ℕ → Option ℕ
place_of_commit store number = slice_get store.places (number - store.slot.floor)

-- it holds some repository
abbrev pub IsSound : Held → Told → Type 0
IsSound store told = (r : Repository) × Holds store told r
