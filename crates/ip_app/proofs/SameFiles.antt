-- An image is as another by what stands in the control file and in the chunks and, where a generation is live, in its two files.
--     damaged_along      where it is damaged
--     holds_along, working_along      a store holds on what it held, and a session's work goes on, while no file changes
--     stands_before, stands_after, damaged_before, none_before      while no file changes, though the control file may be synced: what an image stands for, where it is damaged, and that it has no store
use Rattle.std.proofs.Common.{◌≡◌, ◌≢◌, inl, inr, ℕ, ◌+◌, ◌≤◌, length, List, [], refl, sym, ap, subst, ◌∙◌, Option, Some, None}
use Rattle.std.specs.Prelude.{map, nat_le, if◌then◌else◌, IfSome, IsSomeAnd, option_and_then}
use Rattle.ip_ground.specs.declared.names.FileName.{FileName}
use Rattle.ip_ground.specs.declared.names.FileName.TheVariants.{Control, Chunk, Mapping, Prefix}
use Rattle.ip_ground.specs.Contents.{Image, Content}
use Rattle.ip_ground.specs.Told.{Told, KeepsPast, KeepsCustody, KeepsFile, Only, SyncsOnly, EachNow}
use Rattle.ip_ground.proofs.Spans.{each_stays, left_now}
use Rattle.ip_spec.specs.Path.{Bytes}
use Rattle.ip_spec.specs.declared.record.Record.{Record}
use Rattle.ip_spec.specs.Record.{spelling}
use Rattle.ip_spec.specs.Repository.{Repository}
use Rattle.ip_image.specs.declared.slot.Slot.{Slot}
use Rattle.ip_image.specs.declared.run.Run.{Run}
use Rattle.ip_image.specs.declared.run.Row.{Row}
use Rattle.ip_image.specs.Slot.{IsLive, layout_of, live_index}
use Rattle.ip_image.specs.Virtual.{run_of, byte_of, chunk_of, place_in_chunk, virtual_byte, locate, Stands}
use Rattle.ip_image.specs.Pending.{HasLive, SameSpace}
use Rattle.ip_image.specs.Standing.{RunByRun, FillTo, IsGood, MappingIs, Generation, stretches, StandsFor, NoStore, DamagedAt, no_form, no_mapping, no_row, no_sum, no_prefix, no_record, no_whole}
use Rattle.ip_image.proofs.AppendingLaws.{stands_still}
use Rattle.ip_image.proofs.HeadlineLaws.{same_generation_itself}
use Rattle.ip_image.proofs.OneRepository.{zero_or_not}
use Rattle.ip_held.specs.declared.held.Held.{Held}
use Rattle.ip_held.specs.Held.{OwnsLive, Holds, image_records}
use Rattle.ip_held.specs.Work.{IsLawful}
use Rattle.ip_held.proofs.Going.{collects_still}
use Rattle.ip_held.proofs.Listed.{space_stays, pair_stays, holds_on, same_list}
use Rattle.ip_spec.specs.TreeAt.{present}
use Rattle.ip_spec.specs.View.{View}
use Rattle.ip_session.specs.declared.session.Session.{Session}
use Rattle.ip_session.specs.Session.{IsWorking}
use Rattle.ip_app.proofs.LivePair.{live_before}

-- by all files that a store reads
record ReadsAlike (image other : Image) : Type 0 where
  control : other Control ≡ image Control
  chunks : (number : ℕ) → other (Chunk number) ≡ image (Chunk number)
  mapping : (s : Slot) → HasLive s image → s.live ≢ 0 → other (Mapping s.live) ≡ image (Mapping s.live)
  prefix : (s : Slot) → HasLive s image → s.live ≢ 0 → other (Prefix s.live) ≡ image (Prefix s.live)

mapping_with : (image other : Image) (s : Slot) (rows : List Row) → other (Mapping s.live) ≡ image (Mapping s.live) → MappingIs image (layout_of s) rows → MappingIs other (layout_of s) rows
mapping_with image other s rows same is = record { end = is.end; file = same ∙ is.file; count = is.count; numbers = is.numbers; above = is.above; inside = is.inside }

module _ (image other : Image) (same : ReadsAlike image other) where
  held_along : (control : Bytes) → image Control ≡ Some control → other Control ≡ Some control
  held_along control held = same.control ∙ held

  module _ (s : Slot) (has : HasLive s image) where
    mapping_along : (rows : List Row) → s.live ≢ 0 → MappingIs image (layout_of s) rows → MappingIs other (layout_of s) rows
    mapping_along rows live is = mapping_with image other s rows (same.mapping s has live) is

    mapping_back : (rows : List Row) → s.live ≢ 0 → MappingIs other (layout_of s) rows → MappingIs image (layout_of s) rows
    mapping_back rows live is = mapping_with other image s rows (sym (same.mapping s has live)) is

    abbrev HasPrefix : Content → Type 0
    HasPrefix content = IsSomeAnd content (λ bytes. length bytes ≡ s.prefix_len)

    generation_along : (rows : List Row) → Generation image (layout_of s) rows → Generation other (layout_of s) rows
    generation_along rows G = record { file = λ live. mapping_along rows live (G.file live); fits = G.fits; sum = G.sum; prefix = λ live. subst HasPrefix (sym (same.prefix s has live)) (G.prefix live); none = G.none }

    -- with no generation there is nothing below the horizon
    bytes_none : virtual_byte image (layout_of s) [] ≡ virtual_byte other (layout_of s) []
    unfolding virtual_byte locate
    bytes_none = λ i at. if nat_le s.horizon at then byte_of (sym (same.chunks (chunk_of s.chunk at)) i) (place_in_chunk s.chunk at) else None

    bytes_live : (runs : List Run) → s.live ≢ 0 → virtual_byte image (layout_of s) runs ≡ virtual_byte other (layout_of s) runs
    unfolding virtual_byte
    bytes_live runs live = λ i at. if nat_le s.horizon at then byte_of (sym (same.chunks (chunk_of s.chunk at)) i) (place_in_chunk s.chunk at)
        else option_and_then (λ place. byte_of (sym (same.prefix s has live) i) place) (locate runs at)

    bytes_same : (rows : List Row) → Generation image (layout_of s) rows → virtual_byte image (layout_of s) (map run_of rows) ≡ virtual_byte other (layout_of s) (map run_of rows)
    bytes_same rows G = elim (zero_or_not s.live) [
      | inl none ↦ subst (λ (rs : List Row). virtual_byte image (layout_of s) (map run_of rs) ≡ virtual_byte other (layout_of s) (map run_of rs)) (sym (G.none none)) bytes_none
      | inr live ↦ bytes_live (map run_of rows) live
    ]

    -- whatever is said of the bytes
    along : (P : (ℕ → Option ℕ) → Type 0) (rows : List Row) → Generation image (layout_of s) rows → P (virtual_byte image (layout_of s) (map run_of rows)) → P (virtual_byte other (layout_of s) (map run_of rows))
    along P rows G h = subst P (bytes_same rows G) h

  has_slot : (control : Bytes) (index : ℕ) (s : Slot) → image Control ≡ Some control → IsLive control index s → HasLive s image
  has_slot control index s held live = record { control = control; index = index; held = held; live = live }

  damaged_along : (file : FileName) (at : ℕ) → DamagedAt image file at → DamagedAt other file at
  damaged_along file at (no_form control index held live none) = no_form control index (held_along control held) live none
  damaged_along file at (no_mapping control index s held live some none) =
      let has = has_slot control index s held live in
      no_mapping control index s (held_along control held) live some (λ rows is. none rows (mapping_back s has rows some is))
  damaged_along file at (no_row control index s before after row held live some is fits none) =
      let has = has_slot control index s held live in
      no_row control index s before after row (held_along control held) live some (mapping_along s has _ some is) fits none
  damaged_along file at (no_sum control index s rows held live some is fits none) =
      let has = has_slot control index s held live in
      no_sum control index s rows (held_along control held) live some (mapping_along s has rows some is) fits none
  damaged_along file at (no_prefix control index s rows held live some is fits sum none) =
      let has = has_slot control index s held live in
      no_prefix control index s rows (held_along control held) live some (mapping_along s has rows some is) fits sum (λ fit. none (subst (HasPrefix s has) (same.prefix s has some) fit))
  damaged_along file at (no_record control index s rows before here to place f held live G good fill none lies) =
      let has = has_slot control index s held live in
      no_record control index s rows before here to place f (held_along control held) live (generation_along s has rows G) good
      (along s has (λ bytes_at. FillTo bytes_at (stretches (layout_of s) rows) before here to) rows G fill)
      (along s has (λ bytes_at. (x : Record) → here + length (spelling x) ≤ to → Stands bytes_at here (spelling x) → ¬ (IsGood s before (here, x))) rows G none) lies
  damaged_along file at (no_whole control index s rows records held live G good whole none) =
      let has = has_slot control index s held live in
      no_whole control index s rows records (held_along control held) live (generation_along s has rows G) good (along s has (λ bytes_at. RunByRun bytes_at (stretches (layout_of s) rows) records) rows G whole) none

-- ---- while no file changes

-- a store holds on what it held
pub holds_along : (a b : Told) (store : Held) (r : Repository) → KeepsPast a b → ((file : FileName) → KeepsFile a b file) → ((attempt : ℕ) → KeepsCustody a b attempt) → Holds store a r → Holds store b r
holds_along a b store r goes files lending h =
    let control : b.held Control ≡ a.held Control = (files Control).held (λ foreign. foreign) in
    let still : EachNow b Control (λ content. content ≡ a.held Control) = left_now a b Control (λ content. content ≡ a.held Control) goes h.kept (each_stays a b Control (λ content. content ≡ a.held Control) (λ loose. loose) (files Control) h.kept) in
    holds_on store a r h b control (space_stays store.slot a b (λ file. (files file).held) h.pair) (λ content left. still content left ∙ sym control) (pair_stays store.slot a b (λ file. (files file).own) h.pair)
    (collects_still a b store.slot h.stands.standing.records r store.collection goes lending (λ file attempt of. files file) h.collects)

-- a work goes on over the same records
pub working_along : (a b : Told) (s : Session) (r : Repository) (v : View) → KeepsPast a b → ((file : FileName) → KeepsFile a b file) → ((attempt : ℕ) → KeepsCustody a b attempt) → IsWorking a s r v → IsWorking b s r v
working_along a b s r v goes files lending h =
    let control : b.held Control ≡ a.held Control = (files Control).held (λ foreign. foreign) in
    let holds : Holds s.store.held b r = holds_along a b s.store.held r goes files lending h.holds in
    let space : SameSpace s.store.held.slot a.held b.held = space_stays s.store.held.slot a b (λ file. (files file).held) h.holds.pair in
    let same : image_records holds ≡ image_records h.holds = ap (λ (records : List (ℕ × Record)). present records) (same_list s.store.held a r h.holds b control space holds.stands.standing) in
    record { holds = holds; lawful = subst (λ (records : ℕ → Option Record). IsLawful records r s.work v) (sym same) h.lawful }

-- what the files read as at the end of calls that change none, though they may sync the control file
module _ (a b : Told) (only : SyncsOnly (Only Control) a b) where
  control_kept : b.held Control ≡ a.held Control
  control_kept = (only.files Control).held (λ foreign. foreign)

  pub none_before : NoStore b.held → NoStore a.held
  none_before none = subst (λ (content : Content). IfSome content (λ control. live_index control ≡ None)) control_kept none

  module _ (owns : OwnsLive a) where
    space_kept : (s : Slot) → HasLive s a.held → SameSpace s a.held b.held
    space_kept s has = space_stays s a b (λ file. (only.files file).held) (owns s has)

    read_before : ReadsAlike b.held a.held
    read_before = record {
      control = sym control_kept;
      chunks = λ number. sym ((only.files (Chunk number)).held (λ foreign. foreign));
      mapping = λ s has live. sym ((space_kept s (live_before a b only.files s has)).mapping live);
      prefix = λ s has live. sym ((space_kept s (live_before a b only.files s has)).prefix live);
    }

    pub stands_after : (r : Repository) → StandsFor a.held r → StandsFor b.held r
    stands_after r h =
        let A = h.standing in
        let has : HasLive A.slot a.held = record { control = A.control; index = A.index; held = A.held; live = A.live } in
        let still : HasLive A.slot b.held = record { control = A.control; index = A.index; held = control_kept ∙ A.held; live = A.live } in
        stands_still a.held b.held r A.slot A.slot h has still (same_generation_itself A.slot) refl refl (space_kept A.slot has)

    pub stands_before : (r : Repository) → StandsFor b.held r → StandsFor a.held r
    stands_before r h =
        let A = h.standing in
        let still : HasLive A.slot b.held = record { control = A.control; index = A.index; held = A.held; live = A.live } in
        let has : HasLive A.slot a.held = live_before a b only.files A.slot still in
        let space = space_kept A.slot has in
        stands_still b.held a.held r A.slot A.slot h still has (same_generation_itself A.slot) refl refl
        (record { chunks = λ at low high. sym (space.chunks at low high); mapping = λ live. sym (space.mapping live); prefix = λ live. sym (space.prefix live) })

    pub damaged_before : (file : FileName) (at : ℕ) → DamagedAt b.held file at → DamagedAt a.held file at
    damaged_before file at h = damaged_along b.held a.held read_before file at h
