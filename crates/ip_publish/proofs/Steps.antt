-- What is told in a durable step.
use Rattle.std.proofs.Common.{◌≡◌, ◌≢◌, ◌⊎◌, inl, inr, ℕ, ◌+◌, ◌-◌, ◌*◌, ◌≤◌, List, ◌++◌, length, refl, sym, ◌∙◌, ap, subst, arith}
use Rattle.std.specs.Prelude.{Result, Ok, IsErr}
use Rattle.std.proofs.lemmas.Result.{IfOk-from_err, on_ok_weaker}
use Rattle.ip_ground.specs.declared.names.FileName.TheVariants.{Control, Chunk}
use Rattle.ip_ground.specs.declared.names.GroundFault.{GroundFault}
use Rattle.ip_ground.specs.Contents.{Image, size_of}
use Rattle.ip_ground.specs.Told.{Told, KeepsFile, SyncsAtMost, IsPossibleNow, EachSince, EachImage, Only, ChangesOnly}
use Rattle.ip_ground.proofs.Spans.{only_on, only_more, at_most, each_stays, each_weaker, left_now, held_since, images_on}
use Rattle.ip_ground.proofs.Durable.{now_from_kept}
use Rattle.ip_image.specs.declared.slot.Slot.{Slot}
use Rattle.ip_image.specs.Slot.{slot_bytes}
use Rattle.ip_image.specs.Virtual.{chunk_of}
use Rattle.ip_chunks.specs.Places.{IsChunkBetween}
use Rattle.ip_chunks.specs.Effects.{Appends, SyncsRange}
use Rattle.ip_chunks.specs.Fronts.{Holds, Leaves, LeavesSince, AppendsKept}
use Rattle.ip_chunks.proofs.Behind.{leaves_on, leaves_stay, byte_stays, images_with, holds_stay, holds_front, front_holds, front_ends, stops_at_append, appends_kept}
use Rattle.ip_control.specs.Live.{Live, live_slot, live_of, IsSpare, IsNewer, SameBesides}
use Rattle.ip_control.specs.Changes.{control, IsReady, Prepares, OpensGate}
use Rattle.ip_control.proofs.Slots.{besides_itself}
use Rattle.ip_publish.specs.Publishing.{front_in, StandsAs, CanStep, IsWritten, WritesTo, MakesStep}
use Rattle.ip_publish.proofs.Besides.{Besides, besides_on}

chunk_not_control : (number : ℕ) → Chunk number ≢ Control
chunk_not_control number is = cc (is)

control_not_chunk : (number : ℕ) → Control ≢ Chunk number
control_not_chunk number is = cc (is)

-- a call on the control file changes no chunk
chunks_stay : (a b : Told) → ChangesOnly (Only Control) a b → (number : ℕ) → SyncsAtMost a b (Chunk number)
chunks_stay a b only number = at_most a b (Chunk number) (only.others (Chunk number) (chunk_not_control number))

-- which files change, whatever they are: by the records, and by a call on the control file behind them
module _ (size from to : ℕ) where
  pub records_only : (a b : Told) → ChangesOnly (IsChunkBetween size from to) a b → ChangesOnly (IsWritten size from to) a b
  records_only a b only = only_more a b (IsChunkBetween size from to) (IsWritten size from to) (λ f is. inr is) only

  pub control_only : (a b c : Told) → ChangesOnly (IsWritten size from to) a b → ChangesOnly (Only Control) b c → ChangesOnly (IsWritten size from to) a c
  control_only a b c first only = only_on a b c (IsWritten size from to) first (only_more b c (Only Control) (IsWritten size from to) (λ f is. inl is) only)

  writes_on : (a b c : Told) → WritesTo size from to a b → ChangesOnly (Only Control) b c → WritesTo size from to a c
  writes_on a b c first only = record { only = control_only a b c first.only only; behind = λ at far. byte_stays size at b c (chunks_stay b c only) ∙ first.behind at far }

module _ (end : ℕ) (bytes : List ℕ) (slot : ℕ) (fields : Slot) (a : Told) (sound : CanStep end slot fields a) where
  abbrev before : Live
  before = live_of (control a)

  abbrev to : ℕ
  to = end + length bytes

  abbrev after : Live
  after = live_slot slot (slot_bytes fields)

  abbrev front : List ℕ
  front = front_in fields end a.held

  abbrev Either : List ℕ → Image → Type 0
  Either s image = StandsAs fields.chunk fields.horizon before front image ⊎ StandsAs fields.chunk fields.horizon after (front ++ bytes) image

  reaches_end : fields.horizon + (end - fields.horizon) ≡ end
  reaches_end = omega (arith, sound.above)

  front_to_end : fields.horizon + length front ≡ end
  front_to_end = front_ends fields.chunk fields.horizon (end - fields.horizon) end reaches_end a.held sound.filled

  front_stands : Holds fields.chunk fields.horizon front a.held
  front_stands = front_holds fields.chunk fields.horizon (end - fields.horizon) end reaches_end a.held sound.filled

  pub written_only : (b c : Told) (r s : Result (Unit {0}) GroundFault) → Appends fields.chunk end bytes r a b → SyncsRange fields.chunk end (end + length bytes) s b c
      → ChangesOnly (IsChunkBetween fields.chunk end (end + length bytes)) a c
  written_only b c r s appends syncs = only_on a b c (IsChunkBetween fields.chunk end (end + length bytes)) appends.only syncs.only.changes

  -- only chunks were written
  module _ (b : Told) (only : ChangesOnly (IsChunkBetween fields.chunk end (end + length bytes)) a b) where
    control_stays : KeepsFile a b Control
    control_stays = only.others Control (λ is. control_not_chunk (chunk_of fields.chunk is.0) is.2)

    control_same : control b ≡ control a
    control_same = control_stays.held (λ x. x)

    pub ready_b : IsReady slot b
    ready_b = record {
      kept = λ x left. left_now a b Control (λ x. x ≡ control a) only.goes sound.ready.kept (each_stays a b Control (λ x. x ≡ control a) (λ x. x) control_stays sound.ready.kept) x left ∙ sym control_same;
      reaches = subst (λ h. 128 * slot ≤ size_of h) (sym control_same) sound.ready.reaches;
      spare = subst (λ h. IsSpare slot (live_of h)) (sym control_same) sound.ready.spare;
    }

    pub newer_b : IsNewer fields.sequence (live_of (control b))
    newer_b = subst (λ h. IsNewer fields.sequence (live_of h)) (sym control_same) sound.newer

    live_ab : EachSince a b Control (λ x. live_of x ≡ before)
    live_ab = each_stays a b Control (λ x. live_of x ≡ before) (λ x. x) control_stays (now_from_kept Control a (λ x. live_of x ≡ before) sound.ready.kept refl)

    besides_ab : Besides slot a b
    besides_ab = (
      each_stays a b Control (SameBesides slot (control a)) (λ x. x) control_stays (now_from_kept Control a (SameBesides slot (control a)) sound.ready.kept (besides_itself slot (control a))),
      subst (λ h. SameBesides slot (control a) h) (sym control_same) (besides_itself slot (control a)),
    )

  module _ (b : Told) (r : Result (Unit {0}) GroundFault) (writes : AppendsKept fields.chunk fields.horizon end front bytes r a b) where
    writes_ab : WritesTo fields.chunk end to a b
    writes_ab = record { only = records_only fields.chunk end to a b writes.only; behind = writes.behind }

    images_ab : Leaves fields.chunk fields.horizon front a → EachImage a b Either
    images_ab left =
        images_with fields.chunk fields.horizon front a b Control (λ x. live_of x ≡ before) Either writes.only.said (live_ab b writes.only) (writes.since left)
        (λ image live holds. inl (live, holds))

    stops_at_records : (s : Result (Unit {0}) GroundFault) → IsErr s → MakesStep end bytes slot fields s a b
    stops_at_records s is_err = record { writes = writes_ab; inside = (besides_ab b writes.only).0; slots = (besides_ab b writes.only).1; held = IfOk-from_err s _ is_err; kept = IfOk-from_err s _ is_err; front = λ left. IfOk-from_err s _ is_err; images = images_ab }

  pub stops_at_write : (b : Told) (r s : Result (Unit {0}) GroundFault) → IsErr s → Appends fields.chunk end bytes r a b → MakesStep end bytes slot fields s a b
  stops_at_write b r s is_err appends =
      stops_at_records b s (stops_at_append fields.chunk fields.horizon end front bytes front_to_end a b front_stands r appends s is_err) s is_err

  module _ (b c : Told) (appends : Appends fields.chunk end bytes (Ok tt) a b) where
    pub stops_at_sync : (r s : Result (Unit {0}) GroundFault) → IsErr s → SyncsRange fields.chunk end (end + length bytes) r b c → MakesStep end bytes slot fields s a c
    stops_at_sync r s is_err syncs =
        stops_at_records c s (appends_kept fields.chunk fields.horizon end front bytes front_to_end a b c front_stands appends r syncs s (inl is_err)) s is_err

    pub records_kept : SyncsRange fields.chunk end (end + length bytes) (Ok tt) b c → AppendsKept fields.chunk fields.horizon end front bytes (Ok tt) a c
    records_kept syncs = appends_kept fields.chunk fields.horizon end front bytes front_to_end a b c front_stands appends (Ok tt) syncs (Ok tt) (inr refl)

  -- the records are there: the slot is prepared
  module _ (b c : Told) (writes : AppendsKept fields.chunk fields.horizon end front bytes (Ok tt) a b) (r : Result (Unit {0}) GroundFault) (prepared : Prepares slot fields r b c) where
    both_bc : Leaves fields.chunk fields.horizon front a → LeavesSince fields.chunk fields.horizon (front ++ bytes) b c
    both_bc left = leaves_stay fields.chunk fields.horizon (front ++ bytes) b c (chunks_stay b c prepared.changes.only) (writes.kept left)

    both_c : Leaves fields.chunk fields.horizon front a → Leaves fields.chunk fields.horizon (front ++ bytes) c
    both_c left = leaves_on fields.chunk fields.horizon (front ++ bytes) b c prepared.changes.only.goes (writes.kept left) (both_bc left)

    live_bc : EachSince b c Control (λ x. live_of x ≡ before)
    live_bc = each_weaker b c Control _ _ prepared.live (λ x same. same ∙ ap live_of (control_same b writes.only))

    writes_ac : WritesTo fields.chunk end to a c
    writes_ac = writes_on fields.chunk end to a b c (writes_ab b (Ok tt) writes) prepared.changes.only

    besides_ac : Besides slot a c
    besides_ac = besides_on slot a b c prepared.changes.only.goes (besides_ab b writes.only) (prepared.changes.inside, prepared.changes.held)

    images_ac : Leaves fields.chunk fields.horizon front a → EachImage a c Either
    images_ac left = images_on a b c Either prepared.changes.only.goes (images_ab b (Ok tt) writes left)
        (images_with fields.chunk fields.horizon (front ++ bytes) b c Control (λ x. live_of x ≡ before) Either prepared.changes.only.said live_bc (both_bc left)
        (λ image live holds. inl (live, holds_front fields.chunk fields.horizon front bytes image holds)))

    pub stops_at_prepare : (s : Result (Unit {0}) GroundFault) → IsErr s → MakesStep end bytes slot fields s a c
    stops_at_prepare s is_err = record { writes = writes_ac; inside = besides_ac.0; slots = besides_ac.1; held = IfOk-from_err s _ is_err; kept = IfOk-from_err s _ is_err; front = λ left. IfOk-from_err s _ is_err; images = images_ac }

  -- the gate is opened
  module _ (b c d : Told) (writes : AppendsKept fields.chunk fields.horizon end front bytes (Ok tt) a b) (prepared : Prepares slot fields (Ok tt) b c) (possible : IsPossibleNow c) where
    live_c : live_of (control c) ≡ before
    live_c = held_since b c Control (λ x. live_of x ≡ before) possible prepared.changes.only.goes
        (now_from_kept Control b (λ x. live_of x ≡ before) (ready_b b writes.only).kept (ap live_of (control_same b writes.only))) (live_bc b c writes (Ok tt) prepared)

    both_stand : ChangesOnly (Only Control) c d → Holds fields.chunk fields.horizon (front ++ bytes) d.held
    both_stand only =
        holds_stay fields.chunk fields.horizon (front ++ bytes) c d (chunks_stay c d only)
        (holds_stay fields.chunk fields.horizon (front ++ bytes) b c (chunks_stay b c prepared.changes.only) writes.held)

    both_cd : ChangesOnly (Only Control) c d → Leaves fields.chunk fields.horizon front a → LeavesSince fields.chunk fields.horizon (front ++ bytes) c d
    both_cd only left = leaves_stay fields.chunk fields.horizon (front ++ bytes) c d (chunks_stay c d only) (both_c b c writes (Ok tt) prepared left)

    besides_ad : (s : Result (Unit {0}) GroundFault) → OpensGate slot s c d → Besides slot a d
    besides_ad s opens = besides_on slot a c d opens.changes.only.goes (besides_ac b c writes (Ok tt) prepared) (opens.changes.inside, opens.changes.held)

    pub makes_step : (s : Result (Unit {0}) GroundFault) → OpensGate slot s c d → MakesStep end bytes slot fields s a d
    makes_step s opens = record {
      writes = writes_on fields.chunk end to a c d (writes_ac b c writes (Ok tt) prepared) opens.changes.only;
      inside = (besides_ad s opens).0;
      slots = (besides_ad s opens).1;
      held = on_ok_weaker s (λ is. (ap live_of is ∙ prepared.next, both_stand opens.changes.only)) opens.opens;
      kept = opens.kept;
      front = λ left. on_ok_weaker s
          (λ is. leaves_on fields.chunk fields.horizon (front ++ bytes) c d opens.changes.only.goes (both_c b c writes (Ok tt) prepared left) (both_cd opens.changes.only left))
          opens.opens;
      images = λ left. images_on a c d Either opens.changes.only.goes (images_ac b c writes (Ok tt) prepared left)
          (images_with fields.chunk fields.horizon (front ++ bytes) c d Control _ Either opens.changes.only.said opens.live (both_cd opens.changes.only left)
          (λ image live holds. elim live [
            | inl same ↦ inl (same ∙ live_c, holds_front fields.chunk fields.horizon front bytes image holds)
            | inr new ↦ inr (new ∙ prepared.next, holds)
          ]));
    }
