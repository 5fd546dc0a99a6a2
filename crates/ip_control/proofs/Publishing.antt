-- A slot is made ready, other calls leave the control file, and then its gate is opened: at every moment the live slot is
-- the one from before or, from the gate's write on, the new one.
--     ready_stays      a slot that was made ready is so still
--     live_until, live_since, live_after      what is live until the gate is opened, from then on, and in the end
use Rattle.std.proofs.Common.{◌≡◌, ◌⊎◌, inl, inr, ℕ, ◌*◌, ◌≤◌, refl, sym, ◌∙◌, ap, subst}
use Rattle.std.specs.Prelude.{OnOk, Result, Ok}
use Rattle.std.proofs.lemmas.Result.{on_ok_weaker}
use Rattle.ip_ground.specs.declared.names.FileName.TheVariants.{Control}
use Rattle.ip_ground.specs.declared.names.GroundFault.{GroundFault}
use Rattle.ip_ground.specs.Contents.{size_of}
use Rattle.ip_ground.specs.Told.{Told, KeepsPast, KeepsFile, EachSince, IsSynced, IsPossibleNow}
use Rattle.ip_ground.proofs.Spans.{each_stays, each_on, each_weaker, left_now, held_since}
use Rattle.ip_ground.proofs.Durable.{now_from_kept}
use Rattle.ip_image.specs.declared.slot.Slot.{Slot}
use Rattle.ip_image.specs.Slot.{slot_bytes}
use Rattle.ip_control.specs.Live.{live_of, live_slot, opened, IsSpare, IsClosed}
use Rattle.ip_control.specs.Changes.{control, IsReady, IsClosedReady, Prepares, OpensGate}
use Rattle.ip_control.proofs.Gates.{own}

-- calls that leave the control file as it is
module _ (slot : ℕ) (b c : Told) (goes : KeepsPast b c) (stays : KeepsFile b c Control) where
  pub held_stays : control c ≡ control b
  held_stays = stays.held (own.own b)

  pub kept_stays : IsSynced b Control → IsSynced c Control
  kept_stays kept x left =
      left_now b c Control (λ content. content ≡ control b) goes kept (each_stays b c Control (λ content. content ≡ control b) (own.firm b) stays kept) x left ∙ sym held_stays

  pub ready_stays : IsClosedReady slot b → IsClosedReady slot c
  ready_stays before = record {
    ready = record {
      kept = kept_stays before.ready.kept;
      reaches = subst (λ h. 128 * slot ≤ size_of h) (sym held_stays) before.ready.reaches;
      spare = subst (λ h. IsSpare slot (live_of h)) (sym held_stays) before.ready.spare;
    };
    closed = subst (λ h. IsClosed slot h) (sym held_stays) before.closed;
  }

module _ (slot : ℕ) (fields : Slot) (a b c d : Told) (before : IsReady slot a) (possible : IsPossibleNow b) (prepares : Prepares slot fields (Ok tt) a b) (goes : KeepsPast b c) (stays : KeepsFile b c Control)
    (r : Result (Unit {0}) GroundFault) (opens : OpensGate slot r c d) where
  live_b : live_of (control b) ≡ live_of (control a)
  live_b = held_since a b Control (λ x. live_of x ≡ live_of (control a)) possible prepares.changes.only.goes (now_from_kept Control a (λ x. live_of x ≡ live_of (control a)) before.kept refl) prepares.live

  -- the old one, from the start of the preparation to that of the opening
  pub live_until : EachSince a c Control (λ content. live_of content ≡ live_of (control a))
  live_until =
      each_on a b c Control (λ content. live_of content ≡ live_of (control a)) goes prepares.live
      (each_stays b c Control (λ content. live_of content ≡ live_of (control a)) (own.firm b) stays (now_from_kept Control b (λ content. live_of content ≡ live_of (control a)) prepares.ok.ready.kept live_b))

  next_live : live_of (opened slot (control c)) ≡ live_slot slot (slot_bytes fields)
  next_live = ap (λ h. live_of (opened slot h)) (held_stays slot b c goes stays) ∙ prepares.next

  -- the old one or the new one, while the gate is opened
  pub live_since : EachSince c d Control (λ content. (live_of content ≡ live_of (control a)) ⊎ (live_of content ≡ live_slot slot (slot_bytes fields)))
  live_since = each_weaker c d Control _ _ opens.live (λ x either. elim either [
    | inl same ↦ inl (same ∙ ap live_of (held_stays slot b c goes stays) ∙ live_b)
    | inr next ↦ inr (next ∙ next_live)
  ])

  -- the new one, once it is open
  pub live_after : OnOk r (live_of (control d) ≡ live_slot slot (slot_bytes fields))
  live_after = on_ok_weaker r (λ is. ap live_of is ∙ next_live) opens.opens
