-- A slot is made live that names no more bytes.
--     turns_cut, turns      where it could not be made ready, and else
use Rattle.std.proofs.Common.{◌≡◌, ◌⊎◌, inl, inr, ℕ, Ok, Err, refl, ◌∙◌, ap}
use Rattle.std.specs.Prelude.{Result, IsErr}
use Rattle.std.proofs.lemmas.Result.{on_ok_weaker}
use Rattle.ip_ground.specs.declared.names.FileName.TheVariants.{Control}
use Rattle.ip_ground.specs.declared.names.GroundFault.{GroundFault}
use Rattle.ip_ground.specs.Contents.{Content}
use Rattle.ip_ground.specs.Told.{Told, IsPossibleNow}
use Rattle.ip_ground.proofs.Durable.{now_from_kept}
use Rattle.ip_ground.proofs.Spans.{each_on, each_weaker, held_since}
use Rattle.ip_image.specs.declared.slot.Slot.{Slot}
use Rattle.ip_image.specs.Slot.{slot_bytes}
use Rattle.ip_control.specs.Live.{live_slot, live_of}
use Rattle.ip_control.specs.Changes.{control, IsReady, Prepares, OpensGate}
use Rattle.ip_publish.specs.Publishing.{TurnsGate}
use Rattle.ip_publish.proofs.Besides.{changes_on}

module _ (slot : ℕ) (fields : Slot) (a b : Told) where
  abbrev Either : Content → Type 0
  Either content = (live_of content ≡ live_of (control a)) ⊎ (live_of content ≡ live_slot slot (slot_bytes fields))

  pub turns_cut : (r s : Result (Unit {0}) GroundFault) → IsErr s → Prepares slot fields r a b → TurnsGate slot fields s a b
  turns_cut r (Ok u) err prepared = absurd (cc (err))
  turns_cut r (Err e) err prepared = record { changes = prepared.changes; live = each_weaker a b Control _ Either prepared.live (λ x same. inl same); kept = tt; opens = tt }

  module _ (prepared : Prepares slot fields (Ok tt) a b) (ready : IsReady slot a) (possible : IsPossibleNow b) where
    live_b : live_of (control b) ≡ live_of (control a)
    live_b = held_since a b Control (λ x. live_of x ≡ live_of (control a)) possible prepared.changes.only.goes (now_from_kept Control a (λ x. live_of x ≡ live_of (control a)) ready.kept refl) prepared.live

    pub turns : (c : Told) (s : Result (Unit {0}) GroundFault) → OpensGate slot s b c → TurnsGate slot fields s a c
    turns c s opens = record {
      changes = changes_on slot a b c prepared.changes opens.changes;
      live = each_on a b c Control Either opens.changes.only.goes (each_weaker a b Control _ Either prepared.live (λ x same. inl same))
          (each_weaker b c Control _ Either opens.live (λ x e. elim e [ inl same ↦ inl (same ∙ live_b) | inr new ↦ inr (new ∙ prepared.next) ]));
      kept = opens.kept;
      opens = on_ok_weaker s (λ is. ap live_of is ∙ prepared.next) opens.opens;
    }
