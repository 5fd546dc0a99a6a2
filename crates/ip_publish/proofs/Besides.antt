-- What changes of the control file over two calls.
--     Besides slot old new      nothing but this slot
--     besides_on, changes_on      over both calls
use Rattle.std.proofs.Common.{ℕ}
use Rattle.ip_ground.specs.declared.names.FileName.TheVariants.{Control}
use Rattle.ip_ground.specs.Told.{Told, KeepsPast, EachSince, Only}
use Rattle.ip_ground.proofs.Spans.{only_on, each_on, each_weaker}
use Rattle.ip_control.specs.Live.{SameBesides}
use Rattle.ip_control.specs.Changes.{control, ChangesSlot}
use Rattle.ip_control.proofs.Slots.{besides_then}

-- at any moment, by what a crash may leave and by what the file reads as
abbrev pub Besides : ℕ → Told → Told → Type 0
Besides slot old new = EachSince old new Control (SameBesides slot (control old)) × SameBesides slot (control old) (control new)

module _ (slot : ℕ) (a b c : Told) where
  pub besides_on : KeepsPast b c → Besides slot a b → Besides slot b c → Besides slot a c
  besides_on goes first next = (
    each_on a b c Control (SameBesides slot (control a)) goes first.0
        (each_weaker b c Control (SameBesides slot (control b)) (SameBesides slot (control a)) next.0 (λ x inside. besides_then slot (control a) (control b) x first.1 inside)),
    besides_then slot (control a) (control b) (control c) first.1 next.1,
  )

  pub changes_on : ChangesSlot slot a b → ChangesSlot slot b c → ChangesSlot slot a c
  changes_on first next =
      let both : Besides slot a c = besides_on next.only.goes (first.inside, first.held) (next.inside, next.held) in
      record { only = only_on a b c (Only Control) first.only next.only; inside = both.0; held = both.1 }
