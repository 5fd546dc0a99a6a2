-- The record that was brought for a reference.
--     lent_there, lent_anywhere, lent_is      it is the record of the part, the one that stands there, and a part's
use Rattle.std.proofs.Common.{◌≡◌, ℕ, refl, sym, ap, subst, ◌∙◌, Option, Some, None}
use Rattle.std.specs.Prelude.{Result, Ok, Err, IfOk, IsSome}
use Rattle.ip_ground.specs.Told.{Told}
use Rattle.ip_spec.specs.Record.{Fits}
use Rattle.ip_spec.specs.Shape.{Entries}
use Rattle.ip_spec.specs.declared.record.Record.{Record}
use Rattle.ip_spec.specs.declared.record.Ref.{Ref}
use Rattle.ip_space.specs.Fetching.{Fetches, Meets}
use Rattle.ip_space.specs.Kept.{brought}
use Rattle.ip_space.specs.SpaceView.{SpaceView, kept_at, records_of}
use Rattle.ip_space.specs.declared.fault.FetchFault.{FetchFault}
use Rattle.ip_tree.specs.Reads.{IsOver, IsPartRecord, IsPartRef, lent_at}
use Rattle.ip_tree.proofs.Walk.{asked_part, part_fetched}

record IsBrought (space : SpaceView) (at : ℕ) (found : Option Record) : Type 0 where
  rec : Record
  is : brought (kept_at at space.kept) (Ok found) ≡ Ok rec
  lent : lent_at space at found ≡ Some rec

kept_by : (space : SpaceView) (at : ℕ) (kept : Option Record) → kept_at at space.kept ≡ kept → IsSome kept → IsBrought space at None
kept_by space at None e some = absurd (cc some)
kept_by space at (Some rec) e some = record { rec = rec; is = ap (λ o. brought o (Ok None)) e; lent = e }

brought_is : (space : SpaceView) (at : ℕ) (found : Option Record) → (found ≡ None → IsSome (kept_at at space.kept)) → IsBrought space at found
brought_is space at (Some rec) here = record { rec = rec; is = given (kept_at at space.kept); lent = refl }
  where
    given : (kept : Option Record) → brought kept (Ok (Some rec)) ≡ Ok rec
    given None = refl
    given (Some other) = refl
brought_is space at None here = kept_by space at (kept_at at space.kept) refl (here refl)

module _ (now : SpaceView) (r : Ref) (found : Option Record) (here : found ≡ None → IsSome (kept_at r.at now.kept)) where
  pub lent_there : (told : Told) (space : SpaceView) (records : ℕ → Option Record) → IsOver told space records → (depth : ℕ) (es : Entries) → IsPartRef records depth r es
      → Fetches (records_of told space) (asked_part r) (brought (kept_at r.at now.kept) (Ok found)) → records r.at ≡ lent_at now r.at found
  lent_there told space records over depth es is fetched =
      let b = brought_is now r.at found here in
      part_fetched told space records over depth r es is b.rec (subst (Fetches (records_of told space) (asked_part r)) b.is fetched) ∙ sym b.lent

  pub lent_anywhere : (all : ℕ → Option Record) → Fetches all (asked_part r) (brought (kept_at r.at now.kept) (Ok found)) → all r.at ≡ lent_at now r.at found
  lent_anywhere all fetched =
      let b = brought_is now r.at found here in
      let there = subst (Fetches all (asked_part r)) b.is fetched in there.here ∙ sym b.lent

  pub lent_is : (version : ℕ) → IfOk (brought (kept_at r.at now.kept) (Ok found)) (λ rec. Meets (asked_part r) rec) → IfOk (brought (kept_at r.at now.kept) (Ok found)) (λ rec. Fits version rec)
      → IsPartRecord (lent_at now r.at found)
  lent_is version meets bounds =
      let b = brought_is now r.at found here in
      let met = subst (λ (x : Result Record FetchFault). IfOk x (λ rec. Meets (asked_part r) rec)) b.is meets in
      let fits = subst (λ (x : Result Record FetchFault). IfOk x (λ rec. Fits version rec)) b.is bounds in
      subst IsPartRecord (sym b.lent) (met.kind, version, fits)
