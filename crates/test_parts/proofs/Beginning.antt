-- A control file that was just made.
use Rattle.std.proofs.Common.{◌≡◌, ℕ, ◌+◌, ◌*◌, ◌≤◌, List, [], ◌++◌, length, sym, ◌∙◌, ap, subst, arith}
use Rattle.std.specs.Prelude.{None, Some, Ok}
use Rattle.std.proofs.lemmas.List.{drop_all, append-nil}
use Rattle.ip_ground.specs.declared.names.FileName.TheVariants.{Control}
use Rattle.ip_ground.specs.Contents.{written, size_of}
use Rattle.ip_ground.specs.Told.{Told, IsBlank}
use Rattle.ip_ground.specs.Calls.{Writes, Syncs}
use Rattle.ip_ground.proofs.Durable.{both_hold}
use Rattle.ip_control.specs.Live.{live_of, IsSpare, IsNewer}
use Rattle.ip_control.specs.Changes.{control, IsReady}
use Rattle.ip_control.proofs.Gates.{own}

module _ (bytes : List ℕ) (a b c : Told) (blank : IsBlank a) (writes : Writes Control 0 bytes (Ok tt) a b) (syncs : Syncs Control (Ok tt) b c) where
  made : written None 0 bytes ≡ Some bytes
  made = ap (λ l. Some (bytes ++ l)) (drop_all (0 + length bytes) [] (omega arith)) ∙ ap (λ l. Some l) (append-nil bytes)

  pub holds : control c ≡ Some bytes
  holds = both_hold Control own 0 bytes a b (blank.kept Control) c writes (Ok tt) syncs ∙ ap (λ h. written h 0 bytes) (blank.held Control) ∙ made

  pub ready : (slot : ℕ) → 128 * slot ≤ length bytes → IsSpare slot (live_of (Some bytes)) → IsReady slot c
  ready slot reaches spare = record {
    kept = syncs.ok (own.own b);
    reaches = omega (arith, ap size_of holds, reaches);
    spare = subst (λ h. IsSpare slot (live_of h)) (sym holds) spare;
  }

  pub newer : (sequence : ℕ) → IsNewer sequence (live_of (Some bytes)) → IsNewer sequence (live_of (control c))
  newer sequence is = subst (λ h. IsNewer sequence (live_of h)) (sym holds) is
