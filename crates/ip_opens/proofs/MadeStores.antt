-- What making a store does, exit by exit.
use Rattle.std.proofs.Common.{◌≤◌, max, length, get_or, take, List, arith, subst, ◌≡◌, ◌<◌, ℕ, false, sym, ◌∙◌, ap, None, Ok, Err}
use Rattle.std.specs.Prelude.{Result, IsSome, IsErrAnd, is_some}
use Rattle.std.proofs.lemmas.Bool.{false≢true}
use Rattle.std.proofs.lemmas.List.{length-take}
use Rattle.ip_ground.specs.declared.names.FileName.TheVariants.{Control}
use Rattle.ip_ground.specs.declared.names.GroundFault.{GroundFault}
use Rattle.ip_ground.specs.Contents.{Content, bytes_of, size_of, written}
use Rattle.ip_ground.specs.Writing.{torn_written, written_behind}
use Rattle.ip_ground.specs.Custody as custody
use Rattle.ip_ground.specs.Told.{Told, lending, Only, NoFile, ChangesOnly}
use Rattle.ip_ground.specs.Calls.{Writes, Syncs}
use Rattle.ip_ground.proofs.Spans.{only_on, only_more, lending_now}
use Rattle.ip_ground.proofs.Durable.{sync_changes}
use Rattle.ip_image.specs.declared.slot.Slot.{Slot}
use Rattle.ip_image.specs.Slot.{live_index, IsChunkSize, fresh, fresh_control}
use Rattle.ip_image.specs.Pending.{HasLive, NothingPending}
use Rattle.ip_image.proofs.FreshLaws.{is_live}
use Rattle.ip_image.proofs.HeadlineLaws.{one_slot}
use Rattle.ip_opens.specs.declared.making.InitFault.{InitFault}
use Rattle.ip_held.specs.Control.{control_in, IsFresh}
use Rattle.ip_opens.specs.Opening.{Makes}
use Rattle.ip_opens.proofs.ClearOpens.{made_clear}
use Rattle.ip_held.proofs.Reading.{own, control_passes, fresh_written, fresh_now, none_of}

pub to_control : (a b : Told) → ChangesOnly NoFile a b → ChangesOnly (Only Control) a b
to_control a b passes = only_more a b NoFile (Only Control) (λ file none. absurd none) passes

-- where no slot is open none is, and so it was before what passed
was_closed : (a b : Told) → ChangesOnly NoFile a b → is_some (live_index (control_in b.held)) ≡ false → live_index (control_in a.held) ≡ None
was_closed a b passes closed = ap live_index (sym (control_passes a b passes)) ∙ none_of _ closed

pub not_open : (a b : Told) {P : Type 0} → ChangesOnly NoFile a b → is_some (live_index (control_in b.held)) ≡ false → IsSome (live_index (control_in a.held)) → P
not_open a b passes closed is = absurd (false≢true (sym (ap is_some (was_closed a b passes closed)) ∙ is))

pub is_there : (chunk : ℕ) (a b : Told) → ChangesOnly NoFile a b → IsSome (live_index (control_in b.held)) → Makes chunk (Err InitFault.Existing) a b
is_there chunk a b passes live = record {
  only = to_control a b passes;
  closed = tt;
  existing = λ e. subst_live (control_passes a b passes);
  unchanged = λ is. passes;
  made = tt;
  kept = tt;
  behind = tt;
  no_longer = tt;
  stands = tt;
  clear = tt;
  nothing_pending = λ none. tt;
}
  where
    subst_live : control_in b.held ≡ control_in a.held → IsSome (live_index (control_in a.held))
    subst_live e = ap (λ bytes. is_some (live_index bytes)) (sym e) ∙ live

-- a call that failed
pub fails : (chunk : ℕ) (s : Result (Unit {0}) InitFault) (a b : Told) → IsErrAnd s (λ e. e ≡ InitFault.Ground) → ChangesOnly (Only Control) a b → (IsSome (live_index (control_in a.held)) → ChangesOnly NoFile a b) → Makes chunk s a b
fails chunk (Ok u) a b fault only spared = absurd fault
fails chunk (Err e) a b fault only spared = record {
  only = only;
  closed = tt;
  existing = λ is. absurd (cc (fault, is));
  unchanged = spared;
  made = tt;
  kept = tt;
  behind = tt;
  no_longer = tt;
  stands = tt;
  clear = tt;
  nothing_pending = λ none. tt;
}

pub of_spelled : (chunk : ℕ) (bytes : List ℕ) (r : Result (Unit {0}) GroundFault) (a b : Told) → bytes ≡ fresh_control chunk → Writes Control 0 bytes r a b → Writes Control 0 (fresh_control chunk) r a b
of_spelled chunk bytes r a b is writes = subst (λ l. Writes Control 0 l r a b) is writes

module _ (chunk : ℕ) (a b c : Told) (passes : ChangesOnly NoFile a b) (result : Result (Unit {0}) GroundFault) (writes : Writes Control 0 (fresh_control chunk) result b c) where
  pub write_only : ChangesOnly (Only Control) a c
  write_only = only_on a b c (Only Control) (to_control a b passes) writes.only

module _ (chunk : ℕ) (a b c d : Told) (passes : ChangesOnly NoFile a b) (writes : Writes Control 0 (fresh_control chunk) (Ok tt) b c) (result : Result (Unit {0}) GroundFault) (syncs : Syncs Control result c d) where
  pub sync_only : ChangesOnly (Only Control) a d
  sync_only = only_on a c d (Only Control) (write_only chunk a b c passes (Ok tt) writes) (sync_changes Control own result c d syncs)

-- no record is named, so none is pending; and no attempt was ever lent
fresh_pending : (chunk : ℕ) → IsChunkSize chunk → (told : Told) → IsFresh chunk told.held → ((attempt : ℕ) → lending told attempt ≡ custody.own) → NothingPending told
fresh_pending chunk size told is none = record {
  chunks = λ s has at low high. absurd (none_below at (subst (λ (u : Slot). at < u.end) (sym (same s has)) high));
  pair = λ s has live. absurd (live (ap (λ (u : Slot). u.live) (sym (same s has))));
  drawn = λ s has attempt some. absurd (some (none attempt));
}
  where
    none_below : (at : ℕ) → at < 0 → ⊥
    none_below at high = omega (arith, high)

    same : (s : Slot) → HasLive s told.held → fresh chunk ≡ s
    same s has =
        let begun : take 256 has.control ≡ fresh_control chunk = ap (λ c. take 256 (bytes_of c)) (sym has.held) ∙ is in
        one_slot (fresh chunk) s told.held (record { control = has.control; index = 0; held = has.held; live = is_live has.control chunk size begun }) has

-- what at most 256 bytes from the front on leave
behind_front : (old : Content) (bytes : List ℕ) → length bytes ≤ 256 → (place : ℕ) → 256 ≤ place → get_or (bytes_of (written old 0 bytes)) place 0 ≡ get_or (bytes_of old) place 0
behind_front old bytes fits place ge = written_behind old 0 bytes (omega arith) place (omega (arith, fits, ge))

no_longer_front : (old : Content) (bytes : List ℕ) → length bytes ≤ 256 → size_of (written old 0 bytes) ≤ max (size_of old) 256
no_longer_front old bytes fits = omega (arith, fits, (torn_written old 0 bytes (omega arith)).no_longer)

fresh_fits : (chunk : ℕ) → length (fresh_control chunk) ≤ 256
fresh_fits chunk = first_bytes (bytes_of (written None 0 (fresh_control chunk))) (fresh_control chunk) (fresh_written chunk None)
  where
    first_bytes : (whole bytes : List ℕ) → take 256 whole ≡ bytes → length bytes ≤ 256
    first_bytes whole bytes is = omega (arith, ap length is, length-take 256 whole)

pub makes : (chunk : ℕ) → IsChunkSize chunk → (a b c d : Told) → ChangesOnly NoFile a b → is_some (live_index (control_in b.held)) ≡ false → Writes Control 0 (fresh_control chunk) (Ok tt) b c → Syncs Control (Ok tt) c d → Makes chunk (Ok tt) a d
makes chunk size a b c d passes closed writes syncs = record {
  only = only;
  closed = was_closed a b passes closed;
  existing = λ is. absurd (cc (is));
  unchanged = not_open a b passes closed;
  made = made;
  kept = syncs.ok (λ x. x);
  behind = λ place ge. ap (λ content. get_or (bytes_of content) place 0) held ∙ behind_front (b.held Control) (fresh_control chunk) (fresh_fits chunk) place ge ∙ ap (λ bytes. get_or bytes place 0) (control_passes a b passes);
  no_longer = subst (λ bytes. length (control_in d.held) ≤ max (length bytes) 256) (control_passes a b passes) (subst (λ content. size_of content ≤ max (size_of (b.held Control)) 256) (sym held) (no_longer_front (b.held Control) (fresh_control chunk) (fresh_fits chunk)));
  stands = fresh_now chunk size d made (syncs.ok (λ x. x));
  clear = made_clear chunk size d made;
  nothing_pending = λ none. fresh_pending chunk size d made (λ attempt. lending_now a d only.goes attempt (only.lending attempt) ∙ none attempt);
}
  where
    only : ChangesOnly (Only Control) a d
    only = sync_only chunk a b c d passes writes (Ok tt) syncs

    held : d.held Control ≡ written (b.held Control) 0 (fresh_control chunk)
    held = (syncs.files Control).held (λ x. x) ∙ writes.ok (λ x. x)

    made : IsFresh chunk d.held
    made = ap (λ l. take 256 (bytes_of l)) held ∙ fresh_written chunk (b.held Control)
