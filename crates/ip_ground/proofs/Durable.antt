-- A write and a sync of a file that is no attempt's, from a state in which nothing of it is pending.
use Rattle.std.proofs.Common.{◌≡◌, inl, inr, ℕ, List, length, ◌∙◌, subst, sym}
use Rattle.std.specs.Prelude.{Result, Ok, Err}
use Rattle.ip_ground.specs.declared.names.FileName.{FileName}
use Rattle.ip_ground.specs.declared.names.GroundFault.{GroundFault}
use Rattle.ip_ground.specs.Contents.{Content, written, Torn}
use Rattle.ip_ground.specs.Custody.{Custody, after_sync}
use Rattle.ip_ground.specs.Told.{Told, lending, IsForeign, IsLoose, KeepsFile, KeepsCustody, EachSince, EachNow, IsSynced, Only, NoFile, ChangesOnly, SyncsOnly}
use Rattle.ip_ground.specs.Calls.{Writes, Syncs}
use Rattle.ip_ground.proofs.Spans.{only_on, each_on, each_stays, each_synced, each_from_kept, each_weaker, left_now, now_from_since}

-- the file is no attempt's, as the control file and the chunks; then each part computes
pub record IsOwn (file : FileName) : Type 1 where
  pub own : (told : Told) → ¬ IsForeign told file
  pub firm : (told : Told) → ¬ IsLoose told file
  pub unmarked : (attempt : ℕ) (custody : Custody) → after_sync file attempt custody ≡ custody

sync_lending : (file : FileName) (own : IsOwn file) (result : Result (Unit {0}) GroundFault) (b c : Told) → Syncs file result b c → (attempt : ℕ) → KeepsCustody b c attempt
sync_lending file own (Err e) b c syncs attempt t after le = syncs.refused.lending attempt t after le
sync_lending file own (Ok u) b c syncs attempt t after le = elim (syncs.turns attempt t after le) [
  | inl before ↦ before
  | inr now ↦ now ∙ syncs.lending attempt ∙ own.unmarked attempt (lending b attempt)
]

-- a sync of such a file changes no other
pub sync_changes : (file : FileName) (own : IsOwn file) (result : Result (Unit {0}) GroundFault) (b c : Told) → Syncs file result b c → ChangesOnly (Only file) b c
sync_changes file own result b c syncs = record {
  goes = syncs.goes;
  others = syncs.others;
  lending = sync_lending file own result b c syncs;
  said = syncs.said;
}

-- and what the files read as stays
pub sync_syncs : (file : FileName) (own : IsOwn file) (result : Result (Unit {0}) GroundFault) (b c : Told) → Syncs file result b c → SyncsOnly (Only file) b c
sync_syncs file own result b c syncs = record { changes = sync_changes file own result b c syncs; files = syncs.files }

-- over calls that change no file
module _ (file : FileName) (own : IsOwn file) (a b : Told) (passes : ChangesOnly NoFile a b) where
  stays : KeepsFile a b file
  stays = passes.others file (λ none. none)

  pub held_passes : b.held file ≡ a.held file
  held_passes = stays.held (own.own a)

  pub each_passes : (P : Content → Type 0) → EachNow a file P → EachSince a b file P
  each_passes P now = each_stays a b file P (own.firm a) stays now

  pub now_passes : (P : Content → Type 0) → EachNow a file P → EachNow b file P
  now_passes P now = left_now a b file P passes.goes now (each_passes P now)

  pub kept_passes : IsSynced a file → IsSynced b file
  kept_passes kept x left = now_passes (λ content. content ≡ a.held file) kept x left ∙ sym held_passes

-- what holds of what is held holds of what a crash leaves, where nothing is pending
pub now_from_kept : (file : FileName) (a : Told) (P : Content → Type 0) → IsSynced a file → P (a.held file) → EachNow a file P
now_from_kept file a P kept here x left = subst P (sym (kept x left)) here

module _ (file : FileName) (own : IsOwn file) (at : ℕ) (bytes : List ℕ) (a b : Told) (kept : IsSynced a file) where
  -- since the write each content is what was held, cut short or not
  pub write_leaves : (result : Result (Unit {0}) GroundFault) → Writes file at bytes result a b → (P : Content → Type 0) → ((x : Content) → Torn at (length bytes) (a.held file) x → P x) → EachSince a b file P
  write_leaves result writes P so = each_weaker a b file (Torn at (length bytes) (a.held file)) P (each_from_kept a b file (Torn at (length bytes)) (writes.left (own.firm a)) kept) so

  module _ (c : Told) (writes : Writes file at bytes (Ok tt) a b) (result : Result (Unit {0}) GroundFault) (syncs : Syncs file result b c) where
    pub both_change : ChangesOnly (Only file) a c
    both_change = only_on a b c (Only file) writes.only (sync_changes file own result b c syncs)

    pub both_leave : (P : Content → Type 0) → ((x : Content) → Torn at (length bytes) (a.held file) x → P x) → EachSince a c file P
    both_leave P so =
        let first = write_leaves (Ok tt) writes P so in
        each_on a b c file P syncs.goes first (each_synced b c file P (own.firm b) (syncs.files file) (now_from_since a b file P writes.advances first))

    -- what is held then
    pub both_hold : c.held file ≡ written (a.held file) at bytes
    both_hold = (syncs.files file).held (own.own b) ∙ writes.ok (own.own a)
