-- What was cleared away is so still, while no file changes.
--     clear_along      of two moments with the same files and custody.      clear_behind      all is gone, by whoever's the files are.      left_behind      and so it is of what is left
--     clear_synced      opening keeps it.      cleared_opened      and so it is of the store that was opened.      cleared_at, cleared_same      an open store's is that of the slot that is live
use Rattle.std.proofs.Common.{◌≡◌, ℕ, ◌<◌, ◌≤◌, refl, sym, ap, subst, ◌∙◌, arith}
use Rattle.std.proofs.Math.Nat.{le_refl}
use Rattle.ip_ground.specs.declared.names.FileName.{FileName}
use Rattle.ip_ground.specs.declared.names.FileName.TheVariants.{Control, Chunk, Prefix, Mapping, Done}
use Rattle.ip_ground.specs.Contents.{Image}
use Rattle.ip_ground.specs.Custody as custody
use Rattle.ip_ground.specs.Custody.{Custody, IsOfAttempt, custody_of}
use Rattle.ip_ground.specs.Told.{Told, lending, IsForeign, Only, SyncsOnly}
use Rattle.ip_ground.proofs.Spans.{lending_now}
use Rattle.ip_image.specs.declared.slot.Slot.{Slot}
use Rattle.ip_image.specs.Pending.{HasLive}
use Rattle.ip_image.proofs.HeadlineLaws.{one_slot}
use Rattle.ip_held.specs.declared.collection.Unswept.{Unswept}
use Rattle.ip_held.specs.declared.held.Held.{Held}
use Rattle.ip_held.specs.Clear.{unswept_in, IsClearTo, IsCleared, IsClearAt, IsClear}
use Rattle.ip_app.specs.Judged.{AllLeft}
use Rattle.ip_app.proofs.LivePair.{live_before}

-- a file of an attempt is no child's where the attempt is not
file_ours : (whose : ℕ → Custody) (attempt : ℕ) (file : FileName) → IsOfAttempt attempt file → ¬ custody.IsForeign (whose attempt) → ¬ custody.IsForeign (custody_of whose file)
file_ours whose attempt Control of ours = absurd of
file_ours whose attempt (Chunk number) of ours = absurd of
file_ours whose attempt (Prefix n) of ours = subst (λ (k : ℕ). ¬ custody.IsForeign (whose k)) (sym of) ours
file_ours whose attempt (Mapping n) of ours = subst (λ (k : ℕ). ¬ custody.IsForeign (whose k)) (sym of) ours
file_ours whose attempt (Done n) of ours = subst (λ (k : ℕ). ¬ custody.IsForeign (whose k)) (sym of) ours

pub clear_along : (a b : Told) → ((file : FileName) → ¬ IsForeign a file → b.held file ≡ a.held file) → ((attempt : ℕ) → lending b attempt ≡ lending a attempt) → (s : Slot) (u : Unswept) → IsClearTo s u a.held (lending a) → IsClearTo s u b.held (lending b)
clear_along a b files lends s u was = record {
  chunk = was.chunk;
  attempt = was.attempt;
  chunks = λ number low. files (Chunk number) (λ foreign. foreign) ∙ was.chunks number low;
  files = λ attempt file some low of ours.
      let before : ¬ custody.IsForeign (lending a attempt) = subst (λ (c : Custody). ¬ custody.IsForeign c) (lends attempt) ours in
      files file (file_ours (lending a) attempt file of before) ∙ was.files attempt file some low of before;
}

pub clear_behind : (s : Slot) (image : Image) (whose other : ℕ → Custody) → ((attempt : ℕ) → other attempt ≡ whose attempt) → IsClear s image whose → IsClear s image other
clear_behind s image whose other same was = record {
  chunks = was.chunks;
  files = λ attempt file some low of ours left. was.files attempt file some low of (subst (λ (c : Custody). ¬ custody.IsForeign c) (same attempt) ours) left;
}

custody_same : (whose other : ℕ → Custody) → ((attempt : ℕ) → other attempt ≡ whose attempt) → (file : FileName) → custody_of other file ≡ custody_of whose file
custody_same whose other same Control = refl
custody_same whose other same (Chunk number) = refl
custody_same whose other same (Prefix n) = same n
custody_same whose other same (Mapping n) = same n
custody_same whose other same (Done n) = same n

pub left_behind : (these : FileName → Type 0) (left : ℕ) (image : Image) (whose other : ℕ → Custody) → ((attempt : ℕ) → other attempt ≡ whose attempt) → AllLeft these left image whose → AllLeft these left image other
left_behind these left image whose other same was few =
    let found = was few in
    (found.0, found.1, λ file is ours. found.2 file is (subst (λ (c : Custody). ¬ custody.IsForeign c) (custody_same whose other same file) ours))

-- ---- opening

module _ (a b : Told) (only : SyncsOnly (Only Control) a b) where
  synced_to : (s : Slot) (u : Unswept) → IsClearTo s u a.held (lending a) → IsClearTo s u b.held (lending b)
  synced_to = clear_along a b (λ file. (only.files file).held) (λ attempt. lending_now a b only.changes.goes attempt (only.changes.lending attempt))

  pub clear_synced : IsClearAt a → IsClearAt b
  clear_synced clear s has = synced_to s (unswept_in s) (clear s (live_before a b only.files s has))

  -- nothing is unswept but what its slot says
  pub cleared_opened : (store : Held) → HasLive store.slot b.held → store.unswept ≡ unswept_in store.slot → IsClearAt a → IsCleared store b
  cleared_opened store has unswept clear = subst (λ (u : Unswept). IsClearTo store.slot u b.held (lending b)) (sym unswept) (synced_to store.slot (unswept_in store.slot) (clear store.slot (live_before a b only.files store.slot has)))

-- ---- in the end

below : (a b c : ℕ) → a < b → b ≤ c → a < c
below a b c low to = omega (arith, low, to)

pub cleared_at : (told : Told) (store : Held) → HasLive store.slot told.held → IsCleared store told → IsClearAt told
cleared_at told store has was s other = subst (λ (t : Slot). IsClearTo t (unswept_in t) told.held (lending told)) (one_slot store.slot s told.held has other) (record {
  chunk = le_refl store.slot.first_chunk;
  attempt = le_refl store.slot.first_attempt;
  chunks = λ number low. was.chunks number (below number store.slot.first_chunk store.unswept.chunk low was.chunk);
  files = λ attempt file some low of ours. was.files attempt file some (below attempt store.slot.first_attempt store.unswept.attempt low was.attempt) of ours;
})

-- at a moment that is told as another one
pub cleared_same : (a b : Told) (store : Held) → b.held ≡ a.held → lending b ≡ lending a → HasLive store.slot a.held → IsCleared store a → IsClearAt b
cleared_same a b store held whose has was = cleared_at b store (subst (λ (image : Image). HasLive store.slot image) (sym held) has)
    (clear_along a b (λ file ours. ap (λ (image : Image). image file) held) (λ attempt. ap (λ (custodies : ℕ → Custody). custodies attempt) whose) store.slot store.unswept was)
