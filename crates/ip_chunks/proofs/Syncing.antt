-- The chunks of a range are synced one after another.
use Rattle.std.proofs.Common.{◌≡◌, ℕ, ◌+◌, ◌-◌, ◌<◌, ◌≤◌, inl, inr, sym, ◌∙◌, ap, subst, arith}
use Rattle.std.specs.Prelude.{Result, Ok, IsErr}
use Rattle.std.proofs.lemmas.Bool.{cases_lt}
use Rattle.std.proofs.lemmas.Result.{IfOk-from_err}
use Rattle.ip_ground.specs.declared.names.FileName.{FileName}
use Rattle.ip_ground.specs.declared.names.FileName.TheVariants.{Chunk}
use Rattle.ip_ground.specs.declared.names.GroundFault.{GroundFault}
use Rattle.ip_ground.specs.Told.{Told, KeepsPast, SyncsAtMost, IsSynced, Only, SyncsOnly}
use Rattle.ip_ground.specs.Calls.{Syncs}
use Rattle.ip_ground.proofs.Durable.{IsOwn, sync_syncs}
use Rattle.ip_ground.proofs.Spans.{only_more, syncs_on, each_synced, left_now}
use Rattle.ip_image.specs.Virtual.{chunk_of}
use Rattle.ip_chunks.specs.Places.{IsChunkBetween}
use Rattle.ip_chunks.specs.Effects.{SyncsRange}
use Rattle.ip_chunks.proofs.Borders.{chunk_up, chunk_between}

-- a chunk is no attempt's
own_chunk : (number : ℕ) → IsOwn (Chunk number)
own_chunk number = record { own = λ told x. x; firm = λ told x. x; unmarked = λ attempt custody i. custody }

-- nothing of a chunk is pending, and a sync of another does not change that
still_kept : (number : ℕ) (b c : Told) → KeepsPast b c → SyncsAtMost b c (Chunk number) → IsSynced b (Chunk number) → IsSynced c (Chunk number)
still_kept number b c goes stays kept content may =
    left_now b c (Chunk number) (λ x. x ≡ b.held (Chunk number)) goes kept (each_synced b c (Chunk number) (λ x. x ≡ b.held (Chunk number)) (λ x. x) stays kept) content may ∙ sym (stays.held (λ x. x))

-- of chunks by their numbers
abbrev pub AllKept : Told → ℕ → ℕ → Type 0
AllKept told from to = (number : ℕ) → from ≤ number → number < to → IsSynced told (Chunk number)

module _ (size from to : ℕ) (some : 0 < size) (some_place : from < to) (number : ℕ) (high : chunk_of size from ≤ number) (low : number ≤ chunk_of size (to - 1)) (a b c : Told) (before : SyncsOnly (IsChunkBetween size from to) a b)
    (r : Result (Unit {0}) GroundFault) (syncs : Syncs (Chunk number) r b c) where
  in_range : (file : FileName) → Only (Chunk number) file → IsChunkBetween size from to file
  in_range file is = let at = chunk_between size some from to number some_place high low in (at.0, at.1, is ∙ ap Chunk at.2)

  pub one_synced : SyncsOnly (IsChunkBetween size from to) a c
  one_synced =
      let it = sync_syncs (Chunk number) (own_chunk number) r b c syncs in
      syncs_on a b c (IsChunkBetween size from to) before (record { changes = only_more b c (Only (Chunk number)) (IsChunkBetween size from to) in_range it.changes; files = it.files })

  pub sync_failed : (s : Result (Unit {0}) GroundFault) → IsErr s → SyncsRange size from to s a c
  sync_failed s failed = record { only = one_synced; ok = IfOk-from_err s _ failed }

-- one more is kept
pub one_kept : (first number : ℕ) (b c : Told) → Syncs (Chunk number) (Ok tt) b c → AllKept b first number → AllKept c first (number + 1)
one_kept first number b c syncs kept other high low = elim (cases_lt other number) [
  | inl earlier ↦ still_kept other b c syncs.goes (syncs.files (Chunk other)) (kept other high earlier)
  | inr it ↦ let same : other ≡ number = omega (arith, it, low) in subst (λ (n : ℕ). IsSynced c (Chunk n)) (sym same) (syncs.ok (λ x. x))
]

pub all_synced : (size from to end : ℕ) → 0 < size → chunk_of size (to - 1) < end → (a b : Told) → SyncsOnly (IsChunkBetween size from to) a b → AllKept b (chunk_of size from) end → SyncsRange size from to (Ok tt) a b
all_synced size from to end some past a b only kept = record { only = only; ok = each }
  where
    each : (file : FileName) → IsChunkBetween size from to file → IsSynced b file
    each file is =
        let low = chunk_up size some from is.0 is.1.0 in
        let high = chunk_up size some is.0 (to - 1) (omega (arith, is.1.1)) in
        subst (λ f. IsSynced b f) (sym is.2) (kept (chunk_of size is.0) low (omega (arith, high, past)))
