-- What is told while the prefix is written.
--     not_foreign, not_loose, free_on      of an attempt that was never lent.      ready_on, bytes_stay, bytes_on      while only the attempt's files change
--     of_prefix, of_none      changes of fewer files.      reaches_end, end_written      a write at the end of a file
--     now_held, piece_copied      one piece.      run_on, run_place, run_missing      one piece more of a run
--     begun, all_copied, runs_on, runs_missing      one run more, from the empty prefix on
--     total_next      what one run more adds up to
use Rattle.std.proofs.Common.{◌≡◌, ◌≢◌, ℕ, suc, ◌+◌, ◌<◌, ◌≤◌, List, [], ◌++◌, length, take, drop, get_or, refl, sym, ◌∙◌, ap, subst, arith, length-append, append_assoc, append-nil, Option}
use Rattle.std.specs.Prelude.{Some, None, slice_get, Result, Ok}
use Rattle.std.proofs.Math.Seq.{take-suc}
use Rattle.std.proofs.lemmas.List.{take_all, drop_all}
use Rattle.ip_ground.specs.declared.names.FileName.{FileName}
use Rattle.ip_ground.specs.declared.names.FileName.TheVariants.{Control, Chunk, Prefix, Mapping, Done}
use Rattle.ip_ground.specs.Contents.{Content, size_of, written}
use Rattle.ip_ground.specs.Custody.{Custody, custody_of, IsOfAttempt}
use Rattle.ip_ground.specs.Custody as custody
use Rattle.ip_ground.specs.Told.{Told, IsForeign, IsLoose, lending, Only, NoFile, ChangesOnly}
use Rattle.ip_ground.specs.Calls.{Writes}
use Rattle.ip_ground.proofs.Spans.{lending_now, only_more}
use Rattle.ip_spec.specs.Path.{Bytes}
use Rattle.ip_image.specs.declared.run.Run.{Run}
use Rattle.std.proofs.lemmas.List.Sums.{sum_by_push}
use Rattle.ip_image.specs.Virtual.{total}
use Rattle.ip_image.specs.Stored.{bytes_from}
use Rattle.ip_space.specs.SpaceView.{SpaceView, IsReadable, byte_at}
use Rattle.ip_space.specs.Ahead.{ReadsBytes}
use Rattle.ip_space.proofs.Stayed.{byte_beside, readable_beside}
use Rattle.ip_space.proofs.StoodBytes.{alike}
use Rattle.ip_keep.specs.Runs.{IsHeld, AreHeld}
use Rattle.ip_worker.specs.Steps.{IsFree, IsReady, IsCopied, CopiesRuns, gathered}
use Rattle.ip_worker.specs.declared.fault.WorkFault.{WorkFault}
use Rattle.ip_worker.proofs.Gathered.{from_stood, from_more, more_size, held_part, held_at, gathered_next}

-- ---- custody

foreign_of : (told : Told) (attempt : ℕ) (file : FileName) → IsFree told attempt → IsOfAttempt attempt file → custody_of (lending told) file ≡ custody.own
foreign_of told attempt Control free here = absurd here
foreign_of told attempt (Chunk n) free here = absurd here
foreign_of told attempt (Prefix n) free here = ap (lending told) here ∙ free
foreign_of told attempt (Mapping n) free here = ap (lending told) here ∙ free
foreign_of told attempt (Done n) free here = ap (lending told) here ∙ free

pub not_foreign : (told : Told) (attempt : ℕ) (file : FileName) → IsFree told attempt → IsOfAttempt attempt file → ¬ IsForeign told file
not_foreign told attempt file free here foreign = subst (λ (c : Custody). custody.IsForeign c) (foreign_of told attempt file free here) foreign

pub not_loose : (told : Told) (attempt : ℕ) (file : FileName) → IsFree told attempt → IsOfAttempt attempt file → ¬ IsLoose told file
not_loose told attempt file free here loose = subst (λ (c : Custody). custody.IsLoose c file) (foreign_of told attempt file free here) loose

pub free_on : (these : FileName → Type 0) (old new : Told) (attempt : ℕ) → ChangesOnly these old new → IsFree old attempt → IsFree new attempt
free_on these old new attempt only free = lending_now old new only.goes attempt (only.lending attempt) ∙ free

-- ---- the space

module _ (attempt : ℕ) (old new : Told) (only : ChangesOnly (IsOfAttempt attempt) old new) where
  pub ready_on : (space : SpaceView) → IsReady attempt space old → IsReady attempt space new
  ready_on space ready = record { free = free_on (IsOfAttempt attempt) old new attempt only ready.free; readable = readable_beside (IsOfAttempt attempt) old new only (λ number none. none) space ready.readable ready.apart; apart = ready.apart }

  pub bytes_stay : (space : SpaceView) → IsReadable old space → space.layout.live ≢ attempt → byte_at new space ≡ byte_at old space
  bytes_stay space readable apart = alike (byte_at old space) (byte_at new space) (byte_beside (IsOfAttempt attempt) old new only (λ number none. none) space readable apart)

  pub bytes_on : (space : SpaceView) → IsReady attempt space old → byte_at new space ≡ byte_at old space
  bytes_on space ready = bytes_stay space ready.readable ready.apart

-- what changes the prefix changes a file of the attempt
pub of_prefix : (attempt : ℕ) (a b : Told) → ChangesOnly (Only (Prefix attempt)) a b → ChangesOnly (IsOfAttempt attempt) a b
of_prefix attempt a b only = only_more a b (Only (Prefix attempt)) (IsOfAttempt attempt) (λ f is. subst (IsOfAttempt attempt) (sym is) refl) only

pub of_none : (these : FileName → Type 0) (a b : Told) → ChangesOnly NoFile a b → ChangesOnly these a b
of_none these a b only = only_more a b NoFile these (λ f none. absurd none) only

-- ---- pieces

pub reaches_end : (before : Bytes) (content : Content) (place : ℕ) → content ≡ Some before → length before ≡ place → place ≤ size_of content
reaches_end before content place is size = subst (λ (c : Content). place ≤ size_of c) (sym is) (omega (arith, size))

-- a write at the end
pub end_written : (before bytes : Bytes) (content : Content) (at : ℕ) → content ≡ Some before → length before ≡ at → written content at bytes ≡ Some (before ++ bytes)
end_written before bytes content at is size =
    ap (λ (c : Content). written c at bytes) is
    ∙ ap (λ (l : Bytes). Some ((l ++ bytes) ++ drop (at + length bytes) before)) (take_all at before (omega (arith, size)))
    ∙ ap (λ (l : Bytes). Some ((before ++ bytes) ++ l)) (drop_all (at + length bytes) before (omega (arith, size)))
    ∙ ap (λ (l : Bytes). Some l) (append-nil (before ++ bytes))

module _ (attempt : ℕ) (space : SpaceView) (a b : Told) (ready : IsReady attempt space a) (before : Bytes) (held : a.held (Prefix attempt) ≡ Some before) (at place room : ℕ) (size : length before ≡ place) where
  module _ (only : ChangesOnly NoFile a b) where
    pub now_held : b.held (Prefix attempt) ≡ Some before
    now_held = (only.others (Prefix attempt) (λ none. none)).held (not_foreign a attempt (Prefix attempt) ready.free refl) ∙ held

    now_free : IsFree b attempt
    now_free = free_on NoFile a b attempt only ready.free

    pub piece_copied : (c : Told) (filled : Bytes) (n : ℕ) → ReadsBytes (byte_at a space) at room filled (Ok n) → n ≡ room → length filled ≡ room
        → Writes (Prefix attempt) place filled (Ok tt) b c → IsCopied (byte_at a space) attempt at room before c
    piece_copied c filled n reads full long writes =
        let whole : take n filled ≡ filled = take_all n filled (omega (arith, full, long)) in
        let these : bytes_from (byte_at a space) at room ≡ filled = from_stood (byte_at a space) at room filled (subst (λ (l : Bytes). (k : ℕ) → k < length l → byte_at a space (at + k) ≡ slice_get l k) whole reads.bytes) long in
        record {
          held = writes.ok (not_foreign b attempt (Prefix attempt) now_free refl) ∙ end_written before filled (b.held (Prefix attempt)) place now_held size ∙ ap (λ (l : Bytes). Some (before ++ l)) (sym these);
          size = ap length these ∙ long;
        }

-- ---- a run, piece by piece

module _ (attempt : ℕ) (space : SpaceView) (a m : Told) (ready : IsReady attempt space a) (only : ChangesOnly (Only (Prefix attempt)) a m) where
  pub same_bytes : byte_at m space ≡ byte_at a space
  same_bytes = bytes_on attempt a m (of_prefix attempt a m only) space ready

  pub ready_then : IsReady attempt space m
  ready_then = ready_on attempt a m (of_prefix attempt a m only) space ready

  pub run_on : (at : ℕ) (before : Bytes) (n : Told) (done count : ℕ) → IsCopied (byte_at a space) attempt at done before m
      → IsCopied (byte_at m space) attempt (at + done) count (before ++ bytes_from (byte_at a space) at done) n → IsCopied (byte_at a space) attempt at (done + count) before n
  run_on at before n done count so more = record {
    held = next.held
        ∙ ap Some (append_assoc before (bytes_from (byte_at a space) at done) (bytes_from (byte_at a space) (at + done) count)
        ∙ ap (λ (l : Bytes). before ++ l) (sym (from_more (byte_at a space) at done count so.size)));
    size = more_size (byte_at a space) at done count so.size next.size;
  }
    where
      next : IsCopied (byte_at a space) attempt (at + done) count (before ++ bytes_from (byte_at a space) at done) n
      next = subst (λ (g : ℕ → Option ℕ). IsCopied g attempt (at + done) count (before ++ bytes_from (byte_at a space) at done) n) same_bytes more

  pub run_place : (at done place : ℕ) (before : Bytes) → length before ≡ place → IsCopied (byte_at a space) attempt at done before m → length (before ++ bytes_from (byte_at a space) at done) ≡ place + done
  run_place at done place before size so = let l = length-append before (bytes_from (byte_at a space) at done) in let s = so.size in omega (arith, l, s, size)

  pub run_missing : (at done count n : ℕ) → done + count ≤ n → (IsHeld (byte_at m space) (at + done) count → ⊥) → IsHeld (byte_at a space) at n → ⊥
  run_missing at done count n le missing held =
      missing (subst (λ (g : ℕ → Option ℕ). IsHeld g (at + done) count) (sym same_bytes) (held_part (byte_at a space) at n done count le held))

  -- ---- runs, one behind another

  -- the file is there, empty
  pub begun : a.held (Prefix attempt) ≡ None → Writes (Prefix attempt) 0 [] (Ok tt) a m → m.held (Prefix attempt) ≡ Some []
  begun gone writes = writes.ok (not_foreign a attempt (Prefix attempt) ready.free refl) ∙ ap (λ (x : Content). written x 0 []) gone

  pub all_copied : (runs : List Run) (result : Result ℕ WorkFault) (n : Told) → CopiesRuns (byte_at m space) attempt runs result n → CopiesRuns (byte_at a space) attempt runs result n
  all_copied runs result n copies = subst (λ (g : ℕ → Option ℕ). CopiesRuns g attempt runs result n) same_bytes copies

  pub runs_on : (runs : List Run) (i : ℕ) (d : Run) (place : ℕ) (n : Told) → i < length runs → length (gathered (byte_at a space) (take i runs)) ≡ place
      → IsCopied (byte_at m space) attempt (get_or runs i d).at (get_or runs i d).length (gathered (byte_at a space) (take i runs)) n
      → (n.held (Prefix attempt) ≡ Some (gathered (byte_at a space) (take (i + 1) runs))) × (length (gathered (byte_at a space) (take (i + 1) runs)) ≡ place + (get_or runs i d).length)
  runs_on runs i d place n below size copied =
      let f = byte_at a space in
      let run = get_or runs i d in
      let next : IsCopied f attempt run.at run.length (gathered f (take i runs)) n = subst (λ (g : ℕ → Option ℕ). IsCopied g attempt run.at run.length (gathered f (take i runs)) n) same_bytes copied in
      let e : i + 1 ≡ suc i = omega arith in
      let all : gathered f (take (i + 1) runs) ≡ gathered f (take i runs) ++ bytes_from f run.at run.length = ap (λ (k : ℕ). gathered f (take k runs)) e ∙ gathered_next f runs i d below in
      let l = length-append (gathered f (take i runs)) (bytes_from f run.at run.length) in
      let s = next.size in
      (next.held ∙ ap Some (sym all), ap length all ∙ omega (arith, l, s, size))

  pub runs_missing : (runs : List Run) (i : ℕ) (d : Run) → i < length runs → (IsHeld (byte_at m space) (get_or runs i d).at (get_or runs i d).length → ⊥) → AreHeld (byte_at a space) runs → ⊥
  runs_missing runs i d below missing held =
      missing (subst (λ (g : ℕ → Option ℕ). IsHeld g (get_or runs i d).at (get_or runs i d).length) (sym same_bytes) (held_at (byte_at a space) runs i d below held))

-- ---- sums of runs

pub total_next : (runs : List Run) (i : ℕ) (d : Run) → i < length runs → total (take (i + 1) runs) ≡ total (take i runs) + (get_or runs i d).length
total_next runs i d below =
    let one : i + 1 ≡ suc i = omega arith in
    ap total (ap (λ (k : ℕ). take k runs) one ∙ take-suc runs i d below) ∙ sum_by_push (λ (run : Run). run.length) (take i runs) (get_or runs i d)
