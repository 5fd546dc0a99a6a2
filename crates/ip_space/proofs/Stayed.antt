-- What is read stays over calls that change other files than those that are read.
--     byte_beside, readable_beside      of files that neither are chunks nor the prefix.      the others: of none
--     records_beside      so do the records.      readable_appended      also where more was appended behind the end
--     bare_readable, readable_kept      with nothing kept, or other records that stand
--     byte_stays      each byte.      readable_stays, readable_before      what nobody else changes is so before and after.      only_reads, only_reads_kept, only_looks      so such a call only reads
use Rattle.std.proofs.Common.{◌≡◌, ℕ, zero, suc, Bool, true, false, refl, sym, ◌∙◌, ap, subst, ◌≤◌, [], Option}
use Rattle.std.specs.Prelude.{List, nat_le, option_and_then, if◌then◌else◌}
use Rattle.ip_ground.specs.declared.names.FileName.{FileName}
use Rattle.ip_ground.specs.declared.names.FileName.TheVariants.{Chunk, Prefix}
use Rattle.ip_ground.specs.Contents.{Content}
use Rattle.ip_ground.specs.Custody.{Custody}
use Rattle.ip_ground.specs.Custody as custody
use Rattle.ip_ground.specs.Told.{Told, NoFile, ChangesOnly}
use Rattle.ip_ground.proofs.Spans.{lending_now}
use Rattle.ip_image.specs.declared.run.Run.{Run}
use Rattle.ip_image.specs.Virtual.{virtual_byte, byte_of, chunk_of, place_in_chunk, locate}
use Rattle.ip_image.specs.Stored.{record_at, stored}
use Rattle.ip_space.specs.SpaceView.{SpaceView, AreCurrent, IsReadable, OnlyReads, SameBelow, bare, grown, byte_at, records_of}
use Rattle.ip_spec.specs.declared.record.Record.{Record}
use Rattle.lru.proofs.Splits.{Contains-nil}
use Rattle.ip_space.proofs.Laws.{records_kept}
use Rattle.ip_space.proofs.StoodBytes.{alike}

module _ (these : FileName → Type 0) (old new : Told) (only : ChangesOnly these old new) where
  prefix_byte : (space : SpaceView) → IsReadable old space → ¬ these (Prefix space.layout.live) → (at : ℕ)
      → option_and_then (λ place. byte_of (new.held (Prefix space.layout.live)) place) (locate space.runs at)
      ≡ option_and_then (λ place. byte_of (old.held (Prefix space.layout.live)) place) (locate space.runs at)
  unfolding locate
  prefix_byte space readable apart at = by (space.layout.live) refl
    where
      bytes : Content → List Run → Option ℕ
      bytes content runs = option_and_then (λ place. byte_of content place) (locate runs at)

      by : (n : ℕ) → space.layout.live ≡ n → bytes (new.held (Prefix space.layout.live)) space.runs ≡ bytes (old.held (Prefix space.layout.live)) space.runs
      by zero e =
          let none = readable.none e in
          ap (bytes (new.held (Prefix space.layout.live))) none ∙ sym (ap (bytes (old.held (Prefix space.layout.live))) none)
      by (suc n) e = ap (λ (x : Content). bytes x space.runs) ((only.others (Prefix space.layout.live) apart).held (readable.own (λ z. absurd (cc (e, z)))))

  by_test : (b : Bool) (x y x' y' : Option ℕ) → x' ≡ x → y' ≡ y → (if b then x' else y') ≡ (if b then x else y)
  by_test true x y x' y' one two = one
  by_test false x y x' y' one two = two

  pub byte_beside : ((number : ℕ) → ¬ these (Chunk number)) → (space : SpaceView) → IsReadable old space → ¬ these (Prefix space.layout.live) → (at : ℕ) → byte_at new space at ≡ byte_at old space at
  unfolding virtual_byte
  byte_beside no_chunk space readable apart at =
      let number = chunk_of space.layout.chunk at in
      by_test (nat_le space.layout.horizon at) _ _ _ _
      (ap (λ (x : Content). byte_of x (place_in_chunk space.layout.chunk at)) ((only.others (Chunk number) (no_chunk number)).held (λ x. x)))
      (prefix_byte space readable apart at)

  -- of a space of which nothing is kept
  owned_beside : (space : SpaceView) → IsReadable old space → IsReadable new (bare space)
  owned_beside space readable = record {
    own = λ live foreign. readable.own live (subst (λ (c : Custody). custody.IsForeign c) (lending_now old new only.goes space.layout.live (only.lending space.layout.live)) foreign);
    none = readable.none;
    kept = λ at r there. absurd (Contains-nil (at, r) there);
  }

  pub records_beside : ((number : ℕ) → ¬ these (Chunk number)) → (space : SpaceView) → IsReadable old space → ¬ these (Prefix space.layout.live) → (at : ℕ) → records_of new space at ≡ records_of old space at
  unfolding stored record_at
  records_beside no_chunk space readable apart at =
      ap (λ (f : ℕ → Option ℕ). record_at f space.layout.end at) (alike (byte_at old space) (byte_at new space) (byte_beside no_chunk space readable apart))

  pub readable_beside : ((number : ℕ) → ¬ these (Chunk number)) → (space : SpaceView) → IsReadable old space → ¬ these (Prefix space.layout.live) → IsReadable new space
  readable_beside no_chunk space readable apart =
      let owned = owned_beside space readable in
      record {
        own = owned.own;
        none = owned.none;
        kept = λ at r there. records_beside no_chunk space readable apart at ∙ readable.kept at r there;
      }

  -- and behind the end more was appended
  pub readable_appended : (space : SpaceView) (end : ℕ) → space.layout.end ≤ end → SameBelow space old.held new.held → IsReadable old space → IsReadable new (grown space end)
  readable_appended space end further same readable =
      let owned = owned_beside space readable in
      record {
        own = owned.own;
        none = owned.none;
        kept = λ at r there. records_kept old.held new.held space end further same at r (readable.kept at r there);
      }

pub bare_readable : (told : Told) (space : SpaceView) → IsReadable told space → IsReadable told (bare space)
bare_readable told space readable = record {
  own = readable.own;
  none = readable.none;
  kept = λ at r there. absurd (Contains-nil (at, r) there);
}

-- what is kept changes nothing else
pub readable_kept : (told : Told) (space : SpaceView) (kept : List (ℕ × Record)) → IsReadable told space → AreCurrent (records_of told space) kept → IsReadable told (record space { kept = kept })
readable_kept told space kept readable current = record { own = readable.own; none = readable.none; kept = current }

module _ (old new : Told) (only : ChangesOnly NoFile old new) where
  pub byte_stays : (space : SpaceView) → IsReadable old space → (at : ℕ) → byte_at new space at ≡ byte_at old space at
  byte_stays space readable at = byte_beside NoFile old new only (λ number none. none) space readable (λ none. none) at

  pub readable_stays : (space : SpaceView) → IsReadable old space → IsReadable new space
  readable_stays space readable = readable_beside NoFile old new only (λ number none. none) space readable (λ none. none)

  owned_before : (space : SpaceView) → IsReadable new space → IsReadable old (bare space)
  owned_before space readable = record {
    own = λ live foreign. readable.own live (subst (λ (c : Custody). custody.IsForeign c) (sym (lending_now old new only.goes space.layout.live (only.lending space.layout.live))) foreign);
    none = readable.none;
    kept = λ at r there. absurd (Contains-nil (at, r) there);
  }

  pub readable_before : (space : SpaceView) → IsReadable new space → IsReadable old space
  readable_before space readable =
      let owned = owned_before space readable in
      record {
        own = owned.own;
        none = owned.none;
        kept = λ at r there. sym (records_beside NoFile old new only (λ number none. none) (bare space) owned (λ none. none) at) ∙ readable.kept at r there;
      }

  -- of the same layout and runs, with what is kept by then
  pub only_reads_kept : (space now : SpaceView) → now.layout ≡ space.layout → now.runs ≡ space.runs → (IsReadable old space → AreCurrent (records_of old space) now.kept) → OnlyReads old new space now
  only_reads_kept space now layout runs current =
      let same : bare now ≡ bare space = λ i. record { layout = layout i; runs = runs i; kept = [] } in
      record {
        only = only;
        layout = layout;
        runs = runs;
        readable = λ readable.
            let there = subst (IsReadable new) (sym same) (readable_stays (bare space) (bare_readable old space readable)) in
            readable_kept new (bare now) now.kept there (λ at r kept. ap (λ (s : SpaceView). records_of new s at) same ∙ records_stay_there space readable at ∙ current readable at r kept);
        records = λ readable at. ap (λ (s : SpaceView). records_of new s at) same ∙ records_stay_there space readable at;
      }
    where
      records_stay_there : (space : SpaceView) → IsReadable old space → (at : ℕ) → records_of new space at ≡ records_of old space at
      records_stay_there space readable at = records_beside NoFile old new only (λ number none. none) space readable (λ none. none) at

  -- of the space itself
  pub only_looks : (space : SpaceView) → OnlyReads old new space space
  only_looks space = only_reads_kept space space refl refl (λ readable. readable.kept)

  pub only_reads : (space now : SpaceView) → now ≡ space → OnlyReads old new space now
  only_reads space now same = subst (λ (s : SpaceView). OnlyReads old new s now) same (only_looks now)
