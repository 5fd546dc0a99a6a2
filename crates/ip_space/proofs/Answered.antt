-- What reading one record comes to, for a reference and for a walk.
--     record_there      the record at an offset is what is read there
--     whole_there      the record that the bytes begin with stands whole.      some_bytes      it has some
--     found_err, found_ok      for a walk, and found_ok, record_err for an offset.      fetched_err, fetched_ok      for a reference
use Rattle.std.proofs.Common.{◌≡◌, ℕ, ◌+◌, ◌-◌, ◌<◌, ◌≤◌, refl, sym, ◌∙◌, ap, subst, arith, [], length, drop, length-drop, length-append}
use Rattle.std.specs.Prelude.{Option, Some, None, Result, Ok, Err}
use Rattle.ip_ground.specs.Told.{Told}
use Rattle.ip_spec.specs.declared.record.Record.{Record}
use Rattle.ip_spec.specs.declared.record.Ref.{Ref}
use Rattle.ip_spec.specs.declared.record.RecordFault.{RecordFault}
use Rattle.ip_spec.specs.Path.{Bytes}
use Rattle.ip_spec.specs.Record.{reference_kind, name_of, spelling}
use Rattle.ip_image.specs.Virtual.{Stands}
use Rattle.ip_image.specs.Stored.{record_at, record_read, stored}
use Rattle.ip_space.specs.SpaceView.{SpaceView, IsReadable, bare, records_of, read_at, byte_at}
use Rattle.ip_space.specs.Ahead.{Shows, BeginsWith}
use Rattle.ip_space.specs.ScanView.{ScanView}
use Rattle.ip_space.specs.Fetching.{Fetches, FindsRecord, Refers, ReadsOne, BlamesPlace, Meets}
use Rattle.ip_space.specs.Scanning.{Finds, IsCurrent}
use Rattle.ip_space.specs.declared.fault.FetchFault.{FetchFault}
use Rattle.ip_space.specs.declared.fault.FetchFault.TheVariants.{Ground, Form, Name, Memory}
use Rattle.ip_space.proofs.Stayed.{bare_readable}
use Rattle.ip_space.proofs.StoodBytes.{stands_drop, stands_front}

pub record_there : (told : Told) (space : SpaceView) (at : ℕ) → records_of told space at ≡ record_read (read_at told space at)
unfolding stored record_at
record_there told space at = refl

abbrev Read : Type 0
Read = Result (Record × ℕ) RecordFault

module _ (records : ℕ → Option Record) (at : ℕ) (read : Read) (there : records at ≡ record_read read) where
  pub found_ok : (found : Record) (n : ℕ) → read ≡ Ok (found, n) → records at ≡ Some found
  found_ok found n is = there ∙ ap record_read is

  found_none : (fault : RecordFault) → read ≡ Err fault → records at ≡ None
  found_none fault is = there ∙ ap record_read is

  pub found_err : (fault : FetchFault) → ReadsOne read (Err fault) → Finds records at (Err fault)
  found_err Ground is = tt
  found_err (Form place fault) is = found_none fault is
  found_err (Name place want got) is = is
  found_err Memory is = tt

  pub record_err : (fault : FetchFault) → ReadsOne read (Err fault) → FindsRecord records at (Err fault)
  record_err Ground is = tt
  record_err (Form place fault) is = found_none fault is
  record_err (Name place want got) is = is
  record_err Memory is = tt

  module _ (r : Ref) (same : r.at ≡ at) where
    pub fetched_err : (fault : FetchFault) → ReadsOne read (Err fault) → BlamesPlace {A = Record × ℕ} at (Err fault) → Fetches records r (Err fault)
    fetched_err Ground is blames = tt
    fetched_err (Form place fault) is blames = record {
      place = blames.0 ∙ sym same;
      none = λ found there _. absurd (cc (there, ap records same ∙ found_none fault is));
    }
    fetched_err (Name place want got) is blames = absurd is
    fetched_err Memory is blames = tt

    one_record : (found other : Record) (n : ℕ) → read ≡ Ok (found, n) → records r.at ≡ Some other → found ≡ other
    one_record found other n is here = same_some found other (sym (found_ok found n is) ∙ ap records (sym same) ∙ here)
      where
        same_some : (x y : Record) → Some x ≡ Some y → x ≡ y
        same_some x y e = cc

    pub fetched_ok : (found : Record) (n : ℕ) → read ≡ Ok (found, n) → (result : Result Record FetchFault) → Refers found r result → Fetches records r result
    fetched_ok found n is (Ok rec) refers = record {
      here = ap records same ∙ found_ok found n is ∙ ap Some (sym refers.0);
      meets = subst (λ (x : Record). Meets r x) (sym refers.0) refers.1;
    }
    fetched_ok found n is (Err Ground) refers = absurd refers
    fetched_ok found n is (Err (Form place fault)) refers = record {
      place = refers.0;
      none = λ other here kind.
          let e = one_record found other n is here in
          subst (λ (x : Record). reference_kind x ≡ r.kind → name_of x ≡ None) e refers.2 kind;
    }
    fetched_ok found n is (Err (Name place want got)) refers = record {
      place = refers.0;
      wanted = refers.1;
      other = refers.2;
      found = found;
      here = ap records same ∙ found_ok found n is;
      kind = refers.3;
      name = refers.4;
    }
    fetched_ok found n is (Err Memory) refers = absurd refers

-- behind the record that was in front, what was read ahead stands as it did
pub passed_shows : (f : ℕ → Option ℕ) (end at n : ℕ) (bytes : Bytes) → Shows f end at bytes → Shows f end (at + n) (drop n bytes)
passed_shows f end at n bytes shows = record {
  stands = stands_drop f at n bytes shows.stands;
  inside = let i = shows.inside in let l = length-drop n bytes in omega (arith, i, l);
}

pub some_bytes : (r : Record) → 0 < length (spelling r)
unfolding spelling
some_bytes r = omega arith

pub whole_there : (f : ℕ → Option ℕ) (end at : ℕ) (r : Record) (bytes : Bytes) → Shows f end at bytes → BeginsWith (spelling r) bytes → Stands f at (spelling r) × (at + length (spelling r) ≤ end)
whole_there f end at r bytes shows (rest, is) = (
  stands_front f at (spelling r) rest (subst (Stands f at) is shows.stands),
  let i = shows.inside in let e = ap length is in let l = length-append (spelling r) rest in let some = some_bytes r in omega (arith, i, e, l, some),
)

pub shows_nothing : (f : ℕ → Option ℕ) (end at : ℕ) (bytes : Bytes) → bytes ≡ [] → Shows f end at bytes
shows_nothing f end at bytes none = record {
  stands = λ k below. let e = ap length none in absurd (omega (arith, below, e));
  inside = let e = ap length none in omega (arith, e);
}

-- the same bytes
pub shows_same : (f : ℕ → Option ℕ) (end at : ℕ) (bytes same : Bytes) → same ≡ bytes → Shows f end at bytes → Shows f end at same
shows_same f end at bytes same e shows = subst (Shows f end at) (sym e) shows

-- a walk that is current goes on with what it holds
pub begun : (told : Told) (space now : SpaceView) → space ≡ now → (next to : ℕ) (ahead : Bytes) (scan : ScanView) → ◌≡◌ {A = ScanView} (record { next = next; to = to; ahead = ahead }) scan → IsCurrent told now scan
    → (kept : Bytes) (room : ℕ) → room ≡ space.layout.end - next → (length ahead ≤ room → kept ≡ ahead) → Shows (byte_at told space) space.layout.end next kept
begun told space now same next to ahead scan is current kept room below keeps =
    let shows : Shows (byte_at told space) space.layout.end next ahead =
    subst (λ (s : SpaceView). Shows (byte_at told s) s.layout.end next ahead) (sym same) (subst (λ (v : ScanView). IsCurrent told now v) (sym is) current) in
    shows_same (byte_at told space) space.layout.end next ahead kept (keeps (let i = shows.inside in omega (arith, i, below))) shows

-- a space by what is inside, with nothing kept
pub readable_of : {told : Told} {space now : SpaceView} → space ≡ now → IsReadable told now → IsReadable told (bare space)
readable_of {told} {space} same readable = bare_readable told space (subst (IsReadable told) (sym same) readable)
