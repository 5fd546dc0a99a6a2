-- What bringing a record comes to.
--     Brings tells told space r kept result      what is said of it, where this is kept at the reference then
--     brings_by, no_ground, no_memory      of a record that stands there.      misses      where none was read
--     again_reads, again_brings, again_known, again_no_ground      of one that was kept.      none_known      where none was.      new_reads, new_brings      of one that was read
--     copied_known, spared_so      of a copy
use Rattle.std.proofs.Common.{◌≡◌, ℕ, Bool, List, Option, Some, None, Result, Ok, Err, IsTrue, IfOk, IsSome, IsErrOf, MatchResult, inl, inr, refl, sym, ◌∙◌, ap, subst}
use Rattle.ip_ground.specs.Told.{Told, NoFile, ChangesOnly}
use Rattle.ip_ground.proofs.Passing.{changes_nothing_on}
use Rattle.ip_spec.specs.declared.record.Record.{Record}
use Rattle.ip_spec.specs.declared.record.Ref.{Ref}
use Rattle.ip_spec.specs.declared.record.RecordFault.{RecordFault}
use Rattle.ip_spec.specs.Record.{Fits}
use Rattle.ip_image.specs.Slot.{newest_version}
use Rattle.ip_image.specs.Stored.{record_read}
use Rattle.ip_space.specs.SpaceView.{SpaceView, IsReadable, OnlyReads, kept_at, records_of, read_at}
use Rattle.ip_space.specs.Fetching.{Fetches, IsBecause, Blames, BlamesPlace, Meets, Refers, IsFoundOf, TellsDamage, ReadsOne, form_fault}
use Rattle.ip_space.specs.Kept.{GainsNone, GainsAtMost, IsKnown, answer_of, brought, found_again}
use Rattle.ip_space.specs.declared.fault.FetchFault.{FetchFault}
use Rattle.ip_space.specs.declared.fault.FetchFault.TheVariants.{Ground, Form, Name, Memory}
use Rattle.ip_space.proofs.Laws.{IsReadAs, read_as_some}
use Rattle.ip_space.proofs.Answered.{record_there, fetched_ok, fetched_err}
use Rattle.ip_space.proofs.Stayed.{only_reads_kept}
use Rattle.ip_space.proofs.Cached.{current_none, current_one, kept_stands}

abbrev Answer : Type 0
Answer = Result Record FetchFault

abbrev Found : Type 0
Found = Result (Option Record) FetchFault

-- ---- of a record that was found

module _ (rec : Record) (r : Ref) where
  pub because_of : (read : Result (Record × ℕ) RecordFault) (n : ℕ) → read ≡ Ok (rec, n) → (result : Answer) → Refers rec r result → IsBecause read result
  because_of read n is (Ok found) refers = tt
  because_of read n is (Err Ground) refers = absurd refers
  because_of read n is (Err (Form at fault)) refers = refers.1 ∙ sym (ap form_fault is)
  because_of read n is (Err (Name at want got)) refers = tt
  because_of read n is (Err Memory) refers = absurd refers

  pub blames_of : (result : Answer) → Refers rec r result → Blames r result
  blames_of (Ok found) refers = tt
  blames_of (Err Ground) refers = tt
  blames_of (Err (Form at fault)) refers = (refers.0, λ memory. cc (memory, refers.1))
  blames_of (Err (Name at want got)) refers = (refers.0, refers.1, λ same. refers.2 (same ∙ sym refers.1))
  blames_of (Err Memory) refers = tt

  pub meets_of : (result : Answer) → Refers rec r result → IfOk result (λ found. Meets r found)
  meets_of (Ok found) refers = subst (Meets r) (sym refers.0) refers.1
  meets_of (Err fault) refers = tt

  pub bounds_of : Fits newest_version rec → (result : Answer) → Refers rec r result → IfOk result (λ found. Fits newest_version found)
  bounds_of fits (Ok found) refers = subst (Fits newest_version) (sym refers.0) fits
  bounds_of fits (Err fault) refers = tt

-- what is said of the answer
pub record Brings (tells : Bool) (told : Told) (space : SpaceView) (r : Ref) (kept : Option Record) (result : Found) : Type 0 where
  pub found : IsTrue tells → IsReadable told space → Fetches (records_of told space) r (brought kept result)
  pub because : IsTrue tells → IsReadable told space → IsBecause (read_at told space r.at) (brought kept result)
  pub here : IfOk result (λ found. found ≡ None → IsSome kept)
  pub blames : Blames r (brought kept result)
  pub meets : IfOk (brought kept result) (λ found. Meets r found)
  pub bounds : IfOk (brought kept result) (λ found. Fits newest_version found)

here_by : (rec : Record) (r : Ref) (kept : Option Record) (result : Found) → Refers rec r (brought kept result) → IfOk result (λ found. found ≡ None → IsSome kept)
here_by rec r kept (Ok (Some found)) refers = λ none. absurd (cc none)
here_by rec r (Some found) (Ok None) refers = λ none. refl
here_by rec r None (Ok None) refers = absurd refers
here_by rec r kept (Err fault) refers = tt

pub brings_by : (tells : Bool) (told : Told) (space : SpaceView) (r : Ref) (kept : Option Record) (result : Found) (rec : Record) → Fits newest_version rec
    → (IsTrue tells → IsReadable told space → IsReadAs (read_at told space r.at) rec) → Refers rec r (brought kept result) → Brings tells told space r kept result
brings_by tells told space r kept result rec fits read refers = record {
  found = λ t readable. let is = read t readable in fetched_ok (records_of told space) r.at (read_at told space r.at) (record_there told space r.at) r refl rec is.length is.is (brought kept result) refers;
  because = λ t readable. let is = read t readable in because_of rec r (read_at told space r.at) is.length is.is (brought kept result) refers;
  here = here_by rec r kept result refers;
  blames = blames_of rec r (brought kept result) refers;
  meets = meets_of rec r (brought kept result) refers;
  bounds = bounds_of rec r fits (brought kept result) refers;
}

pub no_ground : (rec : Record) (r : Ref) (kept : Option Record) (result : Found) → Refers rec r (brought kept result) → IsErrOf result Ground → ⊥
no_ground rec r kept (Ok found) refers is = absurd (cc is)
no_ground rec r kept (Err Ground) refers is = refers
no_ground rec r kept (Err (Form at fault)) refers is = absurd (cc is)
no_ground rec r kept (Err (Name at want got)) refers is = absurd (cc is)
no_ground rec r kept (Err Memory) refers is = refers

pub no_memory : (rec : Record) (r : Ref) (kept : Option Record) (result : Found) → Refers rec r (brought kept result) → IsErrOf result Memory → ⊥
no_memory rec r kept (Ok found) refers is = absurd (cc is)
no_memory rec r kept (Err Ground) refers is = refers
no_memory rec r kept (Err (Form at fault)) refers is = absurd (cc is)
no_memory rec r kept (Err (Name at want got)) refers is = absurd (cc is)
no_memory rec r kept (Err Memory) refers is = refers

-- ---- of one that was kept

pub record Known (kept : Option Record) (r : Ref) (answer : Result (Unit {0}) FetchFault) : Type 0 where
  pub rec : Record
  pub is : kept ≡ Some rec
  pub fits : Fits newest_version rec
  pub refers : Refers rec r (answer_of rec answer)

pub known_is : (kept : Option Record) (r : Ref) (answer : Result (Unit {0}) FetchFault) → IsKnown kept r (Some answer) → Known kept r answer
known_is None r answer known = absurd known
known_is (Some rec) r answer known = record { rec = rec; is = refl; fits = known.0; refers = known.1 }

again_is : (kept : Option Record) (rec : Record) → kept ≡ Some rec → (answer : Result (Unit {0}) FetchFault) → brought kept (found_again answer) ≡ answer_of rec answer
again_is kept rec is (Ok u) = ap (λ (o : Option Record). brought o (Ok None)) is
again_is kept rec is (Err fault) = refl

module _ (told : Told) (old new : SpaceView) (r : Ref) (answer : Result (Unit {0}) FetchFault) (result : Found) (is : result ≡ found_again answer)
    (stays : kept_at r.at new.kept ≡ kept_at r.at old.kept) (known : Known (kept_at r.at old.kept) r answer) where
  again_refers : Refers known.rec r (brought (kept_at r.at new.kept) result)
  again_refers = subst (Refers known.rec r) (sym (ap (brought (kept_at r.at new.kept)) is ∙ again_is (kept_at r.at new.kept) known.rec (stays ∙ known.is) answer)) known.refers

  pub again_brings : (tells : Bool) → Brings tells told old r (kept_at r.at new.kept) result
  again_brings tells = brings_by tells told old r (kept_at r.at new.kept) result known.rec known.fits
      (λ t readable. read_as_some (read_at told old r.at) known.rec (sym (record_there told old r.at) ∙ kept_stands (records_of told old) old.kept readable.kept r.at known.rec known.is)) again_refers

  pub again_known : (rec : Record) → kept_at r.at old.kept ≡ Some rec → Refers rec r (brought (kept_at r.at new.kept) result)
  again_known rec there =
      let same : known.rec ≡ rec = cc (sym known.is ∙ there) in
      subst (λ (x : Record). Refers x r (brought (kept_at r.at new.kept) result)) same again_refers

  pub again_no_ground : IsErrOf result Ground → ⊥
  again_no_ground = no_ground known.rec r (kept_at r.at new.kept) result again_refers

pub again_reads : (told now : Told) → ChangesOnly NoFile told now → (old new : SpaceView) → new.layout ≡ old.layout → new.runs ≡ old.runs → GainsNone old.kept new.kept → OnlyReads told now old new
again_reads told now only old new layout runs none = only_reads_kept told now only old new layout runs (λ readable. current_none (records_of told old) old.kept new.kept readable.kept none)

-- none is known where none is kept
pub none_known : (kept : Option Record) (r : Ref) → IsKnown kept r None → (rec : Record) → kept ≡ Some rec → ⊥
none_known kept r none rec some = absurd (cc (sym none ∙ some))

-- ---- of one that was read

because_err : (read : Result (Record × ℕ) RecordFault) (fault : FetchFault) → ReadsOne read (Err fault) → IsBecause read (Err fault)
because_err read Ground is = tt
because_err read (Form at fault) is = sym (ap form_fault is)
because_err read (Name at want got) is = tt
because_err read Memory is = tt

blames_err : (r : Ref) (fault : FetchFault) → BlamesPlace {A = Record × ℕ} r.at (Err fault) → Blames r (Err fault)
blames_err r Ground is = tt
blames_err r (Form at fault) is = is
blames_err r (Name at want got) is = absurd is
blames_err r Memory is = tt

pub misses : (tells : Bool) (told : Told) (space : SpaceView) (r : Ref) (kept : Option Record) (fault : FetchFault) → (IsTrue tells → IsReadable told space → ReadsOne (read_at told space r.at) (Err fault))
    → BlamesPlace {A = Record × ℕ} r.at (Err fault) → Brings tells told space r kept (Err fault)
misses tells told space r kept fault because blames = record {
  found = λ t readable. fetched_err (records_of told space) r.at (read_at told space r.at) (record_there told space r.at) r refl fault (because t readable) blames;
  because = λ t readable. because_err (read_at told space r.at) fault (because t readable);
  here = tt;
  blames = blames_err r fault blames;
  meets = tt;
  bounds = tt;
}

module _ (told now : Told) (old mid new : SpaceView) (r : Ref) (rec : Record) (n : ℕ) where
  pub new_brings : (tells : Bool) (result : Found) → Fits newest_version rec → (IsTrue tells → IsReadable told old → read_at told old r.at ≡ Ok (rec, n)) → Refers rec r (brought (kept_at r.at new.kept) result)
      → Brings tells told old r (kept_at r.at new.kept) result
  new_brings tells result fits read refers = brings_by tells told old r (kept_at r.at new.kept) result rec fits (λ t readable. record { length = n; is = read t readable }) refers

  pub new_reads : OnlyReads told now old mid → mid.kept ≡ old.kept → (IsReadable told old → read_at told old r.at ≡ Ok (rec, n)) → new.layout ≡ mid.layout → new.runs ≡ mid.runs → GainsAtMost r.at rec mid.kept new.kept
      → (after : Told) → ChangesOnly NoFile now after → OnlyReads told after old new
  new_reads reads same read layout runs gains after only = only_reads_kept told after (changes_nothing_on told now after reads.only only) old new (layout ∙ reads.layout) (runs ∙ reads.runs)
      (λ readable. current_one (records_of told old) old.kept new.kept readable.kept r.at rec (subst (λ (k : List (ℕ × Record)). GainsAtMost r.at rec k new.kept) same gains)
      (record_there told old r.at ∙ ap record_read (read readable)))

-- ---- of a copy

pub copied_known : (rec : Record) (r : Ref) (kept : Option Record) (result : Answer) → Refers rec r (brought kept (Ok None)) → MatchResult result (λ x. kept ≡ Some x) (λ fault. fault ≡ Memory) → IsFoundOf rec r result
copied_known rec r kept (Ok x) refers is = inl (subst (λ (k : Option Record). Refers rec r (brought k (Ok None))) is refers)
copied_known rec r (Some x) (Err fault) refers is = inr (ap Err is, refers.1)
copied_known rec r None (Err fault) refers is = absurd refers

-- a fault says the same of either answer
pub spared_so : (fault : FetchFault) → (TellsDamage {A = Record} (Err fault) → ⊥) → TellsDamage {A = Option Record} (Err fault) → ⊥
spared_so Ground none tells = tells
spared_so (Form at fault) none tells = none tells
spared_so (Name at want got) none tells = none tells
spared_so Memory none tells = tells
