-- The laws of records that stand.
use Rattle.std.proofs.Common.{◌≡◌, ℕ, zero, suc, ◌+◌, ◌-◌, ◌<◌, ◌≤◌, List, [], ◌∷◌, ◌++◌, length, map, refl, sym, ◌∙◌, ap, subst, arith}
use Rattle.std.specs.Prelude.{Option, Some, None, Result, Ok, Err}
use Rattle.std.specs.List.{AllByRecursion}
use Rattle.ip_ground.specs.Contents.{Image}
use Rattle.ip_spec.specs.declared.record.Record.{Record}
use Rattle.ip_spec.specs.declared.record.RecordFault.{RecordFault}
use Rattle.ip_spec.specs.Path.{Bytes}
use Rattle.ip_spec.specs.Record.{Fits, spelling}
use Rattle.ip_spec.specs.Reading.{reading}
use Rattle.ip_spec.specs.TreeAt.{Records, present}
use Rattle.ip_image.specs.Slot.{newest_version, layout_of}
use Rattle.ip_image.specs.declared.run.Run.{Run}
use Rattle.ip_image.specs.Virtual.{run_of, virtual_byte, Stands}
use Rattle.ip_image.specs.Standing.{EndToEnd, RunByRun, Standing}
use Rattle.ip_image.specs.Stored.{bytes_from, record_at, record_read, stored}
use Rattle.ip_image.proofs.OneRepository.{good_fit}
use Rattle.ip_image.proofs.StoredLaws.{record_here, standing_stored}
use Rattle.ip_space.specs.SpaceView.{SpaceView, records_in, byte_in, grown, SameBelow}
use Rattle.ip_space.specs.ScanView.{ScanView}
use Rattle.ip_space.specs.Scanning.{Finds, Moves, RunsTo, at_the_end, behind, IsWalked}
use Rattle.ip_space.specs.declared.fault.FetchFault.{FetchFault}
use Rattle.ip_space.proofs.StoodBytes.{front_from}
use Rattle.ip_space.proofs.ReadFronts.{reading_enough, ok_enough}
use Rattle.ip_space.specs.declared.fault.FetchFault.TheVariants.{Ground, Form, Name, Memory}

same_some : {A : Type 0} (x y : A) → Some x ≡ Some y → x ≡ y
same_some x y e = cc

-- ---- an image that stands

pub records_stand : (image : Image) (standing : Standing image) (space : SpaceView) → space.layout ≡ layout_of standing.slot → space.runs ≡ map run_of standing.rows
    → (at : ℕ) (r : Record) → present standing.records at ≡ Some r → records_in image space at ≡ Some r
records_stand image standing space layout runs at r is =
    ap (λ l. stored image l space.runs at) layout ∙ ap (λ rs. stored image (layout_of standing.slot) rs at) runs ∙ standing_stored image standing at r is

abbrev pub AllFit : Records → Type 0
AllFit records = AllByRecursion (λ (x : ℕ × Record). Fits newest_version x.1) records

pub front_fit : (xs ys : Records) → AllFit (xs ++ ys) → AllFit xs
front_fit [] ys all = tt
front_fit (x ∷ xs) ys all = (all.0, front_fit xs ys all.1)

pub rest_fit : (xs ys : Records) → AllFit (xs ++ ys) → AllFit ys
rest_fit [] ys all = all
rest_fit (x ∷ xs) ys all = rest_fit xs ys all.1

pub record Stretch (f : ℕ → Option ℕ) (run : Run) : Type 0 where
  pub records : Records
  pub lies : EndToEnd f run.at records (run.at + run.length)
  pub fit : AllFit records

last_stretch : (f : ℕ → Option ℕ) (runs : List Run) (run : Run) (records : Records) → RunByRun f (runs ++ run ∷ []) records → AllFit records → Stretch f run
last_stretch f [] run records is fit = record { records = is.0; lies = is.3; fit = front_fit is.0 is.1 (subst AllFit is.2 fit) }
last_stretch f (r ∷ runs) run records is fit = last_stretch f runs run is.1 is.4 (rest_fit is.0 is.1 (subst AllFit is.2 fit))

ends_later : (f : ℕ → Option ℕ) (xs : Records) (from to : ℕ) → EndToEnd f from xs to → from ≤ to
ends_later f [] from to is = omega arith
ends_later f (x ∷ xs) from to is = let l = ends_later f xs (from + length (spelling x.1)) to is.2 in omega (arith, l)

pub runs_along : (f : ℕ → Option ℕ) (end : ℕ) (xs : Records) (from to : ℕ) → EndToEnd f from xs to → AllFit xs → to ≤ end → RunsTo (record_at f end) from to
runs_along f end [] from to is fit le = subst (λ (n : ℕ). RunsTo (record_at f end) n to) (sym is) at_the_end
runs_along f end (x ∷ xs) from to is fit le =
    let l = ends_later f xs (from + length (spelling x.1)) to is.2 in
    behind x.1 (record_here f from end x.1 fit.0 is.1 (omega (arith, l, le))) (runs_along f end xs (from + length (spelling x.1)) to is.2 fit.1 le)

pub runs_stand : (image : Image) (standing : Standing image) (space : SpaceView) → space.layout ≡ layout_of standing.slot → space.runs ≡ map run_of standing.rows
    → RunsTo (records_in image space) standing.slot.horizon standing.slot.end
unfolding stored
runs_stand image standing space layout runs =
    subst (λ rs. RunsTo (stored image space.layout rs) standing.slot.horizon standing.slot.end) (sym runs)
    (subst (λ l. RunsTo (stored image l (map run_of standing.rows)) standing.slot.horizon standing.slot.end) (sym layout) here)
  where
    version : standing.slot.version ≡ newest_version
    version = let low = standing.live.fields.version_low in let high = standing.live.fields.version_high in omega (arith, low, high)

    f : ℕ → Option ℕ
    f = virtual_byte image (layout_of standing.slot) (map run_of standing.rows)

    last : Run
    last = record { at = standing.slot.horizon; length = standing.slot.end - standing.slot.horizon }

    stretch : Stretch f last
    stretch = last_stretch f (map run_of standing.rows) last standing.records standing.whole
        (subst (λ (v : ℕ). AllByRecursion (λ (x : ℕ × Record). Fits v x.1) standing.records) version (good_fit standing.slot [] standing.records standing.good))

    to_end : standing.slot.horizon + (standing.slot.end - standing.slot.horizon) ≡ standing.slot.end
    to_end = let h = standing.live.fields.horizon in omega (arith, h)

    here : RunsTo (record_at f standing.slot.end) standing.slot.horizon standing.slot.end
    here = subst (λ (n : ℕ). RunsTo (record_at f standing.slot.end) standing.slot.horizon n) to_end
        (runs_along f standing.slot.end stretch.records standing.slot.horizon (standing.slot.horizon + (standing.slot.end - standing.slot.horizon)) stretch.lies stretch.fit (omega (arith, to_end)))

-- ---- records end to end

runs_later : (records : ℕ → Option Record) (from to : ℕ) → RunsTo records from to → from ≤ to
runs_later records from to at_the_end = omega arith
runs_later records from to (behind found is rest) = let l = runs_later records (from + length (spelling found)) to rest in omega (arith, l)

-- behind a record that stands, the others lie
goes_on : (records : ℕ → Option Record) (from to : ℕ) (found : Record) → RunsTo records from to → from < to → records from ≡ Some found → RunsTo records (from + length (spelling found)) to
goes_on records from to found at_the_end less is = absurd (omega (arith, less))
goes_on records from to found (behind other there rest) less is =
    let same : other ≡ found = same_some other found (sym there ∙ is) in
    subst (λ (x : Record). RunsTo records (from + length (spelling x)) to) same rest

some_there : (records : ℕ → Option Record) (from to : ℕ) → RunsTo records from to → from < to → records from ≡ None → ⊥
some_there records from to at_the_end less none = omega (arith, less)
some_there records from to (behind other there rest) less none = cc (there, none)

pub is_walked : (records : ℕ → Option Record) (old new : ScanView) (result : Result (Option (ℕ × Record)) FetchFault) → RunsTo records old.next old.to → Moves old new result → Finds records old.next result
    → IsWalked records old new result
is_walked records old new (Ok None) runs moves finds = let l = runs_later records old.next old.to runs in let m = moves.0 in omega (arith, l, m)
is_walked records old new (Ok (Some (at, found))) runs moves finds =
    let next : old.next + length (spelling found) ≡ new.next = ap (λ (n : ℕ). n + length (spelling found)) (sym moves.place) ∙ sym moves.next in
    subst (λ (n : ℕ). RunsTo records n new.to) next (subst (λ (n : ℕ). RunsTo records (old.next + length (spelling found)) n) (sym moves.to) (goes_on records old.next old.to found runs moves.more finds))
is_walked records old new (Err Ground) runs moves finds = subst (λ (n : ℕ). RunsTo records n new.to) (sym moves.1.next) (subst (λ (n : ℕ). RunsTo records old.next n) (sym moves.1.to) runs)
is_walked records old new (Err (Form at fault)) runs moves finds = some_there records old.next old.to runs moves.0 finds
is_walked records old new (Err (Name at want got)) runs moves finds = finds
is_walked records old new (Err Memory) runs moves finds = subst (λ (n : ℕ). RunsTo records n new.to) (sym moves.1.next) (subst (λ (n : ℕ). RunsTo records old.next n) (sym moves.1.to) runs)

-- ---- more bytes

stand_step : (f : ℕ → Option ℕ) (at n : ℕ) → Stands f (suc at) (bytes_from f (suc at) n) → (o : Option ℕ) → f at ≡ o → Stands f at (elim o [ None ↦ [] | Some b ↦ b ∷ bytes_from f (suc at) n ])
stand_step f at n deep None is k below = absurd (omega (arith, below))
stand_step f at n deep (Some b) is zero below = (let e : at + 0 ≡ at = omega arith in ap f e) ∙ is
stand_step f at n deep (Some b) is (suc k) below = (let e : at + suc k ≡ suc at + k = omega arith in ap f e) ∙ deep k (omega (arith, below))

bytes_stand : (f : ℕ → Option ℕ) (at n : ℕ) → Stands f at (bytes_from f at n)
bytes_stand f at zero = λ k below. absurd (omega (arith, below))
bytes_stand f at (suc n) = stand_step f at n (bytes_stand f (suc at) n) (f at) refl

few_step : (f : ℕ → Option ℕ) (at n : ℕ) → length (bytes_from f (suc at) n) ≤ n → (o : Option ℕ) → length (elim o as (λ (x : Option ℕ). Bytes) [ None ↦ [] | Some b ↦ b ∷ bytes_from f (suc at) n ]) ≤ suc n
few_step f at n deep None = omega arith
few_step f at n deep (Some b) = omega (arith, deep)

bytes_few : (f : ℕ → Option ℕ) (at n : ℕ) → length (bytes_from f at n) ≤ n
bytes_few f at zero = omega arith
bytes_few f at (suc n) = few_step f at n (bytes_few f (suc at) n) (f at)

pub record IsReadAs (read : Result (Record × ℕ) RecordFault) (r : Record) : Type 0 where
  pub length : ℕ
  pub is : read ≡ Ok (r, length)

pub read_as_some : (read : Result (Record × ℕ) RecordFault) (r : Record) → record_read read ≡ Some r → IsReadAs read r
read_as_some (Ok found) r is = record { length = found.1; is = ap (λ (x : Record). Ok (x, found.1)) (same_some found.0 r is) }
read_as_some (Err fault) r is = absurd (cc (is))

pub record_stays : (f g : ℕ → Option ℕ) (end further : ℕ) → end ≤ further → ((at : ℕ) → at < end → g at ≡ f at) → (at : ℕ) (r : Record) → record_at f end at ≡ Some r → record_at g further at ≡ Some r
unfolding record_at
record_stays f g end further le same at r is =
    let bytes : Bytes = bytes_from f at (end - at) in
    let read = read_as_some (reading newest_version bytes) r is in
    let few = bytes_few f at (end - at) in
    let stood = bytes_stand f at (end - at) in
    let stands : Stands g at bytes = λ k below. same (at + k) (omega (arith, below, few)) ∙ stood k below in
    let front = front_from g bytes at (further - at) stands (omega (arith, few, le)) in
    let enough = ok_enough bytes (r, read.length) read.is in
    ap (λ (b : Bytes). record_read (reading newest_version b)) front.1 ∙ ap record_read (reading_enough bytes front.0 enough.0 enough.1) ∙ ap record_read read.is

pub records_kept : (old new : Image) (space : SpaceView) (end : ℕ) → space.layout.end ≤ end → SameBelow space old new
    → (at : ℕ) (r : Record) → records_in old space at ≡ Some r → records_in new (grown space end) at ≡ Some r
unfolding stored virtual_byte
records_kept old new space end further same at r is = record_stays (byte_in old space) (byte_in new space) space.layout.end end further same at r is
