-- How a check goes on, over what is told.
--     over_later, found_later      what is told of its files stays over calls that change no file
--     goes_on, keeps_on      two steps.      says_of, advances_of      what an answer says behind them
--     goes_kept, keeping_kept      records that are kept were looked for.      goes_mapping, keeps_mapping      the mapping was compared
--     goes_stretch, keeps_stretch      a stretch was.      goes_end, keeps_end      the end of the prefix was
use Rattle.std.proofs.Common.{◌≡◌, ℕ, zero, suc, ◌+◌, ◌<◌, ◌≤◌, List, refl, sym, ap, subst, ◌∙◌, length, take, drop, map, arith}
use Rattle.std.specs.Prelude.{Option, Some, None, Result, Ok, Err, IfOk, IfSome, IsErrOf}
use Rattle.std.proofs.Math.Seq.{take-add}
use Rattle.std.proofs.lemmas.List.{take_all, length-drop}
use Rattle.std.proofs.lemmas.List.Sums.{sum_by-append, sum_by-take-le}
use Rattle.ip_ground.specs.declared.names.FileName.TheVariants.{Mapping, Prefix}
use Rattle.ip_ground.specs.Contents.{Image}
use Rattle.ip_ground.specs.Told.{Told, NoFile, ChangesOnly}
use Rattle.ip_spec.specs.Path.{Bytes}
use Rattle.ip_spec.specs.TreeAt.{Records}
use Rattle.ip_spec.specs.declared.record.Record.{Record}
use Rattle.ip_spec.specs.declared.reply.Difference.{Difference}
use Rattle.ip_spec.specs.declared.reply.Produced.{Produced}
use Rattle.ip_spec.specs.declared.reply.Seen.{Seen}
use Rattle.ip_spawn.specs.declared.job.Job.{Job}
use Rattle.ip_image.specs.declared.run.Run.{Run}
use Rattle.ip_image.specs.Collection.{Pair, Found, IsValid, IsKept, runs_of, kept_bytes, difference, first_of}
use Rattle.ip_image.specs.Standing.{RunByRun}
use Rattle.ip_image.specs.Virtual.{mapping_bytes, total}
use Rattle.ip_image.proofs.PairLaws.{Has, has_from, contains_from, same_kept}
use Rattle.ip_image.proofs.StoredLaws.{runs_stand}
use Rattle.ip_space.specs.SpaceView.{SpaceView, IsReadable, byte_at, stretches_of}
use Rattle.ip_space.proofs.Stayed.{byte_stays, readable_stays}
use Rattle.ip_space.proofs.StoodBytes.{alike}
use Rattle.ip_keep.specs.declared.fault.KeepFault.{KeepFault}
use Rattle.ip_keep.specs.KeepView.{KeepView}
use Rattle.ip_keep.specs.Keeping.{IsKeep, IsKeeping, IsThrough, LooksUpTo, SameWork}
use Rattle.ip_keep.specs.Runs.{joined}
use Rattle.ip_keep.specs.Whole.{AreRecords, run_at}
use Rattle.ip_keep.proofs.LeastSet.{keeps_all}
use Rattle.ip_check.specs.declared.check.Outcome.{Outcome}
use Rattle.ip_check.specs.declared.check.Stage.{Stage}
use Rattle.ip_check.specs.declared.fault.CheckFault.{CheckFault}
use Rattle.ip_check.specs.declared.prefix.Stretch.{Stretch}
use Rattle.ip_check.specs.Alike.{IsByteOf, IsEndOf, IsSoFar, SaysAlike, SaysEnd}
use Rattle.ip_check.specs.CheckView.{CheckView}
use Rattle.ip_check.specs.Checking.{Advances, EndsAs, HasReached, IsAtStage, IsCheck, IsChecking, IsComparing, IsFixed, IsVerdict, HasCompared, Reaches, SameCheck, Says, looked_by}
use Rattle.ip_check.specs.Faults.{IsUndamaged}
use Rattle.ip_check.specs.Going.{Goes, HasNext, IsOpen, IsOver, KeepsTrue, found_of, next_stage}
use Rattle.ip_check.specs.Stretching.{IsStretch}
use Rattle.ip_check.proofs.KeptBytes.{Piece, piece_at, bytes_total}
use Rattle.ip_check.proofs.Making.{so_far_none}

-- ---- over calls that change no file

pub over_later : (a b : Told) (records : Records) (c : CheckView) → ChangesOnly NoFile a b → IsOver a records c → IsOver b records c
over_later a b records c only over = record {
  readable = readable_stays a b only c.keep.space over.readable;
  fixed = record {
    mapping = (only.others (Mapping c.job.attempt) (λ none. none)).own over.fixed.mapping;
    prefix = (only.others (Prefix c.job.attempt) (λ none. none)).own over.fixed.prefix;
  };
  whole = record {
    rows = over.whole.rows;
    whole = subst (λ (f : ℕ → Option ℕ). RunByRun f (stretches_of c.keep.space) records) (sym (alike (byte_at a c.keep.space) (byte_at b c.keep.space) (byte_stays a b only c.keep.space over.readable))) over.whole.whole;
    bounds = over.whole.bounds;
    closed = over.whole.closed;
    above = over.whole.above;
    below = over.whole.below;
    here = over.whole.here;
  };
}

pub found_later : (a b : Told) (c : CheckView) → ChangesOnly NoFile a b → IsFixed a c.job → found_of b c ≡ found_of a c
found_later a b c only fixed = λ i. record {
  mapping = (only.others (Mapping c.job.attempt) (λ none. none)).held fixed.mapping i;
  prefix = (only.others (Prefix c.job.attempt) (λ none. none)).held fixed.prefix i;
}

over_moved : (told : Told) (records : Records) (c d : CheckView) → SameCheck c d → IsOver told records c → IsOver told records d
over_moved told records c d same over = record {
  readable = subst (λ (s : SpaceView). IsReadable told s) (sym same.space) over.readable;
  fixed = subst (IsFixed told) (sym same.job) over.fixed;
  whole = subst (λ (h : ℕ). AreRecords told.held d.keep.space h records) (sym same.horizon) (subst (λ (s : SpaceView). AreRecords told.held s c.keep.horizon records) (sym same.space) over.whole);
}

found_moved : (told : Told) (c d : CheckView) → SameCheck c d → found_of told d ≡ found_of told c
found_moved told c d same = ap (λ (j : Job). found_of told (record d { job = j })) same.job

-- ---- steps

pub goes_on : (m n k : ℕ) (c d e : CheckView) → Goes m c d → Goes n d e → looked_by d + n ≤ looked_by c + k → Goes k c e
goes_on m n k c d e one two fits = record {
  check = two.check;
  same = record { job = two.same.job ∙ one.same.job; space = two.same.space ∙ one.same.space; horizon = two.same.horizon ∙ one.same.horizon };
  low = let a = one.low in let b = two.low in omega (arith, a, b);
  high = let a = two.high in omega (arith, a, fits);
}

pub undone : {A : Type 0} (x : A) (at : ℕ) → IsErrOf {T = A} {E = CheckFault} (Ok x) (CheckFault.Damaged at) → ⊥
undone x at e = cc

pub keeps_on : {A B : Type 0} (a b : Told) (m : ℕ) (c d e : CheckView) (r : Result A CheckFault) (s : Result B CheckFault) → ChangesOnly NoFile a b → Goes m c d → KeepsTrue a c d r → KeepsTrue b d e s → KeepsTrue a c e s
keeps_on a b m c d e r s only goes one two records over keeping =
    let first = one records over keeping in
    let second = two records (over_moved b records c d goes.same (over_later a b records c only over)) (subst (λ (f : Found). IsChecking records f d) (sym same) first.0) in
    (subst (λ (f : Found). IsChecking records f e) same second.0, second.1)
  where
    same : found_of b d ≡ found_of a c
    same = found_moved b c d goes.same ∙ found_later a b c only over.fixed

same_err : {A : Type 0} (x y : CheckFault) → ◌≡◌ {A = Result A CheckFault} (Err x) (Err y) → x ≡ y
same_err x y e = cc

-- damage is the same, whatever an answer would have been
pub blamed_as : {A B : Type 0} (fault : CheckFault) (at : ℕ) → IsErrOf {T = A} {E = CheckFault} (Err fault) (CheckFault.Damaged at) → IsErrOf {T = B} {E = CheckFault} (Err fault) (CheckFault.Damaged at)
blamed_as fault at e = ap (λ (f : CheckFault). Err f) (same_err fault (CheckFault.Damaged at) e)

pub undamaged_as : {A B : Type 0} (fault : CheckFault) → IsUndamaged {A = A} (Err fault) → IsUndamaged {A = B} (Err fault)
undamaged_as fault whole at e = whole at (ap (λ (f : CheckFault). Err f) (same_err fault (CheckFault.Damaged at) e))

pub says_of : (records : Records) (found : Found) (c : CheckView) (job : Job) (o : Outcome) → c.job ≡ job → IsChecking records found c → (o ≡ Outcome.Valid → c.stage ≡ Stage.Through None)
    → ((d : Difference) → o ≡ Outcome.Differs d → c.stage ≡ Stage.Through (Some d)) → Says records job found (Ok o)
says_of records found c job Outcome.More same keeping valid differs = tt
says_of records found c job Outcome.Valid same keeping valid differs = subst (λ (j : Job). IsVerdict records j found None) same (subst (HasCompared records c.job found) (valid refl) keeping.compared)
says_of records found c job (Outcome.Differs d) same keeping valid differs = subst (λ (j : Job). IsVerdict records j found (Some d)) same (subst (HasCompared records c.job found) (differs d refl) keeping.compared)

pub advances_of : (most left : ℕ) (c d e : CheckView) (o : Outcome) → looked_by c ≤ looked_by d → looked_by d + left ≡ looked_by c + most → looked_by d ≤ looked_by e → looked_by e ≤ looked_by d + left
    → (IsOpen e.stage → looked_by e ≡ looked_by d + left) → (o ≡ Outcome.More → IsOpen e.stage) → (o ≡ Outcome.Valid → e.stage ≡ Stage.Through None) → ((x : Difference) → o ≡ Outcome.Differs x → e.stage ≡ Stage.Through (Some x))
    → Advances most c e (Ok o)
advances_of most left c d e o one sum two high all more valid differs = record {
  low = omega (arith, one, two);
  high = omega (arith, sum, high);
  more = λ is. let looked = all (more (same is)) in omega (arith, looked, sum);
  ends = ends o refl;
}
  where
    same : ◌≡◌ {A = Result Outcome CheckFault} (Ok o) (Ok Outcome.More) → o ≡ Outcome.More
    same is = cc is

    ends : (x : Outcome) → o ≡ x → EndsAs e (Ok x)
    ends Outcome.More is = more is
    ends Outcome.Valid is = valid is
    ends (Outcome.Differs x) is = differs x is

-- ---- what is kept

abbrev pub with_keep : CheckView → KeepView → CheckView
with_keep c k = record { job = c.job; keep = k; stage = c.stage; compared = c.compared }

pub goes_kept : (most : ℕ) (c : CheckView) (k : KeepView) (result : Result ℕ KeepFault) → IsCheck c → c.stage ≡ Stage.Keeping → IsKeep k → SameWork c.keep k → LooksUpTo most c.keep k result → Goes most c (with_keep c k)
goes_kept most c k result check stage keep work looks = record {
  check = record {
    job = check.job;
    keep = keep;
    horizon = work.horizon ∙ check.horizon;
    end = ap (λ (s : SpaceView). s.layout.end) work.space ∙ check.end;
    compared = omega (arith, none);
    stage = subst (IsAtStage (with_keep c k)) (sym stage) none;
    reached = subst (HasReached (with_keep c k)) (sym stage) tt;
  };
  same = record { job = refl; space = work.space; horizon = work.horizon };
  low = (by result looks).0;
  high = (by result looks).1;
}
  where
    none : c.compared ≡ 0
    none = subst (IsAtStage c) stage check.stage

    by : (r : Result ℕ KeepFault) → LooksUpTo most c.keep k r → (looked_by c ≤ looked_by (with_keep c k)) × (looked_by (with_keep c k) ≤ looked_by c + most)
    by (Ok left) (sum, few, through) = (omega (arith, sum, few), omega (arith, sum, few))
    by (Err fault) (low, high) = (omega (arith, low), omega (arith, high))

pub keeping_kept : (records : Records) (found : Found) (c : CheckView) (k : KeepView) → c.stage ≡ Stage.Keeping → IsKeeping records k → IsChecking records found (with_keep c k)
keeping_kept records found c k stage keeping = record { keep = keeping; compared = subst (HasCompared records c.job found) (sym stage) tt }

-- the records that are kept
record Kept (records : Records) (c : CheckView) : Type 0 where
  kept : Records
  each : IsKept records c.job.horizon c.job.end kept
  runs : c.keep.kept ≡ map run_at kept
  joins : joined c.keep.kept ≡ runs_of kept

the_kept : (image : Image) (records : Records) (c : CheckView) → AreRecords image c.keep.space c.keep.horizon records → IsCheck c → IsKeeping records c.keep → IsThrough c.keep → Kept records c
the_kept image records c whole check keeping through =
    let (kept, is, runs, joins) = keeps_all image records c.keep whole check.keep keeping through in
    record {
      kept = kept;
      each = subst (λ (e : ℕ). IsKept records c.job.horizon e kept) check.end (subst (λ (h : ℕ). IsKept records h c.keep.space.layout.end kept) check.horizon is);
      runs = runs;
      joins = joins;
    }

-- ---- the mapping

abbrev pub with_stage : CheckView → Stage → CheckView
with_stage c stage = record { job = c.job; keep = c.keep; stage = stage; compared = c.compared }

pub keeps_mapping : (told : Told) (c : CheckView) (runs : List Run) (d : Option Difference) → IsCheck c → IsThrough c.keep → runs ≡ c.keep.kept
    → (IsFixed told c.job → SaysEnd {E = CheckFault} Produced.Mapping (mapping_bytes c.job.horizon c.job.end (joined runs)) (told.held (Mapping c.job.attempt)) (Ok d)) → {A : Type 0} (x : A) → KeepsTrue told c (with_stage c (next_stage d 0)) (Ok x)
keeps_mapping told c runs d check through is says x records over keeping = (record { keep = keeping.keep; compared = by d told_so }, λ at e. undone x at e)
  where
    k : Kept records c
    k = the_kept told.held records c over.whole check keeping.keep through

    pair : Pair
    pair = record { mapping = mapping_bytes c.job.horizon c.job.end (runs_of k.kept); prefix = kept_bytes k.kept }

    valid : IsValid records c.job.horizon c.job.end pair
    valid = record { kept = k.kept; each = k.each; mapping = refl; prefix = refl }

    told_so : d ≡ difference Produced.Mapping pair.mapping (found_of told c).mapping
    told_so = says over.fixed ∙ ap (λ (l : List Run). difference Produced.Mapping (mapping_bytes c.job.horizon c.job.end l) (told.held (Mapping c.job.attempt))) (ap joined is ∙ k.joins)

    by : (d : Option Difference) → d ≡ difference Produced.Mapping pair.mapping (found_of told c).mapping → HasCompared records c.job (found_of told c) (next_stage d 0)
    by None e = record { pair = pair; valid = valid; mapping = sym e; prefix = so_far_none pair.prefix (found_of told c).prefix }
    by (Some d) e = record { pair = pair; valid = valid; difference = ap (λ (o : Option Difference). first_of o (difference Produced.Prefix pair.prefix (found_of told c).prefix)) e }

pub goes_mapping : (most : ℕ) (c : CheckView) (k : KeepView) (d : Option Difference) → IsCheck c → c.stage ≡ Stage.Keeping → Goes most c (with_keep c k) → IsThrough k → IfSome d (λ x. x.file ≡ Produced.Mapping)
    → Goes most c (with_stage (with_keep c k) (next_stage d 0))
goes_mapping most c k d check stage goes through differs = record {
  check = record {
    job = goes.check.job;
    keep = goes.check.keep;
    horizon = goes.check.horizon;
    end = goes.check.end;
    compared = goes.check.compared;
    stage = staged d;
    reached = reached d differs;
  };
  same = record { job = goes.same.job; space = goes.same.space; horizon = goes.same.horizon };
  low = goes.low;
  high = goes.high;
}
  where
    none : c.compared ≡ 0
    none = subst (IsAtStage c) stage check.stage

    staged : (d : Option Difference) → IsAtStage (with_stage (with_keep c k) (next_stage d 0)) (next_stage d 0)
    staged None = (through, ap (λ (n : ℕ). total (take n k.kept)) (sym none))
    staged (Some x) = through

    reached : (d : Option Difference) → IfSome d (λ x. x.file ≡ Produced.Mapping) → HasReached (with_stage (with_keep c k) (next_stage d 0)) (next_stage d 0)
    reached None tells = tt
    reached (Some x) tells = subst (λ (f : Produced). Reaches (with_stage (with_keep c k) (next_stage (Some x) 0)) f x.want x.at) (sym tells) none

-- ---- a stretch of the prefix

abbrev pub behind_stretch : CheckView → Option Difference → ℕ → Stretch → CheckView
behind_stretch c d place s = record { job = c.job; keep = c.keep; stage = next_stage d (place + s.length); compared = c.compared + s.records }

stage_stretch : (c : CheckView) (d : Option Difference) (place most : ℕ) (s : Stretch) → IsThrough c.keep → place ≡ total (take c.compared c.keep.kept) → IsStretch (drop c.compared c.keep.kept) most s
    → IsAtStage (behind_stretch c d place s) (next_stage d (place + s.length))
stage_stretch c None place most s through here st = (
  through,
  (let a = ap total (take-add c.compared s.records c.keep.kept) in
      let b = sum_by-append (λ (r : Run). r.length) (take c.compared c.keep.kept) (take s.records (drop c.compared c.keep.kept)) in
      let long = st.length in omega (arith, a, b, here, long)),
)
stage_stretch c (Some d) place most s through here st = through

reached_byte : (c : CheckView) (place n : ℕ) (d : Difference) → IsByteOf Produced.Prefix place n d → place + n ≤ total (take c.compared c.keep.kept) → Reaches c d.file d.want d.at
reached_byte c place n d byte inside =
    let below = byte.high in
    subst (λ (f : Produced). Reaches c f d.want d.at) (sym byte.file) (subst (λ (w : Seen). Reaches c Produced.Prefix w d.at) (sym byte.want.1) (omega (arith, below, inside)))

reached_stretch : (c : CheckView) (d : Option Difference) (place most : ℕ) (s : Stretch) → place ≡ total (take c.compared c.keep.kept) → IsStretch (drop c.compared c.keep.kept) most s → IfSome d (IsByteOf Produced.Prefix place s.length)
    → HasReached (behind_stretch c d place s) (next_stage d (place + s.length))
reached_stretch c None place most s here st differs = tt
reached_stretch c (Some d) place most s here st differs =
    reached_byte (behind_stretch c (Some d) place s) place s.length d differs
    (let a = ap total (take-add c.compared s.records c.keep.kept) in
    let b = sum_by-append (λ (r : Run). r.length) (take c.compared c.keep.kept) (take s.records (drop c.compared c.keep.kept)) in
    let long = st.length in omega (arith, a, b, here, long))

pub goes_stretch : (c : CheckView) (d : Option Difference) (place most : ℕ) (s : Stretch) → IsCheck c → c.stage ≡ Stage.Comparing place → IsStretch (drop c.compared c.keep.kept) most s → IfSome d (IsByteOf Produced.Prefix place s.length)
    → Goes most c (behind_stretch c d place s)
goes_stretch c d place most s check stage st differs =
    let at : IsAtStage c (Stage.Comparing place) = subst (IsAtStage c) stage check.stage in
    let within = st.within in
    let few = st.few in
    let long = length-drop c.compared c.keep.kept in
    let before = check.compared in
    record {
      check = record {
        job = check.job;
        keep = check.keep;
        horizon = check.horizon;
        end = check.end;
        compared = omega (arith, within, long, before);
        stage = stage_stretch c d place most s at.0 at.1 st;
        reached = reached_stretch c d place most s at.1 st differs;
      };
      same = record { job = refl; space = refl; horizon = refl };
      low = omega arith;
      high = omega (arith, few);
    }

pub place_fits : (c : CheckView) (place most : ℕ) (s : Stretch) → IsCheck c → c.stage ≡ Stage.Comparing place → IsStretch (drop c.compared c.keep.kept) most s → place + s.length ≤ total c.keep.kept
place_fits c place most s check stage st =
    let at : IsAtStage c (Stage.Comparing place) = subst (IsAtStage c) stage check.stage in
    let here = at.1 in
    let a = ap total (take-add c.compared s.records c.keep.kept) in
    let b = sum_by-append (λ (r : Run). r.length) (take c.compared c.keep.kept) (take s.records (drop c.compared c.keep.kept)) in
    let e = sum_by-take-le (λ (r : Run). r.length) c.keep.kept (c.compared + s.records) in
    let long = st.length in
    omega (arith, a, b, e, here, long)

-- what a stretch is to be compared with
pub record IsNext (told : Told) (records : Records) (c : CheckView) (place : ℕ) (s : Stretch) : Type 0 where
  pub comparing : IsComparing records c.job (found_of told c) place
  pub piece : Piece (byte_at told c.keep.space) comparing.pair.prefix place s

pub is_next : (told : Told) (records : Records) (c : CheckView) (place most : ℕ) (s : Stretch) → IsCheck c → c.stage ≡ Stage.Comparing place → IsStretch (drop c.compared c.keep.kept) most s
    → IsOver told records c → IsChecking records (found_of told c) c → IsNext told records c place s
is_next told records c place most s check stage st over keeping =
    let at : IsAtStage c (Stage.Comparing place) = subst (IsAtStage c) stage check.stage in
    let comparing : IsComparing records c.job (found_of told c) place = subst (HasCompared records c.job (found_of told c)) stage keeping.compared in
    let k = the_kept told.held records c over.whole check keeping.keep at.0 in
    let bytes : comparing.pair.prefix ≡ kept_bytes k.kept = comparing.valid.prefix ∙ ap kept_bytes (same_kept records c.job.horizon c.job.end comparing.valid.kept k.kept comparing.valid.each k.each) in
    record {
      comparing = comparing;
      piece = subst (λ (w : Bytes). Piece (byte_at told c.keep.space) w place s) (sym bytes)
          (piece_at (byte_at told c.keep.space) k.kept c.keep.kept c.compared most place s (λ x has. runs_stand (byte_at told c.keep.space) (stretches_of c.keep.space) records over.whole.whole x (here k x has)) k.runs at.1 st);
    }
  where
    here : (k : Kept records c) (x : ℕ × Record) → Has k.kept x → Has records x
    here k x has = let (i, l, e) = ((k.each.each x).0 (contains_from k.kept x has)).0 in has_from records x i l e

pub keeps_stretch : (told : Told) (records : Records) (c : CheckView) (place : ℕ) (s : Stretch) (d : Option Difference) → IsChecking records (found_of told c) c → (n : IsNext told records c place s)
    → SaysAlike {E = CheckFault} Produced.Prefix n.comparing.pair.prefix (found_of told c).prefix (place + s.length) (Ok d) → IsChecking records (found_of told c) (behind_stretch c d place s)
keeps_stretch told records c place s d keeping n says = record { keep = keeping.keep; compared = by d says }
  where
    by : (d : Option Difference) → SaysAlike {E = CheckFault} Produced.Prefix n.comparing.pair.prefix (found_of told c).prefix (place + s.length) (Ok d) → HasCompared records c.job (found_of told c) (next_stage d (place + s.length))
    by None says = record { pair = n.comparing.pair; valid = n.comparing.valid; mapping = n.comparing.mapping; prefix = says }
    by (Some d) says = record {
      pair = n.comparing.pair;
      valid = n.comparing.valid;
      difference = sym (ap (λ (o : Option Difference). first_of o (difference Produced.Prefix n.comparing.pair.prefix (found_of told c).prefix)) n.comparing.mapping ∙ says);
    }

pub alike_turned : (E F : Type 0) (file : Produced) (want : Bytes) (got other : Option Bytes) (n m : ℕ) (d : Option Difference) → got ≡ other → n ≡ m → SaysAlike {E = E} file want got n (Ok d) → SaysAlike {E = F} file want other m (Ok d)
alike_turned E F file want got other n m None same place says = subst (λ (o : Option Bytes). IsSoFar want o m) same (subst (λ (k : ℕ). IsSoFar want got k) place says)
alike_turned E F file want got other n m (Some d) same place says = subst (λ (o : Option Bytes). difference file want o ≡ Some d) same says

-- behind the last step there is a verdict, or as many records were looked at as were asked for
pub all_looked : (A : Type 0) (most left : ℕ) (c d e : CheckView) (result : Result A CheckFault) → looked_by d + left ≡ looked_by c + most → (d.stage ≡ Stage.Keeping → left ≡ 0) → ((place : ℕ) → ¬ HasNext left d place) → Goes 0 d e
    → (IsOpen e.stage → e ≡ d) → IfOk result (λ _. (place : ℕ) → e.stage ≡ Stage.Comparing place → e.compared < length e.keep.kept) → IfOk result (λ _. IsOpen e.stage → looked_by e ≡ looked_by c + most)
all_looked A most left c d e (Err fault) exact found none goes same all = tt
all_looked A most left c d e (Ok x) exact found none goes same all = λ still.
    let zero = by (same still) still d.stage refl in
    let low = goes.low in
    let high = goes.high in
    omega (arith, exact, zero, low, high)
  where
    some_left : (n : ℕ) → left ≡ n → (1 ≤ left → ⊥) → left ≡ 0
    some_left zero e none = e
    some_left (suc n) e none = absurd (none (omega (arith, e)))

    by : e ≡ d → IsOpen e.stage → (s : Stage) → d.stage ≡ s → left ≡ 0
    by is still Stage.Keeping at = found at
    by is still (Stage.Comparing place) at = some_left left refl (λ some. none place (record {
      some = some;
      stage = at;
      more = subst (λ (w : CheckView). w.compared < length w.keep.kept) is (all place (ap (λ (w : CheckView). w.stage) is ∙ at));
    }))
    by is still (Stage.Through told) at = absurd (still told (ap (λ (w : CheckView). w.stage) is ∙ at))

-- ---- the end of the prefix

reached_end : (c : CheckView) (d : Option Difference) → c.compared ≡ length c.keep.kept → IfSome d (IsEndOf Produced.Prefix) → HasReached (with_stage c (Stage.Through d)) (Stage.Through d)
reached_end c None all ends = all
reached_end c (Some d) all ends = subst (λ (f : Produced). Reaches c f d.want d.at) (sym ends.file) (subst (λ (w : Seen). Reaches c Produced.Prefix w d.at) (sym ends.want) all)

pub goes_end : (c : CheckView) (d : Option Difference) (place : ℕ) → IsCheck c → c.stage ≡ Stage.Comparing place → length c.keep.kept ≤ c.compared → IfSome d (IsEndOf Produced.Prefix) → Goes 0 c (with_stage c (Stage.Through d))
goes_end c d place check stage all ends = record {
  check = record {
    job = check.job;
    keep = check.keep;
    horizon = check.horizon;
    end = check.end;
    compared = check.compared;
    stage = let at : IsAtStage c (Stage.Comparing place) = subst (IsAtStage c) stage check.stage in at.0;
    reached = reached_end c d (let before = check.compared in omega (arith, all, before)) ends;
  };
  same = record { job = refl; space = refl; horizon = refl };
  low = omega arith;
  high = omega arith;
}

pub keeps_end : (told : Told) (c : CheckView) (d : Option Difference) (place : ℕ) → IsCheck c → c.stage ≡ Stage.Comparing place → length c.keep.kept ≤ c.compared
    → (IsFixed told c.job → (whole : Bytes) → length whole ≡ place → IsSoFar whole (told.held (Prefix c.job.attempt)) place → SaysEnd {E = CheckFault} Produced.Prefix whole (told.held (Prefix c.job.attempt)) (Ok d))
    → {A : Type 0} (x : A) → KeepsTrue told c (with_stage c (Stage.Through d)) (Ok x)
keeps_end told c d place check stage all says x records over keeping = (record { keep = keeping.keep; compared = verdict }, λ at e. undone x at e)
  where
    at : IsAtStage c (Stage.Comparing place)
    at = subst (IsAtStage c) stage check.stage

    comparing : IsComparing records c.job (found_of told c) place
    comparing = subst (HasCompared records c.job (found_of told c)) stage keeping.compared

    k : Kept records c
    k = the_kept told.held records c over.whole check keeping.keep at.0

    long : length comparing.pair.prefix ≡ place
    long =
        ap length (comparing.valid.prefix ∙ ap kept_bytes (same_kept records c.job.horizon c.job.end comparing.valid.kept k.kept comparing.valid.each k.each))
        ∙ sym (bytes_total k.kept) ∙ ap total (sym k.runs) ∙ ap total (sym (take_all c.compared c.keep.kept all)) ∙ sym at.1

    verdict : IsVerdict records c.job (found_of told c) d
    verdict = record {
      pair = comparing.pair;
      valid = comparing.valid;
      difference = says over.fixed comparing.pair.prefix long comparing.prefix ∙ sym (ap (λ (o : Option Difference). first_of o (difference Produced.Prefix comparing.pair.prefix (found_of told c).prefix)) comparing.mapping);
    }
