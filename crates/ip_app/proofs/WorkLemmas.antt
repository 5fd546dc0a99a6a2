-- A call that collects.
--     works_as      what the collector answered, over what was told when the folder was bound.      works_refused      the folder could not be bound
--     writes_on      the files that change.      counts_work, work_falls      what is counted
--     collects_of, collects_none      the whole of the call, and where nothing was done
use Rattle.std.specs.Prelude.{◌⊎◌, IsErrOf}
use Rattle.std.proofs.Common.{◌≡◌, inl, inr, ℕ, ◌-◌, ◌^◌, ◌<◌, ◌≤◌, Bool, refl, sym, ◌∙◌, subst, arith, IsTrue, None, Some, Result, Ok, Err}
use Rattle.std.proofs.Math.Nat.{le_refl}
use Rattle.std.proofs.lemmas.Bool.{cases_lt}
use Rattle.ip_ground.specs.declared.names.FileName.{FileName}
use Rattle.ip_ground.specs.declared.names.FileName.TheVariants.{Control, Chunk, Prefix, Mapping, Done}
use Rattle.ip_ground.specs.Contents.{Content, Image}
use Rattle.ip_ground.specs.Custody as custody
use Rattle.ip_ground.specs.Custody.{Custody, IsOfAttempt}
use Rattle.ip_ground.specs.Counts.{Noted, as_nothing, as_fault, as_damage, Rose, FileFault, RemoveFault, NoneFalls, binds}
use Rattle.ip_ground.specs.Told.{Told, IsForeign, IsLoose, KeepsPast, ChangesOnly, NoFile}
use Rattle.ip_ground.proofs.Spans.{only_on, only_more, only_nowhere, lending_now}
use Rattle.ip_ground.proofs.Rising.{falls_itself}
use Rattle.ip_spec.specs.Path.{Bytes}
use Rattle.ip_spec.specs.TreeAt.{Records}
use Rattle.ip_spawn.specs.declared.job.Job.{Job}
use Rattle.ip_worker.specs.Faults.{CountsWork}
use Rattle.ip_worker.specs.Steps.{IsFree}
use Rattle.ip_worker.specs.Whole.{AreWhole}
use Rattle.ip_worker.specs.Working.{NothingLent, IsServed, WritesAttempt, Works, Refuses}
use Rattle.ip_worker.proofs.Serving.{served_on, served_back}
use Rattle.ip_worker.specs.declared.fault.WorkFault.{WorkFault}
use Rattle.ip_worker.specs.declared.worker.Counts.{Counts}
use Rattle.ip_app.specs.declared.statuses.Status.{Status}
use Rattle.ip_app.specs.declared.statuses.Status.TheVariants as status
use Rattle.ip_app.specs.Outside.{Outside, GoesOn, IsBound, IsUnasked, but_bound}
use Rattle.ip_app.specs.Working.{worked_status, WorksAs, CountsWorking, RunsJob}
use Rattle.ip_app.proofs.Counting.{risen, bound_to, bound_counts, bound_still, damage_falls, falls_bound, falls_same, file_falls, spawns_itself}

-- ---- where nothing was ever lent

none_foreign : (told : Told) → NothingLent told → (file : FileName) → ¬ IsForeign told file
none_foreign told nothing Control foreign = foreign
none_foreign told nothing (Chunk number) foreign = foreign
none_foreign told nothing (Prefix attempt) foreign = subst (λ (c : Custody). custody.IsForeign c) (nothing attempt) foreign
none_foreign told nothing (Mapping attempt) foreign = subst (λ (c : Custody). custody.IsForeign c) (nothing attempt) foreign
none_foreign told nothing (Done attempt) foreign = subst (λ (c : Custody). custody.IsForeign c) (nothing attempt) foreign

done_firm : (told : Told) → NothingLent told → (attempt : ℕ) → ¬ IsLoose told (Done attempt)
done_firm told nothing attempt loose = subst (λ (c : Custody). custody.IsLoose c (Done attempt)) (nothing attempt) loose

-- ---- behind the binding of the folder, which changes no file

module _ (job : Job) (old mid : Told) (passes : ChangesOnly NoFile old mid) where
  free_then : (attempt : ℕ) → IsFree old attempt → IsFree mid attempt
  free_then attempt free = lending_now old mid passes.goes attempt (passes.lending attempt) ∙ free

  pub writes_first : WritesAttempt job old mid
  writes_first = only_more old mid NoFile (IsOfAttempt job.attempt) (λ f h. absurd h) passes

  pub writes_on : (new : Told) → (IsFree mid job.attempt → WritesAttempt job mid new) → IsFree old job.attempt → WritesAttempt job old new
  writes_on new writes free = only_on old mid new (IsOfAttempt job.attempt) writes_first (writes (free_then job.attempt free))

  module _ (nothing : NothingLent old) (none : (content : Content) → old.may_leave old.moment (Done job.attempt) content → content ≡ None) where
    early : (t : ℕ) (content : Content) → old.moment < t → t ≤ mid.moment → mid.may_leave t (Done job.attempt) content → content ≡ None
    early t content after le left = none content ((passes.others (Done job.attempt) (λ h. h)).left (done_firm old nothing job.attempt) t content after le left)

    now : (content : Content) → mid.may_leave mid.moment (Done job.attempt) content → content ≡ None
    now content left = elim (cases_lt old.moment mid.moment) [
      | inl later ↦ early mid.moment content later (le_refl mid.moment) left
      | inr still ↦
          let same : mid.moment ≡ old.moment = omega (arith, still, passes.goes.later) in
          none content (subst (λ (t : ℕ). old.may_leave t (Done job.attempt) content) same (passes.goes.left mid.moment (Done job.attempt) content still left))
    ]

  works_first : (records : Records) → NothingLent old → Works records job (Err WorkFault.Ground) old mid
  works_first records nothing = record {
    ok = tt;
    whole = λ is. absurd (cc is);
    last = λ none pair valid t done mapping prefix after le left some in_mapping in_prefix. absurd (some (early nothing none t done after le left));
  }

  refuses_then : (new : Told) (worked : Result Counts WorkFault) → IsServed old.held job.attempt → (IsServed mid.held job.attempt → Refuses worked mid new) → Refuses worked old new
  refuses_then new worked is refuses =
      let then = refuses (served_on old mid passes job.attempt is) in
      record { undone = then.undone; only = only_on old mid new NoFile passes then.only }

  works_then : (new : Told) (records : Records) (worked : Result Counts WorkFault) → NothingLent old → AreWhole old.held job records → ¬ IsServed old.held job.attempt → (IsFree mid job.attempt → WritesAttempt job mid new)
      → ((records : Records) → AreWhole mid.held job records → NothingLent mid → ¬ IsServed mid.held job.attempt → Works records job worked mid new) → Works records job worked old new
  works_then new records worked nothing whole other writes works =
      let then_nothing : NothingLent mid = λ attempt. free_then attempt (nothing attempt) in
      let same : mid.held ≡ old.held = λ i file. (passes.others file (λ h. h)).held (none_foreign old nothing file) i in
      let w = works records (subst (λ (image : Image). AreWhole image job records) (sym same) whole) then_nothing (λ is. other (served_back old mid passes job.attempt is)) in
      let goes : KeepsPast mid new = (writes (then_nothing job.attempt)).goes in
      record {
        ok = w.ok;
        whole = w.whole;
        last = λ none pair valid t done mapping prefix after le left some in_mapping in_prefix. elim (cases_lt mid.moment t) [
          | inl late ↦ w.last (now nothing none) pair valid t done mapping prefix late le left some in_mapping in_prefix
          | inr before ↦ absurd (some (early nothing none t done after before (goes.left t (Done job.attempt) done before left)))
        ];
      }

pub works_refused : (tells : Bool) (job : Job) (old mid : Told) → (IsTrue tells → ChangesOnly NoFile old mid) → WorksAs tells job old mid status.GroundFault
works_refused tells job old mid passes = record { worked = Err WorkFault.Ground; status_is = refl; works = λ told records whole nothing other. works_first job old mid (passes told) records nothing; served = λ told is. record { undone = λ done. absurd (cc done); only = passes told }; spared = λ told nothing is. passes told }

pub works_as : (tells : Bool) (job : Job) (old mid new : Told) (s : Status) (worked : Result Counts WorkFault) → s ≡ worked_status worked → (IsTrue tells → ChangesOnly NoFile old mid) → (IsTrue tells → IsFree mid job.attempt → WritesAttempt job mid new)
    → (IsTrue tells → (records : Records) → AreWhole mid.held job records → NothingLent mid → ¬ IsServed mid.held job.attempt → Works records job worked mid new) → (IsTrue tells → IsServed mid.held job.attempt → Refuses worked mid new)
    → (IsTrue tells → NothingLent mid → IsErrOf worked WorkFault.Damaged → ChangesOnly NoFile mid new) → WorksAs tells job old new s
works_as tells job old mid new s worked e passes writes works refuses spares = record {
  worked = worked;
  status_is = e;
  works = λ told records whole nothing other. works_then job old mid (passes told) new records worked nothing whole other (writes told) (works told);
  served = λ told is. refuses_then job old mid (passes told) new worked is (refuses told);
  spared = λ told nothing is. only_on old mid new NoFile (passes told) (spares told (λ attempt. free_then job old mid (passes told) attempt (nothing attempt)) is);
}

-- ---- what is counted

-- whichever folder is bound
pub counts_work : (dir : Bytes) (worked : Result Counts WorkFault) (s : Status) (a mid b : Noted) → s ≡ worked_status worked → mid ≡ bound_to dir a → CountsWork worked mid b → CountsWorking s a b
counts_work dir worked s a mid b e same counted = subst (λ (t : Status). CountsWorking t a b) (sym e) (by_answer worked (subst (λ (n : Noted). CountsWork worked n b) same counted))
  where
    by_answer : (worked : Result Counts WorkFault) → CountsWork worked (bound_to dir a) b → CountsWorking (worked_status worked) a b
    by_answer (Ok counts) h = bound_counts dir a b as_nothing h
    by_answer (Err WorkFault.Ground) (inl h) = inl (bound_counts dir a b as_fault h)
    by_answer (Err WorkFault.Ground) (inr h) = inr (record { rose = h.rose; file_faults = h.file_faults; say_faults = h.say_faults; damages = h.damages; bound = refl })
    by_answer (Err WorkFault.Damaged) h = bound_counts dir a b as_damage h
    by_answer (Err WorkFault.Memory) h = bound_counts dir a b as_nothing h

pub bound_work : (dir : Bytes) (worked : Result Counts WorkFault) (a mid b : Noted) → mid ≡ bound_to dir a → CountsWork worked mid b → b.bound ≡ binds dir (Some dir) a.bound
bound_work dir worked a mid b same counted = by_answer worked (subst (λ (n : Noted). CountsWork worked n b) same counted)
  where
    by_answer : (worked : Result Counts WorkFault) → CountsWork worked (bound_to dir a) b → b.bound ≡ binds dir (Some dir) a.bound
    by_answer (Ok counts) h = bound_still dir a b as_nothing h
    by_answer (Err WorkFault.Ground) (inl h) = h.bound
    by_answer (Err WorkFault.Ground) (inr h) = h.bound
    by_answer (Err WorkFault.Damaged) h = h.bound
    by_answer (Err WorkFault.Memory) h = bound_still dir a b as_nothing h

fault_falls : (a b : Noted) → a.file_faults ≤ 2 ^ 64 - 1 → a.remove_faults ≤ 2 ^ 64 - 1 → FileFault a b ⊎ RemoveFault a b → NoneFalls a b
fault_falls a b files removals (inl h) = file_falls a b files h
fault_falls a b files removals (inr h) = let held = h.file_faults in let said = h.say_faults in let harmed = h.damages in
    record { file_faults = omega (arith, held); remove_faults = risen a.remove_faults b.remove_faults removals h.rose; say_faults = omega (arith, said); damages = omega (arith, harmed) }

pub work_falls : (worked : Result Counts WorkFault) (s : Status) (a b : Noted) → s ≡ worked_status worked → a.file_faults ≤ 2 ^ 64 - 1 → a.remove_faults ≤ 2 ^ 64 - 1 → a.damages ≤ 2 ^ 64 - 1 → CountsWorking s a b → NoneFalls a b
work_falls worked s a b e files removals harms counted = falls_bound a b (by_answer worked (subst (λ (t : Status). CountsWorking t a b) e counted))
  where
    by_answer : (worked : Result Counts WorkFault) → CountsWorking (worked_status worked) a b → NoneFalls (but_bound a b) b
    by_answer (Ok counts) h = falls_same (but_bound a b) b h
    by_answer (Err WorkFault.Ground) h = fault_falls (but_bound a b) b files removals h
    by_answer (Err WorkFault.Damaged) h = damage_falls (but_bound a b) b harms h
    by_answer (Err WorkFault.Memory) h = falls_same (but_bound a b) b h

-- ---- the whole call

ends_well : (worked : Result Counts WorkFault) (s : Status) (a b : Noted) (records : Records) (job : Job) (old new : Told) → s ≡ worked_status worked → Works records job worked old new → CountsWorking s a b → ¬ Rose a.file_faults b.file_faults → ¬ Rose a.remove_faults b.remove_faults
    → (s ≡ status.Done) ⊎ (s ≡ status.Memory)
ends_well worked s a b records job old new e works counted files removals = subst (λ (t : Status). (t ≡ status.Done) ⊎ (t ≡ status.Memory)) (sym e) (by_answer worked works (subst (λ (t : Status). CountsWorking t a b) e counted))
  where
    none : FileFault (but_bound a b) b ⊎ RemoveFault (but_bound a b) b → ⊥
    none (inl h) = files h.rose
    none (inr h) = removals h.rose

    by_answer : (worked : Result Counts WorkFault) → Works records job worked old new → CountsWorking (worked_status worked) a b → (worked_status worked ≡ status.Done) ⊎ (worked_status worked ≡ status.Memory)
    by_answer (Ok counts) w h = inl refl
    by_answer (Err WorkFault.Ground) w h = absurd (none h)
    by_answer (Err WorkFault.Damaged) w h = absurd (w.whole refl)
    by_answer (Err WorkFault.Memory) w h = inr refl

pub collects_of : (job : Job) (old new : Outside) (s : Status) → GoesOn old new → new.left ≡ old.left → new.read_faults ≡ old.read_faults → new.turns ≡ old.turns → IsUnasked old new → (IsTrue old.ground_tells → IsFree old.told job.attempt → WritesAttempt job old.told new.told)
    → WorksAs old.ground_tells job old.told new.told s → CountsWorking s old.counts new.counts → IsBound old.dir s old.counts new.counts → RunsJob job old new s
collects_of job old new s goes left reads turns unasked only works counted bound = record {
  goes_on = goes;
  left = left;
  read_faults = reads;
  turns = turns;
  unasked = unasked;
  only = only;
  works = works;
  counted = counted;
  bound = bound;
  complete = λ tells records whole nothing other files removals. ends_well works.worked s old.counts new.counts records job old.told new.told works.status_is (works.works tells records whole nothing other) counted files removals;
}

-- memory was wanting at once
pub collects_none : (job : Job) (old : Outside) → RunsJob job old old status.Memory
collects_none job old = collects_of job old old status.Memory
    (record { dir = refl; source_tells = refl; ground_tells = refl; spawner_tells = refl; log_tells = λ t. t; read_faults = le_refl old.read_faults; counts = falls_itself old.counts; spawns = spawns_itself old.spawns })
    refl refl refl (record { spawned = refl; held = refl; spawns = refl }) (λ tells free. only_nowhere old.told (IsOfAttempt job.attempt))
    (record {
      worked = Err WorkFault.Memory;
      status_is = refl;
      works = λ told records whole nothing other. record { ok = tt; whole = λ is. absurd (cc is); last = λ none pair valid t done mapping prefix after le left some in_mapping in_prefix. absurd (omega (arith, after, le)) };
      served = λ told is. record { undone = λ done. absurd (cc done); only = only_nowhere old.told NoFile };
      spared = λ told nothing is. only_nowhere old.told NoFile;
    }) refl (inr (inr (refl, refl)))
