use Rattle.std.proofs.Common.{refl, inr, subst, ap, ◌≡◌, Bool, true, false, List, [], ℕ, Option, Some, None, Result, Ok, Err}
use Rattle.std.proofs.Math.Nat.{le_refl}
use Rattle.ip_ground.specs.declared.names.FileName.TheVariants.{Control}
use Rattle.ip_ground.specs.Told.{NoFile, Only}
use Rattle.ip_ground.proofs.Spans.{only_nowhere, syncs_none}
use Rattle.ip_ground.proofs.Rising.{falls_itself}
use Rattle.ip_spec.specs.Merge.{Rule}
use Rattle.ip_spec.specs.Path.{Bytes}
use Rattle.ip_words.specs.declared.Call.{Call}
use Rattle.ip_words.specs.Words.{Asked, making, serving, working, loading, Asks, IsRead, shown, texts_of}
use Rattle.ip_spawn.specs.declared.job.Job.{Job}
use Rattle.ip_worker.specs.declared.fault.WorkFault.{WorkFault}
use Rattle.ip_worker.specs.declared.worker.Counts.{Counts}
use Rattle.ip_words.proofs.OneCall.{one_asked, same_size, valid_job}
use Rattle.ip_app.specs.declared.statuses.Status.{Status}
use Rattle.ip_app.specs.declared.statuses.Status.TheVariants as status
use Rattle.ip_app.specs.Outside.{Outside, outside, IsBound}
use Rattle.ip_app.specs.Loading.{LoadRow, Loads}
use Rattle.ip_app.specs.Run.{Inits, Row, Serves}
use Rattle.ip_app.specs.Working.{worked_status, RunsJob}
use Rattle.ip_app.proofs.LoadLemmas.{loads_unopened, load_ends}
use Rattle.ip_app.proofs.WorkLemmas.{collects_of, collects_none}
use Rattle.ip_app.proofs.Counting.{spawns_itself}
use Rattle.ip_app.proofs.Moments.{opening_none}
use Rattle.ip_app.proofs.RunLemmas.{begins_unopened}
use Rattle.ip_app.proofs.calls.run.Goals as goal

-- nothing was done
serves_nothing : (rule : Rule) (decisive : Bool) (s : Outside) → Serves rule decisive s s status.Memory
serves_nothing rule decisive s = begins_unopened rule decisive s s status.Memory (record { dir = refl; source_tells = refl; ground_tells = refl; spawner_tells = refl; log_tells = λ t. t; read_faults = le_refl s.read_faults; counts = falls_itself s.counts; spawns = spawns_itself s.spawns })
    (λ told. syncs_none s.told s.told (Only Control) (only_nowhere s.told NoFile)) (λ told. opening_none s.told s.told (only_nowhere s.told NoFile)) refl refl (record { spawned = refl; held = refl; spawns = refl }) refl tt (inr (inr (refl, refl))) refl

inits_with : (n m : ℕ) (old new : Outside) (s : Status) → n ≡ m → Inits n old new s → Inits m old new s
inits_with n m old new s e h = subst (λ (k : ℕ). Inits k old new s) e h

asked_for : (words : List Bytes) (read : Option Call) (call : Call) → read ≡ Some call → IsRead words read → Asks words (shown call)
asked_for words read call e h = subst (IsRead words) e h

loads_nothing : (rule : Rule) (decisive : Bool) (seed count : ℕ) (s : Outside) → Loads rule decisive seed count s s status.Memory
loads_nothing rule decisive seed count s = loads_unopened rule decisive seed count s s status.Memory (record { dir = refl; source_tells = refl; ground_tells = refl; spawner_tells = refl; log_tells = λ t. t; read_faults = le_refl s.read_faults; counts = falls_itself s.counts; spawns = spawns_itself s.spawns })
    (λ told. syncs_none s.told s.told (Only Control) (only_nowhere s.told NoFile)) (λ told. opening_none s.told s.told (only_nowhere s.told NoFile)) refl refl (record { spawned = refl; held = refl; spawns = refl }) refl tt (inr (inr (refl, refl))) refl

no_usage : (rule : Rule) (old new : Outside) (s : Status) → Serves rule false old new s → s ≡ status.Usage → ⊥
no_usage rule old new s v is = subst (λ (t : Status). Row false t old new v.taken) is v.row

load_no_usage : (rule : Rule) (seed count : ℕ) (old new : Outside) (s : Status) → Loads rule false seed count old new s → s ≡ status.Usage → ⊥
load_no_usage rule seed count old new s v is = subst (λ (t : Status). LoadRow false t old new) is v.run.row

-- the call that was read is the one that is asked for
same_call : (words : List Bytes) (read : Option Call) (found call : Call) (asked : Asked) → read ≡ Some found → IsRead words read → found ≡ call → Asks words asked → shown call ≡ asked
same_call words read found call asked e is same asks = one_asked words (shown call) asked (subst (λ (c : Call). Asks words (shown c)) same (subst (IsRead words) e is)) asks

-- the folder that the words name is the one of the call that was read
abbrev folder_of : Asked → Bytes
folder_of (making folder chunk) = folder
folder_of (serving folder) = folder
folder_of (working folder job) = folder
folder_of (loading folder seed count) = folder

same_folder : (one other : Asked) → one ≡ other → folder_of one ≡ folder_of other
same_folder one other e = ap folder_of e

pub returns-in-Err-clause-serve : goal.returns-in-Err-clause-serve
returns-in-Err-clause-serve g c folder asks decisive by_rule = serves_nothing _ decisive _

pub returns-in-Err-clause-worker : goal.returns-in-Err-clause-worker
returns-in-Err-clause-worker g c folder job asks = collects_none job _

pub returns-in-Err-clause-load : goal.returns-in-Err-clause-load
returns-in-Err-clause-load g c folder seed count asks decisive by_rule = loads_nothing _ decisive seed count _

pub returns-in-Init-clause-refused : goal.returns-in-Init-clause-refused
returns-in-Init-clause-refused g c nothing = absurd (nothing _ (asked_for _ _ _ c.in-Ok-Some.field-0-is c.in-Ok-Some.ensures))

pub returns-in-Init-clause-nothing : goal.returns-in-Init-clause-nothing
returns-in-Init-clause-nothing g c nothing = absurd (nothing _ (asked_for _ _ _ c.in-Ok-Some.field-0-is c.in-Ok-Some.ensures))

pub returns-in-Init-clause-serve : goal.returns-in-Init-clause-serve
returns-in-Init-clause-serve g c folder asks decisive by_rule = absurd (cc (same_call _ _ _ _ _ c.in-Ok-Some.field-0-is c.in-Ok-Some.ensures c.in-Init.is asks))

pub returns-in-Init-clause-bytes : goal.returns-in-Init-clause-bytes
returns-in-Init-clause-bytes g c folder asks = absurd (cc (same_call _ _ _ _ _ c.in-Ok-Some.field-0-is c.in-Ok-Some.ensures c.in-Init.is asks))

pub returns-in-Init-clause-complete : goal.returns-in-Init-clause-complete
returns-in-Init-clause-complete g c folder asks decisive = absurd (cc (same_call _ _ _ _ _ c.in-Ok-Some.field-0-is c.in-Ok-Some.ensures c.in-Init.is asks))

pub returns-in-Init-clause-worker : goal.returns-in-Init-clause-worker
returns-in-Init-clause-worker g c folder job asks = absurd (cc (same_call _ _ _ _ _ c.in-Ok-Some.field-0-is c.in-Ok-Some.ensures c.in-Init.is asks))

pub returns-in-Init-clause-load : goal.returns-in-Init-clause-load
returns-in-Init-clause-load g c folder seed count asks decisive by_rule = absurd (cc (same_call _ _ _ _ _ c.in-Ok-Some.field-0-is c.in-Ok-Some.ensures c.in-Init.is asks))

pub returns-in-Init-clause-load_complete : goal.returns-in-Init-clause-load_complete
returns-in-Init-clause-load_complete g c folder seed count asks decisive = absurd (cc (same_call _ _ _ _ _ c.in-Ok-Some.field-0-is c.in-Ok-Some.ensures c.in-Init.is asks))

pub returns-in-Serve-clause-refused : goal.returns-in-Serve-clause-refused
returns-in-Serve-clause-refused g c nothing = absurd (nothing _ (asked_for _ _ _ c.in-Ok-Some.field-0-is c.in-Ok-Some.ensures))

pub returns-in-Serve-clause-nothing : goal.returns-in-Serve-clause-nothing
returns-in-Serve-clause-nothing g c nothing = absurd (nothing _ (asked_for _ _ _ c.in-Ok-Some.field-0-is c.in-Ok-Some.ensures))

pub returns-in-Serve-clause-init : goal.returns-in-Serve-clause-init
returns-in-Serve-clause-init g c folder chunk asks = absurd (cc (same_call _ _ _ _ _ c.in-Ok-Some.field-0-is c.in-Ok-Some.ensures c.in-Serve.is asks))

pub returns-in-Serve-clause-worker : goal.returns-in-Serve-clause-worker
returns-in-Serve-clause-worker g c folder job asks = absurd (cc (same_call _ _ _ _ _ c.in-Ok-Some.field-0-is c.in-Ok-Some.ensures c.in-Serve.is asks))

pub returns-in-Serve-clause-load : goal.returns-in-Serve-clause-load
returns-in-Serve-clause-load g c folder seed count asks decisive by_rule = absurd (cc (same_call _ _ _ _ _ c.in-Ok-Some.field-0-is c.in-Ok-Some.ensures c.in-Serve.is asks))

pub returns-in-Serve-clause-load_complete : goal.returns-in-Serve-clause-load_complete
returns-in-Serve-clause-load_complete g c folder seed count asks decisive = absurd (cc (same_call _ _ _ _ _ c.in-Ok-Some.field-0-is c.in-Ok-Some.ensures c.in-Serve.is asks))

pub returns-in-Worker-clause-refused : goal.returns-in-Worker-clause-refused
returns-in-Worker-clause-refused g c nothing = absurd (nothing _ (asked_for _ _ _ c.in-Ok-Some.field-0-is c.in-Ok-Some.ensures))

pub returns-in-Worker-clause-nothing : goal.returns-in-Worker-clause-nothing
returns-in-Worker-clause-nothing g c nothing = absurd (nothing _ (asked_for _ _ _ c.in-Ok-Some.field-0-is c.in-Ok-Some.ensures))

pub returns-in-Worker-clause-init : goal.returns-in-Worker-clause-init
returns-in-Worker-clause-init g c folder chunk asks = absurd (cc (same_call _ _ _ _ _ c.in-Ok-Some.field-0-is c.in-Ok-Some.ensures c.in-Worker.is asks))

pub returns-in-Worker-clause-serve : goal.returns-in-Worker-clause-serve
returns-in-Worker-clause-serve g c folder asks decisive by_rule = absurd (cc (same_call _ _ _ _ _ c.in-Ok-Some.field-0-is c.in-Ok-Some.ensures c.in-Worker.is asks))

pub returns-in-Worker-clause-bytes : goal.returns-in-Worker-clause-bytes
returns-in-Worker-clause-bytes g c folder asks = absurd (cc (same_call _ _ _ _ _ c.in-Ok-Some.field-0-is c.in-Ok-Some.ensures c.in-Worker.is asks))

pub returns-in-Worker-clause-complete : goal.returns-in-Worker-clause-complete
returns-in-Worker-clause-complete g c folder asks decisive = absurd (cc (same_call _ _ _ _ _ c.in-Ok-Some.field-0-is c.in-Ok-Some.ensures c.in-Worker.is asks))

pub returns-in-Worker-clause-load : goal.returns-in-Worker-clause-load
returns-in-Worker-clause-load g c folder seed count asks decisive by_rule = absurd (cc (same_call _ _ _ _ _ c.in-Ok-Some.field-0-is c.in-Ok-Some.ensures c.in-Worker.is asks))

pub returns-in-Worker-clause-load_complete : goal.returns-in-Worker-clause-load_complete
returns-in-Worker-clause-load_complete g c folder seed count asks decisive = absurd (cc (same_call _ _ _ _ _ c.in-Ok-Some.field-0-is c.in-Ok-Some.ensures c.in-Worker.is asks))

pub returns-in-Load-clause-refused : goal.returns-in-Load-clause-refused
returns-in-Load-clause-refused g c nothing = absurd (nothing _ (asked_for _ _ _ c.in-Ok-Some.field-0-is c.in-Ok-Some.ensures))

pub returns-in-Load-clause-nothing : goal.returns-in-Load-clause-nothing
returns-in-Load-clause-nothing g c nothing = absurd (nothing _ (asked_for _ _ _ c.in-Ok-Some.field-0-is c.in-Ok-Some.ensures))

pub returns-in-Load-clause-init : goal.returns-in-Load-clause-init
returns-in-Load-clause-init g c folder chunk asks = absurd (cc (same_call _ _ _ _ _ c.in-Ok-Some.field-0-is c.in-Ok-Some.ensures c.in-Load.is asks))

pub returns-in-Load-clause-serve : goal.returns-in-Load-clause-serve
returns-in-Load-clause-serve g c folder asks decisive by_rule = absurd (cc (same_call _ _ _ _ _ c.in-Ok-Some.field-0-is c.in-Ok-Some.ensures c.in-Load.is asks))

pub returns-in-Load-clause-bytes : goal.returns-in-Load-clause-bytes
returns-in-Load-clause-bytes g c folder asks = absurd (cc (same_call _ _ _ _ _ c.in-Ok-Some.field-0-is c.in-Ok-Some.ensures c.in-Load.is asks))

pub returns-in-Load-clause-complete : goal.returns-in-Load-clause-complete
returns-in-Load-clause-complete g c folder asks decisive = absurd (cc (same_call _ _ _ _ _ c.in-Ok-Some.field-0-is c.in-Ok-Some.ensures c.in-Load.is asks))

pub returns-in-Load-clause-worker : goal.returns-in-Load-clause-worker
returns-in-Load-clause-worker g c folder job asks = absurd (cc (same_call _ _ _ _ _ c.in-Ok-Some.field-0-is c.in-Ok-Some.ensures c.in-Load.is asks))

pub returns-in-Serve-clause-usage : goal.returns-in-Serve-clause-usage
returns-in-Serve-clause-usage g c is = absurd (no_usage _ _ _ _ (c.serve.ensures.serves false (λ h. absurd (cc h))) is)

pub returns-in-Serve-clause-serve : goal.returns-in-Serve-clause-serve
returns-in-Serve-clause-serve g c folder asks decisive by_rule =
    let told = λ (dir : Bytes). outside dir g.S.Source.tells g.S.Source.left g.S.Source.read_faults g.G.Ground.tells g.G.Ground.told g.G.Ground.counts_of g.P.Spawner.tells g.P.Spawner.told g.P.Spawner.held g.P.Spawner.counts_of g.L.Log.tells g.L.Log.turns in
    subst (λ (dir : Bytes). Serves (g.D.Decides.rule c.args.rules.now) decisive (told dir c.args.source.now c.args.ground.now c.args.spawner.now c.args.log.now) (told dir c.serve.new.source c.serve.new.ground c.serve.new.spawner c.serve.new.log) c.serve.result)
    (same_folder _ _ (same_call _ _ _ _ _ c.in-Ok-Some.field-0-is c.in-Ok-Some.ensures c.in-Serve.is asks)) (c.serve.ensures.serves decisive by_rule)

pub returns-in-Init-clause-init : goal.returns-in-Init-clause-init
returns-in-Init-clause-init g c folder chunk asks =
    let words = texts_of c.args.words.now in
    let read = subst (λ (call : Call). Asks words (shown call)) c.in-Init.is (asked_for words _ _ c.in-Ok-Some.field-0-is c.in-Ok-Some.ensures) in
    inits_with _ chunk _ _ c.init.result (same_size words _ _ _ _ read asks)
    (record { goes_on = record { dir = refl; source_tells = refl; ground_tells = refl; spawner_tells = refl; log_tells = λ t. t; read_faults = le_refl _; counts = c.init.ensures.counts; spawns = spawns_itself _ }; left = refl; read_faults = refl; turns = refl; unasked = record { spawned = refl; held = refl; spawns = refl }; only = c.init.ensures.only; counted = c.init.ensures.counted; bound = subst (λ (dir : Bytes). IsBound dir c.init.result (g.G.Ground.counts_of c.args.ground.now) (g.G.Ground.counts_of c.init.new.ground)) (same_folder _ _ (same_call _ _ _ _ _ c.in-Ok-Some.field-0-is c.in-Ok-Some.ensures c.in-Init.is asks)) c.init.ensures.bound; row = c.init.ensures.row })

pub returns-in-Load-clause-usage : goal.returns-in-Load-clause-usage
returns-in-Load-clause-usage g c is = absurd (load_no_usage _ _ _ _ _ _ (c.load.ensures.loads false [] 0 false (λ h. absurd (cc h))) is)

worked_not_usage : (worked : Result Counts WorkFault) (s : Status) → s ≡ worked_status worked → s ≡ status.Usage → ⊥
worked_not_usage (Ok counts) s e is = absurd (cc (e, is))
worked_not_usage (Err WorkFault.Ground) s e is = absurd (cc (e, is))
worked_not_usage (Err WorkFault.Damaged) s e is = absurd (cc (e, is))
worked_not_usage (Err WorkFault.Memory) s e is = absurd (cc (e, is))

pub returns-in-Worker-clause-usage : goal.returns-in-Worker-clause-usage
returns-in-Worker-clause-usage g c is = absurd (worked_not_usage c.work.ensures.works.worked _ c.work.ensures.works.status_is is)

job_of : Asked → Option Job
job_of (working folder job) = Some job
job_of _ = None

same_job : (folder other : Bytes) (job want : Job) → working folder job ≡ working other want → job ≡ want
unfolding job_of
same_job folder other job want e = let s : Some job ≡ Some want = ap job_of e in cc s

collects_with : (job want : Job) (old new : Outside) (s : Status) → job ≡ want → RunsJob job old new s → RunsJob want old new s
collects_with job want old new s e h = subst (λ (j : Job). RunsJob j old new s) e h

pub returns-in-Worker-clause-worker : goal.returns-in-Worker-clause-worker
returns-in-Worker-clause-worker g c folder job asks =
    collects_with _ job _ _ c.work.result (same_job _ folder _ job (same_call _ _ _ _ _ c.in-Ok-Some.field-0-is c.in-Ok-Some.ensures c.in-Worker.is asks))
    (collects_of _ _ _ c.work.result (record { dir = refl; source_tells = refl; ground_tells = refl; spawner_tells = refl; log_tells = λ t. t; read_faults = le_refl _; counts = c.work.ensures.counts; spawns = spawns_itself _ }) refl refl refl (record { spawned = refl; held = refl; spawns = refl }) c.work.ensures.only c.work.ensures.works c.work.ensures.counted
    (subst (λ (dir : Bytes). IsBound dir c.work.result (g.G.Ground.counts_of c.args.ground.now) (g.G.Ground.counts_of c.work.new.ground)) (same_folder _ _ (same_call _ _ _ _ _ c.in-Ok-Some.field-0-is c.in-Ok-Some.ensures c.in-Worker.is asks)) c.work.ensures.bound))

load_of : Asked → Option (ℕ × ℕ)
load_of (loading folder seed count) = Some (seed, count)
load_of _ = None

same_load : (folder other : Bytes) (seed count want n : ℕ) → loading folder seed count ≡ loading other want n → (seed ≡ want) × (count ≡ n)
unfolding load_of
same_load folder other seed count want n e = let s : Some (seed, count) ≡ Some (want, n) = ap load_of e in (cc s, cc s)

loads_with : (rule : Rule) (decisive : Bool) (seed count want n : ℕ) (old new : Outside) (s : Status) → (seed ≡ want) × (count ≡ n) → Loads rule decisive seed count old new s → Loads rule decisive want n old new s
loads_with rule decisive seed count want n old new s e h = subst (λ (a : ℕ). Loads rule decisive a n old new s) e.0 (subst (λ (a : ℕ). Loads rule decisive seed a old new s) e.1 h)

pub returns-in-Load-clause-load : goal.returns-in-Load-clause-load
returns-in-Load-clause-load g c folder seed count asks decisive by_rule =
    let told = λ (dir : Bytes). outside dir g.S.Source.tells g.S.Source.left g.S.Source.read_faults g.G.Ground.tells g.G.Ground.told g.G.Ground.counts_of g.P.Spawner.tells g.P.Spawner.told g.P.Spawner.held g.P.Spawner.counts_of g.L.Log.tells g.L.Log.turns in
    loads_with _ decisive _ _ seed count _ _ c.load.result (same_load _ folder _ _ seed count (same_call _ _ _ _ _ c.in-Ok-Some.field-0-is c.in-Ok-Some.ensures c.in-Load.is asks))
    (subst (λ (dir : Bytes). Loads (g.D.Decides.rule c.args.rules.now) decisive c.in-Load.seed c.in-Load.count (told dir c.args.source.now c.args.ground.now c.args.spawner.now c.args.log.now) (told dir c.args.source.now c.load.new.ground c.load.new.spawner c.load.new.log) c.load.result)
    (same_folder _ _ (same_call _ _ _ _ _ c.in-Ok-Some.field-0-is c.in-Ok-Some.ensures c.in-Load.is asks)) (c.load.ensures.loads g.S.Source.tells (g.S.Source.left c.args.source.now) (g.S.Source.read_faults c.args.source.now) decisive by_rule))

pub returns-in-Load-clause-load_complete : goal.returns-in-Load-clause-load_complete
returns-in-Load-clause-load_complete g c folder seed count asks decisive =
    let done = returns-in-Load-clause-load g c folder seed count asks true (λ is. decisive) in
    load_ends true refl c.load.result _ _ done.run.row done.run.notes.counted

pub work-requires : goal.work-requires
work-requires g c =
    let words = texts_of c.args.words.now in
    valid_job words _ _ (subst (λ (call : Call). Asks words (shown call)) c.in-Worker.is (asked_for words _ _ c.in-Ok-Some.field-0-is c.in-Ok-Some.ensures))

pub returns-in-Ok-None-clause-none_held : goal.returns-in-Ok-None-clause-none_held
returns-in-Ok-None-clause-none_held g c = c.requires.child

pub returns-in-Err-clause-none_held : goal.returns-in-Err-clause-none_held
returns-in-Err-clause-none_held g c = c.requires.child

pub returns-in-Init-clause-none_held : goal.returns-in-Init-clause-none_held
returns-in-Init-clause-none_held g c = c.requires.child

pub returns-in-Serve-clause-none_held : goal.returns-in-Serve-clause-none_held
returns-in-Serve-clause-none_held g c = c.serve.ensures.none_held

pub returns-in-Worker-clause-none_held : goal.returns-in-Worker-clause-none_held
returns-in-Worker-clause-none_held g c = c.requires.child

pub returns-in-Load-clause-none_held : goal.returns-in-Load-clause-none_held
returns-in-Load-clause-none_held g c = c.load.ensures.none_held

pub returns-in-Err-clause-load_complete : goal.returns-in-Err-clause-load_complete
returns-in-Err-clause-load_complete g c folder seed count asks decisive told stands none = inr refl
