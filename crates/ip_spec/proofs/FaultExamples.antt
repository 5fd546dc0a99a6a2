-- Faults of the child, want of memory, and stops.
use Rattle.std.proofs.Common.{◌≡◌, [], ◌∷◌, refl, true, pos, negsuc, Some, None}
use Rattle.std.specs.Prelude.{codes}
use Rattle.ip_spec.specs.Machine.{Command, Target, Child, Exit, Limit, opened}
use Rattle.ip_spec.specs.Repository.{no_repository}
use Rattle.ip_spec.specs.Step.{quiet}
use Rattle.ip_spec.proofs.Played.{about, asked, ended, texts_of, state_of, played_runs}

-- a start, a wait, a removal and a kill that fail
faults_of_the_child_leave_a_store_that_goes_on : texts_of (opened no_repository)
    ((Command.Set (codes "a" ∷ []) (1 ∷ []), quiet)
    ∷ (Command.Commit (codes "main") (about 0 (codes "a") (codes "m")), quiet)
    ∷ (Command.Set (codes "a" ∷ []) (2 ∷ []), quiet)
    ∷ (Command.Commit (codes "main") (about 1 (codes "a") (codes "m")), quiet)
    ∷ (Command.Collect (Target.Branch (codes "main")), record { told = record quiet.told { start_failed = true }; difference = None })
    ∷ (Command.Look, quiet)
    ∷ (Command.Collect (Target.Branch (codes "main")), quiet)
    ∷ (Command.Finish, asked Child.Fault)
    ∷ (Command.Stat, quiet)
    ∷ (Command.Finish, record { told = record quiet.told { child = Child.Ended (record { attempt = 2; exit = Exit.Code (pos 0) }); left = 1 }; difference = None })
    ∷ (Command.Collect (Target.Branch (codes "main")), quiet)
    ∷ (Command.Cancel, record { told = record quiet.told { kill_failed = true }; difference = None })
    ∷ (Command.Stat, quiet) ∷ [])
    ≡ codes "ok"
    ∷ codes "committed da267306044e5f45350fe52ae5ff610a2ea2c11cca90ab7a85cb3685893e192b"
    ∷ codes "ok"
    ∷ codes "committed a1bae207649021af62d8af58d3c0df1395dc1c65b0e8b6a8aa2a580410745e90"
    ∷ codes "start-fault"
    ∷ codes "idle"
    ∷ codes "started a1bae207649021af62d8af58d3c0df1395dc1c65b0e8b6a8aa2a580410745e90"
    ∷ codes "wait-fault"
    ∷ codes "stat 0 2 1 at 1"
    ∷ codes "collected 1 left 1"
    ∷ codes "started a1bae207649021af62d8af58d3c0df1395dc1c65b0e8b6a8aa2a580410745e90"
    ∷ codes "cancelled orphan"
    ∷ codes "stat 1 2 1 idle" ∷ []
unfolding played_runs
faults_of_the_child_leave_a_store_that_goes_on = refl

-- the exit is judged by the next command, and the store is as before
want_of_memory_keeps_the_exit : texts_of (opened no_repository)
    ((Command.Set (codes "a" ∷ []) (1 ∷ []), quiet)
    ∷ (Command.Commit (codes "main") (about 0 (codes "a") (codes "m")), quiet)
    ∷ (Command.Set (codes "a" ∷ []) (2 ∷ []), quiet)
    ∷ (Command.Commit (codes "main") (about 1 (codes "a") (codes "m")), quiet)
    ∷ (Command.Collect (Target.Branch (codes "main")), quiet)
    ∷ (Command.Finish, record { told = record quiet.told { child = Child.Ended (record { attempt = 1; exit = Exit.Code (pos 0) }); refused = true }; difference = None })
    ∷ (Command.Stat, quiet)
    ∷ (Command.Look, ended (Exit.Code (pos 0)) None)
    ∷ (Command.Look, quiet) ∷ [])
    ≡ codes "ok"
    ∷ codes "committed da267306044e5f45350fe52ae5ff610a2ea2c11cca90ab7a85cb3685893e192b"
    ∷ codes "ok"
    ∷ codes "committed a1bae207649021af62d8af58d3c0df1395dc1c65b0e8b6a8aa2a580410745e90"
    ∷ codes "started a1bae207649021af62d8af58d3c0df1395dc1c65b0e8b6a8aa2a580410745e90"
    ∷ codes "memory"
    ∷ codes "stat 0 2 1 at 1"
    ∷ codes "collected 1"
    ∷ codes "idle" ∷ []
unfolding played_runs
want_of_memory_keeps_the_exit = refl

-- of a commit, a merge and a read
want_of_memory_changes_nothing : texts_of (opened no_repository)
    ((Command.Set (codes "a" ∷ []) (1 ∷ []), quiet)
    ∷ (Command.Commit (codes "main") (about 0 (codes "a") (codes "m")), quiet)
    ∷ (Command.Set (codes "a" ∷ []) (2 ∷ []), quiet)
    ∷ (Command.Commit (codes "main") (about 1 (codes "a") (codes "m")), quiet)
    ∷ (Command.Commit (codes "main") (about 2 (codes "a") (codes "m")), record { told = record quiet.told { refused = true }; difference = None })
    ∷ (Command.Merge (Target.Branch (codes "main")) (codes "main") (about 2 (codes "a") (codes "m")), record { told = record quiet.told { refused = true }; difference = None })
    ∷ (Command.Get (codes "a" ∷ []), record { told = record quiet.told { refused = true }; difference = None })
    ∷ (Command.Stat, quiet)
    ∷ (Command.Get (codes "a" ∷ []), quiet) ∷ [])
    ≡ codes "ok"
    ∷ codes "committed da267306044e5f45350fe52ae5ff610a2ea2c11cca90ab7a85cb3685893e192b"
    ∷ codes "ok"
    ∷ codes "committed a1bae207649021af62d8af58d3c0df1395dc1c65b0e8b6a8aa2a580410745e90"
    ∷ codes "memory"
    ∷ codes "memory"
    ∷ codes "memory"
    ∷ codes "stat 0 2 1 idle"
    ∷ codes "value 02" ∷ []
unfolding played_runs
want_of_memory_changes_nothing = refl

-- the pair is valid and cannot be taken; the floor stays
a_sequence_at_its_end_ends_a_collection : texts_of (opened no_repository)
    ((Command.Set (codes "a" ∷ []) (1 ∷ []), quiet)
    ∷ (Command.Commit (codes "main") (about 0 (codes "a") (codes "m")), quiet)
    ∷ (Command.Set (codes "a" ∷ []) (2 ∷ []), quiet)
    ∷ (Command.Commit (codes "main") (about 1 (codes "a") (codes "m")), quiet)
    ∷ (Command.Collect (Target.Branch (codes "main")), quiet)
    ∷ (Command.Finish, record { told = record quiet.told { child = Child.Ended (record { attempt = 1; exit = Exit.Code (pos 0) }); short = Some Limit.Sequence }; difference = None })
    ∷ (Command.Stat, quiet) ∷ [])
    ≡ codes "ok"
    ∷ codes "committed da267306044e5f45350fe52ae5ff610a2ea2c11cca90ab7a85cb3685893e192b"
    ∷ codes "ok"
    ∷ codes "committed a1bae207649021af62d8af58d3c0df1395dc1c65b0e8b6a8aa2a580410745e90"
    ∷ codes "started a1bae207649021af62d8af58d3c0df1395dc1c65b0e8b6a8aa2a580410745e90"
    ∷ codes "limit sequence"
    ∷ codes "stat 0 2 1 idle" ∷ []
unfolding played_runs
a_sequence_at_its_end_ends_a_collection = refl

-- a signal counts as a failing exit, whatever the files hold
a_child_that_was_killed_is_rejected : texts_of (opened no_repository)
    ((Command.Set (codes "a" ∷ []) (1 ∷ []), quiet)
    ∷ (Command.Commit (codes "main") (about 0 (codes "a") (codes "m")), quiet)
    ∷ (Command.Set (codes "a" ∷ []) (2 ∷ []), quiet)
    ∷ (Command.Commit (codes "main") (about 1 (codes "a") (codes "m")), quiet)
    ∷ (Command.Collect (Target.Branch (codes "main")), quiet)
    ∷ (Command.Look, asked Child.Running)
    ∷ (Command.Look, ended Exit.Signal None)
    ∷ (Command.Collect (Target.Branch (codes "main")), quiet)
    ∷ (Command.Finish, ended (Exit.Code (negsuc 0)) None)
    ∷ (Command.Stat, quiet) ∷ [])
    ≡ codes "ok"
    ∷ codes "committed da267306044e5f45350fe52ae5ff610a2ea2c11cca90ab7a85cb3685893e192b"
    ∷ codes "ok"
    ∷ codes "committed a1bae207649021af62d8af58d3c0df1395dc1c65b0e8b6a8aa2a580410745e90"
    ∷ codes "started a1bae207649021af62d8af58d3c0df1395dc1c65b0e8b6a8aa2a580410745e90"
    ∷ codes "running"
    ∷ codes "rejected exit signal"
    ∷ codes "started a1bae207649021af62d8af58d3c0df1395dc1c65b0e8b6a8aa2a580410745e90"
    ∷ codes "rejected exit -1"
    ∷ codes "stat 0 2 1 idle" ∷ []
unfolding played_runs
a_child_that_was_killed_is_rejected = refl

-- the work is empty, no collection runs, and a finished one stays finished
a_reopened_store_is_idle : texts_of (opened (state_of (opened no_repository)
    ((Command.Set (codes "a" ∷ []) (1 ∷ []), quiet)
    ∷ (Command.Commit (codes "main") (about 0 (codes "a") (codes "m")), quiet)
    ∷ (Command.Set (codes "a" ∷ []) (2 ∷ []), quiet)
    ∷ (Command.Commit (codes "main") (about 1 (codes "a") (codes "m")), quiet)
    ∷ (Command.Collect (Target.Branch (codes "main")), quiet)
    ∷ (Command.Finish, ended (Exit.Code (pos 0)) None) ∷ [])).repository)
    ((Command.Stat, quiet)
    ∷ (Command.List [], quiet)
    ∷ (Command.Look, quiet)
    ∷ (Command.Collect (Target.Branch (codes "main")), quiet)
    ∷ (Command.Finish, ended (Exit.Code (pos 0)) None) ∷ [])
    ≡ codes "stat 1 2 1 idle"
    ∷ codes "list 0"
    ∷ codes "idle"
    ∷ codes "started a1bae207649021af62d8af58d3c0df1395dc1c65b0e8b6a8aa2a580410745e90"
    ∷ codes "collected 1" ∷ []
unfolding played_runs
a_reopened_store_is_idle = refl
