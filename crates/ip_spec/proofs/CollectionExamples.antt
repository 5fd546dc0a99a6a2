-- Collections: what holds them, what goes on meanwhile, and how they end.
use Rattle.std.proofs.Common.{◌≡◌, [], ◌∷◌, refl, true, pos, Some, None}
use Rattle.std.specs.Prelude.{codes}
use Rattle.ip_spec.specs.Machine.{Command, Target, Child, Exit, Produced, Seen, opened}
use Rattle.ip_spec.specs.Repository.{no_repository}
use Rattle.ip_spec.specs.Step.{quiet}
use Rattle.ip_spec.proofs.Played.{about, asked, ended, texts_of, played_runs}

-- one collection at a time, and a cancel ends it
a_branch_below_holds_a_collection : texts_of (opened no_repository)
    ((Command.Set (codes "a" ∷ []) (1 ∷ []), quiet)
    ∷ (Command.Commit (codes "main") (about 0 (codes "a") (codes "m")), quiet)
    ∷ (Command.Set (codes "a" ∷ []) (2 ∷ []), quiet)
    ∷ (Command.Commit (codes "main") (about 1 (codes "a") (codes "m")), quiet)
    ∷ (Command.Branch (codes "old") (Target.Commit (218 ∷ 38 ∷ 115 ∷ 6 ∷ 4 ∷ 78 ∷ 95 ∷ 69 ∷ 53 ∷ 15 ∷ 229 ∷ 42 ∷ 229 ∷ 255 ∷ 97 ∷ 10 ∷ 46 ∷ 162 ∷ 193 ∷ 28 ∷ 202 ∷ 144 ∷ 171 ∷ 122 ∷ 133 ∷ 203 ∷ 54 ∷ 133 ∷ 137 ∷ 62 ∷ 25 ∷ 43 ∷ [])), quiet)
    ∷ (Command.Collect (Target.Branch (codes "main")), quiet)
    ∷ (Command.BranchRm (codes "old"), quiet)
    ∷ (Command.Finish, quiet)
    ∷ (Command.Collect (Target.Branch (codes "main")), quiet)
    ∷ (Command.Collect (Target.Branch (codes "main")), quiet)
    ∷ (Command.Stat, quiet)
    ∷ (Command.Cancel, quiet)
    ∷ (Command.Look, quiet) ∷ [])
    ≡ codes "ok"
    ∷ codes "committed da267306044e5f45350fe52ae5ff610a2ea2c11cca90ab7a85cb3685893e192b"
    ∷ codes "ok"
    ∷ codes "committed a1bae207649021af62d8af58d3c0df1395dc1c65b0e8b6a8aa2a580410745e90"
    ∷ codes "ok"
    ∷ codes "held old"
    ∷ codes "ok"
    ∷ codes "idle"
    ∷ codes "started a1bae207649021af62d8af58d3c0df1395dc1c65b0e8b6a8aa2a580410745e90"
    ∷ codes "busy a1bae207649021af62d8af58d3c0df1395dc1c65b0e8b6a8aa2a580410745e90"
    ∷ codes "stat 0 2 1 at 1"
    ∷ codes "cancelled"
    ∷ codes "idle" ∷ []
unfolding played_runs
a_branch_below_holds_a_collection = refl

-- commits below are given up, later ones stay
a_collection_keeps_what_was_made_meanwhile : texts_of (opened no_repository)
    ((Command.Set (codes "a" ∷ []) (1 ∷ []), quiet)
    ∷ (Command.Commit (codes "main") (about 0 (codes "a") (codes "m")), quiet)
    ∷ (Command.Set (codes "a" ∷ []) (2 ∷ []), quiet)
    ∷ (Command.Commit (codes "main") (about 1 (codes "a") (codes "m")), quiet)
    ∷ (Command.Collect (Target.Branch (codes "main")), quiet)
    ∷ (Command.Set (codes "b" ∷ []) (3 ∷ []), quiet)
    ∷ (Command.Commit (codes "main") (about 2 (codes "a") (codes "m")), quiet)
    ∷ (Command.Look, asked Child.Running)
    ∷ (Command.Finish, ended (Exit.Code (pos 0)) None)
    ∷ (Command.Cat (Target.Branch (codes "main")) (codes "a" ∷ []), quiet)
    ∷ (Command.Cat (Target.Branch (codes "main")) (codes "b" ∷ []), quiet)
    ∷ (Command.Log (Target.Branch (codes "main")), quiet)
    ∷ (Command.Show (Target.Commit (218 ∷ 38 ∷ 115 ∷ 6 ∷ 4 ∷ 78 ∷ 95 ∷ 69 ∷ 53 ∷ 15 ∷ 229 ∷ 42 ∷ 229 ∷ 255 ∷ 97 ∷ 10 ∷ 46 ∷ 162 ∷ 193 ∷ 28 ∷ 202 ∷ 144 ∷ 171 ∷ 122 ∷ 133 ∷ 203 ∷ 54 ∷ 133 ∷ 137 ∷ 62 ∷ 25 ∷ 43 ∷ [])), quiet)
    ∷ (Command.Get (codes "a" ∷ []), quiet) ∷ [])
    ≡ codes "ok"
    ∷ codes "committed da267306044e5f45350fe52ae5ff610a2ea2c11cca90ab7a85cb3685893e192b"
    ∷ codes "ok"
    ∷ codes "committed a1bae207649021af62d8af58d3c0df1395dc1c65b0e8b6a8aa2a580410745e90"
    ∷ codes "started a1bae207649021af62d8af58d3c0df1395dc1c65b0e8b6a8aa2a580410745e90"
    ∷ codes "ok"
    ∷ codes "committed 57563556eaa132c6443573edfcc5d486443a6a1269a20f96917f9b66f4e8c5db"
    ∷ codes "running"
    ∷ codes "collected 1"
    ∷ codes "value 02"
    ∷ codes "value 03"
    ∷ codes "log 2 57563556eaa132c6443573edfcc5d486443a6a1269a20f96917f9b66f4e8c5db a1bae207649021af62d8af58d3c0df1395dc1c65b0e8b6a8aa2a580410745e90"
    ∷ codes "no-commit da267306044e5f45350fe52ae5ff610a2ea2c11cca90ab7a85cb3685893e192b"
    ∷ codes "value 02" ∷ []
unfolding played_runs
a_collection_keeps_what_was_made_meanwhile = refl

-- first as leaving, while the collection runs, then as given up
work_on_commits_that_go_is_refused : texts_of (opened no_repository)
    ((Command.Set (codes "a" ∷ []) (1 ∷ []), quiet)
    ∷ (Command.Commit (codes "main") (about 0 (codes "a") (codes "m")), quiet)
    ∷ (Command.Set (codes "a" ∷ []) (2 ∷ []), quiet)
    ∷ (Command.Commit (codes "main") (about 1 (codes "a") (codes "m")), quiet)
    ∷ (Command.Checkout (Target.Commit (218 ∷ 38 ∷ 115 ∷ 6 ∷ 4 ∷ 78 ∷ 95 ∷ 69 ∷ 53 ∷ 15 ∷ 229 ∷ 42 ∷ 229 ∷ 255 ∷ 97 ∷ 10 ∷ 46 ∷ 162 ∷ 193 ∷ 28 ∷ 202 ∷ 144 ∷ 171 ∷ 122 ∷ 133 ∷ 203 ∷ 54 ∷ 133 ∷ 137 ∷ 62 ∷ 25 ∷ 43 ∷ [])), quiet)
    ∷ (Command.Collect (Target.Branch (codes "main")), quiet)
    ∷ (Command.Commit (codes "side") (about 5 (codes "a") (codes "m")), quiet)
    ∷ (Command.Branch (codes "side") (Target.Commit (218 ∷ 38 ∷ 115 ∷ 6 ∷ 4 ∷ 78 ∷ 95 ∷ 69 ∷ 53 ∷ 15 ∷ 229 ∷ 42 ∷ 229 ∷ 255 ∷ 97 ∷ 10 ∷ 46 ∷ 162 ∷ 193 ∷ 28 ∷ 202 ∷ 144 ∷ 171 ∷ 122 ∷ 133 ∷ 203 ∷ 54 ∷ 133 ∷ 137 ∷ 62 ∷ 25 ∷ 43 ∷ [])), quiet)
    ∷ (Command.Finish, ended (Exit.Code (pos 0)) None)
    ∷ (Command.Get (codes "a" ∷ []), quiet)
    ∷ (Command.Checkout (Target.Branch (codes "main")), quiet) ∷ [])
    ≡ codes "ok"
    ∷ codes "committed da267306044e5f45350fe52ae5ff610a2ea2c11cca90ab7a85cb3685893e192b"
    ∷ codes "ok"
    ∷ codes "committed a1bae207649021af62d8af58d3c0df1395dc1c65b0e8b6a8aa2a580410745e90"
    ∷ codes "at da267306044e5f45350fe52ae5ff610a2ea2c11cca90ab7a85cb3685893e192b"
    ∷ codes "started a1bae207649021af62d8af58d3c0df1395dc1c65b0e8b6a8aa2a580410745e90"
    ∷ codes "leaving 0"
    ∷ codes "leaving 0"
    ∷ codes "collected 1"
    ∷ codes "given-up 0"
    ∷ codes "at a1bae207649021af62d8af58d3c0df1395dc1c65b0e8b6a8aa2a580410745e90" ∷ []
unfolding played_runs
work_on_commits_that_go_is_refused = refl

-- of each rejection the file, the place and both bytes
a_rejected_pair_leaves_all_as_it_was : texts_of (opened no_repository)
    ((Command.Set (codes "a" ∷ []) (1 ∷ []), quiet)
    ∷ (Command.Commit (codes "main") (about 0 (codes "a") (codes "m")), quiet)
    ∷ (Command.Collect (Target.Branch (codes "main")), quiet)
    ∷ (Command.Finish, ended (Exit.Code (pos 0)) (Some (record { file = Produced.Prefix; at = 58; want = (Seen.Byte 0); got = (Seen.Byte 255) })))
    ∷ (Command.Cat (Target.Commit (218 ∷ 38 ∷ 115 ∷ 6 ∷ 4 ∷ 78 ∷ 95 ∷ 69 ∷ 53 ∷ 15 ∷ 229 ∷ 42 ∷ 229 ∷ 255 ∷ 97 ∷ 10 ∷ 46 ∷ 162 ∷ 193 ∷ 28 ∷ 202 ∷ 144 ∷ 171 ∷ 122 ∷ 133 ∷ 203 ∷ 54 ∷ 133 ∷ 137 ∷ 62 ∷ 25 ∷ 43 ∷ [])) (codes "a" ∷ []), quiet)
    ∷ (Command.Collect (Target.Branch (codes "main")), quiet)
    ∷ (Command.Finish, ended (Exit.Code (pos 3)) None)
    ∷ (Command.Collect (Target.Branch (codes "main")), quiet)
    ∷ (Command.Finish, ended (Exit.Code (pos 0)) (Some (record { file = Produced.Mapping; at = 0; want = (Seen.Byte 73); got = Seen.Absent })))
    ∷ (Command.Collect (Target.Branch (codes "main")), quiet)
    ∷ (Command.Finish, record { told = record quiet.told { child = Child.Ended (record { attempt = 1; exit = Exit.Code (pos 0) }); refused = true }; difference = None })
    ∷ (Command.Finish, ended (Exit.Code (pos 0)) None) ∷ [])
    ≡ codes "ok"
    ∷ codes "committed da267306044e5f45350fe52ae5ff610a2ea2c11cca90ab7a85cb3685893e192b"
    ∷ codes "started da267306044e5f45350fe52ae5ff610a2ea2c11cca90ab7a85cb3685893e192b"
    ∷ codes "rejected prefix 58 00 ff"
    ∷ codes "value 01"
    ∷ codes "started da267306044e5f45350fe52ae5ff610a2ea2c11cca90ab7a85cb3685893e192b"
    ∷ codes "rejected exit 3"
    ∷ codes "started da267306044e5f45350fe52ae5ff610a2ea2c11cca90ab7a85cb3685893e192b"
    ∷ codes "rejected mapping 0 49 none"
    ∷ codes "started da267306044e5f45350fe52ae5ff610a2ea2c11cca90ab7a85cb3685893e192b"
    ∷ codes "memory"
    ∷ codes "collected 0" ∷ []
unfolding played_runs
a_rejected_pair_leaves_all_as_it_was = refl
