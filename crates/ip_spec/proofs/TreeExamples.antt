-- The work: values, directories and grafts.
use Rattle.std.proofs.Common.{◌≡◌, [], ◌∷◌, refl}
use Rattle.std.specs.Prelude.{codes}
use Rattle.ip_spec.specs.Machine.{Command, Target, opened}
use Rattle.ip_spec.specs.Repository.{no_repository}
use Rattle.ip_spec.specs.Step.{quiet}
use Rattle.ip_spec.proofs.Played.{about, texts_of, played_runs}

-- SHA-256 of three bytes and of none; nothing is there
an_empty_store_answers : texts_of (opened no_repository)
    ((Command.Hash (97 ∷ 98 ∷ 99 ∷ []), quiet)
    ∷ (Command.Hash ([]), quiet)
    ∷ (Command.Stat, quiet)
    ∷ (Command.Branches, quiet)
    ∷ (Command.List [], quiet) ∷ [])
    ≡ codes "hash ba7816bf8f01cfea414140de5dae2223b00361a396177a9cb410ff61f20015ad"
    ∷ codes "hash e3b0c44298fc1c149afbf4c8996fb92427ae41e4649b934ca495991b7852b855"
    ∷ codes "stat 0 0 0 idle"
    ∷ codes "branches 0"
    ∷ codes "list 0" ∷ []
unfolding played_runs
an_empty_store_answers = refl

-- bytes put under a value take its place, and the other way round; contents may be empty
a_value_gives_way_to_a_directory_and_back : texts_of (opened no_repository)
    ((Command.Set (codes "a" ∷ []) (1 ∷ []), quiet)
    ∷ (Command.Get (codes "a" ∷ []), quiet)
    ∷ (Command.Set (codes "a" ∷ codes "b" ∷ []) (2 ∷ []), quiet)
    ∷ (Command.Get (codes "a" ∷ []), quiet)
    ∷ (Command.List (codes "a" ∷ []), quiet)
    ∷ (Command.List [], quiet)
    ∷ (Command.Set (codes "a" ∷ []) (3 ∷ []), quiet)
    ∷ (Command.Get (codes "a" ∷ []), quiet)
    ∷ (Command.Get (codes "a" ∷ codes "b" ∷ []), quiet)
    ∷ (Command.List (codes "a" ∷ []), quiet)
    ∷ (Command.Set (codes "e" ∷ []) ([]), quiet)
    ∷ (Command.Get (codes "e" ∷ []), quiet) ∷ [])
    ≡ codes "ok"
    ∷ codes "value 01"
    ∷ codes "ok"
    ∷ codes "dir 1"
    ∷ codes "list 1 c:b"
    ∷ codes "list 1 d:a"
    ∷ codes "ok"
    ∷ codes "value 03"
    ∷ codes "absent"
    ∷ codes "contents"
    ∷ codes "ok"
    ∷ codes "value -" ∷ []
unfolding played_runs
a_value_gives_way_to_a_directory_and_back = refl

-- and two ways to one tree give one root
removal_leaves_no_empty_directory : texts_of (opened no_repository)
    ((Command.Set (codes "x" ∷ []) (1 ∷ []), quiet)
    ∷ (Command.Set (codes "a" ∷ codes "b" ∷ []) (2 ∷ []), quiet)
    ∷ (Command.Rm (codes "a" ∷ codes "b" ∷ []), quiet)
    ∷ (Command.Get (codes "a" ∷ []), quiet)
    ∷ (Command.Rm (codes "a" ∷ []), quiet)
    ∷ (Command.Commit (codes "main") (about 0 (codes "a") (codes "m")), quiet)
    ∷ (Command.Empty, quiet)
    ∷ (Command.Set (codes "x" ∷ []) (1 ∷ []), quiet)
    ∷ (Command.Commit (codes "dev") (about 1 (codes "a") (codes "m")), quiet)
    ∷ (Command.Show (Target.Branch (codes "main")), quiet)
    ∷ (Command.Show (Target.Branch (codes "dev")), quiet) ∷ [])
    ≡ codes "ok"
    ∷ codes "ok"
    ∷ codes "ok"
    ∷ codes "absent"
    ∷ codes "absent"
    ∷ codes "committed 30a019c15217b4e7c90d95409453ba11f3eb97a878987bf7cf78f80332d4bd92"
    ∷ codes "ok"
    ∷ codes "ok"
    ∷ codes "committed 68b479651d8cdb5f55600bcc46874a87a6dffa30aadfd20900b134ec1c9a5917"
    ∷ codes "commit 30a019c15217b4e7c90d95409453ba11f3eb97a878987bf7cf78f80332d4bd92 0 a20f85f9757b33af301358f5d1d266ac0dec6104a8ea4e066802ecca45c60010 0 a 0 m"
    ∷ codes "commit 68b479651d8cdb5f55600bcc46874a87a6dffa30aadfd20900b134ec1c9a5917 1 a20f85f9757b33af301358f5d1d266ac0dec6104a8ea4e066802ecca45c60010 1 a 0 m" ∷ []
unfolding played_runs
removal_leaves_no_empty_directory = refl

-- the path of 64 steps is one; what stands nowhere is no graft
a_graft_is_at_most_64_steps_deep : texts_of (opened no_repository)
    ((Command.Set (codes "s" ∷ codes "s" ∷ codes "s" ∷ codes "s" ∷ codes "s" ∷ codes "s" ∷ codes "s" ∷ codes "s" ∷ codes "s" ∷ codes "s" ∷ codes "s" ∷ codes "s" ∷ codes "s" ∷ codes "s" ∷ codes "s" ∷ codes "s" ∷ codes "s" ∷ codes "s" ∷ codes "s" ∷ codes "s" ∷ codes "s" ∷ codes "s" ∷ codes "s" ∷ codes "s" ∷ codes "s" ∷ codes "s" ∷ codes "s" ∷ codes "s" ∷ codes "s" ∷ codes "s" ∷ codes "s" ∷ codes "s" ∷ codes "s" ∷ codes "s" ∷ codes "s" ∷ codes "s" ∷ codes "s" ∷ codes "s" ∷ codes "s" ∷ codes "s" ∷ codes "s" ∷ codes "s" ∷ codes "s" ∷ codes "s" ∷ codes "s" ∷ codes "s" ∷ codes "s" ∷ codes "s" ∷ codes "s" ∷ codes "s" ∷ codes "s" ∷ codes "s" ∷ codes "s" ∷ codes "s" ∷ codes "s" ∷ codes "s" ∷ codes "s" ∷ codes "s" ∷ codes "s" ∷ codes "s" ∷ codes "s" ∷ codes "s" ∷ codes "s" ∷ codes "s" ∷ []) (1 ∷ []), quiet)
    ∷ (Command.Commit (codes "main") (about 0 (codes "a") (codes "m")), quiet)
    ∷ (Command.Empty, quiet)
    ∷ (Command.Graft (Target.Branch (codes "main")) [] (codes "x" ∷ []), quiet)
    ∷ (Command.Graft (Target.Branch (codes "main")) (codes "s" ∷ []) (codes "y" ∷ []), quiet)
    ∷ (Command.Graft (Target.Branch (codes "main")) (codes "q" ∷ []) (codes "y" ∷ []), quiet) ∷ [])
    ≡ codes "ok"
    ∷ codes "committed 36fb635cada890f8b7c525a3a23b1593f69b03ec8c41a54a12bf6f265e9f8b74"
    ∷ codes "ok"
    ∷ codes "limit depth"
    ∷ codes "ok"
    ∷ codes "absent" ∷ []
unfolding played_runs
a_graft_is_at_most_64_steps_deep = refl

-- the root of an empty tree has nothing at or under it; contents may be grafted, and replace what stands there
a_graft_of_nothing_is_refused : texts_of (opened no_repository)
    ((Command.Commit (codes "main") (about 0 (codes "a") (codes "m")), quiet)
    ∷ (Command.Graft (Target.Branch (codes "main")) [] (codes "x" ∷ []), quiet)
    ∷ (Command.Set (codes "a" ∷ []) (1 ∷ []), quiet)
    ∷ (Command.Commit (codes "main") (about 1 (codes "a") (codes "m")), quiet)
    ∷ (Command.Graft (Target.Branch (codes "main")) (codes "a" ∷ []) (codes "a" ∷ codes "b" ∷ []), quiet)
    ∷ (Command.List (codes "a" ∷ []), quiet)
    ∷ (Command.Graft (Target.Branch (codes "nobody")) (codes "a" ∷ []) (codes "b" ∷ []), quiet) ∷ [])
    ≡ codes "committed 363243354106fe784e750f162f5147ec8fd3d66a3f3b58508b264639b524e93c"
    ∷ codes "absent"
    ∷ codes "ok"
    ∷ codes "committed 7c9bcd64703d389ab536c8ac2bc4853afbbbe6080c2bf1db62a14071dcbd37e8"
    ∷ codes "ok"
    ∷ codes "list 1 c:b"
    ∷ codes "no-branch nobody" ∷ []
unfolding played_runs
a_graft_of_nothing_is_refused = refl

-- the reply names it
a_branch_that_is_not_there_is_named : texts_of (opened no_repository)
    ((Command.Checkout (Target.Branch (codes "x")), quiet) ∷ [])
    ≡ codes "no-branch x" ∷ []
unfolding played_runs
a_branch_that_is_not_there_is_named = refl
