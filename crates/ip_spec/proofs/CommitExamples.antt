-- Commits, branches and history.
use Rattle.std.proofs.Common.{◌≡◌, [], ◌∷◌, refl, pos, None}
use Rattle.std.specs.Prelude.{codes}
use Rattle.ip_spec.specs.Machine.{Command, Target, Exit, Limit, opened}
use Rattle.ip_spec.specs.Repository.{no_repository}
use Rattle.ip_spec.specs.Step.{quiet}
use Rattle.ip_spec.proofs.Played.{about, ended, short_of, texts_of, played_runs}

-- a commit that would have the name of a retained one, and a branch whose head is no parent of the work
equal_commits_are_refused : texts_of (opened no_repository)
    ((Command.Empty, quiet)
    ∷ (Command.Commit (codes "main") (about 0 (codes "a") (codes "m")), quiet)
    ∷ (Command.Empty, quiet)
    ∷ (Command.Commit (codes "dev") (about 0 (codes "a") (codes "m")), quiet)
    ∷ (Command.Commit (codes "main") (about 0 (codes "a") (codes "m")), quiet)
    ∷ (Command.Show (Target.Branch (codes "main")), quiet) ∷ [])
    ≡ codes "ok"
    ∷ codes "committed 363243354106fe784e750f162f5147ec8fd3d66a3f3b58508b264639b524e93c"
    ∷ codes "ok"
    ∷ codes "existing 363243354106fe784e750f162f5147ec8fd3d66a3f3b58508b264639b524e93c"
    ∷ codes "head-moved 363243354106fe784e750f162f5147ec8fd3d66a3f3b58508b264639b524e93c"
    ∷ codes "commit 363243354106fe784e750f162f5147ec8fd3d66a3f3b58508b264639b524e93c 0 395c2f5598a1643a205154c6f4c46ce36895b28e6c35660a95e5c6fd5ef9aeab 0 a 0 m" ∷ []
unfolding played_runs
equal_commits_are_refused = refl

-- two branches that took each other in
least_common_ancestors_may_be_two : texts_of (opened no_repository)
    ((Command.Empty, quiet)
    ∷ (Command.Commit (codes "main") (about 0 (codes "a") (codes "m")), quiet)
    ∷ (Command.Branch (codes "dev") (Target.Branch (codes "main")), quiet)
    ∷ (Command.Commit (codes "main") (about 1 (codes "a") (codes "m")), quiet)
    ∷ (Command.Checkout (Target.Branch (codes "dev")), quiet)
    ∷ (Command.Commit (codes "dev") (about 2 (codes "a") (codes "m")), quiet)
    ∷ (Command.Parent (Target.Branch (codes "main")), quiet)
    ∷ (Command.Commit (codes "dev") (about 3 (codes "a") (codes "m")), quiet)
    ∷ (Command.Checkout (Target.Branch (codes "main")), quiet)
    ∷ (Command.Parent (Target.Commit (87 ∷ 252 ∷ 15 ∷ 118 ∷ 182 ∷ 56 ∷ 17 ∷ 241 ∷ 97 ∷ 203 ∷ 106 ∷ 240 ∷ 34 ∷ 105 ∷ 52 ∷ 117 ∷ 113 ∷ 144 ∷ 254 ∷ 233 ∷ 170 ∷ 41 ∷ 110 ∷ 31 ∷ 13 ∷ 73 ∷ 43 ∷ 42 ∷ 138 ∷ 48 ∷ 3 ∷ 11 ∷ [])), quiet)
    ∷ (Command.Commit (codes "main") (about 4 (codes "a") (codes "m")), quiet)
    ∷ (Command.Lcas (Target.Branch (codes "main")) (Target.Branch (codes "dev")), quiet)
    ∷ (Command.Log (Target.Branch (codes "main")), quiet) ∷ [])
    ≡ codes "ok"
    ∷ codes "committed 363243354106fe784e750f162f5147ec8fd3d66a3f3b58508b264639b524e93c"
    ∷ codes "ok"
    ∷ codes "committed 1366c1c03c34a972b7854fdefc37f0b5f58ccaa59aed457f2a1142af22b8b1d3"
    ∷ codes "at 363243354106fe784e750f162f5147ec8fd3d66a3f3b58508b264639b524e93c"
    ∷ codes "committed 57fc0f76b63811f161cb6af0226934757190fee9aa296e1f0d492b2a8a30030b"
    ∷ codes "ok"
    ∷ codes "committed ed84de8377a813c8fe11d6d53a81fd3a69413e9a75726f4f9a980733d339bb16"
    ∷ codes "at 1366c1c03c34a972b7854fdefc37f0b5f58ccaa59aed457f2a1142af22b8b1d3"
    ∷ codes "ok"
    ∷ codes "committed 91dd77e7a60aefa9e45a12f0e5a7570fe390adf054b0658b84da997729c332cd"
    ∷ codes "lcas 2 1366c1c03c34a972b7854fdefc37f0b5f58ccaa59aed457f2a1142af22b8b1d3 57fc0f76b63811f161cb6af0226934757190fee9aa296e1f0d492b2a8a30030b"
    ∷ codes "log 4 91dd77e7a60aefa9e45a12f0e5a7570fe390adf054b0658b84da997729c332cd 57fc0f76b63811f161cb6af0226934757190fee9aa296e1f0d492b2a8a30030b 1366c1c03c34a972b7854fdefc37f0b5f58ccaa59aed457f2a1142af22b8b1d3 363243354106fe784e750f162f5147ec8fd3d66a3f3b58508b264639b524e93c" ∷ []
unfolding played_runs
least_common_ancestors_may_be_two = refl

-- below the floor a name is free again, and a parent there is shown and nobody's ancestor
a_given_up_name_may_come_again : texts_of (opened no_repository)
    ((Command.Empty, quiet)
    ∷ (Command.Commit (codes "main") (about 0 (codes "a") (codes "m")), quiet)
    ∷ (Command.Checkout (Target.Branch (codes "main")), quiet)
    ∷ (Command.Set (codes "k" ∷ []) (1 ∷ []), quiet)
    ∷ (Command.Commit (codes "main") (about 1 (codes "a") (codes "m")), quiet)
    ∷ (Command.Collect (Target.Branch (codes "main")), quiet)
    ∷ (Command.Finish, ended (Exit.Code (pos 0)) None)
    ∷ (Command.Empty, quiet)
    ∷ (Command.Commit (codes "re") (about 0 (codes "a") (codes "m")), quiet)
    ∷ (Command.Log (Target.Branch (codes "main")), quiet)
    ∷ (Command.Lcas (Target.Branch (codes "main")) (Target.Branch (codes "re")), quiet)
    ∷ (Command.Show (Target.Branch (codes "main")), quiet) ∷ [])
    ≡ codes "ok"
    ∷ codes "committed 363243354106fe784e750f162f5147ec8fd3d66a3f3b58508b264639b524e93c"
    ∷ codes "at 363243354106fe784e750f162f5147ec8fd3d66a3f3b58508b264639b524e93c"
    ∷ codes "ok"
    ∷ codes "committed ada2529aa9b9b6a3295405b90ca6cf80153239f0c89be3edc0f3afb21889b129"
    ∷ codes "started ada2529aa9b9b6a3295405b90ca6cf80153239f0c89be3edc0f3afb21889b129"
    ∷ codes "collected 1"
    ∷ codes "ok"
    ∷ codes "committed 363243354106fe784e750f162f5147ec8fd3d66a3f3b58508b264639b524e93c"
    ∷ codes "log 1 ada2529aa9b9b6a3295405b90ca6cf80153239f0c89be3edc0f3afb21889b129"
    ∷ codes "lcas 0"
    ∷ codes "commit ada2529aa9b9b6a3295405b90ca6cf80153239f0c89be3edc0f3afb21889b129 1 3b0a8a781e3bf3aba7a7ae7b2f06387049a919f002a8b80f56e93e1a37464ce5 1 a 1 363243354106fe784e750f162f5147ec8fd3d66a3f3b58508b264639b524e93c m" ∷ []
unfolding played_runs
a_given_up_name_may_come_again = refl

-- a commit that is a parent already needs no room
a_seventeenth_parent_is_refused : texts_of (opened no_repository)
    ((Command.Empty, quiet)
    ∷ (Command.Commit (codes "b0") (about 0 (codes "a") (codes "m")), quiet)
    ∷ (Command.Empty, quiet)
    ∷ (Command.Commit (codes "b1") (about 1 (codes "a") (codes "m")), quiet)
    ∷ (Command.Empty, quiet)
    ∷ (Command.Commit (codes "b2") (about 2 (codes "a") (codes "m")), quiet)
    ∷ (Command.Empty, quiet)
    ∷ (Command.Commit (codes "b3") (about 3 (codes "a") (codes "m")), quiet)
    ∷ (Command.Empty, quiet)
    ∷ (Command.Commit (codes "b4") (about 4 (codes "a") (codes "m")), quiet)
    ∷ (Command.Empty, quiet)
    ∷ (Command.Commit (codes "b5") (about 5 (codes "a") (codes "m")), quiet)
    ∷ (Command.Empty, quiet)
    ∷ (Command.Commit (codes "b6") (about 6 (codes "a") (codes "m")), quiet)
    ∷ (Command.Empty, quiet)
    ∷ (Command.Commit (codes "b7") (about 7 (codes "a") (codes "m")), quiet)
    ∷ (Command.Empty, quiet)
    ∷ (Command.Commit (codes "b8") (about 8 (codes "a") (codes "m")), quiet)
    ∷ (Command.Empty, quiet)
    ∷ (Command.Commit (codes "b9") (about 9 (codes "a") (codes "m")), quiet)
    ∷ (Command.Empty, quiet)
    ∷ (Command.Commit (codes "b10") (about 10 (codes "a") (codes "m")), quiet)
    ∷ (Command.Empty, quiet)
    ∷ (Command.Commit (codes "b11") (about 11 (codes "a") (codes "m")), quiet)
    ∷ (Command.Empty, quiet)
    ∷ (Command.Commit (codes "b12") (about 12 (codes "a") (codes "m")), quiet)
    ∷ (Command.Empty, quiet)
    ∷ (Command.Commit (codes "b13") (about 13 (codes "a") (codes "m")), quiet)
    ∷ (Command.Empty, quiet)
    ∷ (Command.Commit (codes "b14") (about 14 (codes "a") (codes "m")), quiet)
    ∷ (Command.Empty, quiet)
    ∷ (Command.Commit (codes "b15") (about 15 (codes "a") (codes "m")), quiet)
    ∷ (Command.Empty, quiet)
    ∷ (Command.Commit (codes "b16") (about 16 (codes "a") (codes "m")), quiet)
    ∷ (Command.Empty, quiet)
    ∷ (Command.Parent (Target.Branch (codes "b0")), quiet)
    ∷ (Command.Parent (Target.Branch (codes "b1")), quiet)
    ∷ (Command.Parent (Target.Branch (codes "b2")), quiet)
    ∷ (Command.Parent (Target.Branch (codes "b3")), quiet)
    ∷ (Command.Parent (Target.Branch (codes "b4")), quiet)
    ∷ (Command.Parent (Target.Branch (codes "b5")), quiet)
    ∷ (Command.Parent (Target.Branch (codes "b6")), quiet)
    ∷ (Command.Parent (Target.Branch (codes "b7")), quiet)
    ∷ (Command.Parent (Target.Branch (codes "b8")), quiet)
    ∷ (Command.Parent (Target.Branch (codes "b9")), quiet)
    ∷ (Command.Parent (Target.Branch (codes "b10")), quiet)
    ∷ (Command.Parent (Target.Branch (codes "b11")), quiet)
    ∷ (Command.Parent (Target.Branch (codes "b12")), quiet)
    ∷ (Command.Parent (Target.Branch (codes "b13")), quiet)
    ∷ (Command.Parent (Target.Branch (codes "b14")), quiet)
    ∷ (Command.Parent (Target.Branch (codes "b15")), quiet)
    ∷ (Command.Parent (Target.Branch (codes "b16")), quiet)
    ∷ (Command.Parent (Target.Branch (codes "b0")), quiet) ∷ [])
    ≡ codes "ok"
    ∷ codes "committed 363243354106fe784e750f162f5147ec8fd3d66a3f3b58508b264639b524e93c"
    ∷ codes "ok"
    ∷ codes "committed aaf4693d1fd27f222dca0de7a762546962e555cdde761f44d66811de9582f29a"
    ∷ codes "ok"
    ∷ codes "committed 597d05fd300950e4de46849d916b8cdd1f717451f36a0f3c5f9f85e2925e440a"
    ∷ codes "ok"
    ∷ codes "committed 18ae4c5046afc43b57d13837294d6f2ec74e7d14c30dccad844f8faa7a23cb98"
    ∷ codes "ok"
    ∷ codes "committed 3a72c26e8532beb319a4b8d243229997eda8ae847226fd0cbdee8ef624deea44"
    ∷ codes "ok"
    ∷ codes "committed 50213bc52e7ef568b6cc33e7debe2c090eeb5eee30de1ca8a9b0854367f56938"
    ∷ codes "ok"
    ∷ codes "committed 507a5006f4e9b1f4d7565ff8fa680348c010859c0b53154b66bef3a9074fcdc2"
    ∷ codes "ok"
    ∷ codes "committed a4b809c50458b0828ba041c8a9852a8acf4dbe6b451d4635a2447404e91e9e98"
    ∷ codes "ok"
    ∷ codes "committed 1f00225ba714e1c8762efd8b25d5a60f80d2c2eb8e8904948aa83e1fcf714514"
    ∷ codes "ok"
    ∷ codes "committed 5b1fd5874b0af484be7dc03bbc3a1e53c5dde0538b13edd988b0e0d98b379def"
    ∷ codes "ok"
    ∷ codes "committed c44e702e90362d371b3fd10f87dda950ba868a5b21d9a500722ab2f7a9e74554"
    ∷ codes "ok"
    ∷ codes "committed 26d287adbc1c45973a5b130176e87681c4ee9e0e154b3784a84f37dce12cfc7c"
    ∷ codes "ok"
    ∷ codes "committed 96ee8341cf5c0a983e4958206e76fa89f4f298fd25cd3959d623a46bf7517eb9"
    ∷ codes "ok"
    ∷ codes "committed 8bf4c46b1c482b611b3b31518c3b20ed367bd7369a8cc13c394bce9c9726304e"
    ∷ codes "ok"
    ∷ codes "committed f8c88777f968761446f3fa7639981d58d82752e6a96a556ecb9e1760ed104b7b"
    ∷ codes "ok"
    ∷ codes "committed 24293b11a2f1db114482e109783943c6c251a0ce30699e6e4aad173656dd304c"
    ∷ codes "ok"
    ∷ codes "committed d5e377537b9e872d6c8e627e2551dd9ab1c1ea52ee515d9ff10d01a603687766"
    ∷ codes "ok"
    ∷ codes "ok"
    ∷ codes "ok"
    ∷ codes "ok"
    ∷ codes "ok"
    ∷ codes "ok"
    ∷ codes "ok"
    ∷ codes "ok"
    ∷ codes "ok"
    ∷ codes "ok"
    ∷ codes "ok"
    ∷ codes "ok"
    ∷ codes "ok"
    ∷ codes "ok"
    ∷ codes "ok"
    ∷ codes "ok"
    ∷ codes "ok"
    ∷ codes "limit parents"
    ∷ codes "ok" ∷ []
unfolding played_runs
a_seventeenth_parent_is_refused = refl

-- each of the two, of every command that appends, after its other refusals
short_space_and_sequence_refuse_what_appends : texts_of (opened no_repository)
    ((Command.Commit (codes "main") (about 0 (codes "a") (codes "m")), quiet)
    ∷ (Command.Commit (codes "main") (about 1 (codes "a") (codes "m")), short_of Limit.Space)
    ∷ (Command.Commit (codes "main") (about 1 (codes "a") (codes "m")), short_of Limit.Sequence)
    ∷ (Command.Branch (codes "dev") (Target.Branch (codes "main")), short_of Limit.Space)
    ∷ (Command.Branch (codes "dev") (Target.Branch (codes "main")), short_of Limit.Sequence)
    ∷ (Command.BranchRm (codes "main"), short_of Limit.Space)
    ∷ (Command.BranchRm (codes "dev"), short_of Limit.Space)
    ∷ (Command.Branch (codes "dev") (Target.Branch (codes "main")), quiet)
    ∷ (Command.Commit (codes "main") (about 1 (codes "a") (codes "m")), quiet)
    ∷ (Command.Merge (Target.Branch (codes "main")) (codes "dev") (about 2 (codes "a") (codes "m")), short_of Limit.Space)
    ∷ (Command.Merge (Target.Branch (codes "main")) (codes "dev") (about 2 (codes "a") (codes "m")), short_of Limit.Sequence)
    ∷ (Command.Merge (Target.Branch (codes "main")) (codes "dev") (about 2 (codes "a") (codes "m")), quiet)
    ∷ (Command.Collect (Target.Branch (codes "main")), short_of Limit.Attempt)
    ∷ (Command.Collect (Target.Branch (codes "main")), short_of Limit.Space)
    ∷ (Command.Stat, quiet) ∷ [])
    ≡ codes "committed 363243354106fe784e750f162f5147ec8fd3d66a3f3b58508b264639b524e93c"
    ∷ codes "limit space"
    ∷ codes "limit sequence"
    ∷ codes "limit space"
    ∷ codes "limit sequence"
    ∷ codes "limit space"
    ∷ codes "no-branch dev"
    ∷ codes "ok"
    ∷ codes "committed 1366c1c03c34a972b7854fdefc37f0b5f58ccaa59aed457f2a1142af22b8b1d3"
    ∷ codes "limit space"
    ∷ codes "limit sequence"
    ∷ codes "forward 1366c1c03c34a972b7854fdefc37f0b5f58ccaa59aed457f2a1142af22b8b1d3"
    ∷ codes "limit attempt"
    ∷ codes "limit space"
    ∷ codes "stat 0 2 2 idle" ∷ []
unfolding played_runs
short_space_and_sequence_refuse_what_appends = refl
