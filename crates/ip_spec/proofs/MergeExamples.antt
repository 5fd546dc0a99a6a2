-- Merges, over one ancestor at most and over several.
use Rattle.std.proofs.Common.{◌≡◌, [], ◌∷◌, refl}
use Rattle.std.specs.Prelude.{codes}
use Rattle.ip_spec.specs.Machine.{Command, Target, Limit, opened}
use Rattle.ip_spec.specs.Repository.{no_repository}
use Rattle.ip_spec.specs.Step.{quiet}
use Rattle.ip_spec.proofs.Played.{about, short_of, texts_of, texts_over_bases, texts_joined, played_runs}

-- no commit is an ancestor of both
equal_values_merge_without_an_ancestor : texts_of (opened no_repository)
    ((Command.Set (codes "k" ∷ []) (1 ∷ []), quiet)
    ∷ (Command.Commit (codes "main") (about 0 (codes "a") (codes "m")), quiet)
    ∷ (Command.Empty, quiet)
    ∷ (Command.Set (codes "k" ∷ []) (1 ∷ []), quiet)
    ∷ (Command.Commit (codes "dev") (about 1 (codes "a") (codes "m")), quiet)
    ∷ (Command.Lcas (Target.Branch (codes "main")) (Target.Branch (codes "dev")), quiet)
    ∷ (Command.Merge (Target.Branch (codes "dev")) (codes "main") (about 2 (codes "a") (codes "m")), quiet) ∷ [])
    ≡ codes "ok"
    ∷ codes "committed 571ffe90a283223a2d630b786eff9b4c1fe990a15307903ee35e5d7d8fb3ecf8"
    ∷ codes "ok"
    ∷ codes "ok"
    ∷ codes "committed 7d29e1429b397530c9e6ded44377fb78ab4b70507a9969037b049318ff61a72a"
    ∷ codes "lcas 0"
    ∷ codes "merged 4da04a9a27c8a0379de51a415eee1ffc9745ff1837b735cb7fbb2f1076967028" ∷ []
unfolding played_runs
equal_values_merge_without_an_ancestor = refl

-- under the rule of equal sides
different_values_conflict : texts_of (opened no_repository)
    ((Command.Set (codes "k" ∷ []) (1 ∷ []), quiet)
    ∷ (Command.Commit (codes "main") (about 0 (codes "a") (codes "m")), quiet)
    ∷ (Command.Empty, quiet)
    ∷ (Command.Set (codes "k" ∷ []) (2 ∷ []), quiet)
    ∷ (Command.Commit (codes "dev") (about 1 (codes "a") (codes "m")), quiet)
    ∷ (Command.Merge (Target.Branch (codes "dev")) (codes "main") (about 2 (codes "a") (codes "m")), quiet) ∷ [])
    ≡ codes "ok"
    ∷ codes "committed 571ffe90a283223a2d630b786eff9b4c1fe990a15307903ee35e5d7d8fb3ecf8"
    ∷ codes "ok"
    ∷ codes "ok"
    ∷ codes "committed 1d43cb724d7d35f3b457b2772da098b57753b4ecaac9405737b281fb827e1075"
    ∷ codes "conflict k" ∷ []
unfolding played_runs
different_values_conflict = refl

-- what each side adds to the ancestor
counters_add : texts_of (opened no_repository)
    ((Command.Set (codes "count" ∷ codes "n" ∷ []) (49 ∷ 48 ∷ []), quiet)
    ∷ (Command.Commit (codes "main") (about 0 (codes "a") (codes "m")), quiet)
    ∷ (Command.Branch (codes "dev") (Target.Branch (codes "main")), quiet)
    ∷ (Command.Set (codes "count" ∷ codes "n" ∷ []) (49 ∷ 51 ∷ []), quiet)
    ∷ (Command.Commit (codes "main") (about 1 (codes "a") (codes "m")), quiet)
    ∷ (Command.Checkout (Target.Branch (codes "dev")), quiet)
    ∷ (Command.Set (codes "count" ∷ codes "n" ∷ []) (56 ∷ []), quiet)
    ∷ (Command.Commit (codes "dev") (about 2 (codes "a") (codes "m")), quiet)
    ∷ (Command.Merge (Target.Branch (codes "dev")) (codes "main") (about 3 (codes "a") (codes "m")), quiet)
    ∷ (Command.Cat (Target.Branch (codes "main")) (codes "count" ∷ codes "n" ∷ []), quiet) ∷ [])
    ≡ codes "ok"
    ∷ codes "committed 1b9eb091890248c59eadace5e04353d503d8b1f0b0117c5b2e9ded08e7d6e394"
    ∷ codes "ok"
    ∷ codes "ok"
    ∷ codes "committed 83f4b60e443b96215ea0bf2d0b48c43efee1cc69b88be93ae8f241ba420b8cb5"
    ∷ codes "at 1b9eb091890248c59eadace5e04353d503d8b1f0b0117c5b2e9ded08e7d6e394"
    ∷ codes "ok"
    ∷ codes "committed 11150f066c3ed129257d4c7ab0e8295fef63a73e0a67c1d619b2d16b4dc5ebc9"
    ∷ codes "merged ab234bac678ef5ccf5d471711ba85f86796978a1ab535e68e9413e4748672245"
    ∷ codes "value 3131" ∷ []
unfolding played_runs
counters_add = refl

-- the counter's numbers have 64 bits, one of them the sign
a_sum_beyond_64_bits_conflicts : texts_of (opened no_repository)
    ((Command.Set (codes "count" ∷ codes "n" ∷ []) (48 ∷ []), quiet)
    ∷ (Command.Commit (codes "main") (about 0 (codes "a") (codes "m")), quiet)
    ∷ (Command.Branch (codes "dev") (Target.Branch (codes "main")), quiet)
    ∷ (Command.Set (codes "count" ∷ codes "n" ∷ []) (57 ∷ 50 ∷ 50 ∷ 51 ∷ 51 ∷ 55 ∷ 50 ∷ 48 ∷ 51 ∷ 54 ∷ 56 ∷ 53 ∷ 52 ∷ 55 ∷ 55 ∷ 53 ∷ 56 ∷ 48 ∷ 55 ∷ []), quiet)
    ∷ (Command.Commit (codes "main") (about 1 (codes "a") (codes "m")), quiet)
    ∷ (Command.Checkout (Target.Branch (codes "dev")), quiet)
    ∷ (Command.Set (codes "count" ∷ codes "n" ∷ []) (49 ∷ []), quiet)
    ∷ (Command.Commit (codes "dev") (about 2 (codes "a") (codes "m")), quiet)
    ∷ (Command.Merge (Target.Branch (codes "dev")) (codes "main") (about 3 (codes "a") (codes "m")), quiet) ∷ [])
    ≡ codes "ok"
    ∷ codes "committed 79763fe59740006a03bfd17dad026f1c6fbbcfc212121d2d984a507039f98d61"
    ∷ codes "ok"
    ∷ codes "ok"
    ∷ codes "committed 20e4f934076dc05b6f4086924060b65e2bdd7a87ac553c950aeb1142fc508b31"
    ∷ codes "at 79763fe59740006a03bfd17dad026f1c6fbbcfc212121d2d984a507039f98d61"
    ∷ codes "ok"
    ∷ codes "committed 8b5a744337410f5541e6d7513bcbf8ad918d190cbc2a4295b8b598ebcfc5886f"
    ∷ codes "conflict count/n" ∷ []
unfolding played_runs
a_sum_beyond_64_bits_conflicts = refl

-- each path by itself has a value, and one of them is a prefix of the other
a_value_above_a_value_conflicts : texts_of (opened no_repository)
    ((Command.Set (codes "a" ∷ []) (1 ∷ []), quiet)
    ∷ (Command.Commit (codes "main") (about 0 (codes "a") (codes "m")), quiet)
    ∷ (Command.Empty, quiet)
    ∷ (Command.Set (codes "a" ∷ codes "b" ∷ []) (1 ∷ []), quiet)
    ∷ (Command.Commit (codes "dev") (about 1 (codes "a") (codes "m")), quiet)
    ∷ (Command.Merge (Target.Branch (codes "dev")) (codes "main") (about 2 (codes "a") (codes "m")), quiet) ∷ [])
    ≡ codes "ok"
    ∷ codes "committed da267306044e5f45350fe52ae5ff610a2ea2c11cca90ab7a85cb3685893e192b"
    ∷ codes "ok"
    ∷ codes "ok"
    ∷ codes "committed d37aa23f19579c26f47202f735ad80594a7c1c91fad552b01fdfe7929ee42b8b"
    ∷ codes "conflict a" ∷ []
unfolding played_runs
a_value_above_a_value_conflicts = refl

-- and a merge that is there already, and a branch that goes forward
two_ancestors_are_refused_by_the_machine_of_one : texts_of (opened no_repository)
    ((Command.Empty, quiet)
    ∷ (Command.Commit (codes "main") (about 0 (codes "a") (codes "m")), quiet)
    ∷ (Command.Branch (codes "dev") (Target.Branch (codes "main")), quiet)
    ∷ (Command.Branch (codes "old") (Target.Branch (codes "main")), quiet)
    ∷ (Command.Set (codes "b" ∷ []) (1 ∷ []), quiet)
    ∷ (Command.Commit (codes "main") (about 1 (codes "a") (codes "m")), quiet)
    ∷ (Command.Checkout (Target.Branch (codes "dev")), quiet)
    ∷ (Command.Set (codes "c" ∷ []) (1 ∷ []), quiet)
    ∷ (Command.Commit (codes "dev") (about 2 (codes "a") (codes "m")), quiet)
    ∷ (Command.Merge (Target.Branch (codes "dev")) (codes "main") (about 3 (codes "a") (codes "m")), quiet)
    ∷ (Command.Merge (Target.Commit (184 ∷ 144 ∷ 161 ∷ 188 ∷ 135 ∷ 43 ∷ 170 ∷ 116 ∷ 172 ∷ 169 ∷ 81 ∷ 118 ∷ 182 ∷ 105 ∷ 165 ∷ 7 ∷ 148 ∷ 94 ∷ 103 ∷ 72 ∷ 221 ∷ 89 ∷ 214 ∷ 59 ∷ 147 ∷ 87 ∷ 74 ∷ 152 ∷ 169 ∷ 177 ∷ 188 ∷ 129 ∷ [])) (codes "dev") (about 4 (codes "a") (codes "m")), quiet)
    ∷ (Command.Lcas (Target.Branch (codes "main")) (Target.Branch (codes "dev")), quiet)
    ∷ (Command.Merge (Target.Branch (codes "dev")) (codes "main") (about 5 (codes "a") (codes "m")), quiet)
    ∷ (Command.Merge (Target.Commit (54 ∷ 50 ∷ 67 ∷ 53 ∷ 65 ∷ 6 ∷ 254 ∷ 120 ∷ 78 ∷ 117 ∷ 15 ∷ 22 ∷ 47 ∷ 81 ∷ 71 ∷ 236 ∷ 143 ∷ 211 ∷ 214 ∷ 106 ∷ 63 ∷ 59 ∷ 88 ∷ 80 ∷ 139 ∷ 38 ∷ 70 ∷ 57 ∷ 181 ∷ 36 ∷ 233 ∷ 60 ∷ [])) (codes "main") (about 5 (codes "a") (codes "m")), quiet)
    ∷ (Command.Merge (Target.Branch (codes "main")) (codes "old") (about 5 (codes "a") (codes "m")), quiet) ∷ [])
    ≡ codes "ok"
    ∷ codes "committed 363243354106fe784e750f162f5147ec8fd3d66a3f3b58508b264639b524e93c"
    ∷ codes "ok"
    ∷ codes "ok"
    ∷ codes "ok"
    ∷ codes "committed b890a1bc872baa74aca95176b669a507945e6748dd59d63b93574a98a9b1bc81"
    ∷ codes "at 363243354106fe784e750f162f5147ec8fd3d66a3f3b58508b264639b524e93c"
    ∷ codes "ok"
    ∷ codes "committed 5784781ce8579c09224bd61a00dacacdd7e2bfa4d8198425de36bc4fb87a7b19"
    ∷ codes "merged 1d782596d5624d98cc8fcc79c3d20484e0fa90a0576e04903fe8d6fb20443b72"
    ∷ codes "merged f1abc24ed16c373b036c78e98dd0203a443f9f92a7dabe5cc66aa983e8e29bc6"
    ∷ codes "lcas 2 b890a1bc872baa74aca95176b669a507945e6748dd59d63b93574a98a9b1bc81 5784781ce8579c09224bd61a00dacacdd7e2bfa4d8198425de36bc4fb87a7b19"
    ∷ codes "bases 2"
    ∷ codes "current 1d782596d5624d98cc8fcc79c3d20484e0fa90a0576e04903fe8d6fb20443b72"
    ∷ codes "forward 1d782596d5624d98cc8fcc79c3d20484e0fa90a0576e04903fe8d6fb20443b72" ∷ []
unfolding played_runs
two_ancestors_are_refused_by_the_machine_of_one = refl

-- a rule at one path, and then the other branch goes forward
a_rule_of_the_caller_decides : texts_joined (opened no_repository)
    ((Command.Set (codes "joined" ∷ codes "x" ∷ []) (1 ∷ []), quiet)
    ∷ (Command.Commit (codes "main") (about 0 (codes "a") (codes "m")), quiet)
    ∷ (Command.Empty, quiet)
    ∷ (Command.Set (codes "joined" ∷ codes "x" ∷ []) (2 ∷ []), quiet)
    ∷ (Command.Commit (codes "dev") (about 1 (codes "a") (codes "m")), quiet)
    ∷ (Command.Merge (Target.Branch (codes "dev")) (codes "main") (about 2 (codes "a") (codes "m")), quiet)
    ∷ (Command.Cat (Target.Branch (codes "main")) (codes "joined" ∷ codes "x" ∷ []), quiet)
    ∷ (Command.Merge (Target.Branch (codes "main")) (codes "dev") (about 3 (codes "a") (codes "m")), quiet) ∷ [])
    ≡ codes "ok"
    ∷ codes "committed ce872989962db7dbb032f99cb808bbbad20d68aca459a24dfbdee2d4220f5099"
    ∷ codes "ok"
    ∷ codes "ok"
    ∷ codes "committed 8d03a41818a35df550925ead62407e50633869bf27fdcf0b5aec910cd8a49944"
    ∷ codes "merged dd7004f68621221c213976060a791ae722ca18d584e30e390194a29b60a424df"
    ∷ codes "value 0102"
    ∷ codes "forward dd7004f68621221c213976060a791ae722ca18d584e30e390194a29b60a424df" ∷ []
unfolding played_runs
a_rule_of_the_caller_decides = refl

-- the commit, the branch, the name that a retained commit has, then space
refusals_of_a_merge_have_an_order : texts_of (opened no_repository)
    ((Command.Merge (Target.Branch (codes "dev")) (codes "main") (about 2 (codes "a") (codes "m")), quiet)
    ∷ (Command.Set (codes "k" ∷ []) (1 ∷ []), quiet)
    ∷ (Command.Commit (codes "main") (about 0 (codes "a") (codes "m")), quiet)
    ∷ (Command.Merge (Target.Branch (codes "main")) (codes "dev") (about 2 (codes "a") (codes "m")), quiet)
    ∷ (Command.Empty, quiet)
    ∷ (Command.Set (codes "k" ∷ []) (1 ∷ []), quiet)
    ∷ (Command.Commit (codes "dev") (about 1 (codes "a") (codes "m")), quiet)
    ∷ (Command.Parent (Target.Branch (codes "main")), quiet)
    ∷ (Command.Checkout (Target.Branch (codes "main")), quiet)
    ∷ (Command.Parent (Target.Branch (codes "dev")), quiet)
    ∷ (Command.Commit (codes "both") (about 2 (codes "a") (codes "m")), quiet)
    ∷ (Command.Merge (Target.Branch (codes "dev")) (codes "main") (about 2 (codes "a") (codes "m")), short_of Limit.Space)
    ∷ (Command.Merge (Target.Branch (codes "dev")) (codes "main") (about 3 (codes "a") (codes "m")), short_of Limit.Space)
    ∷ (Command.Merge (Target.Branch (codes "dev")) (codes "main") (about 3 (codes "a") (codes "m")), short_of Limit.Sequence) ∷ [])
    ≡ codes "no-branch dev"
    ∷ codes "ok"
    ∷ codes "committed 571ffe90a283223a2d630b786eff9b4c1fe990a15307903ee35e5d7d8fb3ecf8"
    ∷ codes "no-branch dev"
    ∷ codes "ok"
    ∷ codes "ok"
    ∷ codes "committed 7d29e1429b397530c9e6ded44377fb78ab4b70507a9969037b049318ff61a72a"
    ∷ codes "ok"
    ∷ codes "at 571ffe90a283223a2d630b786eff9b4c1fe990a15307903ee35e5d7d8fb3ecf8"
    ∷ codes "ok"
    ∷ codes "committed 4da04a9a27c8a0379de51a415eee1ffc9745ff1837b735cb7fbb2f1076967028"
    ∷ codes "existing 4da04a9a27c8a0379de51a415eee1ffc9745ff1837b735cb7fbb2f1076967028"
    ∷ codes "limit space"
    ∷ codes "limit sequence" ∷ []
unfolding played_runs
refusals_of_a_merge_have_an_order = refl

-- by the same rules; the first ancestor alone would give 22
several_ancestors_are_merged_first : texts_over_bases (opened no_repository)
    ((Command.Set (codes "count" ∷ codes "n" ∷ []) (49 ∷ 48 ∷ []), quiet)
    ∷ (Command.Commit (codes "main") (about 0 (codes "a") (codes "m")), quiet)
    ∷ (Command.Branch (codes "dev") (Target.Branch (codes "main")), quiet)
    ∷ (Command.Set (codes "count" ∷ codes "n" ∷ []) (49 ∷ 51 ∷ []), quiet)
    ∷ (Command.Commit (codes "main") (about 1 (codes "a") (codes "m")), quiet)
    ∷ (Command.Checkout (Target.Branch (codes "dev")), quiet)
    ∷ (Command.Set (codes "count" ∷ codes "n" ∷ []) (56 ∷ []), quiet)
    ∷ (Command.Commit (codes "dev") (about 2 (codes "a") (codes "m")), quiet)
    ∷ (Command.Parent (Target.Branch (codes "main")), quiet)
    ∷ (Command.Set (codes "count" ∷ codes "n" ∷ []) (50 ∷ 48 ∷ []), quiet)
    ∷ (Command.Commit (codes "dev") (about 3 (codes "a") (codes "m")), quiet)
    ∷ (Command.Checkout (Target.Commit (131 ∷ 244 ∷ 182 ∷ 14 ∷ 68 ∷ 59 ∷ 150 ∷ 33 ∷ 94 ∷ 160 ∷ 191 ∷ 45 ∷ 11 ∷ 72 ∷ 196 ∷ 62 ∷ 254 ∷ 225 ∷ 204 ∷ 105 ∷ 184 ∷ 139 ∷ 233 ∷ 58 ∷ 232 ∷ 242 ∷ 65 ∷ 186 ∷ 66 ∷ 11 ∷ 140 ∷ 181 ∷ [])), quiet)
    ∷ (Command.Parent (Target.Commit (17 ∷ 21 ∷ 15 ∷ 6 ∷ 108 ∷ 62 ∷ 209 ∷ 41 ∷ 37 ∷ 125 ∷ 76 ∷ 122 ∷ 176 ∷ 232 ∷ 41 ∷ 95 ∷ 239 ∷ 99 ∷ 167 ∷ 62 ∷ 10 ∷ 103 ∷ 193 ∷ 214 ∷ 25 ∷ 178 ∷ 209 ∷ 107 ∷ 77 ∷ 197 ∷ 235 ∷ 201 ∷ [])), quiet)
    ∷ (Command.Set (codes "count" ∷ codes "n" ∷ []) (49 ∷ 53 ∷ []), quiet)
    ∷ (Command.Commit (codes "main") (about 4 (codes "a") (codes "m")), quiet)
    ∷ (Command.Merge (Target.Branch (codes "dev")) (codes "main") (about 5 (codes "a") (codes "m")), quiet)
    ∷ (Command.Cat (Target.Branch (codes "main")) (codes "count" ∷ codes "n" ∷ []), quiet) ∷ [])
    ≡ codes "ok"
    ∷ codes "committed 1b9eb091890248c59eadace5e04353d503d8b1f0b0117c5b2e9ded08e7d6e394"
    ∷ codes "ok"
    ∷ codes "ok"
    ∷ codes "committed 83f4b60e443b96215ea0bf2d0b48c43efee1cc69b88be93ae8f241ba420b8cb5"
    ∷ codes "at 1b9eb091890248c59eadace5e04353d503d8b1f0b0117c5b2e9ded08e7d6e394"
    ∷ codes "ok"
    ∷ codes "committed 11150f066c3ed129257d4c7ab0e8295fef63a73e0a67c1d619b2d16b4dc5ebc9"
    ∷ codes "ok"
    ∷ codes "ok"
    ∷ codes "committed 5326da32277d971672b0db096a71403a33351280b8c4b15a90c2b2ee00b848cf"
    ∷ codes "at 83f4b60e443b96215ea0bf2d0b48c43efee1cc69b88be93ae8f241ba420b8cb5"
    ∷ codes "ok"
    ∷ codes "ok"
    ∷ codes "committed 57526ed53e18961710eaac43bc528d17e090306d9c75cc15a222a2f958e66c8b"
    ∷ codes "merged 10e61c6d85dfdbfddb6e2fc4a85ceb5fb1c6afe6fc53a58eb9be33612316b9ec"
    ∷ codes "value 3234" ∷ []
unfolding played_runs
several_ancestors_are_merged_first = refl

-- though the sides alone would have none
a_conflict_of_the_ancestors_is_the_answer : texts_over_bases (opened no_repository)
    ((Command.Empty, quiet)
    ∷ (Command.Commit (codes "main") (about 0 (codes "a") (codes "m")), quiet)
    ∷ (Command.Branch (codes "dev") (Target.Branch (codes "main")), quiet)
    ∷ (Command.Set (codes "x" ∷ []) (1 ∷ []), quiet)
    ∷ (Command.Commit (codes "main") (about 1 (codes "a") (codes "m")), quiet)
    ∷ (Command.Checkout (Target.Branch (codes "dev")), quiet)
    ∷ (Command.Set (codes "x" ∷ []) (2 ∷ []), quiet)
    ∷ (Command.Commit (codes "dev") (about 2 (codes "a") (codes "m")), quiet)
    ∷ (Command.Parent (Target.Branch (codes "main")), quiet)
    ∷ (Command.Set (codes "x" ∷ []) (3 ∷ []), quiet)
    ∷ (Command.Commit (codes "dev") (about 3 (codes "a") (codes "m")), quiet)
    ∷ (Command.Checkout (Target.Commit (103 ∷ 127 ∷ 55 ∷ 196 ∷ 241 ∷ 246 ∷ 61 ∷ 210 ∷ 152 ∷ 37 ∷ 19 ∷ 125 ∷ 210 ∷ 9 ∷ 182 ∷ 184 ∷ 163 ∷ 152 ∷ 179 ∷ 103 ∷ 9 ∷ 152 ∷ 42 ∷ 119 ∷ 160 ∷ 18 ∷ 222 ∷ 252 ∷ 163 ∷ 178 ∷ 124 ∷ 216 ∷ [])), quiet)
    ∷ (Command.Parent (Target.Commit (206 ∷ 246 ∷ 122 ∷ 126 ∷ 17 ∷ 180 ∷ 65 ∷ 80 ∷ 129 ∷ 134 ∷ 80 ∷ 53 ∷ 145 ∷ 226 ∷ 19 ∷ 187 ∷ 27 ∷ 132 ∷ 106 ∷ 140 ∷ 73 ∷ 175 ∷ 182 ∷ 38 ∷ 57 ∷ 64 ∷ 100 ∷ 39 ∷ 241 ∷ 119 ∷ 11 ∷ 183 ∷ [])), quiet)
    ∷ (Command.Set (codes "x" ∷ []) (4 ∷ []), quiet)
    ∷ (Command.Commit (codes "main") (about 4 (codes "a") (codes "m")), quiet)
    ∷ (Command.Merge (Target.Branch (codes "dev")) (codes "main") (about 5 (codes "a") (codes "m")), quiet) ∷ [])
    ≡ codes "ok"
    ∷ codes "committed 363243354106fe784e750f162f5147ec8fd3d66a3f3b58508b264639b524e93c"
    ∷ codes "ok"
    ∷ codes "ok"
    ∷ codes "committed 677f37c4f1f63dd29825137dd209b6b8a398b36709982a77a012defca3b27cd8"
    ∷ codes "at 363243354106fe784e750f162f5147ec8fd3d66a3f3b58508b264639b524e93c"
    ∷ codes "ok"
    ∷ codes "committed cef67a7e11b441508186503591e213bb1b846a8c49afb62639406427f1770bb7"
    ∷ codes "ok"
    ∷ codes "ok"
    ∷ codes "committed 4e6baa765e1db8fbe9a23123560009262cff20b97d27f5dd388efedec855fa75"
    ∷ codes "at 677f37c4f1f63dd29825137dd209b6b8a398b36709982a77a012defca3b27cd8"
    ∷ codes "ok"
    ∷ codes "ok"
    ∷ codes "committed 460fc6e37e44cee7241e7c6d6774fdb1cad1980b6b2002c5f1038f53b0f0bbe2"
    ∷ codes "conflict x" ∷ []
unfolding played_runs
a_conflict_of_the_ancestors_is_the_answer = refl
