-- The bytes that spell records, and the names of leaves.
use Rattle.std.proofs.Common.{◌≡◌, [], ◌∷◌, refl, Some}
use Rattle.std.specs.Prelude.{codes}
use Rattle.sha2.specs.Sha256.{sha256}
use Rattle.ip_spec.specs.Record.{Record, name_set, name_remove, name_table, branches, tags, spelling, name_of, record_runs}

contents_of_three_bytes : spelling (Record.Contents (codes "abc")) ≡ 1 ∷ 3 ∷ 0 ∷ 0 ∷ 0 ∷ 97 ∷ 98 ∷ 99 ∷ []
unfolding record_runs
contents_of_three_bytes = refl

the_leaf_of_no_entries : spelling (Record.Leaf []) ≡ 2 ∷ 4 ∷ 0 ∷ 0 ∷ 0 ∷ 0 ∷ 0 ∷ 0 ∷ 0 ∷ []
unfolding record_runs
the_leaf_of_no_entries = refl

the_name_of_the_empty_tree : name_of (Record.Leaf []) ≡ Some (57 ∷ 92 ∷ 47 ∷ 85 ∷ 152 ∷ 161 ∷ 100 ∷ 58 ∷ 32 ∷ 81 ∷ 84 ∷ 198 ∷ 244 ∷ 196 ∷ 108 ∷ 227 ∷ 104 ∷ 149 ∷ 178 ∷ 142 ∷ 108 ∷ 53 ∷ 102 ∷ 10 ∷ 149 ∷ 229 ∷ 198 ∷ 253 ∷ 94 ∷ 249 ∷ 174 ∷ 171 ∷ [])
unfolding record_runs
the_name_of_the_empty_tree = refl

a_branch_set_to_the_first_commit : spelling (name_set branches 0 (codes "main")) ≡ 5 ∷ 13 ∷ 0 ∷ 0 ∷ 0 ∷ 0 ∷ 0 ∷ 0 ∷ 0 ∷ 0 ∷ 0 ∷ 0 ∷ 0 ∷ 4 ∷ 109 ∷ 97 ∷ 105 ∷ 110 ∷ []
unfolding record_runs
a_branch_set_to_the_first_commit = refl

a_table_of_one_branch : spelling (name_table branches (record { name = codes "main"; number = 0 } ∷ [])) ≡ 7 ∷ 15 ∷ 0 ∷ 0 ∷ 0 ∷ 1 ∷ 0 ∷ 4 ∷ 109 ∷ 97 ∷ 105 ∷ 110 ∷ 0 ∷ 0 ∷ 0 ∷ 0 ∷ 0 ∷ 0 ∷ 0 ∷ 0 ∷ []
unfolding record_runs
a_table_of_one_branch = refl

a_branch_removed : spelling (name_remove branches (codes "main")) ≡ 6 ∷ 5 ∷ 0 ∷ 0 ∷ 0 ∷ 4 ∷ 109 ∷ 97 ∷ 105 ∷ 110 ∷ []
unfolding record_runs
a_branch_removed = refl

a_leaf_of_one_entry : spelling (Record.Leaf (record { step = codes "a"; kind = 1; height = 0; name = sha256 (1 ∷ []); at = 0 } ∷ [])) ≡ 2 ∷ 48 ∷ 0 ∷ 0 ∷ 0 ∷ 1 ∷ 0 ∷ 0 ∷ 0 ∷ 1 ∷ 97 ∷ 1 ∷ 0 ∷ 75 ∷ 245 ∷ 18 ∷ 47 ∷ 52 ∷ 69 ∷ 84 ∷ 197 ∷ 59 ∷ 222 ∷ 46 ∷ 187 ∷ 140 ∷ 210 ∷ 183 ∷ 227 ∷ 209 ∷ 96 ∷ 10 ∷ 214 ∷ 49 ∷ 195 ∷ 133 ∷ 165 ∷ 215 ∷ 204 ∷ 226 ∷ 60 ∷ 119 ∷ 133 ∷ 69 ∷ 154 ∷ 0 ∷ 0 ∷ 0 ∷ 0 ∷ 0 ∷ 0 ∷ 0 ∷ 0 ∷ []
unfolding record_runs
a_leaf_of_one_entry = refl

-- kind, step and child name alone go into the name
the_name_of_a_leaf_holds_no_offset : name_of (Record.Leaf (record { step = codes "a"; kind = 1; height = 0; name = sha256 (1 ∷ []); at = 0 } ∷ [])) ≡ Some (183 ∷ 228 ∷ 37 ∷ 145 ∷ 117 ∷ 19 ∷ 12 ∷ 114 ∷ 237 ∷ 22 ∷ 7 ∷ 31 ∷ 77 ∷ 233 ∷ 161 ∷ 233 ∷ 49 ∷ 27 ∷ 173 ∷ 108 ∷ 158 ∷ 84 ∷ 221 ∷ 164 ∷ 36 ∷ 219 ∷ 192 ∷ 173 ∷ 49 ∷ 175 ∷ 99 ∷ 98 ∷ [])
unfolding record_runs
the_name_of_a_leaf_holds_no_offset = refl

a_tag_set_to_the_first_commit : spelling (name_set tags 0 (codes "v1")) ≡ 8 ∷ 11 ∷ 0 ∷ 0 ∷ 0 ∷ 0 ∷ 0 ∷ 0 ∷ 0 ∷ 0 ∷ 0 ∷ 0 ∷ 0 ∷ 2 ∷ 118 ∷ 49 ∷ []
unfolding record_runs
a_tag_set_to_the_first_commit = refl

a_table_of_one_tag : spelling (name_table tags (record { name = codes "v1"; number = 0 } ∷ [])) ≡ 10 ∷ 13 ∷ 0 ∷ 0 ∷ 0 ∷ 1 ∷ 0 ∷ 2 ∷ 118 ∷ 49 ∷ 0 ∷ 0 ∷ 0 ∷ 0 ∷ 0 ∷ 0 ∷ 0 ∷ 0 ∷ []
unfolding record_runs
a_table_of_one_tag = refl
