-- Bytes that are no record: each fault, and the place of the first field that cannot stand.
use Rattle.std.proofs.Common.{◌≡◌, ℕ, zero, suc, [], ◌∷◌, ◌++◌, refl, Err}
use Rattle.ip_spec.specs.Path.{Bytes}
use Rattle.ip_spec.specs.Reading.{RecordFault, reading, reading_runs}

zeros : ℕ → Bytes
zeros zero = []
zeros (suc n) = 0 ∷ zeros n

nothing : reading 1 ([]) ≡ Err RecordFault.Short
unfolding reading_runs zeros
nothing = refl

a_kind_that_is_none_yet : reading 1 (8 ∷ []) ≡ Err (RecordFault.Kind 8)
unfolding reading_runs zeros
a_kind_that_is_none_yet = refl

a_kind_of_zero : reading 1 (0 ∷ 0 ∷ 0 ∷ 0 ∷ 0 ∷ []) ≡ Err (RecordFault.Kind 0)
unfolding reading_runs zeros
a_kind_of_zero = refl

a_length_cut_off : reading 1 (1 ∷ 3 ∷ []) ≡ Err RecordFault.Short
unfolding reading_runs zeros
a_length_cut_off = refl

a_body_cut_off : reading 1 (1 ∷ 3 ∷ 0 ∷ 0 ∷ 0 ∷ 97 ∷ 98 ∷ []) ≡ Err RecordFault.Short
unfolding reading_runs zeros
a_body_cut_off = refl

contents_above_the_limit : reading 1 (1 ∷ 1 ∷ 0 ∷ 16 ∷ 0 ∷ []) ≡ Err RecordFault.Length
unfolding reading_runs zeros
contents_above_the_limit = refl

a_name_longer_than_the_body : reading 1 (6 ∷ 5 ∷ 0 ∷ 0 ∷ 0 ∷ 5 ∷ 109 ∷ 97 ∷ 105 ∷ 110 ∷ []) ≡ Err (RecordFault.Form 6)
unfolding reading_runs zeros
a_name_longer_than_the_body = refl

a_byte_left_over : reading 1 (6 ∷ 6 ∷ 0 ∷ 0 ∷ 0 ∷ 4 ∷ 109 ∷ 97 ∷ 105 ∷ 110 ∷ 0 ∷ []) ≡ Err (RecordFault.Form 10)
unfolding reading_runs zeros
a_byte_left_over = refl

an_empty_name : reading 1 (6 ∷ 1 ∷ 0 ∷ 0 ∷ 0 ∷ 0 ∷ []) ≡ Err (RecordFault.Form 5)
unfolding reading_runs zeros
an_empty_name = refl

a_name_that_begins_as_a_reference : reading 1 (6 ∷ 2 ∷ 0 ∷ 0 ∷ 0 ∷ 1 ∷ 64 ∷ []) ≡ Err (RecordFault.Form 6)
unfolding reading_runs zeros
a_name_that_begins_as_a_reference = refl

a_space_in_a_name : reading 1 (6 ∷ 4 ∷ 0 ∷ 0 ∷ 0 ∷ 3 ∷ 97 ∷ 32 ∷ 98 ∷ []) ≡ Err (RecordFault.Form 6)
unfolding reading_runs zeros
a_space_in_a_name = refl

an_empty_step : reading 1 ((2 ∷ 47 ∷ 0 ∷ 0 ∷ 0 ∷ 1 ∷ 0 ∷ 0 ∷ 0 ∷ 0 ∷ 1 ∷ []) ++ zeros 41) ≡ Err (RecordFault.Form 9)
unfolding reading_runs zeros
an_empty_step = refl

a_slash_in_a_step : reading 1 ((2 ∷ 49 ∷ 0 ∷ 0 ∷ 0 ∷ 1 ∷ 0 ∷ 0 ∷ 0 ∷ 2 ∷ 97 ∷ 47 ∷ 1 ∷ []) ++ zeros 41) ≡ Err (RecordFault.Form 10)
unfolding reading_runs zeros
a_slash_in_a_step = refl

an_entry_of_a_third_kind : reading 1 ((2 ∷ 48 ∷ 0 ∷ 0 ∷ 0 ∷ 1 ∷ 0 ∷ 0 ∷ 0 ∷ 1 ∷ 97 ∷ 3 ∷ []) ++ zeros 41) ≡ Err (RecordFault.Form 11)
unfolding reading_runs zeros
an_entry_of_a_third_kind = refl

an_entry_too_high : reading 1 ((2 ∷ 48 ∷ 0 ∷ 0 ∷ 0 ∷ 1 ∷ 0 ∷ 0 ∷ 0 ∷ 1 ∷ 97 ∷ 2 ∷ 64 ∷ []) ++ zeros 40) ≡ Err (RecordFault.Form 12)
unfolding reading_runs zeros
an_entry_too_high = refl

steps_that_fall : reading 1 ((2 ∷ 92 ∷ 0 ∷ 0 ∷ 0 ∷ 2 ∷ 0 ∷ 0 ∷ 0 ∷ 1 ∷ 98 ∷ 1 ∷ []) ++ zeros 41 ++ (1 ∷ 97 ∷ 1 ∷ []) ++ zeros 41) ≡ Err (RecordFault.Form 54)
unfolding reading_runs zeros
steps_that_fall = refl

a_step_that_stands_twice : reading 1 ((2 ∷ 92 ∷ 0 ∷ 0 ∷ 0 ∷ 2 ∷ 0 ∷ 0 ∷ 0 ∷ 1 ∷ 97 ∷ 1 ∷ []) ++ zeros 41 ++ (1 ∷ 97 ∷ 1 ∷ []) ++ zeros 41) ≡ Err (RecordFault.Form 54)
unfolding reading_runs zeros
a_step_that_stands_twice = refl

an_entry_missing : reading 1 (2 ∷ 4 ∷ 0 ∷ 0 ∷ 0 ∷ 1 ∷ 0 ∷ 0 ∷ 0 ∷ []) ≡ Err (RecordFault.Form 9)
unfolding reading_runs zeros
an_entry_missing = refl

an_inode_too_deep : reading 1 ((3 ∷ 50 ∷ 0 ∷ 0 ∷ 0 ∷ 51 ∷ 1 ∷ 0 ∷ 0 ∷ 0 ∷ 33 ∷ 0 ∷ 0 ∷ 0 ∷ 1 ∷ []) ++ zeros 40) ≡ Err (RecordFault.Form 5)
unfolding reading_runs zeros
an_inode_too_deep = refl

an_inode_without_children : reading 1 ((3 ∷ 5 ∷ []) ++ zeros 8) ≡ Err (RecordFault.Form 6)
unfolding reading_runs zeros
an_inode_without_children = refl

a_child_of_no_entries : reading 1 ((3 ∷ 50 ∷ 0 ∷ 0 ∷ 0 ∷ 0 ∷ 1 ∷ 0 ∷ 0 ∷ 0 ∷ 0 ∷ 0 ∷ 0 ∷ 0 ∷ 1 ∷ []) ++ zeros 40) ≡ Err (RecordFault.Form 10)
unfolding reading_runs zeros
a_child_of_no_entries = refl

a_child_too_high : reading 1 ((3 ∷ 50 ∷ 0 ∷ 0 ∷ 0 ∷ 0 ∷ 1 ∷ 0 ∷ 0 ∷ 0 ∷ 33 ∷ 0 ∷ 0 ∷ 0 ∷ 65 ∷ []) ++ zeros 40) ≡ Err (RecordFault.Form 14)
unfolding reading_runs zeros
a_child_too_high = refl

a_child_missing : reading 1 ((3 ∷ 50 ∷ 0 ∷ 0 ∷ 0 ∷ 0 ∷ 3 ∷ 0 ∷ 0 ∷ 0 ∷ 33 ∷ 0 ∷ 0 ∷ 0 ∷ 1 ∷ []) ++ zeros 40) ≡ Err (RecordFault.Form 55)
unfolding reading_runs zeros
a_child_missing = refl

a_child_left_over : reading 1 ((3 ∷ 95 ∷ 0 ∷ 0 ∷ 0 ∷ 0 ∷ 1 ∷ 0 ∷ 0 ∷ 0 ∷ 33 ∷ 0 ∷ 0 ∷ 0 ∷ 1 ∷ []) ++ zeros 40 ++ (33 ∷ 0 ∷ 0 ∷ 0 ∷ 1 ∷ []) ++ zeros 40) ≡ Err (RecordFault.Form 55)
unfolding reading_runs zeros
a_child_left_over = refl

too_many_parents : reading 1 ((4 ∷ 230 ∷ 2 ∷ []) ++ zeros 50 ++ (17 ∷ []) ++ zeros 688 ++ (1 ∷ 97 ∷ 1 ∷ 0 ∷ 109 ∷ [])) ≡ Err (RecordFault.Form 53)
unfolding reading_runs zeros
too_many_parents = refl

an_empty_author : reading 1 ((4 ∷ 61 ∷ []) ++ zeros 61 ++ (1 ∷ 0 ∷ 109 ∷ [])) ≡ Err (RecordFault.Form 62)
unfolding reading_runs zeros
an_empty_author = refl

an_empty_message : reading 1 ((4 ∷ 61 ∷ []) ++ zeros 60 ++ (1 ∷ 97 ∷ 0 ∷ 0 ∷ [])) ≡ Err (RecordFault.Form 64)
unfolding reading_runs zeros
an_empty_message = refl

a_line_feed_in_a_message : reading 1 ((4 ∷ 63 ∷ []) ++ zeros 60 ++ (1 ∷ 97 ∷ 2 ∷ 0 ∷ 109 ∷ 10 ∷ [])) ≡ Err (RecordFault.Form 66)
unfolding reading_runs zeros
a_line_feed_in_a_message = refl

a_table_too_long : reading 1 (7 ∷ 2 ∷ 0 ∷ 0 ∷ 0 ∷ 1 ∷ 16 ∷ []) ≡ Err (RecordFault.Form 5)
unfolding reading_runs zeros
a_table_too_long = refl

names_that_fall : reading 1 ((7 ∷ 22 ∷ 0 ∷ 0 ∷ 0 ∷ 2 ∷ 0 ∷ 1 ∷ 98 ∷ []) ++ zeros 8 ++ (1 ∷ 97 ∷ []) ++ zeros 8) ≡ Err (RecordFault.Form 18)
unfolding reading_runs zeros
names_that_fall = refl

-- ---- from the second version of the format on, with tags and longer contents

a_kind_after_the_tags : reading 2 (11 ∷ []) ≡ Err (RecordFault.Kind 11)
unfolding reading_runs
a_kind_after_the_tags = refl

a_tag_cut_off : reading 2 (8 ∷ []) ≡ Err RecordFault.Short
unfolding reading_runs
a_tag_cut_off = refl

contents_that_may_be_longer_now : reading 2 (1 ∷ 1 ∷ 0 ∷ 16 ∷ 0 ∷ []) ≡ Err RecordFault.Short
unfolding reading_runs
contents_that_may_be_longer_now = refl

contents_above_the_longer_limit : reading 2 (1 ∷ 1 ∷ 0 ∷ 0 ∷ 1 ∷ []) ≡ Err RecordFault.Length
unfolding reading_runs
contents_above_the_longer_limit = refl
