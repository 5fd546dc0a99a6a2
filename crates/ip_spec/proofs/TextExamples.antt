-- The texts of replies.
use Rattle.std.proofs.Common.{◌≡◌, [], ◌∷◌, ◌++◌, refl, true, false, negsuc, Some}
use Rattle.std.specs.Prelude.{codes}
use Rattle.ip_spec.specs.Path.{line_feed}
use Rattle.ip_spec.specs.Machine.{Reply, Exit, Produced, Seen}
use Rattle.ip_spec.specs.Text.{reply_text, text_runs}

a_message_stands_last : reply_text (Reply.Commit (1 ∷ []) 7 (2 ∷ []) ((3 ∷ []) ∷ (171 ∷ []) ∷ []) (record { date = 9; author = codes "a"; message = codes " two words " }))
    ≡ codes "commit 01 7 02 9 a 2 03 ab  two words " ++ line_feed ∷ []
unfolding text_runs
a_message_stands_last = refl

a_commit_without_parents_counts_none : reply_text (Reply.Commit (1 ∷ []) 0 (2 ∷ []) [] (record { date = 0; author = codes "a"; message = codes "m" })) ≡ codes "commit 01 0 02 0 a 0 m" ++ line_feed ∷ []
unfolding text_runs
a_commit_without_parents_counts_none = refl

entries_tell_their_kind : reply_text (Reply.List (record { step = codes "a"; dir = false } ∷ record { step = codes "b"; dir = true } ∷ [])) ≡ codes "list 2 c:a d:b" ++ line_feed ∷ []
unfolding text_runs
entries_tell_their_kind = refl

no_removal_left_is_not_told : reply_text (Reply.Collected 3 0) ≡ codes "collected 3" ++ line_feed ∷ []
unfolding text_runs
no_removal_left_is_not_told = refl

removals_left_are_counted : reply_text (Reply.Collected 3 2) ≡ codes "collected 3 left 2" ++ line_feed ∷ []
unfolding text_runs
removals_left_are_counted = refl

an_exit_code_may_be_negative : reply_text (Reply.RejectedExit (Exit.Code (negsuc 0))) ≡ codes "rejected exit -1" ++ line_feed ∷ []
unfolding text_runs
an_exit_code_may_be_negative = refl

a_difference_tells_both_bytes : reply_text (Reply.Rejected (record { file = Produced.Prefix; at = 58; want = Seen.Byte 0; got = Seen.Byte 255 })) ≡ codes "rejected prefix 58 00 ff" ++ line_feed ∷ []
unfolding text_runs
a_difference_tells_both_bytes = refl

a_file_may_end_or_be_absent : reply_text (Reply.Rejected (record { file = Produced.Mapping; at = 0; want = Seen.End; got = Seen.Absent })) ≡ codes "rejected mapping 0 end none" ++ line_feed ∷ []
unfolding text_runs
a_file_may_end_or_be_absent = refl

a_path_is_told_with_slashes : reply_text (Reply.Conflict (codes "a" ∷ codes "b" ∷ [])) ≡ codes "conflict a/b" ++ line_feed ∷ []
unfolding text_runs
a_path_is_told_with_slashes = refl

no_ancestors_in_common_are_told_as_none : reply_text (Reply.Lcas []) ≡ codes "lcas 0" ++ line_feed ∷ []
unfolding text_runs
no_ancestors_in_common_are_told_as_none = refl

a_branch_is_told_with_its_commit : reply_text (Reply.Branches (record { branch = codes "main"; name = 202 ∷ 254 ∷ [] } ∷ [])) ≡ codes "branches 1 main cafe" ++ line_feed ∷ []
unfolding text_runs
a_branch_is_told_with_its_commit = refl

a_collection_is_told_in_the_state : reply_text (Reply.Stat 1 3 2 (Some 1)) ≡ codes "stat 1 3 2 at 1" ++ line_feed ∷ []
unfolding text_runs
a_collection_is_told_in_the_state = refl
