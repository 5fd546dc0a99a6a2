-- Verdicts on what a child leaves: the first place that differs from the valid pair, the mapping first.
use Rattle.std.proofs.Common.{◌≡◌, [], ◌∷◌, refl, Some, None, pos, negsuc}
use Rattle.std.specs.Prelude.{codes}
use Rattle.sha2.specs.Sha256.{sha256}
use Rattle.ip_spec.specs.declared.record.Record.{Record}
use Rattle.ip_base.specs.declared.exit.Exit.{Exit}
use Rattle.ip_spec.specs.declared.reply.Produced.{Produced}
use Rattle.ip_spec.specs.declared.reply.Seen.{Seen}
use Rattle.ip_spec.specs.TreeAt.{Records}
use Rattle.ip_spec.specs.Machine.{Verdict}
use Rattle.ip_image.specs.Virtual.{mapping_bytes, locate}
use Rattle.ip_image.specs.Collection.{Pair, runs_of, kept_bytes, difference, verdict, image_runs}

-- the store with one commit: contents at 0, leaf at 6
kept : Records
kept = (0, Record.Contents (1 ∷ [])) ∷ (6, Record.Leaf (record { step = codes "a"; kind = 1; height = 0; name = sha256 (1 ∷ []); at = 0 } ∷ [])) ∷ []

valid : Pair
valid = record { mapping = mapping_bytes 59 164 (runs_of kept); prefix = kept_bytes kept }

the_valid_mapping : valid.mapping ≡ 73 ∷ 80 ∷ 77 ∷ 65 ∷ 80 ∷ 48 ∷ 48 ∷ 49 ∷ 59 ∷ 0 ∷ 0 ∷ 0 ∷ 0 ∷ 0 ∷ 0 ∷ 0 ∷ 164 ∷ 0 ∷ 0 ∷ 0 ∷ 0 ∷ 0 ∷ 0 ∷ 0 ∷ 1 ∷ 0 ∷ 0 ∷ 0 ∷ 0 ∷ 0 ∷ 0 ∷ 0 ∷ 0 ∷ 0 ∷ 0 ∷ 0 ∷ 0 ∷ 0 ∷ 0 ∷ 0 ∷ 59 ∷ 0 ∷ 0 ∷ 0 ∷ 0 ∷ 0 ∷ 0 ∷ 0 ∷ 0 ∷ 0 ∷ 0 ∷ 0 ∷ 0 ∷ 0 ∷ 0 ∷ 0 ∷ []
unfolding image_runs valid kept
the_valid_mapping = refl

the_valid_prefix : valid.prefix ≡ 1 ∷ 1 ∷ 0 ∷ 0 ∷ 0 ∷ 1 ∷ 2 ∷ 48 ∷ 0 ∷ 0 ∷ 0 ∷ 1 ∷ 0 ∷ 0 ∷ 0 ∷ 1 ∷ 97 ∷ 1 ∷ 0 ∷ 75 ∷ 245 ∷ 18 ∷ 47 ∷ 52 ∷ 69 ∷ 84 ∷ 197 ∷ 59 ∷ 222 ∷ 46 ∷ 187 ∷ 140 ∷ 210 ∷ 183 ∷ 227 ∷ 209 ∷ 96 ∷ 10 ∷ 214 ∷ 49 ∷ 195 ∷ 133 ∷ 165 ∷ 215 ∷ 204 ∷ 226 ∷ 60 ∷ 119 ∷ 133 ∷ 69 ∷ 154 ∷ 0 ∷ 0 ∷ 0 ∷ 0 ∷ 0 ∷ 0 ∷ 0 ∷ 0 ∷ []
unfolding image_runs valid kept
the_valid_prefix = refl

a_failing_exit_is_rejected_whatever_the_files_hold : verdict (Exit.Code (negsuc 0)) valid (record { mapping = Some valid.mapping; prefix = Some valid.prefix }) ≡ Verdict.exited (Exit.Code (negsuc 0))
a_failing_exit_is_rejected_whatever_the_files_hold = refl

the_valid_pair_is_accepted : verdict (Exit.Code (pos 0)) valid (record { mapping = Some (73 ∷ 80 ∷ 77 ∷ 65 ∷ 80 ∷ 48 ∷ 48 ∷ 49 ∷ 59 ∷ 0 ∷ 0 ∷ 0 ∷ 0 ∷ 0 ∷ 0 ∷ 0 ∷ 164 ∷ 0 ∷ 0 ∷ 0 ∷ 0 ∷ 0 ∷ 0 ∷ 0 ∷ 1 ∷ 0 ∷ 0 ∷ 0 ∷ 0 ∷ 0 ∷ 0 ∷ 0 ∷ 0 ∷ 0 ∷ 0 ∷ 0 ∷ 0 ∷ 0 ∷ 0 ∷ 0 ∷ 59 ∷ 0 ∷ 0 ∷ 0 ∷ 0 ∷ 0 ∷ 0 ∷ 0 ∷ 0 ∷ 0 ∷ 0 ∷ 0 ∷ 0 ∷ 0 ∷ 0 ∷ 0 ∷ []); prefix = Some (1 ∷ 1 ∷ 0 ∷ 0 ∷ 0 ∷ 1 ∷ 2 ∷ 48 ∷ 0 ∷ 0 ∷ 0 ∷ 1 ∷ 0 ∷ 0 ∷ 0 ∷ 1 ∷ 97 ∷ 1 ∷ 0 ∷ 75 ∷ 245 ∷ 18 ∷ 47 ∷ 52 ∷ 69 ∷ 84 ∷ 197 ∷ 59 ∷ 222 ∷ 46 ∷ 187 ∷ 140 ∷ 210 ∷ 183 ∷ 227 ∷ 209 ∷ 96 ∷ 10 ∷ 214 ∷ 49 ∷ 195 ∷ 133 ∷ 165 ∷ 215 ∷ 204 ∷ 226 ∷ 60 ∷ 119 ∷ 133 ∷ 69 ∷ 154 ∷ 0 ∷ 0 ∷ 0 ∷ 0 ∷ 0 ∷ 0 ∷ 0 ∷ 0 ∷ []) }) ≡ Verdict.accepted
unfolding image_runs valid kept
the_valid_pair_is_accepted = refl

a_byte_more_in_the_mapping : verdict (Exit.Code (pos 0)) valid (record { mapping = Some (73 ∷ 80 ∷ 77 ∷ 65 ∷ 80 ∷ 48 ∷ 48 ∷ 49 ∷ 59 ∷ 0 ∷ 0 ∷ 0 ∷ 0 ∷ 0 ∷ 0 ∷ 0 ∷ 164 ∷ 0 ∷ 0 ∷ 0 ∷ 0 ∷ 0 ∷ 0 ∷ 0 ∷ 1 ∷ 0 ∷ 0 ∷ 0 ∷ 0 ∷ 0 ∷ 0 ∷ 0 ∷ 0 ∷ 0 ∷ 0 ∷ 0 ∷ 0 ∷ 0 ∷ 0 ∷ 0 ∷ 59 ∷ 0 ∷ 0 ∷ 0 ∷ 0 ∷ 0 ∷ 0 ∷ 0 ∷ 0 ∷ 0 ∷ 0 ∷ 0 ∷ 0 ∷ 0 ∷ 0 ∷ 0 ∷ 0 ∷ []); prefix = Some (1 ∷ 1 ∷ 0 ∷ 0 ∷ 0 ∷ 1 ∷ 2 ∷ 48 ∷ 0 ∷ 0 ∷ 0 ∷ 1 ∷ 0 ∷ 0 ∷ 0 ∷ 1 ∷ 97 ∷ 1 ∷ 0 ∷ 75 ∷ 245 ∷ 18 ∷ 47 ∷ 52 ∷ 69 ∷ 84 ∷ 197 ∷ 59 ∷ 222 ∷ 46 ∷ 187 ∷ 140 ∷ 210 ∷ 183 ∷ 227 ∷ 209 ∷ 96 ∷ 10 ∷ 214 ∷ 49 ∷ 195 ∷ 133 ∷ 165 ∷ 215 ∷ 204 ∷ 226 ∷ 60 ∷ 119 ∷ 133 ∷ 69 ∷ 154 ∷ 0 ∷ 0 ∷ 0 ∷ 0 ∷ 0 ∷ 0 ∷ 0 ∷ 0 ∷ []) }) ≡ Verdict.differs (record { file = Produced.Mapping; at = 56; want = Seen.End; got = (Seen.Byte 0) })
unfolding image_runs valid kept
a_byte_more_in_the_mapping = refl

an_empty_mapping : verdict (Exit.Code (pos 0)) valid (record { mapping = Some ([]); prefix = Some (1 ∷ 1 ∷ 0 ∷ 0 ∷ 0 ∷ 1 ∷ 2 ∷ 48 ∷ 0 ∷ 0 ∷ 0 ∷ 1 ∷ 0 ∷ 0 ∷ 0 ∷ 1 ∷ 97 ∷ 1 ∷ 0 ∷ 75 ∷ 245 ∷ 18 ∷ 47 ∷ 52 ∷ 69 ∷ 84 ∷ 197 ∷ 59 ∷ 222 ∷ 46 ∷ 187 ∷ 140 ∷ 210 ∷ 183 ∷ 227 ∷ 209 ∷ 96 ∷ 10 ∷ 214 ∷ 49 ∷ 195 ∷ 133 ∷ 165 ∷ 215 ∷ 204 ∷ 226 ∷ 60 ∷ 119 ∷ 133 ∷ 69 ∷ 154 ∷ 0 ∷ 0 ∷ 0 ∷ 0 ∷ 0 ∷ 0 ∷ 0 ∷ 0 ∷ []) }) ≡ Verdict.differs (record { file = Produced.Mapping; at = 0; want = (Seen.Byte 73); got = Seen.End })
unfolding image_runs valid kept
an_empty_mapping = refl

another_horizon : verdict (Exit.Code (pos 0)) valid (record { mapping = Some (73 ∷ 80 ∷ 77 ∷ 65 ∷ 80 ∷ 48 ∷ 48 ∷ 49 ∷ 60 ∷ 0 ∷ 0 ∷ 0 ∷ 0 ∷ 0 ∷ 0 ∷ 0 ∷ 164 ∷ 0 ∷ 0 ∷ 0 ∷ 0 ∷ 0 ∷ 0 ∷ 0 ∷ 1 ∷ 0 ∷ 0 ∷ 0 ∷ 0 ∷ 0 ∷ 0 ∷ 0 ∷ 0 ∷ 0 ∷ 0 ∷ 0 ∷ 0 ∷ 0 ∷ 0 ∷ 0 ∷ 59 ∷ 0 ∷ 0 ∷ 0 ∷ 0 ∷ 0 ∷ 0 ∷ 0 ∷ 0 ∷ 0 ∷ 0 ∷ 0 ∷ 0 ∷ 0 ∷ 0 ∷ 0 ∷ []); prefix = Some (1 ∷ 1 ∷ 0 ∷ 0 ∷ 0 ∷ 1 ∷ 2 ∷ 48 ∷ 0 ∷ 0 ∷ 0 ∷ 1 ∷ 0 ∷ 0 ∷ 0 ∷ 1 ∷ 97 ∷ 1 ∷ 0 ∷ 75 ∷ 245 ∷ 18 ∷ 47 ∷ 52 ∷ 69 ∷ 84 ∷ 197 ∷ 59 ∷ 222 ∷ 46 ∷ 187 ∷ 140 ∷ 210 ∷ 183 ∷ 227 ∷ 209 ∷ 96 ∷ 10 ∷ 214 ∷ 49 ∷ 195 ∷ 133 ∷ 165 ∷ 215 ∷ 204 ∷ 226 ∷ 60 ∷ 119 ∷ 133 ∷ 69 ∷ 154 ∷ 0 ∷ 0 ∷ 0 ∷ 0 ∷ 0 ∷ 0 ∷ 0 ∷ 0 ∷ []) }) ≡ Verdict.differs (record { file = Produced.Mapping; at = 8; want = (Seen.Byte 59); got = (Seen.Byte 60) })
unfolding image_runs valid kept
another_horizon = refl

another_end : verdict (Exit.Code (pos 0)) valid (record { mapping = Some (73 ∷ 80 ∷ 77 ∷ 65 ∷ 80 ∷ 48 ∷ 48 ∷ 49 ∷ 59 ∷ 0 ∷ 0 ∷ 0 ∷ 0 ∷ 0 ∷ 0 ∷ 0 ∷ 165 ∷ 0 ∷ 0 ∷ 0 ∷ 0 ∷ 0 ∷ 0 ∷ 0 ∷ 1 ∷ 0 ∷ 0 ∷ 0 ∷ 0 ∷ 0 ∷ 0 ∷ 0 ∷ 0 ∷ 0 ∷ 0 ∷ 0 ∷ 0 ∷ 0 ∷ 0 ∷ 0 ∷ 59 ∷ 0 ∷ 0 ∷ 0 ∷ 0 ∷ 0 ∷ 0 ∷ 0 ∷ 0 ∷ 0 ∷ 0 ∷ 0 ∷ 0 ∷ 0 ∷ 0 ∷ 0 ∷ []); prefix = Some (1 ∷ 1 ∷ 0 ∷ 0 ∷ 0 ∷ 1 ∷ 2 ∷ 48 ∷ 0 ∷ 0 ∷ 0 ∷ 1 ∷ 0 ∷ 0 ∷ 0 ∷ 1 ∷ 97 ∷ 1 ∷ 0 ∷ 75 ∷ 245 ∷ 18 ∷ 47 ∷ 52 ∷ 69 ∷ 84 ∷ 197 ∷ 59 ∷ 222 ∷ 46 ∷ 187 ∷ 140 ∷ 210 ∷ 183 ∷ 227 ∷ 209 ∷ 96 ∷ 10 ∷ 214 ∷ 49 ∷ 195 ∷ 133 ∷ 165 ∷ 215 ∷ 204 ∷ 226 ∷ 60 ∷ 119 ∷ 133 ∷ 69 ∷ 154 ∷ 0 ∷ 0 ∷ 0 ∷ 0 ∷ 0 ∷ 0 ∷ 0 ∷ 0 ∷ []) }) ≡ Verdict.differs (record { file = Produced.Mapping; at = 16; want = (Seen.Byte 164); got = (Seen.Byte 165) })
unfolding image_runs valid kept
another_end = refl

one_run_in_two_rows : verdict (Exit.Code (pos 0)) valid (record { mapping = Some (73 ∷ 80 ∷ 77 ∷ 65 ∷ 80 ∷ 48 ∷ 48 ∷ 49 ∷ 59 ∷ 0 ∷ 0 ∷ 0 ∷ 0 ∷ 0 ∷ 0 ∷ 0 ∷ 164 ∷ 0 ∷ 0 ∷ 0 ∷ 0 ∷ 0 ∷ 0 ∷ 0 ∷ 2 ∷ 0 ∷ 0 ∷ 0 ∷ 0 ∷ 0 ∷ 0 ∷ 0 ∷ 0 ∷ 0 ∷ 0 ∷ 0 ∷ 0 ∷ 0 ∷ 0 ∷ 0 ∷ 6 ∷ 0 ∷ 0 ∷ 0 ∷ 0 ∷ 0 ∷ 0 ∷ 0 ∷ 0 ∷ 0 ∷ 0 ∷ 0 ∷ 0 ∷ 0 ∷ 0 ∷ 0 ∷ 6 ∷ 0 ∷ 0 ∷ 0 ∷ 0 ∷ 0 ∷ 0 ∷ 0 ∷ 53 ∷ 0 ∷ 0 ∷ 0 ∷ 0 ∷ 0 ∷ 0 ∷ 0 ∷ 6 ∷ 0 ∷ 0 ∷ 0 ∷ 0 ∷ 0 ∷ 0 ∷ 0 ∷ []); prefix = Some (1 ∷ 1 ∷ 0 ∷ 0 ∷ 0 ∷ 1 ∷ 2 ∷ 48 ∷ 0 ∷ 0 ∷ 0 ∷ 1 ∷ 0 ∷ 0 ∷ 0 ∷ 1 ∷ 97 ∷ 1 ∷ 0 ∷ 75 ∷ 245 ∷ 18 ∷ 47 ∷ 52 ∷ 69 ∷ 84 ∷ 197 ∷ 59 ∷ 222 ∷ 46 ∷ 187 ∷ 140 ∷ 210 ∷ 183 ∷ 227 ∷ 209 ∷ 96 ∷ 10 ∷ 214 ∷ 49 ∷ 195 ∷ 133 ∷ 165 ∷ 215 ∷ 204 ∷ 226 ∷ 60 ∷ 119 ∷ 133 ∷ 69 ∷ 154 ∷ 0 ∷ 0 ∷ 0 ∷ 0 ∷ 0 ∷ 0 ∷ 0 ∷ 0 ∷ []) }) ≡ Verdict.differs (record { file = Produced.Mapping; at = 24; want = (Seen.Byte 1); got = (Seen.Byte 2) })
unfolding image_runs valid kept
one_run_in_two_rows = refl

the_mapping_is_compared_first : verdict (Exit.Code (pos 0)) valid (record { mapping = Some (73 ∷ 80 ∷ 77 ∷ 65 ∷ 80 ∷ 48 ∷ 48 ∷ 49 ∷ 59 ∷ 0 ∷ 0 ∷ 0 ∷ 0 ∷ 0 ∷ 0 ∷ 0 ∷ 164 ∷ 0 ∷ 0 ∷ 0 ∷ 0 ∷ 0 ∷ 0 ∷ 0 ∷ 2 ∷ 0 ∷ 0 ∷ 0 ∷ 0 ∷ 0 ∷ 0 ∷ 0 ∷ 0 ∷ 0 ∷ 0 ∷ 0 ∷ 0 ∷ 0 ∷ 0 ∷ 0 ∷ 6 ∷ 0 ∷ 0 ∷ 0 ∷ 0 ∷ 0 ∷ 0 ∷ 0 ∷ 0 ∷ 0 ∷ 0 ∷ 0 ∷ 0 ∷ 0 ∷ 0 ∷ 0 ∷ 6 ∷ 0 ∷ 0 ∷ 0 ∷ 0 ∷ 0 ∷ 0 ∷ 0 ∷ 53 ∷ 0 ∷ 0 ∷ 0 ∷ 0 ∷ 0 ∷ 0 ∷ 0 ∷ 6 ∷ 0 ∷ 0 ∷ 0 ∷ 0 ∷ 0 ∷ 0 ∷ 0 ∷ []); prefix = None }) ≡ Verdict.differs (record { file = Produced.Mapping; at = 24; want = (Seen.Byte 1); got = (Seen.Byte 2) })
unfolding image_runs valid kept
the_mapping_is_compared_first = refl

another_place : verdict (Exit.Code (pos 0)) valid (record { mapping = Some (73 ∷ 80 ∷ 77 ∷ 65 ∷ 80 ∷ 48 ∷ 48 ∷ 49 ∷ 59 ∷ 0 ∷ 0 ∷ 0 ∷ 0 ∷ 0 ∷ 0 ∷ 0 ∷ 164 ∷ 0 ∷ 0 ∷ 0 ∷ 0 ∷ 0 ∷ 0 ∷ 0 ∷ 1 ∷ 0 ∷ 0 ∷ 0 ∷ 0 ∷ 0 ∷ 0 ∷ 0 ∷ 0 ∷ 0 ∷ 0 ∷ 0 ∷ 0 ∷ 0 ∷ 0 ∷ 0 ∷ 59 ∷ 0 ∷ 0 ∷ 0 ∷ 0 ∷ 0 ∷ 0 ∷ 0 ∷ 1 ∷ 0 ∷ 0 ∷ 0 ∷ 0 ∷ 0 ∷ 0 ∷ 0 ∷ []); prefix = Some (1 ∷ 1 ∷ 0 ∷ 0 ∷ 0 ∷ 1 ∷ 2 ∷ 48 ∷ 0 ∷ 0 ∷ 0 ∷ 1 ∷ 0 ∷ 0 ∷ 0 ∷ 1 ∷ 97 ∷ 1 ∷ 0 ∷ 75 ∷ 245 ∷ 18 ∷ 47 ∷ 52 ∷ 69 ∷ 84 ∷ 197 ∷ 59 ∷ 222 ∷ 46 ∷ 187 ∷ 140 ∷ 210 ∷ 183 ∷ 227 ∷ 209 ∷ 96 ∷ 10 ∷ 214 ∷ 49 ∷ 195 ∷ 133 ∷ 165 ∷ 215 ∷ 204 ∷ 226 ∷ 60 ∷ 119 ∷ 133 ∷ 69 ∷ 154 ∷ 0 ∷ 0 ∷ 0 ∷ 0 ∷ 0 ∷ 0 ∷ 0 ∷ 0 ∷ []) }) ≡ Verdict.differs (record { file = Produced.Mapping; at = 48; want = (Seen.Byte 0); got = (Seen.Byte 1) })
unfolding image_runs valid kept
another_place = refl

an_absent_prefix : verdict (Exit.Code (pos 0)) valid (record { mapping = Some (73 ∷ 80 ∷ 77 ∷ 65 ∷ 80 ∷ 48 ∷ 48 ∷ 49 ∷ 59 ∷ 0 ∷ 0 ∷ 0 ∷ 0 ∷ 0 ∷ 0 ∷ 0 ∷ 164 ∷ 0 ∷ 0 ∷ 0 ∷ 0 ∷ 0 ∷ 0 ∷ 0 ∷ 1 ∷ 0 ∷ 0 ∷ 0 ∷ 0 ∷ 0 ∷ 0 ∷ 0 ∷ 0 ∷ 0 ∷ 0 ∷ 0 ∷ 0 ∷ 0 ∷ 0 ∷ 0 ∷ 59 ∷ 0 ∷ 0 ∷ 0 ∷ 0 ∷ 0 ∷ 0 ∷ 0 ∷ 0 ∷ 0 ∷ 0 ∷ 0 ∷ 0 ∷ 0 ∷ 0 ∷ 0 ∷ []); prefix = None }) ≡ Verdict.differs (record { file = Produced.Prefix; at = 0; want = (Seen.Byte 1); got = Seen.Absent })
unfolding image_runs valid kept
an_absent_prefix = refl

an_empty_prefix : verdict (Exit.Code (pos 0)) valid (record { mapping = Some (73 ∷ 80 ∷ 77 ∷ 65 ∷ 80 ∷ 48 ∷ 48 ∷ 49 ∷ 59 ∷ 0 ∷ 0 ∷ 0 ∷ 0 ∷ 0 ∷ 0 ∷ 0 ∷ 164 ∷ 0 ∷ 0 ∷ 0 ∷ 0 ∷ 0 ∷ 0 ∷ 0 ∷ 1 ∷ 0 ∷ 0 ∷ 0 ∷ 0 ∷ 0 ∷ 0 ∷ 0 ∷ 0 ∷ 0 ∷ 0 ∷ 0 ∷ 0 ∷ 0 ∷ 0 ∷ 0 ∷ 59 ∷ 0 ∷ 0 ∷ 0 ∷ 0 ∷ 0 ∷ 0 ∷ 0 ∷ 0 ∷ 0 ∷ 0 ∷ 0 ∷ 0 ∷ 0 ∷ 0 ∷ 0 ∷ []); prefix = Some ([]) }) ≡ Verdict.differs (record { file = Produced.Prefix; at = 0; want = (Seen.Byte 1); got = Seen.End })
unfolding image_runs valid kept
an_empty_prefix = refl

records_in_another_order : verdict (Exit.Code (pos 0)) valid (record { mapping = Some (73 ∷ 80 ∷ 77 ∷ 65 ∷ 80 ∷ 48 ∷ 48 ∷ 49 ∷ 59 ∷ 0 ∷ 0 ∷ 0 ∷ 0 ∷ 0 ∷ 0 ∷ 0 ∷ 164 ∷ 0 ∷ 0 ∷ 0 ∷ 0 ∷ 0 ∷ 0 ∷ 0 ∷ 1 ∷ 0 ∷ 0 ∷ 0 ∷ 0 ∷ 0 ∷ 0 ∷ 0 ∷ 0 ∷ 0 ∷ 0 ∷ 0 ∷ 0 ∷ 0 ∷ 0 ∷ 0 ∷ 59 ∷ 0 ∷ 0 ∷ 0 ∷ 0 ∷ 0 ∷ 0 ∷ 0 ∷ 0 ∷ 0 ∷ 0 ∷ 0 ∷ 0 ∷ 0 ∷ 0 ∷ 0 ∷ []); prefix = Some (2 ∷ 48 ∷ 0 ∷ 0 ∷ 0 ∷ 1 ∷ 0 ∷ 0 ∷ 0 ∷ 1 ∷ 97 ∷ 1 ∷ 0 ∷ 75 ∷ 245 ∷ 18 ∷ 47 ∷ 52 ∷ 69 ∷ 84 ∷ 197 ∷ 59 ∷ 222 ∷ 46 ∷ 187 ∷ 140 ∷ 210 ∷ 183 ∷ 227 ∷ 209 ∷ 96 ∷ 10 ∷ 214 ∷ 49 ∷ 195 ∷ 133 ∷ 165 ∷ 215 ∷ 204 ∷ 226 ∷ 60 ∷ 119 ∷ 133 ∷ 69 ∷ 154 ∷ 0 ∷ 0 ∷ 0 ∷ 0 ∷ 0 ∷ 0 ∷ 0 ∷ 0 ∷ 1 ∷ 1 ∷ 0 ∷ 0 ∷ 0 ∷ 1 ∷ []) }) ≡ Verdict.differs (record { file = Produced.Prefix; at = 0; want = (Seen.Byte 1); got = (Seen.Byte 2) })
unfolding image_runs valid kept
records_in_another_order = refl

another_child_offset : verdict (Exit.Code (pos 0)) valid (record { mapping = Some (73 ∷ 80 ∷ 77 ∷ 65 ∷ 80 ∷ 48 ∷ 48 ∷ 49 ∷ 59 ∷ 0 ∷ 0 ∷ 0 ∷ 0 ∷ 0 ∷ 0 ∷ 0 ∷ 164 ∷ 0 ∷ 0 ∷ 0 ∷ 0 ∷ 0 ∷ 0 ∷ 0 ∷ 1 ∷ 0 ∷ 0 ∷ 0 ∷ 0 ∷ 0 ∷ 0 ∷ 0 ∷ 0 ∷ 0 ∷ 0 ∷ 0 ∷ 0 ∷ 0 ∷ 0 ∷ 0 ∷ 59 ∷ 0 ∷ 0 ∷ 0 ∷ 0 ∷ 0 ∷ 0 ∷ 0 ∷ 0 ∷ 0 ∷ 0 ∷ 0 ∷ 0 ∷ 0 ∷ 0 ∷ 0 ∷ []); prefix = Some (1 ∷ 1 ∷ 0 ∷ 0 ∷ 0 ∷ 1 ∷ 2 ∷ 48 ∷ 0 ∷ 0 ∷ 0 ∷ 1 ∷ 0 ∷ 0 ∷ 0 ∷ 1 ∷ 97 ∷ 1 ∷ 0 ∷ 75 ∷ 245 ∷ 18 ∷ 47 ∷ 52 ∷ 69 ∷ 84 ∷ 197 ∷ 59 ∷ 222 ∷ 46 ∷ 187 ∷ 140 ∷ 210 ∷ 183 ∷ 227 ∷ 209 ∷ 96 ∷ 10 ∷ 214 ∷ 49 ∷ 195 ∷ 133 ∷ 165 ∷ 215 ∷ 204 ∷ 226 ∷ 60 ∷ 119 ∷ 133 ∷ 69 ∷ 154 ∷ 1 ∷ 0 ∷ 0 ∷ 0 ∷ 0 ∷ 0 ∷ 0 ∷ 0 ∷ []) }) ≡ Verdict.differs (record { file = Produced.Prefix; at = 51; want = (Seen.Byte 0); got = (Seen.Byte 1) })
unfolding image_runs valid kept
another_child_offset = refl

another_last_byte : verdict (Exit.Code (pos 0)) valid (record { mapping = Some (73 ∷ 80 ∷ 77 ∷ 65 ∷ 80 ∷ 48 ∷ 48 ∷ 49 ∷ 59 ∷ 0 ∷ 0 ∷ 0 ∷ 0 ∷ 0 ∷ 0 ∷ 0 ∷ 164 ∷ 0 ∷ 0 ∷ 0 ∷ 0 ∷ 0 ∷ 0 ∷ 0 ∷ 1 ∷ 0 ∷ 0 ∷ 0 ∷ 0 ∷ 0 ∷ 0 ∷ 0 ∷ 0 ∷ 0 ∷ 0 ∷ 0 ∷ 0 ∷ 0 ∷ 0 ∷ 0 ∷ 59 ∷ 0 ∷ 0 ∷ 0 ∷ 0 ∷ 0 ∷ 0 ∷ 0 ∷ 0 ∷ 0 ∷ 0 ∷ 0 ∷ 0 ∷ 0 ∷ 0 ∷ 0 ∷ []); prefix = Some (1 ∷ 1 ∷ 0 ∷ 0 ∷ 0 ∷ 1 ∷ 2 ∷ 48 ∷ 0 ∷ 0 ∷ 0 ∷ 1 ∷ 0 ∷ 0 ∷ 0 ∷ 1 ∷ 97 ∷ 1 ∷ 0 ∷ 75 ∷ 245 ∷ 18 ∷ 47 ∷ 52 ∷ 69 ∷ 84 ∷ 197 ∷ 59 ∷ 222 ∷ 46 ∷ 187 ∷ 140 ∷ 210 ∷ 183 ∷ 227 ∷ 209 ∷ 96 ∷ 10 ∷ 214 ∷ 49 ∷ 195 ∷ 133 ∷ 165 ∷ 215 ∷ 204 ∷ 226 ∷ 60 ∷ 119 ∷ 133 ∷ 69 ∷ 154 ∷ 0 ∷ 0 ∷ 0 ∷ 0 ∷ 0 ∷ 0 ∷ 0 ∷ 255 ∷ []) }) ≡ Verdict.differs (record { file = Produced.Prefix; at = 58; want = (Seen.Byte 0); got = (Seen.Byte 255) })
unfolding image_runs valid kept
another_last_byte = refl

a_byte_more_in_the_prefix : verdict (Exit.Code (pos 0)) valid (record { mapping = Some (73 ∷ 80 ∷ 77 ∷ 65 ∷ 80 ∷ 48 ∷ 48 ∷ 49 ∷ 59 ∷ 0 ∷ 0 ∷ 0 ∷ 0 ∷ 0 ∷ 0 ∷ 0 ∷ 164 ∷ 0 ∷ 0 ∷ 0 ∷ 0 ∷ 0 ∷ 0 ∷ 0 ∷ 1 ∷ 0 ∷ 0 ∷ 0 ∷ 0 ∷ 0 ∷ 0 ∷ 0 ∷ 0 ∷ 0 ∷ 0 ∷ 0 ∷ 0 ∷ 0 ∷ 0 ∷ 0 ∷ 59 ∷ 0 ∷ 0 ∷ 0 ∷ 0 ∷ 0 ∷ 0 ∷ 0 ∷ 0 ∷ 0 ∷ 0 ∷ 0 ∷ 0 ∷ 0 ∷ 0 ∷ 0 ∷ []); prefix = Some (1 ∷ 1 ∷ 0 ∷ 0 ∷ 0 ∷ 1 ∷ 2 ∷ 48 ∷ 0 ∷ 0 ∷ 0 ∷ 1 ∷ 0 ∷ 0 ∷ 0 ∷ 1 ∷ 97 ∷ 1 ∷ 0 ∷ 75 ∷ 245 ∷ 18 ∷ 47 ∷ 52 ∷ 69 ∷ 84 ∷ 197 ∷ 59 ∷ 222 ∷ 46 ∷ 187 ∷ 140 ∷ 210 ∷ 183 ∷ 227 ∷ 209 ∷ 96 ∷ 10 ∷ 214 ∷ 49 ∷ 195 ∷ 133 ∷ 165 ∷ 215 ∷ 204 ∷ 226 ∷ 60 ∷ 119 ∷ 133 ∷ 69 ∷ 154 ∷ 0 ∷ 0 ∷ 0 ∷ 0 ∷ 0 ∷ 0 ∷ 0 ∷ 0 ∷ 0 ∷ []) }) ≡ Verdict.differs (record { file = Produced.Prefix; at = 59; want = Seen.End; got = (Seen.Byte 0) })
unfolding image_runs valid kept
a_byte_more_in_the_prefix = refl

an_absent_mapping : verdict (Exit.Code (pos 0)) valid (record { mapping = None; prefix = Some (1 ∷ 1 ∷ 0 ∷ 0 ∷ 0 ∷ 1 ∷ 2 ∷ 48 ∷ 0 ∷ 0 ∷ 0 ∷ 1 ∷ 0 ∷ 0 ∷ 0 ∷ 1 ∷ 97 ∷ 1 ∷ 0 ∷ 75 ∷ 245 ∷ 18 ∷ 47 ∷ 52 ∷ 69 ∷ 84 ∷ 197 ∷ 59 ∷ 222 ∷ 46 ∷ 187 ∷ 140 ∷ 210 ∷ 183 ∷ 227 ∷ 209 ∷ 96 ∷ 10 ∷ 214 ∷ 49 ∷ 195 ∷ 133 ∷ 165 ∷ 215 ∷ 204 ∷ 226 ∷ 60 ∷ 119 ∷ 133 ∷ 69 ∷ 154 ∷ 0 ∷ 0 ∷ 0 ∷ 0 ∷ 0 ∷ 0 ∷ 0 ∷ 0 ∷ []) }) ≡ Verdict.differs (record { file = Produced.Mapping; at = 0; want = (Seen.Byte 73); got = Seen.Absent })
unfolding image_runs valid kept
an_absent_mapping = refl

a_signal_counts_as_a_failing_exit : verdict Exit.Signal valid (record { mapping = Some valid.mapping; prefix = Some valid.prefix }) ≡ Verdict.exited Exit.Signal
a_signal_counts_as_a_failing_exit = refl

a_prefix_without_bytes_is_not_an_absent_one : difference Produced.Prefix [] None ≡ Some (record { file = Produced.Prefix; at = 0; want = Seen.End; got = Seen.Absent })
a_prefix_without_bytes_is_not_an_absent_one = refl

an_offset_in_a_run_has_a_place : locate (record { at = 0; length = 59 } ∷ []) 6 ≡ Some 6
unfolding image_runs
an_offset_in_a_run_has_a_place = refl

an_offset_past_the_runs_is_gone : locate (record { at = 0; length = 59 } ∷ []) 59 ≡ None
unfolding image_runs
an_offset_past_the_runs_is_gone = refl
