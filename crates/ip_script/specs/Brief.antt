-- Which replies are one word, or a word and a hash or a number.
use Rattle.std.specs.Prelude.{Bool, true, false}
use Rattle.ip_spec.specs.declared.reply.Reply.{Reply}

abbrev pub is_brief : Reply → Bool
is_brief Reply.Accepted = true
is_brief Reply.Absent = true
is_brief Reply.Contents = true
is_brief Reply.Idle = true
is_brief Reply.Running = true
is_brief Reply.Cancelled = true
is_brief Reply.CancelledOrphan = true
is_brief Reply.StartFault = true
is_brief Reply.WaitFault = true
is_brief Reply.Memory = true
is_brief (Reply.Bad value) = true
is_brief (Reply.At value) = true
is_brief (Reply.Committed value) = true
is_brief (Reply.Merged value) = true
is_brief (Reply.Current value) = true
is_brief (Reply.Forward value) = true
is_brief (Reply.Started value) = true
is_brief (Reply.Hash value) = true
is_brief (Reply.Existing value) = true
is_brief (Reply.HeadMoved value) = true
is_brief (Reply.Busy value) = true
is_brief (Reply.NoCommit value) = true
is_brief (Reply.Dir value) = true
is_brief (Reply.Leaving value) = true
is_brief (Reply.GivenUp value) = true
is_brief (Reply.Bases value) = true
is_brief (Reply.Checking value) = true
is_brief _ = false
