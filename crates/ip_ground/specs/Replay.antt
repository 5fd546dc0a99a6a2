-- What a list of events makes of files, output and lending.
use Rattle.std.specs.Prelude.{◌≡◌, ◌⊎◌, ℕ, ◌+◌, Bool, true, false, if◌then◌else◌, ◌==◌, ◌||◌, ◌&&◌, not, MatchBool, List, [], ◌∷◌, ◌++◌, length, take, Vec, Option, None}
use Rattle.std.specs.Option.{option_map}
use Rattle.std.specs.declared.alloc.Global.{Global}
use Rattle.ip_ground.specs.declared.names.FileName.{FileName}
use Rattle.ip_ground.specs.declared.names.FileName.TheVariants.{Control, Chunk, Prefix, Mapping, Done}
use Rattle.ip_ground.specs.declared.event.Event.{Event}
use Rattle.ip_ground.specs.declared.event.Event.TheVariants.{Passed, Wrote, Failed, Synced, Removed, Lent, Settled, Said, Changed, Stopped}
use Rattle.ip_ground.specs.Contents.{Content, Image, written, Torn}
use Rattle.ip_ground.specs.Custody.{Custody, own, lent, settled, custody_of, is_same_file, after_sync, after_settle}
use Rattle.ip_ground.specs.Told.{Told, NoFile, ChangesOnly, nothing_beside}

pub record State : Type 1 where
  pub held : Image
  -- what each file held when it was synced last
  pub durable : Image
  pub may_leave : FileName → Content → Type 0
  pub said : List ℕ
  pub lending : ℕ → Custody
  pub writes : FileName → ℕ

abbrev pub is_of_attempt : ℕ → FileName → Bool
is_of_attempt n Control = false
is_of_attempt n (Chunk number) = false
is_of_attempt n (Prefix attempt) = attempt == n
is_of_attempt n (Mapping attempt) = attempt == n
is_of_attempt n (Done attempt) = attempt == n

-- another content in one file's place
abbrev pub with_held : FileName → Content → Image → Image
with_held file content held = λ other. if is_same_file other file then content else held other

-- other contents that a crash may leave in one file's place
abbrev pub with_left : FileName → (Content → Type 0) → (FileName → Content → Type 0) → FileName → Content → Type 0
with_left file these may_leave = λ other content. MatchBool (is_same_file other file) (these content) (may_leave other content)

abbrev pub with_lending : ℕ → Custody → (ℕ → Custody) → ℕ → Custody
with_lending attempt custody lending = λ other. if other == attempt then custody else lending other

-- one write more that was asked for
abbrev pub with_write : FileName → (FileName → ℕ) → FileName → ℕ
with_write file writes = λ other. if is_same_file other file then writes other + 1 else writes other

-- what a crash may leave of a file that was synced
abbrev pub left_by_sync : Custody → Content → (Content → Type 0) → Content → Type 0
left_by_sync own held before content = content ≡ held
left_by_sync lent held before content = before content
left_by_sync (settled pair synced) held before content = content ≡ held

-- what a crash may leave of a file after a stop that kept what was synced alone
abbrev pub left_by_stop : Custody → FileName → Content → (Content → Type 0) → Content → Type 0
left_by_stop own file durable before content = content ≡ durable
left_by_stop lent file durable before content = before content
left_by_stop (settled pair synced) file durable before content = MatchBool (synced file) (content ≡ durable) (before content)

-- what the child makes of a file, which it can where the file is lent
abbrev pub changed_by_child : Custody → Content → Content → Content
changed_by_child own held content = held
changed_by_child lent held content = content
changed_by_child (settled pair synced) held content = held

abbrev pub content_of : Option (Vec ℕ Global) → Content
content_of bytes = option_map (λ v. v.items) bytes

abbrev pub after : Event → State → State
after Passed s = s
after (Wrote file at bytes) s = record s {
  held = with_held file (written (s.held file) at bytes.items) s.held;
  may_leave = with_left file (λ content. (before : Content) × s.may_leave file before × Torn at (length bytes.items) before content) s.may_leave;
  writes = with_write file s.writes;
}
after (Failed file at count) s = record s {
  may_leave = with_left file (λ content. (before : Content) × s.may_leave file before × Torn at count before content) s.may_leave;
  writes = with_write file s.writes;
}
after (Synced file) s = record s {
  durable = with_held file (s.held file) s.durable;
  may_leave = with_left file (left_by_sync (custody_of s.lending file) (s.held file) (s.may_leave file)) s.may_leave;
  lending = λ attempt. after_sync file attempt (s.lending attempt);
}
after (Removed file) s = record s { held = with_held file None s.held; may_leave = with_left file (λ content. s.may_leave file content ⊎ (content ≡ None)) s.may_leave }
after (Lent attempt) s = record s {
  may_leave = λ file content. MatchBool (is_of_attempt attempt file) (Unit {0}) (s.may_leave file content);
  lending = with_lending attempt lent s.lending;
}
after (Settled attempt) s = record s { lending = with_lending attempt (after_settle s.held (s.lending attempt)) s.lending }
after (Said bytes) s = record s { said = s.said ++ bytes.items }
after (Changed file bytes) s = record s { held = with_held file (changed_by_child (custody_of s.lending file) (s.held file) (content_of bytes)) s.held }
after (Stopped true) s = record s { said = [] }
after (Stopped false) s = record {
  held = s.durable;
  durable = s.durable;
  may_leave = λ file. left_by_stop (custody_of s.lending file) file (s.durable file) (s.may_leave file);
  said = [];
  lending = s.lending;
  writes = s.writes;
}

-- no file, nothing said, nothing lent
abbrev pub blank : State
blank = record { held = λ file. None; durable = λ file. None; may_leave = λ file content. content ≡ None; said = []; lending = λ attempt. own; writes = λ file. 0 }

abbrev pub replayed : State → List Event → State
replayed s [] = s
replayed s (event ∷ events) = replayed (after event s) events

-- What is told after these events; each is a moment.
abbrev pub told_by : List Event → Told
told_by log = record {
  moment = length log;
  held = (replayed blank log).held;
  may_leave = λ moment. (replayed blank (take moment log)).may_leave;
  said_at = λ moment. (replayed blank (take moment log)).said;
  lending_at = λ moment. (replayed blank (take moment log)).lending;
  writes = (replayed blank log).writes;
  beside = nothing_beside;
}

-- what was said since the last stop, after an event
abbrev pub said_after : Event → List ℕ → List ℕ
said_after (Said bytes) before = before ++ bytes.items
said_after (Stopped keep) before = []
said_after event before = before

-- whether an attempt is lent after an event
abbrev pub lent_after : Event → ℕ → Bool → Bool
lent_after (Lent other) attempt before = (other == attempt) || before
lent_after (Settled other) attempt before = not (other == attempt) && before
lent_after event attempt before = before

-- an event that changes what no file reads as
abbrev pub keeps_files : Event → Bool
keeps_files (Wrote file at bytes) = false
keeps_files (Removed file) = false
keeps_files (Changed file bytes) = false
keeps_files (Stopped keep) = false
keeps_files event = true

-- what each file held when it was synced last
abbrev pub durable_by : List Event → Image
durable_by log = (replayed blank log).durable

-- an event that does not change that
abbrev pub keeps_durable : Event → Bool
keeps_durable (Synced file) = false
keeps_durable (Stopped keep) = false
keeps_durable event = true

-- After a call before which the child acted: the log has grown by what it did, and then by this.
abbrev pub GrowsBy : Event → List Event → List Event → Type 0
GrowsBy event old new = (mid : List Event) × ChangesOnly NoFile (told_by old) (told_by mid) × (new ≡ mid ++ event ∷ [])
