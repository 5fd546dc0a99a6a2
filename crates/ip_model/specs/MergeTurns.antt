-- What the model answers to `merge`, where nothing is met and no collection runs.
--     OneAnswers rule      each path's rule means one answer
--     ComesTo s P reply m      a reply and the state after it, for an answer that P allows
--     MergesOn rule s target branch info reply m      of the command
--     MergesFrom, IntoHead      the same where the commit was found, and where the branch's was found too
--     JoinsTo      the same where neither is an ancestor of the other
--     kept_after, added_after      the answer where the trees are merged, and where their merge is within the limits
--     HasShortSteps t      each step has at most 255 bytes
use Rattle.std.specs.Prelude.{◌≡◌, ◌≤◌, ℕ, [], ◌∷◌, length, All, IsSome, Ok, Err, MatchResult}
use Rattle.ip_base.specs.declared.limit.TheConstants.{STEP_BYTES_MAX}
use Rattle.ip_spec.specs.declared.reply.Reply.{Reply}
use Rattle.ip_spec.specs.declared.command.Target.{Target}
use Rattle.ip_spec.specs.Map.{get}
use Rattle.ip_spec.specs.Path.{Bytes, Path}
use Rattle.ip_spec.specs.Record.{Info}
use Rattle.ip_spec.specs.Tree.{Tree}
use Rattle.ip_spec.specs.Repository.{head}
use Rattle.ip_spec.specs.Merge.{Rule, IsOneAnswer}
use Rattle.ip_spec.specs.Machine.{State}
use Rattle.ip_spec.specs.Step.{Refused, Turned, quiet, or_refused, present, within_limits, with_merge, Joins, MergesInto, Merging, ◌>>=◌}
use Rattle.ip_model.specs.declared.machine.Machine as Kept
use Rattle.ip_model.specs.Working.{IsState, TurnsTo}

abbrev pub OneAnswers : Rule → Type 0
OneAnswers rule = (p : Path) → IsOneAnswer (rule p)

abbrev pub HasShortSteps : Tree → Type 0
HasShortSteps t = (path : Path) → IsSome (get t path) → All (λ step. length step ≤ STEP_BYTES_MAX) path

abbrev pub ComesTo : State → (Refused Turned → Type 0) → Reply → Kept.Machine → Type 0
ComesTo s P reply m = (refused : Refused Turned) × P refused × TurnsTo (or_refused s refused) reply m

abbrev pub MergesOn : Rule → State → Target → Bytes → Info → Reply → Kept.Machine → Type 0
MergesOn rule s target branch info reply m = (t : State) × IsState m t × Merging rule s target branch info quiet (reply, t)

abbrev pub FromNumber : Rule → State → ℕ → Bytes → Info → Refused Turned → Type 0
FromNumber rule s number branch info refused = MatchResult (present (head s.repository branch) (Reply.NoBranch branch)) (λ h. MergesInto rule s quiet number branch h info refused) (λ reply. refused ≡ Err reply)

abbrev pub MergesFrom : Rule → State → ℕ → Bytes → Info → Reply → Kept.Machine → Type 0
MergesFrom rule s number branch info reply m = ComesTo s (FromNumber rule s number branch info) reply m

abbrev pub IntoHead : Rule → State → ℕ → Bytes → ℕ → Info → Reply → Kept.Machine → Type 0
IntoHead rule s number branch h info reply m = ComesTo s (MergesInto rule s quiet number branch h info) reply m

abbrev pub JoinsTo : Rule → State → ℕ → Bytes → ℕ → Info → Reply → Kept.Machine → Type 0
JoinsTo rule s number branch h info reply m = ComesTo s (Joins rule s quiet number branch h info) reply m

abbrev pub added_after : State → ℕ → Bytes → ℕ → Info → Tree → Turned
added_after s number branch h info tree = or_refused s (with_merge s quiet number branch h info tree)

abbrev pub kept_after : State → ℕ → Bytes → ℕ → Info → Tree → Turned
kept_after s number branch h info tree = or_refused s (within_limits tree >>= with_merge s quiet number branch h info)
