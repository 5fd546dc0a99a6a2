-- What a merge of trees answers, from what the commit of the merged tree does: the machine's merge is its commit on that work.
--     IsFollowed reply s' merge      the merge's turn that goes with the commit's.      follow      there is one
--     merged_of result      the merge's answer.      took_merged, grew_merged      what a crash may leave goes with it
--     answers_joined, moments_joined      the reply, and what it does to what a ground tells
--     limits_joined, appends_joined      where the records lie, and which limit is met
use Rattle.std.proofs.Common.{◌≡◌, ℕ, ◌+◌, ◌^◌, ◌<◌, ◌≤◌, Bool, true, false, List, [], ◌∷◌, length, Option, Some, None, inr, refl, sym, ◌∙◌, ap, subst, arith, length-append}
use Rattle.std.specs.Prelude.{Result, Ok, Err, OnOk, IfSome, is_some, not, ◌&&◌, ◌==◌, nat_le, if◌then◌else◌}
use Rattle.std.specs.List.{list_any}
use Rattle.ip_base.specs.declared.info.Info.{Info}
use Rattle.ip_base.specs.declared.limit.Limit.{Limit}
use Rattle.ip_ground.specs.Files.{number_itself}
use Rattle.ip_ground.specs.Told.{Told}
use Rattle.ip_spec.specs.declared.command.Command.{Command}
use Rattle.ip_spec.specs.declared.command.Target.{Target}
use Rattle.ip_spec.specs.declared.met.Met.{Met}
use Rattle.ip_spec.specs.declared.record.Record.{Record}
use Rattle.ip_spec.specs.declared.reply.Reply.{Reply}
use Rattle.ip_spec.specs.Batch.{AreEndToEnd, batch, reusing_sources}
use Rattle.ip_spec.specs.Machine as Machine
use Rattle.ip_spec.specs.declared.met.Child.{Child}
use Rattle.ip_spec.specs.Machine.{Phase, State}
use Rattle.ip_spec.specs.Map.{len}
use Rattle.ip_spec.specs.Merge.{Rule, merged}
use Rattle.ip_spec.specs.Path.{Bytes}
use Rattle.ip_spec.specs.Record.{Hash, spelling, spelling_of}
use Rattle.ip_spec.specs.Repository.{Repository, Commit, head, name_at, number_named}
use Rattle.ip_spec.specs.Step.{Refused, Turned, ◌>>=◌, ◌>>◌, or_refused, refuse_if, unless_some, moved_head, answer, turned, state_with_exit, IsMet, IsSwept, MayBeShort, MayHear, HasSucceeded, is_short, enough, not_existing, room_for_branch, branches_limit, within_limits, with_merge, with_commit, new_commit}
use Rattle.ip_spec.specs.Tree.{Tree}
use Rattle.ip_spec.specs.TreeAt.{Records}
use Rattle.ip_spec.specs.View.{View}
use Rattle.ip_spec.proofs.BatchLaws.{batch_lies}
use Rattle.ip_image.specs.declared.slot.Slot.{Slot}
use Rattle.ip_image.specs.Appending.{fields_of, bytes_of_records}
use Rattle.ip_held.specs.declared.fault.StoreFault.{StoreFault}
use Rattle.ip_appends.specs.declared.merging.Merge.{Merge}
use Rattle.ip_appends.specs.declared.merging.Sides.{Sides}
use Rattle.ip_held.specs.declared.held.Held.{Held}
use Rattle.ip_held.specs.declared.work.Work.{Work}
use Rattle.ip_held.specs.Changes.{Appends, HasAnswer, LimitsSpace}
use Rattle.ip_held.specs.Answers.{Answers, committed, conditions_of, met_by, met_nothing, met_of, reply_to}
use Rattle.ip_appends.specs.Commits.{repository_after, records_of, end_of}
use Rattle.ip_appends.specs.Merging.{merge_reply, IsTurn, Moves, GoesOnFrom, AnswersMerge, IsUnmoved, MergesAtMoments, IsMergeView, MergeAppends, AppendsMerge, LimitsMerge, IsJoin, IsOutcome, moves}
use Rattle.ip_held.specs.Held.{IsOf, Holds}
use Rattle.ip_held.specs.Step.{Grew, Took}
use Rattle.ip_held.specs.Collecting.{not_leaving_in}
use Rattle.ip_held.specs.Work.{IsThere, session, state_at, work_at}
use Rattle.ip_held.proofs.CommandTurns.{turn_is}
use Rattle.ip_held.proofs.Machine.{First, outcome_is, behind_first, unkept}
use Rattle.ip_held.proofs.Phases.{none_given}
use Rattle.ip_appends.proofs.MergeTurns.{IsQuiet, MayMeet, meets_nothing, joined, join_turn, when_true}
use Rattle.ip_held.proofs.Stepping.{with_value}
use Rattle.ip_held.proofs.Taking.{fault_took, fault_grew}

abbrev IsCommitted : Reply → Type 0
IsCommitted (Reply.Committed name) = Unit {0}
IsCommitted reply = ⊥

-- the merge's reply where this is the commit's
abbrev pub mate : Reply → Reply
mate (Reply.Committed name) = Reply.Merged name
mate reply = reply

moves_mate : (reply : Reply) → IsCommitted reply → Moves (mate reply)
moves_mate (Reply.Committed name) is = tt
moves_mate _ is = absurd is

abbrev pub merged_of : Result Hash StoreFault → Result Merge StoreFault
merged_of (Ok name) = Ok (Merge.Merged name)
merged_of (Err fault) = Err fault

module _ {store : Held} {a : Told} {r : Repository} (held : Holds store a r) (now : Held) (c : Told) where
  pub took_merged : (result : Result Hash StoreFault) (after : Repository) (more : Records) → Took (λ (name : Hash). true) held after more result now c → Took moves held after more (merged_of result) now c
  took_merged (Ok name) after more took = record { changes = with_value name (Merge.Merged name) r after now a c took.changes; list = took.list; clear = took.clear; fronts = took.fronts; slots = took.slots; writes = took.writes }
  took_merged (Err fault) after more took = fault_took (λ (name : Hash). true) moves fault held after more now took

  pub grew_merged : (result : Result Hash StoreFault) → Grew (λ (name : Hash). true) held result now c → Grew moves held (merged_of result) now c
  grew_merged (Ok name) grew = record { stay = grew.stay; tied = grew.tied }
  grew_merged (Err fault) grew = fault_grew (λ (name : Hash). true) moves fault held now grew

-- records are as long as from their begin to their end
lie_long : (from : ℕ) (xs : Records) (to : ℕ) → AreEndToEnd from xs to → to ≡ from + length (bytes_of_records xs)
unfolding spelling_of
lie_long from [] to lies = (let e : to ≡ from + 0 = omega (arith, lies) in e)
lie_long from (x ∷ xs) to (at, lies) =
    let rest = lie_long (from + length (spelling x.1)) xs to lies in
    omega (arith, rest, length-append (spelling x.1) (bytes_of_records xs))

module _ (rule : Rule) (r : Repository) (phase : Phase) (branch : Bytes) (info : Info) (sides : Sides) (is : IsJoin r phase branch sides) (work : Work) (v : View) (onto : work.parents ≡ sides.head ∷ sides.number ∷ [])
    (there : IsThere r work.least) (stays : not_leaving_in phase work.least ≡ Ok tt) (merges : IsOutcome rule r sides (merged v.map)) (good : within_limits v.map ≡ Ok v.map) where
  abbrev commit : Commit
  commit = new_commit r v.map work.parents info

  abbrev after : Repository
  after = with_commit r commit branch

  abbrev s : State
  s = session r phase work v

  -- the refusals that are left to both, and what is done behind them
  abbrev ends : (old space sequence : Bool) → Turned → Refused Turned
  ends old space sequence t = refuse_if old (Reply.Existing commit.name) >> (refuse_if space (Reply.Limit Limit.Space) >> (refuse_if sequence (Reply.Limit Limit.Sequence) >> Ok t))

  abbrev old : Bool
  old = is_some (number_named r commit.name)

  abbrev ends_by : Met → Turned → Refused Turned
  ends_by met t = ends old (is_short Limit.Space met.short) (is_short Limit.Sequence met.short) t

  abbrev merge_turn : Machine.Work → Turned
  merge_turn w = (Reply.Merged commit.name, state_at after phase w)

  among : (n m : ℕ) → moved_head (Some n) (n ∷ m ∷ []) ≡ None
  among n m = by (n == n) (number_itself n)
    where
      by : (b : Bool) → b ≡ true → (if list_any (λ (t : Bool). t) (b ∷ (m == n) ∷ []) then None else Some n) ≡ None
      by true same = refl
      by false same = absurd (cc (same))

  -- the branch is at the first parent
  head_is : unless_some (moved_head (head r branch) work.parents) (λ n. Reply.HeadMoved (name_at r n)) ≡ Ok tt
  head_is = (λ i. unless_some (moved_head (is.is_head i) (onto i)) (λ n. Reply.HeadMoved (name_at r n))) ∙ ap (λ (o : Option ℕ). unless_some o (λ n. Reply.HeadMoved (name_at r n))) (among sides.head sides.number)

  room_is : room_for_branch r branch ≡ Ok tt
  room_is = ap (λ (o : Option ℕ). refuse_if (not (is_some o) && nat_le branches_limit (len r.branches)) (Reply.Limit Limit.Branches)) is.is_head

  first_is : First r phase work v branch info ≡ Ok tt
  first_is = λ i. none_given r work.least there i >> (head_is i >> (stays i >> room_is i))

  commit_is : (met : Met) → met.refused ≡ false → turned s (Command.Commit branch info) (conditions_of met) ≡ or_refused s (ends_by met (committed r phase work v branch info))
  commit_is met unrefused = turn_is r phase (work_at work v) (Command.Commit branch info) tt met (ends_by met (committed r phase work v branch info)) unrefused
      (outcome_is r phase work v branch info met ∙ behind_first r phase work v branch info first_is met)

  abbrev joined_by : Met → Machine.Work → Refused Turned
  joined_by met w = joined rule r phase sides.number branch info sides.head is.is_head is.apart.0 is.apart.1 is.staying sides.base is.least met w (merged v.map)

  merge_is : (met : Met) (w : Machine.Work) → or_refused (state_at r phase w) (joined_by met w) ≡ or_refused (state_at r phase w) (ends_by met (merge_turn w))
  merge_is met w =
      ap (λ (g : Refused Tree). or_refused (state_at r phase w) (g >>= with_merge (state_at r phase w) (conditions_of met) sides.number branch sides.head info)) good
      ∙ ap (λ (ps : List ℕ). or_refused (state_at r phase w) (not_existing r (new_commit r v.map ps info).name >> (enough (conditions_of met) Limit.Space >> (enough (conditions_of met) Limit.Sequence
      >> Ok (Reply.Merged (new_commit r v.map ps info).name, state_at (with_commit r (new_commit r v.map ps info) branch) phase w))))) (sym onto)

  -- ---- the one turn by the other

  record IsFollowed (reply : Reply) (s' : State) (merge : Machine.Work → Refused Turned) : Type 0 where
    next : Repository
    turn : (w : Machine.Work) → (mate reply, state_at next phase w) ≡ or_refused (state_at r phase w) (merge w)
    same : s'.repository ≡ next
    floor : next.floor ≡ r.floor
    unmoved : ¬ IsCommitted reply → next ≡ r

  follow : (old space sequence : Bool) (reply : Reply) (s' : State) → (reply, s') ≡ or_refused s (ends old space sequence (committed r phase work v branch info)) → IsFollowed reply s' (λ w. ends old space sequence (merge_turn w))
  follow true space sequence reply s' e = subst (λ (t : Turned). IsFollowed t.0 t.1 (λ w. ends true space sequence (merge_turn w))) (sym e) (record { next = r; turn = λ w. refl; same = refl; floor = refl; unmoved = λ not. refl })
  follow false true sequence reply s' e = subst (λ (t : Turned). IsFollowed t.0 t.1 (λ w. ends false true sequence (merge_turn w))) (sym e) (record { next = r; turn = λ w. refl; same = refl; floor = refl; unmoved = λ not. refl })
  follow false false true reply s' e = subst (λ (t : Turned). IsFollowed t.0 t.1 (λ w. ends false false true (merge_turn w))) (sym e) (record { next = r; turn = λ w. refl; same = refl; floor = refl; unmoved = λ not. refl })
  follow false false false reply s' e = subst (λ (t : Turned). IsFollowed t.0 t.1 (λ w. ends false false false (merge_turn w))) (sym e) (record { next = after; turn = λ w. refl; same = refl; floor = refl; unmoved = λ not. absurd (not tt) })

  followed : (met : Met) (reply : Reply) (s' : State) → met.refused ≡ false → turned s (Command.Commit branch info) (conditions_of met) ≡ (reply, s') → IsFollowed reply s' (λ w. ends_by met (merge_turn w))
  followed met reply s' unrefused e = follow old (is_short Limit.Space met.short) (is_short Limit.Sequence met.short) reply s' (sym e ∙ commit_is met unrefused)

  turns_so : (met : Met) (reply : Reply) (s' : State) → met.refused ≡ false → MayMeet rule r phase sides.number branch info met (mate reply) → (f : IsFollowed reply s' (λ w. ends_by met (merge_turn w))) → IsTurn rule r phase sides.number branch info met (mate reply) f.next
  turns_so met reply s' unrefused meets f =
      join_turn rule r phase sides.number branch info sides.head is.is_head is.apart.0 is.apart.1 is.staying sides.base is.least met (merged v.map) merges (mate reply) f.next unrefused meets (λ w. f.turn w ∙ sym (merge_is met w))

  -- ---- what is met

  swept_mate : (reply : Reply) → IsSwept reply → IsSwept (mate reply)
  swept_mate (Reply.Committed name) is = absurd is
  swept_mate _ is = is

  meets_mate : (met : Met) (reply : Reply) → IsMet s (Command.Commit branch info) (conditions_of met) reply → MayMeet rule r phase sides.number branch info met (mate reply)
  meets_mate met reply m w target = record {
    child = same_hear phase target met.child m.child;
    checking = checked met.checking m.checking;
    start = λ t. ap mate (m.start t);
    kill = λ t. let both = m.kill t in (ap mate both.0, both.1);
    left = λ l. swept_mate reply (m.left l);
    short = shortened met.short m.short;
    refused = λ t. tt;
  }
    where
      same_hear : (phase : Phase) (target : Target) (child : Child) → MayHear phase (Command.Commit branch info) child → MayHear phase (Command.Merge target branch info) child
      same_hear Phase.Idle target child is = is
      same_hear (Phase.Collecting c None) target child is = is
      same_hear (Phase.Collecting c (Some reaped)) target child is = is

      checked : (o : Option ℕ) → IfSome o (λ left. (Command.Commit branch info ≡ Command.Look) × HasSucceeded met.child) → IfSome o (λ left. (Command.Merge target branch info ≡ Command.Look) × HasSucceeded met.child)
      checked None is = tt
      checked (Some left) is = absurd (cc (is.0))

      shortened : (o : Option Limit) → IfSome o (λ limit. (reply ≡ Reply.Limit limit) × MayBeShort limit) → IfSome o (λ limit. (mate reply ≡ Reply.Limit limit) × MayBeShort limit)
      shortened None is = tt
      shortened (Some limit) is = (ap mate is.0, is.1)

  -- memory was refused
  heard_none : (phase : Phase) (child : Child) → MayHear phase (Command.Commit branch info) child → child ≡ Child.NotAsked
  heard_none Phase.Idle child is = is
  heard_none (Phase.Collecting c None) child is = is
  heard_none (Phase.Collecting c (Some reaped)) child is = is

  -- so nothing is kept of it
  same_state : (w : Machine.Work) (child : Child) → child ≡ Child.NotAsked → state_with_exit (state_at r phase w) phase child ≡ state_at r phase w
  same_state w child is = ap (λ (heard : Child). state_with_exit (state_at r phase w) phase heard) is ∙ unkept (state_at r phase w) phase

  refused_turn : (met : Met) → MayHear phase (Command.Commit branch info) met.child → met.refused ≡ true → turned s (Command.Commit branch info) (conditions_of met) ≡ (Reply.Memory, s)
  unfolding turned
  refused_turn met heard is = ap (λ b. if b then (Reply.Memory, state_with_exit s s.phase met.child) else answer s (Command.Commit branch info) (conditions_of met)) is
      ∙ ap (λ (t : State). (Reply.Memory, t)) (same_state (work_at work v) met.child (heard_none phase met.child heard))

  module _ (told : Told) (store' : Held) (work' : Work) (goes : (q : Repository) → IsOf store' q → GoesOnFrom r store' q) where
    abbrev Answered : Met → Reply → Type 0
    Answered met reply = Answers told s v (Command.Commit branch info) met reply store' work'

    abbrev Merged : Met → Reply → Type 0
    Merged met reply = AnswersMerge rule told r phase sides.number branch info met reply store'

    answer_refused : (met : Met) (reply : Reply) → met.refused ≡ true → Answered met reply → Merged met (mate reply)
    answer_refused met reply is A =
        let turn = sym A.turns.1 ∙ refused_turn met A.turns.0.child is in
        let same : A.after ≡ r = ap (λ (t : Turned). t.1.repository) turn in
        let holds : Holds store' told r = subst (Holds store' told) same A.is_at.holds in
        record {
          after = r;
          turns = λ w target named. (meets_mate met reply A.turns.0 w target, when_true met.refused _ _ is (ap (λ (t : Turned). mate t.0) turn, sym (same_state w met.child (heard_none phase met.child A.turns.0.child))));
          floor = refl;
          stays = λ still. refl;
          holds = holds;
          goes_on = goes r holds.tables;
        }

    answer_turned : (met : Met) (reply : Reply) → met.refused ≡ false → Answered met reply → Merged met (mate reply)
    answer_turned met reply unrefused A =
        let f = followed met reply (session A.after phase work' A.view) unrefused A.turns.1 in
        let holds : Holds store' told f.next = subst (Holds store' told) f.same A.is_at.holds in
        record {
          after = f.next;
          turns = turns_so met reply (session A.after phase work' A.view) unrefused (meets_mate met reply A.turns.0) f;
          floor = f.floor;
          stays = λ still. f.unmoved (λ done. still (moves_mate reply done));
          holds = holds;
          goes_on = goes f.next holds.tables;
        }

    pub answers_joined : (result : Result Hash StoreFault) → IfSome (reply_to result) (Answered (met_by result)) → IfSome (merge_reply branch (merged_of result)) (Merged (met_by (merged_of result)))
    answers_joined (Ok name) A = answer_turned met_nothing (Reply.Committed name) refl A
    answers_joined (Err (StoreFault.GivenUp number)) A = answer_turned met_nothing (Reply.GivenUp number) refl A
    answers_joined (Err (StoreFault.HeadMoved name)) A = answer_turned met_nothing (Reply.HeadMoved name) refl A
    answers_joined (Err (StoreFault.Leaving number)) A = answer_turned met_nothing (Reply.Leaving number) refl A
    answers_joined (Err (StoreFault.Existing name)) A = answer_turned met_nothing (Reply.Existing name) refl A
    answers_joined (Err (StoreFault.Limit limit)) A = answer_turned (met_of (StoreFault.Limit limit)) (Reply.Limit limit) refl A
    answers_joined (Err StoreFault.Memory) A = answer_refused (met_of StoreFault.Memory) Reply.Memory refl A
    answers_joined (Err StoreFault.Ground) A = tt
    answers_joined (Err (StoreFault.Damaged at names)) A = tt

  -- ---- at every moment

  abbrev quiet_turn : Turned
  quiet_turn = turned s (Command.Commit branch info) (conditions_of met_nothing)

  quiet_followed : IsFollowed quiet_turn.0 quiet_turn.1 (λ w. ends_by met_nothing (merge_turn w))
  quiet_followed = followed met_nothing quiet_turn.0 quiet_turn.1 refl refl

  quiet_joined : IsQuiet rule r phase sides.number branch info (mate quiet_turn.0) (repository_after r phase work v branch info)
  quiet_joined =
      let f = quiet_followed in
      subst (IsQuiet rule r phase sides.number branch info (mate quiet_turn.0)) (sym f.same) (record {
        turns = turns_so met_nothing quiet_turn.0 quiet_turn.1 refl (meets_nothing rule r phase sides.number branch info (mate quiet_turn.0)) f;
        floor = f.floor;
        stays = λ still. f.unmoved (λ done. still (moves_mate quiet_turn.0 done));
      })

  never_unmoved : (result : Result Hash StoreFault) → ¬ IsUnmoved (merged_of result)
  never_unmoved (Ok name) = λ h. h
  never_unmoved (Err fault) = λ h. h

  pub moments_joined : {store : Held} {a : Told} (held : Holds store a r) (more : Records) (result : Result Hash StoreFault) (now : Held) (work' : Work) (c : Told)
      → IfSome (reply_to result) (λ reply. Answers c s v (Command.Commit branch info) (met_by result) reply now work') → Took moves held (repository_after r phase work v branch info) more (merged_of result) now c
      → MergesAtMoments rule held phase sides.number branch info (merged_of result) now c
  moments_joined held more result now work' c A took = record {
    after = repository_after r phase work v branch info;
    reply = mate quiet_turn.0;
    more = more;
    turns = quiet_joined.turns;
    replies = replies result A;
    floor = quiet_joined.floor;
    stays = quiet_joined.stays;
    took = took;
    unmoved = λ still. absurd (never_unmoved result still);
  }
    where
      replies : (result : Result Hash StoreFault) → IfSome (reply_to result) (λ reply. Answers c s v (Command.Commit branch info) (met_by result) reply now work') → OnOk (merged_of result) (merge_reply branch (merged_of result) ≡ Some (mate quiet_turn.0))
      replies (Ok name) A = ap (λ (t : Turned). Some (mate t.0)) (sym A.turns.1)
      replies (Err fault) A = tt

  -- ---- the records

  module _ (records : ℕ → Option Record) (view : IsMergeView rule records r sides.head sides.number v) where
    module _ (store mid : Held) (slot : mid.slot ≡ store.slot) (first : Option View) (first_is : first ≡ Some view.left) where
      abbrev more : Records
      more = records_of r work v first branch info mid

      more_are : MergeAppends rule records r sides.number branch info store.slot.end more 1
      more_are = inr (record {
        at = sides.head;
        view = v;
        is_head = is.is_head;
        not_current = is.apart.0;
        not_forward = is.apart.1;
        merge = view;
        are_records = λ i. batch v (reusing_sources v (first_is i)) (fields_of r (onto i) info branch) (slot i).end;
        count = refl;
      })

      ends_there : end_of r work v first branch info mid ≡ store.slot.end + length (bytes_of_records more)
      ends_there = lie_long mid.slot.end more (end_of r work v first branch info mid) (batch_lies v (reusing_sources v first) (fields_of r work.parents info branch) mid.slot.end) ∙ ap (λ (n : ℕ). n + length (bytes_of_records more)) (ap (λ (t : Slot). t.end) slot)

      pub limits_joined : (result : Result Hash StoreFault) → LimitsSpace (end_of r work v first branch info mid) result mid → LimitsMerge rule records r sides.number branch info (merged_of result) store
      limits_joined (Err (StoreFault.Limit Limit.Space)) limits = record { more = more; commits = 1; are = more_are; short = subst (λ (n : ℕ). 2 ^ 62 < n) ends_there (limits.space refl) }
      limits_joined (Err (StoreFault.Limit Limit.Sequence)) limits =
          let both = limits.sequence refl in
          record { more = more; commits = 1; are = more_are; short = (subst (λ (n : ℕ). n ≤ 2 ^ 62) ends_there both.0, ap (λ (t : Slot). t.sequence) (sym slot) ∙ both.1) }
      limits_joined (Err (StoreFault.Limit _)) limits = tt
      limits_joined (Err _) limits = tt
      limits_joined (Ok name) limits = tt

      pub appends_joined : (result : Result Hash StoreFault) (now : Held) (a b : Told) → LimitsSpace (end_of r work v first branch info mid) result mid → OnOk result (Appends more 1 store now a b) → (HasAnswer result → OnOk result ⊥ → now.slot ≡ store.slot)
          → AppendsMerge rule records r sides.number branch info (merged_of result) store now a b
      appends_joined (Ok name) now a b limits appends still = record {
        more = more;
        commits = 1;
        are = more_are;
        appends = appends;
        room = subst (λ (n : ℕ). n ≤ 2 ^ 62) ends_there limits.enough.0;
        sequence = subst (λ (n : ℕ). n < 2 ^ 62) (ap (λ (t : Slot). t.sequence) slot) limits.enough.1;
      }
      appends_joined (Err (StoreFault.GivenUp number)) now a b limits appends still = λ has. still tt tt
      appends_joined (Err (StoreFault.HeadMoved name)) now a b limits appends still = λ has. still tt tt
      appends_joined (Err (StoreFault.Leaving number)) now a b limits appends still = λ has. still tt tt
      appends_joined (Err (StoreFault.Existing name)) now a b limits appends still = λ has. still tt tt
      appends_joined (Err (StoreFault.Limit limit)) now a b limits appends still = λ has. still tt tt
      appends_joined (Err StoreFault.Memory) now a b limits appends still = λ has. still tt tt
      appends_joined (Err StoreFault.Ground) now a b limits appends still = λ has. absurd has
      appends_joined (Err (StoreFault.Damaged at names)) now a b limits appends still = λ has. absurd has
