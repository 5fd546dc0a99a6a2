-- What is found of the children of collections, along a run.
--     watched_later      what was told of earlier moments stands
--     same_for      what a child may read of a slot's records.      reads_then      and of the child that is held behind an exchange
--     texts_same, none_said      what is said of each reply before the next command
--     watched_more, watched_next      one exchange more.      watched_along      none more.      watched_none      none yet
--     lent_in      the attempt of a child that is held is lent.      ended_cut      what a child may read in the end.      watched_still      nothing was done.      watched_unbegun, watched_all, watched_cut      of a run in which no command was begun, all were answered, or the last was cut short
--     started_here, aimed      of the job that was started
--     watches_along      where a reply is said behind an exchange
--     heard_by      which collection's child was heard of.      watches_of      what an exchange met of it, by what the session says
use Rattle.std.proofs.Common.{◌≡◌, ◌≢◌, inl, inr, ℕ, ◌≤◌, ◌++◌, length, Bool, true, false, List, [], ◌∷◌, refl, sym, ap, ap₂, ◌∙◌, subst, arith, append_assoc, append-nil, Option, Some, None, Ok}
use Rattle.std.specs.Prelude.{◌+◌, ◌<◌, IfSome, IsSomeAnd}
use Rattle.std.proofs.lemmas.Bool.{cases_lt}
use Rattle.ip_ground.specs.declared.names.FileName.{FileName}
use Rattle.ip_base.specs.declared.exit.Reaped.{Reaped}
use Rattle.ip_ground.specs.declared.names.FileName.TheVariants.{Control, Mapping, Prefix}
use Rattle.ip_ground.specs.Contents.{Content, Image}
use Rattle.ip_ground.specs.Custody.{lent}
use Rattle.ip_ground.specs.Told.{Told, said, lending, KeepsPast, KeepsFile, KeepsCustody, KeepsSaid, SyncsOnly, Only, IsPossible, IsPossibleNow, IsSynced}
use Rattle.ip_ground.proofs.Spans.{said_now}
use Rattle.ip_spawn.specs.declared.job.Job.{Job}
use Rattle.ip_spawn.specs.declared.spawner.SpawnCounts.{SpawnCounts}
use Rattle.ip_spec.specs.declared.command.Command.{Command}
use Rattle.ip_spec.specs.declared.met.Child.{Child}
use Rattle.ip_spec.specs.declared.met.Met.{Met}
use Rattle.ip_spec.specs.declared.reply.Difference.{Difference}
use Rattle.ip_spec.specs.declared.reply.Reply.{Reply}
use Rattle.ip_spec.specs.Line.{IsLineOf}
use Rattle.ip_spec.specs.Machine.{State, Phase, exit_kept}
use Rattle.ip_spec.specs.Merge.{Rule}
use Rattle.ip_spec.specs.Path.{Bytes}
use Rattle.ip_spec.specs.Repository.{Repository}
use Rattle.ip_spec.specs.Script.{LineStep}
use Rattle.ip_spec.specs.Text.{reply_text}
use Rattle.ip_spec.specs.TreeAt.{Records}
use Rattle.ip_spec.specs.View.{View, no_view}
use Rattle.ip_image.specs.declared.counts.TurnCounts.{TurnCounts}
use Rattle.ip_image.specs.declared.slot.Slot.{Slot}
use Rattle.ip_image.specs.Collection.{IsJudged}
use Rattle.ip_image.specs.Pending.{HasLive, SameSpace, NothingPending, KeepsSpace}
use Rattle.ip_image.specs.Slot.{layout_of}
use Rattle.ip_image.specs.Standing.{Generation, StandsFor}
use Rattle.ip_image.specs.Virtual.{chunk_byte}
use Rattle.ip_image.proofs.HeadlineLaws.{one_slot}
use Rattle.ip_held.specs.declared.collection.Collection.{Collection}
use Rattle.ip_held.specs.declared.collection.Unswept.{Unswept}
use Rattle.ip_held.specs.declared.held.Held.{Held}
use Rattle.ip_collects.specs.Starting.{IsJobAt}
use Rattle.ip_held.specs.Clear.{IsClear, IsClearAt, IsClearTo, unswept_in}
use Rattle.ip_held.specs.Collecting.{phase_of, until, Collects, IsJobOf, IsOfChild, IsPhaseOf}
use Rattle.ip_held.specs.Held.{IsOf, Holds, image_records}
use Rattle.ip_held.specs.Slots.{KeepsSlots}
use Rattle.ip_held.specs.Sweeping as sweeping
use Rattle.ip_held.proofs.Recovering.{held_has}
use Rattle.ip_held.proofs.SlotLaws.{slots_on}
use Rattle.ip_check.specs.Checking.{LooksAtAll}
use Rattle.ip_session.specs.declared.session.Session.{Session}
use Rattle.ip_session.specs.Asking.{GoesOnBy, HasStarted, HeardOf, IsBoundedIn, IsSlicedIn, LooksBy, AskedIn, looked_in, looks}
use Rattle.ip_session.specs.Clearing.{ClearIn, unswept_behind}
use Rattle.ip_session.specs.Placing.{PlacedIn}
use Rattle.ip_session.specs.Session.{conditions_with, state_in, IsWorking, IsViewIn, IsJudgedIn, IsSettledIn, KeepsSpaceIn}
use Rattle.ip_session.proofs.Changing.{still_space}
use Rattle.ip_app.specs.Exchanges.{Exchange, after_all, texts_in}
use Rattle.ip_app.specs.Judged.{IsWatchedTo, WatchedIn, texts_by, says_nothing, Started, last_started, IsSettledAt, IsConcluded, IsJudgedAs, IsServedAs, IsSameFor, ReadsSame, IsHeldIn, Point, begun_at, behind_it, point_of, FindsValid, IsCheckedTo, IsAimed, Settles, StaysFrom, HearsNone, AllLeft, Watches, Watched, AllWatched}
use Rattle.ip_app.specs.Places.{StartsAt, HearsAt}
use Rattle.ip_app.proofs.Cleared.{clear_behind, left_behind}
use Rattle.ip_app.proofs.Happened.{exchange_of}
use Rattle.ip_app.proofs.Looked.{checked_to, looked_none, looked_on, looked_same}
use Rattle.ip_app.proofs.Settling.{settles_none, settles_on, settles_still, stays_behind, stays_first, stays_later}
use Rattle.ip_app.proofs.KeptSpace.{same_space, space_on, pending_space, stays_space}

-- of what there is, what follows from it
some_more : {X : Type 0} (o : Option X) (P Q : X → Type 0) → ((x : X) → P x → Q x) → IsSomeAnd o P → IsSomeAnd o Q
some_more None P Q more is = absurd is
some_more (Some x) P Q more is = more x is

-- of two facts on what there is, what follows from both
some_by : {X : Type 0} (o : Option X) (P Q : X → Type 0) (R : Type 0) → ((x : X) → P x → Q x → R) → IfSome o P → IsSomeAnd o Q → R
some_by None P Q R each p q = absurd q
some_by (Some x) P Q R each p q = each x p q

-- of what there is, if anything
if_more : {X : Type 0} (o : Option X) (P Q : X → Type 0) → ((x : X) → P x → Q x) → IfSome o P → IfSome o Q
if_more None P Q more is = tt
if_more (Some x) P Q more is = more x is

-- since then this slot alone is live in whatever a crash leaves, up to a moment
abbrev IsLiveUntil : Told → Slot → (until : ℕ) → Option ℕ → Type 0
IsLiveUntil told slot until o = IfSome o (λ at. (t : ℕ) → at < t → t ≤ until → (crashed : Image) → IsPossible told t crashed → HasLive slot crashed)

some_with : {X : Type 0} (o : Option X) (P Q : X → Type 0) → IfSome o P → IsSomeAnd o Q → IsSomeAnd o (λ x. P x × Q x)
some_with None P Q p q = absurd q
some_with (Some x) P Q p q = (p, q)

-- and of three
some_both : {X : Type 0} (o : Option X) (P Q R S : X → Type 0) → ((x : X) → P x → Q x → R x → S x) → IsSomeAnd o P → IsSomeAnd o Q → IsSomeAnd o R → IsSomeAnd o S
some_both None P Q R S each p q r = absurd p
some_both (Some x) P Q R S each p q r = each x p q r

-- ---- time goes on

module _ (a b : Told) (goes : KeepsPast a b) where
  settled_before : (t attempt : ℕ) (pair : Image) → t ≤ a.moment → IsSettledAt b t attempt pair → IsSettledAt a t attempt pair
  settled_before t attempt pair le is = (is.0, sym (goes.lending t attempt le) ∙ is.1)

  settled_later : (t attempt : ℕ) (pair : Image) → t ≤ a.moment → IsSettledAt a t attempt pair → IsSettledAt b t attempt pair
  settled_later t attempt pair le is = (is.0, goes.lending t attempt le ∙ is.1)

  served_later : (answered : ℕ) (image : Image) (job : Job) → answered ≤ a.moment → IsServedAs a answered image job → IsServedAs b answered image job
  served_later answered image job le is = record {
    pair = is.pair;
    settled = settled_later answered job.attempt is.pair le is.settled;
    mapping = is.mapping;
    prefix = is.prefix;
    slot = is.slot;
    has = is.has;
    live = is.live;
    horizon = is.horizon;
    length = is.length;
    rows = is.rows;
    mapping_is = is.mapping_is;
  }

  judged_later : (answered : ℕ) (behind : Image) (phase : Phase) (records : Records) (job : Job) (reaped : Reaped) (x : Exchange) → answered ≤ a.moment → IsJudgedAs a answered behind phase records job reaped x → IsJudgedAs b answered behind phase records job reaped x
  judged_later answered behind phase records job reaped x le is = record {
    attempt = is.attempt;
    concluded = is.concluded;
    commit = is.commit;
    here = is.here;
    number = is.number;
    judged = λ pair settled. is.judged pair (settled_before answered job.attempt pair le settled);
    settled = (is.settled.0, settled_later answered job.attempt is.settled.0 le is.settled.1);
    served = λ floor left e. served_later answered behind job le (is.served floor left e);
  }

  possible_later : (t : ℕ) (image : Image) → t ≤ a.moment → IsPossible a t image → IsPossible b t image
  possible_later t image le possible file = goes.still_left t file (image file) le (possible file)

  possible_before : (t : ℕ) (image : Image) → t ≤ a.moment → IsPossible b t image → IsPossible a t image
  possible_before t image le possible file = goes.left t file (image file) le (possible file)

  reads_later : (child : Started) (until : ℕ) → until ≤ a.moment → ReadsSame a child until → ReadsSame b child until
  reads_later child until le same t after before image possible = same t after before image (possible_before t image (omega (arith, before, le)) possible)

  watched_later : (rule : Rule) (old : Told) → (NothingPending old → Settles a b) → (text : Bytes) (since : ℕ) (p q : Point) (x : Exchange) (began answered : ℕ) (image behind : Image) → Watched rule old a text since p q x began answered image behind → Watched rule old b text since p q x began answered image behind
  watched_later rule old settles text since p q x began answered image behind was =
      let early : began ≤ a.moment = (let le = was.later in let now = was.by_now in omega (arith, le, now)) in
      record {
        over = was.over;
        later = was.later;
        by_now = (let now = was.by_now in let later = goes.later in omega (arith, now, later));
        said_then = goes.said began early ∙ was.said_then;
        unsaid = goes.said answered was.by_now ∙ was.unsaid;
        possible = possible_later began image early was.possible;
        stands = was.stands;
        has = was.has;
        left = possible_later answered behind was.by_now was.left;
        stands_behind = was.stands_behind;
        has_behind = was.has_behind;
        placed = was.placed;
        unswept = was.unswept;
        tree = was.tree;
        seen = was.seen;
        starts = was.starts;
        aims = was.aims;
        hears = was.hears;
        judged = λ reaped ended. some_more p.last _ _ (λ child is. judged_later answered behind p.state.phase was.stands.standing.records child.job reaped x was.by_now is) (was.judged reaped ended);
        checked = was.checked;
        looked = was.looked;
        same = was.same;
        begun = was.begun;
        few = was.few;
        lent = λ held. some_more p.last _ _ (λ child is. goes.lending began child.job.attempt early ∙ is) (was.lent held);
        lent_behind = λ held. some_more q.last _ _ (λ child is. goes.lending answered child.job.attempt was.by_now ∙ is) (was.lent_behind held);
        swept = λ has. some_more p.last _ _ (λ child is. (is.0, settled_later answered child.job.attempt is.0 was.by_now is.1)) (was.swept has);
        all_but = λ has. left_behind (sweeping.IsSwept q.slot p.unswept) x.turn.met.left behind (a.lending_at answered) (b.lending_at answered) (λ attempt. goes.lending answered attempt was.by_now) (was.all_but has);
        bounded = was.bounded;
        slots = λ order t late le crashed possible. (let now = was.by_now in was.slots order t late le crashed (possible_before t crashed (omega (arith, le, now)) possible));
        live_until = if_more p.answered _ _ (λ at live t late le crashed possible. live t late le crashed (possible_before t crashed (omega (arith, le, early)) possible)) was.live_until;
        stays = λ order t low high. stays_later a b goes (settles order) t answered high was.by_now (was.stays order t low high);
        clear = λ clear swept none slot has. clear_behind slot behind (a.lending_at answered) (b.lending_at answered) (λ attempt. goes.lending answered attempt was.by_now) (was.clear clear swept none slot has);
        reads = λ order held. some_more p.last _ _ (λ child is. (reads_later child began early is.0, λ none. reads_later child answered was.by_now (is.1 none))) (was.reads order held);
      }

-- ---- what a child may read

same_itself : (job : Job) (image : Image) → IsSameFor job image image
same_itself job image = record { chunks = λ at low high. refl; mapping = λ some. refl; prefix = λ some. refl }

-- the job is of the slot that was live
same_for : (slot : Slot) (job : Job) (then held image : Image) → IsJobOf slot job → IsSameFor job then held → SameSpace slot held image → IsSameFor job then image
same_for slot job then held image of same space = record {
  chunks = λ at low high. subst (λ (size : ℕ). chunk_byte size image at ≡ chunk_byte size held at) (sym of.chunk) (space.chunks at (let e = of.old_horizon in omega (arith, low, e)) (let e = of.end in omega (arith, high, e))) ∙ same.chunks at low high;
  mapping = λ some. subst (λ (n : ℕ). image (Mapping n) ≡ held (Mapping n)) (sym of.live) (space.mapping (λ none. some (of.live ∙ none))) ∙ same.mapping some;
  prefix = λ some. subst (λ (n : ℕ). image (Prefix n) ≡ held (Prefix n)) (sym of.live) (space.prefix (λ none. some (of.live ∙ none))) ∙ same.prefix some;
}

abbrev pub Going : Option Collection → Option Started → Type 0
Going collection last = IfSome collection (λ c. IsSomeAnd last (λ child. child.job ≡ c.job))

pub none_going : (collection : Option Collection) → collection ≡ None → Going collection None
none_going collection is = subst (λ (o : Option Collection). Going o None) (sym is) tt

going_more : (child : Child) (answered : ℕ) (image : Image) (jobs : List Job) (last : Option Started) (before now : Option Collection) → Going before last → GoesOnBy child jobs before now → Going now (last_started answered image jobs last)
going_more child answered image jobs last before None going goes = tt
going_more child answered image jobs last before (Some c) going (inl started) = subst (λ (js : List Job). IsSomeAnd (last_started answered image js last) (λ child. child.job ≡ c.job)) (sym started.0) refl
going_more child answered image jobs last before (Some c) going (inr (none, same)) =
    subst (λ (js : List Job). IsSomeAnd (last_started answered image js last) (λ child. child.job ≡ c.job)) (sym none)
    (some_by before (λ d. IsSomeAnd last (λ child. child.job ≡ d.job)) (λ d. (c.commit ≡ d.commit) × (c.job ≡ d.job) × (c.exit ≡ None → d.exit ≡ None) × LooksBy child d c) _ (λ d started is. some_more last _ _ (λ child e. e ∙ sym is.1) started) going same)

-- what is so of a collection's job is so of that of its child
of_going : (collection : Option Collection) (last : Option Started) → Going collection last → (P : Job → Type 0) → IsSomeAnd collection (λ c. P c.job) → IsSomeAnd last (λ child. P child.job)
of_going collection last going P is = some_by collection (λ c. IsSomeAnd last (λ child. child.job ≡ c.job)) (λ c. P c.job) _ (λ c started p. some_more last (λ child. child.job ≡ c.job) (λ child. P child.job) (λ child same. subst P (sym same) p) started) going is

-- of a run so far: a child that is held reads the same up to now
-- of a child that is held, from when it was started up to now, and now
abbrev pub ReadsNow : Told → Started → Type 0
ReadsNow told child = ReadsSame told child told.moment × IsSameFor child.job child.image told.held × (child.from ≤ told.moment)

abbrev Reads : Told → State → Option Started → Type 0
Reads told s last = IsHeldIn s → IsSomeAnd last (λ child. ReadsNow told child)

held_some : (s : State) (collection : Option Collection) → s.phase ≡ phase_of collection → IsHeldIn s → IsSomeAnd collection (λ c. c.exit ≡ None)
held_some s None phase held = absurd (cc (sym held.1 ∙ phase))
held_some s (Some c) phase held = (let same : Phase.Collecting held.0 None ≡ Phase.Collecting c.commit c.exit = sym held.1 ∙ phase in sym (ap exit_kept same))

jobs_in : (store : Held) (r : Repository) → IsOf store r → IfSome store.collection (λ c. IsJobOf store.slot c.job)
jobs_in store r tables = by store.collection tables.phase
  where
    by : (o : Option Collection) → IsPhaseOf store.slot r o → IfSome o (λ c. IsJobOf store.slot c.job)
    by None is = tt
    by (Some c) is = is.told

-- its attempt is lent
pub lent_in : (told : Told) (store : Held) (r : Repository) → Holds store told r → (s : State) → s.phase ≡ phase_of store.collection → IsHeldIn s → IsSomeAnd store.collection (λ c. lending told c.job.attempt ≡ lent)
lent_in told store r holds s phase held = by store.collection holds.collects (held_some s store.collection phase held)
  where
    by : (o : Option Collection) → IfSome o (Collects told store.slot holds.stands.standing.records r) → IsSomeAnd o (λ c. c.exit ≡ None) → IsSomeAnd o (λ c. lending told c.job.attempt ≡ lent)
    by None collects none = absurd none
    by (Some c) collects none = subst (IsOfChild told holds.stands.standing.records c) none collects.child

-- of a run so far: what was settled is so still
abbrev StaysSo : Told → Told → Type 0
StaysSo old told = NothingPending old → (t : ℕ) → old.moment ≤ t → t ≤ told.moment → StaysFrom told t told.moment

-- a look that finds the pair valid, by how many records were looked at before
bounded_by : (records : Records) (before : Option Collection) (reply : Reply) → FindsValid reply → IsBoundedIn records before reply → IsSomeAnd before (λ c. LooksAtAll (until c.job.end records) c.job (looked_in before + looks))
bounded_by records None (Reply.Collected floor left) valid bounded = bounded
bounded_by records (Some c) (Reply.Collected floor left) valid bounded = bounded
bounded_by records None (Reply.Limit limit) valid bounded = bounded
bounded_by records (Some c) (Reply.Limit limit) valid bounded = bounded
bounded_by records before _ valid bounded = absurd valid

-- ---- one exchange

module _ (rule : Rule) (a b : Told) (goes : KeepsPast a b) (s : State) (v view : View) (before now : Option Collection) (slot slot' : Slot) (unswept unswept' : Unswept) (x : Exchange) (w : Watches rule a b s v view before now slot slot' unswept unswept' x) (last : Option Started) (going : Going before last) where
  -- that of the collection
  by_going : (P : Job → Type 0) → IsSomeAnd before (λ c. P c.job) → IsSomeAnd last (λ child. P child.job)
  by_going = of_going before last going

  -- and its slot's
  job_there : IsHeldIn s → IsSomeAnd last (λ child. IsJobOf slot child.job)
  job_there held = by_going (IsJobOf slot) (some_more before _ _ (λ c both. both.0) (some_with before (λ c. IsJobOf slot c.job) (λ c. c.exit ≡ None) w.job (held_some s before w.phase held)))

  -- while the command runs
  reads_on : NothingPending a → (child : Started) → IsJobOf slot child.job → ReadsNow a child → ((reaped : Reaped) → x.turn.met.child ≢ Child.Ended reaped) → ReadsSame b child w.answered
  reads_on order child of same none t after le image possible = elim (cases_lt a.moment t) [
    | inl late ↦ same_for slot child.job child.image a.held image of same.1 (w.space order none t late le image possible)
    | inr soon ↦ same.0 t after soon image (possible_before a b goes t image soon possible)
  ]

  -- what it reads when the command is answered
  reads_behind : NothingPending a → (child : Started) → IsJobOf slot child.job → ReadsNow a child → ((reaped : Reaped) → x.turn.met.child ≢ Child.Ended reaped) → IsSameFor child.job child.image w.behind
  reads_behind order child of same none = same_for slot child.job child.image a.held w.behind of same.1 (elim (cases_lt a.moment w.answered) [
    | inl late ↦ w.space order none w.answered late (omega arith) w.behind w.left
    | inr still ↦
        let moment : w.answered ≡ a.moment = (let le = w.later in omega (arith, still, le)) in
        pending_space a order slot w.has w.behind (possible_before a b goes a.moment w.behind (omega arith) (subst (λ (t : ℕ). IsPossible b t w.behind) moment w.left))
  ])

  -- and its reply is said
  reads_said : NothingPending a → (child : Started) → IsJobOf slot' child.job → IsSameFor child.job child.image w.behind → ReadsSame b child w.answered → ReadsSame b child b.moment
  reads_said order child of same early t after le image possible = elim (cases_lt w.answered t) [
    | inl late ↦ same_for slot' child.job child.image w.behind image of same (w.saying order t late le image possible)
    | inr soon ↦ early t after soon image possible
  ]

  abbrev Found : Option Started → Type 0
  Found o = IsSomeAnd o (λ child. ReadsNow b child)

  -- of the child that is held behind it
  reads_then : GoesOnBy x.turn.met.child x.started before now → NothingPending a → Reads a s last → Reads b x.after (last_started w.answered w.behind x.started last)
  reads_then goes_on order reads held = by now refl (held_some x.after now w.phase_behind held) goes_on w.job_behind
    where
      unheard : (reaped : Reaped) → x.turn.met.child ≢ Child.Ended reaped
      unheard = w.unheard held

      -- it was started now
      first : (c : Collection) → IsJobOf slot' c.job → Found (Some (record { job = c.job; from = w.answered; image = w.behind }))
      first c of =
          let child : Started = record { job = c.job; from = w.answered; image = w.behind } in
          let same = same_itself c.job w.behind in
          (reads_said order child of same (λ t after le image possible. absurd (omega (arith, after, le))), same_for slot' c.job w.behind w.behind b.held of same (w.held order), w.by_now)

      -- it was held before
      next : (c : Collection) → IsJobOf slot' c.job → (child : Started) → child.job ≡ c.job → IsJobOf slot child.job → ReadsNow a child → ReadsNow b child
      next c of child same of_before was =
          let behind = reads_behind order child of_before was unheard in
          let of_then = subst (IsJobOf slot') (sym same) of in
          let early = was.2 in
          let le = w.later in
          let now = w.by_now in
          (reads_said order child of_then behind (reads_on order child of_before was unheard), same_for slot' child.job child.image w.behind b.held of_then behind (w.held order), omega (arith, early, le, now))

      held_before : (c d : Collection) → before ≡ Some d → d.exit ≡ None → IsHeldIn s
      held_before c d is none = (d.commit, w.phase ∙ (ap phase_of is ∙ ap (Phase.Collecting d.commit) none))

      going_on : (c : Collection) → IsJobOf slot' c.job → c.exit ≡ None → (o : Option Collection) → before ≡ o → IsSomeAnd o (λ d. (c.commit ≡ d.commit) × (c.job ≡ d.job) × (c.exit ≡ None → d.exit ≡ None) × LooksBy x.turn.met.child d c) → Found last
      going_on c of none None is same = absurd same
      going_on c of none (Some d) is same =
          let there = held_before c d is (same.2 none) in
          let started = subst (λ (o : Option Collection). Going o last) is going in
          some_both last (λ child. child.job ≡ d.job) (λ child. IsJobOf slot child.job) (λ child. ReadsNow a child) _ (λ child job of_before was. next c of child (job ∙ sym same.1) of_before was) started (job_there there) (reads there)

      by : (o : Option Collection) → now ≡ o → IsSomeAnd o (λ c. c.exit ≡ None) → GoesOnBy x.turn.met.child x.started before o → IfSome o (λ c. IsJobOf slot' c.job) → Found (last_started w.answered w.behind x.started last)
      by None is none goes_on of = absurd none
      by (Some c) is none (inl started) of = subst (λ (jobs : List Job). Found (last_started w.answered w.behind jobs last)) (sym started.0) (first c of)
      by (Some c) is none (inr (nothing, same)) of = subst (λ (jobs : List Job). Found (last_started w.answered w.behind jobs last)) (sym nothing) (going_on c of none before refl same)

  -- an exchange that began at the moment of which this is told
  watched_of : (old : Told) (text : Bytes) (since : ℕ) → since ≤ a.moment → said a ≡ text → GoesOnBy x.turn.met.child x.started before now → (NothingPending old → NothingPending a) → StaysSo old a → (NothingPending old → Reads a s last) → (IsClearAt old → IsClearTo slot unswept a.held (lending a)) → (at : Option ℕ) → IsLiveUntil a slot a.moment at
      → Watched rule old b text since (point_of s v slot unswept last before at) (point_of x.after view slot' unswept' (last_started w.answered w.behind x.started last) now (Some w.answered)) x a.moment w.answered a.held w.behind
  watched_of old text since over all goes_on calm stays reads cleared at live = record {
    over = over;
    later = w.later;
    by_now = w.by_now;
    said_then = goes.said a.moment (omega arith) ∙ all;
    unsaid = w.unsaid ∙ all;
    possible = w.possible;
    stands = w.stands;
    has = w.has;
    left = w.left;
    stands_behind = w.stands_behind;
    has_behind = w.has_behind;
    placed = w.placed;
    unswept = w.unswept_behind;
    tree = w.tree;
    seen = w.seen;
    starts = w.starts;
    aims = w.aims;
    hears = w.hears;
    judged = λ reaped ended. by_going (λ job. IsJudgedAs b w.answered w.behind s.phase w.stands.standing.records job reaped x) (w.judged reaped ended);
    checked = λ left is. by_going (λ job. IsCheckedTo (until job.end w.stands_behind.standing.records) job (looked_in before) (looked_in now) left) (w.checked left is);
    looked = w.looked;
    same = w.same;
    begun = w.begun;
    few = w.few;
    lent = λ held. by_going (λ job. b.lending_at a.moment job.attempt ≡ lent) (some_more before _ _ (λ c is. goes.lending a.moment c.job.attempt (omega arith) ∙ is) (w.lent held));
    lent_behind = λ held. of_going now (last_started w.answered w.behind x.started last) (going_more x.turn.met.child w.answered w.behind x.started last before now going goes_on) (λ job. b.lending_at w.answered job.attempt ≡ lent) (w.lent_behind held);
    swept = λ has. by_going (λ job. (pair : Image) × IsSettledAt b w.answered job.attempt pair) (w.swept has);
    all_but = w.all_but;
    bounded = λ looks_at valid. by_going (λ job. LooksAtAll (until job.end w.stands.standing.records) job (looked_in before + looks)) (bounded_by w.stands.standing.records before x.reply valid (w.bounded looks_at));
    slots = λ order t late le crashed possible. (let now = w.by_now in w.slots (calm order) slot w.has t late (omega (arith, le, now)) crashed possible);
    live_until = if_more at _ _ (λ m was t late le crashed possible. was t late le crashed (possible_before a b goes t crashed le possible)) live;
    stays = λ order t low high. w.stays (calm order) t (λ soon. stays order t low soon) high;
    clear = λ clear swept none u has. subst (λ (t : Slot). IsClear t w.behind (b.lending_at w.answered)) (one_slot slot' u w.behind w.has_behind has) (w.clear (cleared clear) swept none);
    reads = λ order held. some_both last (λ child. IsJobOf slot child.job) (λ child. ReadsNow a child) (λ child. Unit {0}) _
        (λ child of was u. (reads_later a b goes child a.moment (omega arith) was.0, λ none. reads_on (calm order) child of was none)) (job_there held) (reads order held) (some_more last _ _ (λ child was. tt) (reads order held));
  }

-- ---- what is said

pub texts_same : (xs : List Exchange) → texts_in xs ≡ texts_by reply_text xs
texts_same [] = refl
texts_same (x ∷ xs) = ap (λ (t : Bytes). reply_text x.reply ++ t) (texts_same xs)

pub none_said : (xs : List Exchange) → texts_by says_nothing xs ≡ []
none_said [] = refl
none_said (x ∷ xs) = none_said xs

-- ---- one exchange more

pub watched_more : (rule : Rule) (says : Reply → Bytes) (old a b : Told) → KeepsPast a b → (text : Bytes) (since : ℕ) (p : Point) (xs : List Exchange) (s : State) (v view : View) (before now : Option Collection) (slot slot' : Slot) (unswept unswept' : Unswept) (x : Exchange) (last : Option Started)
    → (at : Option ℕ) → IsLiveUntil a slot a.moment at → AllWatched rule says old a text since p xs (point_of s v slot unswept last before at) → since ≤ a.moment → said a ≡ text ++ texts_by says xs → Going before last → GoesOnBy x.turn.met.child x.started before now → (NothingPending old → NothingPending a) → StaysSo old a → (NothingPending old → Reads a s last) → (IsClearAt old → IsClearTo slot unswept a.held (lending a))
    → (w : Watches rule a b s v view before now slot slot' unswept unswept' x) → AllWatched rule says old b text since p (xs ++ x ∷ []) (point_of x.after view slot' unswept' (last_started w.answered w.behind x.started last) now (Some w.answered))
watched_more rule says old a b goes text since p [] s v view before now slot slot' unswept unswept' x last at live was over all going goes_on calm stays reads cleared w =
    let end : Point = point_of x.after view slot' unswept' (last_started w.answered w.behind x.started last) now (Some w.answered) in
    subst (λ (q : Point). AllWatched rule says old b text since q (x ∷ []) end) was
    (a.moment, w.answered, a.held, w.behind, view, slot', unswept', looked_in now, watched_of rule a b goes s v view before now slot slot' unswept unswept' x w last going old text since over (all ∙ append-nil text) goes_on calm stays reads cleared at live, refl)
watched_more rule says old a b goes text since p (y ∷ xs) s v view before now slot slot' unswept unswept' x last at live was over all going goes_on calm stays reads cleared w = (
  was.0,
  was.1,
  was.2,
  was.3,
  was.4,
  was.5,
  was.6,
  was.7,
  watched_later a b goes rule old (λ order. w.settles (calm order)) text since p (behind_it p y was.1 was.3 was.4 was.5 was.6 was.7) y was.0 was.1 was.2 was.3 was.8,
  watched_more rule says old a b goes (text ++ says y.reply) was.1 (behind_it p y was.1 was.3 was.4 was.5 was.6 was.7) xs s v view before now slot slot' unswept unswept' x last at live was.9 was.8.by_now (all ∙ sym (append_assoc text (says y.reply) (texts_by says xs))) going goes_on calm stays reads cleared w,
)

-- none more, while time goes on
pub watched_along : (rule : Rule) (says : Reply → Bytes) (old a b : Told) → KeepsPast a b → (NothingPending old → Settles a b) → (text : Bytes) (since : ℕ) (p : Point) (xs : List Exchange) (end : Point) → AllWatched rule says old a text since p xs end → AllWatched rule says old b text since p xs end
watched_along rule says old a b goes settles text since p [] end was = was
watched_along rule says old a b goes settles text since p (y ∷ xs) end was =
    let q : Point = behind_it p y was.1 was.3 was.4 was.5 was.6 was.7 in
    (was.0, was.1, was.2, was.3, was.4, was.5, was.6, was.7, watched_later a b goes rule old settles text since p q y was.0 was.1 was.2 was.3 was.8, watched_along rule says old a b goes settles (text ++ says y.reply) was.1 q xs end was.9)

-- the last command was cut short
pub ended_cut : (a b : Told) (goes : KeepsPast a b) → (s : State) (store : Held) (r : Repository) → Holds store a r → s.phase ≡ phase_of store.collection → (last : Option Started) → Going store.collection last → IsHeldIn s → IsSomeAnd last (λ child. ReadsNow a child)
    → (None_heard : Type 0) → (None_heard → (slot : Slot) → HasLive slot a.held → KeepsSpace slot a b) → IsSomeAnd last (λ child. ReadsSame b child a.moment × (None_heard → ReadsSame b child b.moment))
ended_cut a b goes s store r holds phase last going held reads None_heard space =
    some_both last (λ child. IsJobOf store.slot child.job) (λ child. ReadsNow a child) (λ child. Unit {0}) _ (λ child of was u. (reads_later a b goes child a.moment (omega arith) was.0, λ none. on child of was none)) jobs reads (some_more last _ _ (λ child was. tt) reads)
  where
    jobs : IsSomeAnd last (λ child. IsJobOf store.slot child.job)
    jobs = some_by store.collection (λ c. IsSomeAnd last (λ child. child.job ≡ c.job)) (λ c. IsJobOf store.slot c.job) _ (λ c started of. some_more last (λ child. child.job ≡ c.job) (λ child. IsJobOf store.slot child.job) (λ child same. subst (IsJobOf store.slot) (sym same) of) started) going
        (some_more store.collection _ _ (λ c both. both.0) (some_with store.collection (λ c. IsJobOf store.slot c.job) (λ c. c.exit ≡ None) (jobs_in store r holds.tables) (held_some s store.collection phase held)))

    on : (child : Started) → IsJobOf store.slot child.job → ReadsNow a child → None_heard → ReadsSame b child b.moment
    on child of was none t after le image possible_then = elim (cases_lt a.moment t) [
      | inl late ↦ same_for store.slot child.job child.image a.held image of was.1 (space none store.slot (held_has store r a holds) t late le image possible_then)
      | inr soon ↦ was.0 t after soon image (possible_before a b goes t image soon possible_then)
    ]

-- one exchange more of a run
pub watched_next : (rule : Rule) (says : Reply → Bytes) (old a b : Told) → KeepsPast old a → KeepsPast a b → (start : Slot) (first : State) (xs : List Exchange) (v view : View) (before now : Option Collection) (slot slot' : Slot) (unswept unswept' : Unswept) (x : Exchange) → IsWatchedTo rule says old a start first xs before slot unswept v → said a ≡ said old ++ texts_by says xs
    → (NothingPending old → NothingPending a) → after_all first (xs ++ x ∷ []) ≡ x.after → GoesOnBy x.turn.met.child x.started before now → (IsClearAt old → IsClearTo slot unswept a.held (lending a)) → Watches rule a b (after_all first xs) v view before now slot slot' unswept unswept' x → IsWatchedTo rule says old b start first (xs ++ x ∷ []) now slot' unswept' view
watched_next rule says old a b past goes start first xs v view before now slot slot' unswept unswept' x was all calm after goes_on cleared w = record {
  last = last_started w.answered w.behind x.started was.last;
  answered = Some w.answered;
  live_until = w.stays_live;
  watched = subst (λ (t : State). AllWatched rule says old b (said old) old.moment (begun_at start first) (xs ++ x ∷ []) (point_of t view slot' unswept' (last_started w.answered w.behind x.started was.last) now (Some w.answered))) (sym after)
      (watched_more rule says old a b goes (said old) old.moment (begun_at start first) xs (after_all first xs) v view before now slot slot' unswept unswept' x was.last was.answered was.live_until was.watched past.later all was.going goes_on calm was.stays was.reads cleared w);
  going = going_more x.turn.met.child w.answered w.behind x.started was.last before now was.going goes_on;
  stays = λ order t low high. stays_behind a b goes (w.settles (calm order)) t high (λ soon. was.stays order t low soon);
  reads = λ order. subst (λ (t : State). Reads b t (last_started w.answered w.behind x.started was.last)) (sym after) (reads_then rule a b goes (after_all first xs) v view before now slot slot' unswept unswept' x w was.last was.going goes_on (calm order) (was.reads order));
}

-- nothing was done
pub watched_still : (rule : Rule) (says : Reply → Bytes) (old a b : Told) → KeepsPast a b → b.moment ≡ a.moment → b.held ≡ a.held → (start : Slot) (first : State) (xs : List Exchange) (collection : Option Collection) (slot : Slot) (unswept : Unswept) (v : View) → IsWatchedTo rule says old a start first xs collection slot unswept v → IsWatchedTo rule says old b start first xs collection slot unswept v
watched_still rule says old a b goes same held start first xs collection slot unswept v w = record {
  last = w.last;
  answered = w.answered;
  live_until = if_more w.answered _ _ (λ at live t late le crashed possible. live t late (omega (arith, le, same)) crashed (possible_before a b goes t crashed (omega (arith, le, same)) possible)) w.live_until;
  watched = watched_along rule says old a b goes (λ order. settles_still a b same) (said old) old.moment (begun_at start first) xs _ w.watched;
  going = w.going;
  stays = λ order t low high. stays_behind a b goes (settles_still a b same) t high (λ soon. w.stays order t low soon);
  reads = λ order runs. some_more w.last _ _ (λ child was. let early = was.2 in (
    (λ t after le image possible. was.0 t after (omega (arith, le, same)) image (possible_before a b goes t image (omega (arith, le, same)) possible)),
    subst (IsSameFor child.job child.image) (sym held) was.1,
    omega (arith, early, same),
  )) (w.reads order runs);
}

-- none yet
pub watched_none : (rule : Rule) (says : Reply → Bytes) (old now : Told) → SyncsOnly (Only Control) old now → (start : Slot) (first : State) (collection : Option Collection) → collection ≡ None → first.phase ≡ Phase.Idle → (unswept : Unswept) → unswept ≡ unswept_in start → (v : View) → v ≡ no_view → IsWatchedTo rule says old now start first [] collection start unswept v
watched_none rule says old now only start first collection idle calm unswept carried v none = record {
  last = None;
  answered = None;
  live_until = tt;
  watched = begun collection idle unswept carried v none;
  going = none_going collection idle;
  stays = λ order t low high. stays_behind old now only.changes.goes (settles_none old now only.changes.lending) t high (λ soon. stays_first old t low soon);
  reads = λ order held. absurd (cc (held.1, calm));
}
  where
    begun : (o : Option Collection) → o ≡ None → (u : Unswept) → u ≡ unswept_in start → (w : View) → w ≡ no_view → point_of first w start u None o None ≡ begun_at start first
    begun (Some c) is u same w seen = absurd (cc is)
    begun None is u same w seen = ap₂ (λ (t : Unswept) (y : View). point_of first y start t None None None) same seen

-- nor ever
pub watched_unbegun : (rule : Rule) (says : Reply → Bytes) (is_unsaid is_cut_short : Bool) (old new : Told) (slot : Slot) (first : State) → first.phase ≡ Phase.Idle → said new ≡ said old → HasLive slot new.held → WatchedIn rule says is_unsaid is_cut_short old new slot first []
watched_unbegun rule says is_unsaid is_cut_short old new slot first calm quiet live = record {
  whole = [];
  cut = [];
  all = refl;
  one = omega arith;
  none = λ _. refl;
  some = λ short behind. absurd (behind refl);
  end = begun_at slot first;
  watched = refl;
  live = λ _. live;
  ended = new.moment;
  by_now = omega arith;
  said_then = λ _. quiet ∙ sym (append-nil (said old));
  lent = λ held. absurd (cc (held.1, calm));
  reads = λ order held. absurd (cc (held.1, calm));
  slots = λ order some t late le. absurd (some refl);
  live_until = tt;
}

-- the last command was cut short
pub watched_cut : (rule : Rule) (says : Reply → Bytes) (is_unsaid is_cut_short : Bool) → is_cut_short ≡ true → (old mid new : Told) → KeepsPast mid new → (start : Slot) (first : State) (xs : List Exchange) (x : Exchange) (store : Held) (r : Repository) (v : View) → IsWatchedTo rule says old mid start first xs store.collection store.slot store.unswept v → said mid ≡ said old ++ texts_by says xs → Holds store mid r
    → (after_all first xs).phase ≡ phase_of store.collection → (NothingPending old → Settles mid new) → (NothingPending old → KeepsSlots mid new) → (NothingPending old → ((reaped : Reaped) → x.turn.met.child ≢ Child.Ended reaped) → (slot : Slot) → HasLive slot mid.held → KeepsSpace slot mid new) → WatchedIn rule says is_unsaid is_cut_short old new start first (xs ++ x ∷ [])
watched_cut rule says is_unsaid is_cut_short short old mid new goes start first xs x store r v w all holds phase settles slots space = record {
  whole = xs;
  cut = x ∷ [];
  all = refl;
  one = omega arith;
  none = λ c. absurd (cc (c, short));
  some = λ c behind empty. absurd (cc empty);
  end = point_of (after_all first xs) v store.slot store.unswept w.last store.collection w.answered;
  watched = watched_along rule says old mid new goes settles (said old) old.moment (begun_at start first) xs _ w.watched;
  live = λ none. absurd (cc none);
  ended = mid.moment;
  by_now = goes.later;
  said_then = λ _. goes.said mid.moment (omega arith) ∙ all;
  lent = λ held. of_going store.collection w.last w.going (λ job. new.lending_at mid.moment job.attempt ≡ lent) (some_more store.collection _ _ (λ c is. goes.lending mid.moment c.job.attempt (omega arith) ∙ is) (lent_in mid store r holds (after_all first xs) phase held));
  reads = λ order held. ended_cut mid new goes (after_all first xs) store r holds phase w.last w.going held (w.reads order held) (HearsNone (x ∷ [])) (λ none slot live. space order (none x refl) slot live);
  slots = λ order some. slots order store.slot (held_has store r mid holds);
  live_until = if_more w.answered _ _ (λ at live t late le cut_then crashed possible. (let soon : t ≤ mid.moment = cut_then (λ none. cc none) in live t late soon crashed (possible_before mid new goes t crashed soon possible))) w.live_until;
}

-- all were answered, and then this was said
pub watched_all : (rule : Rule) (says : Reply → Bytes) (is_unsaid is_cut_short : Bool) → is_cut_short ≡ false → (old now : Told) (start : Slot) (first : State) (xs : List Exchange) (collection : Option Collection) (slot : Slot) (unswept : Unswept) (v : View) → IsWatchedTo rule says old now start first xs collection slot unswept v → HasLive slot now.held → (ended : ℕ) → ended ≤ now.moment
    → (is_unsaid ≡ false → now.said_at ended ≡ said old ++ texts_by says xs) → (IsHeldIn (after_all first xs) → IsSomeAnd collection (λ c. now.lending_at ended c.job.attempt ≡ lent)) → WatchedIn rule says is_unsaid is_cut_short old now start first xs
watched_all rule says is_unsaid is_cut_short uncut old now start first xs collection slot unswept v w live ended le all held_then = record {
  whole = xs;
  cut = [];
  all = append-nil xs;
  one = omega arith;
  none = λ _. refl;
  some = λ short behind. absurd (cc (short, uncut));
  end = point_of (after_all first xs) v slot unswept w.last collection w.answered;
  watched = w.watched;
  live = λ _. live;
  ended = ended;
  by_now = le;
  said_then = all;
  lent = λ held. of_going collection w.last w.going (λ job. now.lending_at ended job.attempt ≡ lent) (held_then held);
  reads = λ order held. some_more w.last _ _ (λ child was. ((λ t after early image possible. was.0 t after (omega (arith, early, le)) image possible), λ none. was.0)) (w.reads order held);
  slots = λ order some t late le. absurd (some refl);
  live_until = if_more w.answered _ _ (λ at live t late before cut_then crashed possible. live t late before crashed possible) w.live_until;
}

-- where a reply, or more, is said behind it
pub watches_along : (rule : Rule) (a mid b : Told) → KeepsPast a mid → KeepsPast mid b → ((attempt : ℕ) → KeepsCustody mid b attempt) → (s : State) (v view : View) (before now : Option Collection) (slot slot' : Slot) (unswept unswept' : Unswept) (x : Exchange) → (NothingPending a → NothingPending mid) → ((file : FileName) → KeepsFile mid b file) → HasLive slot' mid.held → IsSynced a Control → IsSynced mid Control → IsPossibleNow mid → Watches rule a mid s v view before now slot slot' unswept unswept' x → Watches rule a b s v view before now slot slot' unswept unswept' x
watches_along rule a mid b past goes lends s v view before now slot slot' unswept unswept' x calm stays there kept kept_mid possible_mid w = record {
  phase = w.phase;
  phase_behind = w.phase_behind;
  answered = w.answered;
  later = w.later;
  by_now = (let le = w.by_now in let later = goes.later in omega (arith, le, later));
  unsaid = goes.said w.answered w.by_now ∙ w.unsaid;
  possible = possible_later mid b goes a.moment a.held (let le = w.by_now in let later = w.later in omega (arith, le, later)) w.possible;
  stands = w.stands;
  has = w.has;
  behind = w.behind;
  left = possible_later mid b goes w.answered w.behind w.by_now w.left;
  stands_behind = w.stands_behind;
  has_behind = w.has_behind;
  tree = w.tree;
  seen = w.seen;
  placed = w.placed;
  unswept_behind = w.unswept_behind;
  starts = w.starts;
  aims = w.aims;
  hears = w.hears;
  judged = λ reaped ended. some_more before _ _ (λ c is. judged_later mid b goes w.answered w.behind s.phase w.stands.standing.records c.job reaped x w.by_now is) (w.judged reaped ended);
  checked = w.checked;
  looked = w.looked;
  same = w.same;
  begun = w.begun;
  few = w.few;
  lent = w.lent;
  lent_behind = λ held. some_more now _ _ (λ c is. goes.lending w.answered c.job.attempt w.by_now ∙ is) (w.lent_behind held);
  swept = λ has. some_more before _ _ (λ c is. (is.0, settled_later mid b goes w.answered c.job.attempt is.0 w.by_now is.1)) (w.swept has);
  all_but = λ has. left_behind (sweeping.IsSwept slot' unswept) x.turn.met.left w.behind (mid.lending_at w.answered) (b.lending_at w.answered) (λ attempt. goes.lending w.answered attempt w.by_now) (w.all_but has);
  bounded = w.bounded;
  slots = λ order. slots_on a mid b kept possible_mid past goes (stays Control) (w.slots order);
  settles = λ order. settles_on a mid b past goes (w.settles order) (settles_none mid b lends);
  stays = λ order t before high. stays_later mid b goes (settles_none mid b lends) t w.answered high w.by_now (w.stays order t before high);
  clear = λ cleared swept none. clear_behind slot' w.behind (mid.lending_at w.answered) (b.lending_at w.answered) (λ attempt. goes.lending w.answered attempt w.by_now) (w.clear cleared swept none);
  stays_live = λ t late le crashed possible. elim (cases_lt mid.moment t) [
    | inl behind ↦ record { control = there.control; index = there.index; held = kept_mid (crashed Control) ((stays Control).left (λ x. x) t (crashed Control) behind le (possible Control)) ∙ there.held; live = there.live }
    | inr soon ↦ w.stays_live t late soon crashed (possible_before mid b goes t crashed soon possible)
  ];
  job = w.job;
  job_behind = w.job_behind;
  space = λ order none t late le image possible. w.space order none t late le image (possible_before mid b goes t image (let now = w.by_now in omega (arith, le, now)) possible);
  saying = λ order t late le image possible. elim (cases_lt mid.moment t) [
    | inl then_late ↦ space_on slot' w.behind mid.held image (w.held order) (still_space mid b stays (calm order) slot' there t then_late le image possible)
    | inr soon ↦ w.saying order t late soon image (possible_before mid b goes t image soon possible)
  ];
  held = λ order. space_on slot' w.behind mid.held b.held (w.held order) (stays_space mid b stays (calm order) slot' there);
  unheard = w.unheard;
}

-- ---- what a session says

heard_at : (collection : Option Collection) (reaped : Reaped) (ends : List Reaped) (p q : SpawnCounts) → IsSomeAnd collection (λ c. HeardOf c reaped ends p q) → IsSomeAnd collection (λ c. reaped.attempt ≡ c.job.attempt)
heard_at collection reaped ends p q is = some_more collection (λ c. HeardOf c reaped ends p q) _ (λ c h. h.0) is

-- a line that is no command hears of none, by what it met
pub heard_by : (rule : Rule) (s s' : Session) (state after : State) (line : Bytes) (difference : Option Difference) (reply : Reply) (jobs : List Job) (ends : List Reaped) (p q : SpawnCounts) → AskedIn s s' line (Ok reply) jobs ends p q → LineStep IsLineOf rule state line (conditions_with s'.met difference) reply after
    → (reaped : Reaped) → s'.met.child ≡ Child.Ended reaped → IsSomeAnd s.store.held.collection (λ c. reaped.attempt ≡ c.job.attempt)
heard_by rule s s' state after line difference reply jobs ends p q asked (inl step) reaped is = heard_at s.store.held.collection reaped ends p q ((asked.command step.0 step.1).heard reaped is)
heard_by rule s s' state after line difference reply jobs ends p q asked (inr bad) reaped is =
    let none : s'.met.child ≡ Child.NotAsked = ap (λ (m : Met). m.child) bad.unasked in
    absurd (cc (is, none))

-- the job that was started is that of the collection
pub started_here : (store : Held) (slot : Slot) (o : Option Collection) (jobs : List Job) → IsSomeAnd o (λ c. (jobs ≡ c.job ∷ []) × (c.exit ≡ None) × IsJobAt store c.commit slot c.job) → IsSomeAnd o (λ c. jobs ≡ c.job ∷ [])
started_here store slot o jobs is = some_more o _ _ (λ c all. all.0) is

-- the horizon of the job that was started
aimed : (told : Told) (slot : Slot) (records : Records) (r : Repository) (o : Option Collection) (jobs : List Job) → IfSome o (Collects told slot records r) → IsSomeAnd o (λ c. jobs ≡ c.job ∷ []) → (job : Job) → jobs ≡ job ∷ [] → IsAimed records (phase_of o) job
aimed told slot records r None jobs collects is job same = absurd is
aimed told slot records r (Some c) jobs collects is job same =
    let one : c.job ≡ job = cc (is, same) in
    subst (IsAimed records (phase_of (Some c))) one (record { commit = collects.collectable.commit; here = collects.collectable.here; number = ap Some (sym collects.collectable.number) })

module _ (a mid : Told) (s s' : Session) (r : Repository) (v : View) (here : IsWorking a s r v) (line : Bytes) (met : Met) (before behind : TurnCounts) (difference : Option Difference) (jobs : List Job) (ends : List Reaped) (reply : Reply) (q : Repository) (u : View) (working : IsWorking mid s' q u) (met_is : met ≡ s'.met) (past : KeepsPast a mid) where
  abbrev x : Exchange
  x = exchange_of line met before behind difference jobs ends reply (state_in s' q u)

  abbrev records : Records
  records = here.holds.stands.standing.records

  abbrev Concludes : Type 0
  Concludes = (reaped : Reaped) → s'.met.child ≡ Child.Ended reaped → IsConcluded reaped (conditions_with s'.met difference) reply

  -- what it wrote is served
  served_of : (c : Collection) → s.store.held.collection ≡ Some c → (reaped : Reaped) → s'.met.child ≡ Child.Ended reaped → (floor left : ℕ) → reply ≡ Reply.Collected floor left → IsSettledIn mid s s' reply → IsServedAs mid mid.moment mid.held c.job
  served_of c runs reaped heard floor left is settled =
      let H = settled c reaped runs heard in
      let serves = H.serves floor left is in
      let (floor_is, live, horizon) = H.swapped floor left is in
      let slot = s'.store.held.slot in
      let A = working.holds.stands.standing in
      let there : HasLive slot mid.held = held_has s'.store.held q mid working.holds in
      let same : A.slot ≡ slot = one_slot A.slot slot mid.held (record { control = A.control; index = A.index; held = A.held; live = A.live }) there in
      let G = subst (λ (t : Slot). Generation mid.held (layout_of t) A.rows) same A.generation in
      let drawn = (subst (IsPhaseOf s.store.held.slot r) runs here.holds.tables.phase).told.valid.attempt in
      let some : slot.live ≢ 0 = λ none. omega (arith, drawn, live, none) in
      let M = G.file some in
      record {
        pair = serves.pair;
        settled = serves.settled;
        mapping = serves.mapping;
        prefix = serves.prefix;
        slot = slot;
        has = there;
        live = live;
        horizon = horizon;
        length = subst (λ (content : Content). IsSomeAnd content (λ bytes. length bytes ≡ slot.prefix_len)) serves.prefix (subst (λ (n : ℕ). IsSomeAnd (mid.held (Prefix n)) (λ bytes. length bytes ≡ slot.prefix_len)) live (G.prefix some));
        rows = A.rows;
        mapping_is = record { end = M.end; file = sym (subst (λ (n : ℕ). mid.held (Mapping n) ≡ serves.pair (Mapping n)) (sym live) serves.mapping) ∙ M.file; count = M.count; numbers = M.numbers; above = M.above; inside = M.inside };
      }

  judged_of : (c : Collection) → s.store.held.collection ≡ Some c → (reaped : Reaped) → met.child ≡ Child.Ended reaped → reaped.attempt ≡ c.job.attempt → Concludes → IsJudgedIn a mid s s' r v difference → IsSettledIn mid s s' reply → IsJudgedAs mid mid.moment mid.held (phase_of (Some c)) records c.job reaped x
  judged_of c runs reaped ended attempt concluded judged settled =
      let collects : Collects a s.store.held.slot records r c = subst (λ (o : Option Collection). IfSome o (Collects a s.store.held.slot records r)) runs here.holds.collects in
      let heard : s'.met.child ≡ Child.Ended reaped = ap (λ (m : Met). m.child) (sym met_is) ∙ ended in
      record {
        attempt = attempt;
        concluded = subst (λ (m : Met). IsConcluded reaped (conditions_with m difference) reply) (sym met_is) (concluded reaped heard);
        commit = collects.collectable.commit;
        here = collects.collectable.here;
        number = ap Some (sym collects.collectable.number);
        judged = λ pair is. subst (λ (m : Met). IsJudged records c.job.horizon c.job.end c.job.attempt pair (conditions_with m difference)) (sym met_is) (judged here c reaped runs heard pair is);
        settled = (settled c reaped runs heard).settled;
        served = λ floor left is. served_of c runs reaped heard floor left is settled;
      }

  abbrev Heard : Type 0
  Heard = (reaped : Reaped) → s'.met.child ≡ Child.Ended reaped → IsSomeAnd s.store.held.collection (λ c. reaped.attempt ≡ c.job.attempt)

  pub watches_of : (rule : Rule) → KeepsSaid a mid → IsPossibleNow a → IsPossibleNow mid → Heard → Concludes → (IsHeldIn (state_in s' q u) → (reaped : Reaped) → s'.met.child ≢ Child.Ended reaped)
      → IsJudgedIn a mid s s' r v difference → IsSettledIn mid s s' reply → ClearIn a mid s s' line reply → KeepsSpaceIn a mid s' → (NothingPending a → NothingPending mid) → (NothingPending a → KeepsSlots a mid) → (NothingPending a → Settles a mid) → (IsLineOf Command.Look line → IsBoundedIn records s.store.held.collection reply) → IsViewIn r v line reply u → PlacedIn rule (image_records here.holds) s.store.held.slot s.store.held.unswept s'.store.held.slot (state_in s r v) v line reply
      → StartsAt s.store.held.slot s'.store.held.slot x → (HasStarted (Ok reply) → IsSomeAnd s'.store.held.collection (λ c. jobs ≡ c.job ∷ [])) → (¬ HasStarted (Ok reply) → jobs ≡ []) → HearsAt s.store.held.slot x → GoesOnBy s'.met.child jobs s.store.held.collection s'.store.held.collection → (IsLineOf Command.Look line → looked_in s'.store.held.collection ≤ looked_in s.store.held.collection + looks) → IsSlicedIn s.store.held.collection s'.store.held.collection reply
      → Watches rule a mid (state_in s r v) v u s.store.held.collection s'.store.held.collection s.store.held.slot s'.store.held.slot s.store.held.unswept s'.store.held.unswept x
  watches_of rule still possible possible_mid heard concluded unheard judged settled clear space calm slots settles bounded seen placed starts started unstarted hears goes_on few sliced = record {
    phase = refl;
    phase_behind = refl;
    answered = mid.moment;
    later = past.later;
    by_now = omega arith;
    unsaid = said_now a mid past still;
    possible = λ file. possible_later a mid past a.moment a.held (omega arith) (λ other. possible other) file;
    stands = here.holds.stands;
    has = held_has s.store.held r a here.holds;
    behind = mid.held;
    left = λ file. possible_mid file;
    stands_behind = working.holds.stands;
    has_behind = held_has s'.store.held q mid working.holds;
    tree = refl;
    seen = seen;
    placed = placed;
    unswept_behind = (clear.unswept, λ swept. clear.behind swept ∙ ap (λ (m : Met). unswept_behind m.left s'.store.held.slot s.store.held.unswept) (sym met_is));
    starts = starts;
    aims = λ has job is. aimed mid s'.store.held.slot working.holds.stands.standing.records q s'.store.held.collection jobs working.holds.collects (started has) job is;
    hears = hears;
    judged = λ reaped ended. by s.store.held.collection refl reaped ended (heard reaped (ap (λ (m : Met). m.child) (sym met_is) ∙ ended));
    checked = λ left is. checked_to mid s'.store.held q working.holds s.store.held.collection s'.met.child jobs left goes_on (unstarted (λ has. subst (λ (answer : Reply). HasStarted (Ok answer)) is has)) (subst (IsSlicedIn s.store.held.collection s'.store.held.collection) is sliced);
    looked = λ commit exit runs none. looked_on s'.met.child jobs s.store.held.collection s'.store.held.collection commit exit goes_on runs none;
    same = λ unheard commit exit runs none. looked_same s'.met.child jobs s.store.held.collection s'.store.held.collection commit exit goes_on (λ reaped ended. unheard reaped (ap (λ (m : Met). m.child) met_is ∙ ended)) runs none;
    begun = looked_none s'.met.child jobs s.store.held.collection s'.store.held.collection goes_on;
    few = few;
    lent = λ held. lent_in a s.store.held r here.holds (state_in s r v) refl held;
    lent_behind = λ held. lent_in mid s'.store.held q working.holds (state_in s' q u) refl held;
    swept = λ swept. clear.settled swept;
    all_but = λ swept. subst (λ (m : Met). AllLeft (sweeping.IsSwept s'.store.held.slot s.store.held.unswept) m.left mid.held (lending mid)) (sym met_is) (clear.all_but swept);
    bounded = bounded;
    slots = slots;
    settles = settles;
    stays = λ order t before high. stays_behind a mid past (settles order) t high before;
    clear = λ cleared swept none. clear.all swept (ap (λ (m : Met). m.left) (sym met_is) ∙ none) cleared;
    stays_live = λ t late le. absurd (omega (arith, late, le));
    job = jobs_in s.store.held r here.holds.tables;
    job_behind = jobs_in s'.store.held q working.holds.tables;
    space = λ order none t late le image possible_then. space order (λ reaped ended. none reaped (ap (λ (m : Met). m.child) met_is ∙ ended)) s.store.held.slot (held_has s.store.held r a here.holds) t late le image possible_then;
    saying = λ order t late le image possible_then. absurd (omega (arith, late, le));
    held = λ order. same_space s'.store.held.slot mid.held;
    unheard = λ held reaped ended. unheard held reaped (ap (λ (m : Met). m.child) (sym met_is) ∙ ended);
  }
    where
      by : (o : Option Collection) → s.store.held.collection ≡ o → (reaped : Reaped) → met.child ≡ Child.Ended reaped → IsSomeAnd s.store.held.collection (λ c. reaped.attempt ≡ c.job.attempt) → IsSomeAnd s.store.held.collection (λ c. IsJudgedAs mid mid.moment mid.held (phase_of s.store.held.collection) records c.job reaped x)
      by None none reaped ended is = absurd (subst (λ (o : Option Collection). IsSomeAnd o (λ c. reaped.attempt ≡ c.job.attempt)) none is)
      by (Some c) runs reaped ended is =
          let attempt = subst (λ (o : Option Collection). IsSomeAnd o (λ d. reaped.attempt ≡ d.job.attempt)) runs is in
          subst (λ (o : Option Collection). IsSomeAnd o (λ d. IsJudgedAs mid mid.moment mid.held (phase_of o) records d.job reaped x)) (sym runs) (judged_of c runs reaped ended attempt concluded judged settled)
