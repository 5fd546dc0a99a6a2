-- What a session does that ran a command which changes no file.
--     still_answered, memory_answered      the machine's state stays, and memory was refused
--     answered_read      it was answered.      still_read      and nothing changed.      fault_read, ends      what comes of a call of the store that failed
--     unread      it looked at nothing.      within_read      it asks nothing of the ground
--     X_answered      the record IsAnswered, command by command
--     looks_nowhere, looks_on, same_on      no call of the store, and one behind another
use Rattle.std.proofs.Common.{◌≡◌, ◌≢◌, ℕ, ◌<◌, ◌≤◌, ◌==◌, Bool, true, false, not, cond, List, [], ◌∷◌, ◌++◌, refl, sym, ap, ◌∙◌, subst, arith, Option, Some, None, Ok, Err, IsTrue, length, get_or, length-append, fold}
use Rattle.std.specs.Prelude.{Result, IfErr, IsSomeAnd, min, nat_le, nat_lt, if◌then◌else◌}
use Rattle.std.specs.List.{list_any}
use Rattle.std.proofs.lemmas.Bool.Decides.{nat_tests}
use Rattle.std.proofs.lemmas.List.Elements.{All-nil, All-push}
use Rattle.std.proofs.lemmas.List.Folds.{list_any_at}
use Rattle.std.proofs.lemmas.List.Quantifiers.{all_pairs_push}
use Rattle.sha2.specs.Sha256.{sha256}
use Rattle.ip_base.specs.declared.limit.Limit.TheVariants as Limit
use Rattle.ip_ground.specs.Told.{Told}
use Rattle.ip_spec.specs.declared.command.Command.{Command}
use Rattle.ip_spec.specs.declared.command.Target.{Target}
use Rattle.ip_spec.specs.declared.met.Met.{Met}
use Rattle.ip_spec.specs.declared.record.Record.{Record}
use Rattle.ip_spec.specs.declared.reply.Reply.{Reply}
use Rattle.ip_spec.specs.Map.{get}
use Rattle.ip_spec.specs.Path.{Bytes, Path, after_prefix, is_related}
use Rattle.ip_spec.specs.declared.tree.Got.{Got}
use Rattle.ip_spec.specs.declared.tree.Listed.{Listed}
use Rattle.ip_spec.specs.Tree.{Tree, graft, subtree, is_empty, got_at, listed_at}
use Rattle.ip_spec.specs.TreeAt.{TreeAt, present}
use Rattle.ip_spec.specs.View.{View, no_view, put_view, remove_view, graft_view, least}
use Rattle.ip_spec.specs.Repository.{Repository, next, is_retained, tree_at, name_at}
use Rattle.ip_spec.specs.Machine.{State, empty_work}
use Rattle.ip_spec.specs.Machine as Machine
use Rattle.ip_spec.specs.Step.{below, Step, contents_limit, got_reply, listed_reply, commit_reply, resolve, least_with}
use Rattle.ip_spec.proofs.GraftLaws.{get-graft, get-graft_beside}
use Rattle.ip_image.proofs.OneRepository.{all_records}
use Rattle.ip_space.specs.declared.fault.FetchFault.TheVariants as FetchFault
use Rattle.ip_space.proofs.Passing.{reads_nothing, reads_on}
use Rattle.ip_tree.specs.Reads.{IsFree}
use Rattle.ip_tree.specs.TreeView.{IsView, stored_view, IsSetFault, IsSet, IsRemoved, IsGraftFault, IsGrafted, Grafts}
use Rattle.ip_tree.specs.declared.tree.Tree as lazy
use Rattle.ip_tree.specs.declared.tree.TreeFault.{TreeFault}
use Rattle.ip_tree.proofs.PlacedTrees.{IsSplit, split}
use Rattle.ip_save.specs.Batches.{HasShortContents}
use Rattle.ip_held.specs.Collecting.{phase_of}
use Rattle.ip_held.specs.Rooted.{IsRooted}
use Rattle.ip_held.specs.Causes.{IsStoreCause}
use Rattle.ip_held.specs.Showing.{IsFetchedOr}
use Rattle.ip_reads.specs.Shown.{IsShown}
use Rattle.ip_held.specs.Held.{IsOf, Holds, SameTables, image_records}
use Rattle.ip_held.specs.Trees.{OnlyLooks, IsTreeOf}
use Rattle.ip_held.specs.Views.{IsStored, IsViewAfter}
use Rattle.ip_held.specs.Work.{AreParents, IsLawful, IsThere, work_at, state_at}
use Rattle.ip_held.specs.declared.collection.Collection.{Collection}
use Rattle.ip_held.specs.declared.fault.StoreFault.{StoreFault}
use Rattle.ip_held.specs.declared.held.Held.{Held}
use Rattle.ip_held.specs.declared.work.Work.{Work}
use Rattle.ip_reads.proofs.Editing.{short_put, short_removed}
use Rattle.ip_held.proofs.Phases.{retained_is, there_none}
use Rattle.ip_held.proofs.RootedViews.{rooted_put, rooted_removed, rooted_grafted}
use Rattle.ip_held.proofs.Stepping.{same_tables}
use Rattle.ip_session.specs.declared.session.Session.{Session}
use Rattle.ip_session.specs.declared.session.SessionEnd.{SessionEnd}
use Rattle.ip_session.specs.Session.{unasked, IsIn, IsWorking, state_in, met_only, conditions_of, IsLong, IsAnswered, HasRead, IsHeld, EndsBy, Fails, met_failed, tree_fault}
use Rattle.ip_session.proofs.Damage.{TellsApart, cause_apart}
use Rattle.ip_session.proofs.SessionLemmas.{at, AsksWork, NoneGivenUp, given_is_short, given_up, Refusable, stat_of, empty_done, set_done, set_long, set_wide, rm_done, rm_absent, get_done, list_done, stat_done, hash_done, hash_refused, ok_is_short, at_is_short, memory_is_short, stat_is_short}
use Rattle.ip_session.proofs.NameSizes.{name_size}
use Rattle.ip_session.proofs.Seeing.{memory_seen, limit_seen, given_seen}
use Rattle.ip_session.proofs.Referring.{checkout_done, cat_done, graft_absent, graft_deep, graft_wide, graft_done, parent_done, show_done}
use Rattle.ip_store.specs.declared.store.Store.{Store}

-- ---- what was met, and what stays

-- what the command met
met_as : (s : State) (command : Command) (met met' : Met) (reply : Reply) (s' : State) → met ≡ met' → Step unasked s command (conditions_of met') reply s' → Step unasked s command (conditions_of met) reply s'
met_as s command met met' reply s' e h = subst (λ (m : Met). Step unasked s command (conditions_of m) reply s') (sym e) h

-- and over a store whose phase is the same
moved_as : (s : State) (command : Command) (met met' : Met) (reply : Reply) (r : Repository) (o p : Option Collection) (w : Machine.Work) → met ≡ met' → p ≡ o → Step unasked s command (conditions_of met') reply (at r (phase_of o) w) → Step unasked s command (conditions_of met) reply (at r (phase_of p) w)
moved_as s command met met' reply r o p w e same h = met_as s command met met' reply (at r (phase_of p) w) e (subst (λ (x : Option Collection). Step unasked s command (conditions_of met') reply (at r (phase_of x) w)) (sym same) h)

module _ (records : ℕ → Option Record) (s s' : Session) (r : Repository) (v : View) (command : Command) (phase : s'.store.held.collection ≡ s.store.held.collection) (same : work_at s'.work v ≡ work_at s.work v) (lawful : IsLawful records r s'.work v) where
  state : state_in s' r v ≡ state_in s r v
  state = λ i. state_at r (phase_of (phase i)) (same i)

  pub plainly_answered : (reply : Reply) → s'.met ≡ met_only false → Step unasked (state_in s r v) command (conditions_of (met_only false)) reply (state_in s r v)
      → IsViewAfter r v command reply v → (IsLong reply → Refusable command) → IsAnswered records s s' r v command reply
  plainly_answered reply e step seen spared = record {
    view = v;
    gives = met_as (state_in s r v) command s'.met (met_only false) reply (state_in s' r v) e (subst (Step unasked (state_in s r v) command (conditions_of (met_only false)) reply) (sym state) step);
    lawful = lawful;
    seen = seen;
    spared = λ long. record { same = state; seen = refl; refused = spared long r (phase_of s.store.held.collection) (work_at s.work v) };
  }

  pub still_answered : (reply : Reply) → s'.met ≡ met_only false → Step unasked (state_in s r v) command (conditions_of (met_only false)) reply (state_in s r v)
      → IsViewAfter r v command reply v → Refusable command → IsAnswered records s s' r v command reply
  still_answered reply e step seen refusable = plainly_answered reply e step seen (λ long. refusable)

  pub memory_answered : s'.met ≡ met_only true → Refusable command → IsAnswered records s s' r v command Reply.Memory
  memory_answered e refusable = record {
    view = v;
    gives = met_as (state_in s r v) command s'.met (met_only true) Reply.Memory (state_in s' r v) e
        (subst (Step unasked (state_in s r v) command (conditions_of (met_only true)) Reply.Memory) (sym state) (refusable r (phase_of s.store.held.collection) (work_at s.work v)));
    lawful = lawful;
    seen = memory_seen r v command;
    spared = λ long. absurd (omega (arith, long, memory_is_short));
  }

-- ---- calls of the store, one behind another

pub looks_nowhere : (a : Told) (store : Held) → OnlyLooks a a store store
looks_nowhere a store = record {
  reads = reads_nothing a store.space;
  holds = λ r held. held;
  records = λ r held still. ap present (all_records a.held still.stands.standing held.stands.standing);
}

pub looks_on : (a b c : Told) (store mid now : Held) → OnlyLooks a b store mid → OnlyLooks b c mid now → OnlyLooks a c store now
looks_on a b c store mid now one two = record {
  reads = reads_on a b c store.space mid.space now.space one.reads two.reads;
  holds = λ r held. two.holds r (one.holds r held);
  records = λ r held still. two.records r (one.holds r held) still ∙ one.records r held (one.holds r held);
}

pub same_on : (store mid now : Held) → SameTables store mid → SameTables mid now → SameTables store now
same_on store mid now one two = record {
  index = two.index ∙ one.index;
  slot = two.slot ∙ one.slot;
  names = two.names ∙ one.names;
  places = two.places ∙ one.places;
  branches = two.branches ∙ one.branches;
  history = two.history ∙ one.history;
  layout = two.layout ∙ one.layout;
  runs = two.runs ∙ one.runs;
  collection = two.collection ∙ one.collection;
  unswept = two.unswept ∙ one.unswept;
}

-- ---- what comes of a call that failed

-- the machine refuses the command so; of a call that fetched, where the records are told
abbrev pub Refuses : State → Command → StoreFault → Type 0
Refuses s command (StoreFault.Limit limit) = Step unasked s command (conditions_of (met_only false)) (Reply.Limit limit) s
Refuses s command StoreFault.Ground = Unit {0}
Refuses s command StoreFault.Memory = Unit {0}
Refuses s command fault = ⊥

pub free_refuses : (s : State) (command : Command) (fault : TreeFault) → IsFree fault → Refuses s command (tree_fault fault)
free_refuses s command (TreeFault.Limit limit) free = absurd free
free_refuses s command (TreeFault.Fetch FetchFault.Ground) free = tt
free_refuses s command (TreeFault.Fetch FetchFault.Memory) free = tt
free_refuses s command (TreeFault.Fetch (FetchFault.Form at fault)) free = absurd free
free_refuses s command (TreeFault.Fetch (FetchFault.Name at want got)) free = absurd free
free_refuses s command TreeFault.Memory free = tt

pub fetched_refuses : {A : Type 0} (P : A → Type 0) (s : State) (command : Command) (fault : StoreFault) → IsFetchedOr P (Err fault) → Refuses s command fault
fetched_refuses P s command StoreFault.Ground h = tt
fetched_refuses P s command StoreFault.Memory h = tt
fetched_refuses P s command _ h = absurd h

-- a commit that was not shown
pub unshown_refuses : (r : Repository) (n : ℕ) (s : State) (command : Command) (fault : StoreFault) → IsShown r n (Err fault) → Refuses s command fault
unshown_refuses r n s command StoreFault.Ground h = tt
unshown_refuses r n s command StoreFault.Memory h = tt
unshown_refuses r n s command _ h = absurd h

pub set_refuses : (r : Repository) (phase : Machine.Phase) (w : Machine.Work) (path : Path) (bytes : Bytes) (fault : TreeFault) → NoneGivenUp r w → IsSetFault w.tree path bytes fault → Refuses (at r phase w) (Command.Set path bytes) (tree_fault fault)
set_refuses r phase w path bytes (TreeFault.Limit Limit.Contents) kept f = set_long r phase w kept path bytes f
set_refuses r phase w path bytes (TreeFault.Limit Limit.Entries) kept f = set_wide r phase w kept path bytes f.0 f.1
set_refuses r phase w path bytes (TreeFault.Limit _) kept f = absurd f
set_refuses r phase w path bytes (TreeFault.Fetch fetch) kept f = free_refuses (at r phase w) (Command.Set path bytes) (TreeFault.Fetch fetch) f
set_refuses r phase w path bytes TreeFault.Memory kept f = tt

pub graft_refuses : (r : Repository) (phase : Machine.Phase) (w : Machine.Work) (target : Target) (from to : Path) (n : ℕ) (fault : TreeFault) → NoneGivenUp r w → resolve r target ≡ Ok n → IsGraftFault w.tree (tree_at r n) from to fault
    → Refuses (at r phase w) (Command.Graft target from to) (tree_fault fault)
graft_refuses r phase w target from to n (TreeFault.Limit Limit.Depth) kept is f = graft_deep r phase w target from to n kept is f.0 f.1
graft_refuses r phase w target from to n (TreeFault.Limit Limit.Entries) kept is f = graft_wide r phase w target from to n kept is f.0 f.1 f.2
graft_refuses r phase w target from to n (TreeFault.Limit _) kept is f = absurd f
graft_refuses r phase w target from to n (TreeFault.Fetch fetch) kept is f = free_refuses (at r phase w) (Command.Graft target from to) (TreeFault.Fetch fetch) f
graft_refuses r phase w target from to n TreeFault.Memory kept is f = tt

pub met_stays : (fault : StoreFault) (met : Met) → fault ≢ StoreFault.Memory → met_failed fault met ≡ met
met_stays StoreFault.Memory met not = absurd (not refl)
met_stays _ met not = refl

pub ends : (fault : StoreFault) (command : Command) (met met' : Met) (result : Result Reply SessionEnd) (held : Type 0) → Fails fault met met' result → TellsApart fault → (held → (s : State) × Refuses s command fault) → IfErr result (EndsBy held)
ends StoreFault.Ground command met met' result held f apart refuses = subst (λ (x : Result Reply SessionEnd). IfErr x (EndsBy held)) (sym f.0) tt
ends (StoreFault.Damaged at names) command met met' result held f apart refuses = subst (λ (x : Result Reply SessionEnd). IfErr x (EndsBy held)) (sym f.0) ((λ h. (refuses h).1), apart)
ends StoreFault.Memory command met met' result held f apart refuses = subst (λ (x : Result Reply SessionEnd). IfErr x (EndsBy held)) (sym f.0) tt
ends (StoreFault.Limit limit) command met met' result held f apart refuses = subst (λ (x : Result Reply SessionEnd). IfErr x (EndsBy held)) (sym f.0) tt
ends (StoreFault.GivenUp number) command met met' result held f apart refuses = subst (λ (x : Result Reply SessionEnd). IfErr x (EndsBy held)) (sym f.0) tt
ends (StoreFault.Leaving number) command met met' result held f apart refuses = subst (λ (x : Result Reply SessionEnd). IfErr x (EndsBy held)) (sym f.0) tt
ends (StoreFault.HeadMoved name) command met met' result held f apart refuses = subst (λ (x : Result Reply SessionEnd). IfErr x (EndsBy held)) (sym f.0) tt
ends (StoreFault.Existing name) command met met' result held f apart refuses = subst (λ (x : Result Reply SessionEnd). IfErr x (EndsBy held)) (sym f.0) tt

-- ---- what a command did that reads

module _ (tells : Bool) (old new : Told) (s s' : Session) (command : Command) (tables : (r : Repository) → IsIn s r → IsIn s' r) (looks : IsTrue tells → OnlyLooks old new s.store.held s'.store.held) (unswept : s'.store.held.unswept ≡ s.store.held.unswept) where
  abbrev Did : Result Reply SessionEnd → Type 0
  Did result = HasRead tells old new s s' command result

  pub answered_read : (reply : Reply) → (IsTrue tells → (r : Repository) (v : View) (here : IsWorking old s r v) → IsAnswered (image_records here.holds) s s' r v command reply) → Did (Ok reply)
  answered_read reply answered = record { tables = tables; answered = answered; looks = looks; unswept = unswept; unmet = λ err. absurd (cc err) }

  ended_read : (end : SessionEnd) → s'.met ≡ s.met → Did (Err end)
  ended_read end same = record { tables = tables; answered = λ told r v here. tt; looks = looks; unswept = unswept; unmet = λ err. same }

  -- over the view as it was
  module _ (phase : s'.store.held.collection ≡ s.store.held.collection) (same : (v : View) → work_at s'.work v ≡ work_at s.work v) (e : s.met ≡ met_only false) (refusable : Refusable command) where
    pub still_read : (reply : Reply) → s'.met ≡ s.met
        → ((r : Repository) (v : View) → IsOf s.store.held r → IsViewAfter r v command reply v)
        → (IsTrue tells → (r : Repository) (v : View) (here : IsWorking old s r v) → IsLawful (image_records here.holds) r s'.work v × Step unasked (state_in s r v) command (conditions_of (met_only false)) reply (state_in s r v)) → Did (Ok reply)
    still_read reply met seen does = answered_read reply (λ told r v here. let x = does told r v here in still_answered (image_records here.holds) s s' r v command phase (same v) x.0 reply (met ∙ e) x.1 (seen r v here.holds.tables) refusable)

    pub fault_read : (fault : StoreFault) (result : Result Reply SessionEnd) → Fails fault s.met s'.met result
        → (IsTrue tells → (r : Repository) (v : View) (here : IsWorking old s r v) → IsLawful (image_records here.holds) r s'.work v × Refuses (state_in s r v) command fault) → Did result
    fault_read StoreFault.Memory result f does = subst Did (sym f.0) (answered_read Reply.Memory (λ told r v here. memory_answered (image_records here.holds) s s' r v command phase (same v) (does told r v here).0 f.1 refusable))
    fault_read StoreFault.Ground result f does = subst Did (sym f.0) (ended_read SessionEnd.Ground f.1)
    fault_read (StoreFault.Damaged at names) result f does = subst Did (sym f.0) (ended_read (SessionEnd.Damaged at names) f.1)
    fault_read (StoreFault.Limit limit) result f does = subst Did (sym f.0) (still_read (Reply.Limit limit) f.1 (λ r v of. limit_seen r v command limit) does)
    fault_read (StoreFault.GivenUp number) result f does = subst Did (sym f.0) (answered_read (Reply.GivenUp number) (λ told r v here. absurd (does told r v here).1))
    fault_read (StoreFault.Leaving number) result f does = subst Did (sym f.0) (answered_read (Reply.Leaving number) (λ told r v here. absurd (does told r v here).1))
    fault_read (StoreFault.HeadMoved name) result f does = subst Did (sym f.0) (answered_read (Reply.HeadMoved name) (λ told r v here. absurd (does told r v here).1))
    fault_read (StoreFault.Existing name) result f does = subst Did (sym f.0) (answered_read (Reply.Existing name) (λ told r v here. absurd (does told r v here).1))

-- it looked at nothing, and nothing changed but what was met
pub unread : (tells : Bool) (a : Told) (s : Session) (met : Met) (command : Command) (reply : Reply) → met ≡ met_only false → Refusable command
    → ((r : Repository) (v : View) → IsOf s.store.held r → IsViewAfter r v command reply v)
    → ((r : Repository) (v : View) → IsOf s.store.held r → Step unasked (state_in s r v) command (conditions_of (met_only false)) reply (state_in s r v))
    → HasRead tells a a s (record s { met = met }) command (Ok reply)
unread tells a s met command reply e refusable seen gives = answered_read tells a a s (record s { met = met }) command (λ r is. is) (λ told. looks_nowhere a s.store.held) refl reply
    (λ told r v here. still_answered (image_records here.holds) s (record s { met = met }) r v command refl refl here.lawful reply e (gives r v here.holds.tables) (seen r v here.holds.tables) refusable)

-- and it was refused memory
pub refused_unread : (tells : Bool) (a : Told) (s : Session) (met : Met) (command : Command) (reply : Reply) → met ≡ met_only true → reply ≡ Reply.Memory → Refusable command → HasRead tells a a s (record s { met = met }) command (Ok reply)
refused_unread tells a s met command reply e is refusable = subst (λ (x : Reply). HasRead tells a a s (record s { met = met }) command (Ok x)) (sym is)
    (answered_read tells a a s (record s { met = met }) command (λ r is. is) (λ told. looks_nowhere a s.store.held) refl Reply.Memory
    (λ told r v here. memory_answered (image_records here.holds) s (record s { met = met }) r v command refl refl here.lawful e refusable))

-- it asks nothing of the ground
pub within_read : (tells : Bool) (a : Told) (s s' : Session) (command : Command) (reply : Reply) → ((r : Repository) → IsIn s r → IsIn s' r) → s'.store.held ≡ s.store.held
    → ((records : ℕ → Option Record) (r : Repository) (v : View) → IsOf s.store.held r → IsLawful records r s.work v → IsAnswered records s s' r v command reply) → HasRead tells a a s s' command (Ok reply)
within_read tells a s s' command reply tables same answered = answered_read tells a a s s' command tables (λ told. subst (OnlyLooks a a s.store.held) (sym same) (looks_nowhere a s.store.held)) (ap (λ (x : Held). x.unswept) same) reply
    (λ told r v here. answered (image_records here.holds) r v here.holds.tables here.lawful)

-- by another name of the command
pub read_as : (tells : Bool) (a b : Told) (s s' : Session) (command command' : Command) (result : Result Reply SessionEnd) → command' ≡ command → HasRead tells a b s s' command' result → HasRead tells a b s s' command result
read_as tells a b s s' command command' result e h = subst (λ (x : Command). HasRead tells a b s s' x result) e h

-- ---- contents stay short

short_without : (t : Tree) (q : Path) (b : Bytes) (gone : Bool) → HasShortContents t → cond (not gone) (get t q) None ≡ Some b → length b ≤ contents_limit
short_without t q b true short e = absurd (cc e)
short_without t q b false short e = short q b e

short_graft : (t source : Tree) (from to : Path) → HasShortContents t → HasShortContents source → HasShortContents (graft t source from to)
short_graft t source from to short short_source q b is = by (after_prefix to q) (split to q)
  where
    by : (o : Option Path) → IsSplit to q o → length b ≤ contents_limit
    by (Some rest) e = short_source (from ++ rest) b (sym (ap (get (graft t source from to)) e ∙ get-graft t source from to rest) ∙ is)
    by None e = short_without t q b (is_related to q) short (sym (get-graft_beside t source from to q e) ∙ is)

-- ---- the least number

min_low : (m n : ℕ) (b : Bool) → nat_le m n ≡ b → Some (min m n) ≡ (if b then Some m else Some n)
min_low m n true e = let low : min m n ≡ m = grind (arith, nat_tests) in ap Some low
min_low m n false e = let high : min m n ≡ n = grind (arith, nat_tests) in ap Some high

with_least : (o : Option ℕ) (n : ℕ) → least_with o n ≡ least o (Some n)
with_least None n = refl
with_least (Some m) n = min_low m n (nat_le m n) refl

with_two : (o : Option ℕ) (m n : ℕ) → least_with (least_with o m) n ≡ least_with (least_with o n) m
with_two None m n = let same : min m n ≡ min n m = omega arith in ap Some same
with_two (Some k) m n = let same : min (min k m) n ≡ min (min k n) m = omega arith in ap Some same

least_more : (o : Option ℕ) (parents : List ℕ) (n : ℕ) → least_with (fold least_with o parents) n ≡ fold least_with (least_with o n) parents
least_more o [] n = refl
least_more o (p ∷ parents) n = least_more (least_with o p) parents n ∙ ap (λ (x : Option ℕ). fold least_with x parents) (with_two o p n)

least_last : (o : Option ℕ) (parents : List ℕ) (n : ℕ) → fold least_with o (parents ++ n ∷ []) ≡ least_with (fold least_with o parents) n
least_last o [] n = refl
least_last o (p ∷ parents) n = least_last (least_with o p) parents n

not_more : (o : Option ℕ) (n m : ℕ) → IsSomeAnd o (λ k. k ≤ m) → IsSomeAnd (least_with o n) (λ k. k ≤ m)
not_more None n m is = absurd is
not_more (Some k) n m is = omega (arith, is)

itself_not_more : (o : Option ℕ) (n : ℕ) → IsSomeAnd (least_with o n) (λ k. k ≤ n)
itself_not_more None n = omega arith
itself_not_more (Some m) n = omega arith

-- ---- the work's parents

pub one_parent : (r : Repository) (n : ℕ) → IsTrue (is_retained r n) → AreParents r (Some n) (n ∷ [])
one_parent r n retained = record {
  made = All-push (λ m. m < next r) [] n (All-nil (λ m. m < next r)) (retained_is r n retained).1;
  above = All-push (λ m. n ≤ m) [] n (All-nil (λ m. n ≤ m)) (omega arith);
  distinct = λ i j d before inside. absurd (omega (arith, before, inside));
  few = omega arith;
}

-- with a lesser number
pub less_parents : (r : Repository) (o : Option ℕ) (low n : ℕ) (parents : List ℕ) → Some low ≡ least_with o n → AreParents r o parents → AreParents r (Some low) parents
less_parents r o low n parents less are = subst (λ (x : Option ℕ). AreParents r x parents) (sym less)
    (record { made = are.made; above = λ k d l. not_more o n (get_or parents k d) (are.above k d l); distinct = are.distinct; few = are.few })

-- ---- the work's tree

-- each part is in one of the records
stored_as : (records : ℕ → Option Record) (n at : ℕ) (map : Tree) → TreeAt records at map → IsStored n map (stored_view records n at map)
stored_as records n at map spelled = record { records = records; at = at; spelled = spelled; is = refl }

-- another tree of the same view, perhaps over other records
lawful_with : (records : ℕ → Option Record) (r : Repository) (work : Work) (v : View) (tree : lazy.Tree) → IsLawful records r work v → (IsThere r work.least → IsView records tree v) → IsLawful records r (record work { tree = tree }) v
lawful_with records r work v tree l view = record { tree = view; rooted = l.rooted; short = l.short; parents = l.parents; least = l.least }

module _ (records : ℕ → Option Record) (s : Session) (store : Store) (met : Met) (r : Repository) (v : View) (e : met ≡ met_only false) (phase : store.held.collection ≡ s.store.held.collection) (l : IsLawful records r s.work v) where
  abbrev with_tree : lazy.Tree → Option ℕ → Session
  with_tree tree least = record s { store = store; work = record s.work { tree = tree; least = least }; met = met }

  abbrev Answers : Command → Session → Reply → Type 0
  Answers command s' reply = IsAnswered records s s' r v command reply

  pub set_answered : IsThere r s.work.least → (tree : lazy.Tree) (path : Path) (bytes : Bytes) → IsSet records path bytes tree v → Answers (Command.Set path bytes) (with_tree tree s.work.least) Reply.Accepted
  unfolding put_view
  set_answered there tree path bytes is = record {
    view = put_view v path bytes;
    gives = moved_as (state_in s r v) (Command.Set path bytes) met (met_only false) Reply.Accepted r s.store.held.collection store.held.collection _ e phase (set_done r (phase_of s.store.held.collection) (work_at s.work v) there path bytes is.short is.narrow);
    lawful = record { tree = λ still. is.view; rooted = λ still. rooted_put records v path bytes (l.rooted still); short = short_put v.map path bytes l.short is.short; parents = l.parents; least = l.least };
    seen = refl;
    spared = λ long. absurd (ok_is_short long);
  }

  pub rm_answered : IsThere r s.work.least → (tree : lazy.Tree) (path : Path) → IsRemoved records path tree v true → Answers (Command.Rm path) (with_tree tree s.work.least) Reply.Accepted
  unfolding remove_view
  rm_answered there tree path is = record {
    view = remove_view v path;
    gives = moved_as (state_in s r v) (Command.Rm path) met (met_only false) Reply.Accepted r s.store.held.collection store.held.collection _ e phase (rm_done r (phase_of s.store.held.collection) (work_at s.work v) there path (some_there (is_empty (subtree v.map path)) is.found));
    lawful = record { tree = λ still. is.view; rooted = λ still. rooted_removed records v path (l.rooted still); short = short_removed v.map path l.short; parents = l.parents; least = l.least };
    seen = refl;
    spared = λ long. absurd (ok_is_short long);
  }
    where
      some_there : (b : Bool) → true ≡ not b → b ≡ false
      some_there true e = absurd (cc e)
      some_there false e = refl

  pub graft_answered : IsThere r s.work.least → (tree : lazy.Tree) (target : Target) (from to : Path) (n at_root low : ℕ) → TreeAt records at_root (tree_at r n) → resolve r target ≡ Ok n → IsTrue (is_retained r n) → Some low ≡ least_with s.work.least n → HasShortContents (tree_at r n) → IsRooted records (stored_view records n at_root (tree_at r n))
      → IsGrafted records from to tree v (stored_view records n at_root (tree_at r n)) true → Answers (Command.Graft target from to) (with_tree tree (Some low)) Reply.Accepted
  unfolding graft_view
  graft_answered there tree target from to n at_root low spelled named retained less short rooted is = record {
    view = graft_view v (stored_view records n at_root (tree_at r n)) from to;
    gives = moved_as (state_in s r v) (Command.Graft target from to) met (met_only false) Reply.Accepted r s.store.held.collection store.held.collection _ e phase
        (subst (λ (o : Option ℕ). Step unasked (state_in s r v) (Command.Graft target from to) (conditions_of (met_only false)) Reply.Accepted (at r (phase_of s.store.held.collection) (record (work_at s.work v) { tree = graft v.map (tree_at r n) from to; least = o }))) (sym less)
        (graft_done r (phase_of s.store.held.collection) (work_at s.work v) target from to n there named (some_grafted (is_empty (subtree (tree_at r n) from)) is.found) (is.shallow refl) (is.narrow refl)));
    lawful = record {
      tree = λ still. is.view;
      rooted = λ still. rooted_grafted records v (stored_view records n at_root (tree_at r n)) from to (l.rooted there) rooted;
      short = short_graft v.map (tree_at r n) from to l.short short;
      parents = less_parents r s.work.least low n s.work.parents less l.parents;
      least = less ∙ ap (λ (o : Option ℕ). least_with o n) l.least ∙ least_more v.oldest s.work.parents n ∙ ap (λ (o : Option ℕ). fold least_with o s.work.parents) (with_least v.oldest n);
    };
    seen = (stored_view records n at_root (tree_at r n), record { number = n; named = named; stored = stored_as records n at_root (tree_at r n) spelled }, refl);
    spared = λ long. absurd (ok_is_short long);
  }
    where
      some_grafted : (b : Bool) → true ≡ not b → b ≡ false
      some_grafted true e = absurd (cc e)
      some_grafted false e = refl

  pub checkout_answered : (tree : lazy.Tree) (parents : List ℕ) (target : Target) (n : ℕ) (name : Bytes) → parents ≡ n ∷ [] → resolve r target ≡ Ok n → IsTrue (is_retained r n) → name ≡ name_at r n → length name ≤ 32 → IsTreeOf records r n tree
      → Answers (Command.Checkout target) (record s { store = store; work = record { tree = tree; parents = parents; least = Some n }; met = met }) (Reply.At name)
  checkout_answered tree parents target n name one named retained is_name long_name t = record {
    view = stored_view records n t.at (tree_at r n);
    gives = moved_as (state_in s r v) (Command.Checkout target) met (met_only false) (Reply.At name) r s.store.held.collection store.held.collection _ e phase
        (subst (λ (ps : List ℕ). Step unasked (state_in s r v) (Command.Checkout target) (conditions_of (met_only false)) (Reply.At name) (at r (phase_of s.store.held.collection) (record { tree = tree_at r n; parents = ps; least = Some n }))) (sym one)
        (subst (λ (x : Bytes). Step unasked (state_in s r v) (Command.Checkout target) (conditions_of (met_only false)) (Reply.At x) (at r (phase_of s.store.held.collection) (record { tree = tree_at r n; parents = n ∷ []; least = Some n }))) (sym is_name)
        (checkout_done r (phase_of s.store.held.collection) (work_at s.work v) target n named)));
    lawful = record {
      tree = λ still. t.view;
      rooted = λ still. t.rooted;
      short = t.short;
      parents = subst (AreParents r (Some n)) (sym one) (one_parent r n retained);
      least = let same : n ≡ min n n = omega arith in ap Some same ∙ sym (ap (λ (ps : List ℕ). fold least_with (Some n) ps) one);
    };
    seen = record { number = n; named = named; stored = stored_as records n t.at (tree_at r n) t.spelled };
    spared = λ long. absurd (at_is_short name long_name long);
  }

-- ---- commands that ask nothing of the ground

-- a retained commit more is a parent
pub more_parents : (r : Repository) (o : Option ℕ) (low n : ℕ) (parents : List ℕ) → Some low ≡ least_with o n → AreParents r o parents → IsTrue (is_retained r n) → list_any (λ p. p == n) parents ≡ false → length parents < 16 → AreParents r (Some low) (parents ++ n ∷ [])
more_parents r o low n parents less are retained new few = subst (λ (x : Option ℕ). AreParents r x (parents ++ n ∷ [])) (sym less) (record {
  made = All-push (λ m. m < next r) parents n are.made (retained_is r n retained).1;
  above = All-push (λ m. IsSomeAnd (least_with o n) (λ k. k ≤ m)) parents n (λ k d l. not_more o n (get_or parents k d) (are.above k d l)) (itself_not_more o n);
  distinct = all_pairs_push (λ m k. m ≢ k) parents n are.distinct apart;
  few = omega (arith, few, length-append parents (n ∷ []));
})
  where
    equal : (m k : ℕ) → m ≡ k → (m == k) ≡ true
    equal m k e = grind (arith, nat_tests)

    apart : (k d : ℕ) → k < length parents → get_or parents k d ≢ n
    apart k d low e = absurd (cc (sym (list_any_at (λ p. p == n) parents k d low (equal (get_or parents k d) n e)) ∙ new))

below_is : (floor : ℕ) (o : Option ℕ) (number : ℕ) → below floor o ≡ Some number → number < floor
below_is floor None number is = absurd (cc is)
below_is floor (Some n) number is = by_test (nat_lt n floor) refl is
  where
    by_test : (b : Bool) → nat_lt n floor ≡ b → (if b then Some n else None) ≡ Some number → number < floor
    by_test true e same = let one : n ≡ number = cc same in subst (λ (m : ℕ). m < floor) one (grind (arith, nat_tests))
    by_test false e same = absurd (cc same)

module _ (records : ℕ → Option Record) (s : Session) (r : Repository) (v : View) (of : IsOf s.store.held r) (l : IsLawful records r s.work v) where
  abbrev Said : Command → Session → Reply → Type 0
  Said command s' reply = IsAnswered records s s' r v command reply

  pub empty_answered : (work : Work) (met : Met) → met ≡ met_only false → IsLawful records r work no_view → work_at work no_view ≡ empty_work → Said Command.Empty (record s { work = work; met = met }) Reply.Accepted
  empty_answered work met e lawful empty = record {
    view = no_view;
    gives = met_as (state_in s r v) Command.Empty met (met_only false) Reply.Accepted (state_at r (phase_of s.store.held.collection) (work_at work no_view)) e
        (subst (λ (w : Machine.Work). Step unasked (state_in s r v) Command.Empty (conditions_of (met_only false)) Reply.Accepted (state_at r (phase_of s.store.held.collection) w)) (sym empty) (empty_done r (phase_of s.store.held.collection) (work_at s.work v)));
    lawful = lawful;
    seen = refl;
    spared = λ long. absurd (ok_is_short long);
  }

  pub hash_answered : (met : Met) (bytes hash : Bytes) → met ≡ met_only false → hash ≡ sha256 bytes → Said (Command.Hash bytes) (record s { met = met }) (Reply.Hash hash)
  hash_answered met bytes hash e is = subst (λ (x : Bytes). Said (Command.Hash bytes) (record s { met = met }) (Reply.Hash x)) (sym is)
      (still_answered records s (record s { met = met }) r v (Command.Hash bytes) refl refl l (Reply.Hash (sha256 bytes)) e (hash_done r (phase_of s.store.held.collection) (work_at s.work v) bytes) refl (hash_refused bytes))

  pub stat_answered : (met : Met) (reply : Reply) → met ≡ met_only false → reply ≡ stat_of r (phase_of s.store.held.collection) → Said Command.Stat (record s { met = met }) reply
  stat_answered met reply e is = subst (Said Command.Stat (record s { met = met })) (sym is)
      (plainly_answered records s (record s { met = met }) r v Command.Stat refl refl l (stat_of r (phase_of s.store.held.collection)) e (stat_done r (phase_of s.store.held.collection) (work_at s.work v)) refl (λ long. absurd (stat_is_short s.store.held r of long)))

  pub parent_answered : IsThere r s.work.least → (parents : List ℕ) (low : ℕ) (met : Met) (target : Target) (n : ℕ) → met ≡ met_only false → resolve r target ≡ Ok n → IsTrue (is_retained r n) → list_any (λ p. p == n) s.work.parents ≡ false → length s.work.parents < 16
      → parents ≡ s.work.parents ++ n ∷ [] → Some low ≡ least_with s.work.least n
      → Said (Command.Parent target) (record s { work = record s.work { parents = parents; least = Some low }; met = met }) Reply.Accepted
  parent_answered there parents low met target n e named retained new few added less = record {
    view = v;
    gives = met_as (state_in s r v) (Command.Parent target) met (met_only false) Reply.Accepted _ e
        (subst (λ (ps : List ℕ). Step unasked (state_in s r v) (Command.Parent target) (conditions_of (met_only false)) Reply.Accepted (at r (phase_of s.store.held.collection) (record (work_at s.work v) { parents = ps; least = Some low }))) (sym added)
        (subst (λ (o : Option ℕ). Step unasked (state_in s r v) (Command.Parent target) (conditions_of (met_only false)) Reply.Accepted (at r (phase_of s.store.held.collection) (record (work_at s.work v) { parents = s.work.parents ++ n ∷ []; least = o }))) (sym less)
        (parent_done r (phase_of s.store.held.collection) (work_at s.work v) target n there named new few)));
    lawful = record {
      tree = λ still. l.tree there;
      rooted = λ still. l.rooted there;
      short = l.short;
      parents = subst (AreParents r (Some low)) (sym added) (more_parents r s.work.least low n s.work.parents less l.parents retained new few);
      least = less ∙ ap (λ (o : Option ℕ). least_with o n) l.least ∙ sym (ap (λ (ps : List ℕ). fold least_with v.oldest ps) added ∙ least_last v.oldest s.work.parents n);
    };
    seen = refl;
    spared = λ long. absurd (ok_is_short long);
  }

  -- the work was given up
  pub given_answered : (met : Met) (command : Command) (number : ℕ) → met ≡ met_only false → AsksWork command → below r.floor s.work.least ≡ Some number → Said command (record s { met = met }) (Reply.GivenUp number)
  given_answered met command number e asks is = plainly_answered records s (record s { met = met }) r v command refl refl l (Reply.GivenUp number) e (given_up r (phase_of s.store.held.collection) (work_at s.work v) number command asks is) (given_seen r v command number)
      (λ long. absurd (given_is_short s.store.held r of number (below_is r.floor s.work.least number is) long))

-- a command that does nothing with a work that was given up, where this one was
pub given_read : (tells : Bool) (a : Told) (s : Session) (command : Command) (number : ℕ) → s.met ≡ met_only false → AsksWork command → ((r : Repository) → IsOf s.store.held r → below r.floor s.work.least ≡ Some number) → HasRead tells a a s s command (Ok (Reply.GivenUp number))
given_read tells a s command number e asks is = answered_read tells a a s s command (λ r in_it. in_it) (λ told. looks_nowhere a s.store.held) refl (Reply.GivenUp number)
    (λ told r v here. given_answered (image_records here.holds) s r v here.holds.tables here.lawful s.met command number e asks (is r here.holds.tables))

-- and where it was not
pub not_given : (s : Session) (found : Option ℕ) → found ≡ None → ((r : Repository) → IsOf s.store.held r → found ≡ below r.floor s.work.least) → (r : Repository) → IsOf s.store.held r → IsThere r s.work.least
not_given s found none is r of = there_none r s.work.least (sym (is r of) ∙ none)

-- ---- a commit's tree, and what was read of it behind that

module _ (a b : Told) (store now : Held) (looks : OnlyLooks a b store now) (r : Repository) (held : Holds store a r) where
  over : image_records (looks.holds r held) ≡ image_records held
  over = looks.records r held (looks.holds r held)

  pub grafts_behind : (from to : Path) (tree source new : lazy.Tree) (result : Result Bool TreeFault) (n : ℕ)
      → ((q : Repository) (v w : View) (h : Holds now b q) → IsView (image_records h) tree v → IsView (image_records h) source w → Grafts (image_records h) from to new v w result)
      → (v : View) → IsView (image_records held) tree v → (t : IsTreeOf (image_records held) r n source) → Grafts (image_records held) from to new v (stored_view (image_records held) n t.at (tree_at r n)) result
  grafts_behind from to tree source new result n grafts v view t =
      let w : View = stored_view (image_records held) n t.at (tree_at r n) in
      subst (λ (records : ℕ → Option Record). Grafts records from to new v w result) over
      (grafts r v w (looks.holds r held) (subst (λ (records : ℕ → Option Record). IsView records tree v) (sym over) view) (subst (λ (records : ℕ → Option Record). IsView records source w) (sym over) t.view))

  -- what was answered over the tree of a commit
  pub got_behind : (source : lazy.Tree) (n : ℕ) (Is : Tree → Type 0) → ((q : Repository) (w : View) (h : Holds now b q) → IsView (image_records h) source w → Is w.map) → IsTreeOf (image_records held) r n source → Is (tree_at r n)
  got_behind source n Is got t =
      let w : View = stored_view (image_records held) n t.at (tree_at r n) in
      got r w (looks.holds r held) (subst (λ (records : ℕ → Option Record). IsView records source w) (sym over) t.view)

-- ---- calls of the store in a command

pub kept_in : (s s' : Session) → SameTables s.store.held s'.store.held → s'.work.least ≡ s.work.least → s'.work.parents ≡ s.work.parents → (r : Repository) → IsIn s r → IsIn s' r
kept_in s s' same least parents r is = (same_tables s.store.held s'.store.held same r is.0, subst (λ (o : Option ℕ). AreParents r o s'.work.parents) (sym least) (subst (AreParents r s.work.least) (sym parents) is.1))

-- whatever the work's tree is then
module _ (tells : Bool) (old new : Told) (s : Session) (store : Store) (same : SameTables s.store.held store.held) (looks : IsTrue tells → OnlyLooks old new s.store.held store.held) (e : s.met ≡ met_only false) where
  abbrev after : lazy.Tree → Met → Session
  after tree met = record s { store = store; work = record s.work { tree = tree }; met = met }

  pub set_read : ((r : Repository) → IsOf s.store.held r → IsThere r s.work.least) → (tree : lazy.Tree) (path : Path) (bytes : Bytes) → (IsTrue tells → (r : Repository) (v : View) (held : Holds s.store.held old r) → IsView (image_records held) s.work.tree v → IsSet (image_records held) path bytes tree v)
      → HasRead tells old new s (after tree s.met) (Command.Set path bytes) (Ok Reply.Accepted)
  set_read there tree path bytes is = answered_read tells old new s (after tree s.met) (Command.Set path bytes) (kept_in s (after tree s.met) same refl refl) looks same.unswept Reply.Accepted
      (λ told r v here. set_answered (image_records here.holds) s store s.met r v e same.collection here.lawful (there r here.holds.tables) tree path bytes (is told r v here.holds (here.lawful.tree (there r here.holds.tables))))

  pub rm_read : ((r : Repository) → IsOf s.store.held r → IsThere r s.work.least) → (tree : lazy.Tree) (path : Path) → (IsTrue tells → (r : Repository) (v : View) (held : Holds s.store.held old r) → IsView (image_records held) s.work.tree v → IsRemoved (image_records held) path tree v true)
      → HasRead tells old new s (after tree s.met) (Command.Rm path) (Ok Reply.Accepted)
  rm_read there tree path is = answered_read tells old new s (after tree s.met) (Command.Rm path) (kept_in s (after tree s.met) same refl refl) looks same.unswept Reply.Accepted
      (λ told r v here. rm_answered (image_records here.holds) s store s.met r v e same.collection here.lawful (there r here.holds.tables) tree path (is told r v here.holds (here.lawful.tree (there r here.holds.tables))))

  -- over the same view
  pub same_read : (tree : lazy.Tree) (command : Command) (reply : Reply) → Refusable command → ((r : Repository) (v : View) → IsOf s.store.held r → IsViewAfter r v command reply v)
      → (IsTrue tells → (r : Repository) (v : View) (here : IsWorking old s r v) → (IsThere r s.work.least → IsView (image_records here.holds) tree v) × Step unasked (state_in s r v) command (conditions_of (met_only false)) reply (state_in s r v))
      → HasRead tells old new s (after tree s.met) command (Ok reply)
  same_read tree command reply refusable seen does = still_read tells old new s (after tree s.met) command (kept_in s (after tree s.met) same refl refl) looks same.unswept same.collection (λ v. refl) e refusable reply refl seen
      (λ told r v here. let x = does told r v here in (lawful_with (image_records here.holds) r s.work v tree here.lawful x.0, x.1))

  pub failed_read : (tree : lazy.Tree) (met : Met) (command : Command) (fault : StoreFault) (result : Result Reply SessionEnd) → Refusable command → Fails fault s.met met result
      → (IsTrue tells → (r : Repository) (v : View) (here : IsWorking old s r v) → (IsThere r s.work.least → IsView (image_records here.holds) tree v) × Refuses (state_in s r v) command fault)
      → HasRead tells old new s (after tree met) command result
  failed_read tree met command fault result refusable f does = fault_read tells old new s (after tree met) command (kept_in s (after tree met) same refl refl) looks same.unswept same.collection (λ v. refl) e refusable fault result f
      (λ told r v here. let x = does told r v here in (lawful_with (image_records here.holds) r s.work v tree here.lawful x.0, x.1))

-- what came of a call on a tree
pub fails_as : (fault : TreeFault) (called : StoreFault) (met met' : Met) (result : Result Reply SessionEnd) → called ≡ tree_fault fault → Fails called met met' result → Fails (tree_fault fault) met met' result
fails_as fault called met met' result e f = subst (λ (x : StoreFault). Fails x met met' result) e f

-- ---- what was answered is the machine's

pub got_gives : (r : Repository) (phase : Machine.Phase) (w : Machine.Work) (path : Path) (got : Got) (reply : Reply) → NoneGivenUp r w → reply ≡ got_reply got → got ≡ got_at w.tree path → Step unasked (at r phase w) (Command.Get path) (conditions_of (met_only false)) reply (at r phase w)
got_gives r phase w path got reply kept is_reply is_got = subst (λ (x : Reply). Step unasked (at r phase w) (Command.Get path) (conditions_of (met_only false)) x (at r phase w)) (sym (is_reply ∙ ap got_reply is_got)) (get_done r phase w kept path)

pub listed_gives : (r : Repository) (phase : Machine.Phase) (w : Machine.Work) (path : Path) (listed : Listed) (reply : Reply) → NoneGivenUp r w → reply ≡ listed_reply listed → listed ≡ listed_at w.tree path
    → Step unasked (at r phase w) (Command.List path) (conditions_of (met_only false)) reply (at r phase w)
listed_gives r phase w path listed reply kept is_reply is_listed = subst (λ (x : Reply). Step unasked (at r phase w) (Command.List path) (conditions_of (met_only false)) x (at r phase w)) (sym (is_reply ∙ ap listed_reply is_listed)) (list_done r phase w kept path)

pub cat_gives : (r : Repository) (phase : Machine.Phase) (w : Machine.Work) (target : Target) (path : Path) (n : ℕ) (got : Got) (reply : Reply) → resolve r target ≡ Ok n → reply ≡ got_reply got → got ≡ got_at (tree_at r n) path
    → Step unasked (at r phase w) (Command.Cat target path) (conditions_of (met_only false)) reply (at r phase w)
cat_gives r phase w target path n got reply named is_reply is_got =
    subst (λ (x : Reply). Step unasked (at r phase w) (Command.Cat target path) (conditions_of (met_only false)) x (at r phase w)) (sym (is_reply ∙ ap got_reply is_got)) (cat_done r phase w target path n named)

pub shown_gives : (r : Repository) (phase : Machine.Phase) (w : Machine.Work) (target : Target) (n : ℕ) (shown reply : Reply) → resolve r target ≡ Ok n → reply ≡ shown → commit_reply r n ≡ shown
    → Step unasked (at r phase w) (Command.Show target) (conditions_of (met_only false)) reply (at r phase w)
shown_gives r phase w target n shown reply named is_reply is_shown =
    subst (λ (x : Reply). Step unasked (at r phase w) (Command.Show target) (conditions_of (met_only false)) x (at r phase w)) (is_shown ∙ sym is_reply) (show_done r phase w target n named)

none_there : (b : Bool) → false ≡ not b → b ≡ true
none_there true e = refl
none_there false e = absurd (cc e)

pub absent_gives : (r : Repository) (phase : Machine.Phase) (w : Machine.Work) (path : Path) → NoneGivenUp r w → false ≡ not (is_empty (subtree w.tree path)) → Step unasked (at r phase w) (Command.Rm path) (conditions_of (met_only false)) Reply.Absent (at r phase w)
absent_gives r phase w path kept none = rm_absent r phase w kept path (none_there (is_empty (subtree w.tree path)) none)

-- ---- commands that take the tree of a commit

module _ (tells : Bool) (old new : Told) (s : Session) (store : Store) (same : SameTables s.store.held store.held) (looks : IsTrue tells → OnlyLooks old new s.store.held store.held) (e : s.met ≡ met_only false)
    (target : Target) (n : ℕ) (named : (r : Repository) → IsOf s.store.held r → Ok n ≡ resolve r target) (retained : (r : Repository) → IsOf s.store.held r → IsTrue (is_retained r n)) where
  abbrev IsReadFor : (r : Repository) → Holds s.store.held old r → lazy.Tree → Type 0
  IsReadFor r held source = IsTreeOf (image_records held) r n source

  pub checkout_read : (tree : lazy.Tree) (parents : List ℕ) (name : Bytes) → parents ≡ n ∷ [] → ((r : Repository) → IsOf store.held r → IsTrue (is_retained r n) → name ≡ name_at r n)
      → (IsTrue tells → (r : Repository) (held : Holds s.store.held old r) → IsTrue (is_retained r n) → IsReadFor r held tree)
      → HasRead tells old new s (record s { store = store; work = record { tree = tree; parents = parents; least = Some n } }) (Command.Checkout target) (Ok (Reply.At name))
  checkout_read tree parents name one is_name read =
      let s' : Session = record s { store = store; work = record { tree = tree; parents = parents; least = Some n } } in
      answered_read tells old new s s' (Command.Checkout target) (λ r is. (same_tables s.store.held store.held same r is.0, subst (AreParents r (Some n)) (sym one) (one_parent r n (retained r is.0)))) looks same.unswept (Reply.At name)
      (λ told r v here.
      let of : IsOf s.store.held r = here.holds.tables in
      let now : IsOf store.held r = same_tables s.store.held store.held same r of in
      let is : name ≡ name_at r n = is_name r now (retained r of) in
      checkout_answered (image_records here.holds) s store s.met r v e same.collection here.lawful tree parents target n name one (sym (named r of)) (retained r of) is (subst (λ (h : Bytes). length h ≤ 32) (sym is) (name_size store.held r now n)) (read told r here.holds (retained r of)))

  pub graft_read : ((r : Repository) → IsOf s.store.held r → IsThere r s.work.least) → (tree source : lazy.Tree) (from to : Path) (low : ℕ) → Some low ≡ least_with s.work.least n
      → (IsTrue tells → (r : Repository) (held : Holds s.store.held old r) → IsTrue (is_retained r n) → IsReadFor r held source)
      → (IsTrue tells → (r : Repository) (v : View) (held : Holds s.store.held old r) (t : IsReadFor r held source) → IsView (image_records held) s.work.tree v
      → IsGrafted (image_records held) from to tree v (stored_view (image_records held) n t.at (tree_at r n)) true)
      → HasRead tells old new s (record s { store = store; work = record s.work { tree = tree; least = Some low } }) (Command.Graft target from to) (Ok Reply.Accepted)
  graft_read there tree source from to low less read grafted =
      let s' : Session = record s { store = store; work = record s.work { tree = tree; least = Some low } } in
      answered_read tells old new s s' (Command.Graft target from to) (λ r is. (same_tables s.store.held store.held same r is.0, less_parents r s.work.least low n s.work.parents less is.1)) looks same.unswept Reply.Accepted
      (λ told r v here.
      let of : IsOf s.store.held r = here.holds.tables in
      let t : IsReadFor r here.holds source = read told r here.holds (retained r of) in
      graft_answered (image_records here.holds) s store s.met r v e same.collection here.lawful (there r of) tree target from to n t.at low t.spelled (sym (named r of)) (retained r of) less t.short t.rooted (grafted told r v here.holds t (here.lawful.tree (there r of))))

  -- it could not be read
  pub unfetched_read : (met : Met) (command : Command) (fault : StoreFault) (result : Result Reply SessionEnd) → Refusable command → Fails fault s.met met result
      → (IsTrue tells → (r : Repository) (held : Holds s.store.held old r) → IsTrue (is_retained r n) → IsFetchedOr (IsReadFor r held) (Err fault)) → HasRead tells old new s (record s { store = store; met = met }) command result
  unfetched_read met command fault result refusable f read = failed_read tells old new s store same looks e s.work.tree met command fault result refusable f
      (λ told r v here. (here.lawful.tree, fetched_refuses (IsReadFor r here.holds) (state_in s r v) command fault (read told r here.holds (retained r here.holds.tables))))

pub unfetched_ends : (s : Session) (old : Told) (n : ℕ) (tells : Bool) (command : Command) (met : Met) (fault : StoreFault) (result : Result Reply SessionEnd) → ((r : Repository) → IsOf s.store.held r → IsTrue (is_retained r n)) → Fails fault s.met met result
    → IsStoreCause tells old s.store.held.space fault → (IsTrue tells → (r : Repository) (held : Holds s.store.held old r) → IsTrue (is_retained r n) → IsFetchedOr (IsTreeOf (image_records held) r n) (Err fault)) → IfErr result (EndsBy (IsHeld tells old s))
unfetched_ends s old n tells command met fault result retained f cause read = ends fault command s.met met result (IsHeld tells old s) f (cause_apart tells old s.store.held.space fault cause)
    (λ (told, (r, v, here)). (state_in s r v, fetched_refuses (IsTreeOf (image_records here.holds) r n) (state_in s r v) command fault (read told r here.holds (retained r here.holds.tables))))

pub ungrafted_gives : (r : Repository) (phase : Machine.Phase) (w : Machine.Work) (target : Target) (from to : Path) (n : ℕ) → NoneGivenUp r w → resolve r target ≡ Ok n → false ≡ not (is_empty (subtree (tree_at r n) from))
    → Step unasked (at r phase w) (Command.Graft target from to) (conditions_of (met_only false)) Reply.Absent (at r phase w)
ungrafted_gives r phase w target from to n kept named none = graft_absent r phase w target from to n kept named (none_there (is_empty (subtree (tree_at r n) from)) none)
