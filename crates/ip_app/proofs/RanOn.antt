-- A run of the machine that goes on by an exchange, and how it ends.
--     append_nil, after_more, run_more      of lists of exchanges
--     told_before, goes_on_then, keeps_unchanged, told_none      of what is told before and behind
--     trace_more, lends_more, ran_more      one exchange more.      ran_first      none yet.      said_along      a reply is said behind it
--     let_go_as, LetsGoAs, goes_on_gone      the child that is held is let go.      notes_of, asks_of      what was noted, and asked of the spawner.      notes_none, asks_none      where no command was begun
--     happen_all, happen_cut      what was met in all, or all but one that was cut short.      live_at, lends_at, slots_at      the slot is the one that was live.      slots_run      which slots are live behind one exchange more
use Rattle.std.proofs.Common.{true, false, ◌≡◌, inl, ℕ, ◌<◌, ◌≤◌, Bool, List, [], ◌∷◌, ◌++◌, length, refl, sym, ap, ap₂, ◌∙◌, subst, arith, append_assoc, IsTrue, Option, None, Some}
use Rattle.std.proofs.lemmas.List.{map-append}
use Rattle.ip_ground.specs.declared.names.FileName.TheVariants.{Control}
use Rattle.ip_base.specs.declared.exit.Reaped.{Reaped}
use Rattle.ip_spawn.specs.Children as spawn
use Rattle.ip_spawn.specs.declared.spawner.SpawnCounts.{SpawnCounts}
use Rattle.ip_ground.specs.Counts.{Noted}
use Rattle.ip_ground.specs.Told.{Told, KeepsCustody, SyncsOnly, Only}
use Rattle.ip_ground.proofs.Rising.{none_falls_on}
use Rattle.ip_image.specs.declared.counts.TurnCounts.{TurnCounts}
use Rattle.ip_image.specs.declared.slot.Slot.{Slot}
use Rattle.ip_image.specs.Standing.{StandsFor}
use Rattle.ip_image.specs.Pending.{HasLive}
use Rattle.ip_image.proofs.HeadlineLaws.{one_slot}
use Rattle.ip_spec.specs.Merge.{Rule}
use Rattle.ip_spec.specs.Path.{Bytes}
use Rattle.ip_spec.specs.View.{View}
use Rattle.ip_spec.specs.Repository.{Repository}
use Rattle.ip_spec.specs.Machine.{State, Phase, opened}
use Rattle.ip_merge.specs.Rules.{IsDecisive}
use Rattle.ip_spec.specs.Line.{IsLineOf}
use Rattle.ip_spec.specs.Script.{LineStep}
use Rattle.ip_opens.specs.Opening.{RecoversOnceOpen}
use Rattle.ip_held.specs.Clear.{IsCleared, IsClearAt}
use Rattle.ip_held.specs.Collecting.{phase_of, child_of}
use Rattle.ip_held.specs.Slots.{KeepsSlots}
use Rattle.ip_held.specs.Sweeping.{KeepsFiles}
use Rattle.ip_held.proofs.KeptFiles.{keeps_on, keeps_store}
use Rattle.ip_held.proofs.Recovering.{held_has}
use Rattle.ip_session.specs.declared.session.Session.{Session}
use Rattle.ip_session.specs.Session.{IsServing, IsWorking, state_in}
use Rattle.ip_app.specs.declared.turn_log.Turn.{Turn}
use Rattle.ip_app.specs.declared.statuses.Status.{Status}
use Rattle.ip_app.specs.Exchanges.{Exchange, conditions, Run, after_all, turns_in}
use Rattle.ip_app.specs.Files.{OnlyReads, LeavesFiles, SlotsSince}
use Rattle.ip_app.specs.Happening.{Happens, HappensCut, AllHappen, HappenIn, phase_after, started_in, ends_in}
use Rattle.ip_session.specs.Asking.{LetsGo, starts_in}
use Rattle.ip_app.specs.Turns.{turn_counts, AreCounts, Follow}
use Rattle.ip_app.specs.Outside.{Outside, Tells, Knows, GoesOn, IsBound, IsUnasked}
use Rattle.ip_app.specs.Run.{IsBehindOpening, Notes, AsksChildren}
use Rattle.ip_app.proofs.Counting.{bound_to, spawns_on, still_at, follow_more}
use Rattle.ip_app.proofs.Happened.{later_gone, happen_more, phase_all, told_with, spawned_more}
use Rattle.ip_app.proofs.LineFiles.{slots_next, reads_synced, reads_on, all_front, all_last, drawn_on, line_rises, none_started, risen_line, risen_first}
use Rattle.ip_app.proofs.Unwritten.{none_on, none_synced, not_none}
use Rattle.ip_app.proofs.LivePair.{live_before}
use Rattle.ip_app.specs.Exchanging.{OnlyRemovals, CountsServing, Begun, Exchanged, Trace, Ran}

pub after_more : (first : State) (xs : List Exchange) (x : Exchange) → after_all first (xs ++ x ∷ []) ≡ x.after
after_more first [] x = refl
after_more first (y ∷ xs) x = after_more y.after xs x

pub run_more : (rule : Rule) (first mid : State) (xs : List Exchange) (x : Exchange) → mid ≡ after_all first xs → Run rule first xs → LineStep IsLineOf rule mid x.line (conditions x) x.reply x.after → Run rule first (xs ++ x ∷ [])
run_more rule first mid [] x e h s = (subst (λ (t : State). LineStep IsLineOf rule t x.line (conditions x) x.reply x.after) e s, tt)
run_more rule first mid (y ∷ xs) x e h s = (h.0, run_more rule y.after mid xs x e h.1 s)

pub append_nil : {A : Type 0} (t : List A) → t ++ [] ≡ t
append_nil [] = refl
append_nil {A = A} (b ∷ t) = ap (λ (u : List A). b ∷ u) (append_nil t)

pub told_before : (a b : Bool) → a ≡ b → IsTrue b → IsTrue a
told_before a b e h = subst IsTrue (sym e) h

pub goes_on_then : (a b c : Outside) → GoesOn a b → GoesOn b c → GoesOn a c
goes_on_then a b c g h = record {
  dir = h.dir ∙ g.dir;
  source_tells = h.source_tells ∙ g.source_tells;
  ground_tells = h.ground_tells ∙ g.ground_tells;
  spawner_tells = h.spawner_tells ∙ g.spawner_tells;
  log_tells = λ t. g.log_tells (h.log_tells t);
  read_faults = omega (arith, g.read_faults, h.read_faults);
  counts = none_falls_on a.counts b.counts c.counts g.counts h.counts;
  spawns = spawns_on a.spawns b.spawns c.spawns g.spawns h.spawns;
}

-- while the control file alone may be synced
pub keeps_unchanged : (a b : Told) → SyncsOnly (Only Control) a b → KeepsFiles a b
keeps_unchanged a b only = keeps_store a b (Only Control) (λ file is. inl is) only.changes

-- ---- one exchange more

-- One command more was begun. No fault was counted before.
pub trace_more : (rule : Rule) (decisive known : Bool) (xs : List Exchange) (first : Repository) (old mid new : Outside) (counts counts' : TurnCounts) (state : State) (x : Exchange) → Trace rule decisive known xs first old mid counts → OnlyRemovals old.counts mid.counts
    → (IsTrue known → state ≡ after_all (opened first) xs) → Begun rule known mid new counts counts' state x → Trace rule decisive known (xs ++ x ∷ []) first old new counts'
trace_more rule decisive known xs first old mid new counts counts' state x h no_fault at t = record {
  known_so = h.known_so;
  tells = h.tells;
  is_decisive = h.is_decisive;
  goes_on = goes_on_then old mid new h.goes_on t.goes_on;
  files = λ g. keeps_on old.told mid.told new.told (h.files g) (t.files g);
  began = h.began;
  run = λ g. run_more rule (opened first) state xs x (at g) (h.run g) (t.step g);
  noted = λ l. t.noted l ∙ (ap (λ u. u ++ x.turn ∷ []) (h.noted (t.goes_on.log_tells l)) ∙ (append_assoc old.turns (turns_in xs) (x.turn ∷ []) ∙ ap (λ u. old.turns ++ u) (sym (map-append (λ x. x.turn) xs (x ∷ [])))));
  spawned = λ b. spawned_more old.dir old.spawned mid.spawned new.spawned xs x (h.spawned b) (subst (λ (dir : Bytes). new.spawned ≡ told_with (mid.spawned.started ++ starts_in dir x.started) (mid.spawned.reaped ++ x.reaped)) h.goes_on.dir (t.spawned (told_before _ _ h.goes_on.spawner_tells b)));
  counts_now = t.until;
  follow = follow;
  reads = t.reads ∙ h.reads;
  bound = t.bound ∙ h.bound;
  keeps = λ g all. reads_on old.told mid.told new.told (h.keeps g (all_front OnlyReads xs (x ∷ []) all)) (t.keeps g (all_last OnlyReads xs x all));
}
  where
    follow : Follow (turn_counts old.counts old.spawns) (turns_in (xs ++ x ∷ [])) counts'
    follow =
        let start = turn_counts old.counts old.spawns in
        subst (λ (ts : List Turn). Follow start ts counts') (sym (map-append (λ x. x.turn) xs (x ∷ [])))
        (subst (λ (e : TurnCounts). Follow start (turns_in xs ++ x.turn ∷ []) e) t.ends_at
        (follow_more start counts (turns_in xs) x.turn (still_at old.counts mid.counts old.spawns mid.spawns counts h.counts_now no_fault) h.follow t.begins_at t.rises))

-- an attempt that had been drawn when the run began was drawn before this one too
pub lends_more : (rule : Rule) (decisive known : Bool) (xs : List Exchange) (first r : Repository) (v : View) (slot : Slot) (old mid new : Outside) (counts counts' : TurnCounts) (s : Session) (x : Exchange) → Ran rule decisive known xs first r v slot old mid counts s → Begun rule known mid new counts counts' (state_in s r v) x
    → IsTrue known → (n : ℕ) → n < slot.next_attempt → KeepsCustody old.told new.told n
lends_more rule decisive known xs first r v slot old mid new counts counts' s x h t g n less =
    drawn_on old.told mid.told new.told slot s.store.held.slot (phase_of s.store.held.collection) (h.trace.files g).goes (t.files g).goes (held_has s.store.held r mid.told (h.working g).holds) (h.risen g) (h.lends g) (t.lends g) n less

-- the session has answered it
pub ran_more : (rule : Rule) (decisive known : Bool) (xs : List Exchange) (first r : Repository) (v : View) (slot : Slot) (old mid new : Outside) (counts counts' : TurnCounts) (s s' : Session) (x : Exchange) (after : Repository) (view : View)
    → Ran rule decisive known xs first r v slot old mid counts s → OnlyRemovals old.counts mid.counts → Exchanged rule known mid new counts counts' s s' r v x after view → Ran rule decisive known (xs ++ x ∷ []) first after view slot old new counts' s'
ran_more rule decisive known xs first r v slot old mid new counts counts' s s' x after view h no_fault t = record {
  trace = trace_more rule decisive known xs first old mid new counts counts' (state_in s r v) x h.trace no_fault h.now_at t.begun;
  now_at = λ g. sym (t.now_at g) ∙ sym (after_more (opened first) xs x);
  live = h.live;
  serving = t.serving;
  working = t.working;
  clear = λ g clear. t.clear g (h.clear g clear);
  nothing_pending = λ g order. t.nothing_pending g (h.nothing_pending g order);
  phases = happen_more (opened first) xs x h.phases (subst (λ (phase : Phase). Happens phase x) h.phase t.happens);
  phase = sym t.phase ∙ sym (ap (λ (state : State). state.phase) (after_more (opened first) xs x));
  child = t.child;
  unwritten = λ told none. absurd (not_none xs x none);
  leaves = λ g all. none_on old.told mid.told new.told (h.leaves g (all_front LeavesFiles xs (x ∷ []) all)) (t.unwritten g (all_last LeavesFiles xs x all));
  lends = λ g. lends_more rule decisive known xs first r v slot old mid new counts counts' s x h t.begun g;
  risen = λ g. let w = t.watches g in let after_is = (t.working g).holds.tables.phase in
      risen_line slot s.store.held.slot s'.store.held.slot s.store.held.collection s'.store.held.collection after x (h.risen g)
      (line_rises s.store.held.slot s.store.held.unswept s'.store.held.slot rule _ (state_in s r v) (state_in s r v) x.after v x.line (conditions x) x.reply (t.begun.step g) w.placed)
      t.goes_on_by after_is w.starts (none_started rule (state_in s r v) x.after (conditions x) (phase_of s.store.held.collection) x (t.begun.step g) t.happens);
}

-- nothing was started, nor reaped
pub told_none : (told : spawn.Told) → told ≡ told_with (told.started ++ []) (told.reaped ++ [])
told_none told = ap₂ told_with (sym (append_nil told.started)) (sym (append_nil told.reaped))

-- no line was run yet
pub ran_first : (rule : Rule) (decisive : Bool) → (IsTrue decisive → IsDecisive rule) → (old now : Outside) (counts : TurnCounts) (s : Session) (r : Repository) (v : View) → (known : (b : Bool) × (Knows decisive old → IsTrue b) × (IsTrue b → Knows decisive old)) → IsServing s → state_in s r v ≡ opened r
    → (Tells old → IsWorking now.told s r v) → (Tells old → IsClearAt old.told → IsCleared s.store.held now.told) → (Tells old → StandsFor old.told.held r) → (IsTrue old.ground_tells → RecoversOnceOpen old.told now.told)
    → counts ≡ turn_counts old.counts old.spawns → now.counts ≡ bound_to old.dir old.counts → IsUnasked old now → s.store.held.collection ≡ None → old.held ≡ None → now.read_faults ≡ old.read_faults → GoesOn old now → (IsTrue old.ground_tells → SyncsOnly (Only Control) old.told now.told) → now.turns ≡ old.turns
    → Ran rule decisive known.0 [] r r v s.store.held.slot old now counts s
ran_first rule decisive by_rule old now counts s r v known serving begun working cleared began opening counted no_fault unasked idle alone reads g f turns = record {
  trace = record {
    known_so = known.1;
    tells = λ is. (known.2 is).0;
    is_decisive = λ is. by_rule (known.2 is).1;
    goes_on = g;
    files = λ is. keeps_unchanged old.told now.told (f (known.2 is).0.0);
    began = began;
    run = λ is. tt;
    noted = λ b. turns ∙ sym (append_nil old.turns);
    spawned = λ b. unasked.spawned ∙ told_none old.spawned;
    counts_now = counted ∙ ap₂ turn_counts (sym no_fault) (sym unasked.spawns);
    follow = counted;
    reads = reads;
    bound = ap (λ (n : Noted). n.bound) no_fault;
    keeps = λ is all. reads_synced old.told now.told (f (known.2 is).0.0);
  };
  now_at = λ is. begun;
  live = λ is. live_before old.told now.told (f (known.2 is).0.0).files s.store.held.slot (held_has s.store.held r now.told (working (known.2 is).0).holds);
  serving = serving;
  working = λ is. working (known.2 is).0;
  clear = λ is. cleared (known.2 is).0;
  nothing_pending = λ is order. (opening (known.2 is).0.0).nothing_pending order;
  phases = tt;
  phase = ap phase_of idle;
  child = unasked.held ∙ (alone ∙ sym (ap child_of idle));
  unwritten = λ told none. none_synced old.told now.told (f told);
  leaves = λ is all. none_synced old.told now.told (f (known.2 is).0.0);
  lends = λ is n less. (f (known.2 is).0.0).changes.lending n;
  risen = λ is. risen_first s.store.held.slot s.store.held.collection idle;
}

-- ---- how it ends

-- The child that was held is let go at the end.
abbrev pub let_go_as : Outside → spawn.Told → Option ℕ → SpawnCounts → Outside
let_go_as new spawned held spawns = record new { spawned = spawned; held = held; spawns = spawns }

pub record LetsGoAs (new : Outside) (spawned : spawn.Told) (held : Option ℕ) (spawns : SpawnCounts) : Type 0 where
  pub ends : List Reaped
  pub few : length ends ≤ 1
  pub told : IsTrue new.spawner_tells → spawned ≡ told_with new.spawned.started (new.spawned.reaped ++ ends)
  pub none : held ≡ None
  pub counts : AreCounts new.spawns
  pub gone : LetsGo new.spawns spawns

pub goes_on_gone : (old new : Outside) (spawned : spawn.Told) (held : Option ℕ) (spawns : SpawnCounts) → AreCounts new.spawns → LetsGo new.spawns spawns → GoesOn old new → GoesOn old (let_go_as new spawned held spawns)
goes_on_gone old new spawned held spawns counts gone g = record {
  dir = g.dir;
  source_tells = g.source_tells;
  ground_tells = g.ground_tells;
  spawner_tells = g.spawner_tells;
  log_tells = g.log_tells;
  read_faults = g.read_faults;
  counts = g.counts;
  spawns = spawns_on old.spawns new.spawns spawns g.spawns (later_gone new.spawns spawns counts gone);
}

-- what was started and reaped in these exchanges, and then
pub told_gone : (old new : Outside) (spawned : spawn.Told) (xs : List Exchange) (ends : List Reaped) → new.spawned ≡ told_with (old.spawned.started ++ started_in old.dir xs) (old.spawned.reaped ++ ends_in xs) → spawned ≡ told_with new.spawned.started (new.spawned.reaped ++ ends)
    → spawned ≡ told_with (old.spawned.started ++ started_in old.dir xs) ((old.spawned.reaped ++ ends_in xs) ++ ends)
told_gone old new spawned xs ends so then_gone = then_gone ∙ ap (λ (t : spawn.Told). told_with t.started (t.reaped ++ ends)) so

-- what was noted
pub notes_of : (rule : Rule) (decisive known : Bool) (xs : List Exchange) (first : Repository) (end : Status) (old new : Outside) (counts : TurnCounts) → Trace rule decisive known xs first old new counts → CountsServing end old.counts new.counts
    → (spawned : spawn.Told) (held : Option ℕ) (spawns : SpawnCounts) → LetsGoAs new spawned held spawns → Notes old (let_go_as new spawned held spawns) end xs
notes_of rule decisive known xs first end old new counts h counted spawned held spawns gone = record {
  noted = h.noted;
  follow = λ behind. (new.spawns, gone.gone, subst (λ (e : TurnCounts). Follow (turn_counts old.counts old.spawns) (turns_in xs) e) h.counts_now h.follow);
  counted = counted;
  reads = λ other. h.reads;
  bound = inl h.bound;
  bound_first = λ some. h.bound;
}

-- what was asked of the spawner
pub asks_of : (rule : Rule) (decisive known : Bool) (xs : List Exchange) (first : Repository) (cut_short : Bool) (old new : Outside) (counts : TurnCounts) → Trace rule decisive known xs first old new counts → HappenIn cut_short xs
    → (spawned : spawn.Told) (held : Option ℕ) (spawns : SpawnCounts) → LetsGoAs new spawned held spawns → AsksChildren cut_short old (let_go_as new spawned held spawns) xs
asks_of rule decisive known xs first cut_short old new counts h happen spawned held spawns gone = record {
  happen = happen;
  spawned = λ b. (gone.ends, gone.few, told_gone old new spawned xs gone.ends (h.spawned b) (gone.told (told_before _ _ h.goes_on.spawner_tells b)));
  none_held = λ _. gone.none;
}

-- where no command was begun
pub notes_none : (end : Status) (old new : Outside) → new.turns ≡ old.turns → new.read_faults ≡ old.read_faults → (IsBehindOpening end [] → ⊥) → IsBound old.dir end old.counts new.counts → CountsServing end old.counts new.counts → Notes old new end []
notes_none end old new turns reads unopened bound counted = record {
  noted = λ b. turns ∙ sym (append_nil old.turns);
  follow = λ behind. absurd (unopened behind);
  counted = counted;
  reads = λ other. reads;
  bound = bound;
  bound_first = λ some. absurd (some refl);
}

pub asks_none : (cut_short : Bool) (old new : Outside) → IsUnasked old new → AsksChildren cut_short old new []
asks_none cut_short old new unasked = record {
  happen = record { whole = []; cut = []; all = refl; one = omega arith; none = λ _. refl; some = λ _ behind. absurd (behind refl); happen = tt; happen_cut = λ x is. absurd (cc is) };
  spawned = λ b. ([], omega arith, unasked.spawned ∙ (told_none old.spawned ∙ ap (told_with (old.spawned.started ++ [])) (sym (append_nil (old.spawned.reaped ++ [])))));
  none_held = λ alone. unasked.held ∙ alone;
}

-- all of them happened, or all but one that was cut short
pub happen_all : (cut_short : Bool) → cut_short ≡ false → (xs : List Exchange) → AllHappen Phase.Idle xs → HappenIn cut_short xs
happen_all cut_short uncut xs all = record { whole = xs; cut = []; all = append_nil xs; one = omega arith; none = λ _. refl; some = λ short behind. absurd (cc (short, uncut)); happen = all; happen_cut = λ x is. absurd (cc is) }

pub happen_cut : (first : Repository) (xs : List Exchange) (x : Exchange) → AllHappen Phase.Idle xs → HappensCut (after_all (opened first) xs).phase x → HappenIn true (xs ++ x ∷ [])
happen_cut first xs x all cut = record {
  whole = xs;
  cut = x ∷ [];
  all = refl;
  one = omega arith;
  none = λ c. absurd (cc c);
  some = λ c behind empty. absurd (cc empty);
  happen = all;
  happen_cut = λ y is. (let same : x ≡ y = cc is in subst (HappensCut (phase_after Phase.Idle xs)) same (subst (λ (phase : Phase). HappensCut phase x) (sym (phase_all (opened first) xs)) cut));
}

-- one slot was live when the run began
pub live_at : (rule : Rule) (decisive known : Bool) (xs : List Exchange) (first r : Repository) (v : View) (slot : Slot) (old now : Outside) (counts : TurnCounts) (session : Session) → Ran rule decisive known xs first r v slot old now counts session → IsTrue known → (live : Slot) → HasLive live old.told.held → slot ≡ live
live_at rule decisive known xs first r v slot old now counts session h is live has = one_slot slot live old.told.held (h.live is) has

-- what is so of the attempts that were drawn by then is so by any slot that was live
pub lends_at : (rule : Rule) (decisive known : Bool) (xs : List Exchange) (first r : Repository) (v : View) (slot : Slot) (old now : Outside) (counts : TurnCounts) (session : Session) → Ran rule decisive known xs first r v slot old now counts session → IsTrue known → (new : Told) → ((n : ℕ) → n < slot.next_attempt → KeepsCustody old.told new n)
    → (live : Slot) → HasLive live old.told.held → (n : ℕ) → n < live.next_attempt → KeepsCustody old.told new n
lends_at rule decisive known xs first r v slot old now counts session h is new lends live has = subst (λ (s : Slot). (n : ℕ) → n < s.next_attempt → KeepsCustody old.told new n) (live_at rule decisive known xs first r v slot old now counts session h is live has) lends

-- ---- the slots that were live

pub slots_at : (rule : Rule) (decisive known : Bool) (xs : List Exchange) (first r : Repository) (v : View) (slot : Slot) (old now : Outside) (counts : TurnCounts) (session : Session) → Ran rule decisive known xs first r v slot old now counts session → IsTrue known → (since steps : ℕ) (new : Told) → SlotsSince since slot steps new
    → (live : Slot) → HasLive live old.told.held → SlotsSince since live steps new
slots_at rule decisive known xs first r v slot old now counts session h is since steps new slots live has = subst (λ (s : Slot). SlotsSince since s steps new) (live_at rule decisive known xs first r v slot old now counts session h is live has) slots

-- one command more
pub slots_run : (rule : Rule) (decisive known : Bool) (xs : List Exchange) (first r : Repository) (v : View) (slot : Slot) (old mid new : Outside) (counts counts' : TurnCounts) (s : Session) (x : Exchange) → Ran rule decisive known xs first r v slot old mid counts s → Begun rule known mid new counts counts' (state_in s r v) x
    → IsTrue known → (since : ℕ) → since ≤ mid.told.moment → SlotsSince since slot (length xs) mid.told → KeepsSlots mid.told new.told → SlotsSince since slot (length (xs ++ x ∷ [])) new.told
slots_run rule decisive known xs first r v slot old mid new counts counts' s x h t is since over was keeps =
    slots_next since slot s.store.held.slot xs x mid.told new.told (t.files is).goes over (t.possible is) (held_has s.store.held r mid.told (h.working is).holds) was keeps
