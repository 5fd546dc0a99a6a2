-- A run that goes on by a line, and how it ends.
use Rattle.std.specs.Prelude.{◌≢◌, IfSome, IsSomeAnd}
use Rattle.std.proofs.Common.{true, ◌≡◌, inl, inr, ℕ, ◌≤◌, Bool, false, List, [], ◌∷◌, ◌++◌, length, refl, sym, ap, ap₂, ◌∙◌, subst, arith, append_assoc, length-append, map, IsTrue, All, take, drop, Option, Some, None, Result}
use Rattle.std.proofs.lemmas.Bool.{cases_lt}
use Rattle.std.proofs.lemmas.List.{map-append, take-append-drop}
use Rattle.std.proofs.lemmas.List.Elements.{All-append, All-cons, All-nil}
use Rattle.ip_ground.specs.declared.names.FileName.TheVariants.{Control}
use Rattle.ip_ground.specs.declared.names.GroundFault.{GroundFault}
use Rattle.ip_spawn.specs.Children as spawn
use Rattle.ip_spawn.specs.declared.spawner.SpawnCounts.{SpawnCounts}
use Rattle.ip_ground.specs.Counts.{Noted, Rose, binds, as_nothing}
use Rattle.ip_ground.specs.Custody.{Custody, lent}
use Rattle.ip_ground.specs.Told.{Told, said, lending, ChangesOnly, SyncsOnly, Only, NoFile}
use Rattle.ip_ground.specs.Calls.{Says}
use Rattle.ip_ground.proofs.Spans.{said_now, lending_now, custody_on}
use Rattle.ip_image.specs.declared.counts.TurnCounts.{TurnCounts}
use Rattle.ip_image.specs.declared.slot.Slot.{Slot}
use Rattle.ip_image.specs.Slot.{live_index}
use Rattle.ip_image.specs.Standing.{StandsFor, NoStore}
use Rattle.ip_image.specs.Pending.{HasLive, NothingPending}
use Rattle.ip_image.specs.Headline.{Headline}
use Rattle.ip_image.proofs.DamageLaws.{not_damaged}
use Rattle.ip_image.proofs.HeadlineLaws.{headline_later, turns_quietly}
use Rattle.ip_image.proofs.OneRepository.{one_repository}
use Rattle.ip_spec.specs.Path.{Bytes, line_feed}
use Rattle.ip_spec.specs.Merge.{Rule}
use Rattle.ip_ground.specs.Contents.{Image, Content, bytes_of}
use Rattle.ip_spec.specs.View.{View, no_view}
use Rattle.ip_spec.specs.Repository.{Repository, no_repository}
use Rattle.ip_spec.specs.Machine.{State, Phase, opened}
use Rattle.ip_merge.specs.Rules.{IsDecisive}
use Rattle.ip_spec.specs.Script.{whole_lines}
use Rattle.ip_spec.specs.Text.{reply_text}
use Rattle.ip_held.specs.Control.{control_in}
use Rattle.ip_opens.specs.Opening.{RecoversOnceOpen}
use Rattle.ip_held.specs.declared.collection.Collection.{Collection}
use Rattle.ip_held.specs.Clear.{IsCleared, IsClearAt, unswept_in}
use Rattle.ip_held.specs.Sweeping.{KeepsFiles}
use Rattle.ip_held.proofs.KeptFiles.{keeps_on, keeps_custody, stays_goes}
use Rattle.ip_held.proofs.Recovering.{held_has}
use Rattle.ip_session.specs.declared.session.Session.{Session}
use Rattle.ip_session.specs.Session.{IsServing, IsWorking, state_in}
use Rattle.ip_app.specs.declared.lines.Lines.{Lines}
use Rattle.ip_app.specs.declared.statuses.Status.{Status}
use Rattle.ip_app.specs.declared.statuses.Status.TheVariants as status
use Rattle.ip_app.specs.declared.statuses.Bound.TheVariants as bound
use Rattle.ip_app.specs.Lines.{longest_line, last_piece}
use Rattle.ip_app.specs.Pending.{pending}
use Rattle.ip_app.specs.Reading.{EndsReading, IsCaused}
use Rattle.ip_app.specs.Exchanges.{Exchange, answer_of, lines_in, turns_in, texts_in, after_all}
use Rattle.ip_app.specs.Exchanging.{Exchanged}
use Rattle.ip_app.specs.Files.{SlotsSince}
use Rattle.ip_app.specs.Happening.{HappensCut}
use Rattle.ip_app.specs.Judged.{IsHeldIn, IsWatchedTo, WatchedIn, Watches}
use Rattle.ip_app.specs.Turns.{turn_counts, Follow}
use Rattle.ip_app.specs.Outside.{Outside, Tells, Knows, GoesOn, IsBound, IsUnasked}
use Rattle.ip_app.specs.Serving.{is_cut_short, SaysPart, Took, TurnedIn, Stopped, HalfSaid, CutOff, CountsOf, OnlyRemovals, CountsServing, Stops, Served}
use Rattle.ip_app.proofs.LineFiles.{reads_synced, reads_on, none_read, slots_first, slots_later}
use Rattle.ip_app.proofs.RanOn.{lends_more, lends_at, slots_at, slots_run, append_nil, after_more, told_before, goes_on_then, keeps_unchanged, trace_more, ran_more, ran_first, let_go_as, LetsGoAs, goes_on_gone, told_gone, notes_of, asks_of, notes_none, asks_none, happen_all, happen_cut, live_at}
use Rattle.ip_app.specs.Run.{CouldNotOpen, IsUntouched, IsOpened, Begins, is_cut_off, is_unsaid, Row, IsBehindOpening, AsksChildren, Serves, EndsWhereAllIsWell}
use Rattle.ip_app.proofs.Cleared.{clear_synced, cleared_at, cleared_same}
use Rattle.ip_app.proofs.Counting.{removals_bound, removals_on, serving_of, serving_on, bound_to, bound_counts, IsNoDamage, no_damage}
use Rattle.ip_app.proofs.Judging.{texts_same, lent_in, watched_none, watched_unbegun, watched_next, watched_still, watched_all, watched_cut}
use Rattle.ip_app.proofs.LivePair.{live_on, owns_pending}
use Rattle.ip_app.proofs.Unwritten.{none_on, none_synced, not_none, only_one, damage_off}
use Rattle.ip_app.proofs.SameFiles.{stands_after}
use Rattle.ip_app.proofs.Moments.{headline_none, headline_turn}
use Rattle.ip_app.proofs.LineLemmas.{whole_lines-line, whole_lines-rest, last_piece-line, last_piece-rest}

texts_more : (xs : List Exchange) (x : Exchange) → texts_in (xs ++ x ∷ []) ≡ texts_in xs ++ reply_text x.reply
texts_more [] x = append_nil (reply_text x.reply)
texts_more (y ∷ xs) x = ap (λ (t : Bytes). reply_text y.reply ++ t) (texts_more xs x) ∙ sym (append_assoc (reply_text y.reply) (texts_in xs) (reply_text x.reply))

regroup : (d l t : Bytes) → d ++ (l ++ line_feed ∷ t) ≡ (d ++ (l ++ line_feed ∷ [])) ++ t
regroup d l t = sym (append_assoc d (l ++ line_feed ∷ []) t ∙ ap (λ (u : Bytes). d ++ u) (append_assoc l (line_feed ∷ []) t))

-- ---- files

pub keeps_said : (bytes : Bytes) (r : Result (Unit {0}) GroundFault) (a b : Told) → Says bytes r a b → KeepsFiles a b
keeps_said bytes r a b says = keeps_custody a b says.goes (λ n. lending_now a b says.goes n (says.lending n)) (λ file others. stays_goes a b file (says.files file))

-- the control file is no attempt's, so it stays
pub same_control : (a b : Told) → ChangesOnly NoFile a b → control_in b.held ≡ control_in a.held
same_control a b only = ap bytes_of ((only.others Control (λ h. h)).held (λ h. h))

-- a part was said, whatever the answer
pub says_part : (bytes : Bytes) (r : Result (Unit {0}) GroundFault) (a b : Told) → Says bytes r a b → SaysPart bytes (said a) (said b)
says_part bytes r a b says = elim (cases_lt a.moment b.moment) [
  | inl later ↦ let front = says.front b.moment later (omega arith) in (take front.0 bytes, drop front.0 bytes, take-append-drop front.0 bytes, front.2)
  | inr still ↦
      let same : b.moment ≡ a.moment = omega (arith, says.goes.later) in
      ([], bytes, refl, says.goes.said b.moment still ∙ (ap a.said_at same ∙ sym (append_nil (said a))))
]

-- whose the attempt of a collection is, while none was lent or settled
some_still : (o : Option Collection) (a b : Told) → lending b ≡ lending a → IsSomeAnd o (λ c. lending a c.job.attempt ≡ lent) → IsSomeAnd o (λ c. lending b c.job.attempt ≡ lent)
some_still None a b same is = absurd is
some_still (Some c) a b same is = ap (λ (whose : ℕ → Custody). whose c.job.attempt) same ∙ is

abbrev IsShort : Bytes → Type 0
IsShort line = length line ≤ longest_line

-- what is found of one line more
watched_line : (rule : Rule) (decisive : Bool) (old mid new : Outside) (lines : Lines) (counts counts' : TurnCounts) (s s' : Session) (h : Served rule decisive old mid lines counts s) (x : Exchange) (after : Repository) (view : View) → Exchanged rule h.known mid new counts counts' s s' h.repository h.view x after view → IsTrue h.known
    → IsWatchedTo rule reply_text old.told new.told h.slot (opened h.first) (h.exchanges ++ x ∷ []) s'.store.held.collection s'.store.held.slot s'.store.held.unswept view
watched_line rule decisive old mid new lines counts counts' s s' h x after view t g = watched_next rule reply_text old.told mid.told new.told (h.ran.trace.files g).goes (t.begun.files g).goes h.slot (opened h.first) h.exchanges h.view view s.store.held.collection s'.store.held.collection s.store.held.slot s'.store.held.slot s.store.held.unswept s'.store.held.unswept x
    (h.watched g) (h.said g ∙ ap (λ (t : Bytes). said old.told ++ t) (texts_same h.exchanges)) (h.ran.nothing_pending g) (after_more (opened h.first) h.exchanges x) t.goes_on_by (h.ran.clear g)
    (subst (λ (state : State). Watches rule mid.told new.told state h.view view s.store.held.collection s'.store.held.collection s.store.held.slot s'.store.held.slot s.store.held.unswept s'.store.held.unswept x) (h.ran.now_at g) (t.watches g))

-- one line more was served
pub served_more : (rule : Rule) (decisive : Bool) (old mid new : Outside) (lines lines' : Lines) (counts counts' : TurnCounts) (s s' : Session) (h : Served rule decisive old mid lines counts s) → TurnedIn rule h.known mid new lines lines' counts counts' s s' h.repository h.view → Served rule decisive old new lines' counts' s'
served_more rule decisive old mid new lines lines' counts counts' s s' h turned =
    let x = turned.exchange in
    let t = turned.took in
    let goes = turned.exchanged.begun in
    record {
      known = h.known;
      first = h.first;
      repository = turned.after;
      view = turned.view;
      slot = h.slot;
      done = h.done ++ (x.line ++ line_feed ∷ []);
      exchanges = h.exchanges ++ x ∷ [];
      ran = ran_more rule decisive h.known h.exchanges h.first h.repository h.view h.slot old mid new counts counts' s s' x turned.after turned.view h.ran h.no_fault turned.exchanged;
      no_fault = removals_on old.counts mid.counts new.counts h.no_fault turned.no_fault;
      bytes = λ b. h.bytes b ∙ (ap (λ (u : Bytes). h.done ++ u) (t.front (told_before _ _ h.ran.trace.goes_on.source_tells b)) ∙ regroup h.done x.line (pending lines' ++ new.left));
      lines_then = λ tail. ap whole_lines (sym (regroup h.done x.line tail)) ∙ (h.lines_then (x.line ++ line_feed ∷ tail) ∙ (ap (λ u. lines_in h.exchanges ++ u) (whole_lines-line x.line tail t.no_line_feed) ∙ (sym (append_assoc (lines_in h.exchanges) (x.line ∷ []) (whole_lines tail)) ∙ ap (λ u. u ++ whole_lines tail) (sym (map-append (λ x. x.line) h.exchanges (x ∷ []))))));
      rest_then = λ tail. ap last_piece (sym (regroup h.done x.line tail)) ∙ (h.rest_then (x.line ++ line_feed ∷ tail) ∙ last_piece-line x.line tail t.no_line_feed);
      short = subst (All IsShort) (sym (map-append (λ x. x.line) h.exchanges (x ∷ []))) (All-append IsShort (lines_in h.exchanges) (x.line ∷ []) h.short (All-cons IsShort x.line [] t.short (All-nil IsShort)));
      count = omega (arith, h.count, t.count, length-append h.done (x.line ++ line_feed ∷ []), length-append x.line (line_feed ∷ []));
      watched = λ g. watched_line rule decisive old mid new lines counts counts' s s' h x turned.after turned.view turned.exchanged g;
      said = λ g. turned.said g ∙ (ap (λ (u : Bytes). u ++ reply_text x.reply) (h.said g) ∙ (append_assoc (said old.told) (texts_in h.exchanges) (reply_text x.reply) ∙ ap (λ (u : Bytes). said old.told ++ u) (sym (texts_more h.exchanges x))));
      opened_at = h.opened_at;
      headline = λ g order. headline_turn (h.opened_at g) old.told mid.told new.told (opened h.first) h.exchanges x (h.headline g order) (goes.files g).goes (h.over g) (h.said g)
          h.repository turned.after (ap (λ (state : State). state.repository) (h.ran.now_at g)) (ap (λ (state : State). state.repository) (sym (turned.exchanged.now_at g))) (turned.turning g (h.ran.nothing_pending g order));
      over = λ g. let was = h.over g in let later = (goes.files g).goes.later in omega (arith, was, later);
      slots = λ g order. slots_run rule decisive h.known h.exchanges h.first h.repository h.view h.slot old mid new counts counts' s x h.ran goes g (h.opened_at g) (h.over g) (h.slots g order) ((turned.exchanged.watches g).slots (h.ran.nothing_pending g order));
    }

-- no line was served yet
pub served_first : (rule : Rule) (decisive : Bool) → (IsTrue decisive → IsDecisive rule) → (old now : Outside) (lines : Lines) (counts : TurnCounts) (s : Session) (r : Repository) (v : View) → v ≡ no_view → s.store.held.unswept ≡ unswept_in s.store.held.slot → (known : (b : Bool) × (Knows decisive old → IsTrue b) × (IsTrue b → Knows decisive old)) → IsServing s → state_in s r v ≡ opened r → (Tells old → IsWorking now.told s r v) → (Tells old → IsClearAt old.told → IsCleared s.store.held now.told) → (Tells old → StandsFor old.told.held r)
    → (opening : IsTrue old.ground_tells → RecoversOnceOpen old.told now.told) → ((tells : Tells old) → (opening tells.0).since ≤ now.told.moment)
    → counts ≡ turn_counts old.counts old.spawns → now.counts ≡ bound_to old.dir old.counts → IsUnasked old now → s.store.held.collection ≡ None → old.held ≡ None → now.read_faults ≡ old.read_faults → GoesOn old now → (IsTrue old.ground_tells → SyncsOnly (Only Control) old.told now.told) → now.left ≡ old.left → now.turns ≡ old.turns → pending lines ≡ [] → lines.taken ≡ 0 → Served rule decisive old now lines counts s
served_first rule decisive by_rule old now lines counts s r v none_known carried known serving begun working cleared began opening over counted no_fault unasked idle alone reads g f left turns none zero =
    record {
      known = known.0;
      done = [];
      exchanges = [];
      first = r;
      repository = r;
      view = v;
      slot = s.store.held.slot;
      ran = ran_first rule decisive by_rule old now counts s r v known serving begun working cleared began opening counted no_fault unasked idle alone reads g f turns;
      no_fault = removals_bound old.counts now.counts (bound_counts old.dir old.counts now.counts as_nothing no_fault);
      bytes = λ b. sym left ∙ ap (λ (u : Bytes). u ++ now.left) (sym none);
      lines_then = λ tail. refl;
      rest_then = λ tail. refl;
      short = All-nil IsShort;
      count = omega (arith, zero, ap length none);
      watched = λ is. watched_none rule reply_text old.told now.told (f (known.2 is).0.0) s.store.held.slot (opened r) s.store.held.collection idle refl s.store.held.unswept carried v none_known;
      said = λ is. let only = f (known.2 is).0.0 in said_now old.told now.told only.changes.goes only.changes.said ∙ sym (append_nil (said old.told));
      opened_at = λ is. (opening (known.2 is).0.0).since;
      over = λ is. over (known.2 is).0;
      headline = λ is order. let told = (known.2 is).0.0 in headline_none old.told now.told (f told) (opening told) r (began (known.2 is).0) order;
      slots = λ is order. let told = (known.2 is).0.0 in slots_first old.told now.told (opening told) s.store.held.slot (held_has s.store.held r now.told (working (known.2 is).0).holds);
    }

-- where the call did not end in the middle of a command none was cut short
off_short : (s : Status) → is_cut_off s ≡ false → is_cut_short s ≡ false
off_short status.GroundFault off = absurd (cc off)
off_short (status.DamagedRecord at) off = absurd (cc off)
off_short (status.DamagedName at want got) off = absurd (cc off)
off_short _ off = refl

-- no line was served at all
pub serves_none : (rule : Rule) (decisive : Bool) (old new : Outside) (s : Status) → GoesOn old new → (IsTrue old.ground_tells → SyncsOnly (Only Control) old.told new.told) → (IsTrue old.ground_tells → RecoversOnceOpen old.told new.told) → new.left ≡ old.left → new.turns ≡ old.turns → IsUnasked old new → new.read_faults ≡ old.read_faults
    → (IsBehindOpening s [] → ⊥) → Begins s old (opened no_repository) [] → IsBound old.dir s old.counts new.counts → IsNoDamage s → CountsOf s old.counts new.counts → Row decisive s old new [] → Serves rule decisive old new s
serves_none rule decisive old new s g f opening left turns unasked reads unopened begins bound sound counted row =
    let first = opened no_repository in
    let quiet : IsTrue old.ground_tells → said new.told ≡ said old.told = λ b. said_now old.told new.told (f b).changes.goes (f b).changes.said in
    record {
      taken = [];
      exchanges = [];
      first = first;
      goes_on = g;
      begins = begins;
      first_is = refl;
      replies = record {
        bytes = λ b. sym left;
        begun = ([], refl, λ c. refl);
        short = All-nil IsShort;
        some = λ damage. absurd (no_damage s sound damage);
        run = λ told. tt;
        watched = λ told slot live. watched_unbegun rule reply_text (is_unsaid s) (is_cut_short s) old.told new.told slot first refl (quiet told.0.0) (live_on old.told new.told (f told.0.0).files slot live);
        said_part = λ b. record { whole = []; cut = []; part = []; unsaid = []; all = refl; one = omega arith; some = λ _ begun. absurd (begun refl); text = refl; said_is = quiet b.0.0 ∙ (sym (append_nil (said old.told)) ∙ sym (append_nil (said old.told ++ []))); silent = λ cut_short. refl };
        said_all = λ b c. quiet b.0.0 ∙ sym (append_nil (said old.told));
      };
      reopens = record {
        any_moment = λ b d r stands order. ((opening b).since, λ behind. absurd (unopened behind), headline_none old.told new.told (f b) (opening b) r stands order, λ slot live. slots_first old.told new.told (opening b) slot (live_on old.told new.told (f b).files slot live));
        again = λ b d may. record { repository = may.repository; stands = stands_after old.told new.told (f b) (owns_pending old.told may.nothing_pending) may.repository may.stands; nothing_pending = (opening b).nothing_pending may.nothing_pending };
        stands = λ b whole h. stands_after old.told new.told (f b.0.0) b.0.1 first.repository h;
        clear = λ b whole. clear_synced old.told new.told (f b.0.0);
        files = λ b. keeps_unchanged old.told new.told (f b.0.0);
        keeps = λ b all. reads_synced old.told new.told (f b.0.0);
        leaves = λ b whole all. none_synced old.told new.told (f b.0.0);
        lends = λ b slot live n less. (f b.0.0).changes.lending n;
      };
      notes = notes_none s old new turns reads unopened bound (serving_of s old.counts new.counts sound counted);
      children = asks_none (is_cut_short s) old new unasked;
      row = row;
      unopened = λ is none. record { none_taken = refl; left = left; said_nothing = quiet; only = f; turns = turns; unasked = unasked };
      unwritten = λ told damage few. absurd (no_damage s sound damage);
    }

-- the store could not be opened
pub begins_unopened : (rule : Rule) (decisive : Bool) (old new : Outside) (s : Status) → GoesOn old new → (IsTrue old.ground_tells → SyncsOnly (Only Control) old.told new.told) → (IsTrue old.ground_tells → RecoversOnceOpen old.told new.told) → new.left ≡ old.left → new.turns ≡ old.turns → IsUnasked old new → new.read_faults ≡ old.read_faults
    → CouldNotOpen s old.ground_tells old.told → IsBound old.dir s old.counts new.counts → CountsOf s old.counts new.counts → Serves rule decisive old new s
begins_unopened rule decisive old new s g f opening left turns unasked reads could_not bound counted = by_status s could_not bound counted
  where
    untouched : IsUntouched old new []
    untouched = record { none_taken = refl; left = left; said_nothing = λ told. said_now old.told new.told (f told).changes.goes (f told).changes.said; only = f; turns = turns; unasked = unasked }

    by_status : (s : Status) → CouldNotOpen s old.ground_tells old.told → IsBound old.dir s old.counts new.counts → CountsOf s old.counts new.counts → Serves rule decisive old new s
    by_status status.NoStore h b n = serves_none rule decisive old new status.NoStore g f opening left turns unasked reads (λ behind. behind) refl b tt n (untouched, h)
    by_status (status.Damaged file at) h b n = serves_none rule decisive old new (status.Damaged file at) g f opening left turns unasked reads (λ behind. behind) refl b tt n (untouched, λ tells. h tells.0 tells.1)
    by_status status.GroundFault h b n = serves_none rule decisive old new status.GroundFault g f opening left turns unasked reads (λ some. some refl) (inl refl) b tt n tt
    by_status status.Done h b n = absurd h
    by_status status.Usage h b n = absurd h
    by_status (status.DamagedRecord at) h b n = absurd h
    by_status (status.DamagedName at want got) h b n = absurd h
    by_status status.DamagedJob h b n = absurd h
    by_status status.ReadFault h b n = absurd h
    by_status status.SayFault h b n = absurd h
    by_status status.Memory h b n = serves_none rule decisive old new status.Memory g f opening left turns unasked reads (λ behind. behind) refl b tt n untouched
    by_status (status.Limit bound) h b n = absurd h
    by_status status.Unfinished h b n = absurd h
    by_status status.Exists h b n = absurd h

pub ends_along : (s : Status) (r r' t t' : ℕ) (A B : Type 0) → EndsReading s r t A → r ≡ r' → t ≡ t' → (A → B) → EndsReading s r' t' B
ends_along status.Done r r' t t' A B h e f k = (k h.0, sym e ∙ h.1, omega arith)
ends_along status.Unfinished r r' t t' A B h e f k = (k h.0, omega arith, omega arith, omega arith)
ends_along (status.Limit bound.Line) r r' t t' A B h e f k = (sym e ∙ h.0, omega arith)
ends_along (status.Limit bound.Input) r r' t t' A B h e f k = (omega arith, sym f ∙ h.1)
ends_along status.ReadFault r r' t t' A B h e f k = (omega arith, omega arith)
ends_along status.Usage r r' t t' A B h e f k = absurd h
ends_along status.NoStore r r' t t' A B h e f k = absurd h
ends_along (status.Damaged file at) r r' t t' A B h e f k = absurd h
ends_along (status.DamagedRecord at) r r' t t' A B h e f k = absurd h
ends_along (status.DamagedName at want got) r r' t t' A B h e f k = absurd h
ends_along status.DamagedJob r r' t t' A B h e f k = absurd h
ends_along status.SayFault r r' t t' A B h e f k = absurd h
ends_along status.GroundFault r r' t t' A B h e f k = absurd h
ends_along status.Memory r r' t t' A B h e f k = absurd h
ends_along status.Exists r r' t t' A B h e f k = absurd h

-- where reading ended, the store had been opened and no command was cut off
record Ended (decisive : Bool) (s : Status) (old new : Outside) (taken : Bytes) (first : State) (xs : List Exchange) : Type 0 where
  row : Row decisive s old new taken
  whole : is_cut_off s ≡ false
  begins : Begins s old first xs
  counted : CountsServing s old.counts new.counts
  reads : s ≢ status.ReadFault → new.read_faults ≡ old.read_faults

-- the row of a status with which reading ended
row_of : (decisive : Bool) (s : Status) (old mid new : Outside) (taken : Bytes) (first : State) (xs : List Exchange) → IsOpened old first → EndsReading s (length (last_piece taken)) (length taken) (IsTrue old.source_tells → new.left ≡ []) → OnlyRemovals old.counts new.counts → mid.read_faults ≡ old.read_faults
    → IsCaused s mid.read_faults new.read_faults → Ended decisive s old new taken first xs
row_of decisive status.Done old mid new taken first xs o e n f c = record { row = e; whole = refl; begins = o; counted = n; reads = λ other. c ∙ f }
row_of decisive status.Unfinished old mid new taken first xs o e n f c = record { row = e; whole = refl; begins = o; counted = n; reads = λ other. c ∙ f }
row_of decisive (status.Limit b) old mid new taken first xs o e n f c = record { row = e; whole = refl; begins = o; counted = n; reads = λ other. c ∙ f }
row_of decisive status.ReadFault old mid new taken first xs o e n f c = record { row = (e, subst (λ (before : ℕ). Rose before new.read_faults) f c); whole = refl; begins = o; counted = n; reads = λ other. absurd (other refl) }
row_of decisive status.Usage old mid new taken first xs o e n f c = absurd e
row_of decisive status.NoStore old mid new taken first xs o e n f c = absurd e
row_of decisive (status.Damaged file at) old mid new taken first xs o e n f c = absurd e
row_of decisive (status.DamagedRecord at) old mid new taken first xs o e n f c = absurd e
row_of decisive (status.DamagedName at want got) old mid new taken first xs o e n f c = absurd e
row_of decisive status.DamagedJob old mid new taken first xs o e n f c = absurd e
row_of decisive status.SayFault old mid new taken first xs o e n f c = absurd e
row_of decisive status.GroundFault old mid new taken first xs o e n f c = absurd e
row_of decisive status.Memory old mid new taken first xs o e n f c = absurd e
row_of decisive status.Exists old mid new taken first xs o e n f c = absurd e

-- the files stood for one repository at most when the run began
of_opened : (behind : Type 0) (since : ℕ) (old new : Outside) (first : Repository) (xs : List Exchange) → StandsFor old.told.held first → (r : Repository) → StandsFor old.told.held r → since ≤ new.told.moment → Headline since old.told new.told (opened first) (map answer_of xs) → ((slot : Slot) → HasLive slot old.told.held → SlotsSince since slot (length xs) new.told)
    → (since : ℕ) × (behind → since ≤ new.told.moment) × Headline since old.told new.told (opened r) (map answer_of xs) × ((slot : Slot) → HasLive slot old.told.held → SlotsSince since slot (length xs) new.told)
of_opened behind since old new first xs began r stands reached run slots = (since, λ b. reached, subst (λ (q : Repository). Headline since old.told new.told (opened q) (map answer_of xs)) (one_repository old.told.held first r began stands) run, slots)

-- the source is read no further
serves_stopped : (rule : Rule) (decisive : Bool) (s : Status) (old mid new : Outside) (lines lines' : Lines) (counts counts' : TurnCounts) (session : Session) (h : Served rule decisive old mid lines counts session) → Stopped s h.known mid new lines lines' counts counts' (state_in session h.repository h.view)
    → (spawned : spawn.Told) (held : Option ℕ) (spawns : SpawnCounts) → LetsGoAs new spawned held spawns → Serves rule decisive old (let_go_as new spawned held spawns) s
serves_stopped rule decisive s old mid new lines lines' counts counts' session h t spawned held spawns gone =
    let first = opened h.first in
    let taken = h.done ++ t.rest in
    let whole : whole_lines taken ≡ lines_in h.exchanges ++ [] = h.lines_then t.rest ∙ ap (λ u. lines_in h.exchanges ++ u) (whole_lines-rest t.rest t.no_line_feed) in
    let rest : last_piece taken ≡ t.rest = h.rest_then t.rest ∙ last_piece-rest t.rest t.no_line_feed in
    let long : lines'.taken ≡ length taken = omega (arith, h.count, t.count, length-append h.done t.rest) in
    let end = row_of decisive s old mid (let_go_as new spawned held spawns) taken first h.exchanges h.ran.trace.began (ends_along s (length t.rest) (length (last_piece taken)) lines'.taken (length taken) _ _ t.ends (ap length (sym rest)) long (λ e b. e (told_before _ _ h.ran.trace.goes_on.source_tells b))) (subst (OnlyRemovals old.counts) (sym t.no_fault) h.no_fault) h.ran.trace.reads t.cause in
    let known : IsTrue old.ground_tells → IsTrue decisive → NothingPending old.told → IsTrue h.known = λ b d order. h.ran.trace.known_so ((b, owns_pending old.told order), d) in
    let quiet : Knows decisive old → said new.told ≡ said old.told ++ texts_in h.exchanges = λ b. t.same_said ∙ h.said (h.ran.trace.known_so b) in
    let bound : new.counts.bound ≡ binds old.dir (Some old.dir) old.counts.bound = ap (λ (n : Noted). n.bound) t.no_fault ∙ h.ran.trace.bound in
    record {
      taken = taken;
      exchanges = h.exchanges;
      first = first;
      goes_on = goes_on_gone old new spawned held spawns gone.counts gone.gone (goes_on_then old mid new h.ran.trace.goes_on t.goes_on);
      begins = end.begins;
      first_is = refl;
      replies = record {
        bytes = λ b. h.bytes b ∙ (ap (λ (u : Bytes). h.done ++ u) (t.front (told_before _ _ h.ran.trace.goes_on.source_tells b)) ∙ sym (append_assoc h.done t.rest new.left));
        begun = ([], whole, λ c. refl);
        short = h.short;
        some = λ damage. absurd (cc (damage_off s damage, end.whole));
        run = λ b. h.ran.trace.run (h.ran.trace.known_so b);
        watched = λ b start live. let is = h.ran.trace.known_so b in subst (λ (t : Slot). WatchedIn rule reply_text (is_unsaid s) (is_cut_short s) old.told new.told t first h.exchanges) (live_at rule decisive h.known h.exchanges h.first h.repository h.view h.slot old mid counts session h.ran is start live)
            (watched_all rule reply_text (is_unsaid s) (is_cut_short s) (off_short s end.whole) old.told new.told h.slot first h.exchanges session.store.held.collection session.store.held.slot session.store.held.unswept h.view
            (watched_still rule reply_text old.told mid.told new.told t.files.goes t.same_moment t.same_held h.slot first h.exchanges session.store.held.collection session.store.held.slot session.store.held.unswept h.view (h.watched is))
            (subst (HasLive session.store.held.slot) (sym t.same_held) (held_has session.store.held h.repository mid.told (h.ran.working is).holds)) new.told.moment (omega arith) (λ _. quiet b ∙ ap (λ (u : Bytes). said old.told ++ u) (texts_same h.exchanges))
            (λ held. some_still session.store.held.collection mid.told new.told t.same_lending (lent_in mid.told session.store.held h.repository (h.ran.working is).holds (after_all first h.exchanges) (sym h.ran.phase) held)));
        said_part = λ b. record { whole = h.exchanges; cut = []; part = []; unsaid = []; all = append_nil h.exchanges; one = omega arith; some = λ c _. absurd (cc (c, end.whole)); text = refl; said_is = quiet b ∙ sym (append_nil (said old.told ++ texts_in h.exchanges)); silent = λ cut_short. refl };
        said_all = λ b c. quiet b;
      };
      reopens = record {
        any_moment = λ b d r stands order. let is = known b d order in of_opened (IsBehindOpening s h.exchanges) (h.opened_at is) old new h.first h.exchanges (h.ran.trace.began (h.ran.trace.tells is)) r stands
            (let was = h.over is in let later = t.files.goes.later in omega (arith, was, later))
            (headline_later (h.opened_at is) old.told mid.told new.told first (map answer_of h.exchanges) (h.headline is order) t.files.goes t.same_moment)
            (slots_at rule decisive h.known h.exchanges h.first h.repository h.view h.slot old mid counts session h.ran is (h.opened_at is) (length h.exchanges) new.told (slots_later (h.opened_at is) h.slot (length h.exchanges) mid.told new.told t.files.goes t.same_moment (h.slots is order)));
        again = λ b d may. let is = known b d may.nothing_pending in record { repository = h.repository; stands = t.stands is; nothing_pending = t.nothing_pending (h.ran.nothing_pending is may.nothing_pending) };
        stands = λ b whole began. subst (λ (state : State). StandsFor new.told.held state.repository) (h.ran.now_at (h.ran.trace.known_so b)) (t.stands (h.ran.trace.known_so b));
        clear = λ b whole clear. let is = h.ran.trace.known_so b in cleared_same mid.told new.told session.store.held t.same_held t.same_lending (held_has session.store.held h.repository mid.told (h.ran.working is).holds) (h.ran.clear is clear);
        files = λ g. keeps_on old.told mid.told new.told (h.ran.trace.files (h.ran.trace.known_so g)) t.files;
        keeps = λ b all. reads_on old.told mid.told new.told (h.ran.trace.keeps (h.ran.trace.known_so b) all) t.keeps;
        leaves = λ b whole all. none_on old.told mid.told new.told (h.ran.leaves (h.ran.trace.known_so b) all) (none_read mid.told new.told t.keeps);
        lends = λ b. let is = h.ran.trace.known_so b in lends_at rule decisive h.known h.exchanges h.first h.repository h.view h.slot old mid counts session h.ran is new.told
            (λ n less. custody_on old.told mid.told new.told n (h.ran.trace.files is).goes t.keeps.goes (h.ran.lends is n less) (t.keeps.lending n));
      };
      notes = record {
        noted = λ l. t.same_turns ∙ h.ran.trace.noted (t.goes_on.log_tells l);
        follow = λ behind. (new.spawns, gone.gone, subst (λ (e : TurnCounts). Follow (turn_counts old.counts old.spawns) (turns_in h.exchanges) e) (h.ran.trace.counts_now ∙ ap₂ turn_counts (sym t.no_fault) (sym t.unasked.spawns)) h.ran.trace.follow);
        counted = end.counted;
        reads = end.reads;
        bound = inl bound;
        bound_first = λ some. bound;
      };
      children = record {
        happen = happen_all (is_cut_short s) (off_short s end.whole) h.exchanges h.ran.phases;
        spawned = λ b. (gone.ends, gone.few, told_gone old new spawned h.exchanges gone.ends (t.unasked.spawned ∙ h.ran.trace.spawned b) (gone.told (told_before _ _ (goes_on_then old mid new h.ran.trace.goes_on t.goes_on).spawner_tells b)));
        none_held = λ _. gone.none;
      };
      row = end.row;
      unopened = λ is none. let off : is_cut_off s ≡ true = ap is_cut_off is in absurd (cc (off, end.whole));
      unwritten = λ told damage few. absurd (cc (damage_off s damage, end.whole));
    }

-- the lines of what was taken, behind one more
module _ (rule : Rule) (decisive : Bool) (old mid new : Outside) (lines lines' : Lines) (counts : TurnCounts) (session : Session) (h : Served rule decisive old mid lines counts session) (x : Exchange) (t : Took mid new lines lines' x.line) where
  abbrev xs_more : List Exchange
  xs_more = h.exchanges ++ x ∷ []

  abbrev done_more : Bytes
  done_more = h.done ++ (x.line ++ line_feed ∷ [])

  then_lines : (tail : Bytes) → whole_lines (done_more ++ tail) ≡ lines_in xs_more ++ whole_lines tail
  then_lines tail = ap whole_lines (sym (regroup h.done x.line tail)) ∙ (h.lines_then (x.line ++ line_feed ∷ tail) ∙ (ap (λ u. lines_in h.exchanges ++ u) (whole_lines-line x.line tail t.no_line_feed) ∙ (sym (append_assoc (lines_in h.exchanges) (x.line ∷ []) (whole_lines tail)) ∙ ap (λ u. u ++ whole_lines tail) (sym (map-append (λ x. x.line) h.exchanges (x ∷ []))))))

  all_bytes : IsTrue old.source_tells → old.left ≡ (done_more ++ pending lines') ++ new.left
  all_bytes b = h.bytes b ∙ (ap (λ (u : Bytes). h.done ++ u) (t.front (told_before _ _ h.ran.trace.goes_on.source_tells b)) ∙ (regroup h.done x.line (pending lines' ++ new.left) ∙ sym (append_assoc done_more (pending lines') new.left)))

  all_short : All IsShort (lines_in xs_more)
  all_short = subst (All IsShort) (sym (map-append (λ x. x.line) h.exchanges (x ∷ []))) (All-append IsShort (lines_in h.exchanges) (x.line ∷ []) h.short (All-cons IsShort x.line [] t.short (All-nil IsShort)))

-- a fault cut the last command short
serves_cut : (rule : Rule) (decisive : Bool) (s : Status) (old mid new : Outside) (lines lines' : Lines) (counts counts' : TurnCounts) (session : Session) (h : Served rule decisive old mid lines counts session) → is_cut_off s ≡ true → ((xs : List Exchange) → Begins s old (opened h.first) xs)
    → CutOff rule s h.known mid new lines lines' counts counts' (state_in session h.repository h.view) → ((taken : Bytes) (last : Outside) → Row decisive s old last taken)
    → (spawned : spawn.Told) (held : Option ℕ) (spawns : SpawnCounts) → LetsGoAs new spawned held spawns → Serves rule decisive old (let_go_as new spawned held spawns) s
serves_cut rule decisive s old mid new lines lines' counts counts' session h cut opened_so u row spawned held spawns gone =
    let first = opened h.first in
    let x = u.exchange in
    let goes = u.begun in
    let xs = h.exchanges ++ x ∷ [] in
    let state = state_in session h.repository h.view in
    let trace = trace_more rule decisive h.known h.exchanges h.first old mid new counts counts' state x h.ran.trace h.no_fault h.ran.now_at goes in
    let known : IsTrue old.ground_tells → IsTrue decisive → NothingPending old.told → IsTrue h.known = λ b d order. h.ran.trace.known_so ((b, owns_pending old.told order), d) in
    let taken = done_more rule decisive old mid new lines lines' counts session h x u.took ++ pending lines' in
    record {
      taken = taken;
      exchanges = xs;
      first = first;
      goes_on = goes_on_gone old new spawned held spawns gone.counts gone.gone trace.goes_on;
      begins = opened_so xs;
      first_is = refl;
      replies = record {
        bytes = all_bytes rule decisive old mid new lines lines' counts session h x u.took;
        begun = (whole_lines (pending lines'), then_lines rule decisive old mid new lines lines' counts session h x u.took (pending lines'), λ c. absurd (cc (c, cut)));
        short = all_short rule decisive old mid new lines lines' counts session h x u.took;
        some = λ damage none. absurd (not_none h.exchanges x none);
        run = λ b. trace.run (h.ran.trace.known_so b);
        watched = λ b start live. let is = h.ran.trace.known_so b in subst (λ (t : Slot). WatchedIn rule reply_text (is_unsaid s) (is_cut_short s) old.told new.told t first xs) (live_at rule decisive h.known h.exchanges h.first h.repository h.view h.slot old mid counts session h.ran is start live)
            (watched_cut rule reply_text (is_unsaid s) (is_cut_short s) u.short old.told mid.told new.told (goes.files is).goes h.slot first h.exchanges x session.store.held h.repository h.view (h.watched is) (h.said is ∙ ap (λ (u : Bytes). said old.told ++ u) (texts_same h.exchanges)) (h.ran.working is).holds (sym h.ran.phase)
            (λ order. u.settles is (h.ran.nothing_pending is order)) (λ order. u.slots is (h.ran.nothing_pending is order)) (λ order none slot live. u.space is (h.ran.nothing_pending is order) none slot live));
        said_part = λ b. let is = h.ran.trace.known_so b in record { whole = h.exchanges; cut = x ∷ []; part = []; unsaid = reply_text x.reply; all = refl; one = omega arith; some = λ _ _ none. absurd (cc none); text = sym (append_nil (reply_text x.reply)); said_is = said_now mid.told new.told (goes.files is).goes (u.quiet is) ∙ (h.said is ∙ sym (append_nil (said old.told ++ texts_in h.exchanges))); silent = λ _. refl };
        said_all = λ b c. absurd (cc (c, cut));
      };
      reopens = record {
        any_moment = λ b d r stands order. let is = known b d order in of_opened (IsBehindOpening s xs) (h.opened_at is) old new h.first xs (h.ran.trace.began (h.ran.trace.tells is)) r stands
            (let was = h.over is in let later = (goes.files is).goes.later in omega (arith, was, later))
            (headline_turn (h.opened_at is) old.told mid.told new.told first h.exchanges x (h.headline is order) (goes.files is).goes (h.over is) (h.said is)
            h.repository x.after.repository (ap (λ (state : State). state.repository) (h.ran.now_at is)) refl (turns_quietly mid.told new.told _ h.repository x.after.repository (u.quiet is) (u.atomic is (h.ran.nothing_pending is order))))
            (slots_at rule decisive h.known h.exchanges h.first h.repository h.view h.slot old mid counts session h.ran is (h.opened_at is) (length xs) new.told
            (slots_run rule decisive h.known h.exchanges h.first h.repository h.view h.slot old mid new counts counts' session x h.ran goes is (h.opened_at is) (h.over is) (h.slots is order) (u.slots is (h.ran.nothing_pending is order))));
        again = λ b d may. let is = known b d may.nothing_pending in u.again is (h.ran.nothing_pending is may.nothing_pending);
        stands = λ b whole began. absurd (cc (whole, u.short));
        clear = λ b whole. absurd (cc (whole, u.short));
        files = λ g. trace.files (h.ran.trace.known_so g);
        keeps = λ b. trace.keeps (h.ran.trace.known_so b);
        leaves = λ b whole. absurd (cc (whole, u.short));
        lends = λ b. let is = h.ran.trace.known_so b in lends_at rule decisive h.known h.exchanges h.first h.repository h.view h.slot old mid counts session h.ran is new.told
            (lends_more rule decisive h.known h.exchanges h.first h.repository h.view h.slot old mid new counts counts' session x h.ran goes is);
      };
      notes = notes_of rule decisive h.known xs h.first s old new counts' trace (serving_on s old.counts mid.counts new.counts h.no_fault u.counted) spawned held spawns gone;
      children = subst (λ (cut_short : Bool). AsksChildren cut_short old (let_go_as new spawned held spawns) xs) (sym u.short)
          (asks_of rule decisive h.known xs h.first true old new counts' trace (happen_cut h.first h.exchanges x h.ran.phases (subst (λ (phase : Phase). HappensCut phase x) h.ran.phase u.happens)) spawned held spawns gone);
      row = row taken (let_go_as new spawned held spawns);
      unopened = λ is none. absurd (not_none h.exchanges x none);
      unwritten = λ told damage few. none_on old.told mid.told new.told (h.ran.unwritten told (only_one h.exchanges x few)) (u.unwritten (told_before _ _ h.ran.trace.goes_on.ground_tells told) damage);
    }

-- its reply could not be said, or not all of it
serves_half : (rule : Rule) (decisive : Bool) (old mid new : Outside) (lines lines' : Lines) (counts counts' : TurnCounts) (session session' : Session) (h : Served rule decisive old mid lines counts session) → HalfSaid rule h.known mid new lines lines' counts counts' session session' h.repository h.view
    → (spawned : spawn.Told) (held : Option ℕ) (spawns : SpawnCounts) → LetsGoAs new spawned held spawns → Serves rule decisive old (let_go_as new spawned held spawns) status.SayFault
serves_half rule decisive old mid new lines lines' counts counts' session session' h u spawned held spawns gone =
    let first = opened h.first in
    let x = u.exchange in
    let goes = u.exchanged.begun in
    let xs = h.exchanges ++ x ∷ [] in
    let ran = ran_more rule decisive h.known h.exchanges h.first h.repository h.view h.slot old mid new counts counts' session session' x u.after u.view h.ran h.no_fault u.exchanged in
    let known : IsTrue old.ground_tells → IsTrue decisive → NothingPending old.told → IsTrue h.known = λ b d order. h.ran.trace.known_so ((b, owns_pending old.told order), d) in
    record {
      taken = done_more rule decisive old mid new lines lines' counts session h x u.took ++ pending lines';
      exchanges = xs;
      first = first;
      goes_on = goes_on_gone old new spawned held spawns gone.counts gone.gone ran.trace.goes_on;
      begins = λ b. h.ran.trace.began b;
      first_is = refl;
      replies = record {
        bytes = all_bytes rule decisive old mid new lines lines' counts session h x u.took;
        begun = (whole_lines (pending lines'), then_lines rule decisive old mid new lines lines' counts session h x u.took (pending lines'), λ c. absurd (cc c));
        short = all_short rule decisive old mid new lines lines' counts session h x u.took;
        some = λ damage. absurd damage;
        run = λ b. ran.trace.run (h.ran.trace.known_so b);
        watched = λ b start live. let is = h.ran.trace.known_so b in let w = u.exchanged.watches is in subst (λ (t : Slot). WatchedIn rule reply_text true false old.told new.told t first xs) (live_at rule decisive h.known h.exchanges h.first h.repository h.view h.slot old mid counts session h.ran is start live)
            (watched_all rule reply_text true false refl old.told new.told h.slot first xs session'.store.held.collection session'.store.held.slot session'.store.held.unswept u.view (watched_line rule decisive old mid new lines counts counts' session session' h x u.after u.view u.exchanged is)
            (held_has session'.store.held u.after new.told (u.exchanged.working is).holds) w.answered w.by_now (λ no. absurd (cc no)) (λ held. w.lent_behind (subst IsHeldIn (after_more first h.exchanges x) held)));
        said_part = λ b. let is = h.ran.trace.known_so b in let p = u.part is in record { whole = h.exchanges; cut = x ∷ []; part = p.0; unsaid = p.1; all = refl; one = omega arith; some = λ _ _ none. absurd (cc none); text = p.2 ∙ sym (append_nil (reply_text x.reply)); said_is = p.3 ∙ ap (λ (v : Bytes). v ++ p.0) (h.said is); silent = λ short. absurd (cc short) };
        said_all = λ b c. absurd (cc c);
      };
      reopens = record {
        any_moment = λ b d r stands order. let is = known b d order in of_opened (IsBehindOpening status.SayFault xs) (h.opened_at is) old new h.first xs (h.ran.trace.began (h.ran.trace.tells is)) r stands
            (let was = h.over is in let later = (goes.files is).goes.later in omega (arith, was, later))
            (headline_turn (h.opened_at is) old.told mid.told new.told first h.exchanges x (h.headline is order) (goes.files is).goes (h.over is) (h.said is)
            h.repository u.after (ap (λ (state : State). state.repository) (h.ran.now_at is)) (ap (λ (state : State). state.repository) (sym (u.exchanged.now_at is))) (u.turning is (h.ran.nothing_pending is order)))
            (slots_at rule decisive h.known h.exchanges h.first h.repository h.view h.slot old mid counts session h.ran is (h.opened_at is) (length xs) new.told
            (slots_run rule decisive h.known h.exchanges h.first h.repository h.view h.slot old mid new counts counts' session x h.ran goes is (h.opened_at is) (h.over is) (h.slots is order) ((u.exchanged.watches is).slots (h.ran.nothing_pending is order))));
        again = λ b d may. let is = known b d may.nothing_pending in record { repository = u.after; stands = (u.exchanged.working is).holds.stands; nothing_pending = ran.nothing_pending is may.nothing_pending };
        stands = λ b whole began. let is = h.ran.trace.known_so b in subst (λ (state : State). StandsFor new.told.held state.repository) (ran.now_at is) (u.exchanged.working is).holds.stands;
        clear = λ b whole clear. let is = h.ran.trace.known_so b in cleared_at new.told session'.store.held (held_has session'.store.held u.after new.told (u.exchanged.working is).holds) (ran.clear is clear);
        files = λ g. ran.trace.files (h.ran.trace.known_so g);
        keeps = λ b. ran.trace.keeps (h.ran.trace.known_so b);
        leaves = λ b whole. ran.leaves (h.ran.trace.known_so b);
        lends = λ b. let is = h.ran.trace.known_so b in lends_at rule decisive h.known h.exchanges h.first h.repository h.view h.slot old mid counts session h.ran is new.told (ran.lends is);
      };
      notes = notes_of rule decisive h.known xs h.first status.SayFault old new counts' ran.trace (serving_on status.SayFault old.counts mid.counts new.counts h.no_fault u.counted) spawned held spawns gone;
      children = asks_of rule decisive h.known xs h.first false old new counts' ran.trace (happen_all false refl xs ran.phases) spawned held spawns gone;
      row = tt;
      unopened = λ is. absurd (cc is);
      unwritten = λ told damage. absurd damage;
    }

-- how a run ends
pub serves_stop : (rule : Rule) (decisive : Bool) → (IsTrue decisive → IsDecisive rule) → (s : Status) (old mid new : Outside) (lines lines' : Lines) (counts counts' : TurnCounts) (session session' : Session) (h : Served rule decisive old mid lines counts session) → Stops rule s h.known mid new lines lines' counts counts' session session' h.repository h.view
    → (spawned : spawn.Told) (held : Option ℕ) (spawns : SpawnCounts) → LetsGoAs new spawned held spawns → Serves rule decisive old (let_go_as new spawned held spawns) s
serves_stop rule decisive by_rule status.SayFault old mid new lines lines' counts counts' session session' h u = serves_half rule decisive old mid new lines lines' counts counts' session session' h u
serves_stop rule decisive by_rule status.GroundFault old mid new lines lines' counts counts' session session' h u = serves_cut rule decisive status.GroundFault old mid new lines lines' counts counts' session h refl (λ xs. inr h.ran.trace.began) u (λ taken last. tt)
serves_stop rule decisive by_rule (status.DamagedRecord at) old mid new lines lines' counts counts' session session' h u = serves_cut rule decisive (status.DamagedRecord at) old mid new lines lines' counts counts' session h refl (λ xs b. h.ran.trace.began b) u.0 (λ taken last b. u.1 (h.ran.trace.known_so b))
serves_stop rule decisive by_rule (status.DamagedName at want got) old mid new lines lines' counts counts' session session' h u = serves_cut rule decisive (status.DamagedName at want got) old mid new lines lines' counts counts' session h refl (λ xs b. h.ran.trace.began b) u.0 (λ taken last. ((λ b. u.1 (h.ran.trace.known_so b)), λ sure. u.2 (by_rule sure)))
serves_stop rule decisive by_rule status.Done old mid new lines lines' counts counts' session session' h u = serves_stopped rule decisive status.Done old mid new lines lines' counts counts' session h u
serves_stop rule decisive by_rule status.Unfinished old mid new lines lines' counts counts' session session' h u = serves_stopped rule decisive status.Unfinished old mid new lines lines' counts counts' session h u
serves_stop rule decisive by_rule (status.Limit l) old mid new lines lines' counts counts' session session' h u = serves_stopped rule decisive (status.Limit l) old mid new lines lines' counts counts' session h u
serves_stop rule decisive by_rule status.ReadFault old mid new lines lines' counts counts' session session' h u = serves_stopped rule decisive status.ReadFault old mid new lines lines' counts counts' session h u
serves_stop rule decisive by_rule status.Usage old mid new lines lines' counts counts' session session' h u = serves_stopped rule decisive status.Usage old mid new lines lines' counts counts' session h u
serves_stop rule decisive by_rule status.NoStore old mid new lines lines' counts counts' session session' h u = serves_stopped rule decisive status.NoStore old mid new lines lines' counts counts' session h u
serves_stop rule decisive by_rule (status.Damaged file at) old mid new lines lines' counts counts' session session' h u = serves_stopped rule decisive (status.Damaged file at) old mid new lines lines' counts counts' session h u
serves_stop rule decisive by_rule status.DamagedJob old mid new lines lines' counts counts' session session' h u = serves_stopped rule decisive status.DamagedJob old mid new lines lines' counts counts' session h u
serves_stop rule decisive by_rule status.Memory old mid new lines lines' counts counts' session session' h u = serves_stopped rule decisive status.Memory old mid new lines lines' counts counts' session h u
serves_stop rule decisive by_rule status.Exists old mid new lines lines' counts counts' session session' h u = serves_stopped rule decisive status.Exists old mid new lines lines' counts counts' session h u

-- ---- the store that is opened

pub stands_open : (image : Image) (r : Repository) → StandsFor image r → NoStore image → ⊥
stands_open image r stands none =
    let s = stands.standing in
    let is_none : live_index s.control ≡ None = subst (λ (content : Content). IfSome content (λ control. live_index control ≡ None)) s.held none in
    let is : live_index s.control ≡ Some s.index = s.live.index in
    absurd (cc (is_none, is))

-- its row, or what was counted, excludes each status but those of its script
pub ends_by_script : (decisive : Bool) → IsTrue decisive → (s : Status) (old new : Outside) (taken : Bytes) → Row decisive s old new taken → CountsServing s old.counts new.counts → EndsWhereAllIsWell old new s
ends_by_script decisive sure status.Done old new taken r n told stands calm = tt
ends_by_script decisive sure status.Unfinished old new taken r n told stands calm = tt
ends_by_script decisive sure (status.Limit b) old new taken r n told stands calm = tt
ends_by_script decisive sure status.Memory old new taken r n told stands calm = tt
ends_by_script decisive sure status.DamagedJob old new taken r n told stands calm = r
ends_by_script decisive sure status.Usage old new taken r n told stands calm = r
ends_by_script decisive sure status.Exists old new taken r n told stands calm = r
ends_by_script decisive sure status.NoStore old new taken r n told stands calm = absurd (stands_open old.told.held stands.0 stands.1 (r.1 told.0))
ends_by_script decisive sure (status.Damaged file at) old new taken r n told stands calm = absurd (not_damaged old.told.held stands.1.standing file at (r.1 told))
ends_by_script decisive sure (status.DamagedRecord at) old new taken r n told stands calm = absurd (r (told, sure))
ends_by_script decisive sure (status.DamagedName at want got) old new taken r n told stands calm = absurd (r.0 (told, sure))
ends_by_script decisive sure status.ReadFault old new taken r n told stands calm = absurd (calm.read r.1)
ends_by_script decisive sure status.SayFault old new taken r n told stands calm = absurd (calm.say n.rose)
ends_by_script decisive sure status.GroundFault old new taken r n told stands calm = absurd (calm.file n.rose)
