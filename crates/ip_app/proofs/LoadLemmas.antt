-- A load that goes on by a line, and how it ends.
--     loaded_first      no line was run.      loaded_more      one more
--     script_here, script_end      which line comes next
--     loads_unopened      the store could not be opened, or memory was wanting.      loads_cut      a line was cut short.      loads_said      all were run, and the summary said, or a part of it
--     load_ends      which statuses need a fault
use Rattle.std.specs.Prelude.{◌≢◌}
use Rattle.std.proofs.Common.{true, false, ◌≡◌, inl, inr, ℕ, suc, ◌+◌, ◌-◌, ◌<◌, ◌≤◌, Bool, List, [], ◌∷◌, ◌++◌, length, map, take, drop, codes, refl, sym, ap, ap₂, ◌∙◌, subst, arith, append_assoc, IsTrue, Option, None}
use Rattle.std.proofs.lemmas.List.{map-append}
use Rattle.ip_ground.specs.declared.names.FileName.TheVariants.{Control}
use Rattle.ip_spawn.specs.Children as spawn
use Rattle.ip_spawn.specs.declared.spawner.SpawnCounts.{SpawnCounts}
use Rattle.ip_ground.specs.Counts.{as_nothing}
use Rattle.ip_ground.specs.Told.{said, SyncsOnly, Only}
use Rattle.ip_ground.proofs.Spans.{said_now}
use Rattle.ip_image.specs.declared.counts.TurnCounts.{TurnCounts}
use Rattle.ip_image.specs.Standing.{StandsFor}
use Rattle.ip_image.specs.Pending.{HasLive, NothingPending}
use Rattle.ip_image.proofs.DamageLaws.{not_damaged}
use Rattle.ip_image.proofs.OneRepository.{one_repository}
use Rattle.ip_spec.specs.Path.{Bytes}
use Rattle.ip_spec.specs.Merge.{Rule}
use Rattle.ip_spec.specs.Load.{load_line, lines_from}
use Rattle.ip_spec.specs.Load.{summary as summary_of}
use Rattle.ip_spec.specs.View.{View, no_view}
use Rattle.ip_image.specs.declared.slot.Slot.{Slot}
use Rattle.ip_spec.specs.Repository.{Repository, no_repository}
use Rattle.ip_spec.specs.Machine.{State, Phase, opened}
use Rattle.ip_spec.specs.Text.{reply_text}
use Rattle.ip_spec.specs.declared.reply.Reply.{Reply}
use Rattle.ip_merge.specs.Rules.{IsDecisive}
use Rattle.ip_held.specs.Clear.{IsCleared, IsClearAt, unswept_in}
use Rattle.ip_opens.specs.Opening.{RecoversOnceOpen}
use Rattle.ip_held.proofs.Recovering.{held_has}
use Rattle.ip_session.specs.declared.session.Session.{Session}
use Rattle.ip_session.specs.Session.{IsServing, IsWorking, state_in}
use Rattle.ip_summary.specs.declared.summary.Summary.{Summary}
use Rattle.ip_summary.specs.Tally.{Tallies}
use Rattle.ip_app.specs.declared.statuses.Status.{Status}
use Rattle.ip_app.specs.declared.statuses.Status.TheVariants as status
use Rattle.ip_app.specs.Exchanges.{Exchange, answer_of, lines_in, texts_in}
use Rattle.ip_app.specs.Exchanging.{is_cut_short, CountsServing, Exchanged, Replied, CutShort, CutsShort}
use Rattle.ip_app.specs.Loading.{load_script, replies_in, load_text, LoadHeadline, LoadRow, Loads, LoadsWhereAllIsWell}
use Rattle.ip_app.specs.Loaded.{Loaded, Summed, FinishesLoad}
use Rattle.ip_app.specs.Files.{SlotsSince}
use Rattle.ip_app.specs.Outside.{Outside, Tells, Knows, GoesOn, IsBound, IsUnasked}
use Rattle.ip_app.specs.Happening.{HappensCut}
use Rattle.ip_app.specs.Judged.{IsHeldIn, Watches, IsWatchedTo, WatchedIn, texts_by, says_nothing}
use Rattle.ip_app.specs.Turns.{turn_counts}
use Rattle.ip_app.specs.Run.{CouldNotOpen, IsUntouched, Begins, IsBehindOpening, AsksChildren}
use Rattle.ip_app.specs.Serving.{CountsOf}
use Rattle.ip_app.proofs.Cleared.{clear_synced, cleared_at}
use Rattle.ip_app.proofs.Counting.{removals_bound, removals_on, serving_of, serving_on, bound_to, bound_counts, cut_counts, IsNoDamage, no_damage}
use Rattle.ip_app.proofs.Judging.{none_said, watched_none, watched_unbegun, watched_next, watched_cut, watched_all}
use Rattle.ip_app.proofs.Unwritten.{none_on, none_synced, not_none, only_one, damage_short}
use Rattle.ip_app.proofs.LivePair.{live_on, owns_pending}
use Rattle.ip_app.proofs.Moments.{headline_none}
use Rattle.ip_app.proofs.LoadMoments.{quiet_first, quiet_more, headline_quiet, headline_said}
use Rattle.ip_app.proofs.LineFiles.{reads_synced, slots_first}
use Rattle.ip_app.proofs.RanOn.{lends_more, lends_at, slots_at, slots_run, append_nil, after_more, ran_more, ran_first, trace_more, told_before, let_go_as, LetsGoAs, goes_on_gone, notes_of, asks_of, notes_none, asks_none, happen_all, happen_cut, live_at, keeps_unchanged}
use Rattle.ip_app.proofs.RunLemmas.{stands_open}
use Rattle.ip_app.proofs.SameFiles.{stands_after}

take_front : (xs ys : List Exchange) → take (length xs) (xs ++ ys) ≡ xs
take_front [] ys = refl
take_front (x ∷ xs) ys = ap (λ (zs : List Exchange). x ∷ zs) (take_front xs ys)

drop_front : (xs ys : List Exchange) → drop (length xs) (xs ++ ys) ≡ ys
drop_front [] ys = refl
drop_front (x ∷ xs) ys = drop_front xs ys

-- ---- line by line

pub loaded_first : (rule : Rule) (decisive : Bool) → (IsTrue decisive → IsDecisive rule) → (seed : ℕ) (old now : Outside) (counts : TurnCounts) (s : Session) (summary : Summary) (r : Repository) (v : View) → v ≡ no_view → s.store.held.unswept ≡ unswept_in s.store.held.slot → (known : (b : Bool) × (Knows decisive old → IsTrue b) × (IsTrue b → Knows decisive old)) → IsServing s → state_in s r v ≡ opened r
    → (Tells old → IsWorking now.told s r v) → (Tells old → IsClearAt old.told → IsCleared s.store.held now.told) → (Tells old → StandsFor old.told.held r) → (opening : IsTrue old.ground_tells → RecoversOnceOpen old.told now.told) → ((tells : Tells old) → (opening tells.0).since ≤ now.told.moment)
    → counts ≡ turn_counts old.counts old.spawns → now.counts ≡ bound_to old.dir old.counts → IsUnasked old now → s.store.held.collection ≡ None → old.held ≡ None → now.read_faults ≡ old.read_faults → GoesOn old now → (IsTrue old.ground_tells → SyncsOnly (Only Control) old.told now.told) → now.turns ≡ old.turns → now.left ≡ old.left → Tallies summary []
    → Loaded rule decisive seed seed 0 old now counts s summary
loaded_first rule decisive by_rule seed old now counts s summary r v none_known carried known serving begun working cleared began opening over counted no_fault unasked idle alone reads g f turns left tallies = record {
  known = known.0;
  exchanges = [];
  first = r;
  repository = r;
  view = v;
  slot = s.store.held.slot;
  ran = ran_first rule decisive by_rule old now counts s r v known serving begun working cleared began opening counted no_fault unasked idle alone reads g f turns;
  watched = λ is. watched_none rule says_nothing old.told now.told (f (known.2 is).0.0) s.store.held.slot (opened r) s.store.held.collection idle refl s.store.held.unswept carried v none_known;
  no_fault = removals_bound old.counts now.counts (bound_counts old.dir old.counts now.counts as_nothing no_fault);
  lines_then = λ more. let n : 0 + more ≡ more = omega arith in ap (lines_from seed 1) n;
  count = refl;
  tallies = tallies;
  left = left;
  said = λ is. let only = f (known.2 is).0.0 in said_now old.told now.told only.changes.goes only.changes.said;
  opened_at = λ is. (opening (known.2 is).0.0).since;
  over = λ is. over (known.2 is).0;
  quiet = λ is order. let told = (known.2 is).0.0 in quiet_first _ old.told now.told (opened r) (headline_none old.told now.told (f told) (opening told) r (began (known.2 is).0) order);
  slots = λ is order. let told = (known.2 is).0.0 in slots_first old.told now.told (opening told) s.store.held.slot (held_has s.store.held r now.told (working (known.2 is).0).holds);
}

module _ (rule : Rule) (decisive : Bool) (seed state number : ℕ) (old mid : Outside) (counts : TurnCounts) (s : Session) (summary : Summary) (h : Loaded rule decisive seed state number old mid counts s summary) where
  lines_more : (line : Bytes) (x : Exchange) → x.line ≡ line → (load_line state (number + 1)).0 ≡ line → (more : ℕ) → lines_from seed 1 ((number + 1) + more) ≡ lines_in (h.exchanges ++ x ∷ []) ++ lines_from (load_line state (number + 1)).1 ((number + 1) + 1) more
  lines_more line x same is more =
      let n : (number + 1) + more ≡ number + suc more = omega arith in
      let next : suc (number + 1) ≡ (number + 1) + 1 = omega arith in
      let rest : List Bytes = lines_from (load_line state (number + 1)).1 (suc (number + 1)) more in
      let front : lines_in (h.exchanges ++ x ∷ []) ≡ lines_in h.exchanges ++ (load_line state (number + 1)).0 ∷ [] = map-append (λ x. x.line) h.exchanges (x ∷ []) ∙ ap (λ (l : Bytes). lines_in h.exchanges ++ l ∷ []) (same ∙ sym is) in
      ap (lines_from seed 1) n ∙ (h.lines_then (suc more) ∙ (sym (append_assoc (lines_in h.exchanges) ((load_line state (number + 1)).0 ∷ []) rest) ∙ (ap (λ (f : List Bytes). f ++ rest) (sym front) ∙ ap (λ (k : ℕ). lines_in (h.exchanges ++ x ∷ []) ++ lines_from (load_line state (number + 1)).1 k more) next)))

  -- nothing was said so far
  silent : IsTrue h.known → said mid.told ≡ said old.told ++ texts_by says_nothing h.exchanges
  silent is = h.said is ∙ (sym (append_nil (said old.told)) ∙ ap (λ (t : Bytes). said old.told ++ t) (sym (none_said h.exchanges)))

  watched_on : (new : Outside) (counts' : TurnCounts) (s' : Session) (after : Repository) (view : View) (x : Exchange) → Exchanged rule h.known mid new counts counts' s s' h.repository h.view x after view → IsTrue h.known → IsWatchedTo rule says_nothing old.told new.told h.slot (opened h.first) (h.exchanges ++ x ∷ []) s'.store.held.collection s'.store.held.slot s'.store.held.unswept view
  watched_on new counts' s' after view x t is = watched_next rule says_nothing old.told mid.told new.told (h.ran.trace.files is).goes (t.begun.files is).goes h.slot (opened h.first) h.exchanges h.view view s.store.held.collection s'.store.held.collection s.store.held.slot s'.store.held.slot s.store.held.unswept s'.store.held.unswept x (h.watched is) (silent is) (h.ran.nothing_pending is) (after_more (opened h.first) h.exchanges x) t.goes_on_by (h.ran.clear is)
      (subst (λ (state : State). Watches rule mid.told new.told state h.view view s.store.held.collection s'.store.held.collection s.store.held.slot s'.store.held.slot s.store.held.unswept s'.store.held.unswept x) (h.ran.now_at is) (t.watches is))

  pub loaded_more : (new : Outside) (text : Bytes) (counts' : TurnCounts) (s' : Session) (summary' : Summary) (state' : ℕ) → (t : Replied rule h.known mid new (load_line state (number + 1)).0 text counts counts' s s' h.repository h.view) → new.left ≡ mid.left → state' ≡ (load_line state (number + 1)).1
      → ((reply : Reply) → text ≡ reply_text reply → Tallies summary' (replies_in h.exchanges ++ reply ∷ [])) → Loaded rule decisive seed state' (number + 1) old new counts' s' summary'
  loaded_more new text counts' s' summary' state' t left next tallies =
      let x = t.exchange in
      let goes = t.exchanged.begun in
      subst (λ (k : ℕ). Loaded rule decisive seed k (number + 1) old new counts' s' summary') (sym next) (record {
        known = h.known;
        exchanges = h.exchanges ++ x ∷ [];
        first = h.first;
        repository = t.after;
        view = t.view;
        slot = h.slot;
        ran = ran_more rule decisive h.known h.exchanges h.first h.repository h.view h.slot old mid new counts counts' s s' x t.after t.view h.ran h.no_fault t.exchanged;
        watched = λ is. watched_on new counts' s' t.after t.view x t.exchanged is;
        no_fault = removals_on old.counts mid.counts new.counts h.no_fault t.no_fault;
        lines_then = lines_more (load_line state (number + 1)).0 x t.line_is refl;
        count = one_longer h.exchanges x ∙ ap (λ (n : ℕ). n + 1) h.count;
        tallies = subst (λ (replies : List Reply). Tallies summary' replies) (sym (map-append (λ x. x.reply) h.exchanges (x ∷ []))) (tallies x.reply t.text_is);
        left = left ∙ h.left;
        said = λ is. said_now mid.told new.told (goes.files is).goes (t.quiet is) ∙ h.said is;
        opened_at = h.opened_at;
        over = λ is. let was = h.over is in let later = (goes.files is).goes.later in omega (arith, was, later);
        quiet = λ is order. quiet_more (h.opened_at is) old.told mid.told new.told (opened h.first) h.exchanges x (h.quiet is order) (goes.files is).goes (h.over is) (h.said is) h.repository (ap (λ (state : State). state.repository) (h.ran.now_at is))
            t.after (ap (λ (state : State). state.repository) (sym (t.exchanged.now_at is))) (t.quiet is) (t.atomic is (h.ran.nothing_pending is order));
        slots = λ is order. slots_run rule decisive h.known h.exchanges h.first h.repository h.view h.slot old mid new counts counts' s x h.ran goes is (h.opened_at is) (h.over is) (h.slots is order) ((t.exchanged.watches is).slots (h.ran.nothing_pending is order));
      })
    where
      one_longer : (xs : List Exchange) (x : Exchange) → length (xs ++ x ∷ []) ≡ length xs + 1
      one_longer [] x = refl
      one_longer (y ∷ xs) x = let e = one_longer xs x in omega (arith, e)

  -- ---- which line comes next

  pub script_here : (count : ℕ) → number < count → (rest : List Bytes) × (load_script seed count ≡ lines_in h.exchanges ++ (load_line state (number + 1)).0 ∷ rest)
  script_here count l =
      let more : ℕ = count - (number + 1) in
      let n : count ≡ number + suc more = omega (arith, l) in
      let tail = lines_from (load_line state (number + 1)).1 (suc (number + 1)) more in
      (tail ++ codes "stat" ∷ [], ap (λ (k : ℕ). lines_from seed 1 k ++ codes "stat" ∷ []) n ∙ (ap (λ (ls : List Bytes). ls ++ codes "stat" ∷ []) (h.lines_then (suc more)) ∙ append_assoc (lines_in h.exchanges) ((load_line state (number + 1)).0 ∷ tail) (codes "stat" ∷ [])))

  pub script_end : (count : ℕ) → number ≡ count → load_script seed count ≡ lines_in h.exchanges ++ codes "stat" ∷ []
  script_end count e =
      let n : count ≡ number + 0 = omega (arith, e) in
      ap (λ (k : ℕ). lines_from seed 1 k ++ codes "stat" ∷ []) n ∙ ap (λ (ls : List Bytes). ls ++ codes "stat" ∷ []) (h.lines_then 0 ∙ append_nil (lines_in h.exchanges))

  -- the files stood for one repository at most when the run began
  of_opened : (behind : Type 0) (since : ℕ) (last : Outside) (xs : List Exchange) (text : Bytes) → StandsFor old.told.held h.first → (r : Repository) → StandsFor old.told.held r → since ≤ last.told.moment → LoadHeadline since old.told last.told (opened h.first) (map answer_of xs) text → ((slot : Slot) → HasLive slot old.told.held → SlotsSince since slot (length xs) last.told)
      → (since : ℕ) × (behind → since ≤ last.told.moment) × LoadHeadline since old.told last.told (opened r) (map answer_of xs) text × ((slot : Slot) → HasLive slot old.told.held → SlotsSince since slot (length xs) last.told)
  of_opened behind since last xs text began r stands reached run slots = (since, λ b. reached, subst (λ (q : Repository). LoadHeadline since old.told last.told (opened q) (map answer_of xs) text) (one_repository old.told.held h.first r began stands) run, slots)

  known_so : IsTrue old.ground_tells → IsTrue decisive → NothingPending old.told → IsTrue h.known
  known_so b d order = h.ran.trace.known_so ((b, owns_pending old.told order), d)

  -- ---- a line was cut short

  cut_by : (count : ℕ) (s' : Status) (new : Outside) (line : Bytes) (counts' : TurnCounts) → is_cut_short s' ≡ true → ((xs : List Exchange) → Begins s' old (opened h.first) xs) → ((spawned : spawn.Told) (held : Option ℕ) (spawns : SpawnCounts) → LoadRow decisive s' old (let_go_as new spawned held spawns)) → (s' ≢ status.Done) × (s' ≢ status.SayFault)
      → (u : CutShort rule s' h.known mid new line counts counts' (state_in s h.repository h.view)) → new.left ≡ mid.left → (rest : List Bytes) → load_script seed count ≡ lines_in h.exchanges ++ line ∷ rest
      → (spawned : spawn.Told) (held : Option ℕ) (spawns : SpawnCounts) → LetsGoAs new spawned held spawns → Loads rule decisive seed count old (let_go_as new spawned held spawns) s'
  cut_by count s' new line counts' cut begins row others u left rest script spawned held spawns gone =
      let first = opened h.first in
      let x = u.exchange in
      let xs = h.exchanges ++ x ∷ [] in
      let trace = trace_more rule decisive h.known h.exchanges h.first old mid new counts counts' (state_in s h.repository h.view) x h.ran.trace h.no_fault h.ran.now_at u.begun in
      record {
        exchanges = xs;
        first = first;
        run = record {
          goes_on = goes_on_gone old new spawned held spawns gone.counts gone.gone trace.goes_on;
          left = left ∙ h.left;
          begins = begins xs;
          first_is = refl;
          replies = record {
            some = λ damage none. absurd (not_none h.exchanges x none);
            begun = (rest, script ∙ (sym (append_assoc (lines_in h.exchanges) (line ∷ []) rest) ∙ ap (λ (front : List Bytes). front ++ rest) (ap (λ (l : Bytes). lines_in h.exchanges ++ l ∷ []) (sym u.line_is) ∙ sym (map-append (λ x. x.line) h.exchanges (x ∷ [])))), λ behind whole. absurd (cc (cut, whole)));
            run = λ b. trace.run (h.ran.trace.known_so b);
            watched = λ b start live. let is = h.ran.trace.known_so b in subst (λ (t : Slot). WatchedIn rule says_nothing false (is_cut_short s') old.told new.told t first xs) (live_at rule decisive h.known h.exchanges h.first h.repository h.view h.slot old mid counts s h.ran is start live)
                (watched_cut rule says_nothing false (is_cut_short s') cut old.told mid.told new.told (u.begun.files is).goes h.slot first h.exchanges x s.store.held h.repository h.view (h.watched is) (silent is) (h.ran.working is).holds (sym h.ran.phase)
                (λ order. u.settles is (h.ran.nothing_pending is order)) (λ order. u.slots is (h.ran.nothing_pending is order)) (λ order none slot live. u.space is (h.ran.nothing_pending is order) none slot live));
            said = λ b. let is = h.ran.trace.known_so b in record {
              part = [];
              rest = load_text count xs;
              text_is = refl;
              said_is = said_now mid.told new.told (u.begun.files is).goes (u.quiet is) ∙ (h.said is ∙ sym (append_nil (said old.told)));
              whole = λ done. absurd (others.0 done);
              none = λ _ _. refl;
            };
          };
          reopens = record {
            any_moment = λ b d r stands order. let is = known_so b d order in of_opened (IsBehindOpening s' xs) (h.opened_at is) new xs (load_text count xs) (h.ran.trace.began (h.ran.trace.tells is)) r stands
                (let was = h.over is in let later = (u.begun.files is).goes.later in omega (arith, was, later))
                (headline_quiet (h.opened_at is) old.told new.told first (map answer_of xs) (load_text count xs) (quiet_more (h.opened_at is) old.told mid.told new.told first h.exchanges x (h.quiet is order) (u.begun.files is).goes (h.over is) (h.said is)
                h.repository (ap (λ (state : State). state.repository) (h.ran.now_at is)) x.after.repository refl (u.quiet is) (u.atomic is (h.ran.nothing_pending is order))))
                (slots_at rule decisive h.known h.exchanges h.first h.repository h.view h.slot old mid counts s h.ran is (h.opened_at is) (length xs) new.told
                (slots_run rule decisive h.known h.exchanges h.first h.repository h.view h.slot old mid new counts counts' s x h.ran u.begun is (h.opened_at is) (h.over is) (h.slots is order) (u.slots is (h.ran.nothing_pending is order))));
            again = λ b d may. let is = known_so b d may.nothing_pending in u.again is (h.ran.nothing_pending is may.nothing_pending);
            stands = λ b whole began. absurd (cc (cut, whole));
            clear = λ b whole. absurd (cc (cut, whole));
            files = λ b. trace.files (h.ran.trace.known_so b);
            keeps = λ b. trace.keeps (h.ran.trace.known_so b);
            leaves = λ b whole. absurd (cc (cut, whole));
            lends = λ b. let is = h.ran.trace.known_so b in lends_at rule decisive h.known h.exchanges h.first h.repository h.view h.slot old mid counts s h.ran is new.told
                (lends_more rule decisive h.known h.exchanges h.first h.repository h.view h.slot old mid new counts counts' s x h.ran u.begun is);
          };
          notes = notes_of rule decisive h.known xs h.first s' old new counts' trace (serving_on s' old.counts mid.counts new.counts h.no_fault (cut_counts s' mid.counts new.counts u.counted)) spawned held spawns gone;
          row = row spawned held spawns;
          unopened = λ is none. absurd (not_none h.exchanges x none);
          unwritten = λ told damage few. none_on old.told mid.told new.told (h.ran.unwritten told (only_one h.exchanges x few)) (u.unwritten (told_before _ _ h.ran.trace.goes_on.ground_tells told) damage);
        };
        children = subst (λ (cut_off : Bool). AsksChildren cut_off old (let_go_as new spawned held spawns) xs) (sym cut) (asks_of rule decisive h.known xs h.first true old new counts' trace (happen_cut h.first h.exchanges x h.ran.phases (subst (λ (phase : Phase). HappensCut phase x) h.ran.phase u.happens)) spawned held spawns gone);
      }

  pub loads_cut : (IsTrue decisive → IsDecisive rule) → (count : ℕ) (s' : Status) (new : Outside) (line : Bytes) (counts' : TurnCounts) → CutsShort rule s' h.known mid new line counts counts' (state_in s h.repository h.view) → new.left ≡ mid.left → (rest : List Bytes) → load_script seed count ≡ lines_in h.exchanges ++ line ∷ rest
      → (spawned : spawn.Told) (held : Option ℕ) (spawns : SpawnCounts) → LetsGoAs new spawned held spawns → Loads rule decisive seed count old (let_go_as new spawned held spawns) s'
  loads_cut by_rule count status.GroundFault new line counts' u = cut_by count status.GroundFault new line counts' refl (λ xs. inr h.ran.trace.began) (λ spawned held spawns. tt) ((λ e. absurd (cc e)), (λ e. absurd (cc e))) u
  loads_cut by_rule count (status.DamagedRecord at) new line counts' u = cut_by count (status.DamagedRecord at) new line counts' refl (λ xs. h.ran.trace.began) (λ spawned held spawns b. u.1 (h.ran.trace.known_so b)) ((λ e. absurd (cc e)), (λ e. absurd (cc e))) u.0
  loads_cut by_rule count (status.DamagedName at want got) new line counts' u = cut_by count (status.DamagedName at want got) new line counts' refl (λ xs. h.ran.trace.began) (λ spawned held spawns. ((λ b. u.1 (h.ran.trace.known_so b)), λ sure. u.2 (by_rule sure))) ((λ e. absurd (cc e)), (λ e. absurd (cc e))) u.0
  loads_cut by_rule count status.Done new line counts' u = absurd u
  loads_cut by_rule count status.Usage new line counts' u = absurd u
  loads_cut by_rule count status.NoStore new line counts' u = absurd u
  loads_cut by_rule count (status.Damaged file at) new line counts' u = absurd u
  loads_cut by_rule count status.DamagedJob new line counts' u = absurd u
  loads_cut by_rule count status.ReadFault new line counts' u = absurd u
  loads_cut by_rule count status.SayFault new line counts' u = absurd u
  loads_cut by_rule count status.Memory new line counts' u = absurd u
  loads_cut by_rule count (status.Limit bound) new line counts' u = absurd u
  loads_cut by_rule count status.Unfinished new line counts' u = absurd u
  loads_cut by_rule count status.Exists new line counts' u = absurd u

  -- ---- all lines were run

  -- what is said then
  text_is : (count : ℕ) (x : Exchange) → number ≡ count → load_text count (h.exchanges ++ x ∷ []) ≡ summary_of count (replies_in h.exchanges) ++ reply_text x.reply
  text_is count x e = subst (λ (n : ℕ). summary_of count (replies_in (take n (h.exchanges ++ x ∷ []))) ++ texts_in (drop n (h.exchanges ++ x ∷ [])) ≡ summary_of count (replies_in h.exchanges) ++ reply_text x.reply) (h.count ∙ e)
      (ap₂ (λ (xs ys : List Exchange). summary_of count (replies_in xs) ++ texts_in ys) (take_front h.exchanges (x ∷ [])) (drop_front h.exchanges (x ∷ [])) ∙ ap (λ (t : Bytes). summary_of count (replies_in h.exchanges) ++ t) (append_nil (reply_text x.reply)))

  said_by : (count : ℕ) (s' : Status) (new : Outside) (counts' : TurnCounts) (session : Session) → is_cut_short s' ≡ false → (s' ≢ status.Done → s' ≡ status.SayFault) → ((xs : List Exchange) → Begins s' old (opened h.first) xs) → ((spawned : spawn.Told) (held : Option ℕ) (spawns : SpawnCounts) → LoadRow decisive s' old (let_go_as new spawned held spawns)) → number ≡ count
      → (u : Summed rule s' h.known mid new (summary_of count (replies_in h.exchanges)) counts counts' s session h.repository h.view) → new.left ≡ mid.left
      → (spawned : spawn.Told) (held : Option ℕ) (spawns : SpawnCounts) → LetsGoAs new spawned held spawns → Loads rule decisive seed count old (let_go_as new spawned held spawns) s'
  said_by count s' new counts' session cut others begins row all u left spawned held spawns gone =
      let first = opened h.first in
      let x = u.exchange in
      let xs = h.exchanges ++ x ∷ [] in
      let goes = u.exchanged.begun in
      let ran = ran_more rule decisive h.known h.exchanges h.first h.repository h.view h.slot old mid new counts counts' s session x u.after u.view h.ran h.no_fault u.exchanged in
      let text = text_is count x all in
      record {
        exchanges = xs;
        first = first;
        run = record {
          goes_on = goes_on_gone old new spawned held spawns gone.counts gone.gone ran.trace.goes_on;
          left = left ∙ h.left;
          begins = begins xs;
          first_is = refl;
          replies = record {
            some = λ damage none. absurd (not_none h.exchanges x none);
            begun = ([], script_end count all ∙ (ap (λ (l : Bytes). lines_in h.exchanges ++ l ∷ []) (sym u.line_is) ∙ (sym (map-append (λ x. x.line) h.exchanges (x ∷ [])) ∙ sym (append_nil (lines_in xs)))), λ behind whole. refl);
            run = λ b. ran.trace.run (h.ran.trace.known_so b);
            watched = λ b start live. let is = h.ran.trace.known_so b in let w = u.exchanged.watches is in subst (λ (t : Slot). WatchedIn rule says_nothing false (is_cut_short s') old.told new.told t first xs) (live_at rule decisive h.known h.exchanges h.first h.repository h.view h.slot old mid counts s h.ran is start live)
                (watched_all rule says_nothing false (is_cut_short s') cut old.told new.told h.slot first xs session.store.held.collection session.store.held.slot session.store.held.unswept u.view (watched_on new counts' session u.after u.view x u.exchanged is)
                (held_has session.store.held u.after new.told (u.exchanged.working is).holds) w.answered w.by_now (λ _. w.unsaid ∙ (h.said is ∙ (sym (append_nil (said old.told)) ∙ ap (λ (t : Bytes). said old.told ++ t) (sym (none_said xs)))))
                (λ held. w.lent_behind (subst IsHeldIn (after_more first h.exchanges x) held)));
            said = λ b. let is = h.ran.trace.known_so b in let p = u.part is in record {
              part = p.0;
              rest = p.1;
              text_is = p.2 ∙ sym text;
              said_is = p.3 ∙ ap (λ (t : Bytes). t ++ p.0) (h.said is);
              whole = u.whole is;
              none = λ done fault. absurd (fault (others done));
            };
          };
          reopens = record {
            any_moment = λ b d r stands order. let is = known_so b d order in of_opened (IsBehindOpening s' xs) (h.opened_at is) new xs (load_text count xs) (h.ran.trace.began (h.ran.trace.tells is)) r stands
                (let was = h.over is in let later = (goes.files is).goes.later in omega (arith, was, later))
                (subst (λ (t : Bytes). LoadHeadline (h.opened_at is) old.told new.told first (map answer_of xs) t) (sym text) (headline_said (h.opened_at is) old.told mid.told new.told first h.exchanges x (h.quiet is order) (goes.files is).goes (h.over is) (h.said is)
                h.repository (ap (λ (state : State). state.repository) (h.ran.now_at is)) u.after (ap (λ (state : State). state.repository) (sym (u.exchanged.now_at is))) _ (u.turning is (h.ran.nothing_pending is order))))
                (slots_at rule decisive h.known h.exchanges h.first h.repository h.view h.slot old mid counts s h.ran is (h.opened_at is) (length xs) new.told
                (slots_run rule decisive h.known h.exchanges h.first h.repository h.view h.slot old mid new counts counts' s x h.ran goes is (h.opened_at is) (h.over is) (h.slots is order) ((u.exchanged.watches is).slots (h.ran.nothing_pending is order))));
            again = λ b d may. let is = known_so b d may.nothing_pending in record { repository = u.after; stands = (u.exchanged.working is).holds.stands; nothing_pending = ran.nothing_pending is may.nothing_pending };
            stands = λ b whole began. let is = h.ran.trace.known_so b in subst (λ (state : State). StandsFor new.told.held state.repository) (ran.now_at is) (u.exchanged.working is).holds.stands;
            clear = λ b whole clear. let is = h.ran.trace.known_so b in cleared_at new.told session.store.held (held_has session.store.held u.after new.told (u.exchanged.working is).holds) (ran.clear is clear);
            files = λ b. ran.trace.files (h.ran.trace.known_so b);
            keeps = λ b. ran.trace.keeps (h.ran.trace.known_so b);
            leaves = λ b whole. ran.leaves (h.ran.trace.known_so b);
            lends = λ b. let is = h.ran.trace.known_so b in lends_at rule decisive h.known h.exchanges h.first h.repository h.view h.slot old mid counts s h.ran is new.told (ran.lends is);
          };
          notes = notes_of rule decisive h.known xs h.first s' old new counts' ran.trace (serving_on s' old.counts mid.counts new.counts h.no_fault u.counted) spawned held spawns gone;
          row = row spawned held spawns;
          unopened = λ is none. absurd (not_none h.exchanges x none);
          unwritten = λ told damage few. absurd (cc (damage_short s' damage, cut));
        };
        children = asks_of rule decisive h.known xs h.first (is_cut_short s') old new counts' ran.trace (happen_all (is_cut_short s') cut xs ran.phases) spawned held spawns gone;
      }

  pub loads_said : (IsTrue decisive → IsDecisive rule) → (count : ℕ) (s' : Status) (new : Outside) (counts' : TurnCounts) (session : Session) → FinishesLoad rule s' h.known mid new (summary_of count (replies_in h.exchanges)) counts counts' s session h.repository h.view → number ≡ count → new.left ≡ mid.left
      → (spawned : spawn.Told) (held : Option ℕ) (spawns : SpawnCounts) → LetsGoAs new spawned held spawns → Loads rule decisive seed count old (let_go_as new spawned held spawns) s'
  loads_said by_rule count status.Done new counts' session u all left = said_by count status.Done new counts' session refl (λ other. absurd (other refl)) (λ xs. h.ran.trace.began) (λ spawned held spawns. tt) all u left
  loads_said by_rule count status.SayFault new counts' session u all left = said_by count status.SayFault new counts' session refl (λ other. refl) (λ xs. h.ran.trace.began) (λ spawned held spawns. tt) all u left
  loads_said by_rule count status.GroundFault new counts' session u all left = loads_cut by_rule count status.GroundFault new (codes "stat") counts' u left [] (script_end count all)
  loads_said by_rule count (status.DamagedRecord at) new counts' session u all left = loads_cut by_rule count (status.DamagedRecord at) new (codes "stat") counts' u left [] (script_end count all)
  loads_said by_rule count (status.DamagedName at want got) new counts' session u all left = loads_cut by_rule count (status.DamagedName at want got) new (codes "stat") counts' u left [] (script_end count all)
  loads_said by_rule count status.Usage new counts' session u all left = absurd u
  loads_said by_rule count status.NoStore new counts' session u all left = absurd u
  loads_said by_rule count (status.Damaged file at) new counts' session u all left = absurd u
  loads_said by_rule count status.DamagedJob new counts' session u all left = absurd u
  loads_said by_rule count status.ReadFault new counts' session u all left = absurd u
  loads_said by_rule count status.Memory new counts' session u all left = absurd u
  loads_said by_rule count (status.Limit bound) new counts' session u all left = absurd u
  loads_said by_rule count status.Unfinished new counts' session u all left = absurd u
  loads_said by_rule count status.Exists new counts' session u all left = absurd u

-- ---- no line was run

loads_none : (rule : Rule) (decisive : Bool) (seed count : ℕ) (old new : Outside) (s : Status) → GoesOn old new → (IsTrue old.ground_tells → SyncsOnly (Only Control) old.told new.told) → (IsTrue old.ground_tells → RecoversOnceOpen old.told new.told) → new.left ≡ old.left → new.turns ≡ old.turns → IsUnasked old new → new.read_faults ≡ old.read_faults
    → (IsBehindOpening s [] → ⊥) → (s ≡ status.Done → ⊥) → Begins s old (opened no_repository) [] → IsBound old.dir s old.counts new.counts → IsNoDamage s → CountsOf s old.counts new.counts → LoadRow decisive s old new → Loads rule decisive seed count old new s
loads_none rule decisive seed count old new s g f opening left turns unasked reads unopened undone begins bound sound counted row =
    let first = opened no_repository in
    let quiet : IsTrue old.ground_tells → said new.told ≡ said old.told = λ b. said_now old.told new.told (f b).changes.goes (f b).changes.said in
    record {
      exchanges = [];
      first = first;
      run = record {
        goes_on = g;
        left = left;
        begins = begins;
        first_is = refl;
        replies = record {
          some = λ damage. absurd (no_damage s sound damage);
          begun = (load_script seed count, refl, λ behind whole. absurd (unopened behind));
          run = λ told. tt;
          watched = λ told slot live. watched_unbegun rule says_nothing false (is_cut_short s) old.told new.told slot first refl (quiet told.0.0) (live_on old.told new.told (f told.0.0).files slot live);
          said = λ b. record { part = []; rest = load_text count []; text_is = refl; said_is = quiet b.0.0 ∙ sym (append_nil (said old.told)); whole = λ done. absurd (undone done); none = λ _ _. refl };
        };
        reopens = record {
          any_moment = λ b d r stands order. ((opening b).since, λ behind. absurd (unopened behind), headline_quiet (opening b).since old.told new.told (opened r) [] (load_text count []) (quiet_first (opening b).since old.told new.told (opened r) (headline_none old.told new.told (f b) (opening b) r stands order)), λ slot live. slots_first old.told new.told (opening b) slot (live_on old.told new.told (f b).files slot live));
          again = λ b d may. record { repository = may.repository; stands = stands_after old.told new.told (f b) (owns_pending old.told may.nothing_pending) may.repository may.stands; nothing_pending = (opening b).nothing_pending may.nothing_pending };
          stands = λ b whole h. stands_after old.told new.told (f b.0.0) b.0.1 first.repository h;
          clear = λ b whole. clear_synced old.told new.told (f b.0.0);
          files = λ b. keeps_unchanged old.told new.told (f b.0.0);
          keeps = λ b all. reads_synced old.told new.told (f b.0.0);
          leaves = λ b whole all. none_synced old.told new.told (f b.0.0);
          lends = λ b slot live n less. (f b.0.0).changes.lending n;
        };
        notes = notes_none s old new turns reads unopened bound (serving_of s old.counts new.counts sound counted);
        row = row;
        unopened = λ is none. record { none_taken = refl; left = left; said_nothing = quiet; only = f; turns = turns; unasked = unasked };
        unwritten = λ told damage few. absurd (no_damage s sound damage);
      };
      children = asks_none (is_cut_short s) old new unasked;
    }

-- the store could not be opened
pub loads_unopened : (rule : Rule) (decisive : Bool) (seed count : ℕ) (old new : Outside) (s : Status) → GoesOn old new → (IsTrue old.ground_tells → SyncsOnly (Only Control) old.told new.told) → (IsTrue old.ground_tells → RecoversOnceOpen old.told new.told) → new.left ≡ old.left → new.turns ≡ old.turns → IsUnasked old new → new.read_faults ≡ old.read_faults
    → CouldNotOpen s old.ground_tells old.told → IsBound old.dir s old.counts new.counts → CountsOf s old.counts new.counts → Loads rule decisive seed count old new s
loads_unopened rule decisive seed count old new s g f opening left turns unasked reads could_not bound counted = by_status s could_not bound counted
  where
    untouched : IsUntouched old new []
    untouched = record { none_taken = refl; left = left; said_nothing = λ told. said_now old.told new.told (f told).changes.goes (f told).changes.said; only = f; turns = turns; unasked = unasked }

    by_status : (s : Status) → CouldNotOpen s old.ground_tells old.told → IsBound old.dir s old.counts new.counts → CountsOf s old.counts new.counts → Loads rule decisive seed count old new s
    by_status status.NoStore h b n = loads_none rule decisive seed count old new status.NoStore g f opening left turns unasked reads (λ behind. behind) (λ e. absurd (cc e)) refl b tt n (untouched, h)
    by_status (status.Damaged file at) h b n = loads_none rule decisive seed count old new (status.Damaged file at) g f opening left turns unasked reads (λ behind. behind) (λ e. absurd (cc e)) refl b tt n (untouched, λ tells. h tells.0 tells.1)
    by_status status.GroundFault h b n = loads_none rule decisive seed count old new status.GroundFault g f opening left turns unasked reads (λ some. some refl) (λ e. absurd (cc e)) (inl refl) b tt n tt
    by_status status.Memory h b n = loads_none rule decisive seed count old new status.Memory g f opening left turns unasked reads (λ behind. behind) (λ e. absurd (cc e)) refl b tt n untouched
    by_status status.Done h b n = absurd h
    by_status status.Usage h b n = absurd h
    by_status (status.DamagedRecord at) h b n = absurd h
    by_status (status.DamagedName at want got) h b n = absurd h
    by_status status.DamagedJob h b n = absurd h
    by_status status.ReadFault h b n = absurd h
    by_status status.SayFault h b n = absurd h
    by_status (status.Limit bound) h b n = absurd h
    by_status status.Unfinished h b n = absurd h
    by_status status.Exists h b n = absurd h

-- its row, or what was counted, excludes each status but two
pub load_ends : (decisive : Bool) → IsTrue decisive → (s : Status) (old new : Outside) → LoadRow decisive s old new → CountsServing s old.counts new.counts → LoadsWhereAllIsWell old new s
load_ends decisive sure status.Done old new r n told stands calm = inl refl
load_ends decisive sure status.Memory old new r n told stands calm = inr refl
load_ends decisive sure status.Unfinished old new r n told stands calm = absurd r
load_ends decisive sure (status.Limit b) old new r n told stands calm = absurd r
load_ends decisive sure status.ReadFault old new r n told stands calm = absurd r
load_ends decisive sure status.DamagedJob old new r n told stands calm = absurd r
load_ends decisive sure status.Usage old new r n told stands calm = absurd r
load_ends decisive sure status.Exists old new r n told stands calm = absurd r
load_ends decisive sure status.NoStore old new r n told stands calm = absurd (stands_open old.told.held stands.0 stands.1 (r.1 told.0))
load_ends decisive sure (status.Damaged file at) old new r n told stands calm = absurd (not_damaged old.told.held stands.1.standing file at (r.1 told))
load_ends decisive sure (status.DamagedRecord at) old new r n told stands calm = absurd (r (told, sure))
load_ends decisive sure (status.DamagedName at want got) old new r n told stands calm = absurd (r.0 (told, sure))
load_ends decisive sure status.SayFault old new r n told stands calm = absurd (calm.say n.rose)
load_ends decisive sure status.GroundFault old new r n told stands calm = absurd (calm.file n.rose)
