-- What comes of a line by what came of its command, and of a reply whose text was written.
--     still_goes      nothing changed but what was met
--     lined_ok, lined_cut, lined_bounded      the line that spells a command.      bad_goes      a line that is none.      refused_goes      memory was refused
--     written_goes      what was written of its reply
use Rattle.std.proofs.Common.{◌≡◌, inl, inr, ℕ, ◌^◌, ◌<◌, Bool, true, false, refl, sym, ap, subst, arith, Option, None, Ok, Err, IsTrue, length}
use Rattle.std.specs.Prelude.{Result, IfOk, OnErr}
use Rattle.ip_ground.specs.Counts.{Noted}
use Rattle.ip_ground.specs.Told.{Told, NoFile, ChangesOnly}
use Rattle.ip_ground.proofs.Spans.{no_moment, only_nowhere}
use Rattle.ip_spawn.specs.Children as spawn
use Rattle.ip_spawn.specs.declared.spawner.SpawnCounts.{SpawnCounts}
use Rattle.ip_spec.specs.declared.command.Command.{Command}
use Rattle.ip_spec.specs.declared.met.Child.TheVariants as Child
use Rattle.ip_spec.specs.declared.met.Met.{Met}
use Rattle.ip_spec.specs.declared.reply.Reply.{Reply}
use Rattle.ip_spec.specs.Line.{IsBadAt, IsLineOf}
use Rattle.ip_spec.specs.Merge.{Rule}
use Rattle.ip_spec.specs.Path.{Bytes}
use Rattle.ip_spec.specs.Repository.{Repository}
use Rattle.ip_spec.specs.Machine.{State, Conditions}
use Rattle.ip_spec.specs.Script.{LineStep}
use Rattle.ip_spec.specs.Step.{IsSwept}
use Rattle.ip_spec.specs.Text.{reply_text}
use Rattle.ip_spec.specs.TreeAt.{Records}
use Rattle.ip_spec.specs.View.{View}
use Rattle.ip_merge.specs.Rules.{IsDecisive}
use Rattle.ip_session.specs.declared.session.Session.{Session}
use Rattle.ip_session.specs.declared.session.SessionEnd.{SessionEnd}
use Rattle.ip_held.specs.declared.collection.Collection.{Collection}
use Rattle.ip_held.specs.Held.{image_records}
use Rattle.ip_held.specs.Views.{IsViewAfter}
use Rattle.ip_held.proofs.SlotLaws.{slots_none}
use Rattle.ip_session.specs.Asking.{IsBoundedIn, QuietIfLong, Spawns}
use Rattle.ip_session.specs.Clearing.{ClearIn}
use Rattle.ip_session.specs.Session.{CountsIn, IsWorking, state_in, met_only, conditions_of, IsLong, Writes, OnlyBy, OnlyIn, IsViewIn, Goes, GoesBy, GoesIn, CutBy, CutIn}
use Rattle.ip_session.proofs.Seeing.{memory_seen, bad_seen}
use Rattle.ip_session.specs.Placing.{PlacedIn}
use Rattle.ip_session.proofs.Asking.{unwritten, whole_asked}
use Rattle.ip_session.proofs.ClearGoes.{quiet_clear, clear_same}
use Rattle.ip_session.proofs.Changing.{nothing_only, nothing_space, keeps_nothing}
use Rattle.ip_session.proofs.Placing.{quiet_placed, still_slot}
use Rattle.ip_session.proofs.SessionLemmas.{unjudged, unsettled, memory_is_short, bad_is_short, bad_line}

-- nothing changed but what was met
pub still_goes : (a : Told) (s : Session) (met : Met) (r : Repository) (v : View) (here : IsWorking a s r v) (Only : Reply → Type 0) (Gives : Conditions → Reply → State → Type 0) (Views : Reply → View → Type 0) (reply : Reply) → met.child ≡ Child.NotAsked → Gives (conditions_of met) reply (state_in s r v) → Views reply v
    → (IsLong reply → Gives (conditions_of (met_only true)) Reply.Memory (state_in s r v)) → Only reply → Goes a a s (record s { met = met }) r v Only Gives Views reply
still_goes a s met r v here Only Gives Views reply heard gives seen refused none = record {
  after = r;
  view = v;
  difference = None;
  gives = gives;
  judged = unjudged a a s (record s { met = met }) r v heard;
  settled = unsettled a s (record s { met = met }) reply heard;
  stays = λ c runs pair was. was;
  is_at = here;
  seen = seen;
  only = none;
  files = keeps_nothing a a (only_nowhere a NoFile);
  said = (only_nowhere a NoFile).said;
  space = λ order none slot live. nothing_space a a (only_nowhere a NoFile) order slot live;
  atomic = λ order t late le. absurd (no_moment a.moment t late le);
  slots = λ order. slots_none a;
  nothing_pending = λ order. order;
  spared = λ long. record { same = refl; seen = refl; refused = refused long };
  still = λ long. only_nowhere a NoFile;
}

-- ---- lines

-- the line that spells the command, and no other one; what was met before does not matter
lined : (rule : Rule) (a b : Told) (s s' : Session) (met : Met) (r : Repository) (v : View) (command : Command) (line : Bytes) (reply : Reply) → IsLineOf command line → ((other : Command) → IsLineOf other line → other ≡ command)
    → GoesBy rule a b (record s { met = met }) s' r v command reply → GoesIn rule a b s s' r v line reply
lined rule a b s s' met r v command line reply served one h = record {
  after = h.after;
  view = h.view;
  difference = h.difference;
  gives = inl (command, served, h.gives);
  judged = h.judged;
  settled = h.settled;
  stays = h.stays;
  is_at = h.is_at;
  seen = record { command = λ other spelled. subst (λ (c : Command). IsViewAfter r v c reply h.view) (sym (one other spelled)) h.seen; none = λ none. absurd (none command served) };
  only = record { command = λ other spelled. subst (λ (c : Command). OnlyBy s.store.held a b c reply) (sym (one other spelled)) h.only; none = λ none. absurd (none command served) };
  files = h.files;
  said = h.said;
  space = h.space;
  atomic = h.atomic;
  slots = h.slots;
  nothing_pending = h.nothing_pending;
  spared = λ long. let x = h.spared long in record { same = x.same; seen = x.seen; refused = inl (command, served, x.refused) };
  still = h.still;
}

pub lined_ok : (rule : Rule) (a b : Told) (s s' : Session) (met : Met) (r : Repository) (v : View) (command : Command) (line : Bytes) (result : Result Reply SessionEnd) → IsLineOf command line → ((other : Command) → IsLineOf other line → other ≡ command)
    → IfOk result (GoesBy rule a b (record s { met = met }) s' r v command) → IfOk result (GoesIn rule a b s s' r v line)
lined_ok rule a b s s' met r v command line (Ok reply) served one h = lined rule a b s s' met r v command line reply served one h
lined_ok rule a b s s' met r v command line (Err end) served one h = tt

pub lined_cut : (rule : Rule) (a b : Told) (s s' : Session) (met : Met) (r : Repository) (v : View) (command : Command) (line : Bytes) (result : Result Reply SessionEnd) → IsLineOf command line
    → OnErr result (CutBy rule a b (record s { met = met }) s' r v command) → OnErr result (CutIn rule a b s s' r v line)
lined_cut rule a b s s' met r v command line (Ok reply) served h = tt
lined_cut rule a b s s' met r v command line (Err end) served h = record { reply = h.reply; after = h.after; difference = h.difference; gives = inl (command, served, h.gives); judged = h.judged; stays = h.stays; only = (command, served, h.only); files = h.files; said = h.said; space = h.space; atomic = h.atomic; slots = h.slots }

pub lined_bounded : (records : Records) (before : Option Collection) (command : Command) (line : Bytes) (result : Result Reply SessionEnd) → ((other : Command) → IsLineOf other line → other ≡ command)
    → (command ≡ Command.Look → IfOk result (IsBoundedIn records before)) → IsLineOf Command.Look line → IfOk result (IsBoundedIn records before)
lined_bounded records before command line result one bounded look = bounded (sym (one Command.Look look))

-- a line that is no command
pub bad_goes : (rule : Rule) (a : Told) (s : Session) (met : Met) (r : Repository) (v : View) (here : IsWorking a s r v) (line : Bytes) (place : ℕ) → met ≡ met_only false → IsBadAt IsLineOf line place → length line < 2 ^ 64
    → GoesIn rule a a s (record s { met = met }) r v line (Reply.Bad place)
bad_goes rule a s met r v here line place e bad small = still_goes a s met r v here (OnlyIn s.store.held a a line) (LineStep IsLineOf rule (state_in s r v) line) (IsViewIn r v line) (Reply.Bad place) (ap (λ (m : Met). m.child) e)
    (subst (λ (m : Met). LineStep IsLineOf rule (state_in s r v) line (conditions_of m) (Reply.Bad place) (state_in s r v)) (sym e) (bad_line rule (state_in s r v) line place bad))
    (record { command = λ command served. bad_seen r v command place; none = λ none. refl })
    (λ long. absurd (bad_is_short place line bad.in_line small long))
    (nothing_only s.store.held a a line (Reply.Bad place) (only_nowhere a NoFile))

refused_in : (r : Repository) (v : View) (line : Bytes) → IsViewIn r v line Reply.Memory v
refused_in r v line = record { command = λ command served. memory_seen r v command; none = λ none. refl }

-- a line that was refused memory
pub refused_goes : (rule : Rule) (a : Told) (s : Session) (met : Met) (r : Repository) (v : View) (here : IsWorking a s r v) (line : Bytes) (reply : Reply) → met ≡ met_only true → reply ≡ Reply.Memory
    → LineStep IsLineOf rule (state_in s r v) line (conditions_of (met_only true)) Reply.Memory (state_in s r v)
    → GoesIn rule a a s (record s { met = met }) r v line reply
refused_goes rule a s met r v here line reply e is_memory gives = subst (GoesIn rule a a s (record s { met = met }) r v line) (sym is_memory)
    (still_goes a s met r v here (OnlyIn s.store.held a a line) (LineStep IsLineOf rule (state_in s r v) line) (IsViewIn r v line) Reply.Memory (ap (λ (m : Met). m.child) e)
    (subst (λ (m : Met). LineStep IsLineOf rule (state_in s r v) line (conditions_of m) Reply.Memory (state_in s r v)) (sym e) gives)
    (refused_in r v line)
    (λ long. gives)
    (nothing_only s.store.held a a line Reply.Memory (only_nowhere a NoFile)))

-- ---- texts

-- there was no memory for a long text
memory_instead : (a b : Told) (s s' : Session) (met : Met) (r : Repository) (v : View) (Only : Reply → Type 0) (Gives : Conditions → Reply → State → Type 0) (Views : Reply → View → Type 0) (reply : Reply) → Goes a b s s' r v Only Gives Views reply → IsLong reply → met ≡ met_only true
    → Views Reply.Memory v → (ChangesOnly NoFile a b → Only Reply.Memory) → Goes a b s (record s' { met = met }) r v Only Gives Views Reply.Memory
memory_instead a b s s' met r v Only Gives Views reply h long e seen none = record {
  after = h.after;
  view = h.view;
  difference = None;
  gives = let x = h.spared long in subst (λ (m : Met). Gives (conditions_of m) Reply.Memory (state_in s' h.after h.view)) (sym e) (subst (Gives (conditions_of (met_only true)) Reply.Memory) (sym x.same) x.refused);
  judged = unjudged a b s (record s' { met = met }) r v (ap (λ (m : Met). m.child) e);
  settled = unsettled b s (record s' { met = met }) Reply.Memory (ap (λ (m : Met). m.child) e);
  stays = h.stays;
  is_at = h.is_at;
  seen = subst (Views Reply.Memory) (sym (h.spared long).seen) seen;
  only = none (h.still long);
  files = h.files;
  said = h.said;
  space = λ order none slot live. nothing_space a b (h.still long) order slot live;
  atomic = h.atomic;
  slots = h.slots;
  nothing_pending = h.nothing_pending;
  spared = λ again. absurd (omega (arith, again, memory_is_short));
  still = λ again. h.still long;
}

-- of what the ground tells
abbrev Tells : (tells : Bool) (rule : Rule) (a b : Told) (s s' : Session) (line : Bytes) (reply : Reply) → Type 0
Tells tells rule a b s s' line reply = IsTrue tells → IsDecisive rule → (r : Repository) (v : View) → IsWorking a s r v → GoesIn rule a b s s' r v line reply

abbrev Places : (tells : Bool) (rule : Rule) (a : Told) (s s' : Session) (line : Bytes) (reply : Reply) → Type 0
Places tells rule a s s' line reply = IsTrue tells → IsDecisive rule → (r : Repository) (v : View) (here : IsWorking a s r v) → PlacedIn rule (image_records here.holds) s.store.held.slot s.store.held.unswept s'.store.held.slot (state_in s r v) v line reply

abbrev Bounds : (tells : Bool) (rule : Rule) (a : Told) (s : Session) (line : Bytes) (reply : Reply) → Type 0
Bounds tells rule a s line reply = IsTrue tells → IsDecisive rule → (r : Repository) (v : View) (here : IsWorking a s r v) → IsLineOf Command.Look line → IsBoundedIn here.holds.stands.standing.records s.store.held.collection reply

abbrev Clears : (tells : Bool) (a b : Told) (s s' : Session) (line : Bytes) (reply : Reply) → Type 0
Clears tells a b s s' line reply = IsTrue tells → (r : Repository) (v : View) → IsWorking a s r v → ClearIn a b s s' line reply

-- what was written of its reply
module _ (tells : Bool) (rule : Rule) (a b : Told) (s s' : Session) (met : Met) (line : Bytes) (reply : Reply) where
  abbrev Written : Reply → Type 0
  Written written = (IsTrue tells → IsDecisive rule → (r : Repository) (v : View) (here : IsWorking a s r v) → GoesIn rule a b s (record s' { met = met }) r v line written × PlacedIn rule (image_records here.holds) s.store.held.slot s.store.held.unswept s'.store.held.slot (state_in s r v) v line written
      × (IsLineOf Command.Look line → IsBoundedIn here.holds.stands.standing.records s.store.held.collection written))
      × (IsTrue tells → (r : Repository) (v : View) → IsWorking a s r v → ClearIn a b s (record s' { met = met }) line written)

  whole_goes : met ≡ s'.met → Tells tells rule a b s s' line reply → Places tells rule a s s' line reply → Bounds tells rule a s line reply → Clears tells a b s s' line reply → Written reply
  whole_goes is goes placed bounded clears = (
    λ told decisive r v here. (subst (λ (m : Met). GoesIn rule a b s (record s' { met = m }) r v line reply) (sym is) (goes told decisive r v here), placed told decisive r v here, bounded told decisive r v here),
    λ told r v here. subst (λ (m : Met). ClearIn a b s (record s' { met = m }) line reply) (sym is) (clears told r v here),
  )

  memory_goes : IsLong reply → ¬ IsSwept reply → met ≡ met_only true → Tells tells rule a b s s' line reply → Clears tells a b s s' line reply → Written Reply.Memory
  memory_goes long unswept is goes clears = (
    λ told decisive r v here.
        let went = goes told decisive r v here in (
          memory_instead a b s s' met r v (OnlyIn s.store.held a b line) (LineStep IsLineOf rule (state_in s r v) line) (IsViewIn r v line) reply went long is (refused_in r v line) (nothing_only s.store.held a b line Reply.Memory),
          quiet_placed rule (image_records here.holds) s.store.held.slot s.store.held.unswept s'.store.held.slot (state_in s r v) v line Reply.Memory (λ command h. h) (λ command h. h) (λ l is. absurd (cc is)) tt (still_slot s.store.held s'.store.held r went.after a b here.holds went.is_at.holds (went.still long)),
          λ look. tt,
        ),
    λ told r v here. quiet_clear a b s (record s' { met = met }) line Reply.Memory (λ h. h) (clears told r v here).keeps (clear_same a b s s' line reply unswept (clears told r v here)),
  )

  module _ (spawner_tells : Bool) (dir : Bytes) (x y : spawn.Told) (m n : SpawnCounts) (old new : Noted) (text : Bytes) where
    pub written_goes : Tells tells rule a b s s' line reply → Writes reply s'.met met text → Places tells rule a s s' line reply → Bounds tells rule a s line reply → Clears tells a b s s' line reply → Spawns spawner_tells dir x y s s' line (Ok reply) m n → CountsIn line (Ok reply) s'.met old new → QuietIfLong s'.met old new reply
        → (written : Reply) × (text ≡ reply_text written) × Spawns spawner_tells dir x y s (record s' { met = met }) line (Ok written) m n × CountsIn line (Ok written) met old new
        × (IsTrue tells → IsDecisive rule → (r : Repository) (v : View) (here : IsWorking a s r v) → GoesIn rule a b s (record s' { met = met }) r v line written × PlacedIn rule (image_records here.holds) s.store.held.slot s.store.held.unswept s'.store.held.slot (state_in s r v) v line written
        × (IsLineOf Command.Look line → IsBoundedIn here.holds.stands.standing.records s.store.held.collection written))
        × (IsTrue tells → (r : Repository) (v : View) → IsWorking a s r v → ClearIn a b s (record s' { met = met }) line written)
    written_goes goes (inl whole) placed bounded clears spawns counts quiet =
        let told = whole_asked spawner_tells dir x y s s' met line reply m n old new spawns counts whole.0 in
        (let goes = whole_goes whole.0 goes placed bounded clears in (reply, whole.1, told.0, told.1, goes.0, goes.1))
    written_goes goes (inr refused) placed bounded clears spawns counts quiet =
        let told = unwritten spawner_tells dir x y s s' met line reply m n old new spawns refused.0 quiet refused.1 in
        (let went = memory_goes refused.0 (quiet refused.0).3 refused.1 goes clears in (Reply.Memory, refused.2, told.0, told.1, went.0, went.1))
