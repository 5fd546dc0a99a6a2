-- What the machine gives to the commands that a session runs.
--     at r phase w      the machine's state of a session that is idle.      X_done, X_refused      what it gives to the command
--     heard_none      a command that asks no child heard none, so that no pair was judged (unjudged), no attempt is known to be settled (unsettled) and nothing is kept of it (nothing_kept)
--     NoneGivenUp r w      no commit that the work took from was given up, so that (still_there) the machine goes on
--     AsksWork command, given_up      what the machine gives where the work was given up
--     behind, tested      the steps of a chain
--     X_is_short      the text of a reply takes no memory
--     line_refused, bad_line      what it gives to a line
use Rattle.std.proofs.Common.{◌≡◌, ◌≢◌, ◌⊎◌, inl, inr, ℕ, suc, ℤ, pos, negsuc, ◌*◌, ◌^◌, ◌<◌, ◌≤◌, ◌==◌, Bool, true, false, [], ◌∷◌, ◌++◌, length, refl, sym, ap, ◌∙◌, arith, Option, Some, None, Ok, Err, IsTrue, length-append, w32}
use lib.Signed.{mag}
use mir.Val.{SFits}
use Rattle.std.specs.Prelude.{nat_lt, if◌then◌else◌, codes, Result, IfSome, IsFalse}
use Rattle.std.specs.List.{join_with_byte, list_any}
use Rattle.std.specs.Fmt.{decimal, signed_decimal}
use Rattle.std.proofs.lemmas.Bool.Decides.{nat_tests}
use Rattle.std.proofs.lemmas.Fmt.{length-decimal-le}
use Rattle.sha2.specs.Sha256.{sha256}
use Rattle.ip_base.specs.declared.info.Info.{Info}
use Rattle.ip_base.specs.declared.limit.Limit.{Limit}
use Rattle.ip_ground.specs.Told.{Told}
use Rattle.ip_spec.specs.declared.command.Command.{Command}
use Rattle.ip_spec.specs.declared.command.Target.{Target}
use Rattle.ip_spec.specs.declared.command.LineFault.{LineFault}
use Rattle.ip_spec.specs.declared.reply.Reply.{Reply}
use Rattle.ip_spec.specs.Map.{len}
use Rattle.ip_spec.specs.Merge.{Rule}
use Rattle.ip_spec.specs.Path.{Bytes, Path, space, line_feed}
use Rattle.ip_spec.specs.Tree.{Tree, put, remove, subtree, is_empty, got_at, listed_at, widest}
use Rattle.ip_spec.specs.Repository.{Repository, next}
use Rattle.ip_spec.specs.declared.met.Child.{Child}
use Rattle.ip_spec.specs.declared.reply.Difference.{Difference}
use Rattle.ip_spec.specs.declared.reply.Produced.{Produced}
use Rattle.ip_spec.specs.declared.reply.Seen.{Seen}
use Rattle.ip_spec.specs.Machine.{Work, State, Phase, Exit, empty_work}
use Rattle.ip_spec.specs.Step.{phase_at, Refused, ◌>>◌, refuse_if, unless_some, or_refused, Turned, below, not_given_up, not_too_wide, contents_limit, entries_limit, IsMet, MayHear, MayRefuse, Step, state_with_exit, got_reply, listed_reply, outcome}
use Rattle.ip_spec.specs.Line.{IsBadAt, IsLineOf}
use Rattle.ip_spec.specs.Script.{LineStep}
use Rattle.ip_spec.specs.Record.{Hash}
use Rattle.ip_spec.specs.Text.{reply_text, hex_text, produced_text, seen_text}
use Rattle.ip_spec.specs.View.{View}
use Rattle.ip_held.specs.Held.{IsOf}
use Rattle.ip_held.specs.declared.collection.Collection.{Collection}
use Rattle.ip_held.specs.declared.held.Held.{Held}
use Rattle.ip_held.specs.Collecting.{IsPhaseOf, phase_of}
use Rattle.ip_held.proofs.Machine.{AsksNone, asks_none, unkept}
use Rattle.ip_held.proofs.Phases.{retained_is}
use Rattle.ip_session.specs.declared.session.Session.{Session}
use Rattle.ip_session.specs.declared.session.TheConstants.{REPLY_ROOM}
use Rattle.ip_session.specs.Session.{unasked, met_only, conditions_of, IsLong, IsJudgedIn, IsSettledIn}

abbrev pub at : Repository → Phase → Work → State
at r phase w = record { repository = r; phase = phase; work = w }

-- a command that asks no child and is refused nothing but memory
pub plainly : (r : Repository) (phase : Phase) (w : Work) (command : Command) (b : Bool) (reply : Reply) → AsksNone command → (IsTrue b → MayRefuse command (met_only b).child) → IsMet (at r phase w) command (conditions_of (met_only b)) reply
plainly r phase w command b reply plain may = record {
  child = asks_none phase command plain;
  checking = tt;
  start = λ h. absurd (cc h);
  kill = λ h. absurd (cc h);
  left = λ l. absurd (omega (arith, l));
  short = tt;
  refused = may;
}

-- a command that asks no child heard none
pub heard_none : (phase : Phase) (command : Command) → AsksNone command → (child : Child) → MayHear phase command child → child ≡ Child.NotAsked
heard_none Phase.Idle command plain child is = is
heard_none (Phase.Collecting c None) Command.Look plain child is = absurd plain
heard_none (Phase.Collecting c None) Command.Finish plain child is = absurd plain
heard_none (Phase.Collecting c None) _ plain child is = is
heard_none (Phase.Collecting c (Some reaped)) Command.Look plain child is = absurd plain
heard_none (Phase.Collecting c (Some reaped)) Command.Finish plain child is = absurd plain
heard_none (Phase.Collecting c (Some reaped)) _ plain child is = is

-- so no pair was judged
pub unjudged : (a b : Told) (s s' : Session) (r : Repository) (v : View) → s'.met.child ≡ Child.NotAsked → IsJudgedIn a b s s' r v None
unjudged a b s s' r v heard here c reaped runs ended = absurd (cc (sym heard ∙ ended))

-- nor is an attempt settled for it
pub unsettled : (b : Told) (s s' : Session) (reply : Reply) → s'.met.child ≡ Child.NotAsked → IsSettledIn b s s' reply
unsettled b s s' reply heard c reaped runs ended = absurd (cc (sym heard ∙ ended))

-- and nothing is kept of it
pub nothing_kept : (s : State) (child : Child) → child ≡ Child.NotAsked → state_with_exit s s.phase child ≡ s
nothing_kept s child is = ap (λ (heard : Child). state_with_exit s s.phase heard) is ∙ unkept s s.phase

pub passes : (bound n : ℕ) → bound < n → nat_lt bound n ≡ true
passes bound n h = grind (arith, nat_tests)

pub stays_in : (bound n : ℕ) → n ≤ bound → nat_lt bound n ≡ false
stays_in bound n h = grind (arith, nat_tests)

-- no commit that the work took from was given up
abbrev pub NoneGivenUp : Repository → Work → Type 0
NoneGivenUp r w = IfSome w.least (λ n. r.floor ≤ n)

none_below : (floor : ℕ) (least : Option ℕ) → IfSome least (λ n. floor ≤ n) → unless_some (below floor least) Reply.GivenUp ≡ Ok tt
none_below floor None kept = refl
none_below floor (Some n) kept = ap (λ (b : Bool). unless_some (if b then Some n else None) Reply.GivenUp) (stays_in n floor kept)

pub still_there : (r : Repository) (phase : Phase) (w : Work) → NoneGivenUp r w → not_given_up (at r phase w) ≡ Ok tt
still_there r phase w kept = none_below r.floor w.least kept

-- ---- the steps of a chain

pub behind : (s : State) (g : Refused (Unit {0})) (y : Refused Turned) → g ≡ Ok tt → or_refused s (g >> y) ≡ or_refused s y
behind s g y e = ap (λ (x : Refused (Unit {0})). or_refused s (x >> y)) e

-- what follows a test that is answered so
pub tested : (s : State) (reply : Reply) (y : Refused Turned) (b b' : Bool) → b ≡ b' → or_refused s (refuse_if b reply >> y) ≡ or_refused s (refuse_if b' reply >> y)
tested s reply y b b' e = ap (λ (x : Bool). or_refused s (refuse_if x reply >> y)) e

-- ---- what the machine gives to each command

pub empty_done : (r : Repository) (phase : Phase) (w : Work) → Step unasked (at r phase w) Command.Empty (conditions_of (met_only false)) Reply.Accepted (at r phase empty_work)
unfolding outcome
empty_done r phase w = (plainly r phase w Command.Empty false Reply.Accepted tt (λ h. absurd (cc h)), refl)

-- the commands that do nothing with a work that was given up
abbrev pub AsksWork : Command → Type 0
AsksWork (Command.Set path bytes) = Unit {0}
AsksWork (Command.Rm path) = Unit {0}
AsksWork (Command.Graft target from to) = Unit {0}
AsksWork (Command.Parent target) = Unit {0}
AsksWork (Command.Get path) = Unit {0}
AsksWork (Command.List path) = Unit {0}
AsksWork command = ⊥

gone : (s : State) (number : ℕ) (y : Refused Turned) → below s.repository.floor s.work.least ≡ Some number → or_refused s (not_given_up s >> y) ≡ (Reply.GivenUp number, s)
gone s number y is = ap (λ (o : Option ℕ). or_refused s (unless_some o Reply.GivenUp >> y)) is

pub given_up : (r : Repository) (phase : Phase) (w : Work) (number : ℕ) (command : Command) → AsksWork command → below r.floor w.least ≡ Some number → Step unasked (at r phase w) command (conditions_of (met_only false)) (Reply.GivenUp number) (at r phase w)
unfolding outcome
given_up r phase w number (Command.Set path bytes) asks is = (plainly r phase w (Command.Set path bytes) false (Reply.GivenUp number) tt (λ h. absurd (cc h)), sym (gone (at r phase w) number _ is))
given_up r phase w number (Command.Rm path) asks is = (plainly r phase w (Command.Rm path) false (Reply.GivenUp number) tt (λ h. absurd (cc h)), sym (gone (at r phase w) number _ is))
given_up r phase w number (Command.Graft target from to) asks is = (plainly r phase w (Command.Graft target from to) false (Reply.GivenUp number) tt (λ h. absurd (cc h)), sym (gone (at r phase w) number _ is))
given_up r phase w number (Command.Parent target) asks is = (plainly r phase w (Command.Parent target) false (Reply.GivenUp number) tt (λ h. absurd (cc h)), sym (gone (at r phase w) number _ is))
given_up r phase w number (Command.Get path) asks is = (plainly r phase w (Command.Get path) false (Reply.GivenUp number) tt (λ h. absurd (cc h)), sym (gone (at r phase w) number _ is))
given_up r phase w number (Command.List path) asks is = (plainly r phase w (Command.List path) false (Reply.GivenUp number) tt (λ h. absurd (cc h)), sym (gone (at r phase w) number _ is))
given_up r phase w number _ asks is = absurd asks

module _ (r : Repository) (phase : Phase) (w : Work) (kept : NoneGivenUp r w) where
  abbrev s : State
  s = at r phase w

  abbrev Gives : Command → Reply → State → Type 0
  Gives command reply s' = Step unasked s command (conditions_of (met_only false)) reply s'

  abbrev with_map : Tree → State
  with_map tree = at r phase (record w { tree = tree })

  -- ---- setting

  abbrev set_narrow : Path → Bytes → Refused Turned
  set_narrow path bytes = not_too_wide (put w.tree path bytes) >> Ok (Reply.Accepted, with_map (put w.tree path bytes))

  abbrev set_short : Path → Bytes → Bool → Refused Turned
  set_short path bytes long = refuse_if long (Reply.Limit Limit.Contents) >> set_narrow path bytes

  set_turn : (path : Path) (bytes : Bytes) (long : Bool) → nat_lt contents_limit (length bytes) ≡ long → or_refused s (outcome s (Command.Set path bytes) (conditions_of (met_only false))) ≡ or_refused s (set_short path bytes long)
  unfolding outcome
  set_turn path bytes long e = behind s (not_given_up s) (set_short path bytes (nat_lt contents_limit (length bytes))) (still_there r phase w kept)
      ∙ tested s (Reply.Limit Limit.Contents) (set_narrow path bytes) (nat_lt contents_limit (length bytes)) long e

  set_width : (path : Path) (bytes : Bytes) (wide : Bool) → nat_lt entries_limit (widest (put w.tree path bytes)) ≡ wide
      → or_refused s (set_narrow path bytes) ≡ or_refused s (refuse_if wide (Reply.Limit Limit.Entries) >> Ok (Reply.Accepted, with_map (put w.tree path bytes)))
  set_width path bytes wide e = tested s (Reply.Limit Limit.Entries) (Ok (Reply.Accepted, with_map (put w.tree path bytes))) (nat_lt entries_limit (widest (put w.tree path bytes))) wide e

  pub set_done : (path : Path) (bytes : Bytes) → length bytes ≤ contents_limit → widest (put w.tree path bytes) ≤ entries_limit → Gives (Command.Set path bytes) Reply.Accepted (with_map (put w.tree path bytes))
  set_done path bytes short narrow = (
    plainly r phase w (Command.Set path bytes) false Reply.Accepted tt (λ h. absurd (cc h)),
    sym (set_turn path bytes false (stays_in contents_limit (length bytes) short) ∙ set_width path bytes false (stays_in entries_limit (widest (put w.tree path bytes)) narrow)),
  )

  pub set_long : (path : Path) (bytes : Bytes) → contents_limit < length bytes → Gives (Command.Set path bytes) (Reply.Limit Limit.Contents) s
  set_long path bytes long = (
    plainly r phase w (Command.Set path bytes) false (Reply.Limit Limit.Contents) tt (λ h. absurd (cc h)),
    sym (set_turn path bytes true (passes contents_limit (length bytes) long)),
  )

  pub set_wide : (path : Path) (bytes : Bytes) → length bytes ≤ contents_limit → entries_limit < widest (put w.tree path bytes) → Gives (Command.Set path bytes) (Reply.Limit Limit.Entries) s
  set_wide path bytes short wide = (
    plainly r phase w (Command.Set path bytes) false (Reply.Limit Limit.Entries) tt (λ h. absurd (cc h)),
    sym (set_turn path bytes false (stays_in contents_limit (length bytes) short) ∙ set_width path bytes true (passes entries_limit (widest (put w.tree path bytes)) wide)),
  )

  -- ---- taking away

  rm_turn : (path : Path) (none : Bool) → is_empty (subtree w.tree path) ≡ none
      → or_refused s (outcome s (Command.Rm path) (conditions_of (met_only false))) ≡ or_refused s (refuse_if none Reply.Absent >> Ok (Reply.Accepted, with_map (remove w.tree path)))
  unfolding outcome
  rm_turn path none e = behind s (not_given_up s) (refuse_if (is_empty (subtree w.tree path)) Reply.Absent >> Ok (Reply.Accepted, with_map (remove w.tree path))) (still_there r phase w kept)
      ∙ tested s Reply.Absent (Ok (Reply.Accepted, with_map (remove w.tree path))) (is_empty (subtree w.tree path)) none e

  pub rm_done : (path : Path) → is_empty (subtree w.tree path) ≡ false → Gives (Command.Rm path) Reply.Accepted (with_map (remove w.tree path))
  rm_done path some = (plainly r phase w (Command.Rm path) false Reply.Accepted tt (λ h. absurd (cc h)), sym (rm_turn path false some))

  pub rm_absent : (path : Path) → is_empty (subtree w.tree path) ≡ true → Gives (Command.Rm path) Reply.Absent s
  rm_absent path none = (plainly r phase w (Command.Rm path) false Reply.Absent tt (λ h. absurd (cc h)), sym (rm_turn path true none))

  -- ---- reading

  pub get_done : (path : Path) → Gives (Command.Get path) (got_reply (got_at w.tree path)) s
  unfolding outcome
  get_done path = (
    plainly r phase w (Command.Get path) false (got_reply (got_at w.tree path)) tt (λ h. absurd (cc h)),
    sym (behind s (not_given_up s) (Ok (got_reply (got_at w.tree path), s)) (still_there r phase w kept)),
  )

  pub list_done : (path : Path) → Gives (Command.List path) (listed_reply (listed_at w.tree path)) s
  unfolding outcome
  list_done path = (
    plainly r phase w (Command.List path) false (listed_reply (listed_at w.tree path)) tt (λ h. absurd (cc h)),
    sym (behind s (not_given_up s) (Ok (listed_reply (listed_at w.tree path), s)) (still_there r phase w kept)),
  )

pub hash_done : (r : Repository) (phase : Phase) (w : Work) (bytes : Bytes) → Step unasked (at r phase w) (Command.Hash bytes) (conditions_of (met_only false)) (Reply.Hash (sha256 bytes)) (at r phase w)
unfolding outcome
hash_done r phase w bytes = (plainly r phase w (Command.Hash bytes) false (Reply.Hash (sha256 bytes)) tt (λ h. absurd (cc h)), refl)

abbrev pub stat_of : Repository → Phase → Reply
stat_of r phase = Reply.Stat r.floor (next r) (len r.branches) (phase_at phase)

pub stat_done : (r : Repository) (phase : Phase) (w : Work) → Step unasked (at r phase w) Command.Stat (conditions_of (met_only false)) (stat_of r phase) (at r phase w)
unfolding outcome
stat_done r phase w = (plainly r phase w Command.Stat false (stat_of r phase) tt (λ h. absurd (cc h)), refl)

-- ---- want of memory

abbrev pub Refusable : Command → Type 0
Refusable command = (r : Repository) (phase : Phase) (w : Work) → Step unasked (at r phase w) command (conditions_of (met_only true)) Reply.Memory (at r phase w)

pub set_refused : (path : Path) (bytes : Bytes) → Refusable (Command.Set path bytes)
set_refused path bytes r phase w = (plainly r phase w (Command.Set path bytes) true Reply.Memory tt (λ h. tt), (refl, sym (unkept (at r phase w) phase)))

pub get_refused : (path : Path) → Refusable (Command.Get path)
get_refused path r phase w = (plainly r phase w (Command.Get path) true Reply.Memory tt (λ h. tt), (refl, sym (unkept (at r phase w) phase)))

pub checkout_refused : (target : Target) → Refusable (Command.Checkout target)
checkout_refused target r phase w = (plainly r phase w (Command.Checkout target) true Reply.Memory tt (λ h. tt), (refl, sym (unkept (at r phase w) phase)))

pub rm_refused : (path : Path) → Refusable (Command.Rm path)
rm_refused path r phase w = (plainly r phase w (Command.Rm path) true Reply.Memory tt (λ h. tt), (refl, sym (unkept (at r phase w) phase)))

pub graft_refused : (target : Target) (from to : Path) → Refusable (Command.Graft target from to)
graft_refused target from to r phase w = (plainly r phase w (Command.Graft target from to) true Reply.Memory tt (λ h. tt), (refl, sym (unkept (at r phase w) phase)))

pub list_refused : (path : Path) → Refusable (Command.List path)
list_refused path r phase w = (plainly r phase w (Command.List path) true Reply.Memory tt (λ h. tt), (refl, sym (unkept (at r phase w) phase)))

pub cat_refused : (target : Target) (path : Path) → Refusable (Command.Cat target path)
cat_refused target path r phase w = (plainly r phase w (Command.Cat target path) true Reply.Memory tt (λ h. tt), (refl, sym (unkept (at r phase w) phase)))

pub hash_refused : (bytes : Bytes) → Refusable (Command.Hash bytes)
hash_refused bytes r phase w = (plainly r phase w (Command.Hash bytes) true Reply.Memory tt (λ h. tt), (refl, sym (unkept (at r phase w) phase)))

pub parent_refused : (target : Target) → Refusable (Command.Parent target)
parent_refused target r phase w = (plainly r phase w (Command.Parent target) true Reply.Memory tt (λ h. tt), (refl, sym (unkept (at r phase w) phase)))

pub branch_refused : (name : Bytes) (target : Target) → Refusable (Command.Branch name target)
branch_refused name target r phase w = (plainly r phase w (Command.Branch name target) true Reply.Memory tt (λ h. tt), (refl, sym (unkept (at r phase w) phase)))

pub branch_rm_refused : (name : Bytes) → Refusable (Command.BranchRm name)
branch_rm_refused name r phase w = (plainly r phase w (Command.BranchRm name) true Reply.Memory tt (λ h. tt), (refl, sym (unkept (at r phase w) phase)))

pub branches_refused : Refusable Command.Branches
branches_refused r phase w = (plainly r phase w Command.Branches true Reply.Memory tt (λ h. tt), (refl, sym (unkept (at r phase w) phase)))

pub show_refused : (target : Target) → Refusable (Command.Show target)
show_refused target r phase w = (plainly r phase w (Command.Show target) true Reply.Memory tt (λ h. tt), (refl, sym (unkept (at r phase w) phase)))

pub log_refused : (target : Target) → Refusable (Command.Log target)
log_refused target r phase w = (plainly r phase w (Command.Log target) true Reply.Memory tt (λ h. tt), (refl, sym (unkept (at r phase w) phase)))

pub lcas_refused : (one other : Target) → Refusable (Command.Lcas one other)
lcas_refused one other r phase w = (plainly r phase w (Command.Lcas one other) true Reply.Memory tt (λ h. tt), (refl, sym (unkept (at r phase w) phase)))

pub commit_refused : (branch : Bytes) (info : Info) → Refusable (Command.Commit branch info)
commit_refused branch info r phase w = (plainly r phase w (Command.Commit branch info) true Reply.Memory tt (λ h. tt), (refl, sym (unkept (at r phase w) phase)))

pub merge_refused : (target : Target) (branch : Bytes) (info : Info) → Refusable (Command.Merge target branch info)
merge_refused target branch info r phase w = (plainly r phase w (Command.Merge target branch info) true Reply.Memory tt (λ h. tt), (refl, sym (unkept (at r phase w) phase)))

pub collect_refused : (target : Target) → Refusable (Command.Collect target)
collect_refused target r phase w = (plainly r phase w (Command.Collect target) true Reply.Memory tt (λ h. tt), (refl, sym (unkept (at r phase w) phase)))

-- ---- texts that are short

pub ok_is_short : IsLong Reply.Accepted → ⊥
unfolding reply_text
ok_is_short long = omega (arith, long)

pub hex_long : (bytes : Bytes) → length (hex_text bytes) ≡ 2 * length bytes
hex_long [] = refl
hex_long (b ∷ bytes) = let h = hex_long bytes in omega (arith, h)

pub at_is_short : (name : Hash) → length name ≤ 32 → IsLong (Reply.At name) → ⊥
unfolding reply_text
at_is_short name long_name long =
    omega (arith, long, long_name, hex_long name, length-append (codes "at" ++ space ∷ hex_text name) (10 ∷ []), length-append (codes "at") (space ∷ hex_text name))

pub started_is_short : (name : Hash) → length name ≤ 32 → IsLong (Reply.Started name) → ⊥
unfolding reply_text
started_is_short name long_name long =
    omega (arith, long, long_name, hex_long name, length-append (codes "started" ++ space ∷ hex_text name) (10 ∷ []), length-append (codes "started") (space ∷ hex_text name))

pub start_fault_is_short : IsLong Reply.StartFault → ⊥
unfolding reply_text
start_fault_is_short long = omega (arith, long)

pub cancelled_is_short : IsLong Reply.Cancelled → ⊥
unfolding reply_text
cancelled_is_short long = omega (arith, long)

pub orphan_is_short : IsLong Reply.CancelledOrphan → ⊥
unfolding reply_text
orphan_is_short long = omega (arith, long)

pub idle_is_short : IsLong Reply.Idle → ⊥
unfolding reply_text
idle_is_short long = omega (arith, long)

pub running_is_short : IsLong Reply.Running → ⊥
unfolding reply_text
running_is_short long = omega (arith, long)

pub wait_fault_is_short : IsLong Reply.WaitFault → ⊥
unfolding reply_text
wait_fault_is_short long = omega (arith, long)

pub limit_is_short : (limit : Limit) → IsLong (Reply.Limit limit) → ⊥
unfolding reply_text
limit_is_short Limit.Contents long = omega (arith, long)
limit_is_short Limit.Depth long = omega (arith, long)
limit_is_short Limit.Entries long = omega (arith, long)
limit_is_short Limit.Parents long = omega (arith, long)
limit_is_short Limit.Branches long = omega (arith, long)
limit_is_short Limit.Space long = omega (arith, long)
limit_is_short Limit.Sequence long = omega (arith, long)
limit_is_short Limit.Attempt long = omega (arith, long)

pub checking_is_short : (left : ℕ) → left < 2 ^ 64 → IsLong (Reply.Checking left) → ⊥
unfolding reply_text
checking_is_short left small long =
    let digits : length (decimal left) ≤ 20 = length-decimal-le 20 left (omega arith) (omega (arith, small)) small in
    omega (arith, long, digits, length-append (decimal left) (10 ∷ []))

pub collected_is_short : (floor left : ℕ) → floor < 2 ^ 64 → left < 2 ^ 64 → IsLong (Reply.Collected floor left) → ⊥
unfolding reply_text
collected_is_short floor left low small long = by (nat_lt 0 left) long
  where
    digits : length (decimal floor) ≤ 20
    digits = length-decimal-le 20 floor (omega arith) (omega (arith, low)) low

    more : length (decimal left) ≤ 20
    more = length-decimal-le 20 left (omega arith) (omega (arith, small)) small

    last : Bytes
    last = codes "left" ++ space ∷ decimal left

    words : Bytes
    words = decimal floor ++ space ∷ last

    by : (b : Bool) → REPLY_ROOM < length (join_with_byte space (codes "collected" ∷ decimal floor ∷ (if b then codes "left" ∷ decimal left ∷ [] else [])) ++ line_feed ∷ []) → ⊥
    by true long = omega (arith, long, digits, more, length-append (decimal floor) (space ∷ last), length-append words (10 ∷ []))
    by false long = omega (arith, long, digits, length-append (decimal floor) (10 ∷ []))

signed_short : (z : ℤ) → mag z < 2 ^ 63 → length (signed_decimal z) ≤ 21
signed_short (pos n) small = (let digits : length (decimal n) ≤ 20 = length-decimal-le 20 n (omega arith) (omega (arith, small)) (omega (arith, small)) in omega (arith, digits))
signed_short (negsuc n) small = (let digits : length (decimal (suc n)) ≤ 20 = length-decimal-le 20 (suc n) (omega arith) (omega (arith, small)) (omega (arith, small)) in omega (arith, digits))

pub exit_is_short : (exit : Exit) → ((z : ℤ) → exit ≡ Exit.Code z → SFits w32 z) → IsLong (Reply.RejectedExit exit) → ⊥
unfolding reply_text
exit_is_short (Exit.Code z) fits long = (let small = (fits z refl).sfits in let digits = signed_short z (omega (arith, small)) in omega (arith, long, digits, length-append (signed_decimal z) (10 ∷ [])))
exit_is_short Exit.Signal fits long = omega (arith, long)

produced_short : (file : Produced) → length (produced_text file) ≤ 7
produced_short Produced.Mapping = omega arith
produced_short Produced.Prefix = omega arith

seen_short : (seen : Seen) → length (seen_text seen) ≤ 4
seen_short (Seen.Byte b) = (let h = hex_long (b ∷ []) in omega (arith, h))
seen_short Seen.End = omega arith
seen_short Seen.Absent = omega arith

pub rejected_is_short : (d : Difference) → d.at < 2 ^ 64 → IsLong (Reply.Rejected d) → ⊥
unfolding reply_text
rejected_is_short d small long =
    let digits : length (decimal d.at) ≤ 20 = length-decimal-le 20 d.at (omega arith) (omega (arith, small)) small in
    let last : Bytes = seen_text d.want ++ space ∷ seen_text d.got in
    let places : Bytes = decimal d.at ++ space ∷ last in
    let words : Bytes = produced_text d.file ++ space ∷ places in
    omega (arith, long, digits, produced_short d.file, seen_short d.want, seen_short d.got, length-append (seen_text d.want) (space ∷ seen_text d.got), length-append (decimal d.at) (space ∷ last), length-append (produced_text d.file) (space ∷ places), length-append words (10 ∷ []))

pub memory_is_short : length (reply_text Reply.Memory) ≤ REPLY_ROOM
unfolding reply_text
memory_is_short = omega arith

pub bad_is_short : (place : ℕ) (line : Bytes) → place ≤ length line → length line < 2 ^ 64 → IsLong (Reply.Bad place) → ⊥
unfolding reply_text
bad_is_short place line inside small long =
    let digits : length (decimal place) ≤ 20 = length-decimal-le 20 place (omega arith) (omega (arith, small)) (omega (arith, small)) in
    omega (arith, long, digits, length-append (codes "bad" ++ space ∷ decimal place) (10 ∷ []), length-append (codes "bad") (space ∷ decimal place))

-- the numbers of a store are below 2 ^ 62, and there are few branches
stat_idle_short : (store : Held) (r : Repository) → IsOf store r → IsLong (Reply.Stat r.floor (next r) (len r.branches) None) → ⊥
unfolding reply_text
stat_idle_short store r is long =
    let next_high : next r < 10 ^ 20 = omega (arith, is.next, is.slot.next, is.slot.ends) in
    let floor_high : r.floor < 10 ^ 20 = omega (arith, is.floor, is.slot.floor, is.slot.next, is.slot.ends) in
    let branches_high : len r.branches < 10 ^ 20 = omega (arith, is.retained.few) in
    let a : length (decimal r.floor) ≤ 20 = length-decimal-le 20 r.floor (omega arith) floor_high (omega (arith, floor_high)) in
    let b : length (decimal (next r)) ≤ 20 = length-decimal-le 20 (next r) (omega arith) next_high (omega (arith, is.next, is.slot.next, is.slot.ends)) in
    let c : length (decimal (len r.branches)) ≤ 20 = length-decimal-le 20 (len r.branches) (omega arith) branches_high (omega (arith, branches_high)) in
    let last : Bytes = decimal (len r.branches) ++ space ∷ codes "idle" in
    let middle : Bytes = decimal (next r) ++ space ∷ last in
    let words : Bytes = decimal r.floor ++ space ∷ middle in
    omega (arith, long, a, b, c, length-append (decimal (len r.branches)) (space ∷ codes "idle"), length-append (decimal (next r)) (space ∷ last), length-append (decimal r.floor) (space ∷ middle), length-append words (10 ∷ []))

stat_at_short : (store : Held) (r : Repository) (commit : ℕ) → IsOf store r → commit < next r → IsLong (Reply.Stat r.floor (next r) (len r.branches) (Some commit)) → ⊥
unfolding reply_text
stat_at_short store r commit is below long =
    let next_high : next r < 10 ^ 20 = omega (arith, is.next, is.slot.next, is.slot.ends) in
    let floor_high : r.floor < 10 ^ 20 = omega (arith, is.floor, is.slot.floor, is.slot.next, is.slot.ends) in
    let branches_high : len r.branches < 10 ^ 20 = omega (arith, is.retained.few) in
    let a : length (decimal r.floor) ≤ 20 = length-decimal-le 20 r.floor (omega arith) floor_high (omega (arith, floor_high)) in
    let b : length (decimal (next r)) ≤ 20 = length-decimal-le 20 (next r) (omega arith) next_high (omega (arith, is.next, is.slot.next, is.slot.ends)) in
    let c : length (decimal (len r.branches)) ≤ 20 = length-decimal-le 20 (len r.branches) (omega arith) branches_high (omega (arith, branches_high)) in
    let d : length (decimal commit) ≤ 20 = length-decimal-le 20 commit (omega arith) (omega (arith, below, next_high)) (omega (arith, below, next_high)) in
    let number : Bytes = codes "at" ++ space ∷ decimal commit in
    let last : Bytes = decimal (len r.branches) ++ space ∷ number in
    let middle : Bytes = decimal (next r) ++ space ∷ last in
    let words : Bytes = decimal r.floor ++ space ∷ middle in
    omega (arith, long, a, b, c, d, length-append (codes "at") (space ∷ decimal commit), length-append (decimal (len r.branches)) (space ∷ number), length-append (decimal (next r)) (space ∷ last), length-append (decimal r.floor) (space ∷ middle), length-append words (10 ∷ []))

pub stat_is_short : (store : Held) (r : Repository) → IsOf store r → IsLong (stat_of r (phase_of store.collection)) → ⊥
stat_is_short store r is = by store.collection is.phase
  where
    by : (o : Option Collection) → IsPhaseOf store.slot r o → IsLong (stat_of r (phase_of o)) → ⊥
    by None phase = stat_idle_short store r is
    by (Some c) phase = stat_at_short store r c.commit is (retained_is r c.commit phase.retained).1

-- of a number that the store has, as that of a commit that was given up
pub given_is_short : (store : Held) (r : Repository) → IsOf store r → (number : ℕ) → number < r.floor → IsLong (Reply.GivenUp number) → ⊥
unfolding reply_text
given_is_short store r is number below long =
    let high : number < 10 ^ 20 = omega (arith, below, is.floor, is.slot.floor, is.slot.next, is.slot.ends) in
    let a : length (decimal number) ≤ 20 = length-decimal-le 20 number (omega arith) high (omega (arith, high)) in
    omega (arith, long, a, length-append (codes "given-up") (space ∷ decimal number), length-append (codes "given-up" ++ space ∷ decimal number) (10 ∷ []))

-- ---- lines

-- a place where the line goes wrong
pub bad_line : (rule : Rule) (s : State) (line : Bytes) (place : ℕ) → IsBadAt IsLineOf line place → LineStep IsLineOf rule s line (conditions_of (met_only false)) (Reply.Bad place) s
bad_line rule s line place bad = inr (record { at = place; bad = bad; unasked = refl; refused = λ h. absurd (cc h); reply_is = refl; same = refl })

abbrev pub has_space : Bytes → Bool
has_space line = list_any (λ b. b == space) line

-- a line of more than one word may be refused memory
pub line_refused : (rule : Rule) (r : Repository) (phase : Phase) (w : Work) (line : Bytes) → ((command : Command) × IsLineOf command line) ⊎ ((place : ℕ) × IsBadAt IsLineOf line place) → has_space line ≡ true
    → LineStep IsLineOf rule (at r phase w) line (conditions_of (met_only true)) Reply.Memory (at r phase w)
line_refused rule r phase w line (inr (place, bad)) words = inr (record { at = place; bad = bad; unasked = refl; refused = λ h. words; reply_is = refl; same = refl })
line_refused rule r phase w line (inl (Command.Empty, is)) words = let one : has_space line ≡ false = ap has_space is in absurd (cc (one, words))
line_refused rule r phase w line (inl (Command.Look, is)) words = let one : has_space line ≡ false = ap has_space is in absurd (cc (one, words))
line_refused rule r phase w line (inl (Command.Finish, is)) words = let one : has_space line ≡ false = ap has_space is in absurd (cc (one, words))
line_refused rule r phase w line (inl (Command.Stat, is)) words = let one : has_space line ≡ false = ap has_space is in absurd (cc (one, words))
line_refused rule r phase w line (inl (Command.Cancel, is)) words = let one : has_space line ≡ false = ap has_space is in absurd (cc (one, words))
line_refused rule r phase w line (inl (Command.Set path bytes, is)) words = inl (Command.Set path bytes, is, set_refused path bytes r phase w)
line_refused rule r phase w line (inl (Command.Get path, is)) words = inl (Command.Get path, is, get_refused path r phase w)
line_refused rule r phase w line (inl (Command.Checkout target, is)) words = inl (Command.Checkout target, is, checkout_refused target r phase w)
line_refused rule r phase w line (inl (Command.Rm path, is)) words = inl (Command.Rm path, is, rm_refused path r phase w)
line_refused rule r phase w line (inl (Command.Graft target from to, is)) words = inl (Command.Graft target from to, is, graft_refused target from to r phase w)
line_refused rule r phase w line (inl (Command.List path, is)) words = inl (Command.List path, is, list_refused path r phase w)
line_refused rule r phase w line (inl (Command.Cat target path, is)) words = inl (Command.Cat target path, is, cat_refused target path r phase w)
line_refused rule r phase w line (inl (Command.Commit branch info, is)) words = inl (Command.Commit branch info, is, commit_refused branch info r phase w)
line_refused rule r phase w line (inl (Command.Merge target branch info, is)) words = inl (Command.Merge target branch info, is, merge_refused target branch info r phase w)
line_refused rule r phase w line (inl (Command.Parent target, is)) words = inl (Command.Parent target, is, parent_refused target r phase w)
line_refused rule r phase w line (inl (Command.Branch name target, is)) words = inl (Command.Branch name target, is, branch_refused name target r phase w)
line_refused rule r phase w line (inl (Command.BranchRm name, is)) words = inl (Command.BranchRm name, is, branch_rm_refused name r phase w)
line_refused rule r phase w line (inl (Command.Branches, is)) words = inl (Command.Branches, is, branches_refused r phase w)
line_refused rule r phase w line (inl (Command.Show target, is)) words = inl (Command.Show target, is, show_refused target r phase w)
line_refused rule r phase w line (inl (Command.Log target, is)) words = inl (Command.Log target, is, log_refused target r phase w)
line_refused rule r phase w line (inl (Command.Lcas one other, is)) words = inl (Command.Lcas one other, is, lcas_refused one other r phase w)
line_refused rule r phase w line (inl (Command.Hash bytes, is)) words = inl (Command.Hash bytes, is, hash_refused bytes r phase w)
line_refused rule r phase w line (inl (Command.Collect target, is)) words = inl (Command.Collect target, is, collect_refused target r phase w)

-- memory was refused, so there was more than one word
pub has_words : (line : Bytes) (fault : LineFault) → fault ≡ LineFault.Memory → (IsFalse (has_space line) → ◌≢◌ {A = Result Command LineFault} (Err fault) (Err LineFault.Memory)) → has_space line ≡ true
has_words line fault is one = by_test (has_space line) one
  where
    by_test : (b : Bool) → (IsFalse b → ◌≢◌ {A = Result Command LineFault} (Err fault) (Err LineFault.Memory)) → b ≡ true
    by_test true h = refl
    by_test false h = absurd (h refl (ap Err is))
