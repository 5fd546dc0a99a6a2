-- Each event is what the call that it stands for says.
use Rattle.std.proofs.Common.{◌≡◌, ◌≢◌, ◌⊎◌, inl, inr, ℕ, ◌+◌, ◌<◌, ◌≤◌, Bool, true, false, List, [], ◌∷◌, ◌++◌, length, take, Vec, Option, None, refl, sym, ◌∙◌, ap, subst, arith, length-append}
use Rattle.std.specs.Prelude.{Ok, Err, MatchBool, if◌then◌else◌, ◌==◌}
use Rattle.std.specs.declared.alloc.Global.{Global}
use Rattle.std.proofs.lemmas.Bool.Decides.{nat_tests}
use Rattle.std.proofs.lemmas.List.{take_all, take-append-le}
use Rattle.ip_ground.specs.declared.names.FileName.{FileName}
use Rattle.ip_ground.specs.declared.names.FileName.TheVariants.{Control, Chunk, Prefix, Mapping, Done}
use Rattle.ip_ground.specs.declared.names.GroundFault.{GroundFault}
use Rattle.ip_ground.specs.declared.event.Event.{Event}
use Rattle.ip_ground.specs.declared.event.Event.TheVariants.{Passed, Wrote, Failed, Synced, Removed, Lent, Settled, Said, Changed, Stopped}
use Rattle.ip_ground.specs.Contents.{Content, Image, written, Torn}
use Rattle.ip_ground.specs.Custody.{Custody, own, lent, settled, custody_of, is_same_file, IsOfAttempt, with_synced, after_sync, after_settle}
use Rattle.ip_ground.specs.Custody as custody
use Rattle.ip_ground.specs.Files.{no_true, number_itself, file_itself, cases_file, other_file}
use Rattle.ip_ground.specs.Told.{said, lending, IsForeign, IsLoose, KeepsPast, ChangesLeft, SyncsAtMost, KeepsFile, KeepsSaid, KeepsCustody, TurnsCustody, Only, NoFile, ChangesOnly, Reopens}
use Rattle.ip_ground.specs.Calls.{Writes, Syncs, Removes, Lends, Settles, Says}
use Rattle.ip_ground.specs.Replay.{State, is_of_attempt, with_held, with_left, with_lending, with_write, left_by_sync, left_by_stop, changed_by_child, content_of, after, said_after, blank, replayed, told_by}
use Rattle.ip_ground.specs.ReplayLaws.{lawful_log, torn_itself, loose_synced, loose_settled, lending_other, lending_here, lending_was}

pub replayed_push : (s : State) (log : List Event) (event : Event) → replayed s (log ++ event ∷ []) ≡ after event (replayed s log)
replayed_push s [] event = refl
replayed_push s (first ∷ log) event = replayed_push (after first s) log event

-- the custody that is told now
pub told_lending : (log : List Event) → lending (told_by log) ≡ (replayed blank log).lending
told_lending log = ap (λ l. (replayed blank l).lending) (take_all (length log) log (omega arith))

pub lending_told : (log : List Event) (n : ℕ) → lending (told_by log) n ≡ (replayed blank log).lending n
lending_told log n = ap (λ (l : ℕ → Custody). l n) (told_lending log)

said_next : (event : Event) (s : State) → said_after event s.said ≡ (after event s).said
said_next Passed s = refl
said_next (Wrote file at bytes) s = refl
said_next (Failed file at count) s = refl
said_next (Synced file) s = refl
said_next (Removed file) s = refl
said_next (Lent attempt) s = refl
said_next (Settled attempt) s = refl
said_next (Said bytes) s = refl
said_next (Changed file bytes) s = refl
said_next (Stopped true) s = refl
said_next (Stopped false) s = refl

pub said_more : (log more : List Event) (event : Event) (before after : List ℕ) → more ≡ log ++ event ∷ [] → before ≡ (replayed blank log).said → after ≡ said_after event before → after ≡ (replayed blank more).said
said_more log more event before after is was so =
    so ∙ ap (said_after event) was ∙ said_next event (replayed blank log) ∙ sym (ap (λ (s : State). s.said) (replayed_push blank log event)) ∙ sym (ap (λ l. (replayed blank l).said) is)

-- one file from a state to the next
record StaysIn (old new : State) (file : FileName) : Type 0 where
  unwritten : new.writes file ≡ old.writes file
  held : ¬ custody.IsForeign (custody_of old.lending file) → new.held file ≡ old.held file
  left : ¬ custody.IsLoose (custody_of old.lending file) file → (x : Content) → new.may_leave file x → old.may_leave file x
  own : ¬ custody.IsForeign (custody_of old.lending file) → ¬ custody.IsForeign (custody_of new.lending file)
  firm : ¬ custody.IsLoose (custody_of old.lending file) file → ¬ custody.IsLoose (custody_of new.lending file) file

module _ (log : List Event) (event : Event) where
  abbrev old : State
  old = replayed blank log

  abbrev new : State
  new = after event old

  abbrev longer : List Event
  longer = log ++ event ∷ []

  pushed : replayed blank longer ≡ new
  pushed = replayed_push blank log event

  longer_size : length longer ≡ length log + 1
  longer_size = length-append log (event ∷ [])

  earlier : (t : ℕ) → t ≤ length log → take t longer ≡ take t log
  earlier t le = take-append-le t log (event ∷ []) le

  -- the state now
  from_now : (f : FileName) (x : Content) → old.may_leave f x → (told_by log).may_leave (length log) f x
  from_now f x so = subst (λ l. (replayed blank l).may_leave f x) (sym (take_all (length log) log (omega arith))) so

  to_now : (f : FileName) (x : Content) → (told_by log).may_leave (length log) f x → old.may_leave f x
  to_now f x so = subst (λ l. (replayed blank l).may_leave f x) (take_all (length log) log (omega arith)) so

  -- the one moment since
  last : (t : ℕ) → length log < t → t ≤ length longer → take t longer ≡ longer
  last t since le = take_all t longer (omega (arith, longer_size))

  at_last : (t : ℕ) (f : FileName) (x : Content) → length log < t → t ≤ length longer → (told_by longer).may_leave t f x → new.may_leave f x
  at_last t f x since le so = subst (λ (s : State). s.may_leave f x) pushed (subst (λ l. (replayed blank l).may_leave f x) (last t since le) so)

  to_last : (t : ℕ) (f : FileName) (x : Content) → length log < t → t ≤ length longer → new.may_leave f x → (told_by longer).may_leave t f x
  to_last t f x since le so = subst (λ l. (replayed blank l).may_leave f x) (sym (last t since le)) (subst (λ (s : State). s.may_leave f x) (sym pushed) so)

  pub goes : KeepsPast (told_by log) (told_by longer)
  goes = record {
    later = omega (arith, longer_size);
    left = λ t f x le left. subst (λ l. (replayed blank l).may_leave f x) (earlier t le) left;
    still_left = λ t f x le left. subst (λ l. (replayed blank l).may_leave f x) (sym (earlier t le)) left;
    said = λ t le. ap (λ l. (replayed blank l).said) (earlier t le);
    lending = λ t n le. ap (λ l. (replayed blank l).lending n) (earlier t le);
    beside = λ i. (told_by log).beside;
  }

  pub advances : length log < length longer
  advances = omega (arith, longer_size)

  said_old : said (told_by log) ≡ old.said
  said_old = ap (λ l. (replayed blank l).said) (take_all (length log) log (omega arith))

  said_last : (t : ℕ) → length log < t → t ≤ length longer → (told_by longer).said_at t ≡ new.said
  said_last t since le = ap (λ l. (replayed blank l).said) (last t since le) ∙ ap (λ (s : State). s.said) pushed

  quiet : new.said ≡ old.said → KeepsSaid (told_by log) (told_by longer)
  quiet same t since le = said_last t since le ∙ same ∙ sym said_old

  new_lending : lending (told_by longer) ≡ new.lending
  new_lending = told_lending longer ∙ ap (λ (s : State). s.lending) pushed

  lending_new : (n : ℕ) → lending (told_by longer) n ≡ new.lending n
  lending_new n = ap (λ (l : ℕ → Custody). l n) new_lending

  lending_last : (t n : ℕ) → length log < t → t ≤ length longer → (told_by longer).lending_at t n ≡ new.lending n
  lending_last t n since le = ap (λ l. (replayed blank l).lending n) (last t since le) ∙ ap (λ (s : State). s.lending n) pushed

  custody_by : (n : ℕ) → new.lending n ≡ old.lending n → KeepsCustody (told_by log) (told_by longer) n
  custody_by n same t since le = lending_last t n since le ∙ same ∙ sym (lending_told log n)

  turns_by : (n : ℕ) → TurnsCustody (told_by log) (told_by longer) n
  turns_by n t since le = inr (lending_last t n since le ∙ sym (lending_new n))

  -- custody as it is told, and in the states
  own_was : (f : FileName) → ¬ IsForeign (told_by log) f → ¬ custody.IsForeign (custody_of old.lending f)
  own_was f not foreign = not (subst (λ (l : ℕ → Custody). custody.IsForeign (custody_of l f)) (sym (told_lending log)) foreign)

  firm_was : (f : FileName) → ¬ IsLoose (told_by log) f → ¬ custody.IsLoose (custody_of old.lending f) f
  firm_was f not loose = not (subst (λ (l : ℕ → Custody). custody.IsLoose (custody_of l f) f) (sym (told_lending log)) loose)

  foreign_now : (f : FileName) → IsForeign (told_by longer) f → custody.IsForeign (custody_of new.lending f)
  foreign_now f foreign = subst (λ (l : ℕ → Custody). custody.IsForeign (custody_of l f)) new_lending foreign

  loose_now : (f : FileName) → IsLoose (told_by longer) f → custody.IsLoose (custody_of new.lending f) f
  loose_now f loose = subst (λ (l : ℕ → Custody). custody.IsLoose (custody_of l f) f) new_lending loose

  pub held_new : (f : FileName) → (told_by longer).held f ≡ new.held f
  held_new f = ap (λ (s : State). s.held f) pushed

  writes_new : (f : FileName) → (told_by longer).writes f ≡ new.writes f
  writes_new f = ap (λ (s : State). s.writes f) pushed

  synced_by : (f : FileName) → StaysIn old new f → SyncsAtMost (told_by log) (told_by longer) f
  synced_by f stays = record {
    unwritten = writes_new f ∙ stays.unwritten;
    held = λ own. held_new f ∙ stays.held (own_was f own);
    left = λ firm t x since le left. from_now f x (stays.left (firm_was f firm) x (at_last t f x since le left));
    own = λ own foreign. stays.own (own_was f own) (foreign_now f foreign);
    firm = λ firm loose. stays.firm (firm_was f firm) (loose_now f loose);
  }

  stays_by : (f : FileName) → StaysIn old new f → ((x : Content) → old.may_leave f x → new.may_leave f x) → KeepsFile (told_by log) (told_by longer) f
  stays_by f stays still =
      let most = synced_by f stays in
      record {
        unwritten = most.unwritten;
        held = most.held;
        left = most.left;
        still_left = λ firm t x since le left. to_last t f x since le (still x (to_now f x left));
        own = most.own;
        firm = most.firm;
      }

  only_by : (these : FileName → Type 0) → ((f : FileName) → ¬ these f → StaysIn old new f) → ((f : FileName) → ¬ these f → (x : Content) → old.may_leave f x → new.may_leave f x)
      → ((n : ℕ) → new.lending n ≡ old.lending n) → new.said ≡ old.said → ChangesOnly these (told_by log) (told_by longer)
  only_by these stays still lends same = record { goes = goes; others = λ f not. stays_by f (stays f not) (still f not); lending = λ n. custody_by n (lends n); said = quiet same }

  steps_by : (f : FileName) (step : Content → Content → Type 0) → ((x : Content) → new.may_leave f x → (before : Content) × old.may_leave f before × step before x) → ChangesLeft step (told_by log) (told_by longer) f
  steps_by f step from t x since le left = let was = from x (at_last t f x since le left) in (was.0, from_now f was.0 was.1, was.2)

not_number : (m n : ℕ) → (m ≡ n → ⊥) → (m == n) ≡ false
not_number m n ne = grind (arith, nat_tests)

stays_same : (s : State) (f : FileName) → StaysIn s s f
stays_same s f = record { unwritten = refl; held = λ own. refl; left = λ firm x so. so; own = λ own. own; firm = λ firm. firm }

-- the other files, where one file's place is changed, and of this one no write was asked for
stays_other : (s : State) (file : FileName) (made : Content) (these : Content → Type 0) (writes : FileName → ℕ) (g : FileName) → g ≢ file → writes g ≡ s.writes g
    → StaysIn s (record s { held = with_held file made s.held; may_leave = with_left file these s.may_leave; writes = writes }) g
stays_other s file made these writes g ne same = record {
  unwritten = same;
  held = λ own. ap (λ (b : Bool). if b then made else s.held g) (other_file g file ne);
  left = λ firm x so. subst (λ b. MatchBool b (these x) (s.may_leave g x)) (other_file g file ne) so;
  own = λ own. own;
  firm = λ firm. firm;
}

left_other : (s : State) (file : FileName) (these : Content → Type 0) (writes : FileName → ℕ) (g : FileName) → g ≢ file → writes g ≡ s.writes g → StaysIn s (record s { may_leave = with_left file these s.may_leave; writes = writes }) g
left_other s file these writes g ne same = record {
  unwritten = same;
  held = λ own. refl;
  left = λ firm x so. subst (λ b. MatchBool b (these x) (s.may_leave g x)) (other_file g file ne) so;
  own = λ own. own;
  firm = λ firm. firm;
}

-- what might be left of them may be so still
still_other : (s : State) (file : FileName) (these : Content → Type 0) (g : FileName) → g ≢ file → (x : Content) → s.may_leave g x → with_left file these s.may_leave g x
still_other s file these g ne x so = subst (λ b. MatchBool b (these x) (s.may_leave g x)) (sym (other_file g file ne)) so

-- writes of another file, and of this one
unwritten_other : (s : State) (file g : FileName) → g ≢ file → with_write file s.writes g ≡ s.writes g
unwritten_other s file g ne = ap (λ (b : Bool). if b then s.writes g + 1 else s.writes g) (other_file g file ne)

written_here : (s : State) (file : FileName) → with_write file s.writes file ≡ s.writes file + 1
written_here s file = ap (λ (b : Bool). if b then s.writes file + 1 else s.writes file) (file_itself file)

-- the file itself
made_here : (s : State) (file : FileName) (made : Content) → with_held file made s.held file ≡ made
made_here s file made = ap (λ (b : Bool). if b then made else s.held file) (file_itself file)

left_here : (s : State) (file : FileName) (these : Content → Type 0) (x : Content) → with_left file these s.may_leave file x → these x
left_here s file these x so = subst (λ b. MatchBool b (these x) (s.may_leave file x)) (file_itself file) so

pub passed : (log : List Event) → ChangesOnly NoFile (told_by log) (told_by (log ++ Passed ∷ []))
passed log = only_by log Passed NoFile (λ f not. stays_same (replayed blank log) f) (λ f not x so. so) (λ n. refl) refl

-- what a write leaves of its file
torn_left : State → FileName → ℕ → ℕ → Content → Type 0
torn_left s file at n = λ x. (before : Content) × s.may_leave file before × Torn at n before x

pub wrote : (log : List Event) (file : FileName) (at : ℕ) (bytes : Vec ℕ Global) → Writes file at bytes.items (Ok tt) (told_by log) (told_by (log ++ Wrote file at bytes ∷ []))
unfolding torn_left
wrote log file at bytes =
    let event : Event = Wrote file at bytes in
    let s : State = replayed blank log in
    record {
      advances = advances log event;
      only = only_by log event (Only file) (λ g ne. stays_other s file (written (s.held file) at bytes.items) (torn_left s file at (length bytes.items)) (with_write file s.writes) g ne (unwritten_other s file g ne)) (λ g ne. still_other s file (torn_left s file at (length bytes.items)) g ne) (λ n. refl) refl;
      ok = λ own. held_new log event file ∙ made_here s file (written (s.held file) at bytes.items);
      err = λ own. tt;
      left = λ firm. steps_by log event file (Torn at (length bytes.items)) (λ x so. left_here s file (torn_left s file at (length bytes.items)) x so);
      written = omega (arith, writes_new log event file ∙ written_here s file);
    }

pub failed : (log : List Event) (file : FileName) (at : ℕ) (bytes : List ℕ) (e : GroundFault) → Writes file at bytes (Err e) (told_by log) (told_by (log ++ Failed file at (length bytes) ∷ []))
unfolding torn_left
failed log file at bytes e =
    let event : Event = Failed file at (length bytes) in
    let s : State = replayed blank log in
    record {
      advances = tt;
      only = only_by log event (Only file) (λ g ne. left_other s file (torn_left s file at (length bytes)) (with_write file s.writes) g ne (unwritten_other s file g ne)) (λ g ne. still_other s file (torn_left s file at (length bytes)) g ne) (λ n. refl) refl;
      ok = λ own. tt;
      err = λ own. subst (Torn at (length bytes) (s.held file)) (sym (held_new log event file)) (torn_itself at (length bytes) (s.held file));
      left = λ firm. steps_by log event file (Torn at (length bytes)) (λ x so. left_here s file (torn_left s file at (length bytes)) x so);
      written = tt;
    }

pub removed : (log : List Event) (file : FileName) → Removes file (Ok tt) (told_by log) (told_by (log ++ Removed file ∷ []))
removed log file =
    let event : Event = Removed file in
    let s : State = replayed blank log in
    let these : Content → Type 0 = λ x. s.may_leave file x ⊎ (x ≡ None) in
    record {
      advances = advances log event;
      only = only_by log event (Only file) (λ g ne. stays_other s file None these s.writes g ne refl) (λ g ne. still_other s file these g ne) (λ n. refl) refl;
      ok = λ own. held_new log event file ∙ made_here s file None;
      err = λ own. tt;
      left = λ firm. steps_by log event file (λ before x. (x ≡ before) ⊎ (x ≡ None)) (λ x so. elim (left_here s file these x so) [
        | inl was ↦ (x, was, inl refl)
        | inr gone ↦ (s.held file, (lawful_log log).possible file, inr gone)
      ]);
      unwritten = writes_new log event file;
    }

-- no file becomes foreign by a sync or by settling
foreign_with : (file : FileName) (st : Custody) → custody.IsForeign (with_synced file st) → custody.IsForeign st
foreign_with file own foreign = foreign
foreign_with file lent foreign = foreign
foreign_with file (settled held synced) foreign = foreign

foreign_if : (b : Bool) (file : FileName) (st : Custody) → custody.IsForeign (if b then with_synced file st else st) → custody.IsForeign st
foreign_if true file st foreign = foreign_with file st foreign
foreign_if false file st foreign = foreign

foreign_after : (file : FileName) (n : ℕ) (st : Custody) → custody.IsForeign (after_sync file n st) → custody.IsForeign st
foreign_after Control n st foreign = foreign
foreign_after (Chunk m) n st foreign = foreign
foreign_after (Prefix m) n st foreign = foreign_if (m == n) (Prefix m) st foreign
foreign_after (Mapping m) n st foreign = foreign_if (m == n) (Mapping m) st foreign
foreign_after (Done m) n st foreign = foreign_if (m == n) (Done m) st foreign

foreign_synced : (lending : ℕ → Custody) (file g : FileName) → custody.IsForeign (custody_of (λ n. after_sync file n (lending n)) g) → custody.IsForeign (custody_of lending g)
foreign_synced lending file Control foreign = foreign
foreign_synced lending file (Chunk n) foreign = foreign
foreign_synced lending file (Prefix n) foreign = foreign_after file n (lending n) foreign
foreign_synced lending file (Mapping n) foreign = foreign_after file n (lending n) foreign
foreign_synced lending file (Done n) foreign = foreign_after file n (lending n) foreign

foreign_settle : (now : Image) (st : Custody) → custody.IsForeign (after_settle now st) → custody.IsForeign st
foreign_settle now own foreign = foreign
foreign_settle now lent foreign = tt
foreign_settle now (settled held synced) foreign = foreign

foreign_settled : (lending : ℕ → Custody) (now : Image) (attempt : ℕ) (g : FileName) → custody.IsForeign (custody_of (with_lending attempt (after_settle now (lending attempt)) lending) g) → custody.IsForeign (custody_of lending g)
foreign_settled lending now attempt g foreign = by_test (is_of_attempt attempt g) refl
  where
    by_test : (b : Bool) → is_of_attempt attempt g ≡ b → custody.IsForeign (custody_of lending g)
    by_test true here = subst custody.IsForeign (sym (lending_was lending attempt g here)) (foreign_settle now (lending attempt) (subst custody.IsForeign (lending_here lending attempt (after_settle now (lending attempt)) g here) foreign))
    by_test false other = subst custody.IsForeign (lending_other lending attempt (after_settle now (lending attempt)) g other) foreign

-- what a sync leaves of a file that is its owner's
kept_by_sync : (st : Custody) (held : Content) (before : Content → Type 0) (x : Content) → ¬ custody.IsForeign st → left_by_sync st held before x → x ≡ held
kept_by_sync own held before x not so = so
kept_by_sync lent held before x not so = absurd (not tt)
kept_by_sync (settled pair synced) held before x not so = so

-- and of any
sync_keeps : (st : Custody) (held : Content) (before : Content → Type 0) (x : Content) → before held → left_by_sync st held before x → before x
sync_keeps own held before x here so = subst before (sym so) here
sync_keeps lent held before x here so = so
sync_keeps (settled pair synced) held before x here so = subst before (sym so) here

-- a file that is synced, and not the child's, is not loose
firm_with : (file : FileName) (st : Custody) → ¬ custody.IsForeign st → is_same_file file file ≡ true → custody.IsLoose (with_synced file st) file → ⊥
firm_with file own not same loose = loose
firm_with file lent not same loose = not tt
firm_with file (settled held synced) not same loose = no_true (sym loose ∙ ap (λ (b : Bool). if b then true else synced file) same)

firm_if : (b : Bool) (file : FileName) (st : Custody) → b ≡ true → ¬ custody.IsForeign st → is_same_file file file ≡ true → custody.IsLoose (if b then with_synced file st else st) file → ⊥
firm_if true file st is not same loose = firm_with file st not same loose
firm_if false file st is not same loose = no_true is

firm_synced : (lending : ℕ → Custody) (file : FileName) → ¬ custody.IsForeign (custody_of lending file) → custody.IsLoose (custody_of (λ n. after_sync file n (lending n)) file) file → ⊥
firm_synced lending Control not loose = loose
firm_synced lending (Chunk m) not loose = loose
firm_synced lending (Prefix m) not loose = firm_if (m == m) (Prefix m) (lending m) (number_itself m) not (file_itself (Prefix m)) loose
firm_synced lending (Mapping m) not loose = firm_if (m == m) (Mapping m) (lending m) (number_itself m) not (file_itself (Mapping m)) loose
firm_synced lending (Done m) not loose = firm_if (m == m) (Done m) (lending m) (number_itself m) not (file_itself (Done m)) loose

pub synced : (log : List Event) (file : FileName) → Syncs file (Ok tt) (told_by log) (told_by (log ++ Synced file ∷ []))
synced log file =
    let event : Event = Synced file in
    let s : State = replayed blank log in
    let these : Content → Type 0 = left_by_sync (custody_of s.lending file) (s.held file) (s.may_leave file) in
    let most : (g : FileName) → StaysIn s (after event s) g = λ g. record {
      unwritten = refl;
      held = λ own. refl;
      left = λ firm x so. elim (cases_file g file) [
        | inl same ↦ subst (λ f. s.may_leave f x) (sym same.1) (sync_keeps (custody_of s.lending file) (s.held file) (s.may_leave file) x ((lawful_log log).possible file) (left_here s file these x (subst (λ f. with_left file these s.may_leave f x) same.1 so)))
        | inr other ↦ subst (λ b. MatchBool b (these x) (s.may_leave g x)) other so
      ];
      own = λ own foreign. own (foreign_synced s.lending file g foreign);
      firm = λ firm loose. firm (loose_synced s.lending file g loose).0;
    } in
    record {
      advances = advances log event;
      goes = goes log event;
      files = λ g. synced_by log event g (most g);
      others = λ g ne. stays_by log event g (most g) (still_other s file these g ne);
      ok = λ own x left. kept_by_sync (custody_of s.lending file) (s.held file) (s.may_leave file) x (own_was log event file own) (left_here s file these x (at_last log event (length (log ++ event ∷ [])) file x (advances log event) (omega arith) left)) ∙ sym (held_new log event file);
      firm = λ own loose. firm_synced s.lending file (own_was log event file own) (loose_now log event file loose);
      refused = tt;
      turns = turns_by log event;
      lending = λ n. lending_new log event n ∙ ap (after_sync file n) (sym (lending_told log n));
      said = quiet log event refl;
    }

not_of_attempt : (n : ℕ) (f : FileName) → ¬ IsOfAttempt n f → is_of_attempt n f ≡ false
not_of_attempt n Control not = refl
not_of_attempt n (Chunk m) not = refl
not_of_attempt n (Prefix m) not = not_number m n not
not_of_attempt n (Mapping m) not = not_number m n not
not_of_attempt n (Done m) not = not_number m n not

pub lent_event : (log : List Event) (attempt : ℕ) → Lends attempt (Ok tt) (told_by log) (told_by (log ++ Lent attempt ∷ []))
lent_event log attempt =
    let event : Event = Lent attempt in
    let s : State = replayed blank log in
    record {
      advances = advances log event;
      goes = goes log event;
      files = λ f not. let other = not_of_attempt attempt f not in let same = lending_other s.lending attempt lent f other in stays_by log event f (record {
        unwritten = refl;
        held = λ own. refl;
        left = λ firm x so. subst (λ b. MatchBool b (Unit {0}) (s.may_leave f x)) other so;
        own = λ own foreign. own (subst custody.IsForeign same foreign);
        firm = λ firm loose. firm (subst (λ st. custody.IsLoose st f) same loose);
      }) (λ x so. subst (λ b. MatchBool b (Unit {0}) (s.may_leave f x)) (sym other) so);
      unwritten = λ f. writes_new log event f;
      ok = lending_new log event attempt ∙ ap (λ (b : Bool). if b then lent else s.lending attempt) (number_itself attempt);
      err = tt;
      turns = turns_by log event attempt;
      others = λ other ne. custody_by log event other (ap (λ (b : Bool). if b then lent else s.lending other) (not_number other attempt ne));
      said = quiet log event refl;
    }

pub settled_event : (log : List Event) (attempt : ℕ) → Settles attempt (Ok tt) (told_by log) (told_by (log ++ Settled attempt ∷ []))
settled_event log attempt =
    let event : Event = Settled attempt in
    let s : State = replayed blank log in
    record {
      advances = advances log event;
      goes = goes log event;
      files = λ f. stays_by log event f (record {
        unwritten = refl;
        held = λ own. refl;
        left = λ firm x so. so;
        own = λ own foreign. own (foreign_settled s.lending s.held attempt f foreign);
        firm = λ firm loose. firm (loose_settled s.lending s.held attempt f loose);
      }) (λ x so. so);
      ok = lending_new log event attempt ∙ ap (λ (b : Bool). if b then after_settle s.held (s.lending attempt) else s.lending attempt) (number_itself attempt)
          ∙ sym (ap (λ (t : State). after_settle t.held (s.lending attempt)) (pushed log event)) ∙ ap (after_settle (told_by (log ++ event ∷ [])).held) (sym (lending_told log attempt));
      refused = tt;
      turns = turns_by log event attempt;
      others = λ other ne. custody_by log event other (ap (λ (b : Bool). if b then after_settle s.held (s.lending attempt) else s.lending other) (not_number other attempt ne));
      said = quiet log event refl;
    }

pub said_event : (log : List Event) (bytes : Vec ℕ Global) → Says bytes.items (Ok tt) (told_by log) (told_by (log ++ Said bytes ∷ []))
said_event log bytes =
    let event : Event = Said bytes in
    let s : State = replayed blank log in
    record {
      advances = advances log event;
      goes = goes log event;
      files = λ f. stays_by log event f (record { unwritten = refl; held = λ own. refl; left = λ firm x so. so; own = λ own. own; firm = λ firm. firm }) (λ x so. so);
      lending = λ n. custody_by log event n refl;
      ok = said_last log event (length (log ++ event ∷ [])) (advances log event) (omega arith) ∙ ap (λ l. l ++ bytes.items) (sym (said_old log event));
      front = λ t since le. (length bytes.items, omega arith, said_last log event t since le ∙ ap (λ l. l ++ bytes.items) (sym (said_old log event)) ∙ ap (λ l. said (told_by log) ++ l) (sym (take_all (length bytes.items) bytes.items (omega arith))));
    }

-- the child changes only what is lent
child_leaves : (st : Custody) (held content : Content) → ¬ custody.IsForeign st → changed_by_child st held content ≡ held
child_leaves own held content not = refl
child_leaves lent held content not = absurd (not tt)
child_leaves (settled pair synced) held content not = refl

pub changed : (log : List Event) (file : FileName) (bytes : Option (Vec ℕ Global)) → ChangesOnly NoFile (told_by log) (told_by (log ++ Changed file bytes ∷ []))
changed log file bytes =
    let event : Event = Changed file bytes in
    let s : State = replayed blank log in
    only_by log event NoFile (λ g not. record {
      unwritten = refl;
      held = λ own. elim (cases_file g file) [
        | inl same ↦ subst (λ f. ¬ custody.IsForeign (custody_of s.lending f) → with_held file (changed_by_child (custody_of s.lending file) (s.held file) (content_of bytes)) s.held f ≡ s.held f) (sym same.1)
            (λ not. made_here s file (changed_by_child (custody_of s.lending file) (s.held file) (content_of bytes)) ∙ child_leaves (custody_of s.lending file) (s.held file) (content_of bytes) not) own
        | inr other ↦ ap (λ (b : Bool). if b then changed_by_child (custody_of s.lending file) (s.held file) (content_of bytes) else s.held g) other
      ];
      left = λ firm x so. so;
      own = λ own. own;
      firm = λ firm. firm;
    }) (λ g not x so. so) (λ n. refl) refl

-- a stop
was_left : (st : Custody) (file : FileName) (durable : Content) (before : Content → Type 0) (x : Content) → before durable → left_by_stop st file durable before x → before x
was_left own file durable before x here so = subst before (sym so) here
was_left lent file durable before x here so = so
was_left (settled pair synced) file durable before x here so = by_test (synced file) so
  where
    by_test : (b : Bool) → MatchBool b (x ≡ durable) (before x) → before x
    by_test true same = subst before (sym same) here
    by_test false left = left

pub stopped : (log : List Event) (keep : Bool) → Reopens (told_by log) (told_by (log ++ Stopped keep ∷ []))
stopped log true =
    let event : Event = Stopped true in
    let s : State = replayed blank log in
    record {
      held = λ f. from_now log event f _ (subst (λ x. s.may_leave f x) (sym (held_new log event f)) ((lawful_log log).possible f));
      left = λ f x left. from_now log event f x (at_last log event (length (log ++ event ∷ [])) f x (advances log event) (omega arith) left);
      said = said_last log event (length (log ++ event ∷ [])) (advances log event) (omega arith);
      lending = λ n. lending_new log event n ∙ sym (lending_told log n);
    }
stopped log false =
    let event : Event = Stopped false in
    let s : State = replayed blank log in
    record {
      held = λ f. from_now log event f _ (subst (λ x. s.may_leave f x) (sym (held_new log event f)) ((lawful_log log).durable f));
      left = λ f x left. from_now log event f x (was_left (custody_of s.lending f) f (s.durable f) (s.may_leave f) x ((lawful_log log).durable f) (at_last log event (length (log ++ event ∷ [])) f x (advances log event) (omega arith) left));
      said = said_last log event (length (log ++ event ∷ [])) (advances log event) (omega arith);
      lending = λ n. lending_new log event n ∙ sym (lending_told log n);
    }
