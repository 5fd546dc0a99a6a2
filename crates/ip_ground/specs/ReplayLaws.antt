-- What each list of events keeps.
use Rattle.std.specs.Prelude.{◌≡◌, ℕ, Bool, true, false, if◌then◌else◌, ◌==◌, MatchBool, List, [], ◌∷◌, length, None, refl}
use Rattle.std.proofs.Common.{inl, inr, sym, ◌∙◌, subst, ap, arith}
use Rattle.std.proofs.lemmas.List.{take_all}
use Rattle.ip_ground.specs.declared.names.FileName.{FileName}
use Rattle.ip_ground.specs.declared.names.FileName.TheVariants.{Control, Chunk, Prefix, Mapping, Done}
use Rattle.ip_ground.specs.declared.event.Event.{Event}
use Rattle.ip_ground.specs.declared.event.Event.TheVariants.{Passed, Wrote, Failed, Synced, Removed, Lent, Settled, Said, Changed, Stopped}
use Rattle.ip_ground.specs.Contents.{Content, Image, written, Torn}
use Rattle.ip_ground.specs.Custody.{Custody, own, lent, settled, custody_of, IsForeign, IsLoose, is_same_file, with_synced, after_sync, after_settle}
use Rattle.ip_ground.specs.Writing.{torn_written_anywhere}
use Rattle.ip_ground.specs.Files.{same_number, no_true, same_file}
use Rattle.std.proofs.lemmas.Bool.Decides.{nat_tests}
use Rattle.ip_ground.specs.Replay.{State, is_of_attempt, with_held, with_left, with_lending, with_write, left_by_sync, left_by_stop, changed_by_child, content_of, after, blank, replayed, told_by}
use Rattle.ip_ground.specs.Told.{IsPossibleNow}

-- a write that changes nothing is one that may be cut short so
pub torn_itself : (at n : ℕ) (content : Content) → Torn at n content content
torn_itself at n content = record { before = λ p in_old lt. refl; behind = λ p in_old ge. refl; no_shorter = omega arith; no_longer = omega arith; present = λ is. is }

-- What the files read as is possible, and what was synced last, and of a loose file everything is.
pub record Lawful (s : State) : Type 0 where
  pub possible : (file : FileName) → s.may_leave file (s.held file)
  pub durable : (file : FileName) → s.may_leave file (s.durable file)
  pub loose : (file : FileName) (content : Content) → IsLoose (custody_of s.lending file) file → s.may_leave file content

-- one file's place, and all others
in_place : (b : Bool) (P Q : Content → Type 0) (x y : Content) → P x → Q y → MatchBool b (P (if b then x else y)) (Q (if b then x else y))
in_place true P Q x y here there = here
in_place false P Q x y here there = there

by_place : (b : Bool) (P Q : Type 0) → (b ≡ true → P) → (b ≡ false → Q) → MatchBool b P Q
by_place true P Q here there = here refl
by_place false P Q here there = there refl

module _ (s : State) (lawful : Lawful s) where
  -- where one file is made this, which is then possible, and nothing becomes loose
  one_made : (file : FileName) (made : Content) (these : Content → Type 0) (writes : FileName → ℕ) → these made → these (s.durable file) → ((content : Content) → IsLoose (custody_of s.lending file) file → these content)
      → Lawful (record s { held = with_held file made s.held; may_leave = with_left file these s.may_leave; writes = writes })
  one_made file made these writes here there any = record {
    durable = λ g. by_place (is_same_file g file) (these (s.durable g)) (s.may_leave g (s.durable g)) (λ same. subst (λ f. these (s.durable f)) (sym (same_file g file same)) there) (λ other. lawful.durable g);
    possible = λ g. in_place (is_same_file g file) these (s.may_leave g) made (s.held g) here (lawful.possible g);
    loose = λ g x is. by_place (is_same_file g file) (these x) (s.may_leave g x) (λ same. any x (subst (λ f. IsLoose (custody_of s.lending f) f) (same_file g file same) is)) (λ other. lawful.loose g x is);
  }

  -- where one file stays, and more is possible
  one_stays : (file : FileName) (these : Content → Type 0) (writes : FileName → ℕ) → these (s.held file) → these (s.durable file) → ((content : Content) → IsLoose (custody_of s.lending file) file → these content)
      → Lawful (record s { may_leave = with_left file these s.may_leave; writes = writes })
  one_stays file these writes here there any = record {
    durable = λ g. by_place (is_same_file g file) (these (s.durable g)) (s.may_leave g (s.durable g)) (λ same. subst (λ f. these (s.durable f)) (sym (same_file g file same)) there) (λ other. lawful.durable g);
    possible = λ g. by_place (is_same_file g file) (these (s.held g)) (s.may_leave g (s.held g)) (λ same. subst (λ f. these (s.held f)) (sym (same_file g file same)) here) (λ other. lawful.possible g);
    loose = λ g x is. by_place (is_same_file g file) (these x) (s.may_leave g x) (λ same. any x (subst (λ f. IsLoose (custody_of s.lending f) f) (same_file g file same) is)) (λ other. lawful.loose g x is);
  }

  changed : (file : FileName) (content : Content) → Lawful (record s { held = with_held file (changed_by_child (custody_of s.lending file) (s.held file) content) s.held })
  changed file content = record {
    possible = λ g. made g (is_same_file g file) refl;
    durable = lawful.durable;
    loose = lawful.loose;
  }
    where
      by_custody : (custody : Custody) → custody_of s.lending file ≡ custody → s.may_leave file (changed_by_child custody (s.held file) content)
      by_custody own is = lawful.possible file
      by_custody lent is = lawful.loose file content (subst (λ st. IsLoose st file) (sym is) tt)
      by_custody (settled pair synced) is = lawful.possible file

      made : (g : FileName) (b : Bool) → is_same_file g file ≡ b → s.may_leave g (if b then changed_by_child (custody_of s.lending file) (s.held file) content else s.held g)
      made g true same = subst (λ f. s.may_leave f (changed_by_child (custody_of s.lending file) (s.held file) content)) (sym (same_file g file same)) (by_custody (custody_of s.lending file) refl)
      made g false other = lawful.possible g

no_both : (b : Bool) → b ≡ false → b ≡ true → ⊥
no_both b is_false is_true = no_true (sym is_false ∙ is_true)

-- what is loose after a sync was so before, and is another file or is lent
sync_custody : (file g : FileName) (custody : Custody) → IsLoose (with_synced file custody) g → IsLoose custody g × (is_same_file g file ≡ true → IsForeign custody)
sync_custody file g own loose = absurd loose
sync_custody file g lent loose = (tt, λ same. tt)
sync_custody file g (settled held synced) loose = by_test (is_same_file g file) loose
  where
    by_test : (b : Bool) → (if b then true else synced g) ≡ false → (synced g ≡ false) × (b ≡ true → ⊥)
    by_test true not = absurd (no_true (sym not))
    by_test false is = (is, λ same. no_true same)

sync_if : (b : Bool) (file g : FileName) (custody : Custody) → (b ≡ false → is_same_file g file ≡ true → ⊥) → IsLoose (if b then with_synced file custody else custody) g → IsLoose custody g × (is_same_file g file ≡ true → IsForeign custody)
sync_if true file g custody apart loose = sync_custody file g custody loose
sync_if false file g custody apart loose = (loose, λ same. absurd (apart refl same))

other_way : (m n : ℕ) → (m == n) ≡ false → (n == m) ≡ true → ⊥
other_way m n not is = grind (arith, nat_tests)

pub loose_synced : (lending : ℕ → Custody) (file g : FileName) → IsLoose (custody_of (λ n. after_sync file n (lending n)) g) g → IsLoose (custody_of lending g) g × (is_same_file g file ≡ true → IsForeign (custody_of lending g))
loose_synced lending file Control loose = absurd loose
loose_synced lending file (Chunk n) loose = absurd loose
loose_synced lending Control (Prefix n) loose = (loose, λ same. no_true same)
loose_synced lending (Chunk m) (Prefix n) loose = (loose, λ same. no_true same)
loose_synced lending (Prefix m) (Prefix n) loose = sync_if (m == n) (Prefix m) (Prefix n) (lending n) (other_way m n) loose
loose_synced lending (Mapping m) (Prefix n) loose = sync_if (m == n) (Mapping m) (Prefix n) (lending n) (λ not same. no_true same) loose
loose_synced lending (Done m) (Prefix n) loose = sync_if (m == n) (Done m) (Prefix n) (lending n) (λ not same. no_true same) loose
loose_synced lending Control (Mapping n) loose = (loose, λ same. no_true same)
loose_synced lending (Chunk m) (Mapping n) loose = (loose, λ same. no_true same)
loose_synced lending (Prefix m) (Mapping n) loose = sync_if (m == n) (Prefix m) (Mapping n) (lending n) (λ not same. no_true same) loose
loose_synced lending (Mapping m) (Mapping n) loose = sync_if (m == n) (Mapping m) (Mapping n) (lending n) (other_way m n) loose
loose_synced lending (Done m) (Mapping n) loose = sync_if (m == n) (Done m) (Mapping n) (lending n) (λ not same. no_true same) loose
loose_synced lending Control (Done n) loose = (loose, λ same. no_true same)
loose_synced lending (Chunk m) (Done n) loose = (loose, λ same. no_true same)
loose_synced lending (Prefix m) (Done n) loose = sync_if (m == n) (Prefix m) (Done n) (lending n) (λ not same. no_true same) loose
loose_synced lending (Mapping m) (Done n) loose = sync_if (m == n) (Mapping m) (Done n) (lending n) (λ not same. no_true same) loose
loose_synced lending (Done m) (Done n) loose = sync_if (m == n) (Done m) (Done n) (lending n) (other_way m n) loose

-- the files of other attempts
pub lending_other : (lending : ℕ → Custody) (attempt : ℕ) (custody : Custody) (g : FileName) → is_of_attempt attempt g ≡ false → custody_of (with_lending attempt custody lending) g ≡ custody_of lending g
lending_other lending attempt custody Control other = refl
lending_other lending attempt custody (Chunk n) other = refl
lending_other lending attempt custody (Prefix n) other = ap (λ (b : Bool). if b then custody else lending n) other
lending_other lending attempt custody (Mapping n) other = ap (λ (b : Bool). if b then custody else lending n) other
lending_other lending attempt custody (Done n) other = ap (λ (b : Bool). if b then custody else lending n) other

-- the files of this attempt
pub lending_here : (lending : ℕ → Custody) (attempt : ℕ) (custody : Custody) (g : FileName) → is_of_attempt attempt g ≡ true → custody_of (with_lending attempt custody lending) g ≡ custody
lending_here lending attempt custody Control here = no_true here
lending_here lending attempt custody (Chunk n) here = no_true here
lending_here lending attempt custody (Prefix n) here = ap (λ (b : Bool). if b then custody else lending n) here
lending_here lending attempt custody (Mapping n) here = ap (λ (b : Bool). if b then custody else lending n) here
lending_here lending attempt custody (Done n) here = ap (λ (b : Bool). if b then custody else lending n) here

pub lending_was : (lending : ℕ → Custody) (attempt : ℕ) (g : FileName) → is_of_attempt attempt g ≡ true → custody_of lending g ≡ lending attempt
lending_was lending attempt Control here = no_true here
lending_was lending attempt (Chunk n) here = no_true here
lending_was lending attempt (Prefix n) here = ap lending (same_number n attempt here)
lending_was lending attempt (Mapping n) here = ap lending (same_number n attempt here)
lending_was lending attempt (Done n) here = ap lending (same_number n attempt here)

settle_loose : (now : Image) (custody : Custody) (g : FileName) → IsLoose (after_settle now custody) g → IsLoose custody g
settle_loose now own g loose = loose
settle_loose now lent g loose = tt
settle_loose now (settled held synced) g loose = loose

-- settling makes no file loose
pub loose_settled : (lending : ℕ → Custody) (now : Image) (attempt : ℕ) (g : FileName) → IsLoose (custody_of (with_lending attempt (after_settle now (lending attempt)) lending) g) g → IsLoose (custody_of lending g) g
loose_settled lending now attempt g loose = by_test (is_of_attempt attempt g) refl
  where
    by_test : (b : Bool) → is_of_attempt attempt g ≡ b → IsLoose (custody_of lending g) g
    by_test true here =
        subst (λ st. IsLoose st g) (sym (lending_was lending attempt g here)) (settle_loose now (lending attempt) g (subst (λ st. IsLoose st g) (lending_here lending attempt (after_settle now (lending attempt)) g here) loose))
    by_test false other = subst (λ st. IsLoose st g) (lending_other lending attempt (after_settle now (lending attempt)) g other) loose

synced_here : (custody : Custody) (held : Content) (before : Content → Type 0) → before held → left_by_sync custody held before held
synced_here own held before here = refl
synced_here lent held before here = here
synced_here (settled pair synced) held before here = refl

synced_foreign : (custody : Custody) (held : Content) (before : Content → Type 0) (x : Content) → IsForeign custody → before x → left_by_sync custody held before x
synced_foreign own held before x foreign so = absurd foreign
synced_foreign lent held before x foreign so = so
synced_foreign (settled pair synced) held before x foreign so = absurd foreign

stopped_here : (custody : Custody) (file : FileName) (durable : Content) (before : Content → Type 0) → before durable → left_by_stop custody file durable before durable
stopped_here own file durable before here = refl
stopped_here lent file durable before here = here
stopped_here (settled pair synced) file durable before here = by_place (synced file) (durable ≡ durable) (before durable) (λ is. refl) (λ is. here)

stopped_loose : (custody : Custody) (file : FileName) (durable : Content) (before : Content → Type 0) (x : Content) → IsLoose custody file → before x → left_by_stop custody file durable before x
stopped_loose own file durable before x loose so = absurd loose
stopped_loose lent file durable before x loose so = so
stopped_loose (settled pair synced) file durable before x loose so = by_place (synced file) (x ≡ durable) (before x) (λ is. no_true (sym loose ∙ is)) (λ is. so)

pub lawful_after : (event : Event) (s : State) → Lawful s → Lawful (after event s)
lawful_after Passed s lawful = record { possible = lawful.possible; durable = lawful.durable; loose = lawful.loose }
lawful_after (Wrote file at bytes) s lawful =
    one_made s lawful file (written (s.held file) at bytes.items) _ (with_write file s.writes) (s.held file, lawful.possible file, torn_written_anywhere (s.held file) at bytes.items) (s.durable file, lawful.durable file, torn_itself at (length bytes.items) (s.durable file)) (λ x loose. (x, lawful.loose file x loose, torn_itself at (length bytes.items) x))
lawful_after (Failed file at count) s lawful =
    one_stays s lawful file _ (with_write file s.writes) (s.held file, lawful.possible file, torn_itself at count (s.held file)) (s.durable file, lawful.durable file, torn_itself at count (s.durable file)) (λ x loose. (x, lawful.loose file x loose, torn_itself at count x))
lawful_after (Synced file) s lawful =
    let these : Content → Type 0 = left_by_sync (custody_of s.lending file) (s.held file) (s.may_leave file) in
    record {
      possible = λ g. by_place (is_same_file g file) (these (s.held g)) (s.may_leave g (s.held g))
          (λ same. subst (λ f. these (s.held f)) (sym (same_file g file same)) (synced_here (custody_of s.lending file) (s.held file) (s.may_leave file) (lawful.possible file))) (λ other. lawful.possible g);
      durable = λ g. in_place (is_same_file g file) these (s.may_leave g) (s.held file) (s.durable g) (synced_here (custody_of s.lending file) (s.held file) (s.may_leave file) (lawful.possible file)) (lawful.durable g);
      loose = λ g x is. let was = loose_synced s.lending file g is in by_place (is_same_file g file) (these x) (s.may_leave g x)
          (λ same. let is_file = same_file g file same in synced_foreign (custody_of s.lending file) (s.held file) (s.may_leave file) x (subst (λ f. IsForeign (custody_of s.lending f)) is_file (was.1 same)) (lawful.loose file x (subst (λ f. IsLoose (custody_of s.lending f) f) is_file was.0)))
          (λ other. lawful.loose g x was.0);
    }
lawful_after (Removed file) s lawful = one_made s lawful file None _ s.writes (inr refl) (inl (lawful.durable file)) (λ x loose. inl (lawful.loose file x loose))
lawful_after (Lent attempt) s lawful = record {
  possible = λ g. by_place (is_of_attempt attempt g) (Unit {0}) (s.may_leave g (s.held g)) (λ here. tt) (λ other. lawful.possible g);
  durable = λ g. by_place (is_of_attempt attempt g) (Unit {0}) (s.may_leave g (s.durable g)) (λ here. tt) (λ other. lawful.durable g);
  loose = λ g x is. by_place (is_of_attempt attempt g) (Unit {0}) (s.may_leave g x) (λ here. tt) (λ other. lawful.loose g x (subst (λ st. IsLoose st g) (lending_other s.lending attempt lent g other) is));
}
lawful_after (Settled attempt) s lawful = record { possible = lawful.possible; durable = lawful.durable; loose = λ g x is. lawful.loose g x (loose_settled s.lending s.held attempt g is) }
lawful_after (Said bytes) s lawful = record { possible = lawful.possible; durable = lawful.durable; loose = lawful.loose }
lawful_after (Stopped true) s lawful = record { possible = lawful.possible; durable = lawful.durable; loose = lawful.loose }
lawful_after (Stopped false) s lawful = record {
  possible = λ f. stopped_here (custody_of s.lending f) f (s.durable f) (s.may_leave f) (lawful.durable f);
  durable = λ f. stopped_here (custody_of s.lending f) f (s.durable f) (s.may_leave f) (lawful.durable f);
  loose = λ f x loose. stopped_loose (custody_of s.lending f) f (s.durable f) (s.may_leave f) x loose (lawful.loose f x loose);
}
lawful_after (Changed file bytes) s lawful = changed s lawful file (content_of bytes)

pub lawful_replayed : (s : State) (events : List Event) → Lawful s → Lawful (replayed s events)
lawful_replayed s [] lawful = lawful
lawful_replayed s (event ∷ events) lawful = lawful_replayed (after event s) events (lawful_after event s lawful)

-- what a log tells is possible
lawful_blank : Lawful blank
lawful_blank = record { possible = λ f. refl; durable = λ f. refl; loose = λ f x loose. absurd (none f loose) }
  where
    none : (f : FileName) → IsLoose (custody_of (λ n. own) f) f → ⊥
    none Control loose = loose
    none (Chunk n) loose = loose
    none (Prefix n) loose = loose
    none (Mapping n) loose = loose
    none (Done n) loose = loose

pub lawful_log : (log : List Event) → Lawful (replayed blank log)
lawful_log log = lawful_replayed blank log lawful_blank

pub possible_by : (log : List Event) → IsPossibleNow (told_by log)
possible_by log f = subst (λ l. (replayed blank l).may_leave f ((replayed blank log).held f)) (sym (take_all (length log) log (omega arith))) ((lawful_log log).possible f)
