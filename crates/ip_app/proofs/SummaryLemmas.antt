-- The end of a load: `stat` was run, and the summary was said with its reply, or a part of the two.
--     says_longer, says_both      one text said, and then another one
--     cut_along, replied_along      of a line and a text that are equal to others.      line_written      the line that was drawn
--     finish_cut      `stat` was cut short.      summed_done, summed_fault      all was said, or not all
use Rattle.std.proofs.Common.{◌≡◌, ℕ, zero, suc, ◌-◌, ◌^◌, ◌+◌, ◌<◌, ◌≤◌, List, [], ◌∷◌, ◌++◌, codes, length, take, refl, sym, ap, ◌∙◌, subst, arith, inl, inr, Bool, Ok, Err, Result, IsTrue, OnOk, append_assoc, length-append}
use Rattle.std.proofs.lemmas.Bool.{cases_lt}
use Rattle.ip_ground.specs.Counts.{Noted}
use Rattle.ip_ground.specs.declared.names.GroundFault.{GroundFault}
use Rattle.ip_ground.specs.Counts.{SayFault}
use Rattle.ip_ground.specs.declared.names.FileName.TheVariants.{Control}
use Rattle.ip_ground.specs.Told.{Told, said, IsPossibleNow, IsSynced}
use Rattle.ip_ground.specs.Calls.{Says}
use Rattle.ip_ground.proofs.Spans.{goes_on, stays_on, custody_on}
use Rattle.ip_image.specs.declared.counts.TurnCounts.{TurnCounts}
use Rattle.ip_image.specs.Pending.{NothingPending}
use Rattle.ip_spec.specs.Merge.{Rule}
use Rattle.ip_spec.specs.Path.{Bytes}
use Rattle.ip_spec.specs.Machine.{State}
use Rattle.ip_spec.specs.Repository.{Repository}
use Rattle.ip_spec.specs.Text.{reply_text}
use Rattle.ip_spec.specs.View.{View}
use Rattle.ip_held.specs.Sweeping.{KeepsFiles}
use Rattle.ip_session.specs.declared.session.Session.{Session}
use Rattle.ip_session.specs.Session.{IsWorking, state_in}
use Rattle.ip_app.specs.declared.statuses.Status.{Status}
use Rattle.ip_app.specs.declared.statuses.Status.TheVariants as status
use Rattle.ip_app.specs.Exchanging.{Replied, CutsShort}
use Rattle.ip_app.specs.Loaded.{Summed, FinishesLoad}
use Rattle.ip_app.specs.Outside.{Outside}
use Rattle.ip_app.specs.Turns.{turn_counts}
use Rattle.ip_app.proofs.Counting.{say_counts, serving_on, say_falls, falls_same, removals_on, removals_same, counts_same}
use Rattle.ip_app.proofs.Moments.{order_says, turned_moments}
use Rattle.ip_app.proofs.RanOn.{append_nil}
use Rattle.ip_app.proofs.RunLemmas.{keeps_said}
use Rattle.ip_app.proofs.SameFiles.{working_along}
use Rattle.ip_app.proofs.TurnLemmas.{told_as, exchanged_along, said_of, part_of}

pub cut_along : (rule : Rule) (s : Status) (known : Bool) (old new : Outside) (line line' : Bytes) (c c' : TurnCounts) (state : State) → CutsShort rule s known old new line c c' state → line ≡ line' → CutsShort rule s known old new line' c c' state
cut_along rule s known old new line line' c c' state h e = subst (λ (l : Bytes). CutsShort rule s known old new l c c' state) e h

pub replied_along : (rule : Rule) (known : Bool) (old new : Outside) (line line' text : Bytes) (c c' : TurnCounts) (s s' : Session) (r : Repository) (v : View) → Replied rule known old new line text c c' s s' r v → line ≡ line' → Replied rule known old new line' text c c' s s' r v
replied_along rule known old new line line' text c c' s s' r v h e = subst (λ (l : Bytes). Replied rule known old new l text c c' s s' r v) e h

pub line_written : {F : Type 0} (result : Result (Unit {0}) F) (u : Unit {0}) (now out old line : Bytes) → result ≡ Ok u → OnOk result (out ≡ old ++ line) → old ≡ [] → now ≡ out → now ≡ line
line_written (Ok a) u now out old line e h none is = is ∙ (h ∙ ap (λ (front : Bytes). front ++ line) none)
line_written (Err fault) u now out old line e h none is = absurd (cc e)

pub finish_cut : (rule : Rule) (t : Status) (known : Bool) (old new : Outside) (line : Bytes) (c c' : TurnCounts) (s s' : Session) (r : Repository) (v : View) → CutsShort rule t known old new (codes "stat") c c' (state_in s r v) → FinishesLoad rule t known old new line c c' s s' r v
finish_cut rule status.Done known old new line c c' s s' r v h = absurd h
finish_cut rule status.SayFault known old new line c c' s s' r v h = absurd h
finish_cut rule status.GroundFault known old new line c c' s s' r v h = h
finish_cut rule (status.DamagedRecord at) known old new line c c' s s' r v h = h
finish_cut rule (status.DamagedName at want got) known old new line c c' s s' r v h = h
finish_cut rule status.Usage known old new line c c' s s' r v h = absurd h
finish_cut rule status.NoStore known old new line c c' s s' r v h = absurd h
finish_cut rule (status.Damaged file at) known old new line c c' s s' r v h = absurd h
finish_cut rule status.DamagedJob known old new line c c' s s' r v h = absurd h
finish_cut rule status.ReadFault known old new line c c' s s' r v h = absurd h
finish_cut rule status.Memory known old new line c c' s s' r v h = absurd h
finish_cut rule (status.Limit bound) known old new line c c' s s' r v h = absurd h
finish_cut rule status.Unfinished known old new line c c' s s' r v h = absurd h
finish_cut rule status.Exists known old new line c c' s s' r v h = absurd h

module _ (rule : Rule) (known : Bool) (old mid : Outside) (text line first second : Bytes) (c c' : TurnCounts) (s s' : Session) (r : Repository) (v : View) (h : Replied rule known old mid (codes "stat") text c c' s s' r v) (first_is : first ≡ line) (second_is : second ≡ text)
    (told : Told) (counts : Noted) (kept : IsTrue known → IsSynced old.told Control) (possible : IsTrue known → IsPossibleNow mid.told) where
  all_is : first ++ second ≡ line ++ reply_text h.exchange.reply
  all_is = ap (λ (t : Bytes). t ++ second) first_is ∙ ap (λ (t : Bytes). line ++ t) (second_is ∙ h.text_is)

  module _ (result : Result (Unit {0}) GroundFault) (says : IsTrue known → Says (first ++ second) result mid.told told) where
    files : IsTrue known → KeepsFiles mid.told told
    files is = keeps_said (first ++ second) result mid.told told (says is)

    works : IsTrue known → IsWorking mid.told s' h.after h.view → IsWorking told s' h.after h.view
    works is at = working_along mid.told told s' h.after h.view (says is).goes (says is).files (says is).lending at

    order : IsTrue known → NothingPending mid.told → NothingPending told
    order is none = order_says mid.told told (first ++ second) result (says is) none

  pub summed_done : (says : IsTrue known → Says (first ++ second) (Ok tt) mid.told told) → counts ≡ mid.counts → Summed rule status.Done known old (told_as mid mid.left mid.read_faults told counts) line c c' s s' r v
  summed_done says still = record {
    exchange = h.exchange;
    after = h.after;
    view = h.view;
    line_is = h.line_is;
    exchanged = exchanged_along rule known old mid c c' mid.left mid.read_faults told counts refl (files (Ok tt) says) (falls_same mid.counts counts still) (ap (λ (n : Noted). turn_counts n mid.spawns) (sym still)) (ap (λ (n : Noted). n.bound) still) s s' r v h.exchange h.after h.view (works (Ok tt) says) (order (Ok tt) says) (λ is. (says is).files) (λ is. (says is).lending) kept possible h.exchanged;
    counted = removals_on old.counts mid.counts counts h.no_fault (removals_same mid.counts counts still);
    part = λ is. (line ++ reply_text h.exchange.reply, [], append_nil (line ++ reply_text h.exchange.reply), said_of old.told mid.told told (h.exchanged.begun.files is) (h.quiet is) (first ++ second) (Ok tt) (says is) _ all_is);
    whole = λ is done. refl;
    turning = λ is none. turned_moments mid.told told (first ++ second) (Ok tt) (says is) old.told (h.exchanged.begun.files is).goes (h.quiet is) _ all_is r h.after (h.atomic is none) s'.store.held (h.exchanged.working is).holds (h.exchanged.nothing_pending is none);
  }

  pub summed_fault : (fault : GroundFault) (says : IsTrue known → Says (first ++ second) (Err fault) mid.told told) → mid.counts.say_faults ≤ 2 ^ 64 - 1 → SayFault mid.counts counts → Summed rule status.SayFault known old (told_as mid mid.left mid.read_faults told counts) line c c' s s' r v
  summed_fault fault says small counted = record {
    exchange = h.exchange;
    after = h.after;
    view = h.view;
    line_is = h.line_is;
    exchanged = exchanged_along rule known old mid c c' mid.left mid.read_faults told counts refl (files (Err fault) says) (say_falls mid.counts counts small counted) (counts_same mid.counts counts mid.spawns counted.file_faults counted.remove_faults) counted.bound s s' r v h.exchange h.after h.view (works (Err fault) says) (order (Err fault) says) (λ is. (says is).files) (λ is. (says is).lending) kept possible h.exchanged;
    counted = serving_on status.SayFault old.counts mid.counts counts h.no_fault (say_counts mid.counts counts counted);
    part = λ is. part_of old.told mid.told told (h.exchanged.begun.files is) (h.quiet is) (first ++ second) (Err fault) (says is) _ all_is;
    whole = λ is done. absurd (cc done);
    turning = λ is none. turned_moments mid.told told (first ++ second) (Err fault) (says is) old.told (h.exchanged.begun.files is).goes (h.quiet is) _ all_is r h.after (h.atomic is none) s'.store.held (h.exchanged.working is).holds (h.exchanged.nothing_pending is none);
  }

-- ---- two texts

take_less : {A : Type 0} (n : ℕ) (xs ys : List A) → n ≤ length xs → take n (xs ++ ys) ≡ take n xs
take_less zero xs ys l = refl
take_less (suc n) [] ys l = absurd (omega (arith, l))
take_less (suc n) (x ∷ xs) ys l = ap (λ zs. x ∷ zs) (take_less n xs ys (omega (arith, l)))

take_more : {A : Type 0} (xs ys : List A) (n : ℕ) → take (length xs + n) (xs ++ ys) ≡ xs ++ take n ys
take_more [] ys n = (let e : 0 + n ≡ n = omega arith in ap (λ (k : ℕ). take k ys) e)
take_more (x ∷ xs) ys n = (let e : suc (length xs) + n ≡ suc (length xs + n) = omega arith in ap (λ (k : ℕ). take k (x ∷ (xs ++ ys))) e ∙ ap (λ zs. x ∷ zs) (take_more xs ys n))

-- the first one could not be said
pub says_longer : (first second : Bytes) (fault : GroundFault) (a b : Told) → Says first (Err fault) a b → Says (first ++ second) (Err fault) a b
says_longer first second fault a b s = record {
  advances = s.advances;
  goes = s.goes;
  files = s.files;
  lending = s.lending;
  ok = s.ok;
  front = λ t late le.
      let f = s.front t late le in
      let few = f.1 in
      (f.0, (let e = length-append first second in omega (arith, few, e)), f.2 ∙ ap (λ (bytes : Bytes). said a ++ bytes) (sym (take_less f.0 first second f.1)));
}

-- behind the first one
pub says_both : (first second : Bytes) (r : Result (Unit {0}) GroundFault) (a b c : Told) → Says first (Ok tt) a b → Says second r b c → Says (first ++ second) r a c
says_both first second r a b c f s = record {
  advances = later r s.advances;
  goes = goes_on a b c f.goes s.goes;
  files = λ file. stays_on a b c file f.goes s.goes (f.files file) (s.files file);
  lending = λ n. custody_on a b c n f.goes s.goes (f.lending n) (s.lending n);
  ok = all r s.ok;
  front = λ t late le. elim (cases_lt b.moment t) [
    | inl behind ↦
        let g = s.front t behind le in
        let few = g.1 in (
          length first + g.0,
          (let e = length-append first second in omega (arith, few, e)),
          g.2 ∙ (ap (λ (bytes : Bytes). bytes ++ take g.0 second) f.ok ∙ (append_assoc (said a) first (take g.0 second) ∙ ap (λ (bytes : Bytes). said a ++ bytes) (sym (take_more first second g.0)))),
        )
    | inr before ↦
        let g = f.front t late before in
        let few = g.1 in
        (g.0, (let e = length-append first second in omega (arith, few, e)), s.goes.said t before ∙ (g.2 ∙ ap (λ (bytes : Bytes). said a ++ bytes) (sym (take_less g.0 first second g.1))))
  ];
}
  where
    later : (r : Result (Unit {0}) GroundFault) → OnOk r (b.moment < c.moment) → OnOk r (a.moment < c.moment)
    later (Ok u) l = omega (arith, l, f.goes.later)
    later (Err e) l = tt

    all : (r : Result (Unit {0}) GroundFault) → OnOk r (said c ≡ said b ++ second) → OnOk r (said c ≡ said a ++ (first ++ second))
    all (Ok u) e = e ∙ (ap (λ (bytes : Bytes). bytes ++ second) f.ok ∙ append_assoc (said a) first second)
    all (Err g) e = tt
