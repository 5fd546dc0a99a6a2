-- One line of a script whose command was run and noted: its reply was said, or a part of it.
--     took_of      the line that was taken.      turned_in      the reply was said.      left_unsaid      or not, or not all of it
use Rattle.std.proofs.Common.{◌≡◌, ℕ, ◌+◌, ◌-◌, ◌^◌, ◌≤◌, ◌++◌, length, sym, ◌∙◌, ap, subst, Bool, Ok, Err, Result, IsTrue}
use Rattle.ip_ground.specs.Counts.{Noted}
use Rattle.ip_ground.specs.declared.names.GroundFault.{GroundFault}
use Rattle.ip_ground.specs.Counts.{SayFault}
use Rattle.ip_ground.specs.declared.names.FileName.TheVariants.{Control}
use Rattle.ip_ground.specs.Told.{Told, IsPossibleNow, IsSynced}
use Rattle.ip_ground.specs.Calls.{Says}
use Rattle.ip_image.specs.declared.counts.TurnCounts.{TurnCounts}
use Rattle.ip_image.specs.Pending.{NothingPending}
use Rattle.ip_spec.specs.Merge.{Rule}
use Rattle.ip_spec.specs.Path.{Bytes}
use Rattle.ip_spec.specs.Repository.{Repository}
use Rattle.ip_spec.specs.View.{View}
use Rattle.ip_spec.specs.Text.{reply_text}
use Rattle.ip_held.specs.Sweeping.{KeepsFiles}
use Rattle.ip_session.specs.declared.session.Session.{Session}
use Rattle.ip_session.specs.Session.{IsWorking}
use Rattle.ip_app.specs.declared.lines.Lines.{Lines}
use Rattle.ip_app.specs.declared.statuses.Status.TheVariants as status
use Rattle.ip_app.specs.Exchanging.{Replied}
use Rattle.ip_app.specs.Outside.{Outside}
use Rattle.ip_app.specs.Pending.{pending}
use Rattle.ip_app.specs.Reading.{GetsLine}
use Rattle.ip_app.specs.Serving.{Took, TurnedIn, HalfSaid}
use Rattle.ip_app.specs.Turns.{turn_counts}
use Rattle.ip_app.proofs.Counting.{say_counts, serving_on, say_falls, falls_same, removals_on, removals_same, counts_same}
use Rattle.ip_app.proofs.Moments.{order_says, turned_moments}
use Rattle.ip_app.proofs.RunLemmas.{keeps_said}
use Rattle.ip_app.proofs.SameFiles.{working_along}
use Rattle.ip_app.proofs.TurnLemmas.{told_as, exchanged_along, said_of, part_of}

pub took_of : (old new : Outside) (lines lines' : Lines) (line : Bytes) → GetsLine line old.source_tells (pending lines ++ old.left) (pending lines' ++ new.left) → lines'.taken + length (pending lines) ≡ lines.taken + (length line + 1) + length (pending lines') → Took old new lines lines' line
took_of old new lines lines' line gets count = record { front = gets.front; no_line_feed = gets.no_line_feed; short = gets.short; count = count }

module _ (rule : Rule) (known : Bool) (old mid : Outside) (read text shown : Bytes) (c c' : TurnCounts) (s s' : Session) (r : Repository) (v : View) (h : Replied rule known old mid read text c c' s s' r v) (same : shown ≡ text) (line : Bytes) (read_is : read ≡ line)
    (left : Bytes) (read_faults : ℕ) (told : Told) (counts : Noted) (lines lines' : Lines) (took : Took old (told_as mid left read_faults told counts) lines lines' line) (reads : read_faults ≡ mid.read_faults) (kept : IsTrue known → IsSynced old.told Control) (possible : IsTrue known → IsPossibleNow mid.told) where
  new : Outside
  new = told_as mid left read_faults told counts

  took_it : Took old (told_as mid left read_faults told counts) lines lines' h.exchange.line
  took_it = subst (λ (l : Bytes). Took old (told_as mid left read_faults told counts) lines lines' l) (sym (h.line_is ∙ read_is)) took

  module _ (result : Result (Unit {0}) GroundFault) (says : IsTrue known → Says shown result mid.told told) where
    files : IsTrue known → KeepsFiles mid.told told
    files is = keeps_said shown result mid.told told (says is)

    works : IsTrue known → IsWorking mid.told s' h.after h.view → IsWorking told s' h.after h.view
    works is at = working_along mid.told told s' h.after h.view (says is).goes (says is).files (says is).lending at

    order : IsTrue known → NothingPending mid.told → NothingPending told
    order is none = order_says mid.told told shown result (says is) none

  pub turned_in : (says : IsTrue known → Says shown (Ok tt) mid.told told) → counts ≡ mid.counts → TurnedIn rule known old (told_as mid left read_faults told counts) lines lines' c c' s s' r v
  turned_in says still = record {
    exchange = h.exchange;
    after = h.after;
    view = h.view;
    took = took_it;
    exchanged = exchanged_along rule known old mid c c' left read_faults told counts reads (files (Ok tt) says) (falls_same mid.counts counts still) (ap (λ (n : Noted). turn_counts n mid.spawns) (sym still)) (ap (λ (n : Noted). n.bound) still) s s' r v h.exchange h.after h.view (works (Ok tt) says) (order (Ok tt) says) (λ is. (says is).files) (λ is. (says is).lending) kept possible h.exchanged;
    no_fault = removals_on old.counts mid.counts counts h.no_fault (removals_same mid.counts counts still);
    said = λ is. said_of old.told mid.told told (h.exchanged.begun.files is) (h.quiet is) shown (Ok tt) (says is) _ (same ∙ h.text_is);
    turning = λ is none. turned_moments mid.told told shown (Ok tt) (says is) old.told (h.exchanged.begun.files is).goes (h.quiet is) _ (same ∙ h.text_is) r h.after (h.atomic is none) s'.store.held (h.exchanged.working is).holds (h.exchanged.nothing_pending is none);
  }

  pub left_unsaid : (fault : GroundFault) (says : IsTrue known → Says shown (Err fault) mid.told told) → mid.counts.say_faults ≤ 2 ^ 64 - 1 → SayFault mid.counts counts
      → HalfSaid rule known old (told_as mid left read_faults told counts) lines lines' c c' s s' r v
  left_unsaid fault says small counted = record {
    exchange = h.exchange;
    after = h.after;
    view = h.view;
    took = took_it;
    exchanged = exchanged_along rule known old mid c c' left read_faults told counts reads (files (Err fault) says) (say_falls mid.counts counts small counted) (counts_same mid.counts counts mid.spawns counted.file_faults counted.remove_faults) counted.bound s s' r v h.exchange h.after h.view (works (Err fault) says) (order (Err fault) says) (λ is. (says is).files) (λ is. (says is).lending) kept possible h.exchanged;
    counted = serving_on status.SayFault old.counts mid.counts counts h.no_fault (say_counts mid.counts counts counted);
    part = λ is. part_of old.told mid.told told (h.exchanged.begun.files is) (h.quiet is) shown (Err fault) (says is) _ (same ∙ h.text_is);
    turning = λ is none. turned_moments mid.told told shown (Err fault) (says is) old.told (h.exchanged.begun.files is).goes (h.quiet is) _ (same ∙ h.text_is) r h.after (h.atomic is none) s'.store.held (h.exchanged.working is).holds (h.exchanged.nothing_pending is none);
  }
