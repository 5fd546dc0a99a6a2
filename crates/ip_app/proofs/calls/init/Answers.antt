use Rattle.std.proofs.Common.{max, length, get_or, rules, inl, inr, Some, ◌-◌, ◌^◌, ◌≤◌, ℕ, refl, ◌≡◌, ◌∙◌, sym, ap, subst, IsTrue, Bool, Ok, Err, Result}
use Rattle.std.specs.Prelude.{IsSome}
use Rattle.ip_ground.specs.declared.names.FileName.TheVariants.{Control}
use Rattle.ip_ground.specs.Counts.{Noted, Counted, as_nothing, Counts, CountsIf, binds}
use Rattle.ip_ground.specs.declared.names.GroundCounts.{GroundCounts}
use Rattle.ip_ground.specs.Told.{Told, ChangesOnly, Only, NoFile}
use Rattle.ip_ground.proofs.Spans.{only_on, only_more, lending_now}
use Rattle.ip_held.specs.Control.{control_in}
use Rattle.ip_image.specs.Slot.{live_index}
use Rattle.ip_spec.specs.Path.{Bytes}
use Rattle.ip_opens.specs.Opening.{Makes}
use Rattle.ip_opens.specs.declared.making.InitFault.{InitFault}
use Rattle.ip_app.specs.declared.statuses.Status.{Status}
use Rattle.ip_opens.specs.OpenFaults.{counted_init}
use Rattle.ip_app.specs.Outside.{but_bound}
use Rattle.ip_app.specs.Serving.{CountsOf}
use Rattle.ip_app.specs.Run.{init_status, InitRow}
use Rattle.ip_app.proofs.Counting.{attach_counts, attach_none, attached_same, bound_to, bound_counts, bound_still, falls_bound, falls_of, file_falls}
use Rattle.ip_app.proofs.RunLemmas.{same_control}
use Rattle.ip_app.proofs.calls.init.Goals as goal

pub returns-clause-only : goal.returns-clause-only
returns-clause-only g c told =
    only_on _ _ _ (Only Control) (only_more _ _ NoFile (Only Control) (λ f h. absurd h) (c.attach.ensures.does told).only) (c.init.ensures.does told).only

init_row : (chunk : ℕ) (made : Result (Unit {0}) InitFault) (s : Status) (tells : Bool) (old mid new : Told) → s ≡ init_status made → (IsTrue tells → ChangesOnly NoFile old mid) → (IsTrue tells → Makes chunk made mid new) → InitRow chunk s tells old new
init_row chunk made s tells old mid new e only makes = subst (λ (t : Status). InitRow chunk t tells old new) (sym e) (by_answer made makes)
  where
    by_answer : (r : Result (Unit {0}) InitFault) → (IsTrue tells → Makes chunk r mid new) → InitRow chunk (init_status r) tells old new
    by_answer (Ok u) m = λ told. record {
      closed = ap live_index (sym (same_control old mid (only told))) ∙ (m told).closed;
      fresh = (m told).made;
      kept = (m told).kept;
      behind = λ place ge. (m told).behind place ge ∙ ap (λ bytes. get_or bytes place 0) (same_control old mid (only told));
      no_longer = subst (λ bytes. length (control_in new.held) ≤ max (length bytes) 256) (same_control old mid (only told)) (m told).no_longer;
      stands = (m told).stands;
      clear = (m told).clear;
      nothing_pending = λ none. (m told).nothing_pending (λ attempt. lending_now old mid (only told).goes attempt ((only told).lending attempt) ∙ none attempt);
    }
    by_answer (Err InitFault.Existing) m = λ told. record {
      gate_open = subst (λ bytes. IsSome (live_index bytes)) (same_control old mid (only told)) ((m told).existing refl);
      only = only_on old mid new NoFile (only told) ((m told).unchanged ((m told).existing refl));
    }
    by_answer (Err InitFault.Ground) m = λ told live. only_on old mid new NoFile (only told) ((m told).unchanged (subst (λ bytes. IsSome (live_index bytes)) (sym (same_control old mid (only told))) live))

pub returns-then-is_err-clause-row : goal.returns-then-is_err-clause-row
returns-then-is_err-clause-row g c told live = (c.attach.ensures.does told).only

pub returns-clause-row : goal.returns-clause-row
returns-clause-row g c = init_row c.args.chunk c.init.result _ _ _ _ _ c.init_status.ensures (λ told. (c.attach.ensures.does told).only) c.init.ensures.does

-- ---- what was counted

-- as what it is
abbrev counted_made : Result (Unit {0}) InitFault → Counted
counted_made (Ok u) = as_nothing
counted_made (Err fault) = counted_init fault

made_counts : (made : Result (Unit {0}) InitFault) (a b : Noted) → Counts counted_init made a b → CountsIf (counted_made made) a b
made_counts (Ok u) a b h = h
made_counts (Err fault) a b h = h

init_counts : (dir : Bytes) (made : Result (Unit {0}) InitFault) (s : Status) (a mid b : Noted) → s ≡ init_status made → mid ≡ bound_to dir a → Counts counted_init made mid b → CountsOf s a b
init_counts dir made s a mid b e same counted = subst (λ (t : Status). CountsOf t a b) (sym e) (by_answer made (bound_counts dir a b (counted_made made) (made_counts made (bound_to dir a) b (subst (λ (n : Noted). Counts counted_init made n b) same counted))))
  where
    by_answer : (r : Result (Unit {0}) InitFault) → CountsIf (counted_made r) (but_bound a b) b → CountsOf (init_status r) a b
    by_answer (Ok u) h = h
    by_answer (Err InitFault.Existing) h = h
    by_answer (Err InitFault.Ground) h = h

init_bound : (dir : Bytes) (made : Result (Unit {0}) InitFault) (a mid b : Noted) → mid ≡ bound_to dir a → Counts counted_init made mid b → b.bound ≡ binds dir (Some dir) a.bound
init_bound dir made a mid b same counted = bound_still dir a b (counted_made made) (made_counts made (bound_to dir a) b (subst (λ (n : Noted). Counts counted_init made n b) same counted))

pub returns-then-is_err-clause-counted : goal.returns-then-is_err-clause-counted
returns-then-is_err-clause-counted g c = attach_counts c.args.folder.now c.attach.result _ _ (sym c.is_err.ensures.value ∙ c.if-is_err.true) c.attach.ensures.counts

pub returns-clause-counted : goal.returns-clause-counted
returns-clause-counted g c = init_counts c.args.folder.now c.init.result _ _ _ _ c.init_status.ensures (attached_same c.args.folder.now c.attach.result _ _ (sym c.is_err.ensures.value ∙ c.if-is_err.false) c.attach.ensures.counts) c.init.ensures.counts

pub returns-then-is_err-clause-bound : goal.returns-then-is_err-clause-bound
returns-then-is_err-clause-bound g c = inr (inl (attach_none c.args.folder.now c.attach.result _ _ (sym c.is_err.ensures.value ∙ c.if-is_err.true) c.attach.ensures.counts, refl))

pub returns-clause-bound : goal.returns-clause-bound
returns-clause-bound g c = inl (init_bound c.args.folder.now c.init.result (g.G.Ground.counts_of c.args.ground.now) (g.G.Ground.counts_of c.attach.new.self) (g.G.Ground.counts_of c.init.new.outside) (attached_same c.args.folder.now c.attach.result (g.G.Ground.counts_of c.args.ground.now) (g.G.Ground.counts_of c.attach.new.self) (sym c.is_err.ensures.value ∙ c.if-is_err.false) c.attach.ensures.counts) c.init.ensures.counts)

pub returns-then-is_err-clause-counts : goal.returns-then-is_err-clause-counts
returns-then-is_err-clause-counts g c =
    let files : c.counts-counts.result.file_faults ≤ 2 ^ 64 - 1 = search rules in
    falls_bound _ _ (file_falls _ _ (subst (λ (n : GroundCounts). n.file_faults ≤ 2 ^ 64 - 1) c.counts-counts.ensures files) (returns-then-is_err-clause-counted g c))

pub returns-clause-counts : goal.returns-clause-counts
returns-clause-counts g c =
    let files : c.counts-counts.result.file_faults ≤ 2 ^ 64 - 1 = search rules in
    let says : c.counts-counts.result.say_faults ≤ 2 ^ 64 - 1 = search rules in
    let harms : c.counts-counts.result.damages ≤ 2 ^ 64 - 1 = search rules in
    falls_of _ _ _ (subst (λ (n : GroundCounts). n.file_faults ≤ 2 ^ 64 - 1) c.counts-counts.ensures files) (subst (λ (n : GroundCounts). n.say_faults ≤ 2 ^ 64 - 1) c.counts-counts.ensures says) (subst (λ (n : GroundCounts). n.damages ≤ 2 ^ 64 - 1) c.counts-counts.ensures harms) (returns-clause-counted g c)
