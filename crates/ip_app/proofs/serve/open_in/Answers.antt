use Rattle.std.proofs.Common.{inl, inr, Some, refl, ◌≡◌, sym, ap, ◌∙◌, subst, IsTrue, Bool, Ok, Err}
use Rattle.std.specs.Prelude.{is_some}
use Rattle.ip_ground.specs.declared.names.FileName.TheVariants.{Control}
use Rattle.ip_ground.specs.Counts.{Noted, CountsIf, binds}
use Rattle.ip_ground.specs.Told.{Told, ChangesOnly, NoFile, Only, SyncsOnly}
use Rattle.ip_ground.proofs.Spans.{at_most, syncs_none, syncs_on}
use Rattle.ip_spec.specs.Path.{Bytes}
use Rattle.ip_spec.specs.Repository.{Repository}
use Rattle.ip_image.specs.Standing.{StandsFor}
use Rattle.ip_held.specs.Clear.{unswept_in}
use Rattle.ip_opens.specs.Opening.{Opens}
use Rattle.ip_held.proofs.Recovering.{held_has}
use Rattle.ip_held.specs.Held.{IsOf, OwnsLive, Holds, IsSound}
use Rattle.ip_held.specs.declared.held.Held.{Held}
use Rattle.ip_opens.specs.declared.opening.OpenFault.{OpenFault}
use Rattle.ip_app.specs.declared.statuses.Status.{Status}
use Rattle.ip_opens.specs.OpenFaults.{counted_open}
use Rattle.ip_app.specs.Outside.{but_bound}
use Rattle.ip_app.specs.Serving.{CountsOf}
use Rattle.ip_app.specs.Run.{opening_status, CouldNotOpen, OpensAs}
use Rattle.ip_app.proofs.Cleared.{cleared_opened}
use Rattle.ip_app.proofs.Counting.{attach_counts, attach_none, attached_same, bound_to, bound_counts, bound_still}
use Rattle.ip_app.proofs.Moments.{opening_none, opening_after}
use Rattle.ip_app.proofs.LivePair.{owns_on, live_in, known_or_not}
use Rattle.ip_app.proofs.SameFiles.{stands_before, none_before, damaged_before}
use Rattle.ip_app.proofs.TurnLemmas.{settled}
use Rattle.ip_app.proofs.serve.open_in.Goals as goal

-- opening behind a call that changes no file
opened_on : (old mid new : Told) → ChangesOnly NoFile old mid → SyncsOnly (Only Control) mid new → SyncsOnly (Only Control) old new
opened_on old mid new passes opens = syncs_on old mid new (Only Control) (syncs_none old mid (Only Control) passes) opens

pub returns-then-is_err-clause-only : goal.returns-then-is_err-clause-only
returns-then-is_err-clause-only g c told = syncs_none _ _ (Only Control) (c.attach.ensures.does told).only

pub returns-in-Ok-clause-only : goal.returns-in-Ok-clause-only
returns-in-Ok-clause-only g c told = opened_on _ _ _ (c.attach.ensures.does told).only (c.open_at.ensures.does told).only

pub returns-in-Err-clause-only : goal.returns-in-Err-clause-only
returns-in-Err-clause-only g c told = opened_on _ _ _ (c.attach.ensures.does told).only (c.open_at.ensures.does told).only

owns_passed : (old mid : Told) → ChangesOnly NoFile old mid → OwnsLive old → OwnsLive mid
owns_passed old mid passes owns = owns_on old mid (λ file. at_most old mid file (passes.others file (λ none. none))) owns

-- a repository that the store's tables are of; where the ground tells, and no child changes the live pair, one that it holds
opens_as : (tells : Bool) (old mid new : Told) (store : Held) → ((r : Repository) × IsOf store r) → (IsTrue tells → ChangesOnly NoFile old mid) → store.unswept ≡ unswept_in store.slot → (IsTrue tells → Opens (Ok store) mid new) → OpensAs tells old new store
opens_as tells old mid new store tables passes unswept does = record {
  repository = opened.0.0;
  tables = opened.0.1;
  holds = λ told owns. (opened.1 (known.1 (told, owns))).0;
  stands = λ told owns. (opened.1 (known.1 (told, owns))).1;
  clear = λ told owns. cleared_opened old new (only told) store (held_has store opened.0.0 new (opened.1 (known.1 (told, owns))).0) unswept;
  unswept = unswept;
  opening = λ told. opening_after old mid new (passes told) (does told).opening;
  over = λ told owns. (does told).reached tt (ap is_some (((passes told).others Control (λ none. none)).held (λ x. x) ∙ (opened.1 (known.1 (told, owns))).1.standing.held));
}
  where
    only : IsTrue tells → SyncsOnly (Only Control) old new
    only told = opened_on old mid new (passes told) (does told).only

    sound : IsTrue tells → OwnsLive old → IsSound store new
    sound told owns = (does told).holds (owns_passed old mid (passes told) owns)

    stood : (told : IsTrue tells) (owns : OwnsLive old) → StandsFor old.held (sound told owns).0
    stood told owns = stands_before old new (only told) owns (sound told owns).0 (sound told owns).1.stands

    known : (b : Bool) × (IsTrue tells × OwnsLive old → IsTrue b) × (IsTrue b → IsTrue tells × OwnsLive old)
    known = known_or_not tells old (λ told owns. live_in old.held (sound told owns).0 (stood told owns))

    opened : (x : (r : Repository) × IsOf store r) × (IsTrue known.0 → Holds store new x.0 × StandsFor old.held x.0)
    opened = settled (λ (x : (r : Repository) × IsOf store r). Holds store new x.0 × StandsFor old.held x.0) known.0 tables
        (λ is. let both = known.2 is in let held = sound both.0 both.1 in ((held.0, held.1.tables), (held.1, stood both.0 both.1)))

pub returns-in-Ok-clause-opened : goal.returns-in-Ok-clause-opened
returns-in-Ok-clause-opened g c = opens_as g.G.Ground.tells _ _ _ c.in-Ok.store.held c.in-Ok.ensures.tables (λ told. (c.attach.ensures.does told).only) c.in-Ok.ensures.unswept c.in-Ok.ensures.does

pub returns-then-is_err-clause-opening : goal.returns-then-is_err-clause-opening
returns-then-is_err-clause-opening g c told = opening_none _ _ (c.attach.ensures.does told).only

pub returns-in-Ok-clause-opening : goal.returns-in-Ok-clause-opening
returns-in-Ok-clause-opening g c told = opening_after _ _ _ (c.attach.ensures.does told).only (c.open_at.ensures.does told).opening

pub returns-in-Err-clause-opening : goal.returns-in-Err-clause-opening
returns-in-Err-clause-opening g c told = opening_after _ _ _ (c.attach.ensures.does told).only (c.open_at.ensures.does told).opening

could_not_open : (f : OpenFault) (s : Status) (tells : Bool) (old mid new : Told) → s ≡ opening_status f → (IsTrue tells → ChangesOnly NoFile old mid) → (IsTrue tells → SyncsOnly (Only Control) old new) → (IsTrue tells → Opens (Err f) mid new) → CouldNotOpen s tells old
could_not_open f s tells old mid new e passes only opens = subst (λ (t : Status). CouldNotOpen t tells old) (sym e) (by_fault f opens)
  where
    by_fault : (f : OpenFault) → (IsTrue tells → Opens (Err f) mid new) → CouldNotOpen (opening_status f) tells old
    by_fault OpenFault.NoStore o = λ told. none_before old new (only told) ((o told).no_store refl)
    by_fault (OpenFault.Damaged file at) o = λ told owns. damaged_before old new (only told) owns file at ((o told).damaged (owns_passed old mid (passes told) owns) file at refl)
    by_fault OpenFault.Ground o = tt
    by_fault OpenFault.Memory o = tt

pub returns-in-Err-clause-refused : goal.returns-in-Err-clause-refused
returns-in-Err-clause-refused g c = could_not_open c.in-Err.fault _ _ _ _ _ c.opening_status.ensures (λ told. (c.attach.ensures.does told).only) (returns-in-Err-clause-only g c) c.in-Err.ensures.does

-- ---- what was counted

open_counts : (dir : Bytes) (f : OpenFault) (s : Status) (a mid b : Noted) → s ≡ opening_status f → mid ≡ bound_to dir a → CountsIf (counted_open f) mid b → CountsOf s a b
open_counts dir f s a mid b e same counted = subst (λ (t : Status). CountsOf t a b) (sym e) (by_fault f (bound_counts dir a b (counted_open f) (subst (λ (n : Noted). CountsIf (counted_open f) n b) same counted)))
  where
    by_fault : (f : OpenFault) → CountsIf (counted_open f) (but_bound a b) b → CountsOf (opening_status f) a b
    by_fault OpenFault.NoStore h = h
    by_fault (OpenFault.Damaged file at) h = h
    by_fault OpenFault.Ground h = h
    by_fault OpenFault.Memory h = h

open_bound : (dir : Bytes) (f : OpenFault) (a mid b : Noted) → mid ≡ bound_to dir a → CountsIf (counted_open f) mid b → b.bound ≡ binds dir (Some dir) a.bound
open_bound dir f a mid b same counted = bound_still dir a b (counted_open f) (subst (λ (n : Noted). CountsIf (counted_open f) n b) same counted)

pub returns-then-is_err-clause-counted : goal.returns-then-is_err-clause-counted
returns-then-is_err-clause-counted g c = attach_counts c.args.folder.now c.attach.result _ _ (sym c.is_err.ensures.value ∙ c.if-is_err.true) c.attach.ensures.counts

pub returns-in-Err-clause-counted : goal.returns-in-Err-clause-counted
returns-in-Err-clause-counted g c = open_counts c.args.folder.now c.in-Err.fault _ _ _ _ c.opening_status.ensures (attached_same c.args.folder.now c.attach.result _ _ (sym c.is_err.ensures.value ∙ c.if-is_err.false) c.attach.ensures.counts) c.in-Err.ensures.counts

pub returns-in-Ok-clause-no_fault : goal.returns-in-Ok-clause-no_fault
returns-in-Ok-clause-no_fault g c = c.in-Ok.ensures.counts ∙ attached_same c.args.folder.now c.attach.result _ _ (sym c.is_err.ensures.value ∙ c.if-is_err.false) c.attach.ensures.counts

-- ---- the folder that is bound

pub returns-then-is_err-clause-bound : goal.returns-then-is_err-clause-bound
returns-then-is_err-clause-bound g c = inr (inl (attach_none c.args.folder.now c.attach.result _ _ (sym c.is_err.ensures.value ∙ c.if-is_err.true) c.attach.ensures.counts, refl))

pub returns-in-Err-clause-bound : goal.returns-in-Err-clause-bound
returns-in-Err-clause-bound g c = inl (open_bound c.args.folder.now c.in-Err.fault (g.G.Ground.counts_of c.args.ground.now) (g.G.Ground.counts_of c.attach.new.self) (g.G.Ground.counts_of c.open_at.new.outside) (attached_same c.args.folder.now c.attach.result (g.G.Ground.counts_of c.args.ground.now) (g.G.Ground.counts_of c.attach.new.self) (sym c.is_err.ensures.value ∙ c.if-is_err.false) c.attach.ensures.counts) c.in-Err.ensures.counts)
