-- The map of files goes along with the log.
use Rattle.std.proofs.Common.{◌≡◌, ℕ, Bool, true, false, List, [], ◌∷◌, ◌++◌, Vec, refl, sym, ◌∙◌, ap}
use Rattle.std.specs.Prelude.{if◌then◌else◌}
use Rattle.std.specs.declared.alloc.Global.{Global}
use Rattle.std.specs.BTreeMap.{BTreeMap}
use Rattle.ip_ground.specs.declared.names.FileName.{FileName}
use Rattle.ip_ground.specs.declared.event.Event.{Event}
use Rattle.ip_ground.specs.declared.event.Event.TheVariants.{Passed, Wrote, Failed, Synced, Removed, Lent, Settled, Said, Changed, Stopped}
use Rattle.ip_ground.specs.Contents.{Content, Image}
use Rattle.ip_ground.specs.Custody.{is_same_file}
use Rattle.ip_ground.specs.Files.{no_true}
use Rattle.ip_ground.specs.Replay.{State, with_held, after, blank, replayed, told_by, durable_by, keeps_files, keeps_durable}
use Rattle.ip_ground.specs.Map.{content_in, IsTied, KeepsSynced}
use Rattle.ip_ground.proofs.Replays.{replayed_push, held_new}

abbrev Files : Type 0
Files = BTreeMap FileName (Vec ℕ Global)

with_held_same : (file : FileName) (x y : Content) (h k : Image) → x ≡ y → ((f : FileName) → h f ≡ k f) → (f : FileName) → with_held file x h f ≡ with_held file y k f
with_held_same file x y h k same others f = by_test (is_same_file f file)
  where
    by_test : (b : Bool) → (if b then x else h f) ≡ (if b then y else k f)
    by_test true = same
    by_test false = others f

-- after one more event
module _ (files later : Files) (log grown : List Event) (event : Event) (is : grown ≡ log ++ event ∷ []) (tied : IsTied files log) where
  -- one that changes no file
  pub tied_still : ((f : FileName) → (after event (replayed blank log)).held f ≡ (replayed blank log).held f) → ((f : FileName) → content_in later f ≡ content_in files f) → IsTied later grown
  tied_still same kept f = kept f ∙ tied f ∙ sym (same f) ∙ sym (held_new log event f) ∙ ap (λ l. (told_by l).held f) (sym is)

  -- one that puts another content in a file's place
  pub tied_made : (file : FileName) (x y : Content) → ((f : FileName) → (after event (replayed blank log)).held f ≡ with_held file y (replayed blank log).held f) → ((f : FileName) → content_in later f ≡ with_held file x (content_in files) f) → x ≡ y → IsTied later grown
  tied_made file x y made kept same f =
      kept f ∙ with_held_same file x y (content_in files) (replayed blank log).held same tied f ∙ sym (made f) ∙ sym (held_new log event f) ∙ ap (λ l. (told_by l).held f) (sym is)

held_kept : (event : Event) (s : State) → keeps_files event ≡ true → (f : FileName) → (after event s).held f ≡ s.held f
held_kept Passed s kept f = refl
held_kept (Wrote file at bytes) s kept f = no_true kept
held_kept (Failed file at count) s kept f = refl
held_kept (Synced file) s kept f = refl
held_kept (Removed file) s kept f = no_true kept
held_kept (Lent attempt) s kept f = refl
held_kept (Settled attempt) s kept f = refl
held_kept (Said bytes) s kept f = refl
held_kept (Changed file bytes) s kept f = no_true kept
held_kept (Stopped keep) s kept f = no_true kept

pub tied_kept : (files : Files) (log grown : List Event) (event : Event) → grown ≡ log ++ event ∷ [] → IsTied files log → keeps_files event ≡ true → IsTied files grown
tied_kept files log grown event is tied kept = tied_still files files log grown event is tied (held_kept event (replayed blank log) kept) (λ f. refl)

-- The map of what is durable goes along with the log too.
durable_kept : (event : Event) (s : State) → keeps_durable event ≡ true → (f : FileName) → (after event s).durable f ≡ s.durable f
durable_kept Passed s kept f = refl
durable_kept (Wrote file at bytes) s kept f = refl
durable_kept (Failed file at count) s kept f = refl
durable_kept (Synced file) s kept f = no_true kept
durable_kept (Removed file) s kept f = refl
durable_kept (Lent attempt) s kept f = refl
durable_kept (Settled attempt) s kept f = refl
durable_kept (Said bytes) s kept f = refl
durable_kept (Changed file bytes) s kept f = refl
durable_kept (Stopped keep) s kept f = no_true kept

durable_new : (log : List Event) (event : Event) (f : FileName) → durable_by (log ++ event ∷ []) f ≡ (after event (replayed blank log)).durable f
durable_new log event f = ap (λ (s : State). s.durable f) (replayed_push blank log event)

pub durable_pushed : (log grown : List Event) (event : Event) → grown ≡ log ++ event ∷ [] → keeps_durable event ≡ true → (f : FileName) → durable_by grown f ≡ durable_by log f
durable_pushed log grown event is kept f = ap (λ l. durable_by l f) is ∙ durable_new log event f ∙ durable_kept event (replayed blank log) kept f

pub synced_still : (kept : Files) (log grown : List Event) → ((f : FileName) → durable_by grown f ≡ durable_by log f) → KeepsSynced kept log → KeepsSynced kept grown
synced_still kept log grown same tied f = tied f ∙ sym (same f)

-- after a sync
module _ (files kept later : Files) (log grown : List Event) (file : FileName) (is : grown ≡ log ++ Synced file ∷ []) (tied : IsTied files log) (synced : KeepsSynced kept log) where
  pub tied_synced : IsTied files grown
  tied_synced = tied_still files files log grown (Synced file) is tied (λ f. refl) (λ f. refl)

  pub synced_made : (x : Content) → ((f : FileName) → content_in later f ≡ with_held file x (content_in kept) f) → x ≡ content_in files file → KeepsSynced later grown
  synced_made x made same f =
      made f ∙ with_held_same file x ((replayed blank log).held file) (content_in kept) (replayed blank log).durable (same ∙ tied file) synced f
      ∙ sym (durable_new log (Synced file) f) ∙ ap (λ l. durable_by l f) (sym is)

-- after a stop that keeps all, or keeps what was synced
module _ (files kept later : Files) (log grown : List Event) (tied : IsTied files log) (synced : KeepsSynced kept log) where
  pub tied_kept_all : grown ≡ log ++ Stopped true ∷ [] → IsTied files grown
  tied_kept_all is = tied_still files files log grown (Stopped true) is tied (λ f. refl) (λ f. refl)

  pub synced_kept_all : grown ≡ log ++ Stopped true ∷ [] → KeepsSynced kept grown
  synced_kept_all is f = synced f ∙ sym (durable_new log (Stopped true) f) ∙ ap (λ l. durable_by l f) (sym is)

  pub tied_lost : grown ≡ log ++ Stopped false ∷ [] → ((f : FileName) → content_in later f ≡ content_in kept f) → IsTied later grown
  tied_lost is same f = same f ∙ synced f ∙ sym (held_new log (Stopped false) f) ∙ ap (λ l. (told_by l).held f) (sym is)

  pub synced_lost : grown ≡ log ++ Stopped false ∷ [] → KeepsSynced kept grown
  synced_lost is f = synced f ∙ sym (durable_new log (Stopped false) f) ∙ ap (λ l. durable_by l f) (sym is)
