-- Which attempt is lent, by the events so far: what the fold over them answers is what is told.
use Rattle.std.proofs.Common.{◌≡◌, ℕ, Bool, true, false, List, [], ◌∷◌, ◌++◌, refl, sym, ◌∙◌, ap}
use Rattle.std.specs.Prelude.{◌==◌, ◌||◌, ◌&&◌, not, if◌then◌else◌}
use Rattle.ip_ground.specs.declared.names.FileName.{FileName}
use Rattle.ip_ground.specs.declared.names.FileName.TheVariants.{Control, Chunk, Prefix, Mapping, Done}
use Rattle.ip_ground.specs.declared.event.Event.{Event}
use Rattle.ip_ground.specs.declared.event.Event.TheVariants.{Passed, Wrote, Failed, Synced, Removed, Lent, Settled, Said, Changed, Stopped}
use Rattle.ip_ground.specs.Contents.{Image}
use Rattle.ip_ground.specs.Custody.{Custody, own, lent, settled, with_synced, after_sync, after_settle}
use Rattle.std.proofs.Common.{arith}
use Rattle.std.proofs.lemmas.Bool.Decides.{nat_tests}
use Rattle.ip_ground.specs.Files.{no_true}
use Rattle.ip_ground.specs.Told.{lending}
use Rattle.ip_ground.specs.Replay.{State, after, blank, replayed, told_by, lent_after}
use Rattle.ip_ground.proofs.Replays.{replayed_push, lending_told}

-- a sync takes nothing back from the child
lent_with : (b : Bool) (file : FileName) → (if b then with_synced file lent else lent) ≡ lent
lent_with true file = refl
lent_with false file = refl

lent_synced : (file : FileName) (n : ℕ) (st : Custody) → st ≡ lent → after_sync file n st ≡ lent
lent_synced Control n st is = is
lent_synced (Chunk m) n st is = is
lent_synced (Prefix m) n st is = ap (after_sync (Prefix m) n) is ∙ lent_with (m == n) (Prefix m)
lent_synced (Mapping m) n st is = ap (after_sync (Mapping m) n) is ∙ lent_with (m == n) (Mapping m)
lent_synced (Done m) n st is = ap (after_sync (Done m) n) is ∙ lent_with (m == n) (Done m)

by_lent : (same before : Bool) (st : Custody) → (before ≡ true → st ≡ lent) → (same || before) ≡ true → (if same then lent else st) ≡ lent
by_lent true before st was is = refl
by_lent false before st was is = was is

by_settled : (same before : Bool) (st : Custody) (now : Custody) → (before ≡ true → st ≡ lent) → (not same && before) ≡ true → (if same then now else st) ≡ lent
by_settled true before st now was is = no_true is
by_settled false before st now was is = was is

same_test : (m n : ℕ) → (m == n) ≡ (n == m)
same_test m n = grind (arith, nat_tests)

pub lent_sound : (event : Event) (s : State) (n : ℕ) (before : Bool) → (before ≡ true → s.lending n ≡ lent) → lent_after event n before ≡ true → (after event s).lending n ≡ lent
lent_sound Passed s n before was is = was is
lent_sound (Wrote file at bytes) s n before was is = was is
lent_sound (Failed file at count) s n before was is = was is
lent_sound (Synced file) s n before was is = lent_synced file n (s.lending n) (was is)
lent_sound (Removed file) s n before was is = was is
lent_sound (Lent m) s n before was is = by_lent (n == m) before (s.lending n) was (ap (λ b. b || before) (same_test n m) ∙ is)
lent_sound (Settled m) s n before was is = ap (λ (b : Bool). if b then after_settle s.held (s.lending m) else s.lending n) (same_test n m) ∙ by_settled (m == n) before (s.lending n) (after_settle s.held (s.lending m)) was is
lent_sound (Said bytes) s n before was is = was is
lent_sound (Changed file bytes) s n before was is = was is
lent_sound (Stopped true) s n before was is = was is
lent_sound (Stopped false) s n before was is = was is

pub lent_more : (log more : List Event) (event : Event) (n : ℕ) (before : Bool) → more ≡ log ++ event ∷ [] → (before ≡ true → lending (told_by log) n ≡ lent) → lent_after event n before ≡ true → lending (told_by more) n ≡ lent
lent_more log more event n before is was so =
    ap (λ l. lending (told_by l) n) is ∙ lending_told (log ++ event ∷ []) n ∙ ap (λ (s : State). s.lending n) (replayed_push blank log event) ∙ lent_sound event (replayed blank log) n before (λ b. sym (lending_told log n) ∙ was b) so

lent_before : (b : Bool) (file : FileName) (st : Custody) → (if b then with_synced file st else st) ≡ lent → st ≡ lent
lent_before true file own is = cc
lent_before true file lent is = refl
lent_before true file (settled held synced) is = cc
lent_before false file st is = is

lent_unsynced : (file : FileName) (n : ℕ) (st : Custody) → after_sync file n st ≡ lent → st ≡ lent
lent_unsynced Control n st is = is
lent_unsynced (Chunk m) n st is = is
lent_unsynced (Prefix m) n st is = lent_before (m == n) (Prefix m) st is
lent_unsynced (Mapping m) n st is = lent_before (m == n) (Mapping m) st is
lent_unsynced (Done m) n st is = lent_before (m == n) (Done m) st is

never_settled : (now : Image) (st : Custody) → after_settle now st ≡ lent → ⊥
never_settled now own is = cc
never_settled now lent is = cc
never_settled now (settled held synced) is = cc

from_lent : (same before : Bool) (st : Custody) → (st ≡ lent → before ≡ true) → (if same then lent else st) ≡ lent → (same || before) ≡ true
from_lent true before st was is = refl
from_lent false before st was is = was is

from_settled : (same before : Bool) (st now : Custody) → (now ≡ lent → ⊥) → (st ≡ lent → before ≡ true) → (if same then now else st) ≡ lent → (not same && before) ≡ true
from_settled true before st now never was is = absurd (never is)
from_settled false before st now never was is = was is

lent_complete : (event : Event) (s : State) (n : ℕ) (before : Bool) → (s.lending n ≡ lent → before ≡ true) → (after event s).lending n ≡ lent → lent_after event n before ≡ true
lent_complete Passed s n before was is = was is
lent_complete (Wrote file at bytes) s n before was is = was is
lent_complete (Failed file at count) s n before was is = was is
lent_complete (Synced file) s n before was is = was (lent_unsynced file n (s.lending n) is)
lent_complete (Removed file) s n before was is = was is
lent_complete (Lent m) s n before was is = ap (λ b. b || before) (same_test m n) ∙ from_lent (n == m) before (s.lending n) was is
lent_complete (Settled m) s n before was is = ap (λ b. not b && before) (same_test m n) ∙ from_settled (n == m) before (s.lending n) (after_settle s.held (s.lending m)) (never_settled s.held (s.lending m)) was is
lent_complete (Said bytes) s n before was is = was is
lent_complete (Changed file bytes) s n before was is = was is
lent_complete (Stopped true) s n before was is = was is
lent_complete (Stopped false) s n before was is = was is

pub lent_back : (log more : List Event) (event : Event) (n : ℕ) (before : Bool) → more ≡ log ++ event ∷ [] → (lending (told_by log) n ≡ lent → before ≡ true) → lending (told_by more) n ≡ lent → lent_after event n before ≡ true
lent_back log more event n before is was so =
    lent_complete event (replayed blank log) n before (λ b. was (lending_told log n ∙ b))
    (sym (ap (λ l. lending (told_by l) n) is ∙ lending_told (log ++ event ∷ []) n ∙ ap (λ (s : State). s.lending n) (replayed_push blank log event)) ∙ so)
