-- What a file held when it was synced last is told by what crashes might have left.
use Rattle.std.proofs.Common.{◌≡◌, inl, inr, ℕ, zero, suc, ◌+◌, ◌≤◌, Bool, true, false, List, [], ◌∷◌, ◌++◌, length, take, get_or, None, refl, sym, ◌∙◌, ap, subst, arith, length-append}
use Rattle.std.specs.Prelude.{if◌then◌else◌, ◌==◌}
use Rattle.std.proofs.lemmas.List.{take_all, take_more}
use Rattle.std.proofs.lemmas.Bool.{cases_lt}
use Rattle.ip_ground.specs.declared.names.FileName.{FileName}
use Rattle.ip_ground.specs.declared.names.FileName.TheVariants.{Control, Chunk, Prefix, Mapping, Done}
use Rattle.ip_ground.specs.declared.event.Event.{Event}
use Rattle.ip_ground.specs.declared.event.Event.TheVariants.{Passed, Wrote, Failed, Synced, Removed, Lent, Settled, Said, Changed, Stopped}
use Rattle.ip_ground.specs.Contents.{Image}
use Rattle.ip_ground.specs.Custody.{Custody, own, lent, settled, custody_of, IsForeign, IsLoose, is_same_file, with_synced, after_sync, after_settle}
use Rattle.ip_ground.specs.Files.{no_true, same_file, file_itself}
use Rattle.ip_ground.specs.Told.{IsSyncedAs, IsLoose as IsLooseNow}
use Rattle.ip_ground.specs.Replay.{State, is_of_attempt, after, blank, replayed, told_by, durable_by}
use Rattle.ip_ground.specs.ReplayLaws.{lawful_log, lending_other, lending_here, lending_was}
use Rattle.ip_ground.proofs.Replays.{replayed_push, told_lending, goes, synced, held_new}

abbrev IsLooseIn : State → FileName → Type 0
IsLooseIn s f = IsLoose (custody_of s.lending f) f

-- a sync of another file leaves a loose file loose
keep_with : (g f : FileName) (st : Custody) → is_same_file f g ≡ false → IsLoose st f → IsLoose (with_synced g st) f
keep_with g f own other loose = loose
keep_with g f lent other loose = tt
keep_with g f (settled held done) other loose = ap (λ (b : Bool). if b then true else done f) other ∙ loose

keep_if : (b : Bool) (g f : FileName) (st : Custody) → is_same_file f g ≡ false → IsLoose st f → IsLoose (if b then with_synced g st else st) f
keep_if true g f st other loose = keep_with g f st other loose
keep_if false g f st other loose = loose

keep_after : (g : FileName) (n : ℕ) (st : Custody) (f : FileName) → is_same_file f g ≡ false → IsLoose st f → IsLoose (after_sync g n st) f
keep_after Control n st f other loose = loose
keep_after (Chunk m) n st f other loose = loose
keep_after (Prefix m) n st f other loose = keep_if (m == n) (Prefix m) f st other loose
keep_after (Mapping m) n st f other loose = keep_if (m == n) (Mapping m) f st other loose
keep_after (Done m) n st f other loose = keep_if (m == n) (Done m) f st other loose

keep_synced : (lending : ℕ → Custody) (g f : FileName) → is_same_file f g ≡ false → IsLoose (custody_of lending f) f → IsLoose (custody_of (λ n. after_sync g n (lending n)) f) f
keep_synced lending g Control other loose = loose
keep_synced lending g (Chunk n) other loose = loose
keep_synced lending g (Prefix n) other loose = keep_after g n (lending n) (Prefix n) other loose
keep_synced lending g (Mapping n) other loose = keep_after g n (lending n) (Mapping n) other loose
keep_synced lending g (Done n) other loose = keep_after g n (lending n) (Done n) other loose

keep_settled : (now : Image) (st : Custody) (f : FileName) → IsLoose st f → IsLoose (after_settle now st) f
keep_settled now own f loose = loose
keep_settled now lent f loose = refl
keep_settled now (settled held done) f loose = loose

-- whether an event is a sync of this file
abbrev syncs_it : Event → FileName → Bool
syncs_it (Synced g) f = is_same_file f g
syncs_it event f = false

loose_kept : (event : Event) (s : State) (f : FileName) → syncs_it event f ≡ false → IsLooseIn s f → IsLooseIn (after event s) f
loose_kept Passed s f other loose = loose
loose_kept (Wrote file at bytes) s f other loose = loose
loose_kept (Failed file at count) s f other loose = loose
loose_kept (Synced g) s f other loose = keep_synced s.lending g f other loose
loose_kept (Removed file) s f other loose = loose
loose_kept (Lent m) s f other loose = by_test (is_of_attempt m f) refl
  where
    by_test : (b : Bool) → is_of_attempt m f ≡ b → IsLooseIn (after (Lent m) s) f
    by_test true here = subst (λ st. IsLoose st f) (sym (lending_here s.lending m lent f here)) tt
    by_test false apart = subst (λ st. IsLoose st f) (sym (lending_other s.lending m lent f apart)) loose
loose_kept (Settled m) s f other loose = by_test (is_of_attempt m f) refl
  where
    by_test : (b : Bool) → is_of_attempt m f ≡ b → IsLooseIn (after (Settled m) s) f
    by_test true here = subst (λ st. IsLoose st f) (sym (lending_here s.lending m (after_settle s.held (s.lending m)) f here)) (keep_settled s.held (s.lending m) f (subst (λ st. IsLoose st f) (lending_was s.lending m f here) loose))
    by_test false apart = subst (λ st. IsLoose st f) (sym (lending_other s.lending m (after_settle s.held (s.lending m)) f apart)) loose
loose_kept (Said bytes) s f other loose = loose
loose_kept (Changed file bytes) s f other loose = loose
loose_kept (Stopped true) s f other loose = loose
loose_kept (Stopped false) s f other loose = loose

durable_same : (event : Event) (s : State) (f : FileName) → syncs_it event f ≡ false → (after event s).durable f ≡ s.durable f
durable_same Passed s f other = refl
durable_same (Wrote file at bytes) s f other = refl
durable_same (Failed file at count) s f other = refl
durable_same (Synced g) s f other = ap (λ (b : Bool). if b then s.held g else s.durable f) other
durable_same (Removed file) s f other = refl
durable_same (Lent m) s f other = refl
durable_same (Settled m) s f other = refl
durable_same (Said bytes) s f other = refl
durable_same (Changed file bytes) s f other = refl
durable_same (Stopped true) s f other = refl
durable_same (Stopped false) s f other = refl

foreign_loose : (st : Custody) (f : FileName) → IsForeign st → IsLoose st f
foreign_loose own f foreign = absurd foreign
foreign_loose lent f foreign = tt
foreign_loose (settled held done) f foreign = absurd foreign

foreign_with : (g f : FileName) (st : Custody) → IsForeign st → IsLoose (with_synced g st) f
foreign_with g f own foreign = absurd foreign
foreign_with g f lent foreign = tt
foreign_with g f (settled held done) foreign = absurd foreign

foreign_if : (b : Bool) (g f : FileName) (st : Custody) → IsForeign st → IsLoose (if b then with_synced g st else st) f
foreign_if true g f st foreign = foreign_with g f st foreign
foreign_if false g f st foreign = foreign_loose st f foreign

foreign_after : (g : FileName) (n : ℕ) (st : Custody) (f : FileName) → IsForeign st → IsLoose (after_sync g n st) f
foreign_after Control n st f foreign = foreign_loose st f foreign
foreign_after (Chunk m) n st f foreign = foreign_loose st f foreign
foreign_after (Prefix m) n st f foreign = foreign_if (m == n) (Prefix m) f st foreign
foreign_after (Mapping m) n st f foreign = foreign_if (m == n) (Mapping m) f st foreign
foreign_after (Done m) n st f foreign = foreign_if (m == n) (Done m) f st foreign

-- a lent file is loose after a sync too
lent_loose : (lending : ℕ → Custody) (g f : FileName) → IsForeign (custody_of lending f) → IsLoose (custody_of (λ n. after_sync g n (lending n)) f) f
lent_loose lending g Control foreign = absurd foreign
lent_loose lending g (Chunk n) foreign = absurd foreign
lent_loose lending g (Prefix n) foreign = foreign_after g n (lending n) (Prefix n) foreign
lent_loose lending g (Mapping n) foreign = foreign_after g n (lending n) (Mapping n) foreign
lent_loose lending g (Done n) foreign = foreign_after g n (lending n) (Done n) foreign

module _ (log : List Event) (event : Event) (f : FileName) where
  abbrev longer : List Event
  longer = log ++ event ∷ []

  size : length longer ≡ length log + 1
  size = length-append log (event ∷ [])

  durable_after : durable_by longer f ≡ (after event (replayed blank log)).durable f
  durable_after = ap (λ (s : State). s.durable f) (replayed_push blank log event)

  -- it may be left now
  left_now : (told_by longer).may_leave (length longer) f (durable_by longer f)
  left_now = subst (λ l. (replayed blank l).may_leave f (durable_by longer f)) (sym (take_all (length longer) longer (omega arith))) ((lawful_log longer).durable f)

  goes_on : syncs_it event f ≡ false → IsSyncedAs (told_by log) f (durable_by log f) → IsSyncedAs (told_by longer) f (durable_by longer f)
  goes_on other was =
      let same : durable_by longer f ≡ durable_by log f = durable_after ∙ durable_same event (replayed blank log) f other in
      let past = goes log event in (
        was.0,
        omega (arith, was.1, size),
        λ x left. was.2 x (past.left was.0 f x was.1 left) ∙ sym same,
        λ t since le. elim (cases_lt (length log) t) [
          | inl late ↦ subst (λ (m : ℕ). (told_by longer).may_leave m f (durable_by longer f)) (omega (arith, late, le, size)) left_now
          | inr early ↦ past.still_left t f (durable_by longer f) early (subst (λ x. (told_by log).may_leave t f x) (sym same) (was.3 t since early))
        ],
      )

synced_now : (log : List Event) (f : FileName) → ¬ IsForeign (custody_of (replayed blank log).lending f) → IsSyncedAs (told_by (log ++ Synced f ∷ [])) f (durable_by (log ++ Synced f ∷ []) f)
synced_now log f not =
    let longer = log ++ Synced f ∷ [] in
    let s : State = replayed blank log in
    let same : (told_by longer).held f ≡ durable_by longer f = held_new log (Synced f) f ∙ sym (ap (λ (b : Bool). if b then s.held f else s.durable f) (file_itself f)) ∙ sym (durable_after log (Synced f) f) in (
      length longer,
      omega arith,
      λ x left. (synced log f).ok (λ foreign. not (subst (λ (l : ℕ → Custody). IsForeign (custody_of l f)) (told_lending log) foreign)) x left ∙ same,
      λ t since le. subst (λ (m : ℕ). (told_by longer).may_leave m f (durable_by longer f)) (omega (arith, since, le)) (left_now log (Synced f) f),
    )

abbrev IsTold : List Event → FileName → Type 0
IsTold log f = IsSyncedAs (told_by log) f (durable_by log f)

at_sync : (log : List Event) (event : Event) (f : FileName) → syncs_it event f ≡ true → ¬ IsLooseIn (after event (replayed blank log)) f → IsTold (log ++ event ∷ []) f
at_sync log Passed f here firm = no_true here
at_sync log (Wrote file at bytes) f here firm = no_true here
at_sync log (Failed file at count) f here firm = no_true here
at_sync log (Synced g) f here firm = subst (λ k. IsTold (log ++ Synced k ∷ []) f) (same_file f g here) (synced_now log f (λ foreign. firm (lent_loose (replayed blank log).lending g f foreign)))
at_sync log (Removed file) f here firm = no_true here
at_sync log (Lent m) f here firm = no_true here
at_sync log (Settled m) f here firm = no_true here
at_sync log (Said bytes) f here firm = no_true here
at_sync log (Changed file bytes) f here firm = no_true here
at_sync log (Stopped keep) f here firm = no_true here

next : (log : List Event) (event : Event) (f : FileName) → (¬ IsLooseIn (replayed blank log) f → IsSyncedAs (told_by log) f (durable_by log f))
    → ¬ IsLooseIn (replayed blank (log ++ event ∷ [])) f → IsSyncedAs (told_by (log ++ event ∷ [])) f (durable_by (log ++ event ∷ []) f)
next log event f was firm = by_test (syncs_it event f) refl
  where
    s : State
    s = replayed blank log

    firm_after : ¬ IsLooseIn (after event s) f
    firm_after loose = firm (subst (λ (t : State). IsLooseIn t f) (sym (replayed_push blank log event)) loose)

    by_test : (b : Bool) → syncs_it event f ≡ b → IsSyncedAs (told_by (log ++ event ∷ [])) f (durable_by (log ++ event ∷ []) f)
    by_test true here = at_sync log event f here firm_after
    by_test false other = goes_on log event f other (was (λ loose. firm_after (loose_kept event s f other loose)))

upto : (log : List Event) (f : FileName) (n : ℕ) → n ≤ length log → ¬ IsLooseIn (replayed blank (take n log)) f → IsSyncedAs (told_by (take n log)) f (durable_by (take n log) f)
upto log f zero le firm = (0, omega arith, λ x left. left, λ t since le. let none : 0 ≡ t = omega (arith, le) in subst (λ (m : ℕ). (replayed blank (take m [])).may_leave f None) none refl)
upto log f (suc n) le firm =
    let first : suc n ≡ n + 1 = omega arith in
    let more : take (suc n) log ≡ take n log ++ get_or log n Passed ∷ [] = ap (λ (k : ℕ). take k log) first ∙ take_more log n Passed le in
    subst (λ l. ¬ IsLooseIn (replayed blank l) f → IsTold l f) (sym more) (next (take n log) (get_or log n Passed) f (upto log f n (omega (arith, le)))) firm

pub synced_as : (log : List Event) (f : FileName) → ¬ IsLooseIn (replayed blank log) f → IsSyncedAs (told_by log) f (durable_by log f)
synced_as log f firm = subst (λ l. ¬ IsLooseIn (replayed blank l) f → IsSyncedAs (told_by l) f (durable_by l f)) (take_all (length log) log (omega arith)) (upto log f (length log) (omega arith)) firm

-- a stop that keeps all, or what was synced alone
module _ (log grown : List Event) where
  pub kept_all : grown ≡ log ++ Stopped true ∷ [] → (f : FileName) → (told_by grown).held f ≡ (told_by log).held f
  kept_all is f = ap (λ l. (told_by l).held f) is ∙ held_new log (Stopped true) f

  pub kept_synced : grown ≡ log ++ Stopped false ∷ [] → (f : FileName) → ¬ IsLooseNow (told_by log) f → IsSyncedAs (told_by log) f ((told_by grown).held f)
  kept_synced is f firm = subst (λ x. IsSyncedAs (told_by log) f x) (sym (ap (λ l. (told_by l).held f) is ∙ held_new log (Stopped false) f)) (synced_as log f (λ loose. firm (subst (λ (l : ℕ → Custody). IsLoose (custody_of l f) f) (sym (told_lending log)) loose)))
