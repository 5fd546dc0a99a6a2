-- The moments of a command, and of opening.
--     cut_again      one that was cut short.      turned_moments      one whose reply is said, or not whole
--     order_says      the ground stays in order.      opening_after      opening behind a call that changes no file.      opening_none      and where it came to nothing
--     headline_none      no command was begun.      headline_turn      one command more
use Rattle.std.proofs.Common.{◌≡◌, inl, inr, ℕ, ◌+◌, ◌≤◌, List, [], ◌∷◌, ◌++◌, length, map, refl, sym, ap, ◌∙◌, subst, arith, take, Result}
use Rattle.std.proofs.lemmas.Bool.{cases_lt}
use Rattle.std.proofs.lemmas.List.{map-append}
use Rattle.ip_ground.specs.declared.names.FileName.{FileName}
use Rattle.ip_ground.specs.declared.names.FileName.TheVariants.{Control}
use Rattle.ip_ground.specs.declared.names.GroundFault.{GroundFault}
use Rattle.ip_ground.specs.Contents.{Content}
use Rattle.ip_ground.specs.Told.{Told, said, NoFile, Only, KeepsPast, KeepsSaid, IsPossibleNow, ChangesOnly, SyncsOnly}
use Rattle.ip_ground.specs.Calls.{Says}
use Rattle.ip_ground.proofs.Spans.{said_now, syncs_none}
use Rattle.ip_image.specs.Standing.{StandsFor}
use Rattle.ip_image.specs.Pending.{crash_now, NothingPending}
use Rattle.ip_image.specs.Headline.{MayServe, RecoversToEither, IsAtomic, Turning, Headline}
use Rattle.ip_image.proofs.HeadlineLaws.{flushed_less, pending_passes, none_pending, turns_quietly, turns_saying, turning_on, headline_begins, headline_more}
use Rattle.ip_spec.specs.Path.{Bytes}
use Rattle.ip_spec.specs.Repository.{Repository}
use Rattle.ip_spec.specs.Machine.{State, opened}
use Rattle.ip_spec.specs.Script.{Answered, state_after}
use Rattle.ip_spec.specs.Text.{reply_text}
use Rattle.ip_held.specs.declared.held.Held.{Held}
use Rattle.ip_opens.specs.Opening.{RecoversOnceOpen}
use Rattle.ip_held.specs.Held.{Holds}
use Rattle.ip_held.proofs.Recovering.{recovers_now, recovers_since}
use Rattle.ip_app.specs.Exchanges.{Exchange, answer_of, texts_in, after_all}
use Rattle.ip_app.proofs.LivePair.{owns_pending}
use Rattle.ip_app.proofs.SameFiles.{stands_after}

-- the reply is said, or a part of it
module _ (mid new : Told) (text : Bytes) (result : Result (Unit {0}) GroundFault) (says : Says text result mid new) where
  pub order_says : NothingPending mid → NothingPending new
  order_says order = pending_passes mid new says.goes says.files says.lending order

  saying : (reply : Bytes) → text ≡ reply → (store : Held) (before after : Repository) → Holds store mid after → NothingPending mid → Turning mid new reply before after
  saying reply e store before after holds order =
      turns_saying mid new reply before after
      (λ t late le. subst (λ (bytes : Bytes). (n : ℕ) × (n ≤ length bytes) × (new.said_at t ≡ said mid ++ take n bytes)) e (says.front t late le))
      (recovers_since store after mid holds order new says.files says.lending)

  pub turned_moments : (old : Told) → KeepsPast old mid → KeepsSaid old mid → (reply : Bytes) → text ≡ reply → (before after : Repository) → IsAtomic old mid before after
      → (store : Held) → Holds store mid after → NothingPending mid → Turning old new reply before after
  turned_moments old goes quiet reply e before after keeps store holds order =
      turning_on old mid new reply before after says.goes (said_now old mid goes quiet)
      (turns_quietly old mid reply before after quiet keeps)
      (saying reply e store before after holds order)

-- A command that was cut short leaves a ground that may be served again.
pub cut_again : (store : Held) (r after : Repository) (a b : Told) → Holds store a r → NothingPending a → KeepsPast a b → IsAtomic a b r after → IsPossibleNow b → MayServe b
cut_again store r after a b holds order goes keeps possible = elim (cases_lt a.moment b.moment) [
  | inl later ↦ now (keeps b.moment later (omega arith))
  | inr still ↦
      let same : b.moment ≡ a.moment = omega (arith, goes.later) in
      let was = recovers_now store r a holds order in
      let left : (file : FileName) (content : Content) → b.may_leave b.moment file content → a.may_leave a.moment file content = λ file content here. subst (λ n. a.may_leave n file content) same (goes.left b.moment file content still here) in
      record {
        repository = r;
        stands = was.stands b.held (λ file. left file (b.held file) (possible file));
        nothing_pending = none_pending b possible (flushed_less (crash_now a) (crash_now b) left (λ attempt. goes.lending b.moment attempt still ∙ ap (λ n. a.lending_at n attempt) same) was.flushed);
      }
]
  where
    now : RecoversToEither (crash_now b) r after → MayServe b
    now is = elim (is.stands b.held possible) [
      | inl before ↦ record { repository = r; stands = before; nothing_pending = none_pending b possible is.flushed }
      | inr done ↦ record { repository = after; stands = done; nothing_pending = none_pending b possible is.flushed }
    ]

-- ---- opening

-- nothing was synced
pub opening_none : (a b : Told) → ChangesOnly NoFile a b → RecoversOnceOpen a b
opening_none a b only = record {
  since = b.moment + 1;
  begins = (let later = only.goes.later in omega (arith, later));
  kept = λ t late le. absurd (omega (arith, late, le));
  recovers = λ r stands order t late le. absurd (omega (arith, late, le));
  nothing_pending = pending_passes a b only.goes (λ file. only.others file (λ none. none)) only.lending;
}

abbrev pub opening_after : (a b c : Told) → ChangesOnly NoFile a b → RecoversOnceOpen b c → RecoversOnceOpen a c
opening_after a b c only opening = record {
  since = opening.since;
  begins = (let later = only.goes.later in let begins = opening.begins in omega (arith, later, begins));
  kept = opening.kept;
  recovers = λ r stands order. opening.recovers r (stands_after a b (syncs_none a b (Only Control) only) (owns_pending a order) r stands) (order_on order);
  nothing_pending = λ order. opening.nothing_pending (order_on order);
}
  where
    order_on : NothingPending a → NothingPending b
    order_on order = pending_passes a b only.goes (λ file. only.others file (λ none. none)) only.lending order

-- ---- a run

pub headline_none : (old new : Told) → SyncsOnly (Only Control) old new → (opening : RecoversOnceOpen old new) → (r : Repository) → StandsFor old.held r → NothingPending old → Headline opening.since old new (opened r) []
headline_none old new only opening r stands order = headline_begins old new (opened r) opening.since opening.begins only.changes.said
    (λ t late early le. record {
      left = λ file firm content left. (only.files file).left firm t content late le left;
      still_left = λ file other firm content left. (only.changes.others file other).still_left firm t content late le left;
      said = only.changes.said t late le;
      lending = λ attempt. only.changes.lending attempt t late le;
    })
    (opening.recovers r stands order)

after_steps : (first : State) (xs : List Exchange) → state_after first (map answer_of xs) (length (map answer_of xs)) ≡ after_all first xs
after_steps first [] = refl
after_steps first (x ∷ xs) = after_steps x.after xs

-- from the repository in which the commands before left the machine
pub headline_turn : (since : ℕ) (old mid new : Told) (first : State) (xs : List Exchange) (x : Exchange) → Headline since old mid first (map answer_of xs) → KeepsPast mid new → since ≤ mid.moment → said mid ≡ said old ++ texts_in xs
    → (before after : Repository) → before ≡ (after_all first xs).repository → after ≡ x.after.repository → Turning mid new (reply_text x.reply) before after → Headline since old new first (map answer_of (xs ++ x ∷ []))
headline_turn since old mid new first xs x run goes over all before after before_is after_is turning =
    subst (λ (steps : List Answered). Headline since old new first steps) (sym (map-append answer_of xs (x ∷ [])))
    (headline_more since old mid new first (map answer_of xs) run goes (answer_of x) over all
    (subst (λ (r : Repository). Turning mid new (reply_text x.reply) r x.after.repository) (before_is ∙ ap (λ (s : State). s.repository) (sym (after_steps first xs)))
    (subst (λ (r : Repository). Turning mid new (reply_text x.reply) before r) after_is turning)))
