-- A call before which the child has changed what is lent.
use Rattle.std.proofs.Common.{◌≡◌, inl, inr, ℕ, ◌<◌, List, ◌++◌, length, take, refl, sym, ◌∙◌, ap, subst, arith}
use Rattle.std.specs.Prelude.{OnOk, Result, Err, Option}
use Rattle.std.proofs.lemmas.Result.{on_ok_weaker, on_err_weaker}
use Rattle.std.proofs.lemmas.Bool.{cases_lt}
use Rattle.std.proofs.lemmas.List.{append-nil}
use Rattle.ip_ground.specs.declared.names.FileName.{FileName}
use Rattle.ip_ground.specs.declared.names.GroundFault.{GroundFault}
use Rattle.ip_ground.specs.Contents.{Content, written, Torn}
use Rattle.ip_ground.specs.Custody.{after_sync, after_settle}
use Rattle.ip_ground.specs.ReplayLaws.{torn_itself}
use Rattle.ip_ground.specs.Told.{Told, said, lending, IsLoose, KeepsPast, ChangesLeft, KeepsFile, KeepsCustody, TurnsCustody, Only, NoFile, ChangesOnly}
use Rattle.ip_ground.specs.Calls.{Passes, Measures, Reads, Writes, Syncs, Removes, Lends, Settles, Says}
use Rattle.ip_ground.proofs.Spans.{goes_on, at_most, synced_on, stays_on, said_on, said_now, lending_now, custody_on, only_on, only_more, left_now, only_nowhere, no_moment}

abbrev Answer : Type 0
Answer = Result (Unit {0}) GroundFault

module _ (a b c : Told) (first : ChangesOnly NoFile a b) where
  stays : (f : FileName) → KeepsFile a b f
  stays f = first.others f (λ none. none)

  later : {T : Type 0} (r : Result T GroundFault) → OnOk r (b.moment < c.moment) → OnOk r (a.moment < c.moment)
  later r so = on_ok_weaker r (λ lt. omega (arith, lt, first.goes.later)) so

  from_a : (these : FileName → Type 0) → ChangesOnly these b c → ChangesOnly these a c
  from_a these next = only_on a b c these (only_more a b NoFile these (λ f none. absurd none) first) next

  -- what is left now was left before
  was_left : (f : FileName) → ¬ IsLoose a f → (x : Content) → b.may_leave b.moment f x → a.may_leave a.moment f x
  was_left f firm = left_now a b f (a.may_leave a.moment f) first.goes (λ x so. so) ((stays f).left firm)

  steps_after : (f : FileName) (step : Content → Content → Type 0) → ¬ IsLoose a f → ((x : Content) → step x x) → ChangesLeft step b c f → KeepsPast b c → ChangesLeft step a c f
  steps_after f step firm itself steps goes t x since le left = elim (cases_lt b.moment t) [
    | inl late ↦ let was = steps t x late le left in (was.0, was_left f firm was.0 was.1, was.2)
    | inr early ↦ (x, (stays f).left firm t x since early (goes.left t f x early left), itself x)
  ]

  -- the custody of an attempt before
  was : (n : ℕ) → lending b n ≡ lending a n
  was n = lending_now a b first.goes n (first.lending n)

  custody_after : (n : ℕ) → KeepsPast b c → KeepsCustody b c n → KeepsCustody a c n
  custody_after n goes keeps = custody_on a b c n first.goes goes (first.lending n) keeps

  turns_after : (n : ℕ) → KeepsPast b c → TurnsCustody b c n → TurnsCustody a c n
  turns_after n goes turns t since le = elim (cases_lt b.moment t) [
    | inl late ↦ elim (turns t late le) [ inl before ↦ inl (before ∙ was n) | inr now ↦ inr now ]
    | inr early ↦ inl (goes.lending t n early ∙ first.lending n t since early)
  ]

  pub passes_after : (r : Answer) → Passes r b c → Passes r a c
  passes_after r next = record { advances = later r next.advances; only = from_a NoFile next.only }

  pub measures_after : (f : FileName) (r : Result (Option ℕ) GroundFault) → Measures f r b c → Measures f r a c
  measures_after f r next = record { advances = later r next.advances; only = from_a NoFile next.only; ok = next.ok }

  pub reads_after : (f : FileName) (at : ℕ) (out filled : List ℕ) (r : Result ℕ GroundFault) → Reads f at out filled r b c → Reads f at out filled r a c
  reads_after f at out filled r next = record { advances = later r next.advances; only = from_a NoFile next.only; count = next.count; bytes = next.bytes }

  pub writes_after : (f : FileName) (at : ℕ) (bytes : List ℕ) (r : Answer) → Writes f at bytes r b c → Writes f at bytes r a c
  writes_after f at bytes r next = record {
    advances = later r next.advances;
    only = from_a (Only f) next.only;
    ok = λ own. on_ok_weaker r (λ is. is ∙ ap (λ h. written h at bytes) ((stays f).held own)) (next.ok ((stays f).own own));
    err = λ own. on_err_weaker r (λ torn. subst (λ h. Torn at (length bytes) h (c.held f)) ((stays f).held own) torn) (next.err ((stays f).own own));
    left = λ firm. steps_after f (Torn at (length bytes)) firm (torn_itself at (length bytes)) (next.left ((stays f).firm firm)) next.only.goes;
    written = on_ok_weaker r (λ lt. omega (arith, lt, (stays f).unwritten)) next.written;
  }

  pub syncs_after : (f : FileName) (r : Answer) → Syncs f r b c → Syncs f r a c
  syncs_after f r next = record {
    advances = later r next.advances;
    goes = goes_on a b c first.goes next.goes;
    files = λ g. synced_on a b c g first.goes next.goes (at_most a b g (stays g)) (next.files g);
    others = λ g ne. stays_on a b c g first.goes next.goes (stays g) (next.others g ne);
    ok = λ own. next.ok ((stays f).own own);
    firm = λ own. next.firm ((stays f).own own);
    refused = on_err_weaker r (from_a NoFile) next.refused;
    turns = λ n. turns_after n next.goes (next.turns n);
    lending = on_ok_weaker r (λ is n. is n ∙ ap (after_sync f n) (was n)) next.lending;
    said = said_on a b c first.goes next.goes first.said next.said;
  }

  pub removes_after : (f : FileName) (r : Answer) → Removes f r b c → Removes f r a c
  removes_after f r next = record {
    advances = later r next.advances;
    only = from_a (Only f) next.only;
    ok = λ own. next.ok ((stays f).own own);
    err = λ own. on_err_weaker r (λ so. elim so [ inl same ↦ inl (same ∙ (stays f).held own) | inr gone ↦ inr gone ]) (next.err ((stays f).own own));
    left = λ firm. steps_after f _ firm (λ x. inl refl) (next.left ((stays f).firm firm)) next.only.goes;
    unwritten = next.unwritten ∙ (stays f).unwritten;
  }

  pub lends_after : (attempt : ℕ) (r : Answer) → Lends attempt r b c → Lends attempt r a c
  lends_after attempt r next = record {
    advances = later r next.advances;
    goes = goes_on a b c first.goes next.goes;
    files = λ g not. stays_on a b c g first.goes next.goes (stays g) (next.files g not);
    unwritten = λ g. next.unwritten g ∙ (stays g).unwritten;
    ok = next.ok;
    err = on_err_weaker r (λ so. elim so [ inl is ↦ inl is | inr same ↦ inr (from_a NoFile same) ]) next.err;
    turns = turns_after attempt next.goes next.turns;
    others = λ n ne. custody_after n next.goes (next.others n ne);
    said = said_on a b c first.goes next.goes first.said next.said;
  }

  pub settles_after : (attempt : ℕ) (r : Answer) → Settles attempt r b c → Settles attempt r a c
  settles_after attempt r next = record {
    advances = later r next.advances;
    goes = goes_on a b c first.goes next.goes;
    files = λ g. stays_on a b c g first.goes next.goes (stays g) (next.files g);
    ok = on_ok_weaker r (λ is. is ∙ ap (after_settle c.held) (was attempt)) next.ok;
    refused = on_err_weaker r (from_a NoFile) next.refused;
    turns = turns_after attempt next.goes next.turns;
    others = λ n ne. custody_after n next.goes (next.others n ne);
    said = said_on a b c first.goes next.goes first.said next.said;
  }

  pub says_after : (bytes : List ℕ) (r : Answer) → Says bytes r b c → Says bytes r a c
  says_after bytes r next =
      let same = said_now a b first.goes first.said in
      record {
        advances = later r next.advances;
        goes = goes_on a b c first.goes next.goes;
        files = λ g. stays_on a b c g first.goes next.goes (stays g) (next.files g);
        lending = λ n. custody_after n next.goes (next.lending n);
        ok = on_ok_weaker r (λ is. is ∙ ap (λ l. l ++ bytes) same) next.ok;
        front = λ t since le. elim (cases_lt b.moment t) [
          | inl late ↦ let so = next.front t late le in (so.0, so.1, so.2 ∙ ap (λ l. l ++ take so.0 bytes) same)
          | inr early ↦ (0, omega arith, next.goes.said t early ∙ first.said t since early ∙ sym (append-nil (said a)))
        ];
      }

-- A call that fails and leaves all as it is.
module _ (a : Told) (e : GroundFault) where
  abbrev same : ChangesOnly NoFile a a
  same = only_nowhere a NoFile

  pub writes_nothing : (f : FileName) (at : ℕ) (bytes : List ℕ) → Writes f at bytes (Err e) a a
  writes_nothing f at bytes = record {
    advances = tt;
    only = only_nowhere a (Only f);
    ok = λ own. tt;
    err = λ own. torn_itself at (length bytes) (a.held f);
    left = λ firm t x since le left. absurd (no_moment a.moment t since le);
    written = tt;
  }

  pub syncs_nothing : (f : FileName) → Syncs f (Err e) a a
  syncs_nothing f = record {
    advances = tt;
    goes = same.goes;
    files = λ g. at_most a a g (same.others g (λ none. none));
    others = λ g ne. same.others g (λ none. none);
    ok = λ own. tt;
    firm = λ own. tt;
    refused = same;
    turns = λ n t since le. absurd (no_moment a.moment t since le);
    lending = tt;
    said = same.said;
  }

  pub removes_nothing : (f : FileName) → Removes f (Err e) a a
  removes_nothing f = record {
    advances = tt;
    only = only_nowhere a (Only f);
    ok = λ own. tt;
    err = λ own. inl refl;
    left = λ firm t x since le left. absurd (no_moment a.moment t since le);
    unwritten = λ i. a.writes f;
  }

  pub lends_nothing : (n : ℕ) → Lends n (Err e) a a
  lends_nothing n = record {
    advances = tt;
    goes = same.goes;
    files = λ g not. same.others g (λ none. none);
    unwritten = λ g i. a.writes g;
    ok = tt;
    err = inr same;
    turns = λ t since le. absurd (no_moment a.moment t since le);
    others = λ m ne. same.lending m;
    said = same.said;
  }

  pub settles_nothing : (n : ℕ) → Settles n (Err e) a a
  settles_nothing n = record {
    advances = tt;
    goes = same.goes;
    files = λ g. same.others g (λ none. none);
    ok = tt;
    refused = same;
    turns = λ t since le. absurd (no_moment a.moment t since le);
    others = λ m ne. same.lending m;
    said = same.said;
  }

  pub says_nothing : (bytes : List ℕ) → Says bytes (Err e) a a
  says_nothing bytes = record {
    advances = tt;
    goes = same.goes;
    files = λ g. same.others g (λ none. none);
    lending = same.lending;
    ok = tt;
    front = λ t since le. absurd (no_moment a.moment t since le);
  }
