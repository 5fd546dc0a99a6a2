-- Where no file is written.
--     not_foreign, not_loose      no file of the store is a child's
--     none_on      over two spans behind one another
--     none_synced      where files were synced at most.      none_changed      where none of those was changed that a session may change.      none_still      behind damage
--     not_none, only_one      lists of exchanges that end with one
--     damaged_end, damage_off, damage_short      which statuses are of damage
use Rattle.std.proofs.Common.{◌≡◌, inl, inr, ℕ, ◌<◌, ◌≤◌, Bool, true, false, List, [], ◌∷◌, ◌++◌, length, refl, ◌∙◌, arith, length-append, subst, Option, None, Some, Err}
use Rattle.std.specs.Prelude.{◌⊎◌}
use Rattle.std.proofs.lemmas.Bool.{cases_lt, cases_eq}
use Rattle.ip_ground.specs.declared.names.FileName.{FileName}
use Rattle.ip_ground.specs.declared.names.FileName.TheVariants.{Control, Chunk, Prefix, Mapping, Done}
use Rattle.ip_ground.specs.Contents.{Content}
use Rattle.ip_ground.specs.Custody.{IsOfAttempt}
use Rattle.ip_ground.specs.Told.{Told, IsForeign, IsLoose, KeepsPast, KeepsFile, NoFile, Only, SyncsOnly}
use Rattle.ip_ground.proofs.Spans.{goes_on}
use Rattle.ip_publish.specs.Publishing.{IsOfStore}
use Rattle.ip_session.specs.declared.session.SessionEnd.{SessionEnd}
use Rattle.ip_session.specs.Session.{ChangesBy, MetDamage}
use Rattle.ip_app.specs.declared.statuses.Status.{Status}
use Rattle.ip_app.specs.declared.statuses.Status.TheVariants as status
use Rattle.ip_app.specs.Exchanges.{Exchange}
use Rattle.ip_app.specs.Exchanging.{ended_status, is_cut_short, IsDamage, WritesNone}
use Rattle.ip_app.specs.Run.{is_cut_off}

-- ---- files

not_of_store : (file : FileName) → IsOfStore file → (n : ℕ) → ¬ IsOfAttempt n file
not_of_store Control is n of = of
not_of_store (Chunk k) is n of = of
not_of_store (Prefix k) is n of = elim is [ inl control ↦ cc (control) | inr chunk ↦ cc (chunk.2) ]
not_of_store (Mapping k) is n of = elim is [ inl control ↦ cc (control) | inr chunk ↦ cc (chunk.2) ]
not_of_store (Done k) is n of = elim is [ inl control ↦ cc (control) | inr chunk ↦ cc (chunk.2) ]

cases_attempt : (n : ℕ) (file : FileName) → IsOfAttempt n file ⊎ (¬ IsOfAttempt n file)
cases_attempt n Control = inr (λ none. none)
cases_attempt n (Chunk k) = inr (λ none. none)
cases_attempt n (Prefix k) = cases_eq k n
cases_attempt n (Mapping k) = cases_eq k n
cases_attempt n (Done k) = cases_eq k n

-- no child's
pub not_foreign : (told : Told) (file : FileName) → IsOfStore file → ¬ IsForeign told file
not_foreign told Control is foreign = foreign
not_foreign told (Chunk k) is foreign = foreign
not_foreign told (Prefix k) is foreign = elim is [ inl control ↦ cc (control) | inr chunk ↦ cc (chunk.2) ]
not_foreign told (Mapping k) is foreign = elim is [ inl control ↦ cc (control) | inr chunk ↦ cc (chunk.2) ]
not_foreign told (Done k) is foreign = elim is [ inl control ↦ cc (control) | inr chunk ↦ cc (chunk.2) ]

pub not_loose : (told : Told) (file : FileName) → IsOfStore file → ¬ IsLoose told file
not_loose told Control is loose = loose
not_loose told (Chunk k) is loose = loose
not_loose told (Prefix k) is loose = elim is [ inl control ↦ cc (control) | inr chunk ↦ cc (chunk.2) ]
not_loose told (Mapping k) is loose = elim is [ inl control ↦ cc (control) | inr chunk ↦ cc (chunk.2) ]
not_loose told (Done k) is loose = elim is [ inl control ↦ cc (control) | inr chunk ↦ cc (chunk.2) ]

-- ---- spans

pub none_on : (a b c : Told) → WritesNone a b → WritesNone b c → WritesNone a c
none_on a b c first next = record {
  goes = goes_on a b c first.goes next.goes;
  unwritten = λ file. next.unwritten file ∙ first.unwritten file;
  held = λ file is. next.held file is ∙ first.held file is;
  left = λ file is t x after le left. elim (cases_lt b.moment t) [
    | inl late ↦ before file is x (next.left file is t x late le left)
    | inr early ↦ first.left file is t x after early (next.goes.left t file x early left)
  ];
}
  where
    before : (file : FileName) → IsOfStore file → (x : Content) → b.may_leave b.moment file x → a.may_leave a.moment file x
    before file is x left = elim (cases_lt a.moment b.moment) [
      | inl late ↦ first.left file is b.moment x late (omega arith) left
      | inr same ↦
          let e : b.moment ≡ a.moment = (let later = first.goes.later in omega (arith, same, later)) in
          first.goes.left a.moment file x (omega arith) (subst (λ (t : ℕ). b.may_leave t file x) e left)
    ]

pub none_synced : (a b : Told) → SyncsOnly (Only Control) a b → WritesNone a b
none_synced a b only = record {
  goes = only.changes.goes;
  unwritten = λ file. (only.files file).unwritten;
  held = λ file is. (only.files file).held (not_foreign a file is);
  left = λ file is. (only.files file).left (not_loose a file is);
}

-- whichever files are an attempt's
beside : (n : ℕ) (a b : Told) → KeepsPast a b → ((file : FileName) → ¬ IsOfAttempt n file → KeepsFile a b file) → ((file : FileName) → IsOfAttempt n file → b.writes file ≡ a.writes file) → WritesNone a b
beside n a b goes others unwritten = record {
  goes = goes;
  unwritten = λ file. elim (cases_attempt n file) [ inl of ↦ unwritten file of | inr not ↦ (others file not).unwritten ];
  held = λ file is. (others file (not_of_store file is n)).held (not_foreign a file is);
  left = λ file is. (others file (not_of_store file is n)).left (not_loose a file is);
}

-- of those files that may have changed none has
pub none_changed : (heard : Bool) (attempt : Option ℕ) (these : FileName → Type 0) (a b : Told) → ((file : FileName) → ¬ these file) → ChangesBy heard attempt these a b → WritesNone a b
none_changed heard None these a b none only = record {
  goes = only.goes;
  unwritten = λ file. (only.others file (none file)).unwritten;
  held = λ file is. (only.others file (none file)).held (not_foreign a file is);
  left = λ file is. (only.others file (none file)).left (not_loose a file is);
}
none_changed false (Some n) these a b none changes = beside n a b changes.goes (λ file not. changes.others file (none file) not) changes.unwritten
none_changed true (Some n) these a b none changes = beside n a b changes.beside.goes (λ file not. changes.beside.others file (none file) not) changes.beside.unwritten

pub none_still : (heard : Bool) (attempt : Option ℕ) (a b : Told) → ChangesBy heard attempt NoFile a b → WritesNone a b
none_still heard attempt a b changes = none_changed heard attempt NoFile a b (λ file none. none) changes

-- ---- lists

pub not_none : (xs : List Exchange) (x : Exchange) → xs ++ x ∷ [] ≡ [] → ⊥
not_none [] x e = cc (e)
not_none (y ∷ xs) x e = cc (e)

pub only_one : (xs : List Exchange) (x : Exchange) → length (xs ++ x ∷ []) ≤ 1 → xs ≡ []
only_one [] x few = refl
only_one (y ∷ xs) x few = let e = length-append xs (x ∷ []) in absurd (omega (arith, few, e))

-- ---- statuses

pub damaged_end : (end : SessionEnd) → IsDamage (ended_status end) → MetDamage {A = Unit {0}} (Err end)
damaged_end SessionEnd.Ground h = h
damaged_end (SessionEnd.Damaged at None) h = tt
damaged_end (SessionEnd.Damaged at (Some (want, got))) h = tt

pub damage_off : (s : Status) → IsDamage s → is_cut_off s ≡ true
damage_off (status.DamagedRecord at) h = refl
damage_off (status.DamagedName at want got) h = refl
damage_off _ h = absurd h

pub damage_short : (s : Status) → IsDamage s → is_cut_short s ≡ true
damage_short (status.DamagedRecord at) h = refl
damage_short (status.DamagedName at want got) h = refl
damage_short _ h = absurd h
