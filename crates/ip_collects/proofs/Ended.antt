-- An attempt of which the child ends and the files are synced, over several calls: its custody, and what changes beside it.
--     ends_self, ends_both      how custody goes on
--     ends_only, ends_settled, ends_synced      of a call.      ends_stays      an attempt that was settled is so still
--     ends_on      of two behind one another.      ends_more      of more files
--     pair_cut, pair_synced      the sync of its pair, where the first call failed, and else
use Rattle.std.proofs.Common.{◌≡◌, ◌≢◌, inl, inr, ℕ, Bool, true, false, Ok, Err, refl, sym, ◌∙◌, ap, subst, arith}
use Rattle.std.specs.Prelude.{◌==◌, if◌then◌else◌, Result, IsErr, IsTrue}
use Rattle.std.proofs.lemmas.Bool.{cases_lt}
use Rattle.std.proofs.lemmas.Result.{on_ok_weaker}
use Rattle.ip_ground.specs.declared.names.FileName.{FileName}
use Rattle.ip_ground.specs.declared.names.FileName.TheVariants.{Control, Chunk, Prefix, Mapping, Done}
use Rattle.ip_ground.specs.declared.names.GroundFault.{GroundFault}
use Rattle.ip_ground.specs.Calls.{Syncs, Settles}
use Rattle.ip_ground.specs.Contents.{Content, Image}
use Rattle.ip_ground.specs.Custody.{Custody, own, lent, settled, IsOfAttempt, is_same_file, with_synced, after_sync, after_settle}
use Rattle.ip_ground.specs.Files.{same_number}
use Rattle.ip_ground.specs.Told.{Told, lending, IsForeign, IsLoose, IsSettledAs, IsSynced, KeepsPast, KeepsCustody, TurnsCustody, NoFile, ChangesOnly}
use Rattle.ip_ground.proofs.Lending.{own_settled, settled_syncs}
use Rattle.ip_ground.proofs.Spans.{each_synced, left_now}
use Rattle.ip_held.specs.Sweeping.{EndsTo, EndsCustody, EndsFor, KeepsFiles}
use Rattle.ip_collects.specs.Swapping.{SyncsPair}
use Rattle.ip_held.proofs.Apart.{beside_only, beside_on}
use Rattle.ip_held.proofs.KeptFiles.{keeps_on, keeps_synced}

-- ---- custody

pub ends_self : (x : Custody) → EndsTo x x
ends_self own = tt
ends_self lent = tt
ends_self (settled pair synced) = (refl, λ file is. is)

pub ends_both : (x y z : Custody) → EndsTo x y → EndsTo y z → EndsTo x z
ends_both own own z one other = other
ends_both own lent z one other = absurd one
ends_both own (settled p f) z one other = absurd one
ends_both lent own z one other = absurd one
ends_both lent lent z one other = other
ends_both lent (settled p f) own one other = absurd other
ends_both lent (settled p f) lent one other = absurd other
ends_both lent (settled p f) (settled q g) one other = tt
ends_both (settled p f) own z one other = absurd one
ends_both (settled p f) lent z one other = absurd one
ends_both (settled p f) (settled q g) own one other = absurd other
ends_both (settled p f) (settled q g) lent one other = absurd other
ends_both (settled p f) (settled q g) (settled r h) one other = (other.0 ∙ one.0, λ file is. other.1 file (one.1 file is))

ends_as : (x y z : Custody) → z ≡ y → EndsTo x y → EndsTo x z
ends_as x y z same is = subst (EndsTo x) (sym same) is

as_ends : (x y z : Custody) → z ≡ y → EndsTo y x → EndsTo z x
as_ends x y z same is = subst (λ (k : Custody). EndsTo k x) (sym same) is

settles_on : (now : Image) (x : Custody) → EndsTo x (after_settle now x)
settles_on now own = tt
settles_on now lent = tt
settles_on now (settled pair synced) = (refl, λ file is. is)

still_set : (b c : Bool) → IsTrue c → IsTrue (if b then true else c)
still_set true c is = refl
still_set false c is = is

marked_if : (b : Bool) (one : FileName) (x : Custody) → EndsTo x (if b then with_synced one x else x)
marked_if true one own = tt
marked_if true one lent = tt
marked_if true one (settled pair synced) = (refl, λ file is. still_set (is_same_file file one) (synced file) is)
marked_if false one x = ends_self x

marked : (one : FileName) (n : ℕ) (x : Custody) → EndsTo x (after_sync one n x)
marked Control n x = ends_self x
marked (Chunk k) n x = ends_self x
marked (Prefix k) n x = marked_if (k == n) (Prefix k) x
marked (Mapping k) n x = marked_if (k == n) (Mapping k) x
marked (Done k) n x = marked_if (k == n) (Done k) x

-- another attempt than the file's
unmarked_if : (one : FileName) (k n m : ℕ) (x : Custody) → k ≡ n → m ≢ n → (b : Bool) → (k == m) ≡ b → (if b then with_synced one x else x) ≡ x
unmarked_if one k n m x is not true same = absurd (not (sym (same_number k m same) ∙ is))
unmarked_if one k n m x is not false same = refl

unmarked : (one : FileName) (n m : ℕ) (x : Custody) → IsOfAttempt n one → m ≢ n → after_sync one m x ≡ x
unmarked Control n m x of not = absurd of
unmarked (Chunk k) n m x of not = absurd of
unmarked (Prefix k) n m x of not = unmarked_if (Prefix k) k n m x of not (k == m) refl
unmarked (Mapping k) n m x of not = unmarked_if (Mapping k) k n m x of not (k == m) refl
unmarked (Done k) n m x of not = unmarked_if (Done k) k n m x of not (k == m) refl

-- ---- over calls

module _ (n : ℕ) (these : FileName → Type 0) (a b : Told) where
  turned : TurnsCustody a b n → EndsTo (lending a n) (lending b n) → EndsCustody a b n
  turned turns goes t after le = elim (turns t after le) [
    | inl was ↦ (ends_as (lending a n) (lending a n) (b.lending_at t n) was (ends_self (lending a n)), as_ends (lending b n) (lending a n) (b.lending_at t n) was goes)
    | inr now ↦ (ends_as (lending a n) (lending b n) (b.lending_at t n) now goes, as_ends (lending b n) (lending b n) (b.lending_at t n) now (ends_self (lending b n)))
  ]

  stays_so : KeepsPast a b → KeepsCustody a b n → EndsCustody a b n
  stays_so goes keeps t after le =
      let was : b.lending_at t n ≡ lending a n = keeps t after le in
      let now : lending b n ≡ lending a n = keeps b.moment (omega (arith, after, le)) (omega arith) in
      (ends_as (lending a n) (lending a n) (b.lending_at t n) was (ends_self (lending a n)), ends_as (b.lending_at t n) (lending a n) (lending b n) now (as_ends (lending a n) (lending a n) (b.lending_at t n) was (ends_self (lending a n))))

  pub ends_only : ChangesOnly these a b → KeepsFiles a b → EndsFor n these a b
  ends_only only files = record { beside = beside_only n these a b only files; ends = stays_so only.goes (only.lending n) }

  -- from before to now
  ends_over : EndsFor n these a b → EndsTo (lending a n) (lending b n)
  ends_over is = elim (cases_lt a.moment b.moment) [
    | inl later ↦ (is.ends b.moment later (omega arith)).0
    | inr still ↦
        let goes = is.beside.goes in
        let same : b.moment ≡ a.moment = (let late = goes.later in omega (arith, still, late)) in
        ends_as (lending a n) (lending a n) (lending b n) (goes.lending b.moment n still ∙ ap (λ (t : ℕ). a.lending_at t n) same) (ends_self (lending a n))
  ]

  -- one that was settled is so still
  pub ends_stays : EndsFor n these a b → (pair : Image) → IsSettledAs a n pair → IsSettledAs b n pair
  ends_stays is pair was = by (lending b n) refl (subst (λ (x : Custody). EndsTo x (lending b n)) was.1 (ends_over is))
    where
      by : (now : Custody) → lending b n ≡ now → EndsTo (settled pair was.0) now → IsSettledAs b n pair
      by own e to = absurd to
      by lent e to = absurd to
      by (settled later more) e to = (more, e ∙ ap (λ (held : Image). settled held more) to.0)

  pub ends_settled : (u : Unit {0}) → Settles n (Ok u) a b → EndsFor n these a b
  ends_settled u settles = record {
    beside = record { goes = settles.goes; others = λ file other not. settles.files file; unwritten = λ file of. (settles.files file).unwritten; lending = settles.others; said = settles.said };
    ends = turned settles.turns (ends_as (lending a n) (after_settle b.held (lending a n)) (lending b n) settles.ok (settles_on b.held (lending a n)));
  }

  pub ends_more : (those : FileName → Type 0) → ((file : FileName) → these file → those file) → EndsFor n these a b → EndsFor n those a b
  ends_more those more is = record {
    beside = (let was = is.beside in record { goes = was.goes; others = λ file other not. was.others file (λ this. other (more file this)) not; unwritten = was.unwritten; lending = was.lending; said = was.said });
    ends = is.ends;
  }

module _ (n : ℕ) (one : FileName) (of : IsOfAttempt n one) (a b : Told) where
  others_on : (res : Result (Unit {0}) GroundFault) → Syncs one res a b → (m : ℕ) → m ≢ n → KeepsCustody a b m
  others_on (Err e) syncs m not t after le = syncs.refused.lending m t after le
  others_on (Ok u) syncs m not t after le = elim (syncs.turns m t after le) [
    | inl was ↦ was
    | inr now ↦ now ∙ syncs.lending m ∙ unmarked one n m (lending a m) of not
  ]

  this_on : (res : Result (Unit {0}) GroundFault) → Syncs one res a b → EndsCustody a b n
  this_on (Err e) syncs = stays_so n NoFile a b syncs.goes (syncs.refused.lending n)
  this_on (Ok u) syncs = turned n NoFile a b (syncs.turns n) (ends_as (lending a n) (after_sync one n (lending a n)) (lending b n) (syncs.lending n) (marked one n (lending a n)))

  pub ends_synced : (res : Result (Unit {0}) GroundFault) → Syncs one res a b → EndsFor n NoFile a b
  ends_synced res syncs = record {
    beside = record { goes = syncs.goes; others = λ file none not. syncs.others file (λ is. not (subst (IsOfAttempt n) (sym is) of)); unwritten = λ file this. (syncs.files file).unwritten; lending = others_on res syncs; said = syncs.said };
    ends = this_on res syncs;
  }

pub ends_on : (n : ℕ) (these : FileName → Type 0) (a b c : Told) → EndsFor n these a b → EndsFor n these b c → EndsFor n these a c
ends_on n these a b c first next = record { beside = beside_on n these a b c first.beside next.beside; ends = both }
  where
    both : EndsCustody a c n
    both t after le = elim (cases_lt b.moment t) [
      | inl late ↦ (let at = next.ends t late le in (ends_both (lending a n) (lending b n) (c.lending_at t n) (ends_over n these a b first) at.0, at.1))
      | inr early ↦
          let at = first.ends t after early in
          let same : c.lending_at t n ≡ b.lending_at t n = next.beside.goes.lending t n early in
          (ends_as (lending a n) (b.lending_at t n) (c.lending_at t n) same at.0, as_ends (lending c n) (b.lending_at t n) (c.lending_at t n) same (ends_both (b.lending_at t n) (lending b n) (lending c n) at.1 (ends_over n these b c next)))
    ]

-- ---- the pair

module _ (n : ℕ) (a b : Told) (pair : Image) (is : IsSettledAs a n pair) where
  own_mapping : ¬ IsForeign a (Mapping n)
  own_mapping = own_settled n a pair (Mapping n) is refl

  own_prefix : ¬ IsForeign a (Prefix n)
  own_prefix = own_settled n a pair (Prefix n) is refl

  pub pair_cut : (r s : Result (Unit {0}) GroundFault) → IsErr s → Syncs (Prefix n) r a b → SyncsPair n s a b
  pair_cut r (Ok u) err syncs = absurd (cc (err))
  pair_cut r (Err e) err syncs = record {
    only = ends_synced n (Prefix n) refl a b r syncs;
    files = keeps_synced a b (Prefix n) r syncs;
    settled = λ pair was. settled_syncs n a b pair (Prefix n) r was syncs;
    mapping = (syncs.files (Mapping n)).held own_mapping;
    prefix = (syncs.files (Prefix n)).held own_prefix;
    kept = tt;
    firm = tt;
  }

  module _ (c : Told) (u : Unit {0}) (s : Result (Unit {0}) GroundFault) (first : Syncs (Prefix n) (Ok u) a b) (next : Syncs (Mapping n) s b c) where
    here : IsSettledAs b n pair
    here = settled_syncs n a b pair (Prefix n) (Ok u) is first

    firm_prefix : ¬ IsLoose b (Prefix n)
    firm_prefix = first.firm own_prefix

    still : c.held (Prefix n) ≡ b.held (Prefix n)
    still = (next.files (Prefix n)).held (own_settled n b pair (Prefix n) here refl)

    kept_prefix : IsSynced c (Prefix n)
    kept_prefix content left =
        let Was : Content → Type 0 = λ (x : Content). x ≡ b.held (Prefix n) in
        let kept = first.ok own_prefix in
        left_now b c (Prefix n) Was next.goes kept (each_synced b c (Prefix n) Was firm_prefix (next.files (Prefix n)) kept) content left ∙ sym still

    own_here : ¬ IsForeign b (Mapping n)
    own_here = own_settled n b pair (Mapping n) here refl

    pub pair_synced : SyncsPair n s a c
    pair_synced = record {
      only = ends_on n NoFile a b c (ends_synced n (Prefix n) refl a b (Ok u) first) (ends_synced n (Mapping n) refl b c s next);
      files = keeps_on a b c (keeps_synced a b (Prefix n) (Ok u) first) (keeps_synced b c (Mapping n) s next);
      settled = λ pair was. settled_syncs n b c pair (Mapping n) s (settled_syncs n a b pair (Prefix n) (Ok u) was first) next;
      mapping = (next.files (Mapping n)).held own_here ∙ (first.files (Mapping n)).held own_mapping;
      prefix = still ∙ (first.files (Prefix n)).held own_prefix;
      kept = on_ok_weaker s (λ kept. (kept, kept_prefix)) (next.ok own_here);
      firm = on_ok_weaker s (λ firm. (firm, (next.files (Prefix n)).firm firm_prefix)) (next.firm own_here);
    }
