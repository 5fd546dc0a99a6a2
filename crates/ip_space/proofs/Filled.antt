-- What reading ahead comes to.
--     goes_nowhere, goes_by      no read, and one.      filled      the head and then the body
use Rattle.std.proofs.Common.{◌≡◌, ◌⊎◌, inl, inr, ℕ, ◌+◌, ◌-◌, ◌<◌, ◌≤◌, [], ◌++◌, length, take, sym, ◌∙◌, ap, subst, arith, append-nil, length-append}
use Rattle.std.specs.Prelude.{Option, None, Result, Ok, Err, OnOk, min}
use Rattle.std.proofs.lemmas.Bool.{cases_lt}
use Rattle.std.proofs.lemmas.List.{length-take-le}
use Rattle.ip_ground.specs.Told.{Told, NoFile, ChangesOnly}
use Rattle.ip_ground.proofs.Spans.{only_nowhere, only_on}
use Rattle.ip_spec.specs.Path.{Bytes}
use Rattle.ip_image.specs.Virtual.{Stands}
use Rattle.ip_space.specs.SpaceView.{SpaceView, IsReadable, byte_at}
use Rattle.ip_space.specs.Head.{needed}
use Rattle.ip_space.specs.Ahead.{IsUpTo, IsEnough, ReadsBytes}
use Rattle.ip_space.specs.Filling.{ShowsIn, GoesOn, Fills}
use Rattle.ip_space.specs.declared.fault.FetchFault.{FetchFault}
use Rattle.ip_space.proofs.StoodBytes.{stands_both, shows_alike, up_to_alike, gap_ends}
use Rattle.ip_space.proofs.ReadFronts.{needed_more}
use Rattle.ip_space.proofs.Stayed.{byte_stays}

-- nothing was read: enough is held, or all
pub goes_nowhere : (at want : ℕ) (space : SpaceView) (old new : Bytes) (told : Told) → new ≡ old → (want ≤ length old) ⊎ (space.layout.end - at ≤ length old)
    → GoesOn at want space old new (Ok tt) told told
goes_nowhere at want space old new told same enough = record {
  only = only_nowhere told NoFile;
  more = ([], same ∙ sym (append-nil old));
  shows = λ shows. subst (ShowsIn told space at) (sym same) shows;
  full = λ shows. subst (λ (b : Bytes). (want ≤ length b) ⊎ IsUpTo (byte_at told space) space.layout.end at b) (sym same) (up shows enough);
}
  where
    up : ShowsIn told space at old → (want ≤ length old) ⊎ (space.layout.end - at ≤ length old) → (want ≤ length old) ⊎ IsUpTo (byte_at told space) space.layout.end at old
    up shows (inl some) = inl some
    up shows (inr all) = inr (inl (let i = shows.inside in omega (arith, i, all)))

-- a refusal
pub goes_refused : (at want : ℕ) (space : SpaceView) (old new : Bytes) (result : Result (Unit {0}) FetchFault) (told now : Told) → ChangesOnly NoFile told now → new ≡ old
    → OnOk result ⊥ → GoesOn at want space old new result told now
goes_refused at want space old new result told now only same refused = record {
  only = only;
  more = ([], same ∙ sym (append-nil old));
  shows = λ shows. subst (ShowsIn told space at) (sym same) shows;
  full = λ shows. never ((want ≤ length new) ⊎ IsUpTo (byte_at told space) space.layout.end at new) result refused;
}
  where
    never : (P : Type 0) (r : Result (Unit {0}) FetchFault) → OnOk r ⊥ → OnOk r P
    never P (Ok u) none = absurd none
    never P (Err e) none = tt

-- one read behind what is held: as many bytes as are wanted, or as there is room for below the end
pub goes_by : (at want room n stop : ℕ) (space : SpaceView) (old new filled : Bytes) (told now : Told) → ChangesOnly NoFile told now
    → stop ≡ length old → ReadsBytes (byte_at told space) (at + stop) room filled (Ok n) → n ≤ room → n ≤ length filled → new ≡ old ++ take n filled
    → room + length old ≡ min want (space.layout.end - at) → GoesOn at want space old new (Ok tt) told now
goes_by at want room n stop space old new filled told now only behind reads fits long is size = record {
  only = only;
  more = (take n filled, is);
  shows = shows_new;
  full = λ shows. up (cases_lt n room);
}
  where
    f : ℕ → Option ℕ
    f = byte_at told space

    count : length new ≡ length old + n
    count = ap length is ∙ length-append old (take n filled) ∙ ap (λ (k : ℕ). length old + k) (length-take-le n filled long)

    shows_new : ShowsIn told space at old → ShowsIn told space at new
    shows_new shows = record {
      stands = subst (Stands f at) (sym is) (stands_both f at old (take n filled) shows.stands (subst (λ (k : ℕ). Stands f (at + k) (take n filled)) behind reads.bytes));
      inside = omega (arith, count, size, fits);
    }

    up : (n < room) ⊎ (room ≤ n) → (want ≤ length new) ⊎ IsUpTo f space.layout.end at new
    up (inl short) =
        let place : at + stop + n ≡ at + length new = omega (arith, count, behind) in
        inr (inr (ap f (sym place) ∙ reads.gap short))
    up (inr full) = elim (cases_lt (space.layout.end - at) want) [
      | inl all ↦ inr (inl (omega (arith, count, size, fits, full, all)))
      | inr some ↦ inl (omega (arith, count, size, fits, full, some))
    ]

pub shows_later : (told now : Told) (space : SpaceView) (at : ℕ) (bytes : Bytes) → IsReadable told space → ChangesOnly NoFile told now → ShowsIn told space at bytes → ShowsIn now space at bytes
shows_later told now space at bytes readable only = shows_alike (byte_at told space) (byte_at now space) (byte_stays told now only space readable) space.layout.end at bytes

module _ (at : ℕ) (space : SpaceView) (old mid new : Bytes) (told then now : Told) (readable : IsReadable told space) where
  -- the head, and then the body
  pub filled : (result : Result (Unit {0}) FetchFault) → GoesOn at 5 space old mid (Ok tt) told then → GoesOn at (needed mid) space mid new result then now → Fills at space old new result told now
  filled result head body = record {
    only = only_on told then now NoFile head.only body.only;
    shows = λ shows. shows_back new (body.shows (shows_on mid (head.shows shows)));
    enough = λ shows. enough_by result (shows_back new (body.shows (shows_on mid (head.shows shows)))) (body.full (shows_on mid (head.shows shows))) (head.full shows);
  }
    where
      shows_on : (b : Bytes) → ShowsIn told space at b → ShowsIn then space at b
      shows_on b = shows_alike (byte_at told space) (byte_at then space) (byte_stays told then head.only space readable) space.layout.end at b

      same_back : (p : ℕ) → byte_at told space p ≡ byte_at then space p
      same_back p = sym (byte_stays told then head.only space readable p)

      shows_back : (b : Bytes) → ShowsIn then space at b → ShowsIn told space at b
      shows_back b = shows_alike (byte_at then space) (byte_at told space) same_back space.layout.end at b

      up_back : IsUpTo (byte_at then space) space.layout.end at new → IsUpTo (byte_at told space) space.layout.end at new
      up_back = up_to_alike (byte_at then space) (byte_at told space) same_back space.layout.end at new

      longer : length new ≡ length mid + length body.more.0
      longer = ap length body.more.1 ∙ length-append mid body.more.0

      enough_by : (r : Result (Unit {0}) FetchFault) → ShowsIn told space at new → OnOk r ((needed mid ≤ length new) ⊎ IsUpTo (byte_at then space) space.layout.end at new)
          → (5 ≤ length mid) ⊎ IsUpTo (byte_at told space) space.layout.end at mid → OnOk r (IsEnough (byte_at told space) space.layout.end at new)
      enough_by (Err e) shows full five = tt
      enough_by (Ok u) shows (inr all) five = inr (up_back all)
      enough_by (Ok u) shows (inl some) (inl five) =
          let same : needed new ≡ needed mid = ap needed body.more.1 ∙ needed_more mid body.more.0 five in
          inl (omega (arith, longer, five), omega (arith, same, some))
      enough_by (Ok u) shows (inl some) (inr (inl full)) = inr (inl (let i = shows.inside in omega (arith, i, full, longer)))
      enough_by (Ok u) shows (inl some) (inr (inr gap)) =
          let none : body.more.0 ≡ [] = gap_ends (byte_at told space) at mid body.more.0 (subst (Stands (byte_at told space) at) body.more.1 shows.stands) gap in
          let same : mid ≡ new = sym (append-nil mid) ∙ ap (λ (b : Bytes). mid ++ b) (sym none) ∙ sym body.more.1 in
          inr (inr (subst (λ (b : Bytes). byte_at told space (at + length b) ≡ None) same gap))
