-- What a call does that only looked, and one that changes something only behind that.
--     changes_looked      the relation of a call that only looked.      pending_on, space_between      nothing comes to be pending, and each image has the bytes that were there
--     changes_behind      from the middle on is from the start on, where the first part only looked.      stays_behind, appends_behind      so of the records
use Rattle.std.proofs.Common.{◌≡◌, ◌≢◌, inl, inr, ℕ, ◌<◌, ◌≤◌, ◌++◌, length, Option, Some, sym, ◌∙◌, ap, subst, arith}
use Rattle.std.specs.Prelude.{Result, OnOk}
use Rattle.std.proofs.lemmas.Bool.{cases_lt}
use Rattle.std.proofs.lemmas.Result.{on_ok_weaker}
use Rattle.ip_ground.specs.declared.names.FileName.{FileName}
use Rattle.ip_ground.specs.declared.names.FileName.TheVariants.{Control, Chunk, Mapping, Prefix}
use Rattle.ip_ground.specs.Contents.{Image, Content, Possible}
use Rattle.ip_ground.specs.Told.{Told, NoFile, KeepsFile, ChangesOnly}
use Rattle.ip_ground.proofs.Passing.{changes_nothing_on}
use Rattle.ip_ground.proofs.Spans.{only_more, only_on, at_most}
use Rattle.ip_spec.specs.declared.record.Record.{Record}
use Rattle.ip_spec.specs.Repository.{Repository}
use Rattle.ip_spec.specs.TreeAt.{Records}
use Rattle.ip_image.specs.declared.slot.Slot.{Slot}
use Rattle.ip_image.specs.Virtual.{chunk_of, chunk_byte}
use Rattle.ip_image.specs.Pending.{HasLive, Crash, crash_at, crash_now, SameSpace, LeavesPair, NothingPending}
use Rattle.ip_image.specs.Appending.{bytes_of_records}
use Rattle.ip_image.specs.Headline.{RecoversTo}
use Rattle.ip_image.proofs.HeadlineLaws.{flushed_less, pending_passes, one_slot}
use Rattle.ip_held.specs.declared.fault.StoreFault.{StoreFault}
use Rattle.ip_held.specs.declared.held.Held.{Held}
use Rattle.ip_held.specs.Changes.{Changes, Appends, next_slot}
use Rattle.ip_held.specs.Collecting.{carrying}
use Rattle.ip_publish.specs.Publishing.{MayChange}
use Rattle.ip_held.specs.Held.{Holds, OwnsPair, image_records}
use Rattle.ip_held.specs.Trees.{RecordsStay, OnlyLooks}
use Rattle.ip_held.proofs.Listed.{space_stays, same_list}
use Rattle.ip_held.proofs.Recovering.{held_has, pair_left, recovers_now, recovers_since}

-- what a crash may leave of an earlier moment does not grow
pub recovers_less : (crash less : Crash) (r : Repository) → ((file : FileName) (content : Content) → less.leave file content → crash.leave file content) → ((attempt : ℕ) → less.lending attempt ≡ crash.lending attempt) → RecoversTo crash r → RecoversTo less r
recovers_less crash less r leaves same was = record {
  stands = λ image possible. was.stands image (λ file. leaves file (image file) (possible file));
  flushed = flushed_less crash less leaves same was.flushed;
}

module _ (r : Repository) (store : Held) (a : Told) (held : Holds store a r) (b : Told) (only : ChangesOnly NoFile a b) where
  files : (file : FileName) → KeepsFile a b file
  files file = only.others file (λ none. none)

  pub pending_on : NothingPending a → NothingPending b
  pending_on order = pending_passes a b only.goes files only.lending order

  recovers_between : NothingPending a → (t : ℕ) → a.moment < t → t ≤ b.moment → RecoversTo (crash_at b t) r
  recovers_between order t late le = recovers_since store r a held order b files only.lending t late le

  recovers_until : NothingPending a → (t : ℕ) → a.moment ≤ t → t ≤ b.moment → RecoversTo (crash_at b t) r
  recovers_until order t low le = elim (cases_lt a.moment t) [
    | inl late ↦ recovers_between order t late le
    | inr still ↦
        let now : t ≡ a.moment = omega (arith, low, still) in
        recovers_less (crash_at a t) (crash_at b t) r (λ file content left. only.goes.left t file content still left) (λ attempt. only.goes.lending t attempt still)
        (subst (λ (n : ℕ). RecoversTo (crash_at a n) r) (sym now) (recovers_now store r a held order))
  ]

  -- each image has the bytes that were there
  pub space_between : NothingPending a → (u : Slot) → HasLive u a.held → (t : ℕ) → a.moment < t → t ≤ b.moment → (image : Image) → Possible (b.may_leave t) image → SameSpace u a.held image
  unfolding chunk_byte
  space_between order u has t late le image possible = record {
    chunks = λ at low high. order.chunks u has at low high (image (Chunk (chunk_of u.chunk at))) ((files (Chunk (chunk_of u.chunk at))).left (λ x. x) t (image (Chunk (chunk_of u.chunk at))) late le (possible (Chunk (chunk_of u.chunk at))));
    mapping = λ live. (pair live).mapping (image (Mapping u.live)) (possible (Mapping u.live));
    prefix = λ live. (pair live).prefix (image (Prefix u.live)) (possible (Prefix u.live));
  }
    where
      pair : u.live ≢ 0 → LeavesPair (crash_at b t) u.live a.held
      pair live = pair_left a b u.live (at_most a b (Mapping u.live) (files (Mapping u.live))) (at_most a b (Prefix u.live) (files (Prefix u.live))) (only.lending u.live) (order.pair u has live) t late le

  space_now : (u : Slot) → HasLive u a.held → SameSpace u a.held b.held
  space_now u has = space_stays u a b (λ file. (files file).held) (subst (OwnsPair a) (one_slot store.slot u a.held (held_has store r a held) has) held.pair)

  has_after : (u : Slot) → HasLive u a.held → HasLive u b.held
  has_after u has = record { control = has.control; index = has.index; held = (files Control).held (λ x. x) ∙ has.held; live = has.live }

  has_before : (u : Slot) → HasLive u b.held → HasLive u a.held
  has_before u has = record { control = has.control; index = has.index; held = sym ((files Control).held (λ x. x)) ∙ has.held; live = has.live }

  pub changes_looked : {A : Type 0} (after : Repository) (res : Result A StoreFault) (store' : Held) → Holds store' b r → OnOk res (after ≡ r) → Changes r after res store' a b
  changes_looked after res store' now same = record {
    only = only_more a b NoFile (MayChange a.held) (λ file none. absurd none) only;
    refused = λ ref. (only, now);
    ok = on_ok_weaker res (λ is. subst (Holds store' b) (sym is) now) same;
    atomic = λ order t late le.
        let there = recovers_between order t late le in
        record { stands = λ image possible. inl (there.stands image possible); flushed = there.flushed };
    recovers = λ order. on_ok_weaker res (λ is. subst (RecoversTo (crash_now b)) (sym is) (recovers_now store' r b now (pending_on order))) same;
    recovers_refused = λ order ref t low high. recovers_until order t low high;
    nothing_pending = λ order has. pending_on order;
    flushed = λ order. (recovers_now store' r b now (pending_on order)).flushed;
    space = λ order u has t late le image possible. space_between order u has t late le image possible;
  }

  pub changes_behind : {A : Type 0} (after : Repository) (res : Result A StoreFault) (store' : Held) (c : Told) → Changes r after res store' b c → Changes r after res store' a c
  changes_behind after res store' c is =
      let goes = is.only.goes in
      record {
        only = only_on a b c (MayChange a.held) (only_more a b NoFile (MayChange a.held) (λ file none. absurd none) only)
            (only_more b c (MayChange b.held) (MayChange a.held) (λ file may. elim may [ inl control ↦ inl control | inr chunk ↦ inr (chunk.0, has_before chunk.0 chunk.1, chunk.2) ]) is.only);
        refused = λ ref. let both = is.refused ref in (changes_nothing_on a b c only both.0, both.1);
        ok = is.ok;
        atomic = λ order t late le. elim (cases_lt b.moment t) [
          | inl now ↦ is.atomic (pending_on order) t now le
          | inr was ↦
              let there = recovers_less (crash_at b t) (crash_at c t) r (λ file content left. goes.left t file content was left) (λ attempt. goes.lending t attempt was) (recovers_between order t late was) in
              record { stands = λ image possible. inl (there.stands image possible); flushed = there.flushed }
        ];
        recovers = λ order. is.recovers (pending_on order);
        recovers_refused = λ order ref t low high. elim (cases_lt b.moment t) [
          | inl now ↦ is.recovers_refused (pending_on order) ref t (omega (arith, now)) high
          | inr was ↦ recovers_less (crash_at b t) (crash_at c t) r (λ file content left. goes.left t file content was left) (λ attempt. goes.lending t attempt was) (recovers_until order t low was)
        ];
        nothing_pending = λ order has. is.nothing_pending (pending_on order) has;
        flushed = λ order. is.flushed (pending_on order);
        space = λ order u has t late le image possible. elim (cases_lt b.moment t) [
          | inl now ↦
              let first = space_now u has in
              let next = is.space (pending_on order) u (has_after u has) t now le image possible in
              record {
                chunks = λ at low high. next.chunks at low high ∙ first.chunks at low high;
                mapping = λ live. next.mapping live ∙ first.mapping live;
                prefix = λ live. next.prefix live ∙ first.prefix live;
              }
          | inr was ↦ space_between order u has t late was image (λ file. goes.left t file (image file) was (possible file))
        ];
      }

-- ---- the records

module _ (a b : Told) (store mid : Held) (looks : OnlyLooks a b store mid) where
  pub stays_behind : (c : Told) (now : Held) (r q : Repository) (held : Holds store a r) (after : Holds now c q) → RecordsStay (image_records (looks.holds r held)) (image_records after) → RecordsStay (image_records held) (image_records after)
  stays_behind c now r q held after stay at x is = stay at x (subst (λ (records : ℕ → Option Record). records at ≡ Some x) (sym (looks.records r held (looks.holds r held))) is)

  pub appends_behind : (more : Records) (commits : ℕ) (now : Held) (c : Told) → mid.slot ≡ store.slot → mid.unswept ≡ store.unswept → Appends more commits mid now b c → Appends more commits store now a c
  appends_behind more commits now c slot unswept is = record {
    slot = is.slot ∙ (λ i. next_slot (carrying (slot i) (unswept i)) (length (bytes_of_records more)) commits);
    records = λ r q before after.
        let only = looks.reads.only in
        is.records r q (looks.holds r before) after ∙ ap (λ (rs : Records). rs ++ more)
        (same_list store a r before b ((only.others Control (λ none. none)).held (λ x. x)) (space_stays store.slot a b (λ file. (only.others file (λ none. none)).held) before.pair) (looks.holds r before).stands.standing);
  }
