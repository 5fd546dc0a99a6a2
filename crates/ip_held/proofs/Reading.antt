-- What is read of the control file, and what a fresh one stands for.
use Rattle.std.proofs.Common.{◌≡◌, ◌≢◌, ℕ, ◌+◌, ◌<◌, min, true, false, List, [], ◌∷◌, ◌++◌, length, take, drop, Option, Some, None, refl, sym, ◌∙◌, ap, subst, arith}
use Rattle.std.specs.Prelude.{Ok, is_some, IsSome}
use Rattle.std.proofs.lemmas.List.{length-take, get_or-take, take_at}
use Rattle.std.proofs.lemmas.Grind.{same_number_lists}
use Rattle.ip_ground.specs.Contents.{Content, bytes_of, written}
use Rattle.ip_ground.specs.declared.names.FileName.TheVariants.{Control}
use Rattle.ip_ground.specs.Told.{Told, NoFile, ChangesOnly, IsSynced, EachImageNow}
use Rattle.ip_ground.specs.Calls.{Reads}
use Rattle.ip_ground.proofs.Durable.{IsOwn, held_passes}
use Rattle.ip_spec.specs.Path.{Bytes}
use Rattle.ip_spec.specs.Repository.{no_repository}
use Rattle.ip_image.specs.Slot.{live_index, IsChunkSize, slot_fields, fresh_control}
use Rattle.ip_image.specs.Standing.{StandsFor}
use Rattle.ip_image.proofs.FreshLaws.{first_slots, fresh_stands}
use Rattle.ip_held.specs.Control.{control_in, IsFresh}

pub own : IsOwn Control
own = record { own = λ told x. x; firm = λ told x. x; unmarked = λ attempt custody i. custody }

-- a range that is clipped to what is there
clipped : (l : List ℕ) (n : ℕ) → n ≡ min 256 (length l) → take n l ≡ take 256 l
clipped l n is =
    same_number_lists (take n l) (take 256 l) same_size (λ k lt.
    let below : k < n = omega (arith, lt, length-take n l) in
    get_or-take n l k 0 below ∙ sym (get_or-take 256 l k 0 (omega arith)))
  where
    same_size : length (take n l) ≡ length (take 256 l)
    same_size = omega (arith, length-take n l, length-take 256 l)

drop_none : {A : Type 0} (l : List A) → drop 0 l ≡ l
drop_none [] = refl
drop_none (x ∷ l) = refl

take_none : {A : Type 0} (l : List A) → take 0 l ≡ []
take_none [] = refl
take_none (x ∷ l) = refl

module _ (a b : Told) (out filled : List ℕ) (n : ℕ) (whole : length out ≡ 256) (reads : Reads Control 0 out filled (Ok n) a b) where
  -- what was read is the first 256 bytes
  pub read_bytes : take n filled ≡ take 256 (control_in b.held)
  read_bytes = reads.bytes ∙ ap (take n) (drop_none (control_in b.held)) ∙ clipped (control_in b.held) n (let c = reads.count in omega (arith, c, whole))

  pub read_index : live_index (take n filled) ≡ live_index (control_in b.held)
  read_index = ap live_index read_bytes ∙ first_slots (control_in b.held)

pub control_passes : (a b : Told) → ChangesOnly NoFile a b → control_in b.held ≡ control_in a.held
control_passes a b passes = ap bytes_of (held_passes Control own a b passes)

fresh_size : (chunk : ℕ) → length (fresh_control chunk) ≡ 256
unfolding slot_fields
fresh_size chunk = refl

over_all : (old new : Bytes) → length new ≡ 256 → take 256 (take 0 old ++ new ++ drop (0 + length new) old) ≡ new
over_all old new size = ap (λ l. take 256 (l ++ new ++ drop (0 + length new) old)) (take_none old) ∙ take_at new (drop (0 + length new) old) 256 size

pub fresh_written : (chunk : ℕ) (old : Content) → take 256 (bytes_of (written old 0 (fresh_control chunk))) ≡ fresh_control chunk
fresh_written chunk old = over_all (bytes_of old) (fresh_control chunk) (fresh_size chunk)

some_fresh : (chunk : ℕ) → take 256 [] ≢ fresh_control chunk
some_fresh chunk is = let e = ap length is in absurd (omega (arith, e, fresh_size chunk))

-- where nothing is pending, each image stands for the repository without commits
pub fresh_now : (chunk : ℕ) → IsChunkSize chunk → (told : Told) → IsFresh chunk told.held → IsSynced told Control → EachImageNow told (λ image. StandsFor image no_repository)
fresh_now chunk size told is kept image possible = by (image Control) refl
  where
    fresh : take 256 (control_in image) ≡ fresh_control chunk
    fresh = ap (λ content. take 256 (bytes_of content)) (kept (image Control) (possible Control)) ∙ is

    by : (content : Content) → image Control ≡ content → StandsFor image no_repository
    by None e = absurd (some_fresh chunk (ap (λ content. take 256 (bytes_of content)) (sym e) ∙ fresh))
    by (Some bytes) e = fresh_stands image bytes chunk size e (ap (λ content. take 256 (bytes_of content)) (sym e) ∙ fresh)

pub none_of : (x : Option ℕ) → is_some x ≡ false → x ≡ None
none_of None e = refl
none_of (Some n) e = absurd (cc (e))

pub some_of : (x y : Option ℕ) → x ≡ y → is_some x ≡ true → IsSome y
some_of x y e is = subst (λ z. IsSome z) e is
