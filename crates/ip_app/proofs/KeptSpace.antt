-- The bytes that a slot's records lie in.
--     same_space, space_on      they are the same in one image, and over three
--     pending_space      where nothing is pending a crash leaves those of the live slot.      stays_space      they stay while no file changes
use Rattle.std.proofs.Common.{refl, ap, ◌∙◌}
use Rattle.ip_ground.specs.declared.names.FileName.{FileName}
use Rattle.ip_ground.specs.declared.names.FileName.TheVariants.{Chunk, Mapping, Prefix}
use Rattle.ip_ground.specs.Contents.{Content, Image}
use Rattle.ip_ground.specs.Custody.{Custody, own, lent, settled, IsForeign, IsLoose}
use Rattle.ip_ground.specs.Told.{Told, lending, KeepsFile, IsPossible}
use Rattle.ip_image.specs.declared.slot.Slot.{Slot}
use Rattle.ip_image.specs.Pending.{HasLive, SameSpace, NothingPending}
use Rattle.ip_image.specs.Virtual.{byte_of, chunk_byte, chunk_of, place_in_chunk}

pub same_space : (slot : Slot) (image : Image) → SameSpace slot image image
same_space slot image = record { chunks = λ at low high. refl; mapping = λ some. refl; prefix = λ some. refl }

pub space_on : (slot : Slot) (a b c : Image) → SameSpace slot a b → SameSpace slot b c → SameSpace slot a c
space_on slot a b c first then_same = record { chunks = λ at low high. then_same.chunks at low high ∙ first.chunks at low high; mapping = λ some. then_same.mapping some ∙ first.mapping some; prefix = λ some. then_same.prefix some ∙ first.prefix some }

-- where nothing is pending a crash leaves what there is of the live slot's records
pub pending_space : (a : Told) → NothingPending a → (u : Slot) → HasLive u a.held → (image : Image) → IsPossible a a.moment image → SameSpace u a.held image
unfolding chunk_byte
pending_space a pending u has image possible = record {
  chunks = λ at low high. pending.chunks u has at low high (image (Chunk (chunk_of u.chunk at))) (possible (Chunk (chunk_of u.chunk at)));
  mapping = λ some. (pending.pair u has some).mapping (image (Mapping u.live)) (possible (Mapping u.live));
  prefix = λ some. (pending.pair u has some).prefix (image (Prefix u.live)) (possible (Prefix u.live));
}

own_firm : (state : Custody) (file : FileName) → ¬ IsLoose state file → ¬ IsForeign state
own_firm own file firm foreign = absurd foreign
own_firm lent file firm foreign = firm tt
own_firm (settled pair synced) file firm foreign = absurd foreign

-- and while no file changes
pub stays_space : (a b : Told) → ((file : FileName) → KeepsFile a b file) → NothingPending a → (u : Slot) → HasLive u a.held → SameSpace u a.held b.held
unfolding chunk_byte
stays_space a b stays pending u has = record {
  chunks = λ at low high. ap (λ (content : Content). byte_of content (place_in_chunk u.chunk at)) ((stays (Chunk (chunk_of u.chunk at))).held (λ foreign. foreign));
  mapping = λ some. (stays (Mapping u.live)).held (own_firm (lending a u.live) (Mapping u.live) (pending.pair u has some).firm_mapping);
  prefix = λ some. (stays (Prefix u.live)).held (own_firm (lending a u.live) (Prefix u.live) (pending.pair u has some).firm_prefix);
}
