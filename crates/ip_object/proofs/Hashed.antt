-- What names are made from, part by part.
use Rattle.std.proofs.Common.{◌≡◌, ℕ, suc, ◌+◌, ◌^◌, List, [], ◌∷◌, ◌++◌, refl, sym, ap, length, map, flat_map}
use Rattle.std.specs.Prelude.{fold}
use Rattle.ip_spec.specs.Path.{Bytes, Step}
use Rattle.ip_spec.specs.declared.record.LeafEntry.{LeafEntry}
use Rattle.ip_spec.specs.declared.record.InodeChild.{InodeChild}
use Rattle.ip_spec.specs.declared.record.CommitRecord.{CommitRecord}
use Rattle.ip_spec.specs.declared.record.Parent.{Parent}
use Rattle.ip_spec.specs.Record.{Child, hashed_leaf, hashed_inode, hashed_commit, info_spelling, short_text, u8, u32, bitmap}
use Rattle.ip_object.specs.Lists.{hashed_entry, hashed_child}

length_map : {A B : Type 0} (f : A → B) (xs : List A) → length (map f xs) ≡ length xs
length_map f [] = refl
length_map f (x ∷ xs) = ap suc (length_map f xs)

flat_map-map : {A B : Type 0} (g : B → Bytes) (f : A → B) (xs : List A) → flat_map g (map f xs) ≡ flat_map (λ x. g (f x)) xs
flat_map-map g f [] = refl
flat_map-map g f (x ∷ xs) = ap (λ t. g (f x) ++ t) (flat_map-map g f xs)

abbrev entry_child : LeafEntry → Step × Child
entry_child e = (e.step, (e.kind, e.name))

abbrev spelled : Step × Child → Bytes
spelled e = short_text e.0 ++ u8 e.1.0 ++ e.1.1

pub leaf_hashed : (es : List LeafEntry) → 2 ∷ u32 (length es) ++ flat_map hashed_entry es ≡ hashed_leaf (map (λ e. (e.step, (e.kind, e.name))) es)
leaf_hashed es i = 2 ∷ (u32 (sym (length_map entry_child es) i) ++ sym (flat_map-map spelled entry_child es) i)

abbrev counted : InodeChild → ℕ × ℕ × Bytes
counted c = (c.index, c.count, c.name)

weights : (acc : ℕ) (cs : List InodeChild) → fold (λ n (c : InodeChild). n + 2 ^ c.index) acc cs ≡ fold (λ n (c : ℕ × ℕ × Bytes). n + 2 ^ c.0) acc (map counted cs)
weights acc [] = refl
weights acc (c ∷ cs) = weights (acc + 2 ^ c.index) cs

pub inode_hashed : (depth : ℕ) (cs : List InodeChild) → 3 ∷ depth ∷ u32 (bitmap cs) ++ flat_map hashed_child cs ≡ hashed_inode depth (map (λ c. (c.index, c.count, c.name)) cs)
inode_hashed depth cs i = 3 ∷ (depth ∷ (u32 (weights 0 cs i) ++ sym (flat_map-map (λ (c : ℕ × ℕ × Bytes). u32 c.1 ++ c.2) counted cs) i))

pub commit_hashed : (c : CommitRecord) → 4 ∷ c.root_name ++ u8 (length c.parents) ++ flat_map (λ p. p.name) c.parents ++ info_spelling c.info ≡ hashed_commit c.root_name (map (λ p. p.name) c.parents) c.info
commit_hashed c i = 4 ∷ (c.root_name ++ u8 (sym (length_map (λ (p : Parent). p.name) c.parents) i) ++ sym (flat_map-map (λ (name : Bytes). name) (λ (p : Parent). p.name) c.parents) i ++ info_spelling c.info)
