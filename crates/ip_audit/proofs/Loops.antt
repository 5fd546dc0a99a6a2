-- From the code's loops to the tests.
use Rattle.std.proofs.Common.{◌≡◌, ℕ, suc, ◌+◌, List, [], ◌∷◌, ◌∙◌, refl, sym, ap, arith, take, Some, Result, Ok, Err}
use Rattle.std.specs.Prelude.{All, OnOk, sum_by, fold, max}
use Rattle.std.specs.List.{AllByRecursion}
use Rattle.ip_spec.specs.declared.record.InodeChild.{InodeChild}
use Rattle.ip_spec.specs.declared.record.Record.{Record}
use Rattle.ip_spec.specs.Record.{Hash, name_of}
use Rattle.ip_audit.specs.Memory.{Look, ways, inode_part}
use Rattle.ip_audit.specs.View.{counts_of, places_in}
use Rattle.ip_audit.proofs.Common.{some_is}
use Rattle.ip_audit.proofs.Children.{total, sum_total}

pub each_of : {A : Type 0} (P : A → Type 0) (xs : List A) → All P xs → AllByRecursion P xs
each_of P [] h = tt
each_of P (x ∷ xs) h = (h 0 x (omega arith), each_of P xs (λ k d l. h (suc k) d (omega (arith, l))))

pub on_ok : {A E P : Type 0} (r : Result A E) → P → OnOk r P
on_ok (Ok x) p = p
on_ok (Err x) p = tt

-- ---- what is remembered of an inode

counts_are : (cs : List InodeChild) → counts_of cs ≡ total (λ (c : InodeChild). c.count) cs
unfolding total
counts_are [] = refl
counts_are (c ∷ cs) = ap (λ n. c.count + n) (counts_are cs)

pub counts_sum : (cs : List InodeChild) → counts_of cs ≡ sum_by (λ (c : InodeChild). c.count) cs
counts_sum cs = counts_are cs ∙ sym (sum_total (λ (c : InodeChild). c.count) cs)

pub inode_part_is : (look : Look) (depth count height : ℕ) (name : Hash) (first : List ℕ) (cs : List InodeChild) → count ≡ counts_of cs → height ≡ fold (λ n (c : InodeChild). max n c.height) 0 cs → name_of (Record.Inode depth cs) ≡ Some name
    → ways look depth cs ≡ take depth (places_in first) → record { depth = Some depth; count = count; height = height; name = name; common = take depth (places_in first) } ≡ inode_part look depth cs
inode_part_is look depth count height name first cs counts tall named common =
    let total_is = counts ∙ counts_sum cs in
    let name_is = sym (some_is (inode_part look depth cs).name name named) in
    λ i. record { depth = Some depth; count = total_is i; height = tall i; name = name_is i; common = sym common i }
