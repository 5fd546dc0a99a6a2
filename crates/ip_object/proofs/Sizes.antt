-- How long records of commits and of their branches are.
use Rattle.std.proofs.Common.{◌≡◌, ℕ, ◌+◌, ◌*◌, List, [], ◌∷◌, ◌++◌, length, flat_map, arith}
use Rattle.std.proofs.lemmas.List.{length-append}
use Rattle.std.specs.List.{AllByRecursion}
use Rattle.std.proofs.lemmas.List.Elements.{recursion_from_All}
use Rattle.ip_spec.specs.declared.record.CommitRecord.{CommitRecord}
use Rattle.ip_spec.specs.declared.record.Parent.{Parent}
use Rattle.ip_spec.specs.declared.record.Record.TheVariants as Record
use Rattle.ip_spec.specs.Path.{Bytes}
use Rattle.ip_spec.specs.Record.{u8, u64, short_text, long_text, info_spelling, body, IsCommitRecord, IsHash, IsU64}

pub three : (a b c : Bytes) → length (a ++ b ++ c) ≡ length a + length b + length c
three a b c = omega (arith, length-append (a ++ b) c, length-append a b)

pub five : (a b c d e : Bytes) → length (a ++ b ++ c ++ d ++ e) ≡ length a + length b + length c + length d + length e
five a b c d e = omega (arith, length-append (a ++ b ++ c ++ d) e, length-append (a ++ b ++ c) d, three a b c)

parent_bytes : (ps : List Parent) → AllByRecursion (λ p. IsU64 p.number × IsHash p.name) ps → length (flat_map (λ (p : Parent). u64 p.number ++ p.name) ps) ≡ 40 * length ps
parent_bytes [] each = omega arith
parent_bytes (p ∷ ps) (i, is) =
    let rest = parent_bytes ps is in
    let name = i.1.0 in
    omega (arith, rest, name, length-append (u64 p.number) p.name, length-append (u64 p.number ++ p.name) (flat_map (λ (p : Parent). u64 p.number ++ p.name) ps))

pub commit_size : (c : CommitRecord) → IsCommitRecord c → length (body (Record.Commit c)) ≡ 60 + 40 * length c.parents + length c.info.author + length c.info.message
unfolding body
commit_size c is =
    let parents : Bytes = flat_map (λ (p : Parent). u64 p.number ++ p.name) c.parents in
    let info = three (u64 c.info.date) (short_text c.info.author) (long_text c.info.message) in
    let root = is.root_name.0 in
    omega (arith, root, info, parent_bytes c.parents (recursion_from_All _ c.parents is.each), length-append (u64 c.number ++ c.root_name ++ u64 c.root_at ++ u8 (length c.parents) ++ parents) (info_spelling c.info), five (u64 c.number) c.root_name (u64 c.root_at) (u8 (length c.parents)) parents)

pub branch_size : (n : ℕ) (name : Bytes) → length (body (Record.BranchSet n name)) ≡ 9 + length name
unfolding body
branch_size n name = omega (arith, length-append (u64 n) (short_text name))
