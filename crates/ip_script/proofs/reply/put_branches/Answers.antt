use Rattle.std.proofs.Common.{decimal, length, codes, ◌++◌, ◌∷◌, flat_map}
use Rattle.ip_spec.specs.Text.{hex_text}
use Rattle.ip_spec.specs.declared.reply.Head.{Head}
use Rattle.ip_script.proofs.PutLemmas.{counted_pairs, behind, no_room_behind, ok_then, err_then}
use Rattle.ip_script.proofs.reply.put_branches.Goals as goal

pub returns-clause-ok : goal.returns-clause-ok
returns-clause-ok c =
    let xs = c.args.heads.now in
    ok_then c.put_heads.result _ _ (λ h. behind (codes "branches" ++ 32 ∷ decimal (length xs)) (flat_map (λ (x : Head). 32 ∷ (x.branch ++ 32 ∷ hex_text x.name)) xs) _ c.args.out.now.items c.put_count.new.out.items _ (counted_pairs (λ (x : Head). x.branch) (λ x. hex_text x.name) (codes "branches") (decimal (length xs)) xs) c.in_ok-put_count.ensures.ok h) c.put_heads.ensures.ok

pub returns-clause-room : goal.returns-clause-room
returns-clause-room c =
    let xs = c.args.heads.now in
    err_then c.put_heads.result _ _ (λ h. no_room_behind (codes "branches" ++ 32 ∷ decimal (length xs)) (flat_map (λ (x : Head). 32 ∷ (x.branch ++ 32 ∷ hex_text x.name)) xs) _ c.args.out.now.items c.put_count.new.out.items _ _ _ _ (counted_pairs (λ (x : Head). x.branch) (λ x. hex_text x.name) (codes "branches") (decimal (length xs)) xs) c.in_ok-put_count.ensures.ok c.args.out.now.ok.0 c.put_count.new.out.ok.0 c.in_ok-put_count.ensures.capacity h) c.put_heads.ensures.room
