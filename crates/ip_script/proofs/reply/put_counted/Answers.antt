use Rattle.std.proofs.Common.{decimal, length, ◌++◌, ◌∷◌, flat_map}
use Rattle.ip_spec.specs.Text.{hex_text}
use Rattle.ip_script.proofs.PutLemmas.{counted_text, behind, no_room_behind, ok_then, err_then}
use Rattle.ip_script.proofs.reply.put_counted.Goals as goal

pub returns-clause-ok : goal.returns-clause-ok
returns-clause-ok c =
    let xs = c.args.hashes.now in
    ok_then c.put_hashes.result _ _ (λ h. behind (c.args.word.now ++ 32 ∷ decimal (length xs)) (flat_map (λ x. 32 ∷ hex_text x) xs) _ c.args.out.now.items c.put_count.new.out.items _ (counted_text hex_text c.args.word.now (decimal (length xs)) xs) c.in_ok-put_count.ensures.ok h) c.put_hashes.ensures.ok

pub returns-clause-room : goal.returns-clause-room
returns-clause-room c =
    let xs = c.args.hashes.now in
    err_then c.put_hashes.result _ _ (λ h. no_room_behind (c.args.word.now ++ 32 ∷ decimal (length xs)) (flat_map (λ x. 32 ∷ hex_text x) xs) _ c.args.out.now.items c.put_count.new.out.items _ _ _ _ (counted_text hex_text c.args.word.now (decimal (length xs)) xs) c.in_ok-put_count.ensures.ok c.args.out.now.ok.0 c.put_count.new.out.ok.0 c.in_ok-put_count.ensures.capacity h) c.put_hashes.ensures.room
