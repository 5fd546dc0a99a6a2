use Rattle.std.proofs.Common.{decimal, length, codes, ◌++◌, ◌∷◌, flat_map}
use Rattle.ip_spec.specs.Text.{kind_text}
use Rattle.ip_spec.specs.declared.tree.Item.{Item}
use Rattle.ip_script.proofs.PutLemmas.{counted_text, behind, no_room_behind, ok_then, err_then}
use Rattle.ip_script.proofs.reply.put_listing.Goals as goal

pub returns-clause-ok : goal.returns-clause-ok
returns-clause-ok c =
    let xs = c.args.items.now in
    ok_then c.put_items.result _ _ (λ h. behind (codes "list" ++ 32 ∷ decimal (length xs)) (flat_map (λ (x : Item). 32 ∷ (kind_text x.dir ++ x.step)) xs) _ c.args.out.now.items c.put_count.new.out.items _ (counted_text (λ (x : Item). kind_text x.dir ++ x.step) (codes "list") (decimal (length xs)) xs) c.in_ok-put_count.ensures.ok h) c.put_items.ensures.ok

pub returns-clause-room : goal.returns-clause-room
returns-clause-room c =
    let xs = c.args.items.now in
    err_then c.put_items.result _ _ (λ h. no_room_behind (codes "list" ++ 32 ∷ decimal (length xs)) (flat_map (λ (x : Item). 32 ∷ (kind_text x.dir ++ x.step)) xs) _ c.args.out.now.items c.put_count.new.out.items _ _ _ _ (counted_text (λ (x : Item). kind_text x.dir ++ x.step) (codes "list") (decimal (length xs)) xs) c.in_ok-put_count.ensures.ok c.args.out.now.ok.0 c.put_count.new.out.ok.0 c.in_ok-put_count.ensures.capacity h) c.put_items.ensures.room
