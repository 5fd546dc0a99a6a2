use Rattle.std.proofs.Common.{decimal, length, map, ◌∷◌, arith, ap, length-append}
use Rattle.std.specs.List.{join_with_byte}
use Rattle.ip_spec.specs.Text.{hex_text}
use Rattle.ip_script.proofs.PutLemmas.{joined_last, behind, no_room_behind, ok_then, err_then, on_err}
use Rattle.ip_script.proofs.reply.put_parents.Goals as goal

pub returns-in_err-put_counted-clause-room : goal.returns-in_err-put_counted-clause-room
returns-in_err-put_counted-clause-room c =
    let number = decimal (length c.args.parents.now) in
    let names = map hex_text c.args.parents.now in
    on_err c.from_residual.result (omega (arith, c.in_err-put_counted.ensures.room, ap length (joined_last number names c.args.message.now), length-append (join_with_byte 32 (number ∷ names)) (32 ∷ c.args.message.now)))

pub returns-clause-ok : goal.returns-clause-ok
returns-clause-ok c =
    let number = decimal (length c.args.parents.now) in
    let names = map hex_text c.args.parents.now in
    ok_then c.put_word.result _ _ (λ h. behind (32 ∷ join_with_byte 32 (number ∷ names)) (32 ∷ c.args.message.now) _ c.args.out.now.items c.put_counted.new.out.items _ (ap (λ t. 32 ∷ t) (joined_last number names c.args.message.now)) c.in_ok-put_counted.ensures.ok h) c.put_word.ensures.ok

pub returns-clause-room : goal.returns-clause-room
returns-clause-room c =
    let number = decimal (length c.args.parents.now) in
    let names = map hex_text c.args.parents.now in
    err_then c.put_word.result _ _ (λ h. no_room_behind (32 ∷ join_with_byte 32 (number ∷ names)) (32 ∷ c.args.message.now) _ c.args.out.now.items c.put_counted.new.out.items _ _ _ _ (ap (λ t. 32 ∷ t) (joined_last number names c.args.message.now)) c.in_ok-put_counted.ensures.ok c.args.out.now.ok.0 c.put_counted.new.out.ok.0 c.in_ok-put_counted.ensures.capacity h) c.put_word.ensures.room
