use Rattle.std.proofs.Common.{◌∷◌, ◌∙◌, ◌-◌, length, take, drop, flat_map, ap, arith, List, ℕ, ◌++◌}
use Rattle.ip_script.proofs.PutLemmas.{path_parts, behind, no_room_behind, ok_then, err_then}
use Rattle.ip_script.proofs.reply.put_path.Goals as goal

pub returns-in_ok-extend_from_slice-in-len1-up-clause-ok : goal.returns-in_ok-extend_from_slice-in-len1-up-clause-ok
returns-in_ok-extend_from_slice-in-len1-up-clause-ok c =
    let steps = c.args.steps.now in
    ok_then c.put_steps.result _ _ (λ h. behind c.first-item.result (flat_map (λ (s : List ℕ). 47 ∷ s) (take (length steps - 1) (drop 1 steps))) _ c.args.out.now.items c.extend_from_slice.new.self.items _ (path_parts c.first-item.result steps (omega (arith, c.in-len1-up.len_at_least)) c.first-item.is) (c.in_ok-extend_from_slice-in-len1-up.ensures.items ∙ ap (λ (t : List ℕ). c.args.out.now.items ++ t) c.bytes.ensures) h) c.put_steps.ensures.ok

pub returns-in_ok-extend_from_slice-in-len1-up-clause-room : goal.returns-in_ok-extend_from_slice-in-len1-up-clause-room
returns-in_ok-extend_from_slice-in-len1-up-clause-room c =
    let steps = c.args.steps.now in
    err_then c.put_steps.result _ _ (λ h. no_room_behind c.first-item.result (flat_map (λ (s : List ℕ). 47 ∷ s) (take (length steps - 1) (drop 1 steps))) _ c.args.out.now.items c.extend_from_slice.new.self.items _ _ _ _ (path_parts c.first-item.result steps (omega (arith, c.in-len1-up.len_at_least)) c.first-item.is) (c.in_ok-extend_from_slice-in-len1-up.ensures.items ∙ ap (λ (t : List ℕ). c.args.out.now.items ++ t) c.bytes.ensures) c.args.out.now.ok.0 c.extend_from_slice.new.self.ok.0 c.in_ok-extend_from_slice-in-len1-up.ensures.capacity h) c.put_steps.ensures.room
