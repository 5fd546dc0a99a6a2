use Rattle.std.proofs.Common.{◌≡◌, ◌+◌, ◌≤◌, ◌++◌, ◌∷◌, take, flat_map, length, vec_len}
use Rattle.std.specs.Vec.{vec_capacity}
use Rattle.ip_base.specs.PathText.{space}
use Rattle.ip_spec.specs.Text.{hex_text}
use Rattle.ip_script.proofs.reply.put_heads.Given as goal

abbrev pub invariant-loop-head : goal.invariant-loop-head
invariant-loop-head l = record {
  items : l.out.items ≡ l.fn.out.items ++ flat_map (λ e. space ∷ (e.branch ++ space ∷ hex_text e.name)) (take l.head-index l.heads);
  long : vec_len l.out ≡ vec_len l.fn.out + length (flat_map (λ e. space ∷ (e.branch ++ space ∷ hex_text e.name)) (take l.head-index l.heads));
  capacity : vec_capacity l.fn.out ≤ vec_capacity l.out;
}
