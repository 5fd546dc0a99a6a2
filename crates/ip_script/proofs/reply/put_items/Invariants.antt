use Rattle.std.proofs.Common.{◌≡◌, ◌+◌, ◌≤◌, ◌++◌, ◌∷◌, take, flat_map, length, vec_len}
use Rattle.std.specs.Vec.{vec_capacity}
use Rattle.ip_base.specs.PathText.{space}
use Rattle.ip_spec.specs.Text.{kind_text}
use Rattle.ip_script.proofs.reply.put_items.Given as goal

abbrev pub invariant-loop-item : goal.invariant-loop-item
invariant-loop-item l = record {
  items : l.out.items ≡ l.fn.out.items ++ flat_map (λ e. space ∷ (kind_text e.dir ++ e.step)) (take l.item-index l.items);
  long : vec_len l.out ≡ vec_len l.fn.out + length (flat_map (λ e. space ∷ (kind_text e.dir ++ e.step)) (take l.item-index l.items));
  capacity : vec_capacity l.fn.out ≤ vec_capacity l.out;
}
