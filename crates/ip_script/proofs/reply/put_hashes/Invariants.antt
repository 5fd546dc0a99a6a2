use Rattle.std.proofs.Common.{◌≡◌, ◌+◌, ◌≤◌, ◌++◌, ◌∷◌, take, flat_map, length, vec_len}
use Rattle.std.specs.Vec.{vec_capacity}
use Rattle.ip_base.specs.PathText.{space}
use Rattle.ip_spec.specs.Text.{hex_text}
use Rattle.ip_script.proofs.reply.put_hashes.Given as goal

abbrev pub invariant-loop-hash : goal.invariant-loop-hash
invariant-loop-hash l = record {
  items : l.out.items ≡ l.fn.out.items ++ flat_map (λ h. space ∷ hex_text h) (take l.hash-index l.hashes);
  long : vec_len l.out ≡ vec_len l.fn.out + length (flat_map (λ h. space ∷ hex_text h) (take l.hash-index l.hashes));
  capacity : vec_capacity l.fn.out ≤ vec_capacity l.out;
}
