use Rattle.std.proofs.Common.{◌≡◌, ◌+◌, ◌≤◌, ◌++◌, ◌∷◌, take, flat_map, length, vec_len}
use Rattle.std.specs.Vec.{vec_capacity}
use Rattle.ip_base.specs.PathText.{slash}
use Rattle.ip_script.proofs.reply.put_steps.Given as goal

abbrev pub invariant-loop-step : goal.invariant-loop-step
invariant-loop-step l = record {
  items : l.out.items ≡ l.fn.out.items ++ flat_map (λ s. slash ∷ s) (take l.step-index l.steps);
  long : vec_len l.out ≡ vec_len l.fn.out + length (flat_map (λ s. slash ∷ s) (take l.step-index l.steps));
  capacity : vec_capacity l.fn.out ≤ vec_capacity l.out;
}
