use Rattle.std.proofs.Common.{◌≡◌, ◌∷◌, ◌++◌, [], ◌&&◌, ◌||◌, not, flat_map, filter}
use Rattle.ip_spec.specs.Path.{line_feed}
use Rattle.ip_spec.specs.Merge.{has_line}
use Rattle.ip_merge.specs.Lines.{texts}
use Rattle.ip_merge.proofs.line_set.merged_lines.Given as goal

abbrev pub invariant-loop-line : goal.invariant-loop-line
invariant-loop-line l = l.out.items ≡ flat_map (λ line. line ++ line_feed ∷ []) (filter (λ line. (has_line (texts l.left.keys) line && has_line (texts l.right.keys) line) || not (has_line (texts l.base.keys) line)) (texts l.yielded))
