use Rattle.std.proofs.Common.{length, ◌-◌, ◌≡◌, ◌≤◌, drop}
use Rattle.ip_script.specs.Fields.{reach_fields, reach, reach_from}
use Rattle.ip_script.proofs.line.reach.Given as goal

abbrev pub invariant-loop-at : goal.invariant-loop-at
invariant-loop-at l = record {
  within : l.at ≤ length l.line;
  in_word : l.at ≤ length l.word;
  goes_on : reach l.word l.fields l.line ≡ reach_from l.at (drop l.at l.word) l.fields (drop l.at l.line);
}

abbrev pub decreases-loop-at : goal.decreases-loop-at
decreases-loop-at l = length l.word - l.at

abbrev pub invariant-loop-field : goal.invariant-loop-field
invariant-loop-field l = record {
  within : l.at ≤ length l.line;
  goes_on : reach l.word l.fields l.line ≡ reach_fields (drop l.field-index l.fields) l.at (drop l.at l.line);
}
