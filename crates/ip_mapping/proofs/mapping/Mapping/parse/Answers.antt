use Rattle.std.proofs.Common.{rules, subst, sym}
use Rattle.std.proofs.lemmas.Bool.{false≢true}
use Rattle.ip_mapping.specs.Parsing.{Parses}
use Rattle.ip_mapping.proofs.Outcomes.{IsSmall, no_head, bad_length}
use Rattle.ip_mapping.proofs.mapping.Mapping.parse.Goals as goal
use Rattle.ip_mapping.proofs.mapping.Mapping.parse.Goals.{in_default-via-in-Some+else-holds_rows, in_default-via-in_default}

pub returns-in-Some : goal.returns-in-Some
returns-in-Some c = subst (λ bs. Parses bs c.read_rows.result) (sym c.in-Some.ensures) c.read_rows.ensures

pub returns-in_default : goal.returns-in_default
returns-in_default c = elim c.in_default.branch [
  | in_default-via-in-Some+else-holds_rows w ↦
      let small : IsSmall w.in-Some.head = search rules in
      bad_length c.args.bytes.now w.in-Some.rest.now w.in-Some.head small w.in-Some.ensures (λ long. absurd (false≢true (w.if-holds_rows.ensures.1 long)))
  | in_default-via-in_default w ↦ no_head c.args.bytes.now w.in_default.ensures
]
