use Rattle.std.proofs.Common.{rules, refl, subst, Err}
use Rattle.std.proofs.lemmas.Bool.{false≢true}
use Rattle.ip_mapping.specs.Parsing.{IsMapping, Parses}
use Rattle.ip_mapping.specs.declared.fault.MappingFault.{MappingFault}
use Rattle.ip_mapping.proofs.Outcomes.{IsSmall}
use Rattle.ip_space.proofs.LivePair.{IsSmallLayout, no_front, bad_numbers, parsed, parsed_horizon, parse_failed, parse_wants}
use Rattle.ip_space.proofs.live.parse_live.Goals as goal
use Rattle.ip_space.proofs.live.parse_live.Goals.{in_default-via-in-Some+else-has_numbers, in_default-via-in_default}

pub returns-in_default-clause-finds : goal.returns-in_default-clause-finds
returns-in_default-clause-finds c image here = elim c.in_default.branch [
  | in_default-via-in-Some+else-has_numbers w ↦
      let small : IsSmall w.in-Some.head = search rules in
      let layout : IsSmallLayout c.args.layout = search rules in
      bad_numbers image c.args.layout c.args.bytes.now here layout w.in-Some.head small w.in-Some.ensures (λ right. absurd (false≢true (w.if-has_numbers.ensures.1 right)))
  | in_default-via-in_default w ↦ no_front image c.args.layout c.args.bytes.now here w.in_default.ensures
]

pub returns-in-Ok-clause-finds : goal.returns-in-Ok-clause-finds
returns-in-Ok-clause-finds c image here =
    let small : IsSmall c.in-Some.head = search rules in
    parsed image c.args.layout c.args.bytes.now here c.in-Some.head small c.in-Some.ensures (c.if-has_numbers.ensures.0 refl) c.in-Ok.mapping c.in-Ok.ensures

pub returns-in-Ok-clause-horizon : goal.returns-in-Ok-clause-horizon
returns-in-Ok-clause-horizon c =
    let small : IsSmall c.in-Some.head = search rules in
    let is : IsMapping c.args.bytes.now c.in-Ok.mapping = c.in-Ok.ensures in
    parsed_horizon c.args.layout c.args.bytes.now c.in-Some.head small c.in-Some.ensures (c.if-has_numbers.ensures.0 refl) c.in-Ok.mapping is.form

pub returns-in-Err-Form-clause-finds : goal.returns-in-Err-Form-clause-finds
returns-in-Err-Form-clause-finds c image here =
    let small : IsSmall c.in-Some.head = search rules in
    let layout : IsSmallLayout c.args.layout = search rules in
    parse_failed image c.args.layout c.args.bytes.now here layout c.in-Some.head small c.in-Some.ensures (c.if-has_numbers.ensures.0 refl) c.in-Err-Form.at (subst (λ (e : MappingFault). Parses c.args.bytes.now (Err e)) c.in-Err-Form.field-0-is c.in-Err-Form.ensures)

pub returns-in-Err-Memory-clause-finds : goal.returns-in-Err-Memory-clause-finds
returns-in-Err-Memory-clause-finds c image here =
    let small : IsSmall c.in-Some.head = search rules in
    parse_wants image c.args.layout c.args.bytes.now here c.in-Some.head small c.in-Some.ensures (c.if-has_numbers.ensures.0 refl) (subst (λ (e : MappingFault). Parses c.args.bytes.now (Err e)) c.in-Err-Memory.field-0-is c.in-Err-Memory.ensures)
