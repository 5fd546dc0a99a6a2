use Rattle.std.proofs.Common.{◌∙◌, ap, ◌++◌, Some}
use Rattle.std.specs.Prelude.{codes}
use Rattle.std.proofs.lemmas.Bool.Decides.{Decides-eqb}
use Rattle.std.proofs.lemmas.Slice.Eq.{strip_prefix_is}
use Rattle.ip_spec.specs.Record.{u64}
use Rattle.ip_mapping.proofs.head.take_head.Goals as goal

pub returns : goal.returns
returns c =
    let magic = strip_prefix_is Decides-eqb c.args.bytes.now (codes "IPMAP001") (Some c.in_ok-behind_magic.behind_magic) c.in_ok-behind_magic.ensures.cases in
    magic ∙ ap (λ bs. codes "IPMAP001" ++ bs) (c.in_ok-horizon.ensures ∙ ap (λ bs. u64 c.in_ok-horizon.horizon ++ bs) (c.in_ok-end.ensures ∙ ap (λ bs. u64 c.in_ok-end.end ++ bs) c.in_ok-rows.ensures))
