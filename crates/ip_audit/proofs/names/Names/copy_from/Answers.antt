-- goals of `Names::copy_from`
use Rattle.std.proofs.Common.{◌≡◌, ◌-◌, length, Some, sym, ◌∙◌, ap, subst}
use Rattle.std.proofs.lemmas.Option.{slice_get-get_or}
use Rattle.ip_audit.specs.Placed.{ArePlaced}
use Rattle.ip_audit.proofs.Placing.{new_behind, place_in}
use Rattle.ip_audit.proofs.names.Names.copy_from.Goals as goal

pub push-requires : goal.push-requires
push-requires c = record {
  new = ap (λ ns. place_in ns c.name-item.result) c.loop-name.invariant
      ∙ new_behind c.deref.result.now c.self.inside.places (subst (λ ns. ArePlaced ns c.self.inside.places) (sym c.deref.ensures.value) c.self.invariant) c.args.from (length c.deref.result.now - c.args.from) c.loop-name.name-index c.name-item.result
      (slice_get-get_or _ c.loop-name.name-index _ c.loop-name-test.true ∙ ap Some (sym c.name-item.is));
}
