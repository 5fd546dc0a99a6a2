use Rattle.std.proofs.Common.{refl, sym, subst}
use Rattle.ip_ground.specs.Counts.{CountsIf}
use Rattle.ip_opens.specs.OpenFaults.{counted_open}
use Rattle.ip_opens.proofs.OpenedStores.{whole_by, whole_of}
use Rattle.ip_opens.proofs.opening.finish.Goals as goal

pub returns-clause-finishes : goal.returns-clause-finishes
returns-clause-finishes g c = record {
  index = refl;
  slot = refl;
  fits = λ records tells. whole_of c.args.slot c.args.found c.into_names-names.result records tells (c.into_names-names.ensures records tells.audited) (c.is_whole.ensures.0 c.if-not-is_whole.false);
  names = λ records tells. sym (c.into_names-names.ensures records tells.audited);
  places = λ records tells. sym tells.places;
  space = c.requires.space;
  branches = λ records tells. sym tells.branches;
  history = λ records tells. sym tells.history;
  parents_first = λ records tells. tells.parents_first;
  idle = refl;
  unswept = refl;
}

pub returns-then-not-is_whole-clause-counts : goal.returns-then-not-is_whole-clause-counts
returns-then-not-is_whole-clause-counts g c = subst (λ fault. CountsIf (counted_open fault) (g.G.Ground.counts_of c.args.outside.now) (g.G.Ground.counts_of c.note_damage.new.self)) (sym c.slot_damaged.ensures) c.note_damage.ensures.counts

pub returns-then-not-is_whole-clause-finishes : goal.returns-then-not-is_whole-clause-finishes
returns-then-not-is_whole-clause-finishes g c = (
  c.slot_damaged.ensures,
  λ records tells fits.
      let yes = c.is_whole.ensures.1 (whole_by c.args.slot c.args.found c.into_names-names.result records tells (c.into_names-names.ensures records tells.audited) fits) in
      let no = c.if-not-is_whole.true in
      absurd (cc (yes, no)),
)
