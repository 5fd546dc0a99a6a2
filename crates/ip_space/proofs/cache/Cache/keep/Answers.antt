use Rattle.std.proofs.Common.{ℕ, List, map, ◌∙◌, subst, Some}
use Rattle.ip_spec.specs.declared.record.Record.{Record}
use Rattle.ip_space.specs.Kept.{shown, GainsAtMost}
use Rattle.ip_space.specs.declared.cache.Kept.{Kept}
use Rattle.ip_space.proofs.Cached.{sees, named_in, put_gains, put_named, put_shown, bounded_in}
use Rattle.ip_space.proofs.cache.Cache.keep.Goals as goal

pub invariant_of-self : goal.invariant_of-self
invariant_of-self c = c.self.invariant

pub invariant_of-self-2 : goal.invariant_of-self-2
invariant_of-self-2 c =
    let kept : Kept = record { name = c.args.name; rec = c.args.rec } in
    put_named c.in-Some.records c.put.new.records c.args.at kept (named_in c.self.inside.records c.in-Some.records c.self.invariant c.in-Some.is)
    (record { fits = c.requires.fits; name = c.requires.name; short = c.requires.short }) c.put.ensures.gains c.put.ensures.cap c.put.ensures.few

pub returns-clause-bounded : goal.returns-clause-bounded
returns-clause-bounded c =
    let kept : Kept = record { name = c.args.name; rec = c.args.rec } in
    bounded_in (Some c.put.new.records) (put_named c.in-Some.records c.put.new.records c.args.at kept (named_in c.self.inside.records c.in-Some.records c.self.invariant c.in-Some.is)
    (record { fits = c.requires.fits; name = c.requires.name; short = c.requires.short }) c.put.ensures.gains c.put.ensures.cap c.put.ensures.few)

pub returns-clause-gains : goal.returns-clause-gains
returns-clause-gains c =
    let kept : Kept = record { name = c.args.name; rec = c.args.rec } in
    subst (λ (old : List (ℕ × Record)). GainsAtMost c.args.at c.args.rec old (map shown c.put.new.records.entries))
    (sees c.self.inside.records c.in-Some.records c.args.self.now (c.self.view_is ∙ c.make_room.ensures) c.in-Some.is)
    (put_gains c.in-Some.records.entries c.put.new.records.entries c.args.at kept c.put.ensures.gains)

pub returns-clause-kept : goal.returns-clause-kept
returns-clause-kept c none = put_shown c.put.new.records.entries c.args.at (record { name = c.args.name; rec = c.args.rec }) (c.put.ensures.kept none)

pub returns-clause-back : goal.returns-clause-back
returns-clause-back c = c.put.ensures.back
