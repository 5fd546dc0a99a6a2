use Rattle.std.proofs.Common.{◌≡◌, sym, ap, subst, ◌∙◌}
use Rattle.std.specs.Prelude.{is_some}
use Rattle.std.specs.FinMap.Entries.{put}
use Rattle.ip_spec.specs.Path.{bytes_cmp}
use Rattle.ip_shape.specs.Directory.{root_of}
use Rattle.ip_shape.specs.Loaded.{IsEdited}
use Rattle.ip_shape.specs.Shape.{ByTest}
use Rattle.ip_shape.specs.declared.part.Part.{Part}
use Rattle.ip_tree.specs.declared.node.Stored.{Stored}
use Rattle.ip_tree.proofs.place.put_back.Goals as goal

pub returns-then-is_changed : goal.returns-then-is_changed
returns-then-is_changed c steps es partly found =
    let s = c.args.step.now in
    let e = c.exchange.ensures in
    let done = c.forget.ensures steps (put bytes_cmp s c.args.node es) (e.exchanged steps es partly (ap is_some (e.child steps es partly) ∙ found)) in (
      done.0,
      subst (λ b. ByTest b (IsEdited 0 s (root_of c.args.dir.now) (root_of c.forget.new.dir)) (root_of c.forget.new.dir ≡ root_of c.args.dir.now)) (sym c.if-is_changed.true)
          (subst (λ (r : Part Stored). IsEdited 0 s r (root_of c.forget.new.dir)) e.known done.1),
    )
