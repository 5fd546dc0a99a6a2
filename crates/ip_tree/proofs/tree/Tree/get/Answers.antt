use Rattle.std.proofs.Common.{◌≡◌, ◌<◌, ◌^◌, ◌∙◌, Option, Some, ap, length, subst, sym, arith}
use Rattle.std.proofs.lemmas.List.{length-map}
use Rattle.std.specs.Prelude.{IsFalse, option_map}
use Rattle.ip_spec.specs.View.{is_nil}
use Rattle.ip_shape.specs.Shape.{IsPart}
use Rattle.ip_shape.specs.declared.part.Part.{Part}
use Rattle.ip_spec.specs.Shape.{deepest}
use Rattle.ip_spec.specs.Tree.{entries_of, got_at, subtree}
use Rattle.ip_spec.specs.declared.tree.Got.TheVariants.{Value}
use Rattle.ip_tree.specs.Finding.{FindsIn, FindsPlace, as_node}
use Rattle.ip_tree.specs.Meaning.{steps_of}
use Rattle.ip_tree.specs.Reads.{IsFree}
use Rattle.ip_tree.specs.declared.look.Place.{Place}
use Rattle.ip_tree.specs.declared.node.Stored.{Stored}
use Rattle.ip_tree.proofs.GotAt.{bytes_got, directory_got, got_here, got_nothing_at, narrow_at, narrow_here, some_below}
use Rattle.ip_tree.proofs.Looking.{causes_on, looks_on, still_over}
use Rattle.ip_tree.proofs.Walk.{match_ok}
use Rattle.ip_tree.proofs.tree.Tree.get.Goals as goal

pub returns-in-Ok-None-clause-got : goal.returns-in-Ok-None-clause-got
returns-in-Ok-None-clause-got g c tells records v over is =
    let none = subst (λ (o : Option Place). FindsPlace records v c.args.path.now (option_map as_node o)) c.in-Ok-None.field-0-is (c.in-Ok-None.ensures.place tells records v over is) in
    got_nothing_at v.map c.args.path.now none.0 none.1

pub returns-in-Ok-Some-Stored-clause-got : goal.returns-in-Ok-Some-Stored-clause-got
returns-in-Ok-Some-Stored-clause-got g c tells records v over is =
    let p = c.args.path.now in
    let found = c.in-Ok-Some-Stored.field-0-is ∙ ap (λ (q : Place). Some q) c.in-Ok-Some-Stored.field-0-0-is in
    let here = subst (λ (o : Option Place). FindsPlace records v p (option_map as_node o)) found (c.in-Ok-Some-Stored.ensures.place tells records v over is) in
    let part = λ (below : IsFalse (is_nil p)). subst (λ (o : Option Place). FindsIn records v p (option_map as_node o)) found (c.in-Ok-Some-Stored.ensures.part tells records v over is below) in
    let over' = still_over _ _ _ _ _ records c.in-Ok-Some-Stored.ensures.looks tells over in
    match_ok c.whole.result (λ got. got ≡ got_at (subtree v.map p) _) (λ got. got ≡ got_at v.map p) IsFree (λ got e. e ∙ sym (got_here v.map p (some_below records v p _ part)))
    (c.whole.ensures.got tells records (subtree v.map p) over' here.0 (narrow_at v.map p is.narrow))

pub returns-in-Ok-Some-Stored-clause-looks : goal.returns-in-Ok-Some-Stored-clause-looks
returns-in-Ok-Some-Stored-clause-looks g c = looks_on _ _ _ _ _ _ _ c.in-Ok-Some-Stored.ensures.looks c.whole.ensures.looks

pub returns-in-Ok-Some-Stored-clause-causes : goal.returns-in-Ok-Some-Stored-clause-causes
returns-in-Ok-Some-Stored-clause-causes g c = causes_on _ _ _ _ _ c.in-Ok-Some-Stored.ensures.looks c.whole.result c.whole.ensures.causes

pub returns-in_ok-copy-in-Ok-Some-Contents-clause-got : goal.returns-in_ok-copy-in-Ok-Some-Contents-clause-got
returns-in_ok-copy-in-Ok-Some-Contents-clause-got g c tells records v over is =
    let p = c.args.path.now in
    let found = c.in-Ok-Some-Contents.field-0-is ∙ ap (λ (q : Place). Some q) c.in-Ok-Some-Contents.field-0-0-is in
    let here = subst (λ (o : Option Place). FindsPlace records v p (option_map as_node o)) found (c.in-Ok-Some-Contents.ensures.place tells records v over is) in
    let part = λ (below : IsFalse (is_nil p)). subst (λ (o : Option Place). FindsIn records v p (option_map as_node o)) found (c.in-Ok-Some-Contents.ensures.part tells records v over is below) in
    ap Value c.in_ok-copy-in-Ok-Some-Contents.ensures ∙ bytes_got (subtree v.map p) c.in-Ok-Some-Contents.bytes.now here.means ∙ sym (got_here v.map p (some_below records v p _ part))

pub returns-in-Ok-Some-Directory-clause-got : goal.returns-in-Ok-Some-Directory-clause-got
returns-in-Ok-Some-Directory-clause-got g c tells records v over is =
    let p = c.args.path.now in
    let t = subtree v.map p in
    let found = c.in-Ok-Some-Directory.field-0-is ∙ ap (λ (q : Place). Some q) c.in-Ok-Some-Directory.field-0-0-is in
    let here = subst (λ (o : Option Place). FindsPlace records v p (option_map as_node o)) found (c.in-Ok-Some-Directory.ensures.place tells records v over is) in
    let part = λ (below : IsFalse (is_nil p)). subst (λ (o : Option Place). FindsIn records v p (option_map as_node o)) found (c.in-Ok-Some-Directory.ensures.part tells records v over is below) in
    let shape = subst (λ (q : Part Stored). IsPart deepest 0 (steps_of (entries_of t).entries) q) (sym c.root.ensures) here.0.steps.shape in
    let n : c.count.result ≡ length (entries_of t).entries = c.count.ensures.steps 0 (steps_of (entries_of t).entries) shape ∙ length-map (entries_of t).entries (λ e. e.0) in
    let few = narrow_here t (narrow_at v.map p is.narrow) in
    let low : c.count.result < 2 ^ 32 = omega (arith, n, few) in
    directory_got t c.told_count.result here.0.directory (c.told_count.ensures low ∙ n) ∙ sym (got_here v.map p (some_below records v p _ part))
