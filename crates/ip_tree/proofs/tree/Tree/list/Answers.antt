use Rattle.std.proofs.Common.{◌≡◌, ◌∙◌, [], Option, Some, ap, subst, sym}
use Rattle.std.specs.Prelude.{IsFalse, option_map}
use Rattle.ip_spec.specs.Tree.{Tree, listed_at, subtree}
use Rattle.ip_spec.specs.View.{is_nil}
use Rattle.ip_spec.proofs.Subtrees.{listed_contents}
use Rattle.ip_tree.specs.Finding.{FindsIn, FindsPlace, as_node}
use Rattle.ip_tree.specs.Reads.{IsFree}
use Rattle.ip_tree.specs.declared.look.Place.{Place}
use Rattle.ip_tree.proofs.GotAt.{listed_here, listed_nothing_at, some_below}
use Rattle.ip_tree.proofs.Looking.{causes_on, looks_on, still_over}
use Rattle.ip_tree.proofs.Walk.{match_ok}
use Rattle.ip_tree.proofs.tree.Tree.list.Goals as goal

pub returns-in-Ok-None-clause-listed : goal.returns-in-Ok-None-clause-listed
returns-in-Ok-None-clause-listed g c tells records v over is =
    let none = subst (λ (o : Option Place). FindsPlace records v c.args.path.now (option_map as_node o)) c.in-Ok-None.field-0-is (c.in-Ok-None.ensures.place tells records v over is) in
    listed_nothing_at v.map c.args.path.now none.0 none.1

pub returns-in-Ok-Some-Contents-clause-listed : goal.returns-in-Ok-Some-Contents-clause-listed
returns-in-Ok-Some-Contents-clause-listed g c tells records v over is =
    let p = c.args.path.now in
    let found = c.in-Ok-Some-Contents.field-0-is ∙ ap (λ (q : Place). Some q) c.in-Ok-Some-Contents.field-0-0-is in
    let here = subst (λ (o : Option Place). FindsPlace records v p (option_map as_node o)) found (c.in-Ok-Some-Contents.ensures.place tells records v over is) in
    let part = λ (below : IsFalse (is_nil p)). subst (λ (o : Option Place). FindsIn records v p (option_map as_node o)) found (c.in-Ok-Some-Contents.ensures.part tells records v over is below) in
    sym (listed_here v.map p (some_below records v p _ part) ∙ ap (λ (t : Tree). listed_at t []) here.means ∙ listed_contents c.in-Ok-Some-Contents.field-0-0-0.now)

pub returns-in-Ok-Some-Stored-clause-listed : goal.returns-in-Ok-Some-Stored-clause-listed
returns-in-Ok-Some-Stored-clause-listed g c tells records v over is =
    let p = c.args.path.now in
    let found = c.in-Ok-Some-Stored.field-0-is ∙ ap (λ (q : Place). Some q) c.in-Ok-Some-Stored.field-0-0-is in
    let here = subst (λ (o : Option Place). FindsPlace records v p (option_map as_node o)) found (c.in-Ok-Some-Stored.ensures.place tells records v over is) in
    let part = λ (below : IsFalse (is_nil p)). subst (λ (o : Option Place). FindsIn records v p (option_map as_node o)) found (c.in-Ok-Some-Stored.ensures.part tells records v over is below) in
    let over' = still_over _ _ _ _ _ records c.in-Ok-Some-Stored.ensures.looks tells over in
    match_ok c.list_stored.result (λ l. l ≡ listed_at (subtree v.map p) []) (λ l. l ≡ listed_at v.map p) IsFree (λ l e. e ∙ sym (listed_here v.map p (some_below records v p _ part)))
    (c.list_stored.ensures.listed tells records (subtree v.map p) over' here.0)

pub returns-in-Ok-Some-Stored-clause-looks : goal.returns-in-Ok-Some-Stored-clause-looks
returns-in-Ok-Some-Stored-clause-looks g c = looks_on _ _ _ _ _ _ _ c.in-Ok-Some-Stored.ensures.looks c.list_stored.ensures.looks

pub returns-in-Ok-Some-Stored-clause-causes : goal.returns-in-Ok-Some-Stored-clause-causes
returns-in-Ok-Some-Stored-clause-causes g c = causes_on _ _ _ _ _ c.in-Ok-Some-Stored.ensures.looks c.list_stored.result c.list_stored.ensures.causes

pub returns-in-Ok-Some-Directory-clause-listed : goal.returns-in-Ok-Some-Directory-clause-listed
returns-in-Ok-Some-Directory-clause-listed g c tells records v over is =
    let p = c.args.path.now in
    let found = c.in-Ok-Some-Directory.field-0-is ∙ ap (λ (q : Place). Some q) c.in-Ok-Some-Directory.field-0-0-is in
    let here = subst (λ (o : Option Place). FindsPlace records v p (option_map as_node o)) found (c.in-Ok-Some-Directory.ensures.place tells records v over is) in
    let part = λ (below : IsFalse (is_nil p)). subst (λ (o : Option Place). FindsIn records v p (option_map as_node o)) found (c.in-Ok-Some-Directory.ensures.part tells records v over is below) in
    let over' = still_over _ _ _ _ _ records c.in-Ok-Some-Directory.ensures.looks tells over in
    match_ok c.list_directory.result (λ l. l ≡ listed_at (subtree v.map p) []) (λ l. l ≡ listed_at v.map p) IsFree (λ l e. e ∙ sym (listed_here v.map p (some_below records v p _ part)))
    (c.list_directory.ensures.listed tells records (subtree v.map p) over' here.0)

pub returns-in-Ok-Some-Directory-clause-looks : goal.returns-in-Ok-Some-Directory-clause-looks
returns-in-Ok-Some-Directory-clause-looks g c = looks_on _ _ _ _ _ _ _ c.in-Ok-Some-Directory.ensures.looks c.list_directory.ensures.looks

pub returns-in-Ok-Some-Directory-clause-causes : goal.returns-in-Ok-Some-Directory-clause-causes
returns-in-Ok-Some-Directory-clause-causes g c = causes_on _ _ _ _ _ c.in-Ok-Some-Directory.ensures.looks c.list_directory.result c.list_directory.ensures.causes
