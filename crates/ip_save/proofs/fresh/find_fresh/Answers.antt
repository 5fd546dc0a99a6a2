use Rattle.std.proofs.Common.{ℕ, List, [], ◌++◌, sym, ap, subst, ◌∙◌}
use Rattle.std.specs.List.{AllByRecursion}
use Rattle.ip_shape.specs.Directory.{root_of}
use Rattle.ip_space.specs.SpaceView.{records_of}
use Rattle.ip_tree.specs.Shown.{shown_root}
use Rattle.ip_tree.specs.declared.tree.Root.{Root}
use Rattle.ip_save.specs.Laid.{IsShort, fresh_among, fresh_root, longest_among, longest_root, nodes_in, record_of}
use Rattle.ip_save.specs.Reused.{AreHashed, IsFreshFault, again_among, again_root, bytes_in, found_in}
use Rattle.ip_save.specs.declared.fresh.Fresh.{Fresh}
use Rattle.ip_save.proofs.Finding.{first_there, root_none}
use Rattle.ip_save.proofs.Tallies.{inside_root, none_root, open_root}
use Rattle.ip_save.proofs.Unless.{unless_new}
use Rattle.ip_save.proofs.fresh.find_fresh.Goals as goal

pub returns-then-new-eq0-clause-found : goal.returns-then-new-eq0-clause-found
returns-then-new-eq0-clause-found g c tells readable =
    let root = shown_root c.args.root.now in
    let none = none_root (root_of c.in-Loaded.dir) (nodes_in c.in-Loaded.dir) root c.args.ahead.now (ap shown_root c.in-Loaded.is) c.requires.tallied (sym c.new_in-new.ensures ∙ c.if-new-eq0.true) in
    ap found_in c.new-fresh.ensures.items ∙ sym (root_none (records_of (g.G.Ground.told c.args.outside.now) c.args.space.now) root c.args.first none)

pub returns-in-Ok-clause-bytes : goal.returns-in-Ok-clause-bytes
returns-in-Ok-clause-bytes g c =
    let begins = inside_root (root_of c.in-Loaded.dir) (nodes_in c.in-Loaded.dir) (shown_root c.args.root.now) c.args.ahead.now c.inside.result.now (ap shown_root c.in-Loaded.is) c.requires.tallied (λ none. c.if-new-eq0.false (c.new_in-new.ensures ∙ none)) c.inside.ensures in
    let whole = open_root (root_of c.in-Loaded.dir) (nodes_in c.in-Loaded.dir) (shown_root c.args.root.now) c.args.ahead.now (ap shown_root c.in-Loaded.is) c.requires.tallied (λ none. c.if-new-eq0.false (c.new_in-new.ensures ∙ none)) in
    (c.in-Ok.ensures.found begins).bytes ∙ ap (λ (l : List Fresh). bytes_in l ++ fresh_among (nodes_in c.in-Loaded.dir)) c.new-fresh.ensures.items
    ∙ sym (unless_new (record_of (root_of c.in-Loaded.dir)) [] (fresh_among (nodes_in c.in-Loaded.dir)) whole) ∙ sym (ap (λ (r : Root). fresh_root (shown_root r)) c.in-Loaded.is)

pub returns-in-Ok-clause-hashed : goal.returns-in-Ok-clause-hashed
returns-in-Ok-clause-hashed g c =
    let begins = inside_root (root_of c.in-Loaded.dir) (nodes_in c.in-Loaded.dir) (shown_root c.args.root.now) c.args.ahead.now c.inside.result.now (ap shown_root c.in-Loaded.is) c.requires.tallied (λ none. c.if-new-eq0.false (c.new_in-new.ensures ∙ none)) c.inside.ensures in
    (c.in-Ok.ensures.found begins).hashed (subst AreHashed (sym c.new-fresh.ensures.items) tt)

pub returns-in-Ok-clause-short : goal.returns-in-Ok-clause-short
returns-in-Ok-clause-short g c =
    let begins = inside_root (root_of c.in-Loaded.dir) (nodes_in c.in-Loaded.dir) (shown_root c.args.root.now) c.args.ahead.now c.inside.result.now (ap shown_root c.in-Loaded.is) c.requires.tallied (λ none. c.if-new-eq0.false (c.new_in-new.ensures ∙ none)) c.inside.ensures in
    let found = c.in-Ok.ensures.found begins in
    subst (AllByRecursion IsShort) (sym (found.bytes ∙ ap (λ (l : List Fresh). bytes_in l ++ fresh_among (nodes_in c.in-Loaded.dir)) c.new-fresh.ensures.items)) found.short

pub returns-in-Ok-clause-found : goal.returns-in-Ok-clause-found
returns-in-Ok-clause-found g c tells readable =
    let begins = inside_root (root_of c.in-Loaded.dir) (nodes_in c.in-Loaded.dir) (shown_root c.args.root.now) c.args.ahead.now c.inside.result.now (ap shown_root c.in-Loaded.is) c.requires.tallied (λ none. c.if-new-eq0.false (c.new_in-new.ensures ∙ none)) c.inside.ensures in
    let whole = open_root (root_of c.in-Loaded.dir) (nodes_in c.in-Loaded.dir) (shown_root c.args.root.now) c.args.ahead.now (ap shown_root c.in-Loaded.is) c.requires.tallied (λ none. c.if-new-eq0.false (c.new_in-new.ensures ∙ none)) in
    let records = records_of (g.G.Ground.told c.args.outside.now) c.args.space.now in
    (c.in-Ok.ensures.found begins).found tells readable ∙ ap (λ (l : List Fresh). found_in l ++ again_among records (nodes_in c.in-Loaded.dir) c.args.first) c.new-fresh.ensures.items
    ∙ sym (unless_new (record_of (root_of c.in-Loaded.dir)) [] (again_among records (nodes_in c.in-Loaded.dir) c.args.first) whole) ∙ sym (ap (λ (r : Root). again_root records (shown_root r) c.args.first) c.in-Loaded.is)

pub returns-clause-free : goal.returns-clause-free
returns-clause-free g c tells records other over is =
    let begins = inside_root (root_of c.in-Loaded.dir) (nodes_in c.in-Loaded.dir) (shown_root c.args.root.now) c.args.ahead.now c.inside.result.now (ap shown_root c.in-Loaded.is) c.requires.tallied (λ none. c.if-new-eq0.false (c.new_in-new.ensures ∙ none)) c.inside.ensures in
    (c.in-Err.ensures.found begins).free tells records over (first_there records c.args.first other is)

pub returns-clause-cause : goal.returns-clause-cause
returns-clause-cause g c =
    let begins = inside_root (root_of c.in-Loaded.dir) (nodes_in c.in-Loaded.dir) (shown_root c.args.root.now) c.args.ahead.now c.inside.result.now (ap shown_root c.in-Loaded.is) c.requires.tallied (λ none. c.if-new-eq0.false (c.new_in-new.ensures ∙ none)) c.inside.ensures in
    let whole = open_root (root_of c.in-Loaded.dir) (nodes_in c.in-Loaded.dir) (shown_root c.args.root.now) c.args.ahead.now (ap shown_root c.in-Loaded.is) c.requires.tallied (λ none. c.if-new-eq0.false (c.new_in-new.ensures ∙ none)) in
    subst (λ (r : Root). IsFreshFault (longest_root (shown_root r)) c.in-Err.fault) (sym c.in-Loaded.is)
    (subst (λ (l : ℕ). IsFreshFault l c.in-Err.fault) (sym (unless_new (record_of (root_of c.in-Loaded.dir)) 0 (longest_among (nodes_in c.in-Loaded.dir)) whole)) (c.in-Err.ensures.found begins).cause)

pub returns-clause-causes : goal.returns-clause-causes
returns-clause-causes g c =
    let begins = inside_root (root_of c.in-Loaded.dir) (nodes_in c.in-Loaded.dir) (shown_root c.args.root.now) c.args.ahead.now c.inside.result.now (ap shown_root c.in-Loaded.is) c.requires.tallied (λ none. c.if-new-eq0.false (c.new_in-new.ensures ∙ none)) c.inside.ensures in
    (c.in-Err.ensures.found begins).because
