use Rattle.std.proofs.Common.{List, [], ◌∷◌, ◌++◌, ◌≤◌, ap, sym, subst, ◌∙◌, length, map}
use Rattle.std.proofs.lemmas.List.{length-map}
use Rattle.ip_spec.specs.declared.record.Parent.{Parent}
use Rattle.ip_spec.specs.Record.{Hash}
use Rattle.ip_spec.specs.Repository.{commit_name}
use Rattle.ip_spec.specs.Step.{as_parent}
use Rattle.ip_model.specs.declared.commits.Commit.{Commit}
use Rattle.ip_model.proofs.Kept.{existing, committed, names_as_parents}
use Rattle.ip_model.proofs.commits.Commits.commit.Goals as goal

pub returns-then-has : goal.returns-then-has
returns-then-has c r tree good few there is_root of =
    let ms = c.args.self.now in
    let ns = c.args.parents.now in
    let info = c.args.info in
    let names = c.as_slice-2.ensures ∙ (c.in_ok-names.ensures ∙ ap (map (λ (p : Parent). p.name)) (c.as_slice.ensures ∙ c.in_ok-parents.ensures)) in
    let name = c.commit_name-name.ensures (map (as_parent r) ns) (subst (λ n. n ≤ 16) (sym (ap length names ∙ (length-map _ _ ∙ length-map _ _))) few) good.author_short good.message_short (names_as_parents ms r of ns there ∙ sym names) ∙ ap (λ (h : Hash). commit_name h (map (as_parent r) ns) info) is_root in
    existing ms r of c.args.root.now tree ns info is_root there c.commit_name-name.result name (sym c.has.ensures ∙ c.if-has.true)

pub returns : goal.returns
returns c r tree good few there is_root of =
    let ms = c.args.self.now in
    let ns = c.args.parents.now in
    let info = c.args.info in
    let hash = c.commit_name-name.result in
    let root = c.args.root.now in
    let names = c.as_slice-2.ensures ∙ (c.in_ok-names.ensures ∙ ap (map (λ (p : Parent). p.name)) (c.as_slice.ensures ∙ c.in_ok-parents.ensures)) in
    let name = c.commit_name-name.ensures (map (as_parent r) ns) (subst (λ n. n ≤ 16) (sym (ap length names ∙ (length-map _ _ ∙ length-map _ _))) few) good.author_short good.message_short (names_as_parents ms r of ns there ∙ sym names) ∙ ap (λ (h : Hash). commit_name h (map (as_parent r) ns) info) is_root in
    let pushed = c.in_ok-push.ensures.items ∙ (ap (λ (xs : List Commit). xs ++ record { name = hash; parents = c.in_ok-parents.parents; info = info; root = root } ∷ []) c.self.view_is
    ∙ ap (λ (ps : List Parent). ms ++ record { name = hash; parents = ps; info = info; root = root } ∷ []) c.in_ok-parents.ensures) in
    committed ms r of root tree ns info is_root there hash c.push.new.self.items name (sym c.has.ensures ∙ c.if-has.false) pushed
