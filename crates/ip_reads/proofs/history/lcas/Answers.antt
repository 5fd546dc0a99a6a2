use Rattle.std.proofs.Common.{◌≡◌, map, sym, ◌∙◌, subst, List, ℕ, [], ◌∷◌}
use Rattle.std.specs.Prelude.{All, IsTrue, IfOk}
use Rattle.ip_spec.specs.Repository.{is_retained, name_at}
use Rattle.ip_spec.specs.History.{lcas}
use Rattle.ip_held.proofs.Histories.{shows_of, common_retained}
use Rattle.ip_reads.proofs.history.lcas.Goals as goal

pub names_at-requires : goal.names_at-requires
names_at-requires c =
    let r = c.requires.0 in
    let of = c.requires.1 in
    let same : c.as_slice.result.now ≡ lcas r c.args.one c.args.other = c.as_slice.ensures ∙ c.in_ok-numbers.ensures r (shows_of c.args.store.now r of) in
    (r, of, subst (All (λ n. IsTrue (is_retained r n))) (sym same) (common_retained r (c.args.one ∷ []) c.args.other))

pub returns : goal.returns
returns c r of =
    let same : c.as_slice.result.now ≡ lcas r c.args.one c.args.other = c.as_slice.ensures ∙ c.in_ok-numbers.ensures r (shows_of c.args.store.now r of) in
    subst (λ (ns : List ℕ). IfOk c.names_at.result (λ names. names.items ≡ map (name_at r) ns)) same
    (c.names_at.ensures r of (subst (All (λ n. IsTrue (is_retained r n))) (sym same) (common_retained r (c.args.one ∷ []) c.args.other)))
