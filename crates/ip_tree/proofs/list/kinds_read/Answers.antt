use Rattle.std.proofs.Common.{◌≡◌, ◌∷◌, ◌++◌, [], Bool, List, T, append_assoc, ap, map, subst, sym, ◌∙◌}
use Rattle.std.specs.FinMap.Entries.{is_sorted, put}
use Rattle.ip_shape.specs.Directory.{entries_in}
use Rattle.ip_shape.proofs.Entries.{put_is}
use Rattle.ip_spec.specs.Path.{Step, bytes_cmp}
use Rattle.ip_tree.specs.Listing.{is_directory, kind_at}
use Rattle.ip_tree.specs.Shown.{entries_shown, shown, shown_entry}
use Rattle.ip_tree.specs.declared.node.Node.{Node}
use Rattle.ip_tree.proofs.KindsPut.{kinds_sorted, put_end, sorted_in}
use Rattle.ip_tree.proofs.list.kinds_read.Goals as goal

pub loop-step-preserved : goal.loop-step-preserved
loop-step-preserved c =
    let k = c.in-Some.step.now in
    let v = is_directory (shown c.in-Some.node.now) in
    let old = c.loop-step.kinds.entries in
    let rest = map kind_at (map shown_entry c.next.new.self) in
    let split : old ++ (k, v) ∷ rest ≡ map kind_at (entries_shown c.args.dir.now) =
    ap (λ (l : List (Step × Node)). old ++ map kind_at (map shown_entry l)) (sym c.in-Some.ensures.steps) ∙ c.loop-step.invariant in
    let all = kinds_sorted (entries_in c.args.dir.now) (subst (λ (l : List (Step × Node)). T (is_sorted bytes_cmp l)) c.entries.ensures.held (sorted_in c.entries.result.now c.iter-step-items.ensures.ordered)) in
    let sorted = subst (λ (l : List (Step × Bool)). T (is_sorted bytes_cmp l)) (sym split) all in
    let new =
    c.in_ok-insert.ensures.entries ∙ put_is c.in_ok-copy.field-0 c.holds_directory.result old ∙ ap (λ (s : Step). put bytes_cmp s c.holds_directory.result old) c.in_ok-copy.ensures
    ∙ ap (λ (b : Bool). put bytes_cmp k b old) c.holds_directory.ensures ∙ put_end k v old rest sorted in
    ap (λ (l : List (Step × Bool)). l ++ rest) new ∙ append_assoc old ((k, v) ∷ []) rest ∙ split
