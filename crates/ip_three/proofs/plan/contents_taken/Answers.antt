use Rattle.std.proofs.Common.{◌≡◌, sym, ◌∙◌, ap, refl, true, Option, Some, None}
use Rattle.std.proofs.lemmas.Bool.{false≢true}
use Rattle.std.specs.Prelude.{OnOk, is_some, option_map}
use Rattle.ip_spec.specs.Map.{get}
use Rattle.ip_tree.specs.Finding.{FindsIn, as_node}
use Rattle.ip_tree.specs.Node.{Node}
use Rattle.ip_three.specs.Walking.{TakesContents}
use Rattle.ip_three.proofs.PlanEdits.{nothing_there, on_ok}
use Rattle.ip_three.proofs.plan.contents_taken.Goals as goal

pub returns-then-not-holds_contents : goal.returns-then-not-holds_contents
returns-then-not-holds_contents c records l r here right =
    let bare = sym (c.holds_contents.ensures records r c.args.path.now right) ∙ c.if-not-holds_contents.true in
    on_ok c.gone.result _ _
    (λ gone. record {
      some = λ some. absurd (false≢true (sym bare ∙ some));
      none = λ none. record {
        gone_is = gone;
        come_is = c.gone.ensures.rest.0;
        conflict = c.gone.ensures.rest.1;
        long = c.gone.ensures.rest.2;
      };
    }) (c.gone.ensures.gone records l here)

pub returns : goal.returns
returns c records l r here right = by (option_map as_node c.args.right.now) refl right
  where
    there : is_some (get r.map c.args.path.now) ≡ true
    there = sym (c.holds_contents.ensures records r c.args.path.now right) ∙ c.if-not-holds_contents.false

    by : (o : Option Node) → option_map as_node c.args.right.now ≡ o → FindsIn records r c.args.path.now o → OnOk c.taken.result (TakesContents records l r c.args.path.now c.args.plan.now c.taken.new.plan)
    by None is none = absurd (false≢true (sym (nothing_there r c.args.path.now none) ∙ there))
    by (Some n) is found =
        on_ok c.taken.result _ _ (λ t. record { some = λ some. t; none = λ none. absurd (false≢true (sym (ap is_some none) ∙ there)) }) (c.taken.ensures.some records r n is found)
