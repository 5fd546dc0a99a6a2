use Rattle.std.proofs.Common.{rules, ◌≡◌, [], List, None, refl, ap, sym, subst, ◌∙◌}
use Rattle.std.specs.Prelude.{MatchResult}
use Rattle.ip_ground.specs.Counts.{CountsIf, Noted}
use Rattle.ip_shape.specs.Directory.{root_of}
use Rattle.ip_spec.specs.Path.{Step}
use Rattle.ip_tree.specs.Node as view
use Rattle.ip_tree.specs.Node.{stored}
use Rattle.ip_tree.specs.Shown.{shown, shown_directory}
use Rattle.ip_tree.specs.declared.node.Node.{Node}
use Rattle.ip_tree.proofs.Looking.{looks_nothing, looks_on}
use Rattle.ip_tree.proofs.Nodes.{stored_shown, directory_shown}
use Rattle.ip_save.specs.Laid.{BeginsWith, fresh, longest, nodes_in, record_of, tallies, tallies_among}
use Rattle.ip_save.specs.Reused.{IsDirectoryThere, IsFound, IsLost, again, entry_at, counted_save}
use Rattle.ip_save.proofs.Finding.{SoFar, all_found, directory_later, empty, failed, none_found, none_yet, one_more}
use Rattle.ip_save.proofs.Rests.{rest_of}
use Rattle.ip_save.proofs.Tallies.{inside_first, new_first, open_first, own_behind, own_first}
use Rattle.ip_save.proofs.fresh.+fresh.Goals as goal

pub find_in-loop-step-init : goal.find_in-loop-step-init
find_in-loop-step-init g t c =
    let ground = g.G.Ground in
    let told = ground.told c.args.outside.now in
    let space = c.args.space.now in
    let out = c.args.out.now.items in
    let es = c.args.dir.now.entries.entries in
    let all : c.into_iter-step-iterator.result ≡ es = search rules in (
      tt,
      tt,
      λ begins. (
        subst (λ (xs : List (Step × Node)). SoFar ground.tells told told space space c.args.other.now (rest_of xs) (rest_of es) out out) (sym all) (none_yet ground.tells told space c.args.other.now (rest_of es) out),
        subst (λ (xs : List (Step × Node)). BeginsWith (tallies_among (rest_of xs)) c.args.ahead.now) (sym all) begins,
      ),
      looks_nothing ground.tells told space,
      refl,
      λ alone. (refl {a = c.args.outside.now}, refl {a = space}),
    )

pub find_in-loop-step-preserved : goal.find_in-loop-step-preserved
find_in-loop-step-preserved g t c =
    let ground = g.G.Ground in
    let told = ground.told c.args.outside.now in
    let mid = ground.told c.loop-step.outside in
    let all = rest_of c.args.dir.now.entries.entries in
    let s = c.in-Some.step.now in
    let n = shown c.in-Some.node.now in
    let rest = rest_of c.next.new.self in (
      tt,
      tt,
      λ begins.
          let on = c.loop-step.invariant.2 begins in
          let so = subst (λ (xs : List (Step × Node)). SoFar ground.tells told mid c.args.space.now c.loop-step.space c.args.other.now (rest_of xs) all c.args.out.now.items c.loop-step.out.items) c.in-Some.ensures.steps on.0 in
          let below = subst (λ (xs : List (Step × Node)). BeginsWith (tallies_among (rest_of xs)) c.loop-step.left.now) c.in-Some.ensures.steps on.1 in
          let own = own_first s n rest c.loop-step.left.now below in (
            one_more ground.tells told mid (ground.told c.find_at.new.outside) c.args.space.now c.loop-step.space c.find_at.new.space c.args.other.now s n rest all c.args.out.now.items c.loop-step.out.items so c.find_at.new.out.items c.in-Ok.ensures.looks
                (c.in-Ok.ensures.found own),
            own_behind s n rest c.loop-step.left.now c.behind-left.result.now below (c.behind-left.ensures own),
          ),
      looks_on ground.tells _ _ _ _ _ _ c.loop-step.invariant.3 c.in-Ok.ensures.looks,
      c.in-Ok.ensures.counts ∙ c.loop-step.invariant.4,
      λ alone.
          let so_far = c.loop-step.invariant.5 alone in
          let now = c.in-Ok.ensures.alone alone in
          (now.0 ∙ so_far.0, now.1 ∙ so_far.1),
    )

pub find_in-returns-in-Err : goal.find_in-returns-in-Err
find_in-returns-in-Err g t c =
    let ground = g.G.Ground in
    let told = ground.told c.args.outside.now in
    let mid = ground.told c.loop-step.outside in
    let all = rest_of c.args.dir.now.entries.entries in
    let s = c.in-Some.step.now in
    let n = shown c.in-Some.node.now in
    let rest = rest_of c.next.new.self in
    record {
      found = λ begins.
          let on = c.loop-step.invariant.2 begins in
          let so = subst (λ (xs : List (Step × Node)). SoFar ground.tells told mid c.args.space.now c.loop-step.space c.args.other.now (rest_of xs) all c.args.out.now.items c.loop-step.out.items) c.in-Some.ensures.steps on.0 in
          let below = subst (λ (xs : List (Step × Node)). BeginsWith (tallies_among (rest_of xs)) c.loop-step.left.now) c.in-Some.ensures.steps on.1 in
          failed ground.tells told mid (ground.told c.find_at.new.outside) c.args.space.now c.loop-step.space c.find_at.new.space c.args.other.now s n rest all c.args.out.now.items c.loop-step.out.items so c.in-Err.fault
          (c.in-Err.ensures.found (own_first s n rest c.loop-step.left.now below));
      looks = looks_on ground.tells _ _ _ _ _ _ c.loop-step.invariant.3 c.in-Err.ensures.looks;
      counts = subst (λ (k : Noted). CountsIf (counted_save c.in-Err.fault) k (ground.counts_of c.find_at.new.outside)) c.loop-step.invariant.4 c.in-Err.ensures.counts;
      alone = λ alone.
          let so_far = c.loop-step.invariant.5 alone in
          let now = c.in-Err.ensures.alone alone in
          (now.0 ∙ so_far.0, now.1 ∙ so_far.1, now.2);
    }

pub find_in-returns : goal.find_in-returns
find_in-returns g t c =
    let ground = g.G.Ground in
    let told = ground.told c.args.outside.now in
    let now = ground.told c.loop-step.outside in
    let all = rest_of c.args.dir.now.entries.entries in
    let end : c.loop-step.step-iterator ≡ [] = search rules in
    record {
      found = λ begins.
          let so = subst (λ (xs : List (Step × Node)). SoFar ground.tells told now c.args.space.now c.loop-step.space c.args.other.now (rest_of xs) all c.args.out.now.items c.loop-step.out.items) end (c.loop-step.invariant.2 begins).0 in
          all_found ground.tells told now c.args.space.now c.loop-step.space c.args.other.now all c.args.out.now.items c.loop-step.out.items so;
      looks = c.loop-step.invariant.3;
      counts = c.loop-step.invariant.4;
      alone = λ alone. let so_far = c.loop-step.invariant.5 alone in (so_far.0, so_far.1, tt);
    }

pub find_at-returns-in-Stored : goal.find_at-returns-in-Stored
find_at-returns-in-Stored g t c =
    let ground = g.G.Ground in
    let told = ground.told c.args.outside.now in
    let shows : shown c.args.node.now ≡ stored c.in-Stored.field-0 = ap shown c.in-Stored.is ∙ stored_shown c.in-Stored.field-0 in
    record {
      found = λ begins. none_found ground.tells told c.args.space.now (shown c.args.node.now) c.args.step.now c.args.other.now c.args.out.now.items (ap fresh shows);
      looks = looks_nothing ground.tells told c.args.space.now;
      counts = refl {a = ground.counts_of c.args.outside.now};
      alone = λ alone. (refl {a = c.args.outside.now}, refl {a = c.args.space.now}, tt);
    }

pub find_at-returns-then-new-eq0 : goal.find_at-returns-then-new-eq0
find_at-returns-then-new-eq0 g t c =
    let ground = g.G.Ground in
    let told = ground.told c.args.outside.now in
    let d = c.in-Directory.dir in
    let shows : shown c.args.node.now ≡ shown_directory d = ap shown c.in-Directory.is ∙ directory_shown d in
    record {
      found = λ begins.
          let own = subst (λ (n : view.Node). BeginsWith (tallies n) c.args.ahead.now) shows begins in
          let none = empty (fresh (shown_directory d)) (sym (new_first (root_of d) (nodes_in d) c.args.ahead.now own) ∙ sym c.new_in-new.ensures ∙ c.if-new-eq0.true) in
          none_found ground.tells told c.args.space.now (shown c.args.node.now) c.args.step.now c.args.other.now c.args.out.now.items (ap fresh shows ∙ none);
      looks = looks_nothing ground.tells told c.args.space.now;
      counts = refl {a = ground.counts_of c.args.outside.now};
      alone = λ alone. (refl {a = c.args.outside.now}, refl {a = c.args.space.now}, tt);
    }

pub find_at-returns-in-Ok-clause-found : goal.find_at-returns-in-Ok-clause-found
find_at-returns-in-Ok-clause-found g t c begins =
    let ground = g.G.Ground in
    let told = ground.told c.args.outside.now in
    let now = ground.told c.directory_at.new.outside in
    let d = c.in-Directory.dir in
    let other = c.args.other.now in
    let shows : shown c.args.node.now ≡ shown_directory d = ap shown c.in-Directory.is ∙ directory_shown d in
    let own = subst (λ (n : view.Node). BeginsWith (tallies n) c.args.ahead.now) shows begins in
    let whole : record_of (root_of d) ≡ None = open_first (root_of d) (nodes_in d) c.args.ahead.now own (λ none. c.if-new-eq0.false (c.new_in-new.ensures ∙ none)) in
    subst (λ (n : view.Node). MatchResult c.find_in.result (λ u. IsFound ground.tells told c.args.space.now (fresh n) (λ records. again records n (entry_at records c.args.step.now other)) c.args.out.now.items c.find_in.new.out.items)
    (IsLost ground.tells told c.args.space.now (longest n) (λ records. IsDirectoryThere records other))) (sym shows)
    (directory_later ground.tells told now c.args.space.now c.directory_at.new.space c.in-Ok.ensures.looks (root_of d) (nodes_in d) whole c.args.step.now other c.in-Ok.below c.in-Ok.ensures.found c.in-Ok.ensures.there c.args.out.now.items c.find_in.new.out.items
    c.find_in.result (c.find_in.ensures.found (inside_first (root_of d) (nodes_in d) c.args.ahead.now own whole c.inside.result.now c.inside.ensures)))

pub find_at-returns-in-Ok-clause-looks : goal.find_at-returns-in-Ok-clause-looks
find_at-returns-in-Ok-clause-looks g t c = looks_on g.G.Ground.tells _ _ _ _ _ _ c.in-Ok.ensures.looks c.find_in.ensures.looks
