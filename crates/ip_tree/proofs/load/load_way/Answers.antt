use Rattle.std.proofs.Common.{List, ℕ, subst, ◌∙◌}
use Rattle.std.specs.Prelude.{option_map}
use Rattle.ip_shape.specs.Directory.{root_of}
use Rattle.ip_shape.specs.Reading.{IsMissing}
use Rattle.ip_tree.specs.Edits.{IsDirectory}
use Rattle.ip_tree.specs.Shown.{shown_directory}
use Rattle.ip_tree.specs.declared.node.Stored.{Stored}
use Rattle.ip_tree.proofs.Looking.{cause_on, looks_on, still_over}
use Rattle.ip_tree.proofs.Walk.{err_is}
use Rattle.ip_tree.proofs.load.load_way.Goals as goal
use Rattle.ip_tree.proofs.Directories.{same_on}

pub returns-in_default-clause-opened : goal.returns-in_default-clause-opened
returns-in_default-clause-opened g c tells records t s over means is = record {
  same = c.loop.invariant.same tells records t s over means is;
  way = subst (λ o. IsMissing s (root_of c.loop.dir) (option_map {U = List ℕ × Stored} (λ m. (m.indexes.items, m.record)) o)) c.in_default.is (c.in_ok-part.ensures s is);
}

pub returns-clause-opened : goal.returns-clause-opened
returns-clause-opened g c tells records t s over means is = record { same = c.loop.invariant.same tells records t s over means is; cause = tt }

pub returns-in_err-load_part-clause-opened : goal.returns-in_err-load_part-clause-opened
returns-in_err-load_part-clause-opened g c tells records t s over means is =
    let d = c.args.dir.now in
    let e = c.loop.dir in
    let f = c.load_part.new.dir in
    let same = c.loop.invariant.same tells records t s over means is in
    let over' = still_over _ _ _ _ _ records c.loop.invariant.looks tells over in
    let found = subst (λ o. IsMissing s (root_of e) (option_map {U = List ℕ × Stored} (λ m. (m.indexes.items, m.record)) o)) c.in-Some.is (c.in_ok-part.ensures s is) in
    let kept = c.in_err-load_part.ensures.loaded tells records t over' same.means found.0 in
    err_is c.from_residual-in_err-load_part.result c.in_err-load_part.field-0.0 c.from_residual-in_err-load_part.ensures.1 _ _ record {
      same = same_on (IsDirectory records) records (shown_directory d) (shown_directory e) (shown_directory f) t same kept.same;
      cause = kept.cause;
    }

pub returns-in_err-load_part-clause-looks : goal.returns-in_err-load_part-clause-looks
returns-in_err-load_part-clause-looks g c = looks_on _ _ _ _ _ _ _ c.loop.invariant.looks c.in_err-load_part.ensures.looks

pub returns-in_err-load_part-clause-causes : goal.returns-in_err-load_part-clause-causes
returns-in_err-load_part-clause-causes g c =
    err_is c.from_residual-in_err-load_part.result c.in_err-load_part.field-0.0 c.from_residual-in_err-load_part.ensures.1 _ _
    (cause_on _ _ _ _ _ c.loop.invariant.looks c.in_err-load_part.field-0.0 c.in_err-load_part.ensures.causes)

pub loop-preserved : goal.loop-preserved
loop-preserved g c = record {
  same = λ tells records t s over means is.
      let d = c.args.dir.now in
      let e = c.loop.dir in
      let f = c.load_part.new.dir in
      let same = c.loop.invariant.same tells records t s over means is in
      let over' = still_over _ _ _ _ _ records c.loop.invariant.looks tells over in
      let found = subst (λ o. IsMissing s (root_of e) (option_map {U = List ℕ × Stored} (λ m. (m.indexes.items, m.record)) o)) c.in-Some.is (c.in_ok-part.ensures s is) in
      same_on (IsDirectory records) records (shown_directory d) (shown_directory e) (shown_directory f) t same (c.in_ok-load_part.ensures.loaded tells records t over' same.means found.0);
  looks = looks_on _ _ _ _ _ _ _ c.loop.invariant.looks c.in_ok-load_part.ensures.looks;
  counts = c.in_ok-load_part.ensures.counts ∙ c.loop.invariant.counts;
}
