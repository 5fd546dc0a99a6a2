-- A work whose tree was edited.
--     short_put, short_removed      the contents of an edited tree are short.      still_on      the tables are some repository's
use Rattle.std.proofs.Common.{◌≡◌, Bool, true, false, not, cond, length, sym, ◌∙◌, subst}
use Rattle.std.specs.Prelude.{◌≤◌, Some, None}
use Rattle.ip_spec.specs.Map.{get}
use Rattle.ip_spec.specs.Path.{Bytes, Path, same_path, is_prefix, is_related}
use Rattle.ip_spec.specs.Step.{contents_limit}
use Rattle.ip_spec.specs.Tree.{Tree, put, remove}
use Rattle.ip_spec.proofs.TreeLaws.{get-put, get-remove}
use Rattle.ip_save.specs.Batches.{HasShortContents}
use Rattle.ip_tree.specs.declared.tree.Tree as lazy
use Rattle.ip_held.specs.declared.held.Held.{Held}
use Rattle.ip_held.specs.declared.work.Work.{Work}
use Rattle.ip_held.specs.Answers.{GoesOn}
use Rattle.ip_held.specs.Held.{SameTables}
use Rattle.ip_held.proofs.Stepping.{same_tables}

pub short_put : (t : Tree) (path : Path) (bytes : Bytes) → HasShortContents t → length bytes ≤ contents_limit → HasShortContents (put t path bytes)
short_put t path bytes short new p found is = by (same_path p path) (not (is_related path p)) (sym (get-put t path p bytes) ∙ is)
  where
    by : (b c : Bool) → cond b (Some bytes) (cond c (get t p) None) ≡ Some found → length found ≤ contents_limit
    by true c e = let same : bytes ≡ found = cc (e) in subst (λ (x : Bytes). length x ≤ contents_limit) same new
    by false true e = short p found e
    by false false e = absurd (cc (e))

pub short_removed : (t : Tree) (path : Path) → HasShortContents t → HasShortContents (remove t path)
short_removed t path short p found is = by (not (is_prefix path p)) (sym (get-remove t path p) ∙ is)
  where
    by : (c : Bool) → cond c (get t p) None ≡ Some found → length found ≤ contents_limit
    by true e = short p found e
    by false e = absurd (cc (e))

pub still_on : (store now : Held) (work : Work) (new : lazy.Tree) → SameTables store now → GoesOn store work → GoesOn now (record work { tree = new })
still_on store now work new same on = record { repository = on.repository; tables = same_tables store now same on.repository on.tables; parents = on.parents }
