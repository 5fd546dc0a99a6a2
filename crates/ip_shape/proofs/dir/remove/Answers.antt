use Rattle.std.proofs.Common.{◌≡◌, ◌-◌, refl, ap, ◌∙◌, sym, subst, List}
use Rattle.std.specs.Prelude.{is_some, None}
use Rattle.std.proofs.lemmas.Bool.{false≢true}
use Rattle.std.specs.Ordering.{is_eq}
use Rattle.std.specs.Map.{remove_entry}
use Rattle.std.specs.FinMap.Entries.{find}
use Rattle.ip_spec.specs.Path.{Step, bytes_cmp}
use Rattle.ip_spec.specs.Shape.{deepest}
use Rattle.ip_shape.specs.Shape.{IsPart, AreSteps, take_out}
use Rattle.ip_shape.specs.Directory.{IsPartly}
use Rattle.ip_shape.specs.Loaded.{IsUnchanged, IsLessened, join_of, unread_in, way}
use Rattle.ip_shape.specs.Reading.{IsToJoin}
use Rattle.ip_shape.specs.declared.part.Part.{Part}
use Rattle.ip_shape.proofs.Entering.{none_missing}
use Rattle.ip_shape.proofs.Entries.{find_is, none_of, removed_is}
use Rattle.ip_shape.proofs.Needs.{nothing_needed}
use Rattle.ip_shape.proofs.Partly.{in_steps, stands_absent, stands_less, stands_still, taken_some}
use Rattle.ip_shape.proofs.Steps.{AreSteps-filter}
use Rattle.ip_shape.proofs.dir.remove.Goals as goal

pub returns-then-not-contains_key-clause-removed : goal.returns-then-not-contains_key-clause-removed
returns-then-not-contains_key-clause-removed g c steps entries is read =
    let s = c.args.step.now in
    let old : List (Step × g.row.C.Denot) = c.args.dir.now.entries.entries in
    let root : Part g.row.R.Denot = c.args.dir.now.root in
    let none = sym (ap is_some (find_is s old ∙ ap (λ (es : List (Step × g.row.C.Denot)). find bytes_cmp s es) is.0)) ∙ sym c.contains_key.ensures ∙ c.if-not-contains_key.true in
    let same = stands_absent root steps entries s (is.1, is.2, is.3) read none in
    (sym (none_of (find bytes_cmp s entries) none), subst (IsPartly c.args.dir.now (take_out s steps)) (sym same.0) (subst (λ (ss : List Step). IsPartly c.args.dir.now ss entries) (sym same.1) is), λ _. (refl, refl))

pub returns-in-Ok-clause-removed : goal.returns-in-Ok-clause-removed
returns-in-Ok-clause-removed g c steps entries is read =
    let s = c.args.step.now in
    let old : List (Step × g.row.C.Denot) = c.args.dir.now.entries.entries in
    let root : Part g.row.R.Denot = c.args.dir.now.root in
    let found = find_is s old ∙ ap (λ (es : List (Step × g.row.C.Denot)). find bytes_cmp s es) is.0 in
    let some = sym (ap is_some found) ∙ sym c.contains_key.ensures ∙ c.if-not-contains_key.false in
    let stands = subst (λ (p : Part g.row.R.Denot). IsPart deepest 0 steps p) (sym c.replace-root.ensures.value) is.2 in
    let lessened = subst (λ (p : Part g.row.R.Denot). IsLessened deepest 0 s steps p c.in-Ok.less) c.replace-root.ensures.value (c.in-Ok.ensures.edited steps stands) in
    let rest = stands_less root c.in-Ok.less steps entries s (is.1, is.2, is.3) (c.in-Ok.ensures.removed steps is.1 (in_steps root steps entries s is.3 some) stands) (λ q. (lessened q).0) in (
      c.remove.ensures.value ∙ found,
      (
        c.remove.ensures.entries ∙ ap (λ (es : List (Step × g.row.C.Denot)). remove_entry (λ k. is_eq (bytes_cmp s k)) es) is.0
            ∙ removed_is s entries (subst AreSteps (sym is.3) (AreSteps-filter _ steps is.1)),
        rest.0,
        rest.1,
        rest.2,
      ),
      taken_some c.remove.result s steps root c.in-Ok.less (ap is_some (c.remove.ensures.value ∙ found) ∙ some) lessened,
    )

pub returns-then-not-contains_key-clause-unread : goal.returns-then-not-contains_key-clause-unread
returns-then-not-contains_key-clause-unread g c steps entries part is there needed =
    let s = c.args.step.now in
    let old : List (Step × g.row.C.Denot) = c.args.dir.now.entries.entries in
    let found = find_is s old ∙ ap (λ (es : List (Step × g.row.C.Denot)). find bytes_cmp s es) is.0 in
    absurd (false≢true (sym (sym (ap is_some found) ∙ sym c.contains_key.ensures ∙ c.if-not-contains_key.true) ∙ there))

pub returns-in-Ok-clause-absent : goal.returns-in-Ok-clause-absent
returns-in-Ok-clause-absent g c steps entries is none =
    let s = c.args.step.now in
    let old : List (Step × g.row.C.Denot) = c.args.dir.now.entries.entries in
    let found = find_is s old ∙ ap (λ (es : List (Step × g.row.C.Denot)). find bytes_cmp s es) is.0 in
    absurd (false≢true (sym (ap is_some none) ∙ sym (ap is_some found) ∙ sym c.contains_key.ensures ∙ c.if-not-contains_key.false))

pub returns-in-Ok-clause-unread : goal.returns-in-Ok-clause-unread
returns-in-Ok-clause-unread g c steps entries part is there needed =
    let s = c.args.step.now in
    let root : Part g.row.R.Denot = c.args.dir.now.root in
    let stands = subst (λ (p : Part g.row.R.Denot). IsPart deepest 0 steps p) (sym c.replace-root.ensures.value) is.2 in
    let read = subst (λ (p : Part g.row.R.Denot). unread_in (way (deepest - 0) 0 s) p ≡ None) c.replace-root.ensures.value c.in-Ok.ensures.read in
    let joined = subst (λ (p : Part g.row.R.Denot). IsToJoin (join_of deepest 0 s steps) p None) c.replace-root.ensures.value (c.in-Ok.ensures.joined steps stands) in
    absurd ((nothing_needed s steps root (none_missing s root read) (λ _. joined)).1 part.0 part.1 needed.1 needed.0)

pub returns-in-Err-clause-absent : goal.returns-in-Err-clause-absent
returns-in-Err-clause-absent g c steps entries is none =
    let s = c.args.step.now in
    let old : List (Step × g.row.C.Denot) = c.args.dir.now.entries.entries in
    let found = find_is s old ∙ ap (λ (es : List (Step × g.row.C.Denot)). find bytes_cmp s es) is.0 in
    absurd (false≢true (sym (ap is_some none) ∙ sym (ap is_some found) ∙ sym c.contains_key.ensures ∙ c.if-not-contains_key.false))

pub returns-in-Err-clause-refused : goal.returns-in-Err-clause-refused
returns-in-Err-clause-refused g c steps entries is =
    let root : Part g.row.R.Denot = c.args.dir.now.root in
    let stands = subst (λ (p : Part g.row.R.Denot). IsPart deepest 0 steps p) (sym c.replace-root.ensures.value) is.2 in
    let same = subst (λ (p : Part g.row.R.Denot). IsUnchanged p c.in-Err.whole) c.replace-root.ensures.value c.in-Err.ensures.left in
    let rest = stands_still root c.in-Err.whole steps entries (is.1, is.2, is.3) (c.in-Err.ensures.refused steps stands) (λ q. (same q).0) in
    ((is.0, rest.0, rest.1, rest.2), same)
