-- A merge whose trees were merged: what the commit of the merged tree answers and does, behind calls that only looked.
--     join_may      the parents of its work.      done      all that is promised of it
use Rattle.std.proofs.Common.{◌≡◌, ℕ, Bool, true, List, [], ◌∷◌, Option, Some, refl, sym, ◌∙◌, ap, subst}
use Rattle.std.specs.Prelude.{Result, Ok, Err, OnOk, IfSome, IfErr, IsErr, IsErrOf, IsTrue, min}
use Rattle.std.proofs.lemmas.Result.{on_ok_weaker}
use Rattle.ip_base.specs.declared.info.Info.{Info}
use Rattle.ip_ground.specs.Told.{Told, NoFile}
use Rattle.ip_ground.proofs.Spans.{only_on}
use Rattle.ip_spec.specs.declared.command.Command.TheVariants as Command
use Rattle.ip_spec.specs.declared.record.Record.{Record}
use Rattle.ip_spec.specs.Machine.{Phase}
use Rattle.ip_spec.specs.Merge.{Rule}
use Rattle.ip_spec.specs.Path.{Bytes}
use Rattle.ip_spec.specs.Record.{Hash}
use Rattle.ip_merge.specs.Rules.{IsDecisive}
use Rattle.ip_spec.specs.Repository.{Repository}
use Rattle.ip_spec.specs.TreeAt.{Records}
use Rattle.ip_tree.specs.declared.tree.Tree as lazy
use Rattle.ip_held.specs.declared.collection.Collection.{Collection}
use Rattle.ip_held.specs.declared.fault.StoreFault.{StoreFault}
use Rattle.ip_appends.specs.declared.merging.Merge.{Merge}
use Rattle.ip_appends.specs.declared.merging.Sides.{Sides}
use Rattle.ip_held.specs.declared.held.Held.{Held}
use Rattle.ip_held.specs.declared.work.Work.{Work}
use Rattle.ip_held.specs.Changes.{Appends, Changes, HasAnswer, IsUndamaged, KeepsNumbers, LimitsSpace}
use Rattle.ip_held.specs.Answers.{Answers, first_parent, first_view, met_by, reply_to}
use Rattle.ip_appends.specs.Commits.{CommitsWork, repository_after, records_of, end_of}
use Rattle.ip_appends.specs.Merging.{AppendsMerge, LimitsMerge, IsJoin, IsJoinedTree, MergesBy, MergesWhere, StoreLooks, moves}
use Rattle.ip_held.specs.Held.{IsOf, Holds, SameTables, image_records}
use Rattle.ip_held.specs.Causes.{IsStoreCause}
use Rattle.ip_held.specs.Step.{Took}
use Rattle.ip_held.specs.Trees.{OnlyLooks}
use Rattle.ip_held.specs.Collecting.{not_leaving_in, phase_of}
use Rattle.ip_held.specs.Work.{AreParents, IsLawful, IsAt, IsThere, session}
use Rattle.ip_appends.proofs.JoinAnswers.{merged_of, took_merged, grew_merged, answers_joined, moments_joined, limits_joined, appends_joined}
use Rattle.ip_appends.proofs.JoinedCalls.{causes_behind}
use Rattle.ip_appends.proofs.JoinedTrees.{join_outcome, join_good, join_view, join_lawful, join_parents, join_there, goes_on_from}
use Rattle.ip_appends.proofs.BehindPlan.{first_same}
use Rattle.ip_appends.proofs.Beside.{beside_behind}
use Rattle.ip_appends.proofs.FirstTree.{first_left}
use Rattle.ip_held.proofs.Clearing.{looked_clear}
use Rattle.ip_held.proofs.Phases.{retained_parents, stays_least}
use Rattle.ip_held.proofs.LookedUp.{appends_behind}
use Rattle.ip_held.proofs.Room.{err_of}
use Rattle.ip_appends.proofs.MergeExits.{slot_still}
use Rattle.ip_held.proofs.Stepping.{same_tables, with_answer}
use Rattle.ip_held.proofs.Taking.{behind_took, behind_grew}

-- the parents of the commit are the branch's and the one merged with it
pub join_may : (store mid : Held) (r : Repository) (phase : Phase) (branch : Bytes) (sides : Sides) → SameTables store mid → IsOf store r → IsJoin r phase branch sides → (parents : List ℕ) → parents ≡ sides.head ∷ sides.number ∷ [] → (low : Option ℕ) → low ≡ Some (min sides.head sides.number)
    → IsOf mid r × AreParents r low parents
join_may store mid r phase branch sides same of is parents onto low least =
    (same_tables store mid same r of, subst (λ (o : Option ℕ). AreParents r o parents) (sym least) (subst (AreParents r (Some (min sides.head sides.number))) (sym onto) (join_parents r phase branch sides is)))

-- ---- the merged tree

module _ (rule : Rule) (r : Repository) (branch : Bytes) (info : Info) (sides : Sides) (store mid : Held) (is : IsJoin r (phase_of store.collection) branch sides) (a b : Told) (looks : OnlyLooks a b store mid) (same : SameTables store mid) (held : Holds store a r)
    (tree : lazy.Tree) (J : IsJoinedTree rule (image_records held) r sides tree) (work : Work) (tree_is : work.tree ≡ tree) (onto : work.parents ≡ sides.head ∷ sides.number ∷ []) (low : work.least ≡ Some (min sides.head sides.number)) where
  abbrev phase : Phase
  phase = phase_of store.collection

  lawful : IsLawful (image_records held) r work J.view
  lawful = join_lawful rule (image_records held) r sides tree J phase branch is (join_parents r phase branch sides is) work tree_is onto low

  there : IsThere r work.least
  there = subst (IsThere r) (sym low) (join_there r phase branch sides is)

  -- the two stay, so the merge does
  stays : not_leaving_in phase work.least ≡ Ok tt
  stays = subst (λ (o : Option ℕ). not_leaving_in phase o ≡ Ok tt) (sym low) (stays_least store.slot r store.collection branch sides.head sides.number held.tables.phase is.is_head is.staying)

  -- the work is one over what the store holds
  abbrev at : IsAt b mid r work J.view
  at = record { holds = looks.holds r held; lawful = subst (λ (records : ℕ → Option Record). IsLawful records r work J.view) (sym (looks.records r held (looks.holds r held))) lawful }

  -- the first parent is the branch's commit
  first_is : first_parent at ≡ Some J.left
  first_is =
      first_same store mid same (image_records held) (image_records at.holds) (looks.records r held at.holds) r work.parents
      ∙ ap (λ (ns : List ℕ). first_view (image_records held) store r ns) onto
      ∙ first_left store a r held sides.head (sides.number ∷ []) (retained_parents r (Some (min sides.head sides.number)) (sides.head ∷ sides.number ∷ []) (join_parents r phase branch sides is) (join_there r phase branch sides is)) J.left_is.at J.left_is.root
      ∙ ap Some (sym J.left_is.is)

  module _ (result : Result Hash StoreFault) (now : Held) (work' : Work) (c : Told) where
    abbrev end : ℕ
    end = end_of r work J.view (first_parent at) branch info mid

    abbrev more : Records
    more = records_of r work J.view (first_parent at) branch info mid

    -- which limit, and where the records are
    limits_done : LimitsSpace end result mid → LimitsMerge rule (image_records held) r sides.number branch info (merged_of result) store
    limits_done limits = limits_joined rule r phase branch info sides is work J.view onto there stays (join_outcome rule (image_records held) r sides tree J) (join_good rule (image_records held) r sides tree J)
        (image_records held) (join_view rule (image_records held) r sides tree J phase branch is) store mid same.slot (first_parent at) first_is result limits

    appends_done : LimitsSpace end result mid → OnOk result (Appends more 1 mid now b c) → Changes r (repository_after r phase work J.view branch info) (merged_of result) now a c → AppendsMerge rule (image_records held) r sides.number branch info (merged_of result) store now a c
    appends_done limits appends does = appends_joined rule r phase branch info sides is work J.view onto there stays (join_outcome rule (image_records held) r sides tree J) (join_good rule (image_records held) r sides tree J)
        (image_records held) (join_view rule (image_records held) r sides tree J phase branch is) store mid same.slot (first_parent at) first_is result now a c limits
        (on_ok_weaker result (appends_behind a b store mid looks more 1 now c same.slot same.unswept) appends) (still result does)
      where
        still : (result : Result Hash StoreFault) → Changes r (repository_after r phase work J.view branch info) (merged_of result) now a c → HasAnswer result → OnOk result ⊥ → now.slot ≡ store.slot
        still (Ok name) does has none = absurd none
        still (Err fault) does has none = let both = does.refused (refl, with_answer Merge Hash fault has) in slot_still store now r r a c held both.1 both.0

    merged_done : KeepsNumbers mid now → IfSome (reply_to result) (λ reply. Answers c (session r phase work J.view) J.view (Command.Commit branch info) (met_by result) reply now work') → LimitsSpace end result mid → OnOk result (Appends more 1 mid now b c)
        → Took moves held (repository_after r phase work J.view branch info) more (merged_of result) now c → IsUndamaged (merged_of result) → MergesBy rule held phase sides.number branch info (merged_of result) now c
    merged_done keeps answers limits appends took undamaged = record {
      answered = answers_joined rule r phase branch info sides is work J.view onto there stays (join_outcome rule (image_records held) r sides tree J) (join_good rule (image_records held) r sides tree J) c now work'
          (λ after of. goes_on_from mid now r after at.holds.tables keeps of) result answers;
      appends = appends_done limits appends took.changes;
      limits = limits_done limits;
      any_moment = moments_joined rule r phase branch info sides is work J.view onto there stays (join_outcome rule (image_records held) r sides tree J) (join_good rule (image_records held) r sides tree J) held more result now work' c answers took;
      undamaged = undamaged;
    }

module _ (tells : Bool) (rule : Rule) (branch : Bytes) (info : Info) (sides : Sides) (store mid : Held) (a b : Told) (looked : StoreLooks tells store mid a b) (work : Work) (onto : work.parents ≡ sides.head ∷ sides.number ∷ []) (low : work.least ≡ Some (min sides.head sides.number))
    (joins : IsTrue tells → IsDecisive rule → (r : Repository) (held : Holds store a r) → IsJoin r (phase_of store.collection) branch sides → IsJoinedTree rule (image_records held) r sides work.tree) where
  abbrev same : SameTables store mid
  same = looked.same

  abbrev looks : IsTrue tells → OnlyLooks a b store mid
  looks = looked.looks

  abbrev Is : Repository → Type 0
  Is r = IsJoin r (phase_of store.collection) branch sides

  has_merged : (result : Result Hash StoreFault) → HasAnswer (merged_of result) → HasAnswer result
  has_merged (Ok name) has = tt
  has_merged (Err fault) has = with_answer Hash Merge fault has

  undamaged_merged : (result : Result Hash StoreFault) → IsUndamaged result → IsUndamaged (merged_of result)
  undamaged_merged (Ok name) is = tt
  undamaged_merged (Err (StoreFault.Damaged place names)) is = absurd is
  undamaged_merged (Err _) is = tt

  refused_merged : (result : Result Hash StoreFault) → IsErr (merged_of result) → ¬ IsErrOf (merged_of result) StoreFault.Ground → IsErr result × ¬ IsErrOf result StoreFault.Ground
  refused_merged (Ok name) is other = absurd (cc is)
  refused_merged (Err fault) is other = (refl, λ e. other (err_of fault StoreFault.Ground e))

  causes_merged : (result : Result Hash StoreFault) → IfErr result (IsStoreCause tells a store.space) → IfErr (merged_of result) (IsStoreCause tells a store.space)
  causes_merged (Ok name) cause = tt
  causes_merged (Err fault) cause = cause

  pub done : (result : Result Hash StoreFault) (now : Held) (work' : Work) (c : Told) → CommitsWork tells branch info result mid now work work' b c → MergesWhere Is tells rule sides.number branch info (merged_of result) store now a c
  done result now work' c commits = record {
    tables = λ r of is has.
        let may = join_may store mid r (phase_of store.collection) branch sides same of is work.parents onto work.least low in
        let goes = commits.tables r may.0 may.1 (has_merged result has) in
        (goes.repository, goes_on_from mid now r goes.repository may.0 commits.numbers goes.tables);
    same_collection = commits.same_collection ∙ same.collection;
    unswept = commits.unswept ∙ same.unswept;
    grew = λ told r held. behind_grew moves (merged_of result) same (looks told) held now (grew_merged ((looks told).holds r held) now c result (commits.grew told r ((looks told).holds r held)));
    merges = λ told decides r held is.
        let J = joins told decides r held is in
        let here = at rule r branch info sides store mid is a b (looks told) same held work.tree J work refl onto low in
        let view = J.view in
        merged_done rule r branch info sides store mid is a b (looks told) same held work.tree J work refl onto low result now work' c commits.numbers
        (subst (λ (o : Option Collection). IfSome (reply_to result) (λ reply. Answers c (session r (phase_of o) work view) view (Command.Commit branch info) (met_by result) reply now work')) same.collection (commits.answered told r view here))
        (commits.limits told r view here) (commits.appends told r view here)
        (behind_took moves (merged_of result) same (looks told) held (repository_after r (phase_of store.collection) work view branch info) (records_of r work view (first_parent here) branch info mid) now
        (took_merged ((looks told).holds r held) now c result (repository_after r (phase_of store.collection) work view branch info) (records_of r work view (first_parent here) branch info mid)
        (subst (λ (o : Option Collection). Took (λ (name : Hash). true) ((looks told).holds r held) (repository_after r (phase_of o) work view branch info) (records_of r work view (first_parent here) branch info mid) result now c) same.collection (commits.took told r view here))))
        (undamaged_merged result (commits.undamaged told r view here));
    causes = causes_merged result (causes_behind looked result commits.causes);
    untouched = λ told is other. only_on a b c NoFile (looks told).reads.only (let both = refused_merged result is other in commits.untouched told both.0 both.1);
    beside = λ told. beside_behind a b c (looks told).reads.only (commits.beside told);
    clear = λ told has r held clear. commits.clear told (has_merged result has) r ((looks told).holds r held) (looked_clear store mid a b same.slot same.unswept (looks told).reads.only clear);
  }
