-- What a commit did, by where it ended.
--     commit_refused      its plan was refused, which only looked
--     commit_cut, commit_made      behind a plan: taking its step was cut short, or it was taken
use Rattle.std.proofs.Common.{◌≡◌, ℕ, ◌^◌, ◌<◌, ◌≤◌, Bool, true, [], ◌++◌, length, Option, Some, refl, sym, ◌∙◌, ap, subst, arith}
use Rattle.std.specs.Prelude.{Result, Ok, Err, IfSome, IsErrOf, IsTrue}
use Rattle.ip_base.specs.declared.info.Info.{Info}
use Rattle.ip_base.specs.declared.limit.Limit.TheVariants as Limit
use Rattle.ip_ground.specs.Told.{Told, NoFile, ChangesOnly}
use Rattle.ip_ground.proofs.Spans.{only_on}
use Rattle.ip_image.specs.declared.slot.Slot.{Slot}
use Rattle.ip_image.proofs.OneRepository.{all_records}
use Rattle.ip_publish.specs.Publishing.{IsOfStore}
use Rattle.ip_spec.specs.Path.{Bytes}
use Rattle.ip_spec.specs.Record.{Hash}
use Rattle.ip_spec.specs.Repository.{Repository, next}
use Rattle.ip_spec.specs.Step.{new_commit, with_commit}
use Rattle.ip_spec.specs.declared.command.Command.{Command}
use Rattle.ip_spec.specs.declared.reply.Reply.{Reply}
use Rattle.ip_spec.specs.TreeAt.{Records}
use Rattle.ip_spec.specs.View.{View}
use Rattle.ip_tree.specs.TreeView.{stored_view}
use Rattle.ip_held.specs.declared.collection.Collection.{Collection}
use Rattle.ip_held.specs.declared.fault.StoreFault.{StoreFault}
use Rattle.ip_held.specs.declared.held.Held.{Held}
use Rattle.ip_held.specs.declared.work.Work.{Work}
use Rattle.ip_held.specs.Answers.{Answers, GoesOn, IsCut, IsRefusal, IsSaved, fault_reply, first_parent, first_refusal, met_nothing, met_of}
use Rattle.ip_held.specs.Causes.{IsStoreCause}
use Rattle.ip_held.specs.Changes.{Appends, HasAnswer, IsUndamaged, KeepsNumbers, next_slot}
use Rattle.ip_held.specs.Clear.{KeepsClear}
use Rattle.ip_held.specs.Collecting.{carried, phase_of}
use Rattle.ip_held.specs.Held.{IsOf, Holds, SameTables, image_records}
use Rattle.ip_held.specs.Step.{Grew, IsStep, Took, entered}
use Rattle.ip_held.specs.Trees.{OnlyLooks}
use Rattle.ip_held.specs.Work.{AreParents, IsAt, IsThere, session}
use Rattle.ip_held.proofs.Causing.{cut_cause}
use Rattle.ip_held.proofs.Machine.{refused_memory}
use Rattle.ip_held.proofs.Room.{err_of}
use Rattle.ip_held.proofs.Clearing.{looked_clear}
use Rattle.ip_held.proofs.Stepping.{same_tables, with_answer}
use Rattle.ip_held.proofs.Taking.{behind_grew, behind_took, fault_grew, fault_took, looked_grew, looked_took, value_grew, value_took}
use Rattle.ip_held.proofs.Untouched.{taken_untouched}
use Rattle.ip_appends.specs.declared.committing.Plan.{Plan}
use Rattle.ip_appends.specs.Commits.{CommitsWork, IsNext, IsPlan, end_of, records_of, repository_after}
use Rattle.ip_appends.proofs.AfterCommit.{IsRead, after_is, after_parents, after_tables, answers_made, answers_refused, commit_step, entering, no_info, saved_tree, some_commit, stored_tree, work_after}
use Rattle.ip_appends.proofs.Beside.{beside_behind, beside_looked}
use Rattle.ip_appends.proofs.BehindPlan.{at_behind, cut_limits, cut_memory, cut_undamaged, first_same, next_behind, plan_behind, records_behind, undamaged_as}

same_numbers : (store mid : Held) → SameTables store mid → KeepsNumbers store mid
same_numbers store mid same = (ap (λ (s : Slot). s.floor) same.slot, (let is = ap (λ (s : Slot). s.next) same.slot in omega (arith, is)))

module _ (tells : Bool) (branch : Bytes) (info : Info) (store mid : Held) (work : Work) (a b : Told) (same : SameTables store mid) (looks : IsTrue tells → OnlyLooks a b store mid) where
  clear_mid : IsTrue tells → KeepsClear store mid a b
  clear_mid told = looked_clear store mid a b same.slot same.unswept (looks told).reads.only

  pub commit_refused : (fault : StoreFault) → (IsTrue tells → (r : Repository) (v : View) → IsAt a store r work v → IsRefusal r (phase_of store.collection) work v branch info fault)
      → (IsTrue tells → (r : Repository) (v : View) (at : IsAt a store r work v) → IsErrOf {T = Plan} (Err fault) (StoreFault.Limit Limit.Space) → 2 ^ 62 < end_of r work v (first_parent at) branch info store)
      → (IsTrue tells → (r : Repository) (v : View) (at : IsAt a store r work v) → IsErrOf {T = Plan} (Err fault) (StoreFault.Limit Limit.Sequence) → (end_of r work v (first_parent at) branch info store ≤ 2 ^ 62) × (store.slot.sequence ≡ 2 ^ 62))
      → IsStoreCause tells a store.space fault → (IsTrue tells → (r : Repository) (v : View) → IsAt a store r work v → IsUndamaged {A = Plan} (Err fault)) → (work.parents ≡ [] → IsUndamaged {A = Plan} (Err fault))
      → ((r : Repository) → IsOf store r → ¬ HasAnswer {A = Plan} (Err fault) → first_refusal r (phase_of store.collection) work.least work.parents branch ≡ Ok tt)
      → ((r : Repository) → IsOf store r → IsErrOf {T = Plan} (Err fault) StoreFault.Memory → first_refusal r (phase_of store.collection) work.least work.parents branch ≡ Ok tt)
      → CommitsWork tells branch info (Err fault) store mid work work a b
  commit_refused fault refused space sequence cause undamaged alone begun wanted = record {
    numbers = same_numbers store mid same;
    tables = λ r of are has. record { repository = r; tables = same_tables store mid same r of; parents = are };
    same_collection = same.collection;
    unswept = same.unswept;
    answered = λ told r v at. answers_refused r (phase_of store.collection) work v branch info fault mid b (at_behind store mid a b (looks told) r work v at) (refused told r v at);
    saved = λ told r q v at still. tt;
    limits = λ told r v at. record {
      space = λ e. space told r v at (err_of fault _ e);
      sequence = λ e. sequence told r v at (err_of fault _ e);
      enough = tt;
    };
    appends = λ told r v at. tt;
    grew = λ told r held. looked_grew (λ (name : Hash). true) fault same (looks told) held;
    took = λ told r v at. looked_took (λ (name : Hash). true) fault same (looks told) at.holds (repository_after r (phase_of store.collection) work v branch info) (records_of r work v (first_parent at) branch info store);
    causes = cause;
    undamaged = λ told r v at. undamaged_as Plan Hash fault (undamaged told r v at);
    untouched = λ told is other. (looks told).reads.only;
    beside = λ told. beside_looked a b (looks told).reads.only;
    begun = λ r of none. begun r of (λ has. none (with_answer Hash Plan fault has));
    wanted = λ r of e. wanted r of (err_of fault StoreFault.Memory e);
    clear = λ told has r held. clear_mid told;
    alone = λ none. undamaged_as Plan Hash fault (alone none);
  }

  -- ---- behind a plan

  module _ (plan : Plan) (coming : (r : Repository) → IsOf store r → IsNext r work.parents branch store plan) (planned : IsTrue tells → (r : Repository) (v : View) (at : IsAt a store r work v) → IsPlan r work v (first_parent at) branch info store plan)
      (there : (r : Repository) → IsOf store r → IsThere r work.least) (passed : (r : Repository) → IsOf store r → first_refusal r (phase_of store.collection) work.least work.parents branch ≡ Ok tt) (now : Held) (c : Told) (res : Result (Unit {0}) StoreFault) (numbers : KeepsNumbers mid now) (collection : now.collection ≡ mid.collection) (unswept : now.unswept ≡ mid.unswept)
      (grows : IsTrue tells → (r : Repository) (held : Holds mid b r) → Grew (λ (done : Unit {0}). true) held res now c)
      (takes : IsTrue tells → (r after : Repository) (more : Records) (held : Holds mid b r) → IsStep held after more plan.batch.bytes.items plan.step → Took (λ (done : Unit {0}). true) held after more res now c)
      (clears : IsTrue tells → HasAnswer res → (r : Repository) → Holds mid b r → KeepsClear mid now b c) (besides : IsTrue tells → ChangesOnly IsOfStore b c) where
    clear_now : IsTrue tells → HasAnswer res → (r : Repository) → Holds store a r → KeepsClear store now a c
    clear_now told has r held clear = clears told has r ((looks told).holds r held) (clear_mid told clear)

    kept : KeepsNumbers store now
    kept =
        let first = same_numbers store mid same in
        (numbers.0 ∙ first.0, (let low = first.1 in let high = numbers.1 in omega (arith, low, high)))

    module _ (told : IsTrue tells) (r : Repository) (v : View) (at : IsAt a store r work v) where
      abbrev here : IsAt b mid r work v
      here = at_behind store mid a b (looks told) r work v at

      abbrev first : first_parent here ≡ first_parent at
      first = first_same store mid same (image_records at.holds) (image_records here.holds) ((looks told).records r at.holds here.holds) r work.parents

      abbrev after : Repository
      after = repository_after r (phase_of store.collection) work v branch info

      abbrev all : Records
      all = records_of r work v (first_parent at) branch info store

      -- by the store that has looked
      step : IsStep here.holds after all plan.batch.bytes.items plan.step
      step =
          subst (λ (o : Option Collection). IsStep here.holds (repository_after r (phase_of o) work v branch info) all plan.batch.bytes.items plan.step) same.collection
          (subst (λ (more : Records). IsStep here.holds (repository_after r (phase_of mid.collection) work v branch info) more plan.batch.bytes.items plan.step) (records_behind store mid same r work v (first_parent at) (first_parent here) first branch info)
          (commit_step r work v branch info mid plan (next_behind store mid same r work.parents branch plan (coming r at.holds.tables)) b here
          (plan_behind store mid same r work v (first_parent at) (first_parent here) first branch info plan (planned told r v at))))

      took_step : Took (λ (done : Unit {0}). true) at.holds after all res now c
      took_step = behind_took (λ (done : Unit {0}). true) res same (looks told) at.holds after all now (takes told r after all here.holds step)

      enough : (end_of r work v (first_parent at) branch info store ≤ 2 ^ 62) × (store.slot.sequence < 2 ^ 62)
      enough =
          let is = coming r at.holds.tables in
          (subst (λ (n : ℕ). n ≤ 2 ^ 62) (sym (planned told r v at).behind) is.ends, is.sequence)

      still_at : (now ≡ mid) × (c ≡ b) → IsAt c now r work v
      still_at (stays, none) = subst (λ (s : Held). IsAt c s r work v) (sym stays) (subst (λ (t : Told). IsAt t mid r work v) (sym none) here)

      cut_answer : (fault : StoreFault) → IsCut fault → (fault ≡ StoreFault.Memory → (now ≡ mid) × (c ≡ b))
          → IfSome (fault_reply fault) (λ reply. Answers c (session r (phase_of store.collection) work v) v (Command.Commit branch info) (met_of fault) reply now work)
      cut_answer StoreFault.Ground cut memory = tt
      cut_answer StoreFault.Memory cut memory = answers_refused r (phase_of store.collection) work v branch info StoreFault.Memory now c (still_at (memory refl)) (refused_memory r (phase_of store.collection) work v branch info)
      cut_answer _ cut memory = absurd cut

    pub commit_cut : (fault : StoreFault) → res ≡ Err fault → IsCut fault → (fault ≡ StoreFault.Memory → (now ≡ mid) × (c ≡ b)) → CommitsWork tells branch info (Err fault) store now work work a c
    commit_cut fault is cut memory = record {
      numbers = kept;
      tables = λ r of are has. record {
        repository = r;
        tables = subst (λ (s : Held). IsOf s r) (sym (memory (cut_memory fault cut has)).0) (same_tables store mid same r of);
        parents = are;
      };
      same_collection = collection ∙ same.collection;
      unswept = unswept ∙ same.unswept;
      answered = λ told r v at. cut_answer told r v at fault cut memory;
      saved = λ told r q v at still. tt;
      limits = λ told r v at. cut_limits (end_of r work v (first_parent at) branch info store) store (Err fault) cut (enough told r v at);
      appends = λ told r v at. tt;
      grew = λ told r held. fault_grew (λ (done : Unit {0}). true) (λ (name : Hash). true) fault held now
          (subst (λ (x : Result (Unit {0}) StoreFault). Grew (λ (done : Unit {0}). true) held x now c) is (behind_grew (λ (done : Unit {0}). true) res same (looks told) held now (grows told r ((looks told).holds r held))));
      took = λ told r v at. fault_took (λ (done : Unit {0}). true) (λ (name : Hash). true) fault at.holds (after told r v at) (all told r v at) now
          (subst (λ (x : Result (Unit {0}) StoreFault). Took (λ (done : Unit {0}). true) at.holds (after told r v at) (all told r v at) x now c) is (took_step told r v at));
      causes = cut_cause tells a store.space (Err fault) cut;
      undamaged = λ told r v at. cut_undamaged (Err fault) cut;
      untouched = λ told is other. only_on a b c NoFile (looks told).reads.only (taken_untouched b c {A = Unit {0}} (Err fault) (λ e. (memory (cc e)).1) cut refl (λ e. other (err_of fault StoreFault.Ground e)));
      beside = λ told. beside_behind a b c (looks told).reads.only (besides told);
      begun = λ r of none. passed r of;
      wanted = λ r of e. passed r of;
      clear = λ told has. clear_now told (subst HasAnswer (sym is) (with_answer (Unit {0}) Hash fault has));
      alone = λ none. cut_undamaged (Err fault) cut;
    }

    module _ (is : res ≡ Ok tt) (taken : now ≡ entered mid plan.step) (work' : Work) (read : IsRead plan.number plan.batch.root work'.tree) (parents : work'.parents ≡ plan.parents) (least : work'.least ≡ Some plan.number) where
      tables_made : (r : Repository) → IsOf store r → AreParents r work.least work.parents → GoesOn now work'
      tables_made r of are =
          let one = some_commit r work.parents no_info plan in
          let of_mid = same_tables store mid same r of in
          let next_is = next_behind store mid same r work.parents branch plan (coming r of) in
          record {
            repository = with_commit r one branch;
            tables = subst (λ (s : Held). IsOf s (with_commit r one branch)) (sym taken) (after_tables r work.parents branch mid plan of_mid next_is one refl refl (entering r work mid of_mid are (there r of)));
            parents = after_parents r work.parents branch mid plan of_mid next_is one refl refl work'.parents (parents ∙ next_is.parents) work'.least (least ∙ ap Some next_is.number);
          }

      module _ (told : IsTrue tells) (r : Repository) (v : View) (at : IsAt a store r work v) where
        took_all : Took (λ (done : Unit {0}). true) at.holds (after told r v at) (all told r v at) (Ok tt) now c
        took_all = subst (λ (x : Result (Unit {0}) StoreFault). Took (λ (done : Unit {0}). true) at.holds (after told r v at) (all told r v at) x now c) is (took_step told r v at)

        abbrev next_is : IsNext r work.parents branch store plan
        next_is = coming r at.holds.tables

        abbrev plan_is : IsPlan r work v (first_parent at) branch info store plan
        plan_is = planned told r v at

        abbrev made_is : Repository
        made_is = with_commit r (new_commit r v.map work.parents info) branch

        list_made : (q : Repository) (still : Holds now c q) → still.stands.standing.records ≡ at.holds.stands.standing.records ++ all told r v at
        list_made q still = took_all.list refl q still

        appends_made : Appends (all told r v at) 1 store now a c
        appends_made = record {
          slot = ap (λ (s : Held). s.slot) taken ∙ next_is.slot ∙ ap (λ bytes. next_slot (carried store) (length bytes) 1) plan_is.bytes;
          records = λ r' q before still. list_made q still ∙ ap (λ (rs : Records). rs ++ all told r v at) (all_records a.held at.holds.stands.standing before.stands.standing);
        }

        saved_made : (q : Repository) (still : Holds now c q) → IsSaved (image_records still) work'.tree (next r) v.map
        saved_made q still = (plan.batch.root.at, saved_tree r work v branch info store plan next_is a at plan_is c now q still (list_made q still) work'.tree read)

        holds_made : Holds now c made_is
        holds_made = subst (Holds now c) (after_is r work v branch info store plan next_is a at plan_is) took_all.changes.ok

        answer_made : (name : Hash) → name ≡ plan.batch.name → Answers c (session r (phase_of store.collection) work v) v (Command.Commit branch info) met_nothing (Reply.Committed name) now work'
        answer_made name named =
            answers_made r work work' v (stored_view (image_records holds_made) (next r) plan.batch.root.at v.map) branch info store now plan name c (first_parent at) next_is plan_is named refl parents least
            (record { holds = holds_made; lawful = work_after r work v branch info store plan next_is a at plan_is c now made_is holds_made (list_made made_is holds_made) work' read parents least refl })
            (stored_tree r work v branch info store plan next_is a at plan_is c now made_is holds_made (list_made made_is holds_made))

      pub commit_made : (name : Hash) → name ≡ plan.batch.name → CommitsWork tells branch info (Ok name) store now work work' a c
      commit_made name named = record {
        numbers = kept;
        tables = λ r of are has. tables_made r of are;
        same_collection = collection ∙ same.collection;
        unswept = unswept ∙ same.unswept;
        answered = λ told r v at. answer_made told r v at name named;
        saved = λ told r q v at still. saved_made told r v at q still;
        limits = λ told r v at. cut_limits (end_of r work v (first_parent at) branch info store) store (Ok name) tt (enough told r v at);
        appends = λ told r v at. appends_made told r v at;
        grew = λ told r held. value_grew (λ (name : Hash). true) name refl held now
            (subst (λ (x : Result (Unit {0}) StoreFault). Grew (λ (done : Unit {0}). true) held x now c) is (behind_grew (λ (done : Unit {0}). true) res same (looks told) held now (grows told r ((looks told).holds r held))));
        took = λ told r v at. value_took (λ (name : Hash). true) name refl at.holds (after told r v at) (all told r v at) now (took_all told r v at);
        causes = tt;
        undamaged = λ told r v at. tt;
        untouched = λ told is other. absurd (cc is);
        beside = λ told. beside_behind a b c (looks told).reads.only (besides told);
        begun = λ r of none. absurd (none tt);
        wanted = λ r of e. absurd (cc (e));
        clear = λ told has. clear_now told (subst HasAnswer (sym is) tt);
        alone = λ none. tt;
      }
