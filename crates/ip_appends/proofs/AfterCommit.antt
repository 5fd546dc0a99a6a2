-- What the tables, the work and the files hold after a commit.
--     after_tables, after_parents      the tables and the parents after it, whatever is told
--     may_commit      what taking its step asks
--     all_lie, rests      its records lie end to end behind those before it, and while a collection goes on what they refer to stays.      stands_new      the images that it leaves
--     commit_step      the step leads to the machine's repository
--     saved_tree, work_after      the tree at the batch's root, over the records of the image after it, and the work that goes on from it
--     answers_refused, answers_made      what is answered
use Rattle.std.proofs.Common.{◌≡◌, ℕ, ◌+◌, ◌<◌, ◌≤◌, Bool, true, false, List, [], ◌∷◌, ◌++◌, length, map, Option, Some, None, refl, sym, ◌∙◌, ap, subst, arith, length-append}
use Rattle.std.specs.Prelude.{Ok, All, IsFalse, IsTrue, IfSome, IsSomeAnd, min, cond}
use Rattle.std.specs.List.{AllByRecursion}
use Rattle.std.proofs.lemmas.List.{map-append}
use Rattle.std.proofs.lemmas.List.Elements.{All-from_recursion, recursion_from_All}
use Rattle.std.specs.Cmp.Lexicographic.{nat_list_cmp_total}
use Rattle.std.specs.Ordering.{eq_by_cmp}
use Rattle.ip_base.specs.declared.info.Info.{Info}
use Rattle.ip_ground.specs.Contents.{Image}
use Rattle.ip_ground.specs.Told.{Told}
use Rattle.ip_spec.specs.declared.command.Command.{Command}
use Rattle.ip_spec.specs.Machine.{Phase}
use Rattle.ip_spec.specs.declared.record.Record.{Record}
use Rattle.ip_spec.specs.declared.record.Ref.{Ref}
use Rattle.ip_spec.specs.declared.reply.Reply.{Reply}
use Rattle.ip_spec.specs.Map.{get, insert, get-insert}
use Rattle.ip_spec.specs.Path.{Bytes, bytes_cmp}
use Rattle.ip_spec.specs.Record.{Hash, IsHash}
use Rattle.ip_spec.specs.Repository.{Repository, Commit, next, is_retained}
use Rattle.ip_spec.specs.Tree.{Tree, IsTree, is_contents, no_tree, widest}
use Rattle.ip_spec.specs.TreeAt.{Records, TreeAt, present}
use Rattle.ip_spec.specs.View.{View}
use Rattle.ip_spec.specs.Batch.{AreEndToEnd, KnownStand, Sources, SourcesStand, commit_of, reusing_sources, with_batch}
use Rattle.ip_spec.proofs.BatchLaws.{batch_lies, batch_stands, reusing_stand}
use Rattle.ip_spec.proofs.TreeAtLaws.{more_part}
use Rattle.ip_spec.proofs.Widths.{none_wider}
use Rattle.ip_spec.specs.Step.{as_parent, new_commit, with_commit, entries_limit, Turned, IsMet}
use Rattle.ip_image.specs.declared.slot.Slot.{Slot}
use Rattle.ip_image.specs.Standing.{StandsFor, AreGood, AreRetained, terms_of}
use Rattle.ip_image.specs.Appending.{AddsBytes, SameGeneration, fields_of}
use Rattle.ip_image.specs.Pending.{HasLive}
use Rattle.ip_image.proofs.AppendingLaws.{stands_grown}
use Rattle.ip_image.proofs.PairLaws.{Has, Rises}
use Rattle.ip_image.proofs.StayingRecords.{has_right, ordered_rises}
use Rattle.ip_save.specs.Batches.{commit_place}
use Rattle.ip_image.proofs.TreeBatch.{found_together, tree_behind}
use Rattle.ip_history.specs.History.{History}
use Rattle.ip_history.proofs.Parents.{first_push}
use Rattle.ip_tree.specs.declared.tree.Tree as lazy
use Rattle.ip_tree.specs.Meaning.{Spells}
use Rattle.ip_tree.specs.TreeView.{IsView, stored_view}
use Rattle.ip_tree.proofs.Stands.{known_stand}
use Rattle.ip_tables.specs.Histories.{with_parents, MayEnter}
use Rattle.ip_held.specs.declared.collection.Collection.{Collection}
use Rattle.ip_appends.specs.declared.committing.Plan.{Plan}
use Rattle.ip_held.specs.declared.fault.StoreFault.{StoreFault}
use Rattle.ip_held.specs.declared.held.Held.{Held}
use Rattle.ip_held.specs.declared.work.Work.{Work}
use Rattle.ip_appends.specs.Commits.{IsNext, IsPlan, repository_after, records_of}
use Rattle.ip_held.specs.Answers.{IsRefusal, Answers, Turns, fault_reply, met_of, conditions_of, met_nothing, first_parent}
use Rattle.ip_held.specs.Changes.{next_slot}
use Rattle.ip_held.specs.Collecting.{IsPhase, IsPhaseOf, not_leaving_in, phase_of, carried}
use Rattle.ip_held.specs.Rooted.{IsRooted}
use Rattle.ip_held.specs.Held.{IsOf, Holds, image_records}
use Rattle.ip_held.specs.Views.{IsStored, IsViewAfter}
use Rattle.ip_held.specs.Work.{AreParents, IsLawful, IsAt, IsThere, least_of, session}
use Rattle.ip_held.proofs.BatchRests.{batch_rests, known_staying, rooted_rests, staying as staying_records}
use Rattle.ip_held.specs.Step.{HasRoom, IsStep, MayTake, RestsBy, entered, entered_tables}
use Rattle.ip_held.specs.Step as steps
use Rattle.ip_held.specs.declared.step.Entry.{Entry}
use Rattle.ip_held.specs.declared.step.Step.{Step}
use Rattle.ip_held.proofs.Going.{highs, rising_push, going_on}
use Rattle.ip_held.proofs.Recovering.{held_has}
use Rattle.ip_held.proofs.BatchKinds.{batch_commit}
use Rattle.ip_appends.proofs.FirstTree.{first_held, first_staying}
use Rattle.ip_held.proofs.Phases.{least_above, oldest_above, retained_parents, phase_on, retained_is, set_heads}
use Rattle.ip_held.proofs.RootedViews.{rooted_stored}
use Rattle.ip_held.proofs.Listed.{good_here, records_ordered, within_fits, records_below, found_here}
use Rattle.ip_held.proofs.BranchNames.{named_set}
use Rattle.ip_held.proofs.NextSlot.{next_room, next_is, next_generation, next_space, unswept_on, within_on}
use Rattle.ip_held.proofs.Histories.{history_committed, may_enter}
use Rattle.ip_held.proofs.Tables.{free, none_named}
use Rattle.ip_held.proofs.Machine.{met_done}

-- ---- tables, whatever is told

all_append : {X : Type 0} (P : X → Type 0) (xs : List X) (x : X) → AllByRecursion P xs → P x → AllByRecursion P (xs ++ x ∷ [])
all_append P [] x ps p = (p, tt)
all_append P (y ∷ xs) x (q, ps) p = (q, all_append P xs x ps p)

pub room_of : (r : Repository) (from : List ℕ) (branch : Bytes) (store : Held) (plan : Plan) → IsOf store r → IsNext r from branch store plan → HasRoom store.slot store.slot.next_attempt (length plan.batch.bytes.items) 1
room_of r from branch store plan of is = next_room store.slot (length plan.batch.bytes.items) 1 of.slot is.ends is.sequence (let some = is.some in omega (arith, some))

pub entering : (r : Repository) (work : Work) (store : Held) → IsOf store r → AreParents r work.least work.parents → IsThere r work.least → MayEnter store.history work.parents
entering r work store of are there = may_enter store r of work.parents work.parents refl (retained_parents r work.least work.parents are there)

-- a commit of the name that the plan has, and of these parents
module _ (r : Repository) (parents : List ℕ) (branch : Bytes) (store : Held) (plan : Plan) (of : IsOf store r) (is : IsNext r parents branch store plan)
    (commit : Commit) (named : commit.name ≡ plan.batch.name) (onto : commit.parents ≡ map (as_parent r) parents) where
  abbrev after : Repository
  after = with_commit r commit branch

  room : HasRoom store.slot store.slot.next_attempt (length plan.batch.bytes.items) 1
  room = room_of r parents branch store plan of is

  abbrev live_after : Slot
  live_after = next_slot (carried store) (length plan.batch.bytes.items) 1

  abbrev step_after : Step
  step_after = record { slot = live_after; entry = Entry.Commit plan.batch.name parents branch plan.batch.commit_at }

  next_after : next after ≡ next r + 1
  next_after = omega (arith, length-append r.commits (commit ∷ []))

  retained_after : AreRetained live_after after.branches
  retained_after = record { each = each; few = is.room }
    where
      by_test : (b : Bool) (o : Option ℕ) → IfSome o (λ n. (store.slot.floor ≤ n) × (n < store.slot.next)) → IfSome (cond b (Some (next r)) o) (λ n. (store.slot.floor ≤ n) × (n < store.slot.next + 1))
      by_test true o p = let low = of.slot.floor in let same = of.next in (omega arith, omega arith)
      by_test false None p = tt
      by_test false (Some n) (l, h) = (l, omega (arith, h))

      each : (name : Bytes) → IfSome (get (insert r.branches branch (next r)) name) (λ n. (store.slot.floor ≤ n) × (n < store.slot.next + 1))
      each name = subst (λ o. IfSome o (λ n. (store.slot.floor ≤ n) × (n < store.slot.next + 1))) (sym (get-insert nat_list_cmp_total r.branches branch (next r) name)) (by_test (eq_by_cmp bytes_cmp name branch) (get r.branches name) (of.retained.each name))

  -- a commit that comes next is none of those that a collection gives up
  heads_after : (c : Collection) → store.collection ≡ Some c → IsPhase store.slot r c → (name : Bytes) → IfSome (get after.branches name) (λ n. c.commit ≤ n)
  heads_after c same was name = set_heads (λ (n : ℕ). c.commit ≤ n) r.branches branch (next r) (let high = (retained_is r c.commit was.retained).1 in omega (arith, high)) name (was.heads name)

  tables_after : MayEnter store.history parents → IsOf (entered store step_after) after
  tables_after enters = record {
    slot = next_is store.slot store.unswept store.slot.next_attempt (length plan.batch.bytes.items) 1 of.slot of.unswept room;
    index = omega arith;
    floor = of.floor;
    next = next_after ∙ ap (λ (n : ℕ). n + 1) of.next;
    names = map-append (λ (c : Commit). c.name) r.commits (commit ∷ []) ∙ ap (λ ns. ns ++ commit.name ∷ []) of.names ∙ ap (λ n. store.names ++ n ∷ []) named;
    hashes = All-from_recursion IsHash (store.names ++ plan.batch.name ∷ []) (all_append IsHash store.names plan.batch.name (recursion_from_All IsHash store.names of.hashes) is.is_name);
    branches = ap (λ m. insert m branch (next r)) of.branches ∙ ap (λ (n : ℕ). insert store.branches branch n) of.next;
    retained = retained_after;
    history = history_committed r commit parents branch onto ∙ ap (λ (h : History). with_parents h parents) of.history;
    parents_first = first_push store.history of.parents_first parents enters.1;
    space = next_space store.slot store.unswept store.slot.next_attempt (length plan.batch.bytes.items) 1 store.space of.space;
    placed = let was = of.placed in let e : length (store.places ++ plan.batch.commit_at ∷ []) ≡ length (r.commits ++ commit ∷ []) = omega (arith, was, length-append store.places (plan.batch.commit_at ∷ []), length-append r.commits (commit ∷ [])) in e;
    phase = phase_on store.slot store.unswept store.slot.next_attempt (length plan.batch.bytes.items) 1 r after store.collection refl (omega (arith, next_after)) (λ _ _. refl) heads_after of.phase;
    unswept = unswept_on store.slot store.unswept store.slot.next_attempt (length plan.batch.bytes.items) 1 room of.unswept;
    named = named_set r.branches branch (next r) is.is_branch of.named;
    within = within_on store.slot live_after store.places (plan.batch.commit_at ∷ []) (omega arith) (omega arith) of.within (((let h = of.slot.horizon in let low = is.placed.0 in omega (arith, h, low)), is.placed.1), tt);
    rising = rising_push store.slot.horizon store.slot.end plan.batch.commit_at store.places (let h = of.slot.horizon in let low = is.placed.0 in omega (arith, h, low)) is.placed.0
        (highs store.slot.horizon store.slot.end store.places of.within) of.rising;
    going = going_on store.slot.floor live_after.end store.places (plan.batch.commit_at ∷ []) store.unswept store.space store.collection of.going;
  }

  pub after_tables : MayEnter store.history parents → IsOf (entered store plan.step) after
  after_tables enters = subst (λ (t : Step). IsOf (entered store t) after) (λ i. record { slot = sym is.slot i; entry = sym is.entry i }) (tables_after enters)

  pub after_parents : (ns : List ℕ) → ns ≡ next r ∷ [] → (least : Option ℕ) → least ≡ Some (next r) → AreParents after least ns
  after_parents ns only least is = subst (λ (o : Option ℕ). AreParents after o ns) (sym is) (subst (AreParents after (Some (next r))) (sym only) (record {
    made = All-from_recursion (λ n. n < next after) (next r ∷ []) (omega (arith, next_after), tt);
    above = All-from_recursion (λ n. next r ≤ n) (next r ∷ []) (omega arith, tt);
    distinct = λ i j d low high. absurd (omega (arith, low, high));
    few = omega arith;
  }))

-- some commit of the plan's name, where nothing is told of the tree
abbrev pub some_commit : Repository → List ℕ → Info → Plan → Commit
some_commit r parents info plan = record { name = plan.batch.name; parents = map (as_parent r) parents; info = info; tree = no_tree }

-- what taking the step asks
pub may_commit : (r : Repository) (work : Work) (branch : Bytes) (store : Held) (plan : Plan) (of : IsOf store r) → IsNext r work.parents branch store plan → AreParents r work.least work.parents → IsThere r work.least → MayTake store plan.batch.bytes.items plan.step
may_commit r work branch store plan of is are there = record {
  enters = subst (steps.MayEnter store) (sym is.entry) (free store r of plan.batch.name (none_named r plan.batch.name is.new_name), entering r work store of are there);
  attempt = store.slot.next_attempt;
  commits = 1;
  slot = is.slot;
  room = room_of r work.parents branch store plan of is;
  some = is.some;
}

-- ---- the files, where the tree has this view

-- for what doesn't depend on the commit's info
abbrev pub no_info : Info
no_info = record { date = 0; author = []; message = [] }

-- what `Tree::of` says of the tree that it gives
abbrev pub IsRead : ℕ → Ref → lazy.Tree → Type 0
IsRead number root tree = (records : ℕ → Option Record) (map : Tree) → IsFalse (is_contents map) → Spells records root map → IsTree map → widest map ≤ entries_limit → IsView records tree (stored_view records number root.at map)

pub read_root : (number : ℕ) (given root : Ref) (tree : lazy.Tree) → given ≡ root → IsRead number given tree → IsRead number root tree
read_root number given root tree same read = subst (λ (at : Ref). IsRead number at tree) same read

module _ (r : Repository) (work : Work) (v : View) (branch : Bytes) (info : Info) (store : Held) (plan : Plan) (coming : IsNext r work.parents branch store plan) (a : Told) (at : IsAt a store r work v) (is : IsPlan r work v (first_parent at) branch info store plan) where
  abbrev held : Holds store a r
  held = at.holds

  abbrev of : IsOf store r
  of = held.tables

  abbrev commit : Commit
  commit = new_commit r v.map work.parents info

  abbrev made_is : Repository
  made_is = with_commit r commit branch

  abbrev all : Records
  all = records_of r work v (first_parent at) branch info store

  abbrev next_live : Slot
  next_live = next_slot (carried store) (length plan.batch.bytes.items) 1

  pub there : HasRoom store.slot store.slot.next_attempt (length plan.batch.bytes.items) 1
  there = room_of r work.parents branch store plan of coming

  generation : SameGeneration store.slot next_live
  generation = next_generation store.slot store.unswept store.slot.next_attempt (length plan.batch.bytes.items) 1

  pub after_is : repository_after r (phase_of store.collection) work v branch info ≡ made_is
  after_is = ap (λ (t : Turned). t.1.repository) is.turn

  view_is : IsView (image_records held) work.tree v
  view_is = at.lawful.tree is.there

  known : KnownStand (image_records held) v store.slot.end
  known = known_stand (image_records held) work.tree v store.slot.end view_is (records_below store a r held)

  retained : All (λ n. IsTrue (is_retained r n)) work.parents
  retained = retained_parents r work.least work.parents at.lawful.parents is.there

  abbrev from : Sources
  from = reusing_sources v (first_parent at)

  stand : SourcesStand (image_records held) v from
  stand = reusing_stand (image_records held) v (first_parent at) store.slot.end known (first_held store a r held work.parents retained)

  pub stands_new : (image : Image) → HasLive next_live image → AddsBytes store.slot plan.batch.bytes.items a.held image → StandsFor image (repository_after r (phase_of store.collection) work v branch info)
  stands_new image live adds = subst (StandsFor image) (sym after_is)
      (stands_grown a.held image r store.slot next_live v from work.parents info branch held.stands (held_has store r a held) is.may known stand is.within live
      generation (sym is.behind) refl (subst (λ (bs : List ℕ). AddsBytes store.slot bs a.held image) is.bytes adds)).0

  pub all_lie : AreEndToEnd store.slot.end all next_live.end
  all_lie = subst (λ (n : ℕ). AreEndToEnd store.slot.end all n) is.behind (batch_lies v from (fields_of r work.parents info branch) store.slot.end)

  -- ---- while a collection goes on

  abbrev records : Records
  records = held.stands.standing.records

  rise : Rises records
  rise = ordered_rises 0 records store.slot.end (records_ordered store a r held)

  good : AreGood store.slot [] records
  good = good_here store a r held

  -- the tree took from no commit that goes, so the batch refers to nothing that goes
  pub rests : RestsBy held all store.collection
  rests c same collects =
      let job = (subst (IsPhaseOf store.slot r) same of.phase).told in
      let collectable = collects.collectable in
      let set = collectable.core.keeps in
      let some = job.valid.some in
      let inside = job.end in
      let least = least_above c work.least (subst (λ (o : Option Collection). not_leaving_in (phase_of o) work.least ≡ Ok tt) same is.stays) in
      let oldest = oldest_above c.commit v.oldest work.parents (subst (λ (o : Option ℕ). IfSome o (λ n. c.commit ≤ n)) at.lawful.least least) in
      let rooted = rooted_rests records c.job.horizon collects.kept set store.slot rise good collectable.commit collectable.here v (subst (λ (low : ℕ). IfSome v.oldest (λ n. low ≤ n)) (sym collectable.number) oldest) (at.lawful.rooted is.there) in
      let staying = known_staying records c.job.horizon collects.kept set rise store.slot.end v known rooted in
      batch_rests records c.job.horizon collects.kept store.slot.end (records_ordered store a r held) (omega (arith, some, inside)) (terms_of store.slot) v from (fields_of r work.parents info branch)
      (tree_behind (terms_of store.slot) v from (fields_of r work.parents info branch) store.slot.end (staying_records records c.job.horizon collects.kept) staying
      (reusing_stand (present (staying_records records c.job.horizon collects.kept)) v (first_parent at) store.slot.end staying
      (first_staying store a r held c.job.horizon collects.kept set collectable.commit collectable.here work.parents retained (none_below work.least least collectable.commit.number (sym collectable.number) at.lawful.parents.above))) is.may.is_tree (λ p. (let most = none_wider v.map p in let narrow = is.may.narrow in omega (arith, most, narrow))))
    where
      none_below : (low : Option ℕ) → IfSome low (λ m. c.commit ≤ m) → (number : ℕ) → c.commit ≡ number → All (λ n. IsSomeAnd low (λ m. m ≤ n)) work.parents → All (λ n. number ≤ n) work.parents
      none_below None some number same above k d l = absurd (above k d l)
      none_below (Some m) some number same above k d l = let one = above k d l in omega (arith, some, same, one)

  -- ---- the step

  pub commit_step : IsStep held (repository_after r (phase_of store.collection) work v branch info) all plan.batch.bytes.items plan.step
  commit_step = record {
    spelled = is.bytes;
    newest = within_fits store.slot of.slot all is.within;
    lie = subst (λ (s : Slot). AreEndToEnd store.slot.end all s.end) (sym coming.slot) all_lie;
    tables = subst (IsOf (entered store plan.step)) (sym after_is) (after_tables r work.parents branch store plan of coming commit (sym is.name) refl (entering r work store of at.lawful.parents is.there));
    placed = ap (λ (entry : Entry). (entered_tables entry store).places) coming.entry ∙ ap (λ (ps : List ℕ). store.places ++ ps) (sym is.place);
    rests = rests;
    stands = λ image live adds. stands_new image (subst (λ (s : Slot). HasLive s image) coming.slot live) adds;
  }

  -- ---- the records after it

  module _ (b : Told) (store' : Held) (q : Repository) (now : Holds store' b q) (list_on : now.stands.standing.records ≡ held.stands.standing.records ++ all) where
    spelled : TreeAt (with_batch (image_records held) all) plan.batch.root.at v.map
    spelled = subst (λ (root : Ref). TreeAt (with_batch (image_records held) all) root.at v.map) (sym is.root)
        (batch_stands (image_records held) v from store.slot.end known stand view_is.lawful (fields_of r work.parents info branch))

    found : (place : ℕ) (x : Record) → with_batch (image_records held) all place ≡ Some x → image_records now place ≡ Some x
    found place x there = subst (λ (rs : Records). present rs place ≡ Some x) (sym list_on)
        (found_together held.stands.standing.records all store.slot.end next_live.end (records_below store a r held) all_lie place x there)

    spelled_now : TreeAt (image_records now) plan.batch.root.at v.map
    spelled_now = (spelled.0, more_part (with_batch (image_records held) all) (image_records now) found spelled.1)

    -- one of the records is known of each part
    pub stored_tree : IsStored (next r) v.map (stored_view (image_records now) (next r) plan.batch.root.at v.map)
    stored_tree = record { records = image_records now; at = plan.batch.root.at; spelled = spelled_now; is = refl }

    pub saved_tree : (tree : lazy.Tree) → IsRead plan.number plan.batch.root tree → IsView (image_records now) tree (stored_view (image_records now) (next r) plan.batch.root.at v.map)
    saved_tree tree read = subst (λ (n : ℕ). IsView (image_records now) tree (stored_view (image_records now) n plan.batch.root.at v.map)) coming.number
        (read (image_records now) v.map spelled_now.0
        (record {
          part = spelled_now.1;
          kind = ap (λ (root : Ref). root.kind) is.root;
          name = ap (λ (root : Ref). root.name) is.root;
        })
        view_is.lawful view_is.narrow)

    abbrev committed_here : Record
    committed_here = commit_of v from (fields_of r work.parents info branch) store.slot.end

    commit_here : image_records now (commit_place v (first_parent at) store.slot.end) ≡ Some committed_here
    commit_here = found_here store' b q now (commit_place v (first_parent at) store.slot.end, committed_here)
        (subst (λ (rs : Records). Has rs (commit_place v (first_parent at) store.slot.end, committed_here)) (sym list_on) (has_right held.stands.standing.records all (commit_place v (first_parent at) store.slot.end, committed_here) (batch_commit v from (fields_of r work.parents info branch) store.slot.end)))

    -- which the commit's record reaches
    rooted_now : IsRooted (image_records now) (stored_view (image_records now) (next r) plan.batch.root.at v.map)
    rooted_now = subst (λ (root : Ref). IsRooted (image_records now) (stored_view (image_records now) (next r) root.at v.map)) (sym is.root)
        (rooted_stored (image_records now) (next r) (commit_place v (first_parent at) store.slot.end) _ v.map commit_here refl)

    pub work_after : (work' : Work) → IsRead plan.number plan.batch.root work'.tree → work'.parents ≡ plan.parents → work'.least ≡ Some plan.number → q ≡ made_is
        → IsLawful (image_records now) q work' (stored_view (image_records now) (next r) plan.batch.root.at v.map)
    work_after work' read parents least same = record {
      tree = λ there. saved_tree work'.tree read;
      rooted = λ there. rooted_now;
      short = at.lawful.short;
      parents = subst (λ (p : Repository). AreParents p work'.least work'.parents) (sym same) (after_parents r work.parents branch store plan of coming commit (sym is.name) refl work'.parents (parents ∙ coming.parents) work'.least (least ∙ ap Some coming.number));
      least = least ∙ ap Some (coming.number ∙ twice (next r)) ∙ ap (λ (ns : List ℕ). least_of (stored_view (image_records now) (next r) plan.batch.root.at v.map) ns) (sym (parents ∙ coming.parents));
    }
      where
        twice : (n : ℕ) → n ≡ min n n
        twice n = omega arith

-- ---- answers

still_known : (r : Repository) (v : View) (branch : Bytes) (info : Info) (fault : StoreFault) → IfSome (fault_reply fault) (λ reply. IsViewAfter r v (Command.Commit branch info) reply v)
still_known r v branch info (StoreFault.GivenUp number) = refl
still_known r v branch info (StoreFault.HeadMoved name) = refl
still_known r v branch info (StoreFault.Leaving number) = refl
still_known r v branch info (StoreFault.Existing name) = refl
still_known r v branch info (StoreFault.Limit limit) = refl
still_known r v branch info StoreFault.Memory = refl
still_known r v branch info StoreFault.Ground = tt
still_known r v branch info (StoreFault.Damaged at names) = tt

-- the answer of a refusal
pub answers_refused : (r : Repository) (phase : Phase) (work : Work) (v : View) (branch : Bytes) (info : Info) (fault : StoreFault) (store : Held) (told : Told) → IsAt told store r work v → IsRefusal r phase work v branch info fault
    → IfSome (fault_reply fault) (λ reply. Answers told (session r phase work v) v (Command.Commit branch info) (met_of fault) reply store work)
answers_refused r phase work v branch info fault store told at is = by_reply (fault_reply fault) is (still_known r v branch info fault)
  where
    by_reply : (o : Option Reply) → IfSome o (λ reply. Turns (session r phase work v) (Command.Commit branch info) (met_of fault) reply (session r phase work v))
        → IfSome o (λ reply. IsViewAfter r v (Command.Commit branch info) reply v) → IfSome o (λ reply. Answers told (session r phase work v) v (Command.Commit branch info) (met_of fault) reply store work)
    by_reply None is seen = tt
    by_reply (Some reply) turns seen = record { after = r; view = v; turns = turns; is_at = at; seen = seen }

-- the answer of a commit that was made
pub answers_made : (r : Repository) (work work' : Work) (v v' : View) (branch : Bytes) (info : Info) (store store' : Held) (plan : Plan) (name : Hash) (told : Told) (first : Option View) → IsNext r work.parents branch store plan → IsPlan r work v first branch info store plan
    → name ≡ plan.batch.name → v'.map ≡ v.map → work'.parents ≡ plan.parents → work'.least ≡ Some plan.number → IsAt told store' (with_commit r (new_commit r v.map work.parents info) branch) work' v'
    → IsStored (next r) v.map v' → Answers told (session r (phase_of store.collection) work v) v (Command.Commit branch info) met_nothing (Reply.Committed name) store' work'
answers_made r work work' v v' branch info store store' plan name told first coming is named same parents least at stored =
    let name_is : name ≡ (new_commit r v.map work.parents info).name = named ∙ is.name in
    let after = with_commit r (new_commit r v.map work.parents info) branch in
    let phase = phase_of store.collection in
    record {
      after = after;
      view = v';
      turns = (
        subst (λ h. IsMet (session r phase work v) (Command.Commit branch info) (conditions_of met_nothing) (Reply.Committed h)) (sym name_is) (met_done r phase work v branch info),
        is.turn ∙ (λ i. (Reply.Committed (sym name_is i), record { repository = after; phase = phase; work = record { tree = sym same i; parents = sym (parents ∙ coming.parents) i; least = sym (least ∙ ap Some coming.number) i } })),
      );
      is_at = at;
      seen = stored;
    }
