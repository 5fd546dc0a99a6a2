-- The calls that fetch and merge the trees, one behind the other.
--     looked_by, looked_reading      a call that only looked.      looked_nothing, looked_on      so of no call and of two.      causes_behind      why a call failed behind it
--     unfetched      a tree could not be fetched.      trees_merged      all were, and were merged or not
use Rattle.std.proofs.Common.{ℕ, Bool, Option, ◌∙◌, subst}
use Rattle.std.specs.Prelude.{Result, Ok, Err, IfErr, IfSome, IsTrue}
use Rattle.ip_ground.specs.Told.{Told}
use Rattle.ip_space.specs.SpaceView.{OnlyReads}
use Rattle.ip_space.proofs.Passing.{reads_nothing, reads_on}
use Rattle.ip_spec.specs.declared.record.Record.{Record}
use Rattle.ip_spec.specs.Merge.{Rule, IsOneAnswer}
use Rattle.ip_spec.specs.Path.{Bytes, Path}
use Rattle.ip_spec.specs.Repository.{Repository, is_retained}
use Rattle.ip_spec.specs.View.{View}
use Rattle.ip_tree.specs.Reads.{IsOver}
use Rattle.ip_tree.specs.TreeView.{IsView}
use Rattle.ip_tree.specs.declared.tree.Tree as lazy
use Rattle.ip_three.specs.Answered.{IsMergeCause, MergesTrees}
use Rattle.ip_three.specs.declared.merge.ThreeFault.{ThreeFault}
use Rattle.ip_held.specs.declared.fault.StoreFault.{StoreFault}
use Rattle.ip_appends.specs.declared.merging.Joined.{Joined}
use Rattle.ip_appends.specs.declared.merging.Sides.{Sides}
use Rattle.ip_held.specs.declared.held.Held.{Held}
use Rattle.ip_held.specs.Causes.{IsStoreCause}
use Rattle.ip_appends.specs.Merging.{IsBaseTree, IsJoin, IsJoined, JoinsTrees, StoreLooks}
use Rattle.ip_held.specs.Collecting.{phase_of}
use Rattle.ip_held.specs.Showing.{IsFetchedOr}
use Rattle.ip_held.specs.Held.{Holds, SameTables, image_records}
use Rattle.ip_held.specs.Trees.{OnlyLooks, IsTreeOf}
use Rattle.ip_appends.proofs.MergeCauses.{stopped_cause}
use Rattle.ip_appends.proofs.JoinedTrees.{joined_of, joined_is}
use Rattle.ip_held.proofs.Causing.{store_causes_on, store_looks}
use Rattle.ip_held.proofs.Listed.{over}
use Rattle.ip_held.proofs.Stepping.{itself, looks}

pub looked_nothing : (tells : Bool) (store : Held) (a : Told) → StoreLooks tells store store a a
looked_nothing tells store a = record { same = itself store; looks = λ told. looks store store (itself store) a a (reads_nothing a store.space) }

pub looked_by : {tells : Bool} {store now : Held} {a b : Told} → SameTables store now → (IsTrue tells → OnlyLooks a b store now) → StoreLooks tells store now a b
looked_by same looks = record { same = same; looks = looks }

-- a call that reads alone
pub looked_reading : {tells : Bool} (store now : Held) (a b : Told) → SameTables store now → (IsTrue tells → OnlyReads a b store.space now.space) → StoreLooks tells store now a b
looked_reading store now a b same reads = record { same = same; looks = λ told. looks store now same a b (reads told) }

pub looked_on : {tells : Bool} {store mid now : Held} {a b c : Told} → StoreLooks tells store mid a b → StoreLooks tells mid now b c → StoreLooks tells store now a c
looked_on {tells = tells} {store = store} {mid = mid} {now = now} {a = a} {b = b} {c = c} first next = record {
  same = record {
    index = next.same.index ∙ first.same.index;
    slot = next.same.slot ∙ first.same.slot;
    names = next.same.names ∙ first.same.names;
    places = next.same.places ∙ first.same.places;
    branches = next.same.branches ∙ first.same.branches;
    history = next.same.history ∙ first.same.history;
    layout = next.same.layout ∙ first.same.layout;
    runs = next.same.runs ∙ first.same.runs;
    collection = next.same.collection ∙ first.same.collection;
    unswept = next.same.unswept ∙ first.same.unswept;
  };
  looks = λ told.
      let one = first.looks told in
      let two = next.looks told in
      record {
        reads = reads_on a b c store.space mid.space now.space one.reads two.reads;
        holds = λ r held. two.holds r (one.holds r held);
        records = λ r held still. two.records r (one.holds r held) still ∙ one.records r held (one.holds r held);
      };
}

-- why a call failed behind it
pub causes_behind : {A : Type 0} {tells : Bool} {store mid : Held} {a b : Told} → StoreLooks tells store mid a b → (res : Result A StoreFault) → IfErr res (IsStoreCause tells b mid.space) → IfErr res (IsStoreCause tells a store.space)
causes_behind {tells = tells} {store = store} {mid = mid} {a = a} {b = b} looked res cause = store_causes_on tells a b store.space mid.space (store_looks tells a b store mid looked.same looked.looks) res cause

fetched_joined : {A : Type 0} (P : A → Type 0) (rule : Rule) (records : ℕ → Option Record) (r : Repository) (sides : Sides) (fault : StoreFault) → IsFetchedOr P (Err fault) → IsJoined rule records r sides (Err fault)
fetched_joined P rule records r sides StoreFault.Ground is = tt
fetched_joined P rule records r sides StoreFault.Memory is = tt
fetched_joined P rule records r sides (StoreFault.Limit limit) is = absurd is
fetched_joined P rule records r sides _ is = absurd is

module _ (tells : Bool) (rule : Rule) (sides : Sides) where
  -- behind calls that only looked
  pub unfetched : {A : Type 0} {store mid now : Held} {a b c : Told} (Need : Repository → Type 0) (P : (r : Repository) → Holds mid b r → A → Type 0) → ((r : Repository) (branch : Bytes) → IsJoin r (phase_of store.collection) branch sides → Need r) → StoreLooks tells store mid a b → StoreLooks tells mid now b c → (fault : StoreFault)
      → (IsTrue tells → (r : Repository) (held : Holds mid b r) → Need r → IsFetchedOr (P r held) (Err fault)) → IsStoreCause tells b mid.space fault → JoinsTrees tells rule sides (Err fault) store now a c
  unfetched Need P need first next fault fetched cause = record {
    joins = λ told decides r branch held is. let here = (first.looks told).holds r held in fetched_joined (P r here) rule (image_records held) r sides fault (fetched told r here (need r branch is));
    looked = looked_on first next;
    causes = causes_behind {A = Joined} first (Err fault) cause;
  }

  pub trees_merged : {store first second third now : Held} {a b c d e : Told} → StoreLooks tells store first a b → StoreLooks tells first second b c → StoreLooks tells second third c d → StoreLooks tells third now d e → (base left right : lazy.Tree)
      → (IsTrue tells → (r : Repository) (held : Holds store a r) → IfSome sides.base (λ n. IsTrue (is_retained r n)) → IsBaseTree (image_records held) r sides.base base)
      → (IsTrue tells → (r : Repository) (held : Holds first b r) → IsTrue (is_retained r sides.head) → IsTreeOf (image_records held) r sides.head left)
      → (IsTrue tells → (r : Repository) (held : Holds second c r) → IsTrue (is_retained r sides.number) → IsTreeOf (image_records held) r sides.number right) → (result : Result lazy.Tree ThreeFault)
      → (IsTrue tells → (there : ℕ → Option Record) (v w x : View) → IsOver d third.space there → IsView there base v → IsView there left w → IsView there right x → ((p : Path) → IsOneAnswer (rule p)) → MergesTrees there rule v w x result) → IfErr result (IsMergeCause tells d third.space)
      → JoinsTrees tells rule sides (joined_of result) store now a e
  trees_merged {store = store} {third = third} {d = d} one two three last base left right base_is left_is right_is result merges cause = record {
    joins = λ told decides r branch held is.
        let held_first = (one.looks told).holds r held in
        let held_second = (two.looks told).holds r held_first in
        let held_third = (three.looks told).holds r held_second in
        let same_first = (one.looks told).records r held held_first in
        let same_second = (two.looks told).records r held_first held_second ∙ same_first in
        let same_third = (three.looks told).records r held_second held_third ∙ same_second in
        joined_is rule decides (image_records held) r sides base left right (base_is told r held is.base_retained)
        (subst (λ (there : ℕ → Option Record). IsTreeOf there r sides.head left) same_first (left_is told r held_first is.head_retained))
        (subst (λ (there : ℕ → Option Record). IsTreeOf there r sides.number right) same_second (right_is told r held_second is.number_retained))
        result (λ v w x. merges told (image_records held) v w x (subst (IsOver d third.space) same_third (over third d r held_third)));
    looked = looked_on (looked_on (looked_on one two) three) last;
    causes = causes_behind (looked_on (looked_on one two) three) (joined_of result) (stopped result cause);
  }
    where
      stopped : (result : Result lazy.Tree ThreeFault) → IfErr result (IsMergeCause tells d third.space) → IfErr (joined_of result) (IsStoreCause tells d third.space)
      stopped (Ok tree) cause = tt
      stopped (Err fault) cause = stopped_cause tells d third.space fault cause
