-- How a collection begins: what stands against it.
--     Below r number rest place      no branch before this place is below the number, and these are the ones from there on
--     below_first, below_next      at the first one, and past one that isn't.      below_found, below_none      at one that is, and past the last
--     place_within      each commit's record lies where it may
--     table_there      the record that is made of the store's branches.      planned      what will be done
use Rattle.std.proofs.Common.{◌≡◌, ℕ, zero, suc, ◌+◌, ◌<◌, ◌≤◌, Bool, true, false, List, [], ◌∷◌, map, length, Option, Some, None, refl, sym, ◌∙◌, ap, subst, arith, cond, Vec}
use Rattle.std.specs.Prelude.{◌-◌, ◌^◌, ◌↔◌, All, IsSomeAnd, Ok, nat_lt, slice_get}
use Rattle.std.specs.Option.{option_map}
use Rattle.std.specs.List.{AllByRecursion, find}
use Rattle.std.proofs.lemmas.List.Elements.{recursion_from_All}
use Rattle.std.specs.declared.alloc.Global.{Global}
use Rattle.std.proofs.lemmas.Bool.Decides.{nat_tests}
use Rattle.ip_spawn.specs.declared.job.Job.{Job}
use Rattle.ip_spawn.specs.Jobs.{IsValid}
use Rattle.ip_spec.specs.declared.record.Record.{Record}
use Rattle.ip_spec.specs.Path.{Bytes}
use Rattle.ip_spec.specs.Record.{spelling}
use Rattle.ip_spec.specs.Repository.{Repository}
use Rattle.ip_spec.specs.Step.{held_branch}
use Rattle.ip_image.specs.declared.slot.Slot.{Slot}
use Rattle.ip_image.specs.Slot.{IsChunkSize}
use Rattle.ip_collects.specs.declared.starting.Start.{Start}
use Rattle.ip_held.specs.Changes.{IsNextSlot}
use Rattle.ip_held.specs.Collecting.{carried}
use Rattle.ip_collects.specs.Starting.{branch_name_at, IsStart}
use Rattle.ip_held.specs.TableRecord.{branch_row, table_of}
use Rattle.ip_held.specs.declared.held.Held.{Held}
use Rattle.ip_held.specs.Held.{IsOf, place_of_commit}
use Rattle.ip_tables.proofs.Keyed.{Pairs, told}

-- ---- the first branch that is below

abbrev is_below : ℕ → Bytes × ℕ → Bool
is_below number e = nat_lt e.1 number

pub record Below (r : Repository) (number : ℕ) (rest : Pairs ℕ) (place : ℕ) : Type 0 where
  pub at : (k : ℕ) → slice_get r.branches.entries (place + k) ≡ slice_get (told rest) k
  pub first : held_branch r number ≡ option_map (λ (e : Bytes × ℕ). e.0) (find (is_below number) (told rest))
  pub few : place + length rest ≤ 4096

told_size : (es : Pairs ℕ) → length (told es) ≡ length es
told_size [] = refl
told_size (e ∷ es) = ap suc (told_size es)

pub below_first : (r : Repository) (store : Held) (number : ℕ) (rest : Pairs ℕ) → IsOf store r → told rest ≡ store.branches.entries → Below r number rest 0
below_first r store number rest of is =
    let all : r.branches.entries ≡ told rest = ap (λ m. m.entries) of.branches ∙ sym is in
    record {
      at = λ k. let here : 0 + k ≡ k = omega arith in ap (slice_get r.branches.entries) here ∙ ap (λ es. slice_get es k) all;
      first = ap (λ es. option_map (λ (e : Bytes × ℕ). e.0) (find (is_below number) es)) all;
      few = (let few = of.retained.few in let size = told_size rest in let same = ap length all in omega (arith, few, size, same));
    }

module _ (r : Repository) (number : ℕ) where
  pub below_next : (e : Vec ℕ Global × ℕ) (es : Pairs ℕ) (place : ℕ) → number ≤ e.1 → Below r number (e ∷ es) place → Below r number es (place + 1)
  below_next e es place from is = record {
    at = λ k. let next : (place + 1) + k ≡ place + suc k = omega arith in ap (slice_get r.branches.entries) next ∙ is.at (suc k);
    first = is.first ∙ ap (λ (b : Bool). option_map (λ (e : Bytes × ℕ). e.0) (cond b (Some (e.0.items, e.1)) (find (is_below number) (told es)))) (not_less e.1 number from);
    few = (let few = is.few in omega (arith, few));
  }
    where
      not_less : (m n : ℕ) → n ≤ m → nat_lt m n ≡ false
      not_less m n le = grind (arith, nat_tests)

  pub below_found : (e : Vec ℕ Global × ℕ) (es : Pairs ℕ) (place : ℕ) → e.1 < number → Below r number (e ∷ es) place → IsSomeAnd (branch_name_at r place) (λ name. held_branch r number ≡ Some name)
  below_found e es place less is =
      let here : place + 0 ≡ place = omega arith in
      let there : slice_get r.branches.entries place ≡ Some (e.0.items, e.1) = ap (slice_get r.branches.entries) (sym here) ∙ is.at 0 in
      subst (λ (o : Option (Bytes × ℕ)). IsSomeAnd (option_map (λ (e : Bytes × ℕ). e.0) o) (λ name. held_branch r number ≡ Some name)) (sym there)
      (is.first ∙ ap (λ (b : Bool). option_map (λ (e : Bytes × ℕ). e.0) (cond b (Some (e.0.items, e.1)) (find (is_below number) (told es)))) (is_less e.1 number less))
    where
      is_less : (m n : ℕ) → m < n → nat_lt m n ≡ true
      is_less m n l = grind (arith, nat_tests)

  pub below_none : (place : ℕ) → Below r number [] place → held_branch r number ≡ None
  below_none place is = is.first

-- ---- what will be done

pub table_there : (r : Repository) (store : Held) → IsOf store r → (x : Record) → x ≡ Record.BranchTable (map branch_row store.branches.entries) → x ≡ table_of r
table_there r store of x is = is ∙ ap (λ m. Record.BranchTable (map branch_row m.entries)) (sym of.branches)

-- each commit's record lies where it may
pub place_within : (P : ℕ → Type 0) (places : List ℕ) (k at : ℕ) → All P places → slice_get places k ≡ Some at → P at
place_within P places k at all is = by places k (recursion_from_All P places all) is
  where
    by : (places : List ℕ) (k : ℕ) → AllByRecursion P places → slice_get places k ≡ Some at → P at
    by [] k all is = absurd (cc (is))
    by (x ∷ xs) zero all is = let here : x ≡ at = cc (is) in subst P here all.0
    by (x ∷ xs) (suc k) all is = by xs k all.1 is

module _ (r : Repository) (store : Held) (number : ℕ) (of : IsOf store r) (bytes : Vec ℕ Global) (spelled : bytes.items ≡ spelling (table_of r)) (place : ℕ) (there : place_of_commit store number ≡ Some place)
    (s : Slot) (length' : ℕ) (whole : length' ≡ length (spelling (table_of r))) (next : IsNextSlot (carried store) length' 0 (Ok s)) (few : store.slot.next_attempt < 2 ^ 62) where
  abbrev end : ℕ
  end = store.slot.end + length (spelling (table_of r))

  behind : IsNextSlot (carried store) (length (spelling (table_of r))) 0 (Ok s)
  behind = subst (λ (k : ℕ). IsNextSlot (carried store) k 0 (Ok s)) whole next

  abbrev job : Job
  job = record { attempt = store.slot.next_attempt; horizon = place; end = s.end; chunk = s.chunk; live = s.live; old_horizon = s.horizon; prefix_len = s.prefix_len; rows = s.rows }

  abbrev start : Start
  start = record { bytes = bytes; slot = record s { next_attempt = s.next_attempt + 1 }; job = job }

  ends : s.end ≡ end
  ends = ap (λ (t : Slot). t.end) behind.0

  within : (store.slot.horizon ≤ place) × (place < store.slot.end)
  within = place_within (λ at. (store.slot.horizon ≤ at) × (at < store.slot.end)) store.places (number - store.slot.floor) place of.within there

  valid : IsValid job
  valid = record {
    chunk = subst (λ (t : Slot). IsChunkSize t.chunk) (sym behind.0) of.slot.chunk;
    attempt = (let live = of.slot.live in omega (arith, live));
    live = subst (λ (t : Slot). t.live < store.slot.next_attempt) (sym behind.0) of.slot.live;
    horizon = subst (λ (t : Slot). t.horizon ≤ place) (sym behind.0) within.0;
    some = (let low = within.1 in let is = ends in omega (arith, low, is));
    most = (let is = ends in let small = behind.1 in omega (arith, is, small));
    served = subst (λ (t : Slot). (t.live ≡ 0) ↔ (t.horizon ≡ 0)) (sym behind.0) of.slot.none_live;
  }

  pub planned : IsStart r store number (record { bytes = bytes; slot = record s { next_attempt = s.next_attempt + 1 }; job = record { attempt = store.slot.next_attempt; horizon = place; end = s.end; chunk = s.chunk; live = s.live; old_horizon = s.horizon; prefix_len = s.prefix_len; rows = s.rows } })
  planned = record {
    bytes = spelled;
    slot = ap (λ (t : Slot). record t { next_attempt = t.next_attempt + 1 }) behind.0;
    job = record {
      of = record {
        valid = valid;
        attempt = (let same = ap (λ (t : Slot). t.next_attempt) behind.0 in omega (arith, same));
        end = omega arith;
        chunk = refl;
        live = refl;
        old_horizon = refl;
        prefix_len = refl;
        rows = refl;
      };
      attempt = refl;
      horizon = there;
      end = refl;
    };
    small = behind.1;
    sequence = behind.2;
    attempt = few;
  }
