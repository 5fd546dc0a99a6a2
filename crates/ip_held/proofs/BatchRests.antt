-- While a collection goes on a commit's batch refers to nothing that goes.
--     low_place      a commit of a greater number lies behind.      rooted_rests      what a view knows stays, where it is of no commit that goes
--     staying      the records that stay.      known_staying, batch_rests      so does what the batch of the view's tree refers to
--     end_reached      where the records of an image end.      follow_on      the core can append records end to end behind others, where what they refer to stays.      lie_ordered      such records lie in order
use Rattle.std.proofs.Common.{◌≡◌, ◌≢◌, ◌⊎◌, inl, inr, ℕ, suc, ◌+◌, ◌<◌, ◌≤◌, List, [], ◌∷◌, ◌++◌, Bool, true, Option, Some, None, length, refl, sym, ◌∙◌, ap, subst, arith, append_assoc, append-nil, length-append}
use Rattle.std.proofs.lemmas.Bool.{cases_lt}
use Rattle.std.proofs.lemmas.List.{map-append}
use Rattle.std.proofs.lemmas.List.Elements.{filter_map-append}
use Rattle.std.proofs.lemmas.List.Sums.{fold-append}
use Rattle.std.specs.List.{AllByRecursion, list_any}
use Rattle.std.specs.Prelude.{Contains, IfSome, filter, nat_le, ◌==◌}
use Rattle.ip_base.specs.declared.limit.TheConstants.{OFFSET_MAX}
use Rattle.ip_ground.specs.Contents.{Image}
use Rattle.ip_spec.specs.declared.event.CoreRecord.{CoreRecord}
use Rattle.ip_spec.specs.declared.record.CommitRecord.{CommitRecord}
use Rattle.ip_spec.specs.declared.record.Record.{Record}
use Rattle.ip_spec.specs.Batch.{CommitFields, AreEndToEnd, KnownStand, Sources, batch, batch_end, whole_part}
use Rattle.ip_spec.specs.Core.{CorePhase, FollowOn, IsKeptSet, IsPresent, Stays, core_record, core_records, end_of, stays}
use Rattle.ip_spec.specs.Record.{references, spelling}
use Rattle.ip_spec.specs.TreeAt.{Records, present}
use Rattle.ip_spec.specs.View.{View}
use Rattle.ip_spec.proofs.BatchLaws.{batch_lies}
use Rattle.ip_spec.proofs.Spelling.{some_bytes}
use Rattle.ip_image.specs.declared.slot.Slot.{Slot}
use Rattle.ip_image.specs.declared.terms.Terms.{Terms}
use Rattle.ip_image.specs.Pending.{HasLive}
use Rattle.ip_image.specs.Standing.{AreGood, Standing, commit_of, commits_in}
use Rattle.ip_image.specs.Virtual.{chunk_byte}
use Rattle.ip_image.specs.Slot.{layout_of}
use Rattle.ip_image.proofs.InChunk.{LiesIn, chunk_lies, lies_in_chunk, lies_above, ends_late}
use Rattle.ip_image.proofs.OneRepository.{zero_or_not}
use Rattle.ip_image.proofs.KeptRuns.{Ordered, ordered_append, ordered_has}
use Rattle.ip_image.proofs.PairLaws.{Has, Rises}
use Rattle.ip_image.proofs.SpelledCommits.{present_behind}
use Rattle.ip_image.proofs.StayingRecords.{In, Cut, cut, good_at, good_both, good_refers, filter_has, filter_ordered, filter_present, has_either, has_in, has_left, has_present, has_right, in_contains, in_from, in_map, any_there, there_any, le_is, le_test, or_cases, or_left, or_right, ordered_rises, part_refers, present_has, refs_of, rises_front, staying_part}
use Rattle.ip_image.proofs.TreeBatch.{TreeBatch, commit_record, ends_apart}
use Rattle.ip_image.proofs.TreeParts.{AreTreeParts, IsTreePart, part_found}
use Rattle.ip_held.specs.Rooted.{IsHeld, IsRooted, IsRootedIn, Leads}
use Rattle.ip_held.specs.Rooted as rooted

-- ---- the numbers of commits ascend with their places

rises_back : (xs ys : Records) → Rises (xs ++ ys) → Rises ys
rises_back [] ys rise = rise
rises_back (x ∷ xs) ys (above, rise) = rises_back xs ys rise

fewer : (xs : Records) (at : ℕ) (c : CommitRecord) (k : Cut xs (at, Record.Commit c)) → length (commits_in k.before) < length (commits_in xs)
fewer xs at c k =
    let whole : length (commits_in xs) ≡ length (commits_in k.before ++ c ∷ commits_in k.after) = ap length (ap commits_in k.is ∙ filter_map-append commit_of k.before ((at, Record.Commit c) ∷ k.after)) in
    let size : length (commits_in k.before ++ c ∷ commits_in k.after) ≡ length (commits_in k.before) + suc (length (commits_in k.after)) = length-append (commits_in k.before) (c ∷ commits_in k.after) in
    omega (arith, whole, size)

module _ (s : Slot) (records : Records) (rise : Rises records) (good : AreGood s [] records) where
  number_is : (at : ℕ) (c : CommitRecord) (k : Cut records (at, Record.Commit c)) → c.number ≡ s.floor + length (commits_in k.before)
  number_is at c k = (good_at s records rise good (at, Record.Commit c) k).fits.number

module _ (s : Slot) (records : Records) (rise : Rises records) (good : AreGood s [] records) where
  less_number : (x y : ℕ) (c d : CommitRecord) → Has records (x, Record.Commit c) → Has records (y, Record.Commit d) → x < y → c.number < d.number
  less_number x y c d here there less = by (has_either k.before ((y, Record.Commit d) ∷ k.after) (x, Record.Commit c) (subst (λ (rs : Records). Has rs (x, Record.Commit c)) k.is here))
    where
      k : Cut records (y, Record.Commit d)
      k = cut records (y, Record.Commit d) there

      by : Has k.before (x, Record.Commit c) ⊎ Has ((y, Record.Commit d) ∷ k.after) (x, Record.Commit c) → c.number < d.number
      by (inl low) =
          let j = cut k.before (x, Record.Commit c) low in
          let first = number_is s k.before (rises_front k.before ((y, Record.Commit d) ∷ k.after) (subst Rises k.is rise)) (good_both s [] k.before ((y, Record.Commit d) ∷ k.after) (subst (AreGood s []) k.is good)).0 x c j in
          let second = number_is s records rise good y d k in
          let few = fewer k.before x c j in
          omega (arith, first, second, few)
      by (inr (inl same)) = let one : y ≡ x = ap (λ (z : ℕ × Record). z.0) same in absurd (omega (arith, one, less))
      by (inr (inr behind)) = let above = (rises_back k.before ((y, Record.Commit d) ∷ k.after) (subst Rises k.is rise)).0 (x, Record.Commit c) behind in absurd (omega (arith, above, less))

  pub low_place : (x y : ℕ) (c d : CommitRecord) → present records x ≡ Some (Record.Commit c) → present records y ≡ Some (Record.Commit d) → d.number ≤ c.number → y ≤ x
  low_place x y c d here there le = elim (cases_lt x y) [
    | inl less ↦ let number = less_number x y c d (present_has records x (Record.Commit c) here) (present_has records y (Record.Commit d) there) less in absurd (omega (arith, number, le))
    | inr from ↦ from
  ]

-- ---- what stays

module _ (records : Records) (h : ℕ) (kept : List ℕ) where
  abbrev pub Rests : ℕ → Type 0
  Rests at = (h ≤ at) ⊎ Contains kept at

  abbrev test : ℕ × Record → Bool
  test x = stays h kept (core_record x)

  rests_test : (x : ℕ × Record) → Rests x.0 → test x ≡ true
  rests_test x (inl high) = or_left (nat_le h x.0) (list_any (λ at. at == x.0) kept) (le_test h x.0 high)
  rests_test x (inr k) = or_right (nat_le h x.0) (list_any (λ at. at == x.0) kept) (any_there kept x.0 (in_from kept x.0 k))

  test_rests : (x : ℕ × Record) → test x ≡ true → Rests x.0
  test_rests x e = by (or_cases (nat_le h x.0) (list_any (λ at. at == x.0) kept) e)
    where
      by : (nat_le h x.0 ≡ true) ⊎ (list_any (λ at. at == x.0) kept ≡ true) → Rests x.0
      by (inl is) = inl (le_is h x.0 is)
      by (inr any) = inr (in_contains kept x.0 (there_any kept x.0 any))

  abbrev pub staying : Records
  staying = filter test records

  module _ (set : IsKeptSet (core_records records) h kept) where
    core_in : (at : ℕ) (r : Record) → present records at ≡ Some r → Contains (core_records records) (core_record (at, r))
    core_in at r is = in_contains (core_records records) (core_record (at, r)) (in_map core_record records (at, r) (has_in records (at, r) (present_has records at r is)))

    rests_closed : (at : ℕ) (r : Record) (b : ℕ) → Rests at → present records at ≡ Some r → In (refs_of r) b → Rests b
    rests_closed at r b (inl high) is ref = set.above (core_record (at, r)) b (core_in at r is) high (in_contains (refs_of r) b ref)
    rests_closed at r b (inr k) is ref = inr (set.closed (core_record (at, r)) b (core_in at r is) k (in_contains (refs_of r) b ref))

    rests_led : (from at : ℕ) → h ≤ from → Leads (present records) from at → Rests at
    rests_led from _ low rooted.Leads.itself = inl low
    rests_led from _ low (rooted.Leads.by_ref mid x ref behind here refers) =
        rests_closed mid x ref.at (rests_led from mid low behind) here (in_map (λ ref. ref.at) (references x) ref (in_from (references x) ref refers))

    pub rooted_rests : (s : Slot) → Rises records → AreGood s [] records → (c : CommitRecord) → present records h ≡ Some (Record.Commit c) → (v : View) → IfSome v.oldest (λ n. c.number ≤ n) → IsRooted (present records) v → IsRootedIn Rests v
    rooted_rests s rise good c here v least is part at known = by v.oldest least (is part at known)
      where
        by : (o : Option ℕ) → IfSome o (λ n. c.number ≤ n) → IsHeld (present records) o at → Rests at
        by None low held = absurd held
        by (Some n) low (from, d, there, le, leads) = rests_led from at (low_place s records rise good from h d c there here (omega (arith, low, le))) leads

    -- ---- the batch

    module _ (rise : Rises records) (end : ℕ) (v : View) (known : KnownStand (present records) v end) (rooted : IsRootedIn Rests v) where
      there_staying : (at : ℕ) (r : Record) → Rests at → present records at ≡ Some r → present staying at ≡ Some r
      there_staying at r rests is = filter_present test records at r rise is (rests_test (at, r) rests)

      pub known_staying : KnownStand (present staying) v end
      known_staying = record {
        below = λ at r is. known.below at r (has_present records (at, r) rise (filter_has test records (at, r) (present_has staying at r is)).0);
        bytes = λ p at b is here. there_staying at (Record.Contents b) (rooted (whole_part p) at is) (known.bytes p at b is here);
        parts = λ p indexes at is directory. staying_part (present records) (present staying) Rests there_staying rests_closed (rooted (record { path = p; indexes = indexes }) at is) (known.parts p indexes at is directory);
      }

pub lie_ordered : (from : ℕ) (xs : Records) (to : ℕ) → AreEndToEnd from xs to → Ordered from xs to
lie_ordered from [] to lie = omega (arith, lie)
lie_ordered from (x ∷ xs) to lie = (
  (let at = lie.0 in omega (arith, at)),
  some_bytes x.1,
  subst (λ (n : ℕ). Ordered (n + length (spelling x.1)) xs to) (sym lie.0) (lie_ordered (from + length (spelling x.1)) xs to lie.1),
)

-- over the records that stay the batch is the same, so all that it refers to is among them or in itself
module _ (records : Records) (h : ℕ) (kept : List ℕ) (end : ℕ) (order : Ordered 0 records end) (above : h ≤ end) (terms : Terms) (v : View) (from : Sources) (f : CommitFields) (B : TreeBatch terms v from f end (staying records h kept)) where
  abbrev old : Records
  old = staying records h kept

  abbrev J : ℕ → Option Record
  J = present (old ++ B.parts)

  abbrev ends : Records
  ends = (B.commit_at, Record.Commit (commit_record v.map f B.root)) ∷ (B.branch_at, Record.BranchSet f.number f.branch) ∷ []

  lies : Ordered end (B.parts ++ ends) (batch_end v from f end)
  lies = subst (λ (xs : Records). Ordered end xs (batch_end v from f end)) B.is (lie_ordered end (batch v from f end) (batch_end v from f end) (batch_lies v from f end))

  all_rise : Rises (old ++ B.parts)
  all_rise = rises_front (old ++ B.parts) ends (subst Rises (sym (append_assoc old B.parts ends))
      (ordered_rises 0 (old ++ (B.parts ++ ends)) (batch_end v from f end) (ordered_append 0 old (B.parts ++ ends) end (batch_end v from f end) (filter_ordered (test records h kept) 0 records end order) lies)))

  found_rests : (at : ℕ) (r : Record) → J at ≡ Some r → Rests records h kept at
  found_rests at r is = by (has_either old B.parts (at, r) (present_has (old ++ B.parts) at r is))
    where
      by : Has old (at, r) ⊎ Has B.parts (at, r) → Rests records h kept at
      by (inl low) = test_rests records h kept (at, r) (filter_has (test records h kept) records (at, r) low).1
      by (inr high) = let low = (ordered_has end (B.parts ++ ends) (batch_end v from f end) (at, r) lies (has_left B.parts ends (at, r) high)).0 in inl (omega (arith, above, low))

  one_rests : (at : ℕ) (r : Record) → Has B.parts (at, r) → IsTreePart J at r → (b : ℕ) → In (refs_of r) b → Rests records h kept b
  one_rests at (Record.Contents bytes) has part b ref = absurd ref
  one_rests at (Record.Leaf fields) has (depth, es, part, together, few) b ref =
      let l = part_refers J (Record.Leaf fields) b part (has_present (old ++ B.parts) (at, Record.Leaf fields) all_rise (has_right old B.parts (at, Record.Leaf fields) has)) ref in found_rests b l.to l.there
  one_rests at (Record.Inode d children) has (depth, es, part, together, few) b ref =
      let l = part_refers J (Record.Inode d children) b part (has_present (old ++ B.parts) (at, Record.Inode d children) all_rise (has_right old B.parts (at, Record.Inode d children) has)) ref in found_rests b l.to l.there
  one_rests at _ has part b ref = absurd part

  parts_rest : (xs : Records) → ((x : ℕ × Record) → Has xs x → Has B.parts x) → AreTreeParts J xs → (x : ℕ × Record) → Has xs x → (b : ℕ) → In (refs_of x.1) b → Rests records h kept b
  parts_rest [] more are x has b ref = absurd has
  parts_rest (y ∷ xs) more are x (inl same) b ref = one_rests x.0 x.1 (more x (inl same)) (subst (λ (z : ℕ × Record). IsTreePart J z.0 z.1) same are.0) b ref
  parts_rest (y ∷ xs) more are x (inr has) b ref = parts_rest xs (λ z there. more z (inr there)) are.1 x has b ref

  root_rests : (b : ℕ) → In (B.root ∷ []) b → Rests records h kept b
  root_rests b (inl same) = let found = part_found J B.spelled.1 in subst (Rests records h kept) same (found_rests B.root found.0 found.1)
  root_rests b (inr none) = absurd none

  pub batch_rests : (x : ℕ × Record) → Has (batch v from f end) x → (b : ℕ) → In (refs_of x.1) b → Rests records h kept b
  batch_rests x has b ref = by (has_either B.parts ends x (subst (λ (xs : Records). Has xs x) B.is has))
    where
      by : Has B.parts x ⊎ Has ends x → Rests records h kept b
      by (inl part) = parts_rest B.parts (λ z there. there) B.are_parts x part b ref
      by (inr (inl same)) = root_rests b (subst (λ (z : ℕ × Record). In (refs_of z.1) b) (sym same) ref)
      by (inr (inr (inl same))) = absurd (subst (λ (z : ℕ × Record). In (refs_of z.1) b) (sym same) ref)
      by (inr (inr (inr none))) = absurd none

-- ---- where records end

end_push : (xs : Records) (x : ℕ × Record) → end_of (core_records (xs ++ x ∷ [])) ≡ x.0 + length (spelling x.1)
end_push xs x = ap end_of (map-append core_record xs (x ∷ [])) ∙ fold-append (λ n (r : CoreRecord). r.at + r.length) 0 (core_records xs) (core_record x ∷ [])

ends_behind : (pre xs : Records) (from to : ℕ) → end_of (core_records pre) ≡ from → AreEndToEnd from xs to → end_of (core_records (pre ++ xs)) ≡ to
ends_behind pre [] from to e lie = ap (λ (rs : Records). end_of (core_records rs)) (append-nil pre) ∙ e ∙ lie
ends_behind pre (x ∷ xs) from to e lie = ap (λ (rs : Records). end_of (core_records rs)) (sym (append_assoc pre (x ∷ []) xs))
    ∙ ends_behind (pre ++ x ∷ []) xs (from + length (spelling x.1)) to (end_push pre x ∙ ap (λ (n : ℕ). n + length (spelling x.1)) lie.0) lie.1

ends_some : (pre xs : Records) (from to : ℕ) → from < to → AreEndToEnd from xs to → end_of (core_records (pre ++ xs)) ≡ to
ends_some pre [] from to some lie = absurd (omega (arith, some, lie))
ends_some pre (x ∷ xs) from to some lie = ap (λ (rs : Records). end_of (core_records rs)) (sym (append_assoc pre (x ∷ []) xs))
    ∙ ends_behind (pre ++ x ∷ []) xs (from + length (spelling x.1)) to (end_push pre x ∙ ap (λ (n : ℕ). n + length (spelling x.1)) lie.0) lie.1

-- above a live generation something lies, and where none is live all lies in the chunks
pub end_reached : (image : Image) (s : Slot) → HasLive s image → (A : Standing image) → end_of (core_records A.records) ≡ s.end
end_reached image s live A = by (zero_or_not s.live)
  where
    lies : LiesIn (layout_of s) image A.records
    lies = chunk_lies image s live A

    by : (s.live ≡ 0) ⊎ (s.live ≢ 0) → end_of (core_records A.records) ≡ s.end
    by (inl none) = ends_behind [] A.records 0 s.end refl (ends_apart (chunk_byte s.chunk image) 0 A.records s.end (lies_in_chunk (layout_of s) image A.records none (live.live.fields.none_live.0 none) lies))
    by (inr some) = ap (λ (rs : Records). end_of (core_records rs)) lies.is
        ∙ ends_some lies.kept lies.later s.horizon s.end (lies_above image (layout_of s) live.live.fields.horizon A.records lies some) (ends_apart (chunk_byte s.chunk image) s.horizon lies.later s.end lies.lies)

-- ---- what the core can append

each_in : {X : Type 0} (P : X → Type 0) (xs : List X) → ((x : X) → In xs x → P x) → AllByRecursion P xs
each_in P [] each = tt
each_in P (x ∷ xs) each = (each x (inl refl), each_in P xs (λ y has. each y (inr has)))

module _ (s : Slot) (all : Records) (rise : Rises all) (good : AreGood s [] all) (phase : CorePhase) where
  found_front : (old new : Records) (x : ℕ × Record) (end to b : ℕ) (r : Record) → old ++ x ∷ new ≡ all → AreEndToEnd end (x ∷ new) to → b < x.0 → present all b ≡ Some r → IsPresent (core_records old) b
  found_front old new x end to b r whole lie below there = by (present old b) refl
    where
      by : (o : Option Record) → present old b ≡ o → IsPresent (core_records old) b
      by (Some q) e = (core_record (b, q), in_contains (core_records old) (core_record (b, q)) (in_map core_record old (b, q) (has_in old (b, q) (present_has old b q e))), refl)
      by None e =
          let low = (ordered_has end (x ∷ new) to (b, r) (lie_ordered end (x ∷ new) to lie) (present_has (x ∷ new) b r (sym (present_behind old (x ∷ new) b e) ∙ subst (λ (rs : Records). present rs b ≡ Some r) (sym whole) there))).0 in
          let at = lie.0 in
          absurd (omega (arith, low, below, at))

  pub follow_on : (old new : Records) (end to : ℕ) → old ++ new ≡ all → end_of (core_records old) ≡ end → AreEndToEnd end new to → to ≤ OFFSET_MAX → ((x : ℕ × Record) → Has new x → (b : ℕ) → In (refs_of x.1) b → Stays phase b)
      → FollowOn (core_records old) phase (core_records new)
  follow_on old [] end to whole ends lie small rests = tt
  follow_on old (x ∷ new) end to whole ends lie small rests = (
    record {
      at = lie.0 ∙ sym ends;
      some = some_bytes x.1;
      room = (let later = ends_late (end + length (spelling x.1)) new to lie.1 in let at = lie.0 in omega (arith, later, at, small));
      refs = each_in (λ b. (b < x.0) × IsPresent (core_records old) b × Stays phase b) (refs_of x.1) (λ b ref. (
          let l = good_refers s all rise good x (subst (λ (rs : Records). Has rs x) whole (has_right old (x ∷ new) x (inl refl))) b ref in
          (l.below, found_front old new x end to b l.to whole lie l.below l.there, rests x (inl refl) b ref)
          ));
    },
    subst (λ (cs : List CoreRecord). FollowOn cs phase (core_records new)) (map-append core_record old (x ∷ []))
        (follow_on (old ++ x ∷ []) new (end + length (spelling x.1)) to (append_assoc old (x ∷ []) new ∙ whole) (end_push old x ∙ ap (λ (n : ℕ). n + length (spelling x.1)) lie.0) lie.1 small (λ y has b ref. rests y (inr has) b ref)),
  )
