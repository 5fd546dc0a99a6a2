-- The records below the end of a job, where one begins there or it is the end of all.
--     standing_until      they are those of the space that ends there
use Rattle.std.proofs.Common.{◌≡◌, ◌⊎◌, inl, inr, ℕ, ◌+◌, ◌-◌, ◌<◌, ◌≤◌, List, [], ◌∷◌, ◌++◌, Option, Some, None, true, length, map, refl, sym, ◌∙◌, ap, subst, arith, append_assoc, append-nil}
use Rattle.std.proofs.lemmas.Bool.{false≢true}
use Rattle.std.proofs.lemmas.Bool.Decides.{nat_tests}
use Rattle.std.specs.List.{AllByRecursion}
use Rattle.std.specs.Prelude.{IsSome, is_some, nat_lt}
use Rattle.ip_ground.specs.Contents.{Image}
use Rattle.ip_spec.specs.declared.record.Record.{Record}
use Rattle.ip_spec.specs.Core.{core_of, CorePhase, IsClosed}
use Rattle.ip_spec.specs.Record.{Fits}
use Rattle.ip_spec.specs.TreeAt.{Records, present}
use Rattle.ip_image.specs.declared.layout.Layout.{Layout}
use Rattle.ip_image.specs.declared.run.Run.{Run}
use Rattle.ip_image.specs.Slot.{newest_version, layout_of}
use Rattle.ip_image.specs.Virtual.{run_of, virtual_byte}
use Rattle.ip_image.specs.Standing.{EndToEnd, RunByRun, AreGood, Standing}
use Rattle.ip_image.proofs.CoreTies.{image_rises, records_closed}
use Rattle.ip_image.proofs.KeptRuns.{Ordered, ordered_append, ordered_has}
use Rattle.ip_image.proofs.OneRepository.{fit_front}
use Rattle.ip_image.proofs.PairLaws.{Has}
use Rattle.ip_image.proofs.StayingRecords.{filter_all, filter_present, good_both, has_either, ordered_rises, present_has}
use Rattle.ip_image.proofs.Stretches.{LastRun, ends_cut, ends_ordered, join_run, last_run, runs_ordered}
use Rattle.ip_space.specs.SpaceView.{SpaceView, grown}
use Rattle.ip_keep.specs.Whole.{AreRecords}
use Rattle.ip_keep.proofs.Standings.{standing_whole}
use Rattle.ip_held.specs.Collecting.{until}
use Rattle.ip_held.proofs.CollectsOn.{until_more}

-- records end to end, parted at an offset
record Parts (f : ℕ → Option ℕ) (from : ℕ) (xs : Records) (to e : ℕ) : Type 0 where
  before : Records
  after : Records
  is : xs ≡ before ++ after
  first : EndToEnd f from before e
  second : EndToEnd f e after to

parts_all : (f : ℕ → Option ℕ) (from : ℕ) (xs : Records) (to e : ℕ) → e ≡ to → EndToEnd f from xs to → Parts f from xs to e
parts_all f from xs to e all ends = record { before = xs; after = []; is = sym (append-nil xs); first = subst (λ (n : ℕ). EndToEnd f from xs n) (sym all) ends; second = all }

parts_at : (f : ℕ → Option ℕ) (from : ℕ) (xs : Records) (to e : ℕ) (x : Record) → EndToEnd f from xs to → Has xs (e, x) → Parts f from xs to e
parts_at f from xs to e x ends has = let c = ends_cut f from xs to (e, x) ends has in record { before = c.before; after = (e, x) ∷ c.after; is = c.is; first = c.first; second = c.second }

below_is : (m n : ℕ) → m < n → nat_lt m n ≡ true
below_is m n l = grind (arith, nat_tests)

until_parted : (e : ℕ) (front back : Records) (to : ℕ) → Ordered 0 front e → Ordered e back to → until e (front ++ back) ≡ front
until_parted e front back to low high = until_more e front back (λ y has. (ordered_has e back to y high has).0)
    ∙ filter_all (λ (x : ℕ × Record). nat_lt x.0 e) front (λ y has. let (from, up, some) = ordered_has 0 front e y low has in below_is y.0 e (omega (arith, up, some)))

-- the records fill these runs, and what lies behind them
abbrev Filled : Image → Layout → List Run → Records → Type 0
Filled image l runs records = RunByRun (virtual_byte image l runs) (runs ++ record { at = l.horizon; length = l.end - l.horizon } ∷ []) records

module _ (image : Image) (standing : Standing image) (space : SpaceView) (h e : ℕ) (layout : space.layout ≡ layout_of standing.slot) (runs : space.runs ≡ map run_of standing.rows)
    (above : standing.slot.horizon ≤ h) (below : h < e) (ends : e ≤ standing.slot.end) (here : IsSome (present standing.records h)) (border : (e ≡ standing.slot.end) ⊎ IsSome (present standing.records e)) where
  abbrev f : ℕ → Option ℕ
  f = virtual_byte image (layout_of standing.slot) (map run_of standing.rows)

  last : LastRun f (map run_of standing.rows) (record { at = standing.slot.horizon; length = standing.slot.end - standing.slot.horizon }) standing.records
  last = last_run f (map run_of standing.rows) (record { at = standing.slot.horizon; length = standing.slot.end - standing.slot.horizon }) standing.records standing.whole

  low : Ordered 0 last.front standing.slot.horizon
  low = runs_ordered f standing.slot.horizon 0 0 0 standing.rows last.front standing.generation.fits (omega arith) (omega arith) last.runs_hold

  high : EndToEnd f standing.slot.horizon last.back standing.slot.end
  high = subst (λ (n : ℕ). EndToEnd f standing.slot.horizon last.back n) (omega (arith, above, below, ends)) last.ends

  parts : Parts f standing.slot.horizon last.back standing.slot.end e
  parts = elim border [
    | inl all ↦ parts_all f standing.slot.horizon last.back standing.slot.end e all high
    | inr some ↦ by (present standing.records e) refl some
  ]
    where
      pick : (x : Record) → Has last.front (e, x) ⊎ Has last.back (e, x) → Parts f standing.slot.horizon last.back standing.slot.end e
      pick x (inl under) = let (from, up, some) = ordered_has 0 last.front standing.slot.horizon (e, x) low under in absurd (omega (arith, above, below, up))
      pick x (inr over) = parts_at f standing.slot.horizon last.back standing.slot.end e x high over

      by : (o : Option Record) → present standing.records e ≡ o → IsSome o → Parts f standing.slot.horizon last.back standing.slot.end e
      by None is some = absurd (false≢true some)
      by (Some x) is some = pick x (has_either last.front last.back (e, x) (subst (λ (rs : Records). Has rs (e, x)) last.is (present_has standing.records e x is)))

  abbrev front : Records
  front = last.front ++ parts.before

  ordered : Ordered 0 front e
  ordered = ordered_append 0 last.front parts.before standing.slot.horizon e low (ends_ordered f standing.slot.horizon parts.before e parts.first)

  parted : standing.records ≡ front ++ parts.after
  parted = last.is ∙ ap (λ (rs : Records). last.front ++ rs) parts.is ∙ sym (append_assoc last.front parts.before parts.after)

  until_is : until e standing.records ≡ front
  until_is = ap (until e) parted ∙ until_parted e front parts.after standing.slot.end ordered (ends_ordered f e parts.after standing.slot.end parts.second)

  good : AreGood standing.slot [] front
  good = (good_both standing.slot [] front parts.after (subst (AreGood standing.slot []) parted standing.good)).0

  whole : AreRecords image space h standing.records
  whole = standing_whole image standing space h layout runs above (omega (arith, below, ends)) here

  filled : Filled image (record (layout_of standing.slot) { end = e }) (map run_of standing.rows) front
  unfolding virtual_byte
  filled = join_run f (map run_of standing.rows) (record { at = standing.slot.horizon; length = e - standing.slot.horizon }) last.front parts.before last.runs_hold
      (subst (λ (n : ℕ). EndToEnd f standing.slot.horizon parts.before n) (omega (arith, above, below)) parts.first)

  present_until : (o : Option Record) → present standing.records h ≡ o → IsSome o → IsSome (present (until e standing.records) h)
  present_until None is some = absurd (false≢true some)
  present_until (Some x) is some = ap is_some (filter_present (λ (x : ℕ × Record). nat_lt x.0 e) standing.records h x (image_rises image standing) is (below_is h e below))

  pub standing_until : AreRecords image (grown space e) h (until e standing.records)
  standing_until = record {
    rows = whole.rows;
    whole = subst (λ (rs : Records). Filled image (record space.layout { end = e }) space.runs rs) (sym until_is)
        (subst (λ (l : Layout). Filled image (record l { end = e }) space.runs front) (sym layout)
        (subst (λ (rs : List Run). Filled image (record (layout_of standing.slot) { end = e }) rs front) (sym runs) filled));
    bounds = subst (AllByRecursion (λ (x : ℕ × Record). Fits newest_version x.1)) (sym until_is)
        (fit_front newest_version f front parts.after (subst (AllByRecursion (λ (x : ℕ × Record). Fits newest_version x.1)) parted whole.bounds));
    closed = subst (λ (rs : Records). IsClosed (core_of rs space.layout.horizon CorePhase.idle)) (sym until_is) (records_closed standing.slot front (ordered_rises 0 front e ordered) good space.layout.horizon e ordered);
    above = whole.above;
    below = below;
    here = present_until (present standing.records h) refl here;
  }
