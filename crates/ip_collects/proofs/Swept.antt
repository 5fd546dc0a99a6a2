-- Files that are removed one after another.
--     foreign_still, foreign_on      whose a file is stays while no attempt is lent or settled
--     was_removed, not_removed      one file that was removed, and of which the removal failed.      sweeps_on      some files, and then others
--     attempt_swept      the files of an attempt.      next_swept, all_swept      of one attempt more, and up to where they go
--     store_swept      chunks, and then the files of attempts
use Rattle.std.proofs.Common.{◌≡◌, ◌≢◌, ◌⊎◌, inl, inr, ℕ, ◌+◌, ◌-◌, ◌/◌, ◌<◌, ◌≤◌, List, [], ◌∷◌, ◌++◌, map, None, refl, sym, ◌∙◌, ap, subst, arith, length-append}
use Rattle.std.specs.Prelude.{◌^◌, min, Ok, Err, Contains}
use Rattle.std.proofs.lemmas.List.{length-map, get_or-map}
use Rattle.std.proofs.lemmas.List.Elements.{Contains-append_left, Contains-append_right, Contains-push}
use Rattle.std.proofs.lemmas.Bool.{cases_lt, cases_eq}
use Rattle.ip_ground.specs.declared.names.FileName.{FileName}
use Rattle.ip_ground.specs.declared.names.FileName.TheVariants.{Control, Chunk, Prefix, Mapping, Done}
use Rattle.ip_ground.specs.declared.names.GroundFault.{GroundFault}
use Rattle.ip_ground.specs.Calls.{Removes}
use Rattle.ip_ground.specs.Custody as custody
use Rattle.ip_ground.specs.Custody.{IsOfAttempt}
use Rattle.ip_ground.specs.Told.{Told, IsForeign, KeepsPast, KeepsCustody, Only}
use Rattle.ip_ground.proofs.Spans.{only_more, only_on}
use Rattle.ip_chunks.specs.Places.{IsChunkNumbered}
use Rattle.ip_image.specs.Virtual.{chunk_of}
use Rattle.ip_publish.specs.Publishing.{IsOfStore}
use Rattle.ip_chunks.specs.Effects.{Sweeps}
use Rattle.ip_image.specs.declared.slot.Slot.{Slot}
use Rattle.ip_held.specs.declared.collection.Unswept.{Unswept}
use Rattle.ip_held.specs.Sweeping.{IsSwept, IsSweptOf, IsSweptFrom, AllBut, StaysOrGoes, SweepsFiles}
use Rattle.ip_held.proofs.KeptFiles.{custody_still, stays_goes, goes_both, each_removed, one_attempt}

pub foreign_still : (a b : Told) → KeepsPast a b → ((attempt : ℕ) → KeepsCustody a b attempt) → (file : FileName) → IsForeign b file → IsForeign a file
foreign_still a b goes stays file foreign = subst custody.IsForeign (custody_still a b goes stays file) foreign

pub foreign_on : (a b : Told) → KeepsPast a b → ((attempt : ℕ) → KeepsCustody a b attempt) → (file : FileName) → IsForeign a file → IsForeign b file
foreign_on a b goes stays file foreign = subst custody.IsForeign (sym (custody_still a b goes stays file)) foreign

-- a sum of two counts that stays at its last value
abbrev pub IsSum : ℕ → ℕ → ℕ → Type 0
IsSum l m n = n ≡ min (l + m) (2 ^ 64 - 1)

few_left : (l m n : ℕ) → IsSum l m n → n < 2 ^ 64 - 1 → n ≡ l + m
few_left l m n is few = omega (arith, is, few)

-- where none is left
none_but : (these : FileName → Type 0) (n : ℕ) (a b : Told) → AllBut these n a b → n ≡ 0 → (file : FileName) → these file → ¬ IsForeign a file → b.held file ≡ None
none_but these n a b all zero file here own = elim ((all (omega (arith, zero))).2 file here own) [
  | inl gone ↦ gone
  | inr one ↦ (let few = (all (omega (arith, zero))).1 in absurd (omega (arith, few, zero, one.1)))
]

-- one file, of which the removal was made
pub was_removed : (one : FileName) (u : Unit {0}) (a b : Told) → Removes one (Ok u) a b → SweepsFiles (Only one) 0 a b
was_removed one u a b removes = record {
  only = removes.only;
  gone = λ zero file is own. gone file is own;
  all_but = λ few. ([], omega arith, λ file is own. inl (gone file is own));
  each = each_removed one (Ok u) a b removes;
}
  where
    gone : (file : FileName) → Only one file → ¬ IsForeign a file → b.held file ≡ None
    gone file is own = subst (λ (f : FileName). b.held f ≡ None) (sym is) (removes.ok (subst (λ (f : FileName). ¬ IsForeign a f) is own))

-- and of which it failed
pub not_removed : (one : FileName) (e : GroundFault) (a b : Told) → Removes one (Err e) a b → SweepsFiles (Only one) 1 a b
not_removed one e a b removes = record {
  only = removes.only;
  gone = λ zero. absurd (omega (arith, zero));
  all_but = λ few. (one ∷ [], omega arith, λ file is own. inr (subst (Contains (one ∷ [])) (sym is) (Contains-push [] one)));
  each = each_removed one (Err e) a b removes;
}

-- each file is one of the later ones, or is one of the first and not of those
pub sweeps_on : (these those all : FileName → Type 0) (l m n : ℕ) (a b c : Told) → ((file : FileName) → these file → all file) → ((file : FileName) → those file → all file)
    → ((file : FileName) → all file → those file ⊎ (these file × (¬ those file))) → IsSum l m n → SweepsFiles these l a b → SweepsFiles those m b c → SweepsFiles all n a c
sweeps_on these those all l m n a b c front back parts sum first then = record {
  only = only_on a b c all (only_more a b these all front first.only) (only_more b c those all back then.only);
  gone = none_but all n a c left;
  all_but = left;
  each = λ file. goes_both a b c file first.only.goes then.only.goes (custody_still a b first.only.goes first.only.lending file) (first.each file) (then.each file);
}
  where
    ours : (file : FileName) → ¬ IsForeign a file → ¬ IsForeign b file
    ours file own foreign = own (foreign_still a b first.only.goes first.only.lending file foreign)

    left : AllBut all n a c
    left few =
        let both = few_left l m n sum few in
        let one = first.all_but (omega (arith, few, both)) in
        let other = then.all_but (omega (arith, few, both)) in (
          one.0 ++ other.0,
          omega (arith, both, one.1, other.1, length-append one.0 other.0),
          λ file here own. elim (parts file here) [
            | inl last ↦ elim (other.2 file last (ours file own)) [ inl gone ↦ inl gone | inr is ↦ inr (Contains-append_right one.0 other.0 file is) ]
            | inr before ↦ elim (one.2 file before.0 own) [ inl gone ↦ inl ((then.only.others file before.1).held (ours file own) ∙ gone) | inr is ↦ inr (Contains-append_left one.0 other.0 file is) ]
          ],
        )

-- the same files, in other words
pub sweeps_as : (these those : FileName → Type 0) (l : ℕ) (a b : Told) → ((file : FileName) → these file → those file) → ((file : FileName) → those file → these file) → SweepsFiles these l a b → SweepsFiles those l a b
sweeps_as these those l a b more fewer is = record {
  only = only_more a b these those more is.only;
  gone = λ zero file here own. is.gone zero file (fewer file here) own;
  all_but = λ few. (let left = is.all_but few in (left.0, left.1, λ file here own. left.2 file (fewer file here) own));
  each = is.each;
}

-- ---- an attempt

module _ (attempt live : ℕ) (apart : attempt ≢ live) where
  abbrev Both : FileName → Type 0
  Both file = Only (Done attempt) file ⊎ Only (Prefix attempt) file

  both_in : (file : FileName) → Both file → IsSweptOf attempt live file
  both_in file (inl is) = subst (IsSweptOf attempt live) (sym is) refl
  both_in file (inr is) = subst (IsSweptOf attempt live) (sym is) (refl, apart)

  mapping_in : (file : FileName) → Only (Mapping attempt) file → IsSweptOf attempt live file
  mapping_in file is = subst (IsSweptOf attempt live) (sym is) (refl, apart)

  both_parts : (file : FileName) → Both file → Only (Prefix attempt) file ⊎ (Only (Done attempt) file × (¬ Only (Prefix attempt) file))
  both_parts file (inl is) = inr (is, λ other. absurd (cc (is, other)))
  both_parts file (inr is) = inl is

  all_parts : (file : FileName) → IsSweptOf attempt live file → Only (Mapping attempt) file ⊎ (Both file × (¬ Only (Mapping attempt) file))
  all_parts Control of = absurd of.0
  all_parts (Chunk n) of = absurd of.0
  all_parts (Prefix n) of = inr (inr (ap Prefix of.0), λ other. absurd (cc (other)))
  all_parts (Mapping n) of = inl (ap Mapping of.0)
  all_parts (Done n) of = inr (inl (ap Done of), λ other. absurd (cc (other)))

  -- the done file, the prefix and the mapping, one after the other
  pub attempt_swept : (k l both m n : ℕ) (a b c d : Told) → IsSum k l both → IsSum both m n → SweepsFiles (Only (Done attempt)) k a b → SweepsFiles (Only (Prefix attempt)) l b c → SweepsFiles (Only (Mapping attempt)) m c d
      → SweepsFiles (IsSweptOf attempt live) n a d
  attempt_swept k l both m n a b c d sum all first second third =
      sweeps_on Both (Only (Mapping attempt)) (IsSweptOf attempt live) both m n a c d both_in mapping_in all_parts all
      (sweeps_on (Only (Done attempt)) (Only (Prefix attempt)) Both k l both a b c (λ file is. inl is) (λ file is. inr is) both_parts sum first second) third

-- ---- several attempts

of_attempt : (n live : ℕ) (file : FileName) → IsSweptOf n live file → IsOfAttempt n file
of_attempt n live Control of = of.0
of_attempt n live (Chunk k) of = of.0
of_attempt n live (Prefix k) of = of.0
of_attempt n live (Mapping k) of = of.0
of_attempt n live (Done k) of = of

module _ (from next live : ℕ) (within : from ≤ next) where
  before_in : (file : FileName) → IsSweptFrom from next live file → IsSweptFrom from (next + 1) live file
  before_in file is = (let high = is.2 in (is.0, is.1, omega (arith, high), is.3))

  next_in : (file : FileName) → IsSweptOf next live file → IsSweptFrom from (next + 1) live file
  next_in file is = (next, within, omega arith, is)

  next_parts : (file : FileName) → IsSweptFrom from (next + 1) live file → IsSweptOf next live file ⊎ (IsSweptFrom from next live file × (¬ IsSweptOf next live file))
  next_parts file is = elim (cases_eq is.0 next) [
    | inl it ↦ inl (subst (λ (n : ℕ). IsSweptOf n live file) it is.3)
    | inr differ ↦
        let high = is.2 in
        inr ((is.0, is.1, omega (arith, high, differ), is.3), λ other. differ (one_attempt is.0 next file (of_attempt is.0 live file is.3) (of_attempt next live file other)))
  ]

  pub next_swept : (l m n : ℕ) (a b c : Told) → IsSum l m n → SweepsFiles (IsSweptFrom from next live) l a b → SweepsFiles (IsSweptOf next live) m b c → SweepsFiles (IsSweptFrom from (next + 1) live) n a c
  next_swept l m n a b c sum before now = sweeps_on (IsSweptFrom from next live) (IsSweptOf next live) (IsSweptFrom from (next + 1) live) l m n a b c before_in next_in next_parts sum before now

-- up to where they go
pub all_swept : (from to next live l : ℕ) (a b : Told) → to ≤ next → (from ≤ to → next ≤ to) → (to < from → next ≡ from) → SweepsFiles (IsSweptFrom from next live) l a b → SweepsFiles (IsSweptFrom from to live) l a b
all_swept from to next live l a b past up none is = elim (cases_lt to from) [
  | inl before ↦
      sweeps_as (IsSweptFrom from next live) (IsSweptFrom from to live) l a b (λ file here. (let (k, low, high, of) = here in absurd (omega (arith, low, high, none before))))
      (λ file here. (let (k, low, high, of) = here in absurd (omega (arith, low, high, before)))) is
  | inr some ↦ let same : next ≡ to = omega (arith, past, up some) in subst (λ (n : ℕ). SweepsFiles (IsSweptFrom from n live) l a b) same is
]

-- ---- a store

module _ (s : Slot) (u : Unswept) where
  abbrev Chunks : FileName → Type 0
  Chunks = IsChunkNumbered u.chunk (s.horizon / s.chunk)

  abbrev Attempts : FileName → Type 0
  Attempts = IsSweptFrom u.attempt s.next_attempt s.live

  chunk_in : (file : FileName) → Chunks file → IsSwept s u file
  chunk_in file is = subst (IsSwept s u) (sym is.2) is.1

  attempt_in : (file : FileName) → Attempts file → IsSwept s u file
  attempt_in Control is = is.3.0
  attempt_in (Chunk n) is = absurd is.3.0
  attempt_in (Prefix n) is = (let (k, low, high, of) = is in ((omega (arith, low, of.0), omega (arith, high, of.0)), λ same. of.1 (sym of.0 ∙ same)))
  attempt_in (Mapping n) is = (let (k, low, high, of) = is in ((omega (arith, low, of.0), omega (arith, high, of.0)), λ same. of.1 (sym of.0 ∙ same)))
  attempt_in (Done n) is = (let (k, low, high, of) = is in (omega (arith, low, of), omega (arith, high, of)))

  parts : (file : FileName) → IsSwept s u file → Attempts file ⊎ (Chunks file × (¬ Attempts file))
  parts Control is = absurd is
  parts (Chunk n) is = inr ((n, is, refl), λ of. of.3.0)
  parts (Prefix n) is = inl (n, is.0.0, is.0.1, (refl, is.1))
  parts (Mapping n) is = inl (n, is.0.0, is.0.1, (refl, is.1))
  parts (Done n) is = inl (n, is.0, is.1, refl)

  cases_chunk : (file : FileName) → Chunks file ⊎ (¬ Chunks file)
  cases_chunk (Chunk n) = elim (cases_lt n u.chunk) [
    | inl below ↦ inr (λ is. (let same : is.0 ≡ n = cc (is.2) in omega (arith, same, below, is.1.0)))
    | inr from ↦ elim (cases_lt n (s.horizon / s.chunk)) [
      | inl within ↦ inl (n, (from, within), refl)
      | inr past ↦ inr (λ is. (let same : is.0 ≡ n = cc (is.2) in omega (arith, same, past, is.1.1)))
    ]
  ]
  cases_chunk Control = inr (λ is. cc (is.2))
  cases_chunk (Prefix n) = inr (λ is. cc (is.2))
  cases_chunk (Mapping n) = inr (λ is. cc (is.2))
  cases_chunk (Done n) = inr (λ is. cc (is.2))

  chunk_of_store : (n : ℕ) → IsOfStore (Chunk n)
  chunk_of_store n = inr (1, n, ap Chunk (omega arith))

  chunks_swept : (l : ℕ) (a b : Told) → Sweeps u.chunk (s.horizon / s.chunk) l a b → SweepsFiles Chunks l a b
  chunks_swept l a b sweeps = record {
    only = sweeps.only;
    gone = λ zero file is own. subst (λ (f : FileName). b.held f ≡ None) (sym is.2) (sweeps.none_left zero is.0 is.1);
    all_but = λ few. (map Chunk those, omega (arith, sweeps.all_but.1, length-map those Chunk), λ file is own. subst (λ (f : FileName). (b.held f ≡ None) ⊎ Contains (map Chunk those) f) (sym is.2) (by is.0 (sweeps.all_but.2 is.0 is.1)));
    each = λ file. elim (cases_chunk file) [
      | inl is ↦ subst (StaysOrGoes a b) (sym is.2) (record { unwritten = λ not. absurd (not (chunk_of_store is.0)); held = λ own. sweeps.same is.0 is.1; left = λ firm. sweeps.crash is.0 is.1 })
      | inr not ↦ stays_goes a b file (sweeps.only.others file not)
    ];
  }
    where
      those : List ℕ
      those = sweeps.all_but.0

      by : (n : ℕ) → (b.held (Chunk n) ≡ None) ⊎ Contains those n → (b.held (Chunk n) ≡ None) ⊎ Contains (map Chunk those) (Chunk n)
      by n (inl gone) = inl gone
      by n (inr (k, lt, is)) = inr (k, omega (arith, lt, length-map those Chunk), get_or-map Chunk those k n (Chunk n) lt ∙ ap Chunk is)

  pub store_swept : (l m n : ℕ) (a b c : Told) → IsSum l m n → Sweeps u.chunk (s.horizon / s.chunk) l a b → SweepsFiles Attempts m b c → SweepsFiles (IsSwept s u) n a c
  store_swept l m n a b c sum few rest = sweeps_on Chunks Attempts (IsSwept s u) l m n a b c chunk_in attempt_in parts sum (chunks_swept l a b few) rest
