-- The exits of a look at a record, where the search is open.
--     UpReady, DownReady      what is known when a record is looked at
--     up_blames, up_breaks, down_blames, down_breaks      what a fault says of it
use Rattle.std.proofs.Common.{◌≡◌, inl, inr, ℕ, ◌+◌, ◌<◌, ◌≤◌, List, [], ◌∷◌, ◌++◌, sym, ap, subst, ◌∙◌, Bool, true, false, length, arith}
use Rattle.std.proofs.lemmas.Bool.{false≢true}
use Rattle.std.specs.Prelude.{Contains, Some, IsTrue, Result, IsErrOf}
use Rattle.ip_ground.specs.Told.{Told, NoFile, ChangesOnly}
use Rattle.ip_spec.specs.declared.record.Record.{Record}
use Rattle.ip_spec.specs.Record.{spelling}
use Rattle.ip_image.specs.Virtual.{Stands}
use Rattle.ip_space.specs.SpaceView.{SpaceView, IsReadable, byte_at, records_of}
use Rattle.ip_space.specs.ScanView.{ScanView}
use Rattle.ip_space.specs.Scanning.{IsCurrent}
use Rattle.ip_keep.specs.declared.fault.KeepFault.{KeepFault}
use Rattle.ip_keep.specs.Entering.{are_below, refs_of, Gains, GainsSome}
use Rattle.ip_keep.specs.Going.{Goes, Blameless, Blames, Breaks, IsAlong}
use Rattle.ip_keep.specs.KeepView.{KeepView}
use Rattle.ip_keep.specs.Keeping.{IsGreatest, IsKeep, lowest}
use Rattle.ip_keep.proofs.Looked.{waits, waits_below, with_kept}
use Rattle.ip_keep.proofs.RunsApart.{apart_total}
use Rattle.ip_keep.proofs.Goings.{goes_read, goes_up, goes_behind, goes_down, goes_kept, still_last, blameless_up, blameless_down}

pub record UpReady (tells : Bool) (a : Told) (scan : ScanView) (k : KeepView) : Type 0 where
  pub keep : IsKeep k
  pub more : k.next < k.space.layout.end
  pub along : IsAlong k scan
  pub current : IsTrue tells → IsReadable a k.space → IsCurrent a k.space scan

module _ (tells : Bool) (a : Told) (scan : ScanView) (k o : KeepView) (is : k ≡ o) (at_o : UpReady tells a scan o) where
  ready : UpReady tells a scan k
  ready = subst (UpReady tells a scan) (sym is) at_o

  module _ (b : Told) (only : IsTrue tells → ChangesOnly NoFile a b) (r : Record) (w : List ℕ)
      (found : IsTrue tells → IsReadable a k.space → IsCurrent a k.space scan → records_of a k.space scan.next ≡ Some r) where
    found_next : IsTrue tells → IsReadable a k.space → records_of a k.space k.next ≡ Some r
    found_next t readable = ap (records_of a k.space) (sym ready.along.next) ∙ found t readable (ready.current t readable)

    pub up_waits : GainsSome k.waiting w (refs_of r) k.horizon → Goes tells a b o (waits k w)
    up_waits gains = subst (λ (q : KeepView). Goes tells a b q (waits k w)) is (goes_up tells a b k ready.keep only r w ready.more found_next gains)

    pub up_behind : (next seen : ℕ) → Gains k.waiting w (refs_of r) k.horizon → are_below scan.next (refs_of r) ≡ true → scan.next + length (spelling r) ≤ k.space.layout.end → next ≡ scan.next + length (spelling r) → seen ≡ k.seen + 1
        → Goes tells a b o (record k { next = next; seen = seen; waiting = w })
    up_behind next seen gains under inside step one =
        let from = ready.along.next in
        let to : k.next + length (spelling r) ≡ next = omega (arith, from, step) in
        subst (λ (q : KeepView). Goes tells a b q (record k { next = next; seen = seen; waiting = w })) is
        (subst (λ (n : ℕ). Goes tells a b k (record k { next = next; seen = n; waiting = w })) (sym one)
        (subst (λ (n : ℕ). Goes tells a b k (record k { next = n; seen = k.seen + 1; waiting = w })) to (goes_behind tells a b k ready.keep only r w ready.more found_next gains (omega (arith, inside, from)) (subst (λ (n : ℕ). are_below n (refs_of r) ≡ true) from under))))

  pub up_blameless : {A : Type 0} (result : Result A KeepFault)
      → (IsTrue tells → IsReadable a k.space → IsCurrent a k.space scan → (at : ℕ) → IsErrOf result (KeepFault.Damaged at) →
      (r : Record) → records_of a k.space scan.next ≡ Some r → are_below scan.next (refs_of r) ≡ false) → Blameless tells a o result
  up_blameless result ahead =
      subst (λ (q : KeepView). Blameless tells a q result) is
      (blameless_up tells a k result ready.more
      (subst (λ (n : ℕ). IsTrue tells → IsReadable a k.space → (at : ℕ) → IsErrOf result (KeepFault.Damaged at) → (r : Record) → records_of a k.space n ≡ Some r → are_below n (refs_of r) ≡ false)
      ready.along.next (λ t readable at bad. ahead t readable (ready.current t readable) at bad)))

  -- the record ahead is the one that is blamed
  module _ {A : Type 0} (result : Result A KeepFault) (here : (at : ℕ) → IsErrOf result (KeepFault.Damaged at) → at ≡ scan.next) where
    pub up_blames : Blames result o
    up_blames at bad = inl (at_o.more, here at bad ∙ at_o.along.next)

    pub up_breaks : (n : KeepView) → (IsTrue tells → IsReadable a k.space → IsCurrent a k.space scan → (at : ℕ) → IsErrOf result (KeepFault.Damaged at) →
        (r : Record) → records_of a k.space scan.next ≡ Some r → are_below scan.next (refs_of r) ≡ false) → Breaks tells a o n result
    up_breaks n ahead = subst (λ (q : KeepView). Breaks tells a q n result) is (λ t readable at bad r there under.
        let e = here at bad in
        let bad_ref = ahead t readable (ready.current t readable) at bad r (ap (records_of a k.space) (sym e) ∙ there) in
        absurd (false≢true (sym bad_ref ∙ ap (λ (m : ℕ). are_below m (refs_of r)) (sym e) ∙ under)))

-- ---- one that waits

pub record DownReady (at : ℕ) (k : KeepView) : Type 0 where
  pub keep : IsKeep k
  pub up : k.next ≡ k.space.layout.end
  pub there : Contains k.waiting at
  pub most : (n : ℕ) → Contains k.waiting n → n ≤ at

module _ (tells : Bool) (a : Told) (at : ℕ) (k o : KeepView) (is : k ≡ o) (at_o : DownReady at o) (space : SpaceView) (same : space ≡ k.space) where
  set : DownReady at k
  set = subst (DownReady at) (sym is) at_o

  module _ (b : Told) (only : IsTrue tells → ChangesOnly NoFile a b) where
    moved : (n : KeepView) → (s : SpaceView) → s ≡ n.space → Goes tells a b k n → Goes tells a b o (record n { space = s })
    moved n s e goes = subst (λ (q : KeepView). Goes tells a b q (record n { space = s })) is (subst (λ (t : SpaceView). Goes tells a b k (record n { space = t })) (sym e) goes)

    pub down_read : Goes tells a b o (record k { space = space })
    down_read = moved k space same (goes_read tells a b k set.keep only)

    module _ (r : Record) (w : List ℕ) (found : IsTrue tells → IsReadable a k.space → records_of a k.space at ≡ Some r) where
      pub down_waits : GainsSome k.waiting w (refs_of r) at → Goes tells a b o (record k { space = space; waiting = w })
      down_waits gains = moved (waits k w) space same (goes_down tells a b k set.keep only r w at set.there found gains)

      pub down_last : GainsSome k.waiting w (refs_of r) at → (rest : List ℕ) × (w ≡ rest ++ at ∷ [])
      down_last gains = still_last tells a b k set.keep only r w at set.there found gains set.most

      pub down_kept : (rest : List ℕ) (size below : ℕ) → Gains k.waiting w (refs_of r) at → are_below at (refs_of r) ≡ true → w ≡ rest ++ at ∷ [] → size ≡ length (spelling r) → at + size ≤ below → below ≡ lowest o
          → (IsTrue tells → IsReadable a k.space → Stands (byte_at b k.space) at (spelling r)) → Goes tells a b o (record k { space = space; waiting = rest; kept = record { at = at; length = size } ∷ k.kept })
      down_kept rest size below gains under last long inside low stands =
          let low_k : below ≡ lowest k = low ∙ ap lowest (sym is) in
          moved (with_kept (waits k w) rest (record { at = at; length = size })) space same
          (goes_kept tells a b k set.keep only r w at set.there found rest size gains under set.up last long (omega (arith, inside, low_k)) stands)

  pub down_blameless : {A : Type 0} (result : Result A KeepFault) (below : ℕ) → below ≡ lowest o
      → (IsTrue tells → IsReadable a k.space → (place : ℕ) → IsErrOf result (KeepFault.Damaged place) → (r : Record) → records_of a k.space at ≡ Some r → are_below at (refs_of r) ≡ true → below < at + length (spelling r)) → Blameless tells a o result
  down_blameless result below low long =
      let low_k : below ≡ lowest k = low ∙ ap lowest (sym is) in
      subst (λ (q : KeepView). Blameless tells a q result) is
      (blameless_down tells a k result at set.keep set.there (λ t readable place bad r there under. (let l = long t readable place bad r there under in omega (arith, l, low_k))))

  module _ {A : Type 0} (result : Result A KeepFault) (here : (place : ℕ) → IsErrOf result (KeepFault.Damaged place) → place ≡ at) where
    pub down_blames : Blames result (record k { space = space })
    down_blames place bad = inr (set.up ∙ ap (λ (s : SpaceView). s.layout.end) (sym same), subst (IsGreatest k.waiting) (sym (here place bad)) (set.there, set.most))

    pub down_breaks : (below : ℕ) → below ≡ lowest o
        → (IsTrue tells → IsReadable a k.space → (place : ℕ) → IsErrOf result (KeepFault.Damaged place) → (r : Record) → records_of a k.space at ≡ Some r → are_below at (refs_of r) ≡ true → below < at + length (spelling r))
        → Breaks tells a o (record k { space = space }) result
    down_breaks below low long = subst (λ (q : KeepView). Breaks tells a q (record k { space = space }) result) is (λ t readable place bad r there under.
        let e = here place bad in
        let low_k : below ≡ lowest k = low ∙ ap lowest (sym is) in
        let l = long t readable place bad r (ap (records_of a k.space) (sym e) ∙ there) (ap (λ (m : ℕ). are_below m (refs_of r)) (sym e) ∙ under) in
        let waits = waits_below k set.keep at set.there in
        let low_end = apart_total k.horizon k.kept set.keep.apart in
        (omega (arith, e, waits, low_end), omega (arith, l, low_k, e)))
