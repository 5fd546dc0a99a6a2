-- One record taken: from what the code's calls ensure to what `take` does.
use Rattle.std.proofs.Common.{◌≡◌, ◌≢◌, ℕ, zero, suc, ◌+◌, ◌<◌, List, [], ◌∷◌, ◌++◌, refl, sym, ap, subst, ◌∙◌, append-nil, Option, Some, None, Bool, true, false, cond, length, arith, slice_index_or, Result, Ok, Err}
use Rattle.std.specs.Prelude.{OnOk, OnErr, All, position}
use Rattle.std.specs.List.{position_from}
use Rattle.std.proofs.lemmas.Iterator.Adapters.{position_from-zero}
use Rattle.ip_spec.specs.Path.{same_bytes}
use Rattle.ip_spec.specs.declared.record.Record.{Record}
use Rattle.ip_spec.specs.declared.record.CommitRecord.{CommitRecord}
use Rattle.ip_spec.specs.Record.{Hash, name_of}
use Rattle.ip_spec.specs.TreeAt.{Records}
use Rattle.ip_image.specs.Standing.{RecordFits}
use Rattle.ip_image.specs.declared.terms.Terms.{Terms}
use Rattle.ip_audit.specs.declared.audit.Audit.{Audit}
use Rattle.ip_audit.specs.Memory.{Memory, IsTrueMemory, CommitPasses, IsMore, kept_of, names_in, commit_name}
use Rattle.ip_audit.specs.Audits.{Audited, memory_of}
use Rattle.ip_audit.specs.Changes.{RemembersSame, CommitHolds, IsNew}
use Rattle.ip_audit.proofs.Placing.{same_is, same_itself}
use Rattle.ip_audit.proofs.Common.{some_is}
use Rattle.ip_audit.proofs.Basics.{no_true}

pub then_ok : {A E P Q : Type 0} (r : Result A E) → OnOk r P → (P → Q) → OnOk r Q
then_ok (Ok x) p f = f p
then_ok (Err x) p f = tt

pub both_ok : {A E P Q R : Type 0} (r : Result A E) → OnOk r P → OnOk r Q → (P → Q → R) → OnOk r R
both_ok (Ok x) p q f = f p q
both_ok (Err x) p q f = tt

pub then_err : {A E P Q : Type 0} (r : Result A E) → OnErr r P → (P → Q) → OnErr r Q
then_err (Ok x) p f = tt
then_err (Err x) p f = f p

-- where the same is remembered, the same was taken
pub same_audited : (a b : Audit) (taken : Records) → RemembersSame a b → Audited a taken → Audited b taken
same_audited a b taken same audited =
    let is : memory_of a ≡ memory_of b = λ i. record { kept = λ at. sym (same.kept at) i; names = sym same.names i } in
    subst (λ m. IsTrueMemory m taken) is audited

-- ---- a name that is new

abbrev hits : Hash → Hash → Bool
hits name n = same_bytes n name

not_hit : (name : Hash) (names : List Hash) (i : ℕ) → position_from (hits name) i names ≡ None → (k : ℕ) (d : Hash) → k < length names → slice_index_or names k d ≢ name
not_hit name [] i none k d l e = omega (arith, l)
not_hit name (n ∷ names) i none k d l e = by (hits name n) refl none (λ later j m f. not_hit name names (i + 1) later j d m f) k l e
  where
    by : (b : Bool) → hits name n ≡ b → cond b (Some i) (position_from (hits name) (i + 1) names) ≡ None
        → (position_from (hits name) (i + 1) names ≡ None → (j : ℕ) → j < length names → slice_index_or names j d ≡ name → ⊥)
        → (k : ℕ) → k < length (n ∷ names) → slice_index_or (n ∷ names) k d ≡ name → ⊥
    by true t none later k l e = absurd (cc (none))
    by false t none later zero l e = no_true (hits name n) t (ap (λ m. same_bytes m name) e ∙ same_itself name)
    by false t none later (suc k) l e = later none k (omega (arith, l)) e

none_hit : (name : Hash) (names : List Hash) (i : ℕ) → All (λ n. n ≢ name) names → position_from (hits name) i names ≡ None
none_hit name [] i h = refl
none_hit name (n ∷ names) i h = by (hits name n) refl (none_hit name names (i + 1) (λ k d l. h (suc k) d (omega (arith, l))))
  where
    by : (b : Bool) → hits name n ≡ b → position_from (hits name) (i + 1) names ≡ None → cond b (Some i) (position_from (hits name) (i + 1) names) ≡ None
    by true t ih = absurd (h 0 n (omega arith) (same_is n name t))
    by false t ih = ih

pub new_all : (name : Hash) (names : List Hash) → position (λ n. same_bytes n name) names ≡ None → All (λ n. n ≢ name) names
new_all name names none = not_hit name names 0 (sym (position_from-zero (hits name) names) ∙ none)

pub all_new : (name : Hash) (names : List Hash) → All (λ n. n ≢ name) names → position (λ n. same_bytes n name) names ≡ None
all_new name names h = position_from-zero (hits name) names ∙ none_hit name names 0 h

-- ---- commits

pub holds_passes : (a : Audit) (at : ℕ) (c : CommitRecord) (name : Hash) → name_of (Record.Commit c) ≡ Some name → CommitHolds a at c → IsNew a name → CommitPasses a.terms (memory_of a) at c
holds_passes a at c name is h new = record {
  number = h.number;
  root_below = h.root_below;
  root = h.root;
  earlier = h.earlier;
  distinct = h.distinct;
  parents = h.parents;
  new_name = new_all (commit_name c) a.names (ap (λ m. position (λ n. same_bytes n m) a.names) (some_is (commit_name c) name is) ∙ new);
}

pub passes_holds : (a : Audit) (at : ℕ) (c : CommitRecord) → CommitPasses a.terms (memory_of a) at c → CommitHolds a at c
passes_holds a at c p = record {
  number = p.number;
  root_below = p.root_below;
  root = p.root;
  earlier = p.earlier;
  distinct = p.distinct;
  parents = p.parents;
}

pub passes_new : (a : Audit) (at : ℕ) (c : CommitRecord) (name : Hash) → name_of (Record.Commit c) ≡ Some name → CommitPasses a.terms (memory_of a) at c → IsNew a name
passes_new a at c name is p = ap (λ m. position (λ n. same_bytes n m) a.names) (sym (some_is (commit_name c) name is)) ∙ all_new (commit_name c) a.names p.new_name

-- ---- records without a name

some_none : {X : Type 0} (h : Hash) → ◌≡◌ {A = Option Hash} (Some h) None → X
some_none h e = absurd (cc (e))

nothing_more : (memory : Memory) (at : ℕ) → memory.kept at ≡ None → (r : Record) → kept_of memory.kept r ≡ None → names_in r ≡ [] → IsMore memory at r memory
nothing_more memory at free r kept names = record { this = free ∙ sym kept; others = λ b h. refl; names = sym (append-nil memory.names) ∙ ap (λ ns. memory.names ++ ns) (sym names) }

pub nameless_more : (memory : Memory) (at : ℕ) → memory.kept at ≡ None → (r : Record) → name_of r ≡ None → IsMore memory at r memory
nameless_more memory at free (Record.Contents bytes) e = some_none _ e
nameless_more memory at free (Record.Leaf fields) e = some_none _ e
nameless_more memory at free (Record.Inode depth cs) e = some_none _ e
nameless_more memory at free (Record.Commit c) e = some_none _ e
nameless_more memory at free (Record.BranchSet k t) e = nothing_more memory at free (Record.BranchSet k t) refl refl
nameless_more memory at free (Record.TagSet k t) e = nothing_more memory at free (Record.TagSet k t) refl refl
nameless_more memory at free (Record.BranchRemove t) e = nothing_more memory at free (Record.BranchRemove t) refl refl
nameless_more memory at free (Record.TagRemove t) e = nothing_more memory at free (Record.TagRemove t) refl refl
nameless_more memory at free (Record.BranchTable rows) e = nothing_more memory at free (Record.BranchTable rows) refl refl
nameless_more memory at free (Record.TagTable rows) e = nothing_more memory at free (Record.TagTable rows) refl refl

pub nameless_fits : (terms : Terms) (taken : Records) (at : ℕ) (r : Record) → name_of r ≡ None → RecordFits terms taken at r
nameless_fits terms taken at (Record.Contents bytes) e = tt
nameless_fits terms taken at (Record.Leaf fields) e = some_none _ e
nameless_fits terms taken at (Record.Inode depth cs) e = some_none _ e
nameless_fits terms taken at (Record.Commit c) e = some_none _ e
nameless_fits terms taken at (Record.BranchSet k t) e = tt
nameless_fits terms taken at (Record.TagSet k t) e = tt
nameless_fits terms taken at (Record.BranchRemove t) e = tt
nameless_fits terms taken at (Record.TagRemove t) e = tt
nameless_fits terms taken at (Record.BranchTable rows) e = tt
nameless_fits terms taken at (Record.TagTable rows) e = tt
