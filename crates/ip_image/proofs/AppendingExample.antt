-- The law of the next commit, on the first commit of a fresh store: its premises hold, and it gives the store that was stored.
use Rattle.std.proofs.Common.{Option, ◌≡◌, ℕ, ◌<◌, [], ◌∷◌, length, ◌+◌, refl, sym, ap, subst, ◌∙◌, Some, None, lit<, lit≤, arith}
use Rattle.std.proofs.lemmas.Bool.{false≢true}
use Rattle.std.proofs.lemmas.List.Elements.{All-from_recursion}
use Rattle.std.specs.Prelude.{codes, is_some}
use Rattle.ip_ground.specs.Contents.{Image}
use Rattle.ip_ground.specs.declared.names.FileName.TheVariants.{Control}
use Rattle.ip_spec.specs.Path.{Bytes, Path, IsPath, IsStep}
use Rattle.ip_spec.specs.Record.{Fits}
use Rattle.ip_spec.specs.declared.record.Record.{Record}
use Rattle.ip_spec.specs.Tree as Tree
use Rattle.ip_spec.specs.Tree.{Tree, IsTree}
use Rattle.ip_spec.specs.Shape.{shape_runs}
use Rattle.ip_spec.specs.Batch.{KnownStand, sources, batch, batch_end, batch_runs}
use Rattle.ip_spec.proofs.BatchLaws.{sources_stand}
use Rattle.ip_spec.specs.TreeAt.{present}
use Rattle.ip_spec.specs.Repository.{no_repository}
use Rattle.ip_spec.specs.Step.{new_commit, with_commit, step_runs}
use Rattle.ip_spec.proofs.Subtrees.{get-no_tree, lawful_put}
use Rattle.ip_image.specs.Slot.{layout_of, fresh, fresh_control}
use Rattle.ip_image.specs.Standing.{StandsFor, IsServedKind}
use Rattle.ip_image.specs.Collection.{image_runs}
use Rattle.ip_image.specs.Pending.{HasLive}
use Rattle.ip_image.specs.Appending.{SameGeneration, AddsBytes, unread, MayGrow, fields_of, bytes_of_records, AreWithin}
use Rattle.ip_image.proofs.InChunk.{chunk_lies, lies_below, first_chunk_byte}
use Rattle.ip_image.proofs.FreshLaws.{fresh_stands, is_live}
use Rattle.ip_image.proofs.AppendingLaws.{stands_grown}
use Rattle.ip_image.proofs.KeptRuns.{get_behind}
use Rattle.ip_image.proofs.StoreExample.{control, chunk0, image, slot, info, tree, records, live, is_info, is_main, is_step, good}

pub fresh_image : Image
fresh_image Control = Some (fresh_control 4096)
fresh_image file = None

pub starts : StandsFor fresh_image no_repository
unfolding fresh_image image_runs
starts = fresh_stands fresh_image (fresh_control 4096) 4096 (12, lit≤ tt, lit≤ tt, refl) refl refl

pub main : Bytes
main = codes "main"

path : Path
path = codes "a" ∷ []

is_path : IsPath path
unfolding path
is_path = record { some = lit< tt; short = lit≤ tt; each = All-from_recursion IsStep (codes "a" ∷ []) (is_step, tt) }

pub no_lawful : IsTree Tree.no_tree
no_lawful = record {
  prefix_free = λ p q a b prefix. absurd (false≢true (ap is_some (sym (get-no_tree p)) ∙ a));
  paths = λ p a. absurd (false≢true (ap is_some (sym (get-no_tree p)) ∙ a));
}

pub none_below : (k : ℕ) → k < 0 → ⊥
none_below k l = omega (arith, l)

may_grow : MayGrow no_repository tree [] info (codes "main")
unfolding step_runs shape_runs path
may_grow = record {
  is_tree = lawful_put Tree.no_tree path (1 ∷ []) no_lawful is_path;
  narrow = lit≤ tt;
  retained = λ k d l. absurd (none_below k l);
  distinct = λ i j d low high. absurd (none_below j high);
  few = lit≤ tt;
  is_info = is_info;
  is_branch = is_main;
  new_name = refl;
  room = lit≤ tt;
}

pub fresh_live : HasLive (fresh 4096) fresh_image
unfolding fresh_image image_runs
fresh_live = record { control = fresh_control 4096; index = 0; held = refl; live = is_live (fresh_control 4096) 4096 (12, lit≤ tt, lit≤ tt, refl) refl }

-- where no part is known, what is known stands
pub nothing_known : (J : ℕ → Option Record) (t : Tree) (end : ℕ) → ((at : ℕ) (r : Record) → J at ≡ Some r → at < end) → KnownStand J (unread t) end
nothing_known J t end below = record {
  below = below;
  bytes = λ p at b known is. absurd (false≢true (ap is_some known));
  parts = λ p indexes at known no_contents. absurd (false≢true (ap is_some known));
}

first_known : KnownStand (present starts.standing.records) (unread tree) 0
first_known = nothing_known (present starts.standing.records) tree 0
    (λ at r is. lies_below fresh_image (layout_of (fresh 4096)) (lit≤ tt) starts.standing.records (chunk_lies fresh_image (fresh 4096) fresh_live starts.standing) at r is)

the_batch : batch (unread tree) (sources (unread tree)) (fields_of no_repository [] info (codes "main")) 0 ≡ records
unfolding batch_runs image_runs step_runs
the_batch = refl

the_end : batch_end (unread tree) (sources (unread tree)) (fields_of no_repository [] info (codes "main")) 0 ≡ 144
unfolding batch_runs image_runs step_runs
the_end = refl

the_bytes : bytes_of_records records ≡ chunk0
unfolding batch_runs image_runs
the_bytes = refl

within : AreWithin 1 records
within = All-from_recursion (λ (x : ℕ × Record). Fits 1 x.1 × IsServedKind x.1) records (
  (good.0.bounds, good.0.served),
  ((good.1.0.bounds, good.1.0.served), ((good.1.1.0.bounds, good.1.1.0.served), ((good.1.1.1.0.bounds, good.1.1.1.0.served), tt))),
)

small : length chunk0 ≡ 144
small = refl

-- none stood there before
adds : AddsBytes (fresh 4096) chunk0 fresh_image image
adds = record {
  same = record { chunks = λ at low high. absurd (none_below at high); mapping = λ some. absurd (some refl); prefix = λ some. absurd (some refl) };
  added = λ k l. first_chunk_byte image (0 + k) (omega (arith, l, small)) ∙ get_behind [] chunk0 k;
}

after_live : HasLive slot image
after_live = record { control = control; index = 1; held = refl; live = live }

pub same_generation : (sequence end next : ℕ) → SameGeneration (fresh 4096) (record (fresh 4096) { sequence = sequence; end = end; next = next })
same_generation sequence end next = record { version = refl; chunk = refl; horizon = refl; floor = refl; live = refl; prefix_len = refl; rows = refl }

the_next_image_by_the_law : StandsFor image (with_commit no_repository (new_commit no_repository tree [] info) (codes "main"))
the_next_image_by_the_law = (stands_grown fresh_image image no_repository (fresh 4096) slot (unread tree) (sources (unread tree)) [] info (codes "main") starts fresh_live may_grow first_known
    (sources_stand (present starts.standing.records) (unread tree) 0 first_known)
    (subst (AreWithin 1) (sym the_batch) within) after_live (same_generation 2 144 1) (sym the_end) refl
    (subst (λ (bytes : Bytes). AddsBytes (fresh 4096) bytes fresh_image image) (sym (ap bytes_of_records the_batch ∙ the_bytes)) adds)).0
