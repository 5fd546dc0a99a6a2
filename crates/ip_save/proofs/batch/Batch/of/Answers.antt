use Rattle.std.proofs.Common.{◌≡◌, ◌+◌, ◌≤◌, ℕ, List, [], length, refl, sym, ap, subst, ◌∙◌, arith, rules}
use Rattle.ip_tree.specs.Shown.{shown_root}
use Rattle.ip_tree.specs.declared.node.Stored.{Stored}
use Rattle.ip_save.specs.Batches.{IsBatch, IsSaveFault, commit_record, fields_told}
use Rattle.ip_save.specs.Earlier.{slices_of}
use Rattle.ip_save.specs.Laid.{IsShort, behind_bytes, fresh_root, lay_root}
use Rattle.ip_save.specs.Reused.{spelled_from, told_fresh}
use Rattle.ip_save.specs.declared.fresh.Fresh.{Fresh}
use Rattle.ip_save.proofs.FreshTable.{all_slices, as_many, put_short, table_is}
use Rattle.ip_save.proofs.Hashes.{name_is_hash}
use Rattle.ip_save.proofs.Limits.{none_too_long, none_too_wide}
use Rattle.ip_save.proofs.Rows.{passed_on}
use Rattle.ip_save.proofs.Saved.{end_is, name_is, saved, some_behind, place_behind}
use Rattle.ip_save.proofs.Viewed.{each_new, refs_from, root_low}
use Rattle.ip_save.proofs.batch.Batch.of.Goals as goal

pub find_fresh-requires : goal.find_fresh-requires
find_fresh-requires g c = record { tallied = c.as_slice-ahead.ensures.value ∙ c.in_ok-tallied.ensures }

pub put_root-requires-clause-tallied : goal.put_root-requires-clause-tallied
put_root-requires-clause-tallied g c = c.as_slice-ahead.ensures.value ∙ c.in_ok-tallied.ensures

pub returns-in-Err-clause-made : goal.returns-in-Err-clause-made
returns-in-Err-clause-made g c tells records v other over is first short =
    none_too_long records c.args.tree.now v is other (fields_told c.args.fields.now) c.args.end c.in-Err.fault short (each_new records c.args.tree.now v is) c.in-Err.ensures.cause (c.in-Err.ensures.free tells records other over first)

pub put_each-requires : goal.put_each-requires
put_each-requires g c =
    let fs = c.in-Ok.fresh.items in
    let put = slices_of c.deref-3.result.now in
    let put_is : put ≡ spelled_from [] c.args.end (told_fresh fs) =
    ap slices_of c.deref-3.ensures.value ∙ c.in-Ok-place_fresh.ensures.put ∙ ap (λ (l : List Fresh). spelled_from [] c.args.end (told_fresh l)) c.deref.ensures.value in
    record { short = all_slices IsShort c.deref-3.result.now (put_short IsShort c.args.end fs put c.in-Ok.ensures.short put_is) }

pub put_root-requires-clause-all : goal.put_root-requires-clause-all
put_root-requires-clause-all g c =
    let fs = c.in-Ok.fresh.items in
    let refs_is : c.deref-4.result.now ≡ refs_from c.args.end (told_fresh fs) =
    c.deref-4.ensures.value ∙ c.in-Ok-place_fresh.ensures.refs ∙ ap (λ (l : List Fresh). refs_from c.args.end (told_fresh l)) c.deref.ensures.value in
    as_many c.args.end fs (fresh_root (shown_root c.args.tree.now.root)) c.deref-4.result.now c.in-Ok.ensures.bytes refs_is

pub returns-in_err-root-clause-made : goal.returns-in_err-root-clause-made
returns-in_err-root-clause-made g c tells records v other over is first short =
    let f = fields_told c.args.fields.now in
    let fs = c.in-Ok.fresh.items in
    let refs_is : c.deref-4.result.now ≡ refs_from c.args.end (told_fresh fs) =
    c.deref-4.ensures.value ∙ c.in-Ok-place_fresh.ensures.refs ∙ ap (λ (l : List Fresh). refs_from c.args.end (told_fresh l)) c.deref.ensures.value in
    let table = table_is (g.G.Ground.told c.args.outside.now) c.args.space.now records over c.args.tree.now v is c.args.first other first fs c.in-Ok.ensures.bytes (c.in-Ok.ensures.found tells over.readable) in
    let root = shown_root c.args.tree.now.root in
    let before = c.put_each.new.out.items in
    let at = behind_bytes c.args.end before in
    let low : (lay_root c.deref-4.result.now root at).stands.height ≤ 64 =
    subst (λ (l : List Stored). (lay_root l root at).stands.height ≤ 64) (sym (refs_is ∙ ap (refs_from c.args.end) table)) (root_low records c.args.tree.now v is other c.args.end at) in
    passed_on c.from_residual-in_err-root.result c.in_err-root.field-0.0 (IsBatch v other f c.args.end) (IsSaveFault v other f c.args.end) c.from_residual-in_err-root.ensures.1
    (none_too_wide records c.args.tree.now v is other f c.args.end c.in_err-root.field-0.0 c.deref-4.result.now before low c.in_err-root.ensures.laid)

pub returns-then-last-gt-OFFSET_MAX-clause-made : goal.returns-then-last-gt-OFFSET_MAX-clause-made
returns-then-last-gt-OFFSET_MAX-clause-made g c tells records v other over is first short =
    let f = fields_told c.args.fields.now in
    let fs = c.in-Ok.fresh.items in
    let put = slices_of c.deref-3.result.now in
    let put_is : put ≡ spelled_from [] c.args.end (told_fresh fs) =
    ap slices_of c.deref-3.ensures.value ∙ c.in-Ok-place_fresh.ensures.put ∙ ap (λ (l : List Fresh). spelled_from [] c.args.end (told_fresh l)) c.deref.ensures.value in
    let refs_is : c.deref-4.result.now ≡ refs_from c.args.end (told_fresh fs) =
    c.deref-4.ensures.value ∙ c.in-Ok-place_fresh.ensures.refs ∙ ap (λ (l : List Fresh). refs_from c.args.end (told_fresh l)) c.deref.ensures.value in
    let table = table_is (g.G.Ground.told c.args.outside.now) c.args.space.now records over c.args.tree.now v is c.args.first other first fs c.in-Ok.ensures.bytes (c.in-Ok.ensures.found tells over.readable) in
    let long : c.len-2.result ≡ length c.put_branch.new.out.items = search rules in
    let ends = end_is records c.args.tree.now v is other f c.args.end (told_fresh fs) put c.deref-4.result.now c.in_ok-bytes.bytes.items c.put_each.new.out.items c.put_root.new.out.items c.put_commit.new.out.items c.put_branch.new.out.items c.in_ok-root.root c.in_ok-name.name
    table put_is refs_is c.in_ok-bytes.ensures.items c.in_ok-put_each.ensures (put_short IsShort c.args.end fs put c.in-Ok.ensures.short put_is) c.in_ok-root.ensures.laid c.in_ok-name.ensures.bytes c.in_ok-name.ensures.name c.in_ok-name.ensures.fits
    c.in_ok-put_branch.ensures.bytes c.in_ok-put_branch.ensures.fits in (
      omega (arith, c.if-last-gt-OFFSET_MAX.true, long, ends),
      name_is records c.args.tree.now v is other f c.args.end (told_fresh fs) put c.deref-4.result.now c.in_ok-bytes.bytes.items c.put_each.new.out.items c.put_root.new.out.items c.put_commit.new.out.items c.put_branch.new.out.items c.in_ok-root.root c.in_ok-name.name
          table put_is refs_is c.in_ok-bytes.ensures.items c.in_ok-put_each.ensures (put_short IsShort c.args.end fs put c.in-Ok.ensures.short put_is) c.in_ok-root.ensures.laid c.in_ok-name.ensures.bytes c.in_ok-name.ensures.name c.in_ok-name.ensures.fits
          c.in_ok-put_branch.ensures.bytes c.in_ok-put_branch.ensures.fits,
    )

pub returns-clause-made : goal.returns-clause-made
returns-clause-made g c tells records v other over is first short =
    let f = fields_told c.args.fields.now in
    let fs = c.in-Ok.fresh.items in
    let put = slices_of c.deref-3.result.now in
    let put_is : put ≡ spelled_from [] c.args.end (told_fresh fs) =
    ap slices_of c.deref-3.ensures.value ∙ c.in-Ok-place_fresh.ensures.put ∙ ap (λ (l : List Fresh). spelled_from [] c.args.end (told_fresh l)) c.deref.ensures.value in
    let refs_is : c.deref-4.result.now ≡ refs_from c.args.end (told_fresh fs) =
    c.deref-4.ensures.value ∙ c.in-Ok-place_fresh.ensures.refs ∙ ap (λ (l : List Fresh). refs_from c.args.end (told_fresh l)) c.deref.ensures.value in
    let table = table_is (g.G.Ground.told c.args.outside.now) c.args.space.now records over c.args.tree.now v is c.args.first other first fs c.in-Ok.ensures.bytes (c.in-Ok.ensures.found tells over.readable) in
    let long : c.len-2.result ≡ length c.put_branch.new.out.items = search rules in
    let at : c.len.result ≡ length c.put_root.new.out.items = search rules in
    saved records c.args.tree.now v is other f c.args.end (told_fresh fs) put c.deref-4.result.now c.in_ok-bytes.bytes.items c.put_each.new.out.items c.put_root.new.out.items c.put_commit.new.out.items c.put_branch.new.out.items c.in_ok-root.root c.in_ok-name.name
    table put_is refs_is c.in_ok-bytes.ensures.items c.in_ok-put_each.ensures (put_short IsShort c.args.end fs put c.in-Ok.ensures.short put_is) c.in_ok-root.ensures.laid c.in_ok-name.ensures.bytes c.in_ok-name.ensures.name c.in_ok-name.ensures.fits
    c.in_ok-put_branch.ensures.bytes c.in_ok-put_branch.ensures.fits _ refl refl refl (ap (λ (n : ℕ). c.args.end + n) at) (ap (λ (n : ℕ). c.args.end + n) long) (omega (arith, c.if-last-gt-OFFSET_MAX.false))

pub returns-clause-is_name : goal.returns-clause-is_name
returns-clause-is_name g c = name_is_hash (commit_record (fields_told c.args.fields.now) c.in_ok-root.root) c.in_ok-name.name c.in_ok-name.ensures.name

pub returns-clause-some : goal.returns-clause-some
returns-clause-some g c = some_behind _ _ _ c.in_ok-put_branch.ensures.bytes

pub returns-clause-placed : goal.returns-clause-placed
returns-clause-placed g c =
    let at : c.len.result ≡ length c.put_root.new.out.items = search rules in
    place_behind c.args.end c.len.result c.put_root.new.out.items c.put_commit.new.out.items c.put_branch.new.out.items _ _ at c.in_ok-name.ensures.bytes c.in_ok-put_branch.ensures.bytes
