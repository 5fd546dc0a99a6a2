use Rattle.std.proofs.Common.{◌≡◌, ◌++◌, ◌∷◌, [], sym, ap, ◌∙◌, length, append_assoc, rules}
use Rattle.std.proofs.lemmas.Result.{on_ok_weaker}
use Rattle.ip_spec.specs.Record.{spelling, body, u32}
use Rattle.ip_spec.specs.declared.record.Record.TheVariants as Record
use Rattle.ip_object.specs.Lists.{commit_of}
use Rattle.ip_object.proofs.Sizes.{commit_size}
use Rattle.ip_object.proofs.encode.encode_commit.Goals as goal

pub returns-clause-ok : goal.returns-clause-ok
unfolding spelling
returns-clause-ok c =
    let commit = commit_of c.args.number c.args.root.now c.args.parents.now c.args.info.now in
    let b = body (Record.Commit commit) in
    let size = commit_size commit c.requires in
    let kept : c.reserve.new.self.items ≡ c.args.out.now.items = search rules in
    let long = u32 (length b) in
    let kind : c.put_u8.new.out.items ≡ c.args.out.now.items ++ 4 ∷ [] = c.in_ok-put_u8.ensures.ok ∙ ap (λ t. t ++ 4 ∷ []) kept in
    let put : c.put_u32.new.out.items ≡ c.put_u8.new.out.items ++ long = search (rules, size) in
    let head : c.put_u32.new.out.items ≡ c.args.out.now.items ++ 4 ∷ long = put ∙ ap (λ t. t ++ long) kind ∙ append_assoc c.args.out.now.items (4 ∷ []) long in
    on_ok_weaker c.put_commit.result (λ is. is ∙ ap (λ t. t ++ b) head ∙ append_assoc c.args.out.now.items (4 ∷ long) b) c.put_commit.ensures.ok
