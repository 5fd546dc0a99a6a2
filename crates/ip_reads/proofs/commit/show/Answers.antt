use Rattle.std.proofs.Common.{sym, ◌∙◌, ap}
use Rattle.ip_spec.specs.declared.reply.Reply.TheVariants as Reply
use Rattle.ip_held.specs.Held.{image_records}
use Rattle.ip_reads.specs.declared.commit.Shown.{Shown}
use Rattle.ip_reads.proofs.Showing.{shown_reply}
use Rattle.ip_held.proofs.Stepping.{looks}
use Rattle.ip_reads.proofs.commit.show.Goals as goal

pub returns-clause-shows : goal.returns-clause-shows
returns-clause-shows g c told r held retained =
    let records = image_records held in
    shown_reply records r c.args.number c.in-Ok.commit (c.in-Ok.ensures.fetched told r held retained) c.retained_name-name.result (c.retained_name-name.ensures r held.tables retained)
    ∙ ap (λ (s : Shown). Reply.Commit s.name s.number s.root s.parents s.info) (sym c.in_ok-of.ensures)

pub returns-clause-looks : goal.returns-clause-looks
returns-clause-looks g c told = looks c.args.store.now _ c.commit_record.ensures.same (g.G.Ground.told c.args.outside.now) (g.G.Ground.told c.commit_record.new.outside) (c.commit_record.ensures.reads told)

pub returns-in-Err-clause-looks : goal.returns-in-Err-clause-looks
returns-in-Err-clause-looks g c told = looks c.args.store.now _ c.commit_record.ensures.same (g.G.Ground.told c.args.outside.now) (g.G.Ground.told c.commit_record.new.outside) (c.commit_record.ensures.reads told)

pub returns-in_err-of-clause-looks : goal.returns-in_err-of-clause-looks
returns-in_err-of-clause-looks g c told = looks c.args.store.now _ c.commit_record.ensures.same (g.G.Ground.told c.args.outside.now) (g.G.Ground.told c.commit_record.new.outside) (c.commit_record.ensures.reads told)
