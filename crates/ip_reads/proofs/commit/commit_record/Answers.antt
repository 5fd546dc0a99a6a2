use Rattle.std.proofs.Common.{◌∙◌, rules}
use Rattle.ip_spec.specs.declared.record.Record.TheVariants as Record
use Rattle.ip_space.specs.SpaceView.{records_of}
use Rattle.ip_held.specs.Held.{image_records}
use Rattle.ip_held.proofs.Causing.{commit_cause}
use Rattle.ip_held.proofs.Listed.{readable_of, records_held}
use Rattle.ip_held.proofs.CommitPlaces.{there_is, commit_is, name_is, commit_here}
use Rattle.ip_reads.proofs.Showing.{meets_commit, is_fetched, fetched_commit, damages_commit}
use Rattle.ip_held.proofs.Stepping.{still_holds}
use Rattle.ip_reads.proofs.commit.commit_record.Goals as goal

pub returns-clause-fetched : goal.returns-clause-fetched
returns-clause-fetched g c told r held retained =
    let store = c.args.store.now in
    let before = g.G.Ground.told c.args.outside.now in
    let records = image_records held in
    let ref = c.reference_to-reference.result in
    let is = c.reference_to-reference.ensures r held.tables retained in
    let here = commit_here r c.args.number retained store before held ref.at is.at in
    let meets = meets_commit records c.args.number ref.at (there_is r c.args.number retained).0 here ref (is.name ∙ name_is r c.args.number retained) is.kind in
    let found = is_fetched (records_of before store.space) ref here.spelled (records_held store before r held ref.at (Record.Commit here.spelled) here.here) meets c.fetch.result (c.fetch.ensures.found told (readable_of store r before held)) in
    fetched_commit records r c.args.number here.spelled ((there_is r c.args.number retained).0, ref.at, commit_is r c.args.number retained, here.here, here.spells) c.fetch.result found c.commit_in.result c.commit_in.ensures

pub returns-clause-damages : goal.returns-clause-damages
returns-clause-damages g c told readable =
    let (r, of, retained) = c.requires.tables in
    let is = c.reference_to-reference.ensures r of retained in
    damages_commit (records_of (g.G.Ground.told c.args.outside.now) c.args.store.now.space) c.reference_to-reference.result is.kind c.fetch.result
    (c.fetch.ensures.found told readable) c.commit_in.result c.commit_in.ensures

pub returns-clause-holds : goal.returns-clause-holds
returns-clause-holds g c told r held = still_holds c.args.store.now _ (search rules) r (g.G.Ground.told c.args.outside.now) (g.G.Ground.told c.fetch.new.outside) (c.fetch.ensures.reads told) held

pub returns-clause-causes : goal.returns-clause-causes
returns-clause-causes g c =
    commit_cause g.G.Ground.tells (g.G.Ground.told c.args.outside.now) c.args.store.now.space c.reference_to-reference.result c.fetch.result c.fetch.ensures.blames c.fetch.ensures.found c.commit_in.result c.commit_in.ensures
