use Rattle.std.proofs.Common.{refl}
use Rattle.ip_ground.specs.declared.names.FileName.TheVariants.{Prefix, Mapping}
use Rattle.ip_ground.specs.Told.{Only}
use Rattle.ip_ground.proofs.Spans.{only_on}
use Rattle.ip_space.specs.SpaceView.{byte_at}
use Rattle.ip_worker.specs.Steps.{IsPairFile}
use Rattle.ip_worker.proofs.Copying.{free_on}
use Rattle.ip_worker.proofs.Ending.{both_changed, absent_on, apart_pair}
use Rattle.ip_worker.proofs.Collecting.{files_written}
use Rattle.ip_worker.proofs.pair.write_files.Goals as goal

pub returns-in-Err-write_mapping-clause-only : goal.returns-in-Err-write_mapping-clause-only
returns-in-Err-write_mapping-clause-only g c told free =
    both_changed c.args.job.now.attempt _ _ _ (c.write_prefix.ensures.only told) (c.write_mapping.ensures.only told)

pub returns-in-Ok-sync_pair-clause-writes : goal.returns-in-Ok-sync_pair-clause-writes
returns-in-Ok-sync_pair-clause-writes g c told ready gone_prefix gone_mapping =
    let a = g.G.Ground.told c.args.outside.now in
    let b = g.G.Ground.told c.write_prefix.new.outside in
    let m = g.G.Ground.told c.write_mapping.new.outside in
    let d = g.G.Ground.told c.sync_pair.new.outside in
    let job = c.args.job.now in
    let attempt = job.attempt in
    let first = c.write_prefix.ensures.only told in
    let next = c.write_mapping.ensures.only told in
    let free_b = free_on (Only (Prefix attempt)) a b attempt first ready.free in
    let free_m = free_on (Only (Mapping attempt)) b m attempt next free_b in
    let copies = c.in-Ok.ensures.copies told ready gone_prefix in
    let gone_b = absent_on attempt (Mapping attempt) (Prefix attempt) a b ready.free refl (apart_pair attempt attempt) first gone_mapping in
    record {
      ok = files_written (byte_at a c.args.space.now) job c.args.runs.now b m d free_b copies.ok next (c.in-Ok-write_mapping.ensures.ok told free_b gone_b) (c.in-Ok-sync_pair.ensures.syncs told free_m);
      whole = λ no. absurd (cc no);
    }

pub returns-in-Ok-sync_pair-clause-only : goal.returns-in-Ok-sync_pair-clause-only
returns-in-Ok-sync_pair-clause-only g c told free =
    let a = g.G.Ground.told c.args.outside.now in
    let m = g.G.Ground.told c.write_mapping.new.outside in
    let attempt = c.args.job.now.attempt in
    let both = both_changed attempt a _ m (c.write_prefix.ensures.only told) (c.write_mapping.ensures.only told) in
    only_on _ _ _ (IsPairFile attempt) both (c.sync_pair.ensures.syncs told (free_on (IsPairFile attempt) a m attempt both free)).only

pub returns-in-Err-sync_pair-clause-only : goal.returns-in-Err-sync_pair-clause-only
returns-in-Err-sync_pair-clause-only g c told free =
    let a = g.G.Ground.told c.args.outside.now in
    let m = g.G.Ground.told c.write_mapping.new.outside in
    let attempt = c.args.job.now.attempt in
    let both = both_changed attempt a _ m (c.write_prefix.ensures.only told) (c.write_mapping.ensures.only told) in
    only_on _ _ _ (IsPairFile attempt) both (c.sync_pair.ensures.syncs told (free_on (IsPairFile attempt) a m attempt both free)).only
