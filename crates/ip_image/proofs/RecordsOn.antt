-- The records of an image that goes on.
--     records_go_on      where it has the bytes of another image's records and behind them those of more, its records are these
use Rattle.std.proofs.Common.{ℕ, [], ◌++◌, sym, subst}
use Rattle.std.proofs.lemmas.List.Elements.{recursion_from_All}
use Rattle.std.specs.List.{AllByRecursion}
use Rattle.ip_spec.specs.declared.record.Record.{Record}
use Rattle.ip_spec.specs.Record.{Fits}
use Rattle.ip_image.specs.Slot.{layout_of}
use Rattle.ip_image.specs.Appending.{RecordsGoOn}
use Rattle.ip_image.proofs.OneRepository.{good_fit}
use Rattle.ip_image.proofs.InChunk.{lies_on, one_lies, chunk_lies, chunk_good}
use Rattle.ip_image.proofs.TreeParts.{all_join}

pub records_go_on : RecordsGoOn
records_go_on image other s t new before after live live' same ends fits adds =
    one_lies t.version (layout_of t) other after.records (before.records ++ new) live'.live.fields.horizon
    (good_fit t [] after.records (chunk_good other t live' after))
    (all_join (λ (x : ℕ × Record). Fits t.version x.1) before.records new
    (subst (λ (v : ℕ). AllByRecursion (λ (x : ℕ × Record). Fits v x.1) before.records) (sym same.version) (good_fit s [] before.records (chunk_good image s live before)))
    (recursion_from_All (λ (x : ℕ × Record). Fits t.version x.1) new fits))
    (chunk_lies other t live' after)
    (lies_on s t image other live.live.fields.none_live.0 same before.records new (chunk_lies image s live before) ends adds)
