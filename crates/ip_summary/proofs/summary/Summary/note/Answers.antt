use Rattle.std.proofs.Common.{rules, ◌≡◌, refl, ◌∙◌, ap, map, length}
use Rattle.std.proofs.lemmas.List.{with_items_is}
use Rattle.std.specs.Vec.{with_items}
use Rattle.ip_summary.specs.Tally.{noted}
use Rattle.ip_summary.proofs.Counting.{tallies_more}
use Rattle.ip_summary.proofs.Firsts.{before_stop}
use Rattle.ip_summary.proofs.summary.Summary.note.Goals as goal

pub returns : goal.returns
returns c replies reply is few tallied =
    let length_is : length c.note_word.new.entries ≡ c.args.self.now.entries.len = search rules in
    let each : c.note_word.new.entries ≡ map (noted c.first_word.result.now) c.args.self.now.entries.items = c.note_word.ensures ∙ ap (map (noted c.first_word.result.now)) c.deref_mut.ensures.value in
    let all : (with_items c.args.self.now.entries c.note_word.new.entries).items ≡ map (noted c.first_word.result.now) c.args.self.now.entries.items = with_items_is c.args.self.now.entries c.note_word.new.entries length_is ∙ each in
    tallies_more c.args.self.now (record { entries = with_items c.args.self.now.entries c.note_word.new.entries; line = c.args.self.now.line }) replies reply c.first_word.result.now all refl refl (before_stop reply c.first_word.result.now (λ word stop rest e. c.first_word.ensures word stop rest (is ∙ e))) few tallied
