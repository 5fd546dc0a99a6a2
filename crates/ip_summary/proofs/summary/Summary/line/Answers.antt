use Rattle.std.proofs.Common.{rules, ◌≡◌, ◌≤◌, ◌++◌, [], ◌∷◌, List, length, All, flat_map, vec_len, vec_capacity, decimal, codes, ◌∙◌, subst, ap, arith}
use Rattle.ip_summary.specs.declared.summary.Entry.{Entry}
use Rattle.ip_summary.specs.Tally.{entry_text}
use Rattle.ip_spec.specs.Path.{line_feed}
use Rattle.ip_summary.proofs.SummaryText.{few_entries, short_words, summary_text}
use Rattle.ip_summary.proofs.summary.Summary.line.Goals as goal

pub put_entries-requires-clause-short : goal.put_entries-requires-clause-short
put_entries-requires-clause-short c =
    let are : c.args.self.entries.items ≡ c.deref.result.now = search rules in
    subst (λ (es : List Entry). All (λ entry. length entry.word.now ≤ 11) es) are (short_words c.requires.tallied.0 c.args.self.entries.items c.requires.tallied.1.entries)

pub put_entries-requires-clause-room : goal.put_entries-requires-clause-room
put_entries-requires-clause-room c =
    let count : length c.args.self.entries.items ≡ 39 = few_entries c.requires.tallied.0 c.args.self.entries.items c.requires.tallied.1.entries in
    let same : length c.deref.result.now ≡ 39 = ap length c.deref.ensures.value ∙ count in
    let empty : c.args.self.line.items ≡ [] = c.requires.tallied.1.empty in
    let room : 2048 ≤ vec_capacity c.args.self.line = c.requires.tallied.1.room in
    let put : vec_len c.put_number.new.out ≤ 25 = search rules in
    let capacity : 2048 ≤ vec_capacity c.put_number.new.out = search rules in
    omega arith

pub returns : goal.returns
returns c replies tallied =
    let text : c.push.new.self.items ≡ codes "load " ++ decimal c.args.count ++ flat_map entry_text c.args.self.entries.items ++ line_feed ∷ [] = search rules in
    text ∙ summary_text c.args.count replies c.args.self.entries.items tallied.entries
