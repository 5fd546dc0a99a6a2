use Rattle.std.proofs.Common.{rules, ◌≡◌, ◌≤◌, length, refl, sym, ap, ◌∙◌, subst, Some, IsTrue, codes}
use Rattle.std.specs.Prelude.{slice_get, option_map, string_bytes}
use Rattle.std.proofs.lemmas.Option.{slice_get-map, slice_get_past, slice_get_read}
use Rattle.ip_words.specs.Words.{texts_of}
use Rattle.ip_app.proofs.program.folder_for.Goals.{in_default-via-in-Some+else-eq, in_default-via-in_default}
use Rattle.ip_app.proofs.program.folder_for.Goals as goal

pub returns-in-Some : goal.returns-in-Some
returns-in-Some c =
    let words = c.args.words.now in
    let word = c.in-Some.word.now in
    let there : slice_get words 1 ≡ Some word = slice_get_read words (length words) 1 word refl c.in-Some.ensures.lookup.3.0 c.in-Some.ensures.lookup.1 in
    let text : string_bytes word ≡ codes "worker" = search rules in
    record { beside = ((λ is. slice_get-map string_bytes words 1 ∙ (ap (option_map string_bytes) there ∙ ap Some text)), λ named. subst IsTrue (sym c.beside.ensures.beside) refl) }

pub returns-in_default : goal.returns-in_default
returns-in_default c = record { beside = ((λ is. absurd (cc (is, c.new.ensures.beside))), λ named. absurd (another named)) }
  where
    another : slice_get (texts_of c.args.words.now) 1 ≡ Some (codes "worker") → ⊥
    another named = elim c.in_default.branch [
      | in_default-via-in-Some+else-eq w ↦
          let words = c.args.words.now in
          let word = w.in-Some.word.now in
          let there : slice_get words 1 ≡ Some word = slice_get_read words (length words) 1 word refl w.in-Some.ensures.lookup.3.0 w.in-Some.ensures.lookup.1 in
          let same : Some (string_bytes word) ≡ Some (codes "worker") = sym (ap (option_map string_bytes) there) ∙ (sym (slice_get-map string_bytes words 1) ∙ named) in
          let text : string_bytes word ≡ codes "worker" = cc same in
          search (rules, text)
      | in_default-via-in_default w ↦
          let short : length c.args.words.now ≤ 1 = search rules in
          absurd (cc (named, slice_get-map string_bytes c.args.words.now 1 ∙ ap (option_map string_bytes) (slice_get_past c.args.words.now 1 short)))
    ]
