-- Clap's walk over words that go to positionals, one after the other, and over those of a child.
--     Goes shape walk words end      the walk goes over the words from here to there, and refuses none of them
use Rattle.std.proofs.Common.{refl, sym, ap, ap₂, ◌∙◌, ◌≡◌, ℕ, false, List, [], ◌∷◌, map, Some, None, codes, rules}
use Rattle.std.specs.List.{fold}
use Rattle.std.specs.Option.{is_some}
use Rattle.clap.specs.Facts.{parser_of_value}
use Rattle.clap.specs.Faults.{check_fault, defaults_fault, entered_fault, fault_of, level_fault, settle_fault, step_fault, turn_fault, walk_fault}
use Rattle.clap.specs.Kinds.{Kinds, or_else}
use Rattle.clap.specs.Simple.{App, Shape, built, built_leaf, entered, names_of, subcommand_of}
use Rattle.clap.specs.Values.{reading_of}
use Rattle.clap.specs.Walk.{Held, Row, Rule, Walk, arg_by_index, finished, idle, nothing_held, rows_after, settled, to_positional, value, walk, walk_from, walked}
use Rattle.clap.specs.declared.builder.value_parser.ValueParser.TheVariants as parser
use Rattle.clap.specs.declared.parser.matches.ValueSource.TheVariants.{CommandLine}
use Rattle.clap.proofs.FaultLemmas.{stopped_fault}
use Rattle.clap.proofs.WalkLemmas.{walk_stopped}
use Rattle.ip_spec.specs.Path.{Bytes}
use Rattle.ip_words.specs.Words.{command_line, worker_line}
use Rattle.ip_words.proofs.Numbers.{IsDashless}

-- ---- a word that goes to a positional

-- the walk before the position n
abbrev at : Held → ℕ → Walk
at h n = record { held = h; waiting = idle; position = n; is_trailing = false; stopped = None }

stepped : (c : List Rule) (h : Held) (n : ℕ) (word : Bytes) → IsDashless word → walked c [] (at h n) word ≡ to_positional c (arg_by_index c n) word (at h n) h
unfolding walked
stepped c h n [] d = absurd d
stepped c h n (x ∷ rest) d = search (rules, d)

no_flag : (s : Shape) (h : Held) (n : ℕ) (word : Bytes) → IsDashless word → turn_fault s [] (at h n) word ≡ step_fault s n h value
no_flag s h n [] d = absurd d
no_flag s h n (x ∷ rest) d = search (rules, d)

record Goes (s : Shape) (w : Walk) (words : List Bytes) (end : Walk) : Type 0 where
  pub walks : fold (walked s.rules []) w words ≡ end
  pub passes : walk_fault s [] w words ≡ []

ends : (s : Shape) (w : Walk) → Goes s w [] w
unfolding walk_fault
ends s w = record { walks = refl; passes = refl }

goes_on : (s : Shape) (h : Held) (n : ℕ) (word : Bytes) (rest : List Bytes) (next end : Walk) → IsDashless word
    → to_positional s.rules (arg_by_index s.rules n) word (at h n) h ≡ next → step_fault s n h value ≡ [] → Goes s next rest end → Goes s (at h n) (word ∷ rest) end
unfolding walk_fault
goes_on s h n word rest next end d moves none more =
    let step = stepped s.rules h n word d ∙ moves in
    record {
      walks = ap (λ (w : Walk). fold (walked s.rules []) w rest) step ∙ more.walks;
      passes = ap₂ (λ (k : Kinds) (w : Walk). or_else k (walk_fault s [] w rest)) (no_flag s h n word d ∙ none) step ∙ more.passes;
    }

-- ---- the words of a child

abbrev pub child : Shape
child = built_leaf worker_line.top

-- what was found, and the last argument with its word, which waits
abbrev found : Bytes × Bytes → Row
found (id, word) = record { id = id; values = word ∷ []; count = None; source = Some CommandLine; reading = reading_of (parser_of_value (Some parser.String)) }

abbrev holding : List (Bytes × Bytes) → Bytes → Bytes → Held
holding before id word = record { rows = map found before; pending = Some (id, word ∷ []); skip = 0 }

abbrev last_held : (w0 w1 w2 w3 w4 w5 w6 w7 w8 : Bytes) → Held
last_held w0 w1 w2 w3 w4 w5 w6 w7 w8 =
    holding ((codes "DIR", w0) ∷ (codes "J1", w1) ∷ (codes "J2", w2) ∷ (codes "J3", w3) ∷ (codes "J4", w4) ∷ (codes "J5", w5) ∷ (codes "J6", w6) ∷ (codes "J7", w7) ∷ []) (codes "J8") w8

child_goes : (w0 w1 w2 w3 w4 w5 w6 w7 w8 : Bytes)
    → IsDashless w0 → IsDashless w1 → IsDashless w2 → IsDashless w3 → IsDashless w4 → IsDashless w5 → IsDashless w6 → IsDashless w7 → IsDashless w8
    → Goes child (walk_from nothing_held) (w0 ∷ w1 ∷ w2 ∷ w3 ∷ w4 ∷ w5 ∷ w6 ∷ w7 ∷ w8 ∷ []) (at (last_held w0 w1 w2 w3 w4 w5 w6 w7 w8) 10)
child_goes w0 w1 w2 w3 w4 w5 w6 w7 w8 d0 d1 d2 d3 d4 d5 d6 d7 d8 =
    let e0 : Bytes × Bytes = (codes "DIR", w0) in
    let e1 : Bytes × Bytes = (codes "J1", w1) in
    let e2 : Bytes × Bytes = (codes "J2", w2) in
    let e3 : Bytes × Bytes = (codes "J3", w3) in
    let e4 : Bytes × Bytes = (codes "J4", w4) in
    let e5 : Bytes × Bytes = (codes "J5", w5) in
    let e6 : Bytes × Bytes = (codes "J6", w6) in
    let e7 : Bytes × Bytes = (codes "J7", w7) in
    let h1 = holding [] (codes "DIR") w0 in
    let h2 = holding (e0 ∷ []) (codes "J1") w1 in
    let h3 = holding (e0 ∷ e1 ∷ []) (codes "J2") w2 in
    let h4 = holding (e0 ∷ e1 ∷ e2 ∷ []) (codes "J3") w3 in
    let h5 = holding (e0 ∷ e1 ∷ e2 ∷ e3 ∷ []) (codes "J4") w4 in
    let h6 = holding (e0 ∷ e1 ∷ e2 ∷ e3 ∷ e4 ∷ []) (codes "J5") w5 in
    let h7 = holding (e0 ∷ e1 ∷ e2 ∷ e3 ∷ e4 ∷ e5 ∷ []) (codes "J6") w6 in
    let h8 = holding (e0 ∷ e1 ∷ e2 ∷ e3 ∷ e4 ∷ e5 ∷ e6 ∷ []) (codes "J7") w7 in
    let h9 = holding (e0 ∷ e1 ∷ e2 ∷ e3 ∷ e4 ∷ e5 ∷ e6 ∷ e7 ∷ []) (codes "J8") w8 in
    let end = at h9 10 in
    goes_on child nothing_held 1 w0 _ (at h1 2) end d0 refl refl (goes_on child h1 2 w1 _ (at h2 3) end d1 refl refl (goes_on child h2 3 w2 _ (at h3 4) end d2 refl refl
    (goes_on child h3 4 w3 _ (at h4 5) end d3 refl refl (goes_on child h4 5 w4 _ (at h5 6) end d4 refl refl (goes_on child h5 6 w5 _ (at h6 7) end d5 refl refl
    (goes_on child h6 7 w6 _ (at h7 8) end d6 refl refl (goes_on child h7 8 w7 _ (at h8 9) end d7 refl refl (goes_on child h8 9 w8 _ end end d8 refl refl (ends child end)))))))))

-- one level of the parse, where the walk ends like this
level_after : (words : List Bytes) (end : Walk) → Goes child (walk_from nothing_held) words end
    → or_else (settle_fault child.rules child.args_override_self end.held) (or_else (defaults_fault (settled child.rules end.held).rows child.rules) (check_fault child (finished child.rules end.held) false)) ≡ []
    → level_fault child [] nothing_held words false [] ≡ []
level_after words end goes none =
    ap₂ (λ (k : Kinds) (w : Walk). or_else k (or_else (settle_fault child.rules child.args_override_self w.held) (or_else (defaults_fault (settled child.rules w.held).rows child.rules) (check_fault child (finished child.rules w.held) false)))) goes.passes goes.walks ∙ none

last_fault : (w0 w1 w2 w3 w4 w5 w6 w7 w8 : Bytes) → let h = last_held w0 w1 w2 w3 w4 w5 w6 w7 w8 in
    or_else (settle_fault child.rules child.args_override_self h) (or_else (defaults_fault (settled child.rules h).rows child.rules) (check_fault child (finished child.rules h) false)) ≡ []
unfolding defaults_fault
last_fault w0 w1 w2 w3 w4 w5 w6 w7 w8 = refl

-- ---- the words before them

abbrev above : App
above = built command_line

abbrev entering : List Bytes → Walk
entering words = record (walk_from nothing_held) { stopped = Some (codes "worker", words) }

enters : (words : List Bytes) → walk above.top.rules (names_of above) nothing_held (codes "worker" ∷ words) ≡ entering words
unfolding walked
enters words = sym (walk_stopped above.top.rules (names_of above) (walk_from nothing_held) (codes "worker") [] words)

child_read : (program : Bytes) (words : List Bytes) → subcommand_of command_line (program ∷ codes "worker" ∷ words) ≡ Some (codes "worker", rows_after child.rules [] words)
child_read program words = ap (λ (w : Walk). entered above w.stopped) (enters words)

first_passes : (words : List Bytes) → walk_fault above.top (names_of above) (walk_from nothing_held) (codes "worker" ∷ words) ≡ []
unfolding walk_fault walked
first_passes words = stopped_fault above.top (names_of above) (walk_from nothing_held) (codes "worker", []) words

abbrev whole_fault : Walk → Kinds → Kinds → Kinds
whole_fault w k below = or_else k (or_else below (or_else (settle_fault above.top.rules above.top.args_override_self w.held)
    (or_else (defaults_fault (settled above.top.rules w.held).rows above.top.rules) (check_fault above.top (finished above.top.rules w.held) (is_some (entered above w.stopped))))))

child_taken : (program : Bytes) (words : List Bytes) → level_fault child [] nothing_held words false [] ≡ [] → fault_of command_line (program ∷ codes "worker" ∷ words) ≡ []
unfolding defaults_fault
child_taken program words below =
    ap (λ (w : Walk). whole_fault w (walk_fault above.top (names_of above) (walk_from nothing_held) (codes "worker" ∷ words)) (entered_fault above w.stopped)) (enters words)
    ∙ ap₂ (λ (k b : Kinds). whole_fault (entering words) k b) (first_passes words) below

-- ---- both

pub all_taken : (program w0 w1 w2 w3 w4 w5 w6 w7 w8 : Bytes)
    → IsDashless w0 → IsDashless w1 → IsDashless w2 → IsDashless w3 → IsDashless w4 → IsDashless w5 → IsDashless w6 → IsDashless w7 → IsDashless w8
    → fault_of command_line (program ∷ codes "worker" ∷ w0 ∷ w1 ∷ w2 ∷ w3 ∷ w4 ∷ w5 ∷ w6 ∷ w7 ∷ w8 ∷ []) ≡ []
all_taken program w0 w1 w2 w3 w4 w5 w6 w7 w8 d0 d1 d2 d3 d4 d5 d6 d7 d8 =
    child_taken program _ (level_after _ _ (child_goes w0 w1 w2 w3 w4 w5 w6 w7 w8 d0 d1 d2 d3 d4 d5 d6 d7 d8) (last_fault w0 w1 w2 w3 w4 w5 w6 w7 w8))

pub all_read : (program w0 w1 w2 w3 w4 w5 w6 w7 w8 : Bytes)
    → IsDashless w0 → IsDashless w1 → IsDashless w2 → IsDashless w3 → IsDashless w4 → IsDashless w5 → IsDashless w6 → IsDashless w7 → IsDashless w8
    → subcommand_of command_line (program ∷ codes "worker" ∷ w0 ∷ w1 ∷ w2 ∷ w3 ∷ w4 ∷ w5 ∷ w6 ∷ w7 ∷ w8 ∷ []) ≡ Some (codes "worker", finished child.rules (last_held w0 w1 w2 w3 w4 w5 w6 w7 w8))
all_read program w0 w1 w2 w3 w4 w5 w6 w7 w8 d0 d1 d2 d3 d4 d5 d6 d7 d8 =
    child_read program (w0 ∷ w1 ∷ w2 ∷ w3 ∷ w4 ∷ w5 ∷ w6 ∷ w7 ∷ w8 ∷ []) ∙ ap (λ (w : Walk). Some (codes "worker", finished child.rules w.held)) (child_goes w0 w1 w2 w3 w4 w5 w6 w7 w8 d0 d1 d2 d3 d4 d5 d6 d7 d8).walks
