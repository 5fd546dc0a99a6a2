-- A directory of 32 entries is one leaf, one more makes an inode, and without it the name is what it was.
use Rattle.std.proofs.Common.{◌≡◌, ℕ, List, [], ◌∷◌, refl}
use Rattle.std.specs.Prelude.{codes, if◌then◌else◌}
use Rattle.std.specs.List.{join_with_byte}
use Rattle.ip_spec.specs.Path.{Bytes, Path, space, is_prefix}
use Rattle.ip_spec.specs.Record.{Info}
use Rattle.ip_spec.specs.Machine.{State, Command, Conditions, opened}
use Rattle.ip_spec.specs.Repository.{no_repository}
use Rattle.ip_spec.specs.Step.{quiet}
use Rattle.ip_spec.specs.Merge.{counter_merger, line_set_merger, same_merger}
use Rattle.ip_spec.specs.MergeModel.{Merger, machine, machine_runs}
use Rattle.ip_spec.specs.Text.{words_of, text_runs}
use Rattle.ip_spec.specs.Map.{from_entries}
use Rattle.ip_spec.specs.Tree.{Tree, put, remove}
use Rattle.ip_spec.specs.Shape.{root_name, shape_runs}

abbrev about : ℕ → Bytes → Bytes → Info
about date author message = record { date = date; author = author; message = message }

-- `count` to the counter, `lines` to sets of lines, and equal sides elsewhere
abbrev rules : Path → Merger
rules p = if is_prefix (codes "count" ∷ []) p then counter_merger else if is_prefix (codes "lines" ∷ []) p then line_set_merger else same_merger

abbrev texts_of : State → List (Command × Conditions) → List Bytes
texts_of s [] = []
texts_of s (c ∷ commands) = let t = machine rules s c.0 c.1 in join_with_byte space (words_of t.0) ∷ texts_of t.1 commands

unfoldable row_runs : Unit {0}
unfolding machine_runs text_runs
row_runs = tt

over_the_border : texts_of (opened no_repository)
    ((Command.Set (codes "k00" ∷ []) (1 ∷ []), quiet)
    ∷ (Command.Set (codes "k01" ∷ []) (1 ∷ []), quiet)
    ∷ (Command.Set (codes "k02" ∷ []) (1 ∷ []), quiet)
    ∷ (Command.Set (codes "k03" ∷ []) (1 ∷ []), quiet)
    ∷ (Command.Set (codes "k04" ∷ []) (1 ∷ []), quiet)
    ∷ (Command.Set (codes "k05" ∷ []) (1 ∷ []), quiet)
    ∷ (Command.Set (codes "k06" ∷ []) (1 ∷ []), quiet)
    ∷ (Command.Set (codes "k07" ∷ []) (1 ∷ []), quiet)
    ∷ (Command.Set (codes "k08" ∷ []) (1 ∷ []), quiet)
    ∷ (Command.Set (codes "k09" ∷ []) (1 ∷ []), quiet)
    ∷ (Command.Set (codes "k10" ∷ []) (1 ∷ []), quiet)
    ∷ (Command.Set (codes "k11" ∷ []) (1 ∷ []), quiet)
    ∷ (Command.Set (codes "k12" ∷ []) (1 ∷ []), quiet)
    ∷ (Command.Set (codes "k13" ∷ []) (1 ∷ []), quiet)
    ∷ (Command.Set (codes "k14" ∷ []) (1 ∷ []), quiet)
    ∷ (Command.Set (codes "k15" ∷ []) (1 ∷ []), quiet)
    ∷ (Command.Set (codes "k16" ∷ []) (1 ∷ []), quiet)
    ∷ (Command.Set (codes "k17" ∷ []) (1 ∷ []), quiet)
    ∷ (Command.Set (codes "k18" ∷ []) (1 ∷ []), quiet)
    ∷ (Command.Set (codes "k19" ∷ []) (1 ∷ []), quiet)
    ∷ (Command.Set (codes "k20" ∷ []) (1 ∷ []), quiet)
    ∷ (Command.Set (codes "k21" ∷ []) (1 ∷ []), quiet)
    ∷ (Command.Set (codes "k22" ∷ []) (1 ∷ []), quiet)
    ∷ (Command.Set (codes "k23" ∷ []) (1 ∷ []), quiet)
    ∷ (Command.Set (codes "k24" ∷ []) (1 ∷ []), quiet)
    ∷ (Command.Set (codes "k25" ∷ []) (1 ∷ []), quiet)
    ∷ (Command.Set (codes "k26" ∷ []) (1 ∷ []), quiet)
    ∷ (Command.Set (codes "k27" ∷ []) (1 ∷ []), quiet)
    ∷ (Command.Set (codes "k28" ∷ []) (1 ∷ []), quiet)
    ∷ (Command.Set (codes "k29" ∷ []) (1 ∷ []), quiet)
    ∷ (Command.Set (codes "k30" ∷ []) (1 ∷ []), quiet)
    ∷ (Command.Set (codes "k31" ∷ []) (1 ∷ []), quiet)
    ∷ (Command.Commit (codes "main") (about 0 (codes "a") (codes "m")), quiet)
    ∷ (Command.Set (codes "k32" ∷ []) (1 ∷ []), quiet)
    ∷ (Command.Commit (codes "main") (about 1 (codes "a") (codes "m")), quiet)
    ∷ (Command.Rm (codes "k32" ∷ []), quiet)
    ∷ (Command.Commit (codes "main") (about 2 (codes "a") (codes "m")), quiet) ∷ [])
    ≡ codes "ok"
    ∷ codes "ok"
    ∷ codes "ok"
    ∷ codes "ok"
    ∷ codes "ok"
    ∷ codes "ok"
    ∷ codes "ok"
    ∷ codes "ok"
    ∷ codes "ok"
    ∷ codes "ok"
    ∷ codes "ok"
    ∷ codes "ok"
    ∷ codes "ok"
    ∷ codes "ok"
    ∷ codes "ok"
    ∷ codes "ok"
    ∷ codes "ok"
    ∷ codes "ok"
    ∷ codes "ok"
    ∷ codes "ok"
    ∷ codes "ok"
    ∷ codes "ok"
    ∷ codes "ok"
    ∷ codes "ok"
    ∷ codes "ok"
    ∷ codes "ok"
    ∷ codes "ok"
    ∷ codes "ok"
    ∷ codes "ok"
    ∷ codes "ok"
    ∷ codes "ok"
    ∷ codes "ok"
    ∷ codes "committed ebe032a4f7a2b879be3c1b7a781d47d18c5c5a9afff98ffca77b2dfa3af0bf08"
    ∷ codes "ok"
    ∷ codes "committed b932bfac9cf319a1271174bfe60d3ebac214e904456b48162e63364b4343806d"
    ∷ codes "ok"
    ∷ codes "committed 7c9f3f693c2386c06c6699656b915847e8a00d8530d4667695d2ce4372fd9e40" ∷ []
unfolding row_runs
over_the_border = refl

-- as many steps from `k00` on, each with one byte
abbrev full : Tree
full = from_entries ((codes "k00" ∷ [], 1 ∷ [])
    ∷ (codes "k01" ∷ [], 1 ∷ [])
    ∷ (codes "k02" ∷ [], 1 ∷ [])
    ∷ (codes "k03" ∷ [], 1 ∷ [])
    ∷ (codes "k04" ∷ [], 1 ∷ [])
    ∷ (codes "k05" ∷ [], 1 ∷ [])
    ∷ (codes "k06" ∷ [], 1 ∷ [])
    ∷ (codes "k07" ∷ [], 1 ∷ [])
    ∷ (codes "k08" ∷ [], 1 ∷ [])
    ∷ (codes "k09" ∷ [], 1 ∷ [])
    ∷ (codes "k10" ∷ [], 1 ∷ [])
    ∷ (codes "k11" ∷ [], 1 ∷ [])
    ∷ (codes "k12" ∷ [], 1 ∷ [])
    ∷ (codes "k13" ∷ [], 1 ∷ [])
    ∷ (codes "k14" ∷ [], 1 ∷ [])
    ∷ (codes "k15" ∷ [], 1 ∷ [])
    ∷ (codes "k16" ∷ [], 1 ∷ [])
    ∷ (codes "k17" ∷ [], 1 ∷ [])
    ∷ (codes "k18" ∷ [], 1 ∷ [])
    ∷ (codes "k19" ∷ [], 1 ∷ [])
    ∷ (codes "k20" ∷ [], 1 ∷ [])
    ∷ (codes "k21" ∷ [], 1 ∷ [])
    ∷ (codes "k22" ∷ [], 1 ∷ [])
    ∷ (codes "k23" ∷ [], 1 ∷ [])
    ∷ (codes "k24" ∷ [], 1 ∷ [])
    ∷ (codes "k25" ∷ [], 1 ∷ [])
    ∷ (codes "k26" ∷ [], 1 ∷ [])
    ∷ (codes "k27" ∷ [], 1 ∷ [])
    ∷ (codes "k28" ∷ [], 1 ∷ [])
    ∷ (codes "k29" ∷ [], 1 ∷ [])
    ∷ (codes "k30" ∷ [], 1 ∷ [])
    ∷ (codes "k31" ∷ [], 1 ∷ []) ∷ [])

abbrev over_full : Tree
over_full = put full (codes "k32" ∷ []) (1 ∷ [])

a_leaf_of_32 : root_name full ≡ 195 ∷ 185 ∷ 163 ∷ 139 ∷ 141 ∷ 243 ∷ 203 ∷ 218 ∷ 160 ∷ 117 ∷ 73 ∷ 162 ∷ 234 ∷ 78 ∷ 213 ∷ 25 ∷ 27 ∷ 181 ∷ 209 ∷ 159 ∷ 180 ∷ 115 ∷ 198 ∷ 184 ∷ 83 ∷ 76 ∷ 13 ∷ 190 ∷ 179 ∷ 169 ∷ 149 ∷ 94 ∷ []
unfolding shape_runs
a_leaf_of_32 = refl

an_inode_of_33 : root_name over_full ≡ 234 ∷ 6 ∷ 239 ∷ 220 ∷ 38 ∷ 242 ∷ 108 ∷ 48 ∷ 112 ∷ 46 ∷ 207 ∷ 192 ∷ 12 ∷ 173 ∷ 144 ∷ 234 ∷ 8 ∷ 135 ∷ 80 ∷ 204 ∷ 236 ∷ 252 ∷ 79 ∷ 50 ∷ 234 ∷ 183 ∷ 221 ∷ 251 ∷ 60 ∷ 219 ∷ 88 ∷ 240 ∷ []
unfolding shape_runs
an_inode_of_33 = refl

-- the entry that came last goes, and the name is what it was
back_to_a_leaf : root_name (remove over_full (codes "k32" ∷ [])) ≡ 195 ∷ 185 ∷ 163 ∷ 139 ∷ 141 ∷ 243 ∷ 203 ∷ 218 ∷ 160 ∷ 117 ∷ 73 ∷ 162 ∷ 234 ∷ 78 ∷ 213 ∷ 25 ∷ 27 ∷ 181 ∷ 209 ∷ 159 ∷ 180 ∷ 115 ∷ 198 ∷ 184 ∷ 83 ∷ 76 ∷ 13 ∷ 190 ∷ 179 ∷ 169 ∷ 149 ∷ 94 ∷ []
unfolding shape_runs
back_to_a_leaf = refl
