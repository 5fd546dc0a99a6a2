use Rattle.std.proofs.Common.{rules, ◌≡◌, ◌<◌, ◌≤◌, ◌+◌, ◌*◌, ◌++◌, [], ◌∷◌, length, ◌^◌, subst, sym, refl}
use Rattle.std.proofs.lemmas.Bool.{false≢true}
use Rattle.ip_spec.specs.Record.{IsU64}
use Rattle.ip_image.specs.Virtual.{RowFits}
use Rattle.ip_mapping.specs.Parsing.{AreNumbers, IsBadAt, head_bytes}
use Rattle.ip_mapping.proofs.Order.{SoFar, one_more, greatest, numbers_push}
use Rattle.ip_mapping.proofs.Outcomes.{IsSmall, all_read, bad_row, place_fits, read_more, some_form}
use Rattle.ip_mapping.proofs.mapping.read_rows.Goals as goal
use Rattle.ip_mapping.proofs.mapping.read_rows.Goals.{After-len}

-- the place of a row's first byte fits, since the row lies within the bytes
place_small : (c : After-len) → 32 + 24 * c.len.result < 2 ^ 64
place_small c =
    let k = c.loop-row.invariant in
    let small : IsSmall c.args.head.now = search rules in
    let long : length c.args.bytes.now < 2 ^ 64 = search rules in
    let len : length c.loop-row.rows.items ≡ c.len.result = search rules in
    place_fits c.args.head.now c.args.bytes.now small c.loop-row.from c.loop-row.place c.loop-row.rows.items c.loop-row.left.now k.read k.numbers k.known c.requires
    c.in-Some.row c.in-Some.rest.now c.in-Some.ensures long c.len.result len

pub overflow_mul-result : goal.overflow_mul-result
overflow_mul-result c = let p = place_small c in search rules

pub overflow_add-result : goal.overflow_add-result
overflow_add-result c = let p = place_small c in search rules

pub returns-in_default : goal.returns-in_default
returns-in_default c =
    let small : IsSmall c.args.head.now = search rules in
    some_form c.args.head.now c.args.bytes.now small (λ i. let fits = c.type_inv.bytes i in search rules) c.requires

pub returns-then-is_err : goal.returns-then-is_err
returns-then-is_err c =
    let small : IsSmall c.args.head.now = search rules in
    some_form c.args.head.now c.args.bytes.now small (λ i. let fits = c.type_inv.bytes i in search rules) c.requires

pub returns-then-not-fits : goal.returns-then-not-fits
returns-then-not-fits c =
    let k = c.loop-row.invariant in
    let small : IsSmall c.args.head.now = search rules in
    let len : length c.loop-row.rows.items ≡ c.len.result = search rules in
    let bound : IsU64 c.in-Some.row.at × IsU64 c.in-Some.row.length × IsU64 c.in-Some.row.place = search rules in
    let refused : ¬ (RowFits c.args.head.now.horizon c.loop-row.from c.loop-row.place c.in-Some.row) = (λ f. absurd (false≢true (c.if-not-fits.ensures.1 f))) in
    subst (λ n. IsBadAt (head_bytes c.args.head.now ++ c.args.bytes.now) (32 + 24 * n)) len
    (bad_row c.args.head.now c.args.bytes.now small c.loop-row.from c.loop-row.place c.loop-row.rows.items c.loop-row.left.now k.read k.numbers k.known c.requires
    c.in-Some.row c.in-Some.rest.now c.in-Some.ensures bound (λ i. let fits = c.type_inv.bytes i in search rules) refused)

pub loop-row-preserved : goal.loop-row-preserved
loop-row-preserved c =
    let k = c.loop-row.invariant in
    let bound : IsU64 c.in-Some.row.at × IsU64 c.in-Some.row.length × IsU64 c.in-Some.row.place = search rules in
    let small : c.args.head.now.horizon ≤ greatest = search rules in
    let fits : RowFits c.args.head.now.horizon c.loop-row.from c.loop-row.place c.in-Some.row = c.if-not-fits.ensures.0 refl in
    let pushed : c.push.new.self.items ≡ c.loop-row.rows.items ++ c.in-Some.row ∷ [] = search rules in
    let known = one_more c.args.head.now.horizon c.loop-row.from c.loop-row.place c.loop-row.rows.items c.in-Some.row small k.known fits in
    record {
      read = read_more c.args.bytes.now c.loop-row.left.now c.in-Some.rest.now c.loop-row.rows.items c.push.new.self.items c.in-Some.row k.read c.in-Some.ensures pushed;
      numbers = subst AreNumbers (sym pushed) (numbers_push c.loop-row.rows.items c.in-Some.row k.numbers bound);
      known = subst (λ items. SoFar c.args.head.now.horizon c.saturating_add-from.result (c.loop-row.place + c.in-Some.row.length) items) (sym pushed)
          (subst (λ n. SoFar c.args.head.now.horizon n (c.loop-row.place + c.in-Some.row.length) (c.loop-row.rows.items ++ c.in-Some.row ∷ [])) (sym c.saturating_add-from.ensures) known);
    }

pub returns : goal.returns
returns c =
    let k = c.loop-row.invariant in
    let small : IsSmall c.args.head.now = search rules in
    all_read c.args.head.now c.args.bytes.now small c.loop-row.from c.loop-row.place c.loop-row.rows.items c.loop-row.left.now k.read k.numbers k.known c.requires c.in_default-take_row.ensures
