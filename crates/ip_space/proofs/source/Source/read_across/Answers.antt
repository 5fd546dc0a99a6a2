use Rattle.std.proofs.Common.{rules, ◌≡◌, ℕ, ◌+◌, ◌-◌, ◌≤◌, List, length, sym, ◌∙◌, ap, subst, arith, Ok, Option}
use Rattle.ip_ground.specs.Told.{NoFile}
use Rattle.ip_ground.proofs.Spans.{only_on}
use Rattle.ip_space.specs.SpaceView.{byte_at}
use Rattle.ip_space.specs.Viewed.{view_of}
use Rattle.ip_space.specs.Ahead.{ReadsBytes}
use Rattle.ip_space.proofs.Kept.{behind_run, read_short, read_to_gap, read_both}
use Rattle.ip_space.proofs.Stayed.{byte_stays}
use Rattle.ip_space.proofs.StoodBytes.{alike}
use Rattle.ip_space.proofs.source.Source.read_across.Goals as goal
use Rattle.ip_space.proofs.source.Source.read_across.Goals.{then-count-left-via-then-count-left, then-count-left-via-else-count-left+then-behind-self}

pub returns-then-count-left-clause-reads : goal.returns-then-count-left-clause-reads
returns-then-count-left-clause-reads g c told readable =
    let space = view_of c.args.self.now in
    let f : ℕ → Option ℕ = byte_at (g.G.Ground.told c.args.outside.now) space in
    let left : ℕ = c.args.row.now.at + c.args.row.now.length - c.args.at in
    let size : length c.read_run.new.out ≡ left = search rules in
    let fits : c.in_ok-count.count ≤ left = search rules in
    let front : ReadsBytes f c.args.at left c.read_run.new.out (Ok c.in_ok-count.count) =
    subst (λ (n : ℕ). ReadsBytes f c.args.at n c.read_run.new.out (Ok c.in_ok-count.count)) c.split_at_mut-front.ensures.front_len (c.in_ok-count.ensures.reads told readable) in
    elim c.then-count-left.branch [
      | then-count-left-via-then-count-left w ↦
          subst (λ (out : List ℕ). ReadsBytes f c.args.at (length c.args.out.now) out (Ok c.in_ok-count.count)) (sym w.out-is)
          (read_short f c.args.at left c.in_ok-count.count c.read_run.new.out c.split_at_mut-front.result.1.now (length c.args.out.now) front size fits w.if-count-left.true)
      | then-count-left-via-else-count-left+then-behind-self w ↦
          let over = w.if-count-left.false in
          let low = c.requires.row.to in
          let place : c.args.at + left ≡ c.args.row.now.at + c.args.row.now.length = omega (arith, low) in
          subst (λ (out : List ℕ). ReadsBytes f c.args.at (length c.args.out.now) out (Ok c.in_ok-count.count)) (sym w.out-is)
          (read_to_gap f c.args.at left c.in_ok-count.count c.read_run.new.out c.split_at_mut-front.result.1.now (length c.args.out.now) front size fits (omega (arith, over, fits))
          (ap f place ∙ behind_run c.args.self.now c.requires.source c.args.at c.args.row.now c.requires.row (g.G.Ground.told c.args.outside.now).held w.if-behind-self.true))
    ]

pub returns-in_err-more-clause-only : goal.returns-in_err-more-clause-only
returns-in_err-more-clause-only g c told = only_on _ _ _ NoFile (c.in_ok-count.ensures.only told) (c.in_err-more.ensures.only told)

pub returns-clause-only : goal.returns-clause-only
returns-clause-only g c told = only_on _ _ _ NoFile (c.in_ok-count.ensures.only told) (c.in_ok-more.ensures.only told)

pub returns-clause-reads : goal.returns-clause-reads
returns-clause-reads g c told readable =
    let space = view_of c.args.self.now in
    let old = g.G.Ground.told c.args.outside.now in
    let f : ℕ → Option ℕ = byte_at old space in
    let left : ℕ = c.args.row.now.at + c.args.row.now.length - c.args.at in
    let size : length c.read_run.new.out ≡ left = search rules in
    let fits : c.in_ok-count.count ≤ left = search rules in
    let over = c.if-count-left.false in
    let low = c.requires.row.to in
    let place : c.args.row.now.at + c.args.row.now.length ≡ c.args.at + left = omega (arith, low) in
    let front : ReadsBytes f c.args.at left c.read_run.new.out (Ok c.in_ok-count.count) =
    subst (λ (n : ℕ). ReadsBytes f c.args.at n c.read_run.new.out (Ok c.in_ok-count.count)) c.split_at_mut-front.ensures.front_len (c.in_ok-count.ensures.reads told readable) in
    let same : byte_at (g.G.Ground.told c.read_run.new.outside) space ≡ f = alike f (byte_at (g.G.Ground.told c.read_run.new.outside) space) (byte_stays old (g.G.Ground.told c.read_run.new.outside) (c.in_ok-count.ensures.only told) space readable) in
    let back : ReadsBytes f (c.args.at + left) (length c.split_at_mut-front.result.1.now) c.read_chunks.new.out (Ok c.in_ok-more.more) =
    subst (λ (n : ℕ). ReadsBytes f n (length c.split_at_mut-front.result.1.now) c.read_chunks.new.out (Ok c.in_ok-more.more)) place
    (subst (λ (h : ℕ → Option ℕ). ReadsBytes h (c.args.row.now.at + c.args.row.now.length) (length c.split_at_mut-front.result.1.now) c.read_chunks.new.out (Ok c.in_ok-more.more)) same (c.in_ok-more.ensures.reads told)) in
    let all = c.split_at_mut-front.ensures.back_len in
    read_both f c.args.at left c.in_ok-count.count c.read_run.new.out c.read_chunks.new.out (length c.args.out.now) front size fits (omega (arith, over, fits)) c.in_ok-more.more
    (length c.split_at_mut-front.result.1.now) (omega (arith, all)) back
