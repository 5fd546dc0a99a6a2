use Rattle.std.proofs.Common.{ap, ap₂, ◌∙◌}
use Rattle.std.proofs.lemmas.Result.{IfOk-weaker}
use Rattle.clap.specs.Words.{App, with_subcommand}
use Rattle.ip_words.proofs.command_line.Goals as goal

pub returns : goal.returns
returns c =
    let init = c.in_ok-init_line.ensures in
    let serve = c.in_ok-serve_line.ensures in
    let worker = c.in_ok-worker_line.ensures in
    let load = c.in_ok-load_line.ensures in
    let first = c.in_ok-subcommand.ensures.shape init.local ∙ ap₂ with_subcommand c.new.ensures.app (ap (λ (a : App). a.top) init.is_line) in
    let second = c.in_ok-subcommand-2.ensures.shape serve.local ∙ ap₂ with_subcommand first (ap (λ (a : App). a.top) serve.is_line) in
    let third = c.in_ok-subcommand-3.ensures.shape worker.local ∙ ap₂ with_subcommand second (ap (λ (a : App). a.top) worker.is_line) in
    IfOk-weaker c.subcommand-4.result _ _ (λ command h. h.shape load.local ∙ ap₂ with_subcommand third (ap (λ (a : App). a.top) load.is_line)) c.subcommand-4.ensures
