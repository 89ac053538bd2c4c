-- The command that is built has the options of `serve` in their order, then an optional address, and then any number of renditions.
use Rattle.std.proofs.Common.{◌≡◌, ◌∙◌, ap₂, codes, rules}
use Rattle.std.proofs.lemmas.Result.{IfOk-weaker}
use Rattle.clap.specs.Words.{app_of, rule_of, with_rule}
use Rattle.clap.specs.Simple.{new_rule}
use Rattle.hls_settings.specs.Command.{channel_app, journal_app, options_app, server_app, serve_app, timing_app, words_rule}
use Rattle.hls_settings.proofs.command.serve_command.Goals as goal

pub returns : goal.returns
unfolding serve_app journal_app options_app server_app channel_app timing_app
returns c =
    let options : app_of c.in_ok-command.command ≡ journal_app = c.in_ok-command.ensures in
    let address : app_of c.in_ok-command-2.command ≡ with_rule journal_app (new_rule (codes "address")) = c.in_ok-command-2.ensures.shape c.new.ensures.optional.1 ∙ ap₂ with_rule options c.new.ensures.rule in
    let arguments : rule_of c.action-arguments.result ≡ words_rule (codes "renditions") = search rules in
    IfOk-weaker c.arg-2.result _ _ (λ made h. h.shape (search rules) ∙ ap₂ with_rule address arguments) c.arg-2.ensures
