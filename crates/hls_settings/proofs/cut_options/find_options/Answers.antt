-- If `clap` accepts the arguments after `cut`, its matches give the options that the arguments set; if it refuses them, the fault is that of the
-- first invalid argument.
use Rattle.std.proofs.Common.{◌≡◌, ◌∙◌, ap}
use Rattle.clap.specs.Words.{is_simple_and_free, app_of}
use Rattle.hls_settings.proofs.OptionWords.{cut_is_simple_and_free, taken_words, refused_words}
use Rattle.hls_settings.specs.Options.{cut_app}
use Rattle.hls_settings.proofs.cut_options.find_options.Goals as goal

pub returns-in-Ok-try_get_matches_from : goal.returns-in-Ok-try_get_matches_from
returns-in-Ok-try_get_matches_from g c =
    let app_is : app_of c.in-Ok.command ≡ cut_app = c.in-Ok.ensures in
    taken_words _ _ c.in-Ok-try_get_matches_from.matches app_is c.in-Ok-try_get_matches_from.ensures.matches
    (c.in-Ok-try_get_matches_from.ensures.kinds (ap is_simple_and_free app_is ∙ cut_is_simple_and_free))

pub returns-in-Err : goal.returns-in-Err
returns-in-Err g c =
    let app_is : app_of c.in-Ok.command ≡ cut_app = c.in-Ok.ensures in
    refused_words _ _ c.in-Err.error _ app_is (rw (← c.find_wrong_argument.ensures) c.cut_fault_from_clap.ensures) (c.in-Err.ensures.kinds (ap is_simple_and_free app_is ∙ cut_is_simple_and_free))
