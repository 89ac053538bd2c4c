-- The name of a run, copied without the zero bytes that fill it up, is valid UTF-8.
use Rattle.std.proofs.Common.{◌∙◌, subst, sym}
use Rattle.std.specs.Prelude.{IsUtf8}
use Rattle.hls_jobs.proofs.PathTexts.{run_utf8}
use Rattle.hls_jobs.proofs.programme_files.run_name.Goals as goal

pub from_known_utf8-requires : goal.from_known_utf8-requires
from_known_utf8-requires c =
    subst IsUtf8 (sym (c.in_ok-copy_from_slice.ensures ∙ c.run_name.ensures.value)) (run_utf8 c.args.base.now c.run_name.ensures.valid)
