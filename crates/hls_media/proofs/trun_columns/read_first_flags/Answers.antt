-- The flags of a run's first sample are those that the run has for it, otherwise those in its row, otherwise the default.
use Rattle.std.proofs.Common.{refl}
use Rattle.hls_media_laws.specs.Runs.{first_sample_flags}
use Rattle.hls_media.proofs.trun_columns.read_first_flags.Goals as goal

pub returns-clause-value : goal.returns-clause-value
unfolding first_sample_flags
returns-clause-value c =
    rw (c.or-2.ensures, c.or.ensures, c.read_optional_field.ensures.value, c.field_len.ensures, c.field_len-2.ensures, c.requires.is_run.first_flags, c.requires.is_run.flags, c.requires.is_run.rows) refl
