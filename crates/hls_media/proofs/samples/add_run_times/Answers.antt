-- The summary of the samples after a run is the defined one, and the duration grows by at most 2^61 ticks for each byte of the run.
use Rattle.std.proofs.Common.{rules, ◌^◌, ◌<◌, refl, arith}
use Rattle.hls_media.specs.SampleSummary.{samples_after_run}
use Rattle.hls_media.proofs.samples.add_run_times.Goals as goal

pub returns-clause-value : goal.returns-clause-value
unfolding samples_after_run
returns-clause-value c =
    rw (c.from.ensures, c.either.ensures, c.either-2.ensures, c.flags_after_run.ensures.value, c.sum_durations-durations.ensures.value, c.requires.is_run.count) refl

pub returns-clause-bound : goal.returns-clause-bound
returns-clause-bound c =
    let fits : c.sum_durations-durations.result.total < 2 ^ 64 = search rules in
    omega (arith, fits, c.requires.is_run.least, c.requires.is_run.fits, c.from.ensures)
