-- The placement after a run is the defined one. If its base and its end were within n times 2^62 of 0, the new end is within n plus the
-- content's length times that.
use Rattle.std.proofs.Common.{rules, ◌+◌, ◌^◌, ◌<◌, length, refl, arith}
use Rattle.hls_media_laws.specs.Runs.{run_begin}
use Rattle.hls_media.specs.RunPlacement.{placement_after_run}
use Rattle.hls_media.specs.DurationBounds.{near-more}
use Rattle.hls_media.proofs.run_placement.add_run.Goals as goal

pub returns-clause-value : goal.returns-clause-value
unfolding placement_after_run run_begin
returns-clause-value c =
    rw (c.end_run.ensures.value, c.either-lacking.ensures, c.either-outside.ensures, c.is_outside.ensures, c.find_extent-extent.ensures.value, c.sum_sizes-sizes.ensures.value, c.requires.is_run.offset) refl

pub returns-clause-near : goal.returns-clause-near
returns-clause-near c = λ n base end.
    let fits : c.find_extent-extent.result.len < 2 ^ 64 = search rules in
    near-more (n + 8) (n + length c.args.content.now) c.end_run.result.end (omega (arith, c.requires.is_run.least, c.requires.is_run.fits))
    (c.end_run.ensures.near n (c.find_extent-extent.ensures.around n base end) fits)
