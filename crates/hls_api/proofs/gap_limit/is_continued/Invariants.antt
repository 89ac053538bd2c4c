-- Before each round, the flag says whether one of the renditions so far continues over the gap.
use Rattle.std.proofs.Common.{◌≡◌}
use Rattle.hls_api.specs.GapLimits.{any_continues}
use Rattle.hls_api.proofs.gap_limit.is_continued.Given as goal

abbrev pub invariant-loop-rendition : goal.invariant-loop-rendition
invariant-loop-rendition l = l.found ≡ any_continues l.fill_us l.from_us l.to_us l.snapshot l.rendition
