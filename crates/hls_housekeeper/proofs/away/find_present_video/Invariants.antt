-- Before each round, the rendition found is the first video, among the renditions so far, whose encoder is there.
use Rattle.std.proofs.Common.{◌≡◌}
use Rattle.hls_housekeeper.specs.Away.{first_of, is_present_video}
use Rattle.hls_housekeeper.proofs.away.find_present_video.Given as goal

abbrev pub invariant-loop-rendition : goal.invariant-loop-rendition
invariant-loop-rendition l = l.found ≡ first_of (is_present_video l.snapshot l.silent) l.rendition
