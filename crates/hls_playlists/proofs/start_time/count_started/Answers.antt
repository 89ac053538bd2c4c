-- Counting one more segment doesn't overflow: the count is at most the number of the line's segments, whose numbers fit.
use Rattle.std.proofs.Common.{length, arith, ap}
use Rattle.hls_playlists.proofs.start_time.count_started.Goals as goal

pub overflow_add-count : goal.overflow_add-count
overflow_add-count c =
    let long = ap length c.in-Some.ensures in
    omega (arith, long, c.loop-segment.invariant.left, c.first_number.ensures.fits)
