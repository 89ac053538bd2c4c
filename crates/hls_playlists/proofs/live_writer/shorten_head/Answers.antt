-- Without the first segments, both sequence numbers fit: at most as many marks as segments are left out, and the next segment's number fits.
use Rattle.std.proofs.Common.{arith, ap}
use Rattle.hls_blocks.specs.Numbered.{next_of}
use Rattle.hls_playlists.proofs.live_writer.shorten_head.Goals as goal

pub overflow_add-result-2 : goal.overflow_add-result-2
overflow_add-result-2 c =
    let next = ap next_of c.segments.ensures in
    omega (arith, next, c.next.ensures.value, c.next.ensures.bound, c.requires.within, c.requires.few, c.count_marks.ensures.few)

pub returns-clause-marks : goal.returns-clause-marks
returns-clause-marks c =
    let next = ap next_of c.segments.ensures in
    omega (arith, next, c.next.ensures.value, c.next.ensures.bound, c.requires.within, c.requires.few, c.count_marks.ensures.few)
