-- The marks so far and those of the segments left are the marks of the first n segments.
use Rattle.std.proofs.Common.{◌≡◌, ℕ, suc, ◌+◌, ◌-◌, length, arith, ap}
use Rattle.hls_places_laws.specs.Line.Lengths.{marks_in}
use Rattle.hls_playlists.proofs.ShortTexts.{mark-few, marks-next}
use Rattle.hls_playlists.proofs.live_writer.count_marks.Goals as goal

pub loop-next-preserved : goal.loop-next-preserved
loop-next-preserved c =
    let n = c.args.n in
    let k = c.loop-next.next in
    let x = c.in-Some.segment.now in
    let rest = c.next_segment.new.walk in
    let below = c.loop-next-test.true in
    let long = ap length c.in-Some.ensures in
    let number : n - k ≡ suc (n - (k + 1)) = omega (arith, below) in
    let next = marks-next (n - (k + 1)) c.loop-next.walk rest x c.in-Some.ensures in
    let here = ap (λ (m : ℕ). marks_in m c.loop-next.walk) number in
    let one = mark-few x.mark in
    record {
      within = omega (arith, below);
      left = omega (arith, below, long, c.loop-next.invariant.left);
      few = omega (arith, one, c.mark_count-marks.ensures, c.loop-next.invariant.few);
      marks = omega (arith, next, here, c.mark_count-marks.ensures, c.loop-next.invariant.marks);
    }
