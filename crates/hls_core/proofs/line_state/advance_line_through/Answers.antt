-- A line that has advanced through the places so far, and then through the next one, has advanced through all of these; at the end, through all.
use Rattle.std.proofs.Common.{◌∙◌, arith}
use Rattle.hls_core.proofs.Cited.{at_read}
use Rattle.hls_core.proofs.Moved.{told_next, told_end}
use Rattle.hls_core.proofs.line_state.advance_line_through.Goals as goal

pub loop-place-preserved : goal.loop-place-preserved
loop-place-preserved c =
    told_next c.args.line.now.value c.args.places.now c.loop-place.all.value c.in_ok-all-2.all.value c.args.places.now
    c.loop-place.place-index _ (at_read _ _ _ c.loop-place-test.true c.place-item.is) c.loop-place.invariant
    (c.in_ok-all-2.ensures ∙ rw c.deref.ensures at c.in_ok-progress.ensures)

pub returns : goal.returns
returns c =
    told_end c.args.line.now.value c.args.places.now c.loop-place.all.value c.args.places.now c.loop-place.place-index
    (omega (arith, c.loop-place-test.false)) c.loop-place.invariant
