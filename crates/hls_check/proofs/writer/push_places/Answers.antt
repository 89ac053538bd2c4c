-- After the last round, the lines of all places are appended. Each round appends one.
use Rattle.std.proofs.Common.{arith, ◌++◌, map}
use Rattle.hls_text.specs.Lines.{text_of_lines}
use Rattle.hls_check.specs.Text.{place_line}
use Rattle.hls_check.proofs.Written.{places_more, places_done}
use Rattle.hls_check.proofs.writer.push_places.Goals as goal

pub loop-place-preserved : goal.loop-place-preserved
loop-place-preserved c =
    places_more c.args.places.now c.loop-place.place-index c.place-item.result c.loop-place.out.items c.push_place.new.out.items
    (c.args.out.now.items ++ text_of_lines (map place_line c.args.places.now)) c.loop-place-test.true c.place-item.is c.in_ok-push_place.ensures c.loop-place.invariant

pub returns : goal.returns
returns c =
    places_done c.args.places.now c.loop-place.place-index c.loop-place.out.items (c.args.out.now.items ++ text_of_lines (map place_line c.args.places.now))
    (omega arith) c.loop-place.invariant
