-- After the last round, the numbers of all spots are appended, each after a space. Each round appends those of one spot.
use Rattle.std.proofs.Common.{arith, ◌++◌}
use Rattle.hls_text.specs.Numbers.{spaced_numbers}
use Rattle.hls_check_tables.specs.Tables.{no_spot}
use Rattle.hls_check.specs.Text.{place_numbers}
use Rattle.hls_check.proofs.Written.{spots_more, spots_done}
use Rattle.hls_check.proofs.writer.push_more_spots.Goals as goal

pub loop-spot-preserved : goal.loop-spot-preserved
loop-spot-preserved c =
    spots_more c.args.spots.now c.loop-spot.spot-index no_spot c.loop-spot.out.items c.push_spot.new.out.items
    (c.args.out.now.items ++ spaced_numbers (place_numbers c.args.spots.now)) c.loop-spot-test.true c.in_ok-push_spot.ensures c.loop-spot.invariant

pub returns : goal.returns
returns c =
    spots_done c.args.spots.now c.loop-spot.spot-index c.loop-spot.out.items (c.args.out.now.items ++ spaced_numbers (place_numbers c.args.spots.now))
    (omega arith) c.loop-spot.invariant
