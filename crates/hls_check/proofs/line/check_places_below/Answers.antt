-- If the next number is less than the count as well, all place numbers up to it are, and they are the list so far.
use Rattle.hls_check.proofs.LineKinds.{below_more}
use Rattle.hls_check.proofs.line.check_places_below.Goals as goal

pub loop-number-preserved : goal.loop-number-preserved
loop-number-preserved c =
    below_more c.args.numbers.now c.loop-number.places.items c.push.new.self.items c.loop-number.number-index c.args.count
    c.loop-number-test.true c.if-number-count.false c.loop-number.invariant c.in_ok-push.ensures.items
