-- The place after the last one before the stop is the first one at or after it, so the count ends there; the difference doesn't underflow. If
-- there is no place after it, there is no count.
use Rattle.std.proofs.Common.{◌≡◌, length, arith, ap, ◌∙◌}
use Rattle.hls_blocks.specs.Numbered.{next_of}
use Rattle.hls_core_laws.specs.Places.{places}
use Rattle.hls_catchup.proofs.Walks.{are-searched}
use Rattle.hls_catchup.proofs.programme.count_places.Goals as goal

pub returns-then-next-before : goal.returns-then-next-before
returns-then-next-before c =
    let found = are-searched c.args.snapshot.now c.places.ensures.valid c.args.request.start_us c.args.request.stop_us c.args.from c.in-Some.before
    c.requires.order c.requires.from c.in-Some.ensures in
    let count : c.next.result ≡ length (places c.args.snapshot.now) = omega (arith, c.next.ensures.value ∙ ap next_of c.places.ensures.value) in
    omega (arith, found.first, found.long, found.few, count, c.if-next-before.true)

pub overflow_sub-result : goal.overflow_sub-result
overflow_sub-result c =
    (are-searched c.args.snapshot.now c.places.ensures.valid c.args.request.start_us c.args.request.stop_us c.args.from c.in-Some.before
    c.requires.order c.requires.from c.in-Some.ensures).order

pub returns : goal.returns
returns c =
    let found = are-searched c.args.snapshot.now c.places.ensures.valid c.args.request.start_us c.args.request.stop_us c.args.from c.in-Some.before
    c.requires.order c.requires.from c.in-Some.ensures in
    let count : c.next.result ≡ length (places c.args.snapshot.now) = omega (arith, c.next.ensures.value ∙ ap next_of c.places.ensures.value) in
    (omega (arith, found.first, found.order), omega (arith, found.long, found.order, count, c.if-next-before.false))
