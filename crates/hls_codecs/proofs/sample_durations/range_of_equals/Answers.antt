-- The range of equal durations has this duration as its least and its most, and their sum as its total. If the count is 0, there is none.
use Rattle.std.proofs.Common.{arith}
use Rattle.hls_codecs.proofs.DurationLaws.{equals-none, equals-some}
use Rattle.hls_codecs.proofs.sample_durations.range_of_equals.Goals as goal

pub returns-then-count-eq0-clause-value : goal.returns-then-count-eq0-clause-value
returns-then-count-eq0-clause-value c = rw c.in-Some.is (equals-none c.args.count c.in-Some.duration c.if-count-eq0.true)

pub returns-clause-value : goal.returns-clause-value
returns-clause-value c = rw (c.in-Some.is, c.from.ensures, c.from-2.ensures, c.from-3.ensures) (equals-some c.args.count c.in-Some.duration (omega arith))
