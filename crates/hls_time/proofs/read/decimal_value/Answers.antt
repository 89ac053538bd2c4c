-- The number of at most 10 digits is below 10^10, by the bound on the number of a run of digits.
use Rattle.std.proofs.Common.{arith, rules}
use Rattle.hls_time.proofs.read.decimal_value.Goals as goal
use Rattle.hls_time.proofs.DigitRuns.{number_bound, number_at_end}

pub returns-clause-bound : goal.returns-clause-bound
returns-clause-bound c = omega (arith, number_bound c.args.digits.now c.requires.digits c.requires.few, number_at_end c.loop-digit.n c.args.digits.now c.loop-digit.digit-index (search rules), c.loop-digit.invariant)
