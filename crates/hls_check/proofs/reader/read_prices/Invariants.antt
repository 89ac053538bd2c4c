-- Before each round, the prices are what the lines so far say about the places up to the last of them.
-- The rest gets shorter in each round.
use Rattle.std.proofs.Common.{length}
use Rattle.hls_check.proofs.Claims.{PricesRead}
use Rattle.hls_check.proofs.reader.read_prices.Given as goal

abbrev pub invariant-loop-line : goal.invariant-loop-line
invariant-loop-line l = PricesRead l.count l.fn.text l.fn.first l.prices.items l.rest l.lines_read

abbrev pub decreases-loop-line : goal.decreases-loop-line
decreases-loop-line l = length l.rest
