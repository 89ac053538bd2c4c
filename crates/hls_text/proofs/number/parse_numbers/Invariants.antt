-- Before each round, the line is the numbers that were read, each with the space after it, and then the rest. The rest gets shorter.
use Rattle.std.proofs.Common.{length}
use Rattle.hls_text.proofs.Words.{HaveBeenRead}
use Rattle.hls_text.proofs.number.parse_numbers.Given as goal

abbrev pub invariant-loop-number : goal.invariant-loop-number
invariant-loop-number l = HaveBeenRead l.line l.numbers.items l.rest

abbrev pub decreases-loop-number : goal.decreases-loop-number
decreases-loop-number l = length l.rest
