-- Before each round, the number is that of the digits so far, capped at 2^53.
use Rattle.std.proofs.Common.{◌≡◌, take}
use Rattle.hls_http.specs.Range.{capped_number}
use Rattle.hls_http.proofs.bounded_digits.parse_capped.Given as goal

abbrev pub invariant-loop-digit : goal.invariant-loop-digit
invariant-loop-digit l = l.number ≡ capped_number (take l.digit-index l.digits)
