-- Before each round, continuing the number so far with the remaining digits gives the number of the whole text.
use Rattle.std.proofs.Common.{◌≡◌, drop}
use Rattle.hls_time.specs.Digits.{number_after, decimal_number}
use Rattle.hls_time.proofs.read.decimal_value.Given as goal

-- the remaining digits complete the number
abbrev pub invariant-loop-digit : goal.invariant-loop-digit
invariant-loop-digit l = number_after l.n (drop l.digit-index l.digits) ≡ decimal_number l.digits
