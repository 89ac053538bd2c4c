-- Before each round, the output with the price lines of the remaining places is the earlier output with all price lines.
use Rattle.std.proofs.Common.{◌≡◌, ◌++◌, drop}
use Rattle.hls_check.proofs.Written.{prices_text}
use Rattle.hls_check.proofs.writer.push_prices.Given as goal

abbrev pub invariant-loop-place : goal.invariant-loop-place
invariant-loop-place l = l.out.items ++ prices_text l.place (drop l.place l.prices) ≡ l.initial.out.items ++ prices_text 0 l.prices
