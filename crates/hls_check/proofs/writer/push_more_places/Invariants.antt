-- Before each round, the output with the remaining numbers is the earlier output with all of them.
use Rattle.std.proofs.Common.{◌≡◌, ◌++◌, drop}
use Rattle.hls_text.specs.Numbers.{spaced_numbers}
use Rattle.hls_check.proofs.writer.push_more_places.Given as goal

abbrev pub invariant-loop-place : goal.invariant-loop-place
invariant-loop-place l = l.out.items ++ spaced_numbers (drop l.place-index l.places) ≡ l.initial.out.items ++ spaced_numbers l.places
