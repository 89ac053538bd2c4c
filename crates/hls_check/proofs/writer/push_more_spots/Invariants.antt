-- Before each round, the output with the numbers of the remaining spots is the earlier output with those of all spots.
use Rattle.std.proofs.Common.{◌≡◌, ◌++◌, drop}
use Rattle.hls_text.specs.Numbers.{spaced_numbers}
use Rattle.hls_check.specs.Text.{place_numbers}
use Rattle.hls_check.proofs.writer.push_more_spots.Given as goal

abbrev pub invariant-loop-spot : goal.invariant-loop-spot
invariant-loop-spot l =
    l.out.items ++ spaced_numbers (place_numbers (drop l.spot-index l.spots)) ≡ l.initial.out.items ++ spaced_numbers (place_numbers l.spots)
