-- Before each round, there are 16 places, and the first ones are as they are once the body left them.
use Rattle.std.proofs.Common.{◌≡◌, length, map, take}
use Rattle.hls_rates.specs.Places.{place_left_by}
use Rattle.hls_rates.proofs.places.left_places.Given as goal

abbrev pub invariant-loop-index : goal.invariant-loop-index
invariant-loop-index l =
    (length l.left ≡ 16) × (length l.places ≡ 16) × (take l.index l.left ≡ map (place_left_by l.ticket l.now_ms) (take l.index l.places))
