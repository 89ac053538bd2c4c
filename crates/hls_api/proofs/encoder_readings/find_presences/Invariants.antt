-- Before each round, there are 16 presences, and those of the renditions so far are right.
use Rattle.std.proofs.Common.{◌≡◌, length, map, take}
use Rattle.std.specs.List.{range_with_len}
use Rattle.hls_api.specs.Jumps.{presence_of}
use Rattle.hls_api.proofs.encoder_readings.find_presences.Given as goal

-- there are 16 presences, and those of the renditions so far are right
abbrev pub invariant-loop-other : goal.invariant-loop-other
invariant-loop-other l =
    (length l.presences ≡ 16) × (take l.other l.presences ≡ map (presence_of l.snapshot l.rendition l.readings) (range_with_len 0 l.other))
