-- Before each round, to set the defaults of the remaining tracks, too, gives what setting those of all tracks gives.
use Rattle.std.proofs.Common.{◌≡◌, ◌++◌, map, take, drop}
use Rattle.hls_media.specs.TrexSteps.{track_with_defaults}
use Rattle.hls_media.proofs.tracks.set_all_defaults.Given as goal

abbrev pub invariant-loop-track : goal.invariant-loop-track
invariant-loop-track l = take l.track-index l.tracks ++ map (track_with_defaults l.trex) (drop l.track-index l.tracks) ≡ map (track_with_defaults l.trex) l.initial.tracks
