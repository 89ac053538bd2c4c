-- Before each round, the first track with the number is the first such track among the remaining ones.
use Rattle.std.proofs.Common.{◌≡◌, ◌==◌, drop, find}
use Rattle.hls_media_laws.specs.declared.track.Track.{Track}
use Rattle.hls_mend.proofs.samples.find_track.Given as goal

abbrev pub invariant-loop-track : goal.invariant-loop-track
invariant-loop-track l = find (λ (k : Track). k.id == l.id) l.tracks ≡ find (λ (k : Track). k.id == l.id) (drop l.track-index l.tracks)
