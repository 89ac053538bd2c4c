-- Before each round, the tracks known so far and the remaining ones give the result of all tracks.
use Rattle.std.proofs.Common.{◌≡◌, ◌-◌, ◌≤◌}
use Rattle.hls_players_master.specs.Tracks.{no_tracks, tracks_from}
use Rattle.hls_players_master.proofs.tracks.read_tracks.Given as goal

abbrev pub invariant-tracks : goal.invariant-tracks
invariant-tracks l = record {
  value : tracks_from l.init (l.count - l.n) l.n l.known ≡ tracks_from l.init l.count 0 no_tracks;
  within : l.n ≤ l.count;
}

abbrev pub decreases-tracks : goal.decreases-tracks
decreases-tracks l = l.count - l.n
