-- Before each round, the durations found so far and the remaining units give those of the newest units; of these there are at most eight, all
-- kept.
use Rattle.std.proofs.Common.{◌≡◌, ◌+◌, ◌-◌, ◌≤◌, drop, None, IfSome}
use Rattle.std.specs.List.{fold}
use Rattle.hls_codecs.specs.FrameRates.{IsModest}
use Rattle.hls_players_master.specs.Summaries.{and_unit, newest_units}
use Rattle.hls_players_master.proofs.summaries.rate_in_units.Given as goal

abbrev pub invariant-units : goal.invariant-units
invariant-units l = record {
  value : fold (and_unit l.track) l.range (drop (l.n - l.recording.floor) l.recording.units) ≡ fold (and_unit l.track) None (newest_units l.recording.units);
  low : l.recording.floor ≤ l.n;
  high : l.n ≤ l.count;
  few : l.count ≤ l.n + 8;
  modest : IfSome l.range (λ r. IsModest (8 - (l.count - l.n)) r);
}

abbrev pub decreases-units : goal.decreases-units
decreases-units l = l.count - l.n
