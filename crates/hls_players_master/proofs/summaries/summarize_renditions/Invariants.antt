-- Before each round, the summaries so far, with those of the remaining renditions if each has one, are the summaries of all.
use Rattle.std.proofs.Common.{◌≡◌, ◌-◌, ◌≤◌, length, drop}
use Rattle.hls_players_master.specs.Summaries.{summaries_from, summaries_of}
use Rattle.hls_players_master.proofs.SummaryLaws.{with_others}
use Rattle.hls_players_master.proofs.summaries.summarize_renditions.Given as goal

abbrev pub invariant-renditions : goal.invariant-renditions
invariant-renditions l = record {
  value : with_others l.summaries.items (summaries_from l.snapshot l.number (drop l.number l.snapshot.config.renditions)) ≡ summaries_of l.snapshot;
  within : l.number ≤ length l.renditions;
}

abbrev pub decreases-renditions : goal.decreases-renditions
decreases-renditions l = length l.renditions - l.number
