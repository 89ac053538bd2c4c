-- Before each round, the highest rates so far and the remaining renditions give the highest rates of the audio group.
use Rattle.std.proofs.Common.{◌≡◌, ◌-◌, ◌≤◌, length, drop}
use Rattle.std.specs.List.{fold}
use Rattle.hls_players_master.specs.Text.{larger_in, no_rates}
use Rattle.hls_players_master.proofs.write.largest_of.Given as goal

abbrev pub invariant-renditions : goal.invariant-renditions
invariant-renditions l = record {
  most : fold (larger_in l.group) l.most (drop l.n l.summaries) ≡ fold (larger_in l.group) no_rates l.summaries;
  within : l.n ≤ length l.summaries;
}

abbrev pub decreases-renditions : goal.decreases-renditions
decreases-renditions l = length l.summaries - l.n
