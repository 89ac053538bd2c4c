-- Before each round, the text so far and the lines of the remaining renditions, each alone in a variant stream, are the whole text.
use Rattle.std.proofs.Common.{◌≡◌, ◌-◌, ◌≤◌, ◌++◌, length, drop}
use Rattle.hls_m3u8.specs.Lines.{text_of_lines}
use Rattle.hls_players_master.specs.Text.{variants_alone}
use Rattle.hls_players_master.proofs.write.push_all_alone.Given as goal

abbrev pub invariant-renditions : goal.invariant-renditions
invariant-renditions l = record {
  written : l.out.items ++ text_of_lines (variants_alone (drop l.n l.summaries)) ≡ l.initial.out.items ++ text_of_lines (variants_alone l.summaries);
  within : l.n ≤ length l.summaries;
}

abbrev pub decreases-renditions : goal.decreases-renditions
decreases-renditions l = length l.summaries - l.n
