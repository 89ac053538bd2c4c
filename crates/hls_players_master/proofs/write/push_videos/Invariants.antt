-- Before each round, the text so far and the variant streams of the remaining renditions are the whole text.
use Rattle.std.proofs.Common.{◌≡◌, ◌-◌, ◌≤◌, ◌++◌, length, drop}
use Rattle.hls_m3u8.specs.Lines.{text_of_lines}
use Rattle.hls_players_master.specs.Text.{variants_of_videos}
use Rattle.hls_players_master.proofs.write.push_videos.Given as goal

abbrev pub invariant-renditions : goal.invariant-renditions
invariant-renditions l = record {
  written : l.out.items ++ text_of_lines (variants_of_videos l.summaries (drop l.n l.summaries)) ≡ l.initial.out.items ++ text_of_lines (variants_of_videos l.summaries l.summaries);
  within : l.n ≤ length l.summaries;
}

abbrev pub decreases-renditions : goal.decreases-renditions
decreases-renditions l = length l.summaries - l.n
