-- Before each round, the text so far and the variant streams of the video rendition with the audio groups still to come are the whole text.
use Rattle.std.proofs.Common.{◌≡◌, ◌-◌, ◌≤◌, ◌++◌, [], length, take, drop}
use Rattle.hls_m3u8.specs.Lines.{text_of_lines}
use Rattle.hls_players_master.specs.Text.{variants_with}
use Rattle.hls_players_master.proofs.write.push_variants_with.Given as goal

abbrev pub invariant-renditions : goal.invariant-renditions
invariant-renditions l = record {
  written : l.out.items ++ text_of_lines (variants_with l.summaries l.video (take l.n l.summaries) (drop l.n l.summaries)) ≡ l.initial.out.items ++ text_of_lines (variants_with l.summaries l.video [] l.summaries);
  within : l.n ≤ length l.summaries;
}

abbrev pub decreases-renditions : goal.decreases-renditions
decreases-renditions l = length l.summaries - l.n
