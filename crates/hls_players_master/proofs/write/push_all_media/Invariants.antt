-- Before each round, the text so far and the EXT-X-MEDIA lines of the remaining renditions, after those passed, are the whole text.
use Rattle.std.proofs.Common.{◌≡◌, ◌-◌, ◌≤◌, ◌++◌, [], length, take, drop}
use Rattle.hls_m3u8.specs.Lines.{text_of_lines}
use Rattle.hls_players_master.specs.Text.{media_lines}
use Rattle.hls_players_master.proofs.write.push_all_media.Given as goal

abbrev pub invariant-renditions : goal.invariant-renditions
invariant-renditions l = record {
  written : l.out.items ++ text_of_lines (media_lines (take l.n l.summaries) (drop l.n l.summaries)) ≡ l.initial.out.items ++ text_of_lines (media_lines [] l.summaries);
  within : l.n ≤ length l.summaries;
}

abbrev pub decreases-renditions : goal.decreases-renditions
decreases-renditions l = length l.summaries - l.n
