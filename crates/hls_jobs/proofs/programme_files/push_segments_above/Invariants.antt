-- Before each round, the text so far and the lines of the remaining segments, under their paths, are the text of all segments.
use Rattle.std.proofs.Common.{◌≡◌, ◌++◌, drop, map}
use Rattle.hls_m3u8.specs.Lines.{text_of_lines, all_segment_lines}
use Rattle.hls_jobs.specs.Programmes.{segment_above}
use Rattle.hls_jobs.proofs.programme_files.push_segments_above.Given as goal

-- the text so far and that of the remaining segments are the whole text
abbrev pub invariant-loop-segment : goal.invariant-loop-segment
invariant-loop-segment l =
    l.text.items ++ text_of_lines (all_segment_lines (map (segment_above l.folder l.ahead) (drop l.segment-index l.segments)))
    ≡ l.initial.text.items ++ text_of_lines (all_segment_lines (map (segment_above l.folder l.ahead) l.segments))
