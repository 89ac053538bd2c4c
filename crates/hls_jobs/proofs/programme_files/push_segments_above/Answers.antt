-- After the lines of one more segment under its path, the text so far and that of the remaining segments are still the whole text.
use Rattle.std.proofs.Common.{◌++◌, ap, sym, ◌∙◌, rules}
use Rattle.hls_m3u8.specs.declared.playlist.MediaSegment.{MediaSegment}
use Rattle.hls_m3u8.specs.Lines.{segment_lines, text_of_lines}
use Rattle.hls_jobs.specs.Programmes.{segment_above}
use Rattle.hls_jobs.proofs.PathTexts.{next_made}
use Rattle.hls_jobs.proofs.programme_files.push_segments_above.Goals as goal

pub loop-segment-preserved : goal.loop-segment-preserved
loop-segment-preserved c =
    next_made (segment_above c.args.folder.now c.args.ahead) c.loop-segment.text.items c.push_segment.new.out.items c.segment-item.result c.args.segments.now c.loop-segment.segment-index
    (search rules) (sym c.segment-item.is)
    (c.in_ok-push_segment.ensures ∙ ap (λ (x : MediaSegment). c.loop-segment.text.items ++ text_of_lines (segment_lines x)) c.in_ok-by_path.ensures)
    ∙ c.loop-segment.invariant
