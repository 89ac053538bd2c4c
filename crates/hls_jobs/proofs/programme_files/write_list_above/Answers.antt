-- The head, the segments under their paths, `ahead` bytes further, and the end together are the text of the job's playlist by paths.
use Rattle.std.proofs.Common.{List, ◌++◌, ap, ◌∙◌, map}
use Rattle.hls_m3u8.specs.declared.playlist.MediaSegment.{MediaSegment}
use Rattle.hls_m3u8.specs.Playlist.{Playlist, playlist_of}
use Rattle.hls_m3u8.specs.Lines.{all_segment_lines, head_lines, text_of_lines}
use Rattle.hls_m3u8.proofs.Joined.{whole_text}
use Rattle.hls_jobs.specs.Programmes.{list_above, segment_above}
use Rattle.hls_jobs.proofs.programme_files.write_list_above.Goals as goal

pub returns : goal.returns
returns c =
    let list = playlist_of c.args.list.now in
    let folder = c.args.folder.now in
    let ahead = c.args.ahead in
    whole_text (list_above folder ahead list) c.in_ok-text.text.items c.push_head.new.out.items c.push_segments_above.new.text.items c.push_end.new.out.items
    c.in_ok-text.ensures.items
    (c.in_ok-push_head.ensures ∙ ap (λ (made : Playlist). c.in_ok-text.text.items ++ text_of_lines (head_lines made)) c.in_ok-head_above.ensures)
    (c.in_ok-push_segments_above.ensures
    ∙ ap (λ (xs : List MediaSegment). c.push_head.new.out.items ++ text_of_lines (all_segment_lines (map (segment_above folder ahead) xs))) c.as_slice.ensures.value)
    c.in_ok-push_end.ensures
