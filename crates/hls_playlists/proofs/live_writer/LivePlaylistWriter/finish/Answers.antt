-- All of the line's segments are written, so with the end's line the text is complete.
use Rattle.std.proofs.Common.{◌≡◌, ◌∙◌, ℕ, ◌≤◌, Bool, List, ◌++◌, length, arith, ap, sym}
use Rattle.hls_blocks.specs.Numbered.{next_of}
use Rattle.hls_places_laws.specs.Line.Live.{Live, segments_of, has_ended}
use Rattle.hls_m3u8.specs.Lines.{end_lines, text_of_lines}
use Rattle.hls_core_laws.specs.State.{State}
use Rattle.hls_core_laws.specs.Line.{line}
use Rattle.hls_playlists.specs.LiveWriter.{rest_of_live_list}
use Rattle.hls_playlists.proofs.LiveTexts.{ended-text}
use Rattle.hls_playlists.proofs.live_writer.LivePlaylistWriter.finish.Goals as goal

pub returns : goal.returns
returns c =
    let t = c.self.inside in
    let s : State = c.deref-2.result.now in
    let same : c.deref.result.now ≡ s = c.deref.ensures ∙ sym c.deref-2.ensures in
    let live : c.line-line.result.now ≡ line s = c.line-line.ensures.value ∙ ap line same in
    let next = ap next_of c.segments.ensures in
    let long : length (segments_of c.line-line.result.now) ≡ length (segments_of (line s)) = ap (λ (l : Live). length (segments_of l)) live in
    let far : length (segments_of (line s)) ≤ c.next-stop.result = omega (arith, c.next-stop.ensures.value, next, long) in
    let written : List ℕ = c.push_live_segments.new.text.items in
    let ended : c.push_end.new.out.items ≡ written ++ text_of_lines (end_lines (has_ended (line s))) =
    c.in_ok-push_end.ensures
    ∙ (ap (λ (b : Bool). written ++ text_of_lines (end_lines b)) c.ended.ensures
    ∙ ap (λ (l : Live). written ++ text_of_lines (end_lines (has_ended l))) live) in
    ended-text t.uris s t.rendition t.written c.next-stop.result c.in_ok-push_live_segments.field-0 t.text.items written c.push_end.new.out.items far
    c.in_ok-push_live_segments.ensures.reaches c.in_ok-push_live_segments.ensures.has c.in_ok-push_live_segments.ensures.text ended
    ∙ (ap (λ (x : State). t.text.items ++ rest_of_live_list t.uris x t.rendition t.written) c.deref-2.ensures ∙ c.self.view_is)
