-- A segment's lines are appended in five parts: mark, date, EXTINF, range and URI.
use Rattle.std.proofs.Common.{◌≡◌, [], ◌∷◌, ◌++◌, ap, ◌∙◌}
use Rattle.hls_m3u8.specs.Lines.{text_of_lines, mark_lines, date_lines, extinf_line, range_lines}
use Rattle.hls_m3u8.proofs.lines.push_segment.Goals as goal
use Rattle.hls_m3u8.proofs.Joined.{appended}

pub returns : goal.returns
returns c =
    let segment = c.args.segment.now in
    let o = c.args.out.now.items in
    let mark = c.push_mark.new.out.items in
    let date = c.push_date.new.out.items in
    let extinf = c.push_extinf.new.out.items in
    let range = c.push_optional_range.new.out.items in
    let uri = c.push_line.new.out.items in
    let length = extinf_line segment.us ∷ [] in
    let ranges = range_lines segment.range in
    let last = segment.uri ∷ [] in
    let uri_is : c.as_slice.result.now ≡ segment.uri = c.as_slice.ensures ∙ c.as_bytes.ensures.value in
    let two = appended date extinf range length ranges c.in_ok-push_extinf.ensures c.in_ok-push_optional_range.ensures in
    let three = appended date range uri (length ++ ranges) last two (c.in_ok-push_line.ensures ∙ ap (λ text. range ++ text_of_lines (text ∷ [])) uri_is) in
    let four = appended mark date uri (date_lines segment.date) ((length ++ ranges) ++ last) c.in_ok-push_date.ensures three in
    appended o mark uri (mark_lines segment.mark) (date_lines segment.date ++ ((length ++ ranges) ++ last)) c.in_ok-push_mark.ensures four
