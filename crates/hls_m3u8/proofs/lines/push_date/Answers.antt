-- The line of a date is its tag's name, the instant's text and a line feed; a date fits the type that it is formatted from.
use Rattle.std.proofs.Common.{◌≡◌, ◌++◌, Some, codes, sym, ap, ◌∙◌, subst, rules}
use Rattle.hls_instants.specs.Instants.{instant_text}
use Rattle.hls_m3u8.specs.HasText.{IsDate}
use Rattle.hls_m3u8.specs.Lines.{text_of_lines, date_lines}
use Rattle.hls_m3u8.proofs.Dates.{moment_fits}
use Rattle.hls_m3u8.proofs.Joined.{tag_written}
use Rattle.hls_m3u8.proofs.lines.push_date.Goals as goal

pub returns-in_ok-push-in-Some : goal.returns-in_ok-push-in-Some
returns-in_ok-push-in-Some c =
    let is : c.args.date ≡ Some c.in-Some.us = search rules in
    let good : IsDate (Some c.in-Some.us) = subst IsDate is c.requires in
    let text : c.format_instant.result ≡ instant_text c.in-Some.us = c.format_instant.ensures.is ∙ ap instant_text (moment_fits c.in-Some.us good.0) in
    tag_written c.args.out.now.items c.extend_from_slice.new.self.items c.extend_from_slice-in-Some.new.self.items c.push.new.self.items
    (codes "#EXT-X-PROGRAM-DATE-TIME:") (instant_text c.in-Some.us)
    c.in_ok-extend_from_slice-in-Some.ensures.items
    (c.in_ok-extend_from_slice-in-Some-2.ensures.items ∙ ap (λ text. c.extend_from_slice.new.self.items ++ text) text)
    c.in_ok-push-in-Some.ensures.items
    ∙ ap (λ date. c.args.out.now.items ++ text_of_lines (date_lines date)) (sym is)
