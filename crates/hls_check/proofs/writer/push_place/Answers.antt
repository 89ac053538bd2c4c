-- The place line is appended: the numbers of its spots, and LF.
use Rattle.std.proofs.Common.{List, ◌++◌, ap, ◌∙◌}
use Rattle.hls_text.specs.Numbers.{numbers_text}
use Rattle.hls_check_tables.specs.declared.spot.Spot.{Spot}
use Rattle.hls_check.specs.Text.{place_line, place_numbers}
use Rattle.hls_check.proofs.Written.{word_written}
use Rattle.hls_check.proofs.writer.push_place.Goals as goal

pub returns : goal.returns
returns c =
    word_written c.args.out.now.items (place_line c.args.place.now) c.push_spots.new.out.items c.push.new.self.items
    (c.in_ok-push_spots.ensures ∙ ap (λ (ps : List Spot). c.args.out.now.items ++ numbers_text (place_numbers ps)) c.as_slice.ensures)
    c.in_ok-push.ensures.items
