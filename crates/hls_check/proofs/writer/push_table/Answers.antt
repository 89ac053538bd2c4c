-- The lines of the table are appended: the header and the places.
use Rattle.std.proofs.Common.{List, ◌++◌, ap, ◌∙◌, map}
use Rattle.hls_text.specs.Lines.{text_of_lines}
use Rattle.hls_check_tables.specs.declared.spot.Spot.{Spot}
use Rattle.hls_check.specs.Text.{place_line}
use Rattle.hls_check.proofs.Written.{table_written}
use Rattle.hls_check.proofs.writer.push_table.Goals as goal

pub returns : goal.returns
returns c =
    table_written c.args.out.now.items c.args.table.now c.push_head.new.out.items c.push_places.new.out.items c.in_ok-push_head.ensures
    (c.in_ok-push_places.ensures ∙ ap (λ (ps : List (List Spot)). c.push_head.new.out.items ++ text_of_lines (map place_line ps)) c.places.ensures)
