-- Before each round, the output with the lines of the remaining places is the earlier output with the lines of all places.
use Rattle.std.proofs.Common.{◌≡◌, ◌++◌, drop, map}
use Rattle.hls_text.specs.Lines.{text_of_lines}
use Rattle.hls_check.specs.Text.{place_line}
use Rattle.hls_check.proofs.writer.push_places.Given as goal

abbrev pub invariant-loop-place : goal.invariant-loop-place
invariant-loop-place l =
    l.out.items ++ text_of_lines (map place_line (drop l.place-index l.places)) ≡ l.initial.out.items ++ text_of_lines (map place_line l.places)
