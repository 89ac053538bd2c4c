-- Before each round, the segments stored so far and the result of the remaining lines are the result of all lines. The remaining text is the end
-- of the whole text, and it gets shorter; so line numbers can't overflow.
use Rattle.std.proofs.Common.{◌≡◌, ◌+◌, ◌-◌, ◌≤◌, length, drop}
use denote.Text.{Utf8}
use denote.Shadow.{shadow}
use Rattle.hls_m3u8.specs.Limits.{text_limit}
use Rattle.hls_m3u8.specs.TextLines.{text_lines}
use Rattle.hls_m3u8.specs.ReadLines.{initial_state, read_from, with_segments}
use Rattle.hls_m3u8.proofs.read.collect_segments.Given as goal

-- the kept segments and the remaining lines give the result of all lines
abbrev pub invariant-loop-line : goal.invariant-loop-line
invariant-loop-line l =
    shadow (Utf8 l.rest) × (l.number + length l.rest ≤ text_limit + 2) × (length l.rest ≤ length l.whole)
    × (l.rest ≡ drop (length l.whole - length l.rest) l.whole)
    × (read_from 2 initial_state (text_lines l.fn.text) ≡ with_segments l.collected.segments.items (read_from l.number l.collected.state (text_lines l.rest)))

abbrev pub decreases-loop-line : goal.decreases-loop-line
decreases-loop-line l = length l.rest
