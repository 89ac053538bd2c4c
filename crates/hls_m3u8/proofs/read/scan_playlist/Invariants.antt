-- Before each round, the remaining lines give the result of all lines, except for the segments already found. The remaining text gets shorter, so
-- line numbers can't overflow.
use Rattle.std.proofs.Common.{◌+◌, ◌≤◌, length}
use denote.Text.{Utf8}
use denote.Shadow.{shadow}
use Rattle.hls_m3u8.specs.Limits.{text_limit}
use Rattle.hls_m3u8.specs.TextLines.{text_lines}
use Rattle.hls_m3u8.specs.ReadLines.{initial_state, read_from}
use Rattle.hls_m3u8.proofs.Scanning.{GoesOn}
use Rattle.hls_m3u8.proofs.read.scan_playlist.Given as goal

-- the remaining lines give the result of all lines, except for the segments already found
abbrev pub invariant-loop-line : goal.invariant-loop-line
invariant-loop-line l =
    shadow (Utf8 l.rest) × (l.number + length l.rest ≤ text_limit + 2)
    × GoesOn (read_from 2 initial_state (text_lines l.fn.text)) (read_from l.number l.state (text_lines l.rest))

abbrev pub decreases-loop-line : goal.decreases-loop-line
decreases-loop-line l = length l.rest
