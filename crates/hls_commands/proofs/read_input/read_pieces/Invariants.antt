-- The bytes read so far are the first ones of the stream, and those held are the first of them, up to the limit.
use Rattle.std.proofs.Common.{◌≡◌, ◌<◌, ℕ, List, Some, length}
use Rattle.hls_io.specs.Counted.{calls_left, failures_of, inner_of}
use Rattle.hls_commands.proofs.ReadLaws.{Reading}
use Rattle.hls_commands.proofs.read_input.read_pieces.Given as goal

abbrev pub invariant-pieces : goal.invariant-pieces
invariant-pieces g l = record {
  reading : (stream : List ℕ) → g.R.Read.remaining (inner_of l.initial.input) ≡ Some stream →
      Reading l.most stream (g.R.Read.remaining (inner_of l.input)) l.bytes.items;
  room : 0 < length l.piece;
  quiet : failures_of l.input ≡ failures_of l.initial.input;
}

abbrev pub decreases-pieces : goal.decreases-pieces
decreases-pieces g l = calls_left l.input
