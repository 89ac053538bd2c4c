-- Before each round, no more bytes were read than asked for. Each round leaves fewer to read.
use Rattle.std.proofs.Common.{◌-◌, ◌≤◌}
use Rattle.hls_journal_store.proofs.media_read.read_pieces.Given as goal

abbrev pub invariant-pieces : goal.invariant-pieces
invariant-pieces l = l.done ≤ l.len

abbrev pub decreases-pieces : goal.decreases-pieces
decreases-pieces l = l.len - l.done
