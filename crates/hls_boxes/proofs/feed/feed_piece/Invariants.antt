-- Before each round, the piece is what was consumed and the rest, and the reader has appended the consumed bytes without a fault.
-- The rest gets shorter.
use Rattle.std.proofs.Common.{◌≡◌, ℕ, List, None, ◌++◌, length}
use Rattle.hls_boxes.specs.Feed.{AppendsPiece}
use Rattle.hls_boxes.proofs.feed.feed_piece.Given as goal

-- the bytes of the piece so far were consumed
abbrev pub invariant-loop-rest : goal.invariant-loop-rest
invariant-loop-rest l =
    (taken : List ℕ) × (l.piece ≡ taken ++ l.rest) × AppendsPiece l.initial.pending l.initial.whole.items taken None l.pending l.whole.items

abbrev pub decreases-loop-rest : goal.decreases-loop-rest
decreases-loop-rest l = length l.rest
