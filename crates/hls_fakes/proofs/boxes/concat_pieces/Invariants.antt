-- Before each round, the bytes so far and the remaining pieces are all pieces.
use Rattle.std.proofs.Common.{◌≡◌, ◌++◌, map, drop}
use Rattle.std.specs.List.{concat}
use Rattle.hls_fakes.proofs.boxes.concat_pieces.Given as goal

abbrev pub invariant-loop-piece : goal.invariant-loop-piece
invariant-loop-piece l =
    l.bytes.items ++ concat (map (λ p. p.now) (drop l.piece-index l.pieces)) ≡ concat (map (λ p. p.now) l.pieces)
