-- Before each round, the counts of the renditions so far are the bytes that precede the cut, and the other counts are 0.
use Rattle.hls_renewal.proofs.CutCounts.{AreCounted}
use Rattle.hls_renewal.proofs.base.count_bytes.Given as goal

abbrev pub invariant-loop-rendition : goal.invariant-loop-rendition
invariant-loop-rendition l = AreCounted l.snapshot (l.cut).place l.rendition l.bytes
