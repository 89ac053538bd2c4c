-- Before each round, the text followed by the remaining media is the same as at the start. Each round copies a slice from the media to the text.
use Rattle.std.proofs.Common.{◌≡◌, ◌++◌, length}
use Rattle.hls_io.proofs.small_slices.gather_slices.Given as goal

abbrev pub invariant-loop-media : goal.invariant-loop-media
invariant-loop-media g l = record {
  same : l.text.items ++ l.media ≡ l.initial.text.items ++ l.initial.media;
}

abbrev pub decreases-loop-media : goal.decreases-loop-media
decreases-loop-media g l = length l.media
