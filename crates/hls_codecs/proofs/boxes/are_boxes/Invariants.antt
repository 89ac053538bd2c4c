-- Before each round, boxes fill the bytes if and only if boxes fill the rest. The rest gets shorter.
use Rattle.std.proofs.Common.{◌≡◌, length}
use Rattle.std.specs.Prelude.{is_some}
use Rattle.hls_boxes.specs.Boxes.{children}
use Rattle.hls_codecs.proofs.boxes.are_boxes.Given as goal

abbrev pub invariant-boxes : goal.invariant-boxes
invariant-boxes l = is_some (children l.rest) ≡ is_some (children l.fn.bytes)

abbrev pub decreases-boxes : goal.decreases-boxes
decreases-boxes l = length l.rest
