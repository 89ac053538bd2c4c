-- Before each round, boxes fill the content if and only if boxes fill the rest. The rest gets shorter.
use Rattle.std.proofs.Common.{◌≡◌, is_some, length}
use Rattle.hls_boxes.specs.Boxes.{children}
use Rattle.hls_mend.proofs.normal.are_boxes.Given as goal

abbrev pub invariant-boxes : goal.invariant-boxes
invariant-boxes l = is_some (children l.content) ≡ is_some (children l.rest)

abbrev pub decreases-boxes : goal.decreases-boxes
decreases-boxes l = length l.rest
