-- Before each round, the wanted box is box `left` of its type in the rest, which gets shorter.
use Rattle.std.proofs.Common.{◌≡◌, length}
use Rattle.hls_codecs.specs.Boxes.{box_in}
use Rattle.hls_codecs.proofs.boxes.find_box.Given as goal

abbrev pub invariant-boxes : goal.invariant-boxes
invariant-boxes l = box_in l.kind l.left l.rest ≡ box_in l.kind l.n l.fn.bytes

abbrev pub decreases-boxes : goal.decreases-boxes
decreases-boxes l = length l.rest
