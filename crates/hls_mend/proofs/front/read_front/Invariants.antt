-- Before each round, the front of the unit is the kept boxes so far, followed by the front of the rest. The rest gets shorter.
use Rattle.std.proofs.Common.{◌≡◌, length}
use Rattle.hls_mend_laws.specs.FragmentsRead.{front_of}
use Rattle.hls_mend.proofs.FrontSteps.{joined}
use Rattle.hls_mend.proofs.front.read_front.Given as goal

abbrev pub invariant-boxes : goal.invariant-boxes
invariant-boxes l = front_of l.unit ≡ joined l.kept.items (front_of l.rest)

abbrev pub decreases-boxes : goal.decreases-boxes
decreases-boxes l = length l.rest
