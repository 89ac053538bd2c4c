-- Before each round, both lists begin with the same renditions so far.
use Rattle.std.proofs.Common.{◌≡◌, take}
use Rattle.hls_core.proofs.equality.same_renditions.Given as goal

abbrev pub invariant-loop-i : goal.invariant-loop-i
invariant-loop-i l = take l.i l.a ≡ take l.i l.b
