-- Before each round, both logs begin with the same entries so far.
use Rattle.std.proofs.Common.{◌≡◌, take}
use Rattle.hls_core.proofs.equality.is_prefix.Given as goal

abbrev pub invariant-loop-n : goal.invariant-loop-n
invariant-loop-n l = take l.n l.b.items ≡ take l.n l.a.items
