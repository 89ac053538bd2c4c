-- Before each round, the bytes so far and the zeros that are left are the result. Each round leaves fewer.
use Rattle.std.proofs.Common.{◌≡◌, ℕ, ◌-◌, ◌≤◌, ◌++◌, replicate}
use Rattle.hls_journal.proofs.zeros.push_zeros.Given as goal

abbrev pub invariant-loop-left : goal.invariant-loop-left
invariant-loop-left l = l.out.items ++ replicate l.left 0 ≡ l.fn.out.items ++ replicate l.count 0

abbrev pub decreases-loop-left : goal.decreases-loop-left
decreases-loop-left l = l.left
