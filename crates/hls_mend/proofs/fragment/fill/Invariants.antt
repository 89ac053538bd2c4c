-- Before each round, the samples have exactly all bytes if and only if the remaining samples have exactly the bytes that are left.
use Rattle.std.proofs.Common.{◌≡◌, ◌==◌, drop}
use Rattle.hls_mend_laws.specs.Fragments.{total_size}
use Rattle.hls_mend.proofs.fragment.fill.Given as goal

abbrev pub invariant-loop-sample : goal.invariant-loop-sample
invariant-loop-sample l = (total_size l.samples == l.len) ≡ (total_size (drop l.sample-index l.samples) == l.left)
