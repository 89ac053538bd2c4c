-- Before each round, the list begins at number 0, and its next number is that of the round.
use Rattle.std.proofs.Common.{◌≡◌}
use Rattle.hls_blocks.specs.Numbered.{next_of}
use Rattle.hls_format_tests.proofs.shared.out_of_memory_changes_nothing.Given as goal

abbrev pub invariant-loop-n : goal.invariant-loop-n
invariant-loop-n g l = (l.list.first ≡ 0) × (next_of l.list ≡ l.n)
