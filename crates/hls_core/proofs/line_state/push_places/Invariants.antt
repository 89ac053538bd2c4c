-- Before each round, the list is the old one followed by the new places so far.
use Rattle.std.proofs.Common.{◌≡◌, ◌++◌}
use Rattle.hls_core.proofs.line_state.push_places.Given as goal

abbrev pub invariant-loop-place : goal.invariant-loop-place
invariant-loop-place l = l.all ≡ record { first = l.list.first; items = l.list.items ++ l.yielded }
