-- Before each round, the values of the entries so far are appended.
use Rattle.std.proofs.Common.{◌≡◌, ◌++◌, map, take}
use Rattle.hls_blocks.proofs.copy.append_uncounted_copies.Given as goal

abbrev pub invariant-loop-entry : goal.invariant-loop-entry
invariant-loop-entry g l = map (λ u. u.value) l.all.items ≡ map (λ u. u.value) l.initial.all.items ++ map (λ u. u.value) (take l.entry-index l.entries)
