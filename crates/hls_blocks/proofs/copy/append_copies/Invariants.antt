-- Before each round, the entries so far are appended, and each was counted.
use Rattle.std.proofs.Common.{◌≡◌, ◌+◌, ◌++◌, map, take}
use Rattle.hls_blocks.proofs.copy.append_copies.Given as goal

abbrev pub invariant-loop-entry : goal.invariant-loop-entry
invariant-loop-entry g l = record {
  values : map (λ u. u.value) l.all.items ≡ map (λ u. u.value) l.initial.all.items ++ map (λ u. u.value) (take l.entry-index l.entries);
  count : l.ticks ≡ l.initial.ticks + l.entry-index;
}
