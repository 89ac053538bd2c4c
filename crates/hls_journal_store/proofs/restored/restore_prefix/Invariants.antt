-- Before each round, at most all records are to be tried. If a unit is missing, the next round tries fewer, but always the synced ones.
use Rattle.std.proofs.Common.{◌+◌, ◌-◌, ◌≤◌, length}
use Rattle.hls_journal_store.proofs.restored.restore_prefix.Given as goal

abbrev pub invariant-prefixes : goal.invariant-prefixes
invariant-prefixes g l = l.count ≤ length l.records

abbrev pub decreases-prefixes : goal.decreases-prefixes
decreases-prefixes g l = l.count + 1 - l.synced
