-- Before each round, the position is where it was at first or after that, and after it once a part was found.
-- Each round comes nearer to the log's end.
use Rattle.std.proofs.Common.{◌-◌, ◌<◌, ◌≤◌, length}
use Rattle.hls_journal_store.proofs.whole_log.find_parts.Given as goal

abbrev pub invariant-parts : goal.invariant-parts
invariant-parts l = (l.fn.from.version ≤ l.from.version) × (0 < length l.starts.items → l.fn.from.version < l.from.version)

abbrev pub decreases-parts : goal.decreases-parts
decreases-parts l = length l.snapshot.log - l.from.version
