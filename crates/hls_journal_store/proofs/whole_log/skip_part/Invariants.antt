-- Before each round, the position is where it was at first or after that, but not beyond the part's end. Each round comes nearer to that end.
use Rattle.std.proofs.Common.{◌-◌, ◌≤◌}
use Rattle.std.specs.Prelude.{max}
use Rattle.hls_journal_store.proofs.whole_log.skip_part.Given as goal

abbrev pub invariant-entries : goal.invariant-entries
invariant-entries l = (l.fn.position.version ≤ l.position.version) × (l.position.version ≤ max l.fn.position.version l.end)

abbrev pub decreases-entries : goal.decreases-entries
decreases-entries l = l.end - l.position.version
