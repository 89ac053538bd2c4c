-- Before each round, the count is that of the entries so far by the given pass, so it is at most their number.
use Rattle.std.proofs.Common.{◌≡◌, ◌≤◌, length, take}
use Rattle.hls_core_laws.specs.Workers.{events_by}
use Rattle.hls_core.proofs.snapshot.Snapshot.count_entries_by.Given as goal

abbrev pub invariant-loop-n : goal.invariant-loop-n
invariant-loop-n l = record { counted : l.count ≡ length (events_by l.by (take l.n l.self-inside.log.items)); few : l.count ≤ l.n }
