-- Before each round, the amount is that of the renditions so far.
use Rattle.std.proofs.Common.{◌≡◌, ◌≤◌, ◌*◌, ◌+◌}
use Rattle.hls_blocks.specs.Numbered.{list_limit}
use Rattle.hls_journal_store.specs.LongLogs.{bytes_of, entries_of, first_at}
use Rattle.hls_journal_store.proofs.long_log.Amount.from_place.Given as goal

abbrev pub invariant-loop-rendition : goal.invariant-loop-rendition
invariant-loop-rendition l =
    (l.amount.entries ≡ entries_of l.snapshot (first_at l.place) l.rendition) × (l.amount.bytes ≡ bytes_of l.snapshot (first_at l.place) l.rendition)
    × (l.amount.entries ≤ l.rendition * (list_limit + 2))
