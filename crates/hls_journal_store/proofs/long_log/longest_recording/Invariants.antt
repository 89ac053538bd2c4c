-- Before each round, it is the length of the longest recording so far.
use Rattle.std.proofs.Common.{◌≡◌}
use Rattle.hls_journal_store.specs.LongLogs.{longest_of}
use Rattle.hls_journal_store.proofs.long_log.longest_recording.Given as goal

abbrev pub invariant-loop-rendition : goal.invariant-loop-rendition
invariant-loop-rendition l = l.longest ≡ longest_of l.snapshot l.rendition
