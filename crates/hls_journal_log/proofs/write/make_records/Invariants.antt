-- Before each round, the text is the records of the bodies so far, and `number` is that of the next record.
use Rattle.std.proofs.Common.{◌≡◌, ◌+◌, take}
use Rattle.hls_journal_log.specs.Records.{log_bytes}
use Rattle.hls_journal_log.proofs.write.make_records.Given as goal

abbrev pub invariant-loop-body : goal.invariant-loop-body
invariant-loop-body l = (l.text.items ≡ log_bytes l.first (take l.body-index l.bodies)) × (l.number ≡ l.first + l.body-index)
