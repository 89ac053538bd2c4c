-- Complete records are read first and in order, whatever follows them.
use Rattle.hls_journal_log.proofs.Headers.{complete-records-are-read}
use Rattle.hls_journal_log.proofs.laws.complete_records_are_read.Goals as goal

pub returns : goal.returns
returns c = complete-records-are-read
