-- Of the first bytes of a log the records that are complete there are read, and no others.
use Rattle.hls_journal_log.proofs.Prefixes.{prefixes-are-read}
use Rattle.hls_journal_log.proofs.laws.prefixes_are_read.Goals as goal

pub returns : goal.returns
returns c = prefixes-are-read
