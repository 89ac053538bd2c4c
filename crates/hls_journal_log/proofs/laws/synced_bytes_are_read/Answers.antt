-- A log that isn't damaged is read at least up to the place that any sync point in it names, if the sync point doesn't begin before that place.
use Rattle.hls_journal_log.proofs.Places.{synced-bytes-are-read}
use Rattle.hls_journal_log.proofs.laws.synced_bytes_are_read.Goals as goal

pub returns : goal.returns
returns c = synced-bytes-are-read
