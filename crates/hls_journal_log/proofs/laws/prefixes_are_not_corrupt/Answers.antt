-- The first bytes of a log, however many, don't end as a corrupt log does.
use Rattle.hls_journal_log.proofs.Prefixes.{prefixes-are-not-corrupt}
use Rattle.hls_journal_log.proofs.laws.prefixes_are_not_corrupt.Goals as goal

pub returns : goal.returns
returns c = prefixes-are-not-corrupt
