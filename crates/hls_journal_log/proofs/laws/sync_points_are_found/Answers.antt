-- A sync point that was written is recognized, with the synced length that it names, whatever follows it.
use Rattle.hls_journal_log.proofs.Places.{sync-points-are-found}
use Rattle.hls_journal_log.proofs.laws.sync_points_are_found.Goals as goal

pub returns : goal.returns
returns c = sync-points-are-found
