-- The records of the events that came restore the state that these events lead to, if no floor is above that state's own.
use Rattle.hls_journal_laws.proofs.Substituted.{restored-is-replayed}
use Rattle.hls_journal_laws.proofs.laws.restored_is_replayed.Goals as goal

pub returns : goal.returns
returns c = restored-is-replayed
