-- If other bytes replace those of units that are trimmed in the end, the events are still new, and lead to the same state.
use Rattle.hls_journal_laws.proofs.Replayed.{substitutes-replay-alike}
use Rattle.hls_journal_laws.proofs.laws.substitutes_replay_alike.Goals as goal

pub returns : goal.returns
returns c = substitutes-replay-alike
