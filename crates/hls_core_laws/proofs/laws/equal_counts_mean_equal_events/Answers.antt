-- If a worker has equally many events in a state and in one that follows it, they are the same events.
use Rattle.hls_core_laws.proofs.Theorems.{workers_settled}
use Rattle.hls_core_laws.proofs.laws.equal_counts_mean_equal_events.Goals as goal

pub returns : goal.returns
returns c = workers_settled
