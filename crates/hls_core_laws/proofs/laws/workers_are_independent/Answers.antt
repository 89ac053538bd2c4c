-- A worker's accepted event is appended to its own events, and leaves every other worker's unchanged.
use Rattle.hls_core_laws.proofs.Theorems.{workers_apart}
use Rattle.hls_core_laws.proofs.laws.workers_are_independent.Goals as goal

pub returns : goal.returns
returns c = workers_apart
