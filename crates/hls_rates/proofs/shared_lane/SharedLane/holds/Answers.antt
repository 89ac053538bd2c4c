-- What is returned is what the lane that the lock protected returned.
use Rattle.hls_rates.proofs.shared_lane.SharedLane.holds.Goals as goal

pub returns : goal.returns
returns g c = record { before = _; after = _; holds = c.holds.ensures }
