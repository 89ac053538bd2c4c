-- What is returned is what the lane that the lock protected returned.
use Rattle.hls_rates.proofs.shared_lane.SharedLane.leave.Goals as goal

pub returns : goal.returns
returns g c = record { before = c.deref_mut.result.now; after = _; lane = c.leave.ensures.lane; share_is = c.leave.ensures.share; woken_is = c.leave.ensures.woken }
