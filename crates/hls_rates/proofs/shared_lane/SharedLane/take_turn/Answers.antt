-- What is returned is what the lane that the lock protected returned.
use Rattle.hls_rates.proofs.shared_lane.SharedLane.take_turn.Goals as goal

pub returns : goal.returns
returns g c = record { before = _; after = _; is_full = _; takes = c.take_turn.ensures.takes; seats = c.take_turn.ensures.seats }
