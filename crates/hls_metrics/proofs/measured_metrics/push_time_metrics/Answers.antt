-- The process's processor time and the time of its start are appended, in this order.
use Rattle.hls_metrics.specs.Measurements.{time_metrics}
use Rattle.hls_metrics.proofs.Appends.{two}
use Rattle.hls_metrics.proofs.measured_metrics.push_time_metrics.Goals as goal

pub returns : goal.returns
unfolding time_metrics
returns c =
    two _ _ _ _ _ c.in_ok-push_seconds_counter.ensures c.in_ok-push_seconds_gauge.ensures
