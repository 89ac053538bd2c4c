-- The metrics of open connections and of waiting responses are appended, in this order.
use Rattle.hls_metrics.specs.Measurements.{connection_metrics}
use Rattle.hls_metrics.proofs.Appends.{two}
use Rattle.hls_metrics.proofs.measured_metrics.push_connection_metrics.Goals as goal

pub returns : goal.returns
unfolding connection_metrics
returns c =
    two _ _ _ _ _ c.in_ok-push_gauge.ensures c.in_ok-push_gauge-2.ensures
