-- The metrics of traffic are appended: accepted connections, bytes read, and bytes written.
use Rattle.hls_metrics.specs.Measurements.{traffic_metrics}
use Rattle.hls_metrics.proofs.Appends.{three}
use Rattle.hls_metrics.proofs.measured_metrics.push_traffic_metrics.Goals as goal

pub returns : goal.returns
unfolding traffic_metrics
returns c =
    three _ _ _ _ _ _ _ c.in_ok-push_counter.ensures c.in_ok-push_counter-2.ensures c.in_ok-push_counter-3.ensures
