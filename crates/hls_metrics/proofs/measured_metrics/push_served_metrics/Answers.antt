-- The metric of planned programmes and the one of requests are appended, in this order.
use Rattle.hls_metrics.specs.Measurements.{served_metrics}
use Rattle.hls_metrics.proofs.Appends.{two}
use Rattle.hls_metrics.proofs.measured_metrics.push_served_metrics.Goals as goal

pub returns : goal.returns
unfolding served_metrics
returns c =
    two _ _ _ _ _ c.in_ok-push_counter.ensures c.in_ok-push_request_metrics.ensures
