-- The metric of requests is appended: its description, and then its rows.
use Rattle.hls_metrics.specs.Measurements.{request_metrics}
use Rattle.hls_metrics.proofs.Appends.{two}
use Rattle.hls_metrics.proofs.measured_metrics.push_request_metrics.Goals as goal

pub returns : goal.returns
unfolding request_metrics
returns c =
    two _ _ _ _ _ c.in_ok-push_description.ensures c.in_ok-push_request_rows.ensures
