-- The metrics of open files and of how many the process may have open are appended, in this order.
use Rattle.hls_metrics.specs.Measurements.{file_metrics}
use Rattle.hls_metrics.proofs.Appends.{two}
use Rattle.hls_metrics.proofs.measured_metrics.push_file_metrics.Goals as goal

pub returns : goal.returns
unfolding file_metrics
returns c =
    two _ _ _ _ _ c.in_ok-push_gauge.ensures c.in_ok-push_gauge-2.ensures
