-- The metrics of the process's memory are appended: the resident memory, the address space, and the limit of the address space.
use Rattle.hls_metrics.specs.Measurements.{process_metrics}
use Rattle.hls_metrics.proofs.Appends.{three}
use Rattle.hls_metrics.proofs.measured_metrics.push_process_metrics.Goals as goal

pub returns : goal.returns
unfolding process_metrics
returns c =
    three _ _ _ _ _ _ _ c.in_ok-push_gauge.ensures c.in_ok-push_gauge-2.ensures c.in_ok-push_gauge-3.ensures
