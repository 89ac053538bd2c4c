-- The log's metrics are appended: its number of entries, and then the number at which it is full.
use Rattle.hls_metrics.specs.Metrics.{log_metrics}
use Rattle.hls_metrics.proofs.Appends.{two}
use Rattle.hls_metrics.proofs.channel_metrics.push_log_metrics.Goals as goal

pub returns : goal.returns
unfolding log_metrics
returns c =
    two _ _ _ _ _ (rw c.log_entries.ensures at c.in_ok-push_gauge.ensures) (rw c.max_log_entries.ensures at c.in_ok-push_gauge-2.ensures)
