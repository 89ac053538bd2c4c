-- The journal's metrics are appended: whether the channel lost it, and then how long ago it was synced last.
use Rattle.hls_metrics.specs.Measurements.{journal_metrics}
use Rattle.hls_metrics.proofs.Appends.{two}
use Rattle.hls_metrics.proofs.measured_metrics.push_journal_metrics.Goals as goal

pub returns : goal.returns
unfolding journal_metrics
returns c =
    two _ _ _ _ _ c.in_ok-push_gauge.ensures c.in_ok-push_seconds_gauge.ensures
