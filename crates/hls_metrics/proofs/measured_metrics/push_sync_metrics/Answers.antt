-- The metrics of sync samples are appended: those checked, those that are no places, and those in no segment of the live playlists.
use Rattle.hls_metrics.specs.Measurements.{sync_metrics}
use Rattle.hls_metrics.proofs.Appends.{three}
use Rattle.hls_metrics.proofs.measured_metrics.push_sync_metrics.Goals as goal

pub returns : goal.returns
unfolding sync_metrics
returns c =
    three _ _ _ _ _ _ _ c.in_ok-push_gauge.ensures c.in_ok-push_gauge-2.ensures c.in_ok-push_gauge-3.ensures
