-- The metric of refusals is appended: its description, and then its rows.
use Rattle.hls_metrics.specs.Refusals.{refusal_metrics}
use Rattle.hls_metrics.proofs.Appends.{two}
use Rattle.hls_metrics.proofs.refusal_metrics.push_refusal_metrics.Goals as goal

pub returns : goal.returns
unfolding refusal_metrics
returns c =
    two _ _ _ _ _ c.in_ok-push_description.ensures c.in_ok-push_refusal_rows.ensures
