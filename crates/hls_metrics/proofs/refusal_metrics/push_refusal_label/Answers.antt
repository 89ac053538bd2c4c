-- The beginning of a row of refusals is appended: the metric's name with the open label, and then the refusal's name.
use Rattle.hls_metrics.specs.Refusals.{refusal_label}
use Rattle.hls_metrics.proofs.Appends.{two}
use Rattle.hls_metrics.proofs.refusal_metrics.push_refusal_label.Goals as goal

pub returns : goal.returns
unfolding refusal_label
returns c =
    two _ _ _ _ _ c.in_ok-extend_from_slice.ensures.items (rw c.refusal_name.ensures at c.in_ok-extend_from_slice-2.ensures.items)
