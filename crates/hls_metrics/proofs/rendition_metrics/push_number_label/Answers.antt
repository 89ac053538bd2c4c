-- The label with a rendition's number is appended: the open label, and then the number in decimal.
use Rattle.hls_metrics.specs.Metrics.{number_label}
use Rattle.hls_metrics.proofs.Appends.{two}
use Rattle.hls_metrics.proofs.rendition_metrics.push_number_label.Goals as goal

pub returns : goal.returns
unfolding number_label
returns c =
    two _ _ _ _ _ c.in_ok-extend_from_slice.ensures.items c.in_ok-push_number.ensures
