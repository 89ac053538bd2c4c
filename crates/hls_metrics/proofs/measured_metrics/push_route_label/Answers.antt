-- The beginning of a row of requests is appended: the metric's name with the open label, and then the route.
use Rattle.hls_metrics.specs.Measurements.{route_label}
use Rattle.hls_metrics.proofs.Appends.{two}
use Rattle.hls_metrics.proofs.measured_metrics.push_route_label.Goals as goal

pub returns : goal.returns
unfolding route_label
returns c =
    two _ _ _ _ _ c.in_ok-extend_from_slice.ensures.items (rw c.route_kind.ensures at c.in_ok-extend_from_slice-2.ensures.items)
