-- If the window and three target durations remain of the live line after some segments are removed,
-- they remain after fewer are removed.
use Rattle.hls_places_laws.proofs.LineLemmas.Leaves.{leaves-more}
use Rattle.hls_places_laws.proofs.line.laws.leaves_is_monotone.Goals as goal

pub returns : goal.returns
returns c = leaves-more
