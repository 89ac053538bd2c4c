-- A rendition has at most as many units as the log has entries.
use Rattle.hls_core_laws.proofs.Theorems.{units_are_logged}
use Rattle.hls_core_laws.proofs.laws.units_are_at_most_entries.Goals as goal

pub returns : goal.returns
returns c = units_are_logged
