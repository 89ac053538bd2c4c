-- A filler of silence is a unit that covers exactly the ticks that it was made for, and begins with a sync sample.
use Rattle.hls_mend_laws.proofs.FillerLaws.{silent-units-fill}
use Rattle.hls_mend_laws.proofs.laws.silent_units_fill.Goals as goal

pub returns : goal.returns
returns c = silent-units-fill
