-- A filler that holds a recorded sample is a unit that covers exactly the ticks that it was made for.
-- It begins with a sync sample if the recorded unit does.
use Rattle.hls_mend_laws.proofs.FillerLaws.{held-units-fill}
use Rattle.hls_mend_laws.proofs.laws.held_units_fill.Goals as goal

pub returns : goal.returns
returns c = held-units-fill
