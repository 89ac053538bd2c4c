-- The bytes that are written of a whole fragment are a unit, with the fragment's facts.
use Rattle.hls_mend_laws.proofs.FragmentLaws.{fragments-are-units}
use Rattle.hls_mend_laws.proofs.laws.fragments_are_units.Goals as goal

pub returns : goal.returns
returns c = fragments-are-units
