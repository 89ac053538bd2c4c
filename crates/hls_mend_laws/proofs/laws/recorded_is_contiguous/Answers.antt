-- Each unit of a recording starts at the end of the one before it, unless the gap is too long to be filled.
-- Each unit that arrives must last at least as long as its first sample.
use Rattle.hls_mend_laws.proofs.TreatmentLaws.{recorded-is-contiguous}
use Rattle.hls_mend_laws.proofs.laws.recorded_is_contiguous.Goals as goal

pub returns : goal.returns
returns c = recorded-is-contiguous
