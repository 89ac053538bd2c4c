-- While some other open rendition is heard and isn't ahead itself, a unit that is ahead of the channel is refused.
-- So one wrong clock can't stop the others.
use Rattle.hls_mend_laws.proofs.JumpLaws.{one-clock-is-refused}
use Rattle.hls_mend_laws.proofs.laws.one_clock_is_refused.Goals as goal

pub returns : goal.returns
returns c = one-clock-is-refused
