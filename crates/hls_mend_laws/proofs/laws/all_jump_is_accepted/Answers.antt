-- Once no other rendition continues, since each was refused as ahead, is away or isn't open,
-- a unit that is ahead of the channel is accepted.
use Rattle.hls_mend_laws.proofs.JumpLaws.{all-jump-is-accepted}
use Rattle.hls_mend_laws.proofs.laws.all_jump_is_accepted.Goals as goal

pub returns : goal.returns
returns c = all-jump-is-accepted
