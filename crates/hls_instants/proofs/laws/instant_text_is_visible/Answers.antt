-- The text of an instant that can be written has no space and no control character: its bytes are visible ASCII characters.
use Rattle.hls_instants.proofs.laws.instant_text_is_visible.Goals as goal
use Rattle.hls_instants.proofs.Dates.{moments_are_visible}

pub returns : goal.returns
returns c = moments_are_visible
