-- The live line that a channel keeps is the cuts of its places without the removed segments,
-- and its count of removed marks is theirs.
use Rattle.hls_places_laws.proofs.LineLemmas.Lives.{live-is_cuts}
use Rattle.hls_places_laws.proofs.line.laws.live_line_is_cuts.Goals as goal

pub returns : goal.returns
returns c = live-is_cuts
