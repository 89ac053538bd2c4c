-- Adding places to the live line that a channel keeps gives the kept line of the longer list of places.
use Rattle.hls_places_laws.proofs.LineLemmas.Lives.{live-moves}
use Rattle.hls_places_laws.proofs.line.laws.live_line_advances.Goals as goal

pub returns : goal.returns
returns c = live-moves
