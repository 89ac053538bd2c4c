-- Removing segments from the live line that a channel keeps gives the line with more segments removed.
use Rattle.hls_places_laws.proofs.LineLemmas.Lives.{live-slides}
use Rattle.hls_places_laws.proofs.line.laws.live_line_slides.Goals as goal

pub returns : goal.returns
returns c = live-slides
