-- Adding the places one at a time gives the same live line as all of them at once.
use Rattle.hls_places_laws.proofs.LineLemmas.Lines.{progress-is_line}
use Rattle.hls_places_laws.proofs.line.laws.advanced_line_is_line.Goals as goal

pub returns : goal.returns
returns c = progress-is_line
