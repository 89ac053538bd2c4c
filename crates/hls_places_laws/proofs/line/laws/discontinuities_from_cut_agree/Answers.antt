-- If an origin was begun at a cut of another's line, the marks of their segments agree, except for the first segment's.
use Rattle.hls_places_laws.proofs.LineLemmas.Begun.{marks-since}
use Rattle.hls_places_laws.proofs.line.laws.discontinuities_from_cut_agree.Goals as goal

pub returns : goal.returns
returns c = marks-since
