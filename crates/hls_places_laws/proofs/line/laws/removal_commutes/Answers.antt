-- Removing the first segments of a line before places are added gives the same as removing them after that.
use Rattle.hls_places_laws.proofs.LineLemmas.Kept.{progress-keeps}
use Rattle.hls_places_laws.proofs.line.laws.removal_commutes.Goals as goal

pub returns : goal.returns
returns c = progress-keeps
