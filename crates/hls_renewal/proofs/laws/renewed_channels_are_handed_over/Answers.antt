-- A renewed channel continues the old one at the cut, in each rendition, with the base of the cut and no lower version.
use Rattle.hls_renewal.proofs.RenewedLanes.{renewed_channels_are_handed_over}
use Rattle.hls_renewal.proofs.laws.renewed_channels_are_handed_over.Goals as goal

pub returns : goal.returns
returns c = renewed_channels_are_handed_over
