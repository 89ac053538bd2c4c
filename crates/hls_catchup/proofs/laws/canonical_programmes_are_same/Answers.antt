-- A canonical request has the same first and last place.
use Rattle.hls_catchup.proofs.SameProgrammes.{canonical-same}
use Rattle.hls_catchup.proofs.laws.canonical_programmes_are_same.Goals as goal

pub returns : goal.returns
returns c = canonical-same
