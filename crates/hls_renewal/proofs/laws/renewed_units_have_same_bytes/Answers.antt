-- A unit that a channel keeps when it is renewed has the same bytes before and after.
use Rattle.hls_renewal.proofs.RenewedBytes.{same_bytes}
use Rattle.hls_renewal.proofs.laws.renewed_units_have_same_bytes.Goals as goal

pub returns : goal.returns
returns c = same_bytes
