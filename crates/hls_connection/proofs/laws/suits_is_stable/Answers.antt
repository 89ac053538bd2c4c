-- A keeper that suits a connection still suits it after others have used the keeper.
use Rattle.hls_connection.{specs.Traces.trace_of, proofs.TraceLaws.suited_later}
use Rattle.hls_connection.proofs.laws.suits_is_stable.Goals as goal

pub returns : goal.returns
returns c = λ a b v suits later. suited_later a b (trace_of v.memory) suits later
