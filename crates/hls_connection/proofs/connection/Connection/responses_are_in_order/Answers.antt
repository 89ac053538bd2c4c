-- What a connection received is answered in order, and the bytes that it sent or that wait are the responses.
use Rattle.std.proofs.Math.Logic.{∥∥₁_map}
use Rattle.hls_connection.proofs.HoldLaws.{served_of}
use Rattle.hls_connection.proofs.connection.Connection.responses_are_in_order.Goals as goal

pub returns : goal.returns
returns c = ∥∥₁_map c.args.self.now.holds (λ h. served_of h)
