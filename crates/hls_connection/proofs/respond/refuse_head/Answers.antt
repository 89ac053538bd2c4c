-- Input that can't become a head gets the response of its fault, and the connection ends.
use Rattle.std.proofs.Common.{[], refl}
use Rattle.hls_connection.proofs.CallLaws.{refused_head_due, replies_by}
use Rattle.hls_connection.proofs.respond.refuse_head.Goals as goal

pub returns : goal.returns
returns g c = rw c.new.ensures at (replies_by refl (λ due. refused_head_due c.args.fault c.fault_response-response.result due c.fault_response-response.ensures) (c.send_response.ensures []))
