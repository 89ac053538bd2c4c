-- A request that is refused gets the response of its fault, after a 100 Continue if one was due.
use Rattle.std.proofs.Common.{refl}
use Rattle.hls_api.specs.{Exchanges.continue_prefix, Responses.fault_answer}
use Rattle.hls_connection.proofs.CallLaws.{due_is, replies_by}
use Rattle.hls_connection.proofs.respond.refuse_request.Goals as goal

pub returns-clause-responds : goal.returns-clause-responds
returns-clause-responds g c = λ channel h action context.
    replies_by refl (λ due. due_is h action (fault_answer c.args.fault) c.args.early c.fault_response-response.result due c.fault_response-response.ensures) (c.respond.ensures.responds channel h (continue_prefix h action) context)
