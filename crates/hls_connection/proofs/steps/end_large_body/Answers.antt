-- A request whose body announces more than is discarded is refused, and the connection stays consistent.
use Rattle.std.proofs.Common.{◌∙◌, None, arith, refl}
use Rattle.hls_api.specs.Exchanges.{request_of}
use Rattle.hls_connection.proofs.{AnswerLaws.replies_discarded, CallLaws.{sent_acts, sent_proceeds}, HoldLaws.replied}
use Rattle.hls_connection.proofs.steps.end_large_body.Goals as goal

pub returns-clause-consistent : goal.returns-clause-consistent
returns-clause-consistent g c = λ channel ended old before unread receives received sent past_acts h.
    let x = receives channel h.rest h.text h.stage_is.0 in
    let responds = c.refuse_request.ensures.responds channel x.1.at.head (request_of channel x.1.at.head).action x.1.at.is_context in
    replied h h.stage_is.1 refl (replies_discarded x.1 _ (λ due is. (x.0, is)) (rw c.replace-acts.ensures.value at responds))

pub returns-clause-acts : goal.returns-clause-acts
returns-clause-acts g c = sent_acts c.refuse_request.ensures.sends ∙ c.replace-acts.ensures.value

pub returns-clause-proceeds : goal.returns-clause-proceeds
returns-clause-proceeds g c = sent_proceeds c.refuse_request.ensures.sends None 1 (omega arith)
