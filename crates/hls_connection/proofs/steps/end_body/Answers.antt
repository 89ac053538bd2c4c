-- After a body was received the reply that is due is sent, by the result: ended, refused, out of memory or stopped.
use Rattle.std.proofs.Common.{◌∙◌, arith, false, not, refl}
use Rattle.hls_http.specs.Actions.{is_over}
use Rattle.hls_api.{specs.Exchanges.{continue_prefix, ingest_refused_answer, ingested_answer, request_of}, proofs.Callers.acted_none}
use Rattle.hls_connection.specs.IngestStates.{progress_of}
use Rattle.hls_connection.proofs.AnswerLaws.{memory_ingest, refused_ingest, replies_broken, replies_ingested}
use Rattle.hls_connection.proofs.{CallLaws.due_is, CallLaws.sent_acts, CallLaws.sent_proceeds, HoldLaws.handled, HoldLaws.replied}
use Rattle.hls_connection.proofs.steps.end_body.Goals as goal

pub returns-in-Nothing-clause-consistent : goal.returns-in-Nothing-clause-consistent
returns-in-Nothing-clause-consistent g c = λ channel ended old before unread receives received sent past_acts h.
    let x = rw (c.in-Ok.is, c.in-Nothing.is) at (receives channel h.rest h.text h.stage_is.0) in
    handled h h.stage_is.1 refl (c.step_handle.ensures.handles (c.replace-acts.ensures.value ∙ x.0) channel h.rest h.text unread _ x.1)

pub returns-in-Encoder-clause-consistent : goal.returns-in-Encoder-clause-consistent
returns-in-Encoder-clause-consistent g c = λ channel ended old before unread receives received sent past_acts h.
    let x = rw (c.in-Ok.is, c.in-Encoder.is) at (receives channel h.rest h.text h.stage_is.0) in
    let action = (request_of channel x.at.head).action in
    let due = due_is x.at.head action (ingested_answer c.in-Encoder.encoder (progress_of c.args.receiving.now.taken)) false c.ingested_response-response.result in
    let responds = rw c.replace-acts.ensures.value at (c.respond.ensures.responds channel x.at.head (continue_prefix x.at.head action) x.at.is_context) in
    replied h h.stage_is.1 refl (replies_ingested x (λ d is. due d (rw c.is_some.ensures at c.ingested_response-response.ensures) is) responds)

pub returns-in-Err-Refused-clause-consistent : goal.returns-in-Err-Refused-clause-consistent
returns-in-Err-Refused-clause-consistent g c = λ channel ended old before unread receives received sent past_acts h.
    let r = c.args.receiving.now in
    let (encoder, same, x) = refused_ingest r.target c.in-Err-Refused.fault (rw (c.in-Err-Refused.is, rw c.in-Err-Refused.is at c.in-Err-Refused.field-0-is) at (receives channel h.rest h.text h.stage_is.0)) in
    let action = (request_of channel x.at.head).action in
    let due = due_is x.at.head action (ingest_refused_answer encoder c.in-Err-Refused.fault (progress_of r.taken)) (not (is_over r.body)) c.ingest_refused_response-response.result in
    let responds = rw (c.replace-acts.ensures.value, c.is_over.ensures) at (c.respond-in-Err-Refused.ensures.responds channel x.at.head (continue_prefix x.at.head action) x.at.is_context) in
    replied h h.stage_is.1 refl (replies_ingested x (λ d is. due d (rw (c.is_mended-is_mended.ensures, same) at c.ingest_refused_response-response.ensures) is) responds)

pub returns-in-Err-Memory-clause-consistent : goal.returns-in-Err-Memory-clause-consistent
returns-in-Err-Memory-clause-consistent g c = λ channel ended old before unread receives received sent past_acts h.
    let x = (memory_ingest c.args.receiving.now.target (rw (c.in-Err-Memory.is, rw c.in-Err-Memory.is at c.in-Err-Memory.field-0-is) at (receives channel h.rest h.text h.stage_is.0))).1 in
    let responds = rw c.replace-acts.ensures.value at (c.respond-in-Err-Memory.ensures.responds channel x.at.head (continue_prefix x.at.head (request_of channel x.at.head).action) x.at.is_context) in
    replied h h.stage_is.1 refl (replies_ingested x (λ d is. is) responds)

pub returns-in-Err-Stopped-clause-consistent : goal.returns-in-Err-Stopped-clause-consistent
returns-in-Err-Stopped-clause-consistent g c = λ channel ended old before unread receives received sent past_acts h.
    let x = rw (c.in-Err-Stopped.is, rw c.in-Err-Stopped.is at c.in-Err-Stopped.field-0-is) at (receives channel h.rest h.text h.stage_is.0) in
    replied h h.stage_is.1 refl (replies_broken h.rest c.args.receiving.now unread c.args.receiving.now.target c.in-Err-Stopped.field-0-0 x (λ head action context. rw c.replace-acts.ensures.value at (c.refuse_request.ensures.responds channel head action context)))

pub returns-in-Encoder-clause-act_steps : goal.returns-in-Encoder-clause-act_steps
returns-in-Encoder-clause-act_steps g c = rw (sent_acts c.respond.ensures.sends ∙ c.replace-acts.ensures.value) (acted_none _ _ _)

pub returns-in-Encoder-clause-proceeds : goal.returns-in-Encoder-clause-proceeds
returns-in-Encoder-clause-proceeds g c = sent_proceeds c.respond.ensures.sends c.args.now 65538 (omega arith)

pub returns-in-Err-Refused-clause-act_steps : goal.returns-in-Err-Refused-clause-act_steps
returns-in-Err-Refused-clause-act_steps g c = rw (sent_acts c.respond-in-Err-Refused.ensures.sends ∙ c.replace-acts.ensures.value) (acted_none _ _ _)

pub returns-in-Err-Refused-clause-proceeds : goal.returns-in-Err-Refused-clause-proceeds
returns-in-Err-Refused-clause-proceeds g c = sent_proceeds c.respond-in-Err-Refused.ensures.sends c.args.now 65538 (omega arith)

pub returns-in-Err-Memory-clause-act_steps : goal.returns-in-Err-Memory-clause-act_steps
returns-in-Err-Memory-clause-act_steps g c = rw (sent_acts c.respond-in-Err-Memory.ensures.sends ∙ c.replace-acts.ensures.value) (acted_none _ _ _)

pub returns-in-Err-Memory-clause-proceeds : goal.returns-in-Err-Memory-clause-proceeds
returns-in-Err-Memory-clause-proceeds g c = sent_proceeds c.respond-in-Err-Memory.ensures.sends c.args.now 65538 (omega arith)

pub returns-in-Err-Stopped-clause-act_steps : goal.returns-in-Err-Stopped-clause-act_steps
returns-in-Err-Stopped-clause-act_steps g c = rw (sent_acts c.refuse_request.ensures.sends ∙ c.replace-acts.ensures.value) (acted_none _ _ _)

pub returns-in-Err-Stopped-clause-proceeds : goal.returns-in-Err-Stopped-clause-proceeds
returns-in-Err-Stopped-clause-proceeds g c = sent_proceeds c.refuse_request.ensures.sends c.args.now 65538 (omega arith)
