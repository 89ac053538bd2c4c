-- What was looked up decides whether the response still waits; if not, the answer that shows it is the request's.
use Rattle.std.proofs.Common.{◌∙◌, refl, sym}
use Rattle.hls_api.specs.Exchanges.{continue_prefix, request_of}
use Rattle.hls_connection.specs.Waits.{awaited_route}
use Rattle.hls_connection.proofs.{AnswerLaws.replies_discarded, CallLaws.response_due, HoldLaws.replied, WaitLaws.answered, WaitLaws.waiting_made}
use Rattle.hls_connection.proofs.wait.step_waiting.Goals as goal

pub returns-then-waits_on-clause-answers : goal.returns-then-waits_on-clause-answers
returns-then-waits_on-clause-answers g c = record { found = c.find_awaited-found.result; gets = c.find_awaited-found.ensures; answers = rw (sym c.waits_on.ensures ∙ c.if-waits_on.true) refl }

pub returns-clause-answers : goal.returns-clause-answers
returns-clause-answers g c =
    let responds = rw c.replace-acts.ensures.value at c.respond.ensures.responds in
    record {
      found = c.find_awaited-found.result;
      gets = c.find_awaited-found.ensures;
      answers = rw (sym c.waits_on.ensures ∙ c.if-waits_on.false)
          (answered c.args.waiting.now c.find_awaited-found.result c.awaited_response-response.result c.respond.result c.awaited_response-response.ensures responds);
    }

pub returns-clause-consistent : goal.returns-clause-consistent
returns-clause-consistent g c = λ channel ended unread received sent past_acts h.
    let x = h.stage_is.0 in
    let d = x.discarded in
    let request = request_of channel d.at.head in
    let awaited = c.args.waiting.now.awaited in
    let acts = c.args.waiting.now.acts in
    let made = waiting_made channel d.at.head awaited c.find_awaited-found.result acts c.awaited_response-response.result x.waits x.asked c.find_awaited-found.ensures
    (c.awaited_response-response.ensures channel d.at.head d.at.is_context) in
    replied h h.stage_is.1 refl (replies_discarded d acts (λ due is. response_due request (awaited_route awaited) acts c.awaited_response-response.result due made is)
    (rw c.replace-acts.ensures.value at (c.respond.ensures.responds channel d.at.head (continue_prefix d.at.head request.action) d.at.is_context)))

pub returns-clause-sends : goal.returns-clause-sends
returns-clause-sends g c = rw c.replace-acts.ensures.value at c.respond.ensures.sends
