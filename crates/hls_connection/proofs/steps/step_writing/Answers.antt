-- A response that is made in parts is continued, or it is sent when it is done or out of memory.
use Rattle.std.proofs.Common.{Some, [], arith, inr, refl}
use Rattle.hls_api.specs.Exchanges.{continue_prefix, request_of}
use Rattle.hls_connection.proofs.{AnswerLaws.replies_discarded, CallLaws.sent_asks_nothing, CallLaws.sent_few, CallLaws.sent_more, HoldLaws.replied, HoldLaws.stays}
use Rattle.hls_connection.proofs.steps.step_writing.Goals as goal

pub returns-then-parts-eq0-clause-consistent : goal.returns-then-parts-eq0-clause-consistent
returns-then-parts-eq0-clause-consistent g c = λ channel ended unread received sent past_acts h.
    let x = h.stage_is.0.discarded in
    replied h h.stage_is.1 refl (replies_discarded x c.args.writing.acts (λ due is. (Some c.args.writing.response, h.stage_is.0.answers, is))
    (c.respond.ensures.responds channel x.at.head (continue_prefix x.at.head (request_of channel x.at.head).action) x.at.is_context))

pub returns-in-Ok-clause-consistent : goal.returns-in-Ok-clause-consistent
returns-in-Ok-clause-consistent g c = λ channel ended unread received sent past_acts h.
    let w = h.stage_is.0 in
    rw c.without_output.ensures (stays [] unread h h.stage_is.1 refl (record { last = w.last; discarded = w.discarded; answers = rw c.in-Ok.ensures w.answers }, refl))

pub returns-in-Err-clause-consistent : goal.returns-in-Err-clause-consistent
returns-in-Err-clause-consistent g c = λ channel ended unread received sent past_acts h.
    let x = h.stage_is.0.discarded in
    replied h h.stage_is.1 refl (replies_discarded x c.args.writing.acts (λ due is. (Some c.args.writing.response, h.stage_is.0.answers, inr is))
    (c.respond-in-Err.ensures.responds channel x.at.head (continue_prefix x.at.head (request_of channel x.at.head).action) x.at.is_context))

pub returns-then-parts-eq0-clause-asks : goal.returns-then-parts-eq0-clause-asks
returns-then-parts-eq0-clause-asks g c = sent_asks_nothing c.respond.ensures.sends refl

pub returns-then-parts-eq0-clause-continues : goal.returns-then-parts-eq0-clause-continues
returns-then-parts-eq0-clause-continues g c = sent_more c.respond.ensures.sends

pub returns-then-parts-eq0-clause-lowers : goal.returns-then-parts-eq0-clause-lowers
returns-then-parts-eq0-clause-lowers g c = omega (arith, sent_few c.respond.ensures.sends)

pub returns-in-Err-clause-asks : goal.returns-in-Err-clause-asks
returns-in-Err-clause-asks g c = sent_asks_nothing c.respond-in-Err.ensures.sends refl

pub returns-in-Err-clause-continues : goal.returns-in-Err-clause-continues
returns-in-Err-clause-continues g c = sent_more c.respond-in-Err.ensures.sends

pub returns-in-Err-clause-lowers : goal.returns-in-Err-clause-lowers
returns-in-Err-clause-lowers g c = omega (arith, sent_few c.respond-in-Err.ensures.sends)
