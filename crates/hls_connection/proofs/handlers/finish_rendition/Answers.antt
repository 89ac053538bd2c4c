-- The response says whether the submitted Finish was done or refused, and why. Without memory there is no response.
use Rattle.std.proofs.Common.{Ok, Err, rules}
use Rattle.hls_connection.proofs.CallLaws.{finish_made}
use Rattle.hls_connection.proofs.handlers.finish_rendition.Goals as goal

pub returns-in-Ok-clause-answers : goal.returns-in-Ok-clause-answers
returns-in-Ok-clause-answers g c =
    finish_made c.args.acts.now c.submit.new.acts c.args.rendition (Ok c.in-Ok.done) c.finish_response.result c.in-Ok.ensures.submits (λ e. cc) c.finish_response.ensures

pub returns-in-Err : goal.returns-in-Err
returns-in-Err g c = record {
  act_steps = c.in-Err.ensures.act_steps;
  answers = finish_made c.args.acts.now c.submit.new.acts c.args.rendition (Err c.in-Err.refusal) c.finish_response-in-Err.result c.in-Err.ensures.submits (search rules) c.finish_response-in-Err.ensures;
}
