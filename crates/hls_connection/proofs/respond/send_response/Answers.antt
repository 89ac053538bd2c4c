-- What is sent is the response; without memory for it or its head, the fixed out-of-memory response.
use Rattle.std.proofs.Common.{inl, refl}
use Rattle.hls_connection.{specs.{RequestContexts.due_response}, proofs.CallLaws.memory_replies}
use Rattle.hls_connection.proofs.respond.send_response.Goals as goal

pub returns-in_default : goal.returns-in_default
returns-in_default c = λ first. memory_replies first c.args.response c.args.closing c.args.to_head c.send_out_of_memory.ensures

pub returns-in-Ok-into_send_buffer : goal.returns-in-Ok-into_send_buffer
returns-in-Ok-into_send_buffer c = λ first. rw (c.send.ensures, c.in-Ok-into_send_buffer.ensures, c.is_success-success.ensures, c.status.ensures) (record {
  due = due_response first c.in-Ok.response c.args.closing c.args.to_head;
  is = rw c.in-Ok.is (inl refl);
  text_is = refl;
  step_is = refl;
})

pub returns-in-Err : goal.returns-in-Err
returns-in-Err c = λ first. memory_replies first c.args.response c.args.closing c.args.to_head c.send_out_of_memory-in-Err.ensures
