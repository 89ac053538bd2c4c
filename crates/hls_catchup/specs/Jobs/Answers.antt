-- An answered request, and when its answer is right.
use Rattle.std.specs.Prelude.{Some, Result, Ok, Err}
use Rattle.hls_core_laws.specs.State.{State}
use Rattle.hls_catchup.specs.declared.request.Request.{Request}
use Rattle.hls_catchup.specs.declared.fault.CatchFault.{CatchFault}
use Rattle.hls_catchup.specs.Replies.{ReplyData, IsAnswered}
use Rattle.hls_catchup.specs.declared.jobs.answer.JobAnswer.TheInside.{Inside}
use Rattle.hls_catchup.specs.declared.jobs.answer.JobAnswerInner.{JobAnswerInner}
use Rattle.hls_catchup.specs.declared.jobs.answer.JobAnswerInner.TheVariants.{Replied, Refused}

-- the snapshot that answers, the request, and the answer
pub record AnsweredData : Type 0 where
  pub state : State
  pub request : Request
  pub result : Result ReplyData CatchFault

-- an answer of the program, as data of the definitions; a reply holds its own state and request
abbrev pub answer_data : JobAnswerInner → AnsweredData
answer_data (Replied reply) = record { state = reply.value.state; request = reply.value.request; result = Ok reply.value }
answer_data (Refused snapshot request fault) = record { state = snapshot.value; request = request; result = Err fault }

-- a job's answer of the program, as data of the definitions
abbrev pub model_of : Inside → AnsweredData
model_of a = answer_data a.inner

-- the answer is that of this very state to this very request, and not out of memory
abbrev pub IsRight : AnsweredData → Type 0
IsRight a = IsAnswered a.state a.request (Some a.result)
