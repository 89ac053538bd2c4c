-- A reply, and when it answers a request.
use Rattle.std.specs.Prelude.{◌≡◌, Option, Some, None, Result, Ok, Err}
use Rattle.hls_core_laws.specs.State.{State}
use Rattle.hls_catchup.specs.declared.request.Request.{Request}
use Rattle.hls_catchup.specs.declared.fault.CatchFault.{CatchFault}
use Rattle.hls_catchup.specs.declared.fault.CatchFault.TheVariants.{Memory}
use Rattle.hls_catchup.specs.declared.cut_result.CutResult.{CutResult}
use Rattle.hls_catchup.specs.declared.reply.Reply.TheInside.{Inside}
use Rattle.hls_catchup.specs.Requests.{IsTableFor, IsRightAnswer}

-- the snapshot that answers, the request, and the cut of the programme
pub record ReplyData : Type 0 where
  pub state : State
  pub request : Request
  pub cut_result : CutResult

-- a reply of the program, as data of the definitions
abbrev pub model_of : Inside → ReplyData
model_of r = record { state = r.snapshot.value; request = r.request; cut_result = r.cut_result }

-- the reply of this very state to this request, with a right answer
pub record IsRightReply (s : State) (request : Request) (reply : ReplyData) : Type 0 where
  pub state : reply.state ≡ s
  pub request_is : reply.request ≡ request
  pub right : IsRightAnswer s request reply.cut_result

-- a right reply, or the first fault
abbrev pub IsReplyTo : State → Request → Result ReplyData CatchFault → Type 0
IsReplyTo s request (Ok reply) = IsRightReply s request reply
IsReplyTo s request (Err fault) = IsTableFor s request (Err fault)

-- there is an answer, which is that of the state to the request; out of memory is no answer
abbrev pub IsAnswered : State → Request → Option (Result ReplyData CatchFault) → Type 0
IsAnswered s request None = ⊥
IsAnswered s request (Some (Err Memory)) = ⊥
IsAnswered s request (Some answer) = IsReplyTo s request answer
