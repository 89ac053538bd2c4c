-- Laws: the requests that a connection answers are those of the standard's grammar, the field Allow names the methods that a route
-- allows, and what is served from a table of jobs that threads share is right, whichever jobs it has.
use Rattle.std.specs.Prelude.{◌≡◌, ◌⊎◌, ℕ, false, List, length, map, Some, Result, codes}
use Rattle.hls_http.specs.{declared.response_parts.Status.TheVariants.Done, Requests.{HttpRequest as WholeRequest, AreRequestsThenRest}}
use Rattle.hls_http.specs.{declared.method.Method.TheVariants.Other, Methods.method_of}
use Rattle.hls_catchup.specs.{declared.fault.CatchFault.CatchFault, Replies.{IsAnswered, ReplyData, IsRightReply}, Jobs.JobLine.{result_line, served_version}}
use Rattle.hls_api.specs.{ConnectionStates.{Exchange, Serves}, Exchanges.RespondsWithJob, Routes.{allows, named_methods}}
use Rattle.hls_api.specs.{JobResponses.{file_answer, reply_answer, job_answer}, Responses.{ResponseData, fault_answer, text_answer}}
use Rattle.hls_api.specs.Types.{State, RangeSpec, Request, JobFile, Route, ServedChannel}
use Rattle.hls_http.specs.declared.fault.HttpFault.TheVariants as http

-- ---- requests

-- the text begins with `count` requests, each a head and its whole body, and the rest follows
pub record BeginsWith (count : ℕ) (text rest : List ℕ) : Type 0 where
  pub requests : List WholeRequest
  pub count_is : length requests ≡ count
  pub cuts : AreRequestsThenRest text requests rest

-- the requests after whose replies a connection stays open are the first ones of its stream, and the bytes to come follow directly
abbrev pub RequestsAreRead : Type 0
RequestsAreRead = (channel : ServedChannel) (stream rest : List ℕ) (over : List Exchange) → Serves channel stream over rest → BeginsWith (length over) stream rest

-- ---- methods

-- each name is read as its method; and a route names all methods that it allows, and allows none that has no name
pub record AllowNamesMethods : Type 0 where
  pub read : map (λ named. method_of named.1) named_methods ≡ map (λ named. named.0) named_methods
  pub others : (route : Route) → allows route Other ≡ false

-- ---- jobs

-- the answer has this file of the right reply to some request in some state
pub record IsOfRightReply (file : JobFile) (range : RangeSpec) (answer : ResponseData) : Type 0 where
  pub state : State
  pub request : Request
  pub reply : ReplyData
  pub right : IsRightReply state request reply
  pub answer_is : answer ≡ reply_answer file range reply

-- every reply to a request for a job's file has the file of a right reply, or says that there is no such job or no reply
abbrev pub JobFilesAreRight : Type 0
JobFilesAreRight = (id : ℕ) (file : JobFile) (range : RangeSpec) (answer : ResponseData) → RespondsWithJob id (file_answer file range) answer →
    (answer ≡ fault_answer http.NotFound) ⊎ ((answer ≡ fault_answer http.Conflict) ⊎ IsOfRightReply file range answer)

-- the answer is the line of the right answer to some request in some state, with that state's version
pub record IsOfRightAnswer (answer : ResponseData) : Type 0 where
  pub state : State
  pub request : Request
  pub result : Result ReplyData CatchFault
  pub right : IsAnswered state request (Some result)
  pub answer_is : answer ≡ text_answer Done (result_line result (served_version state))

-- the answer is the line of a job that waits or runs
abbrev pub IsOfUnfinished : ResponseData → Type 0
IsOfUnfinished answer = (answer ≡ text_answer Done (codes "waiting\n")) ⊎ (answer ≡ text_answer Done (codes "running\n"))

-- every reply about a job has the line of a right answer, or says that there is no such job or no answer yet
abbrev pub JobLinesAreRight : Type 0
JobLinesAreRight = (id : ℕ) (answer : ResponseData) → RespondsWithJob id job_answer answer →
    (answer ≡ fault_answer http.NotFound) ⊎ (IsOfUnfinished answer ⊎ IsOfRightAnswer answer)
