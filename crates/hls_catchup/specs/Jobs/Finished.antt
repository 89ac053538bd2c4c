-- The result of a job.
use Rattle.std.specs.Prelude.{◌≡◌, ℕ, length, IfOk, Result}
use Rattle.std.specs.declared.alloc.AllocError.{AllocError}
use Rattle.hls_catchup.specs.declared.request.Request.{Request}
use Rattle.hls_catchup.specs.declared.jobs.job.Work.{Work}
use Rattle.hls_catchup.specs.declared.jobs.finished.Finished.TheInside.{Inside}
use Rattle.hls_catchup.specs.Jobs.Answers.{AnsweredData, IsRight}

-- the job's id, the version and the request for which it ran, and its answer or out of memory
pub record FinishedData : Type 0 where
  pub id : ℕ
  pub version : ℕ
  pub request : Request
  pub answer : Result AnsweredData AllocError

-- a finished job of the program, as data of the definitions
abbrev pub model_of : Inside → FinishedData
model_of f = record { id = f.id; version = f.version; request = f.request; answer = f.answer }

-- an answer is the right one, of a state of this version, to this request
abbrev pub IsAnswerFor : ℕ → Request → Result AnsweredData AllocError → Type 0
IsAnswerFor version request answer = IfOk answer (λ a. (length a.state.log ≡ version) × (a.request ≡ request) × IsRight a)

-- a job's answer is the right one for the version and the request for which it ran
abbrev pub HasOwnAnswer : FinishedData → Type 0
HasOwnAnswer f = IsAnswerFor f.version f.request f.answer

-- an answer is the right one of the work's own state to its request
abbrev pub IsAnswerTo : Work → Result AnsweredData AllocError → Type 0
IsAnswerTo work answer = IfOk answer (λ a. (a.state ≡ work.snapshot.value) × (a.request ≡ work.request) × IsRight a)

-- the work's job, which ran for its version and its request, ended with the right answer of its state or out of memory
pub record IsResultOf (work : Work) (f : FinishedData) : Type 0 where
  pub id : f.id ≡ work.id
  pub version : f.version ≡ length work.snapshot.value.log
  pub request_is : f.request ≡ work.request
  pub answer : IsAnswerTo work f.answer
