-- The state of a job.
use Rattle.std.specs.Prelude.{◌≡◌, ℕ, Bool, true, false, Result, Ok, Err, ⊤}
use Rattle.std.specs.declared.alloc.AllocError.{AllocError}
use Rattle.hls_catchup.specs.declared.request.Request.{Request}
use Rattle.hls_catchup.specs.declared.jobs.job.Job.{Job}
use Rattle.hls_catchup.specs.declared.jobs.job.Job.TheVariants as reported
use Rattle.hls_catchup.specs.declared.jobs.job.JobState.{JobState}
use Rattle.hls_catchup.specs.declared.jobs.job.JobState.TheVariants.{Waiting, Running, Finished, Failed}
use Rattle.hls_catchup.specs.Jobs.Answers.{AnsweredData, IsRight}

-- the job hasn't begun
abbrev pub is_waiting : JobState → Bool
is_waiting (Waiting snapshot request) = true
is_waiting (Running version request) = false
is_waiting (Finished answered) = false
is_waiting Failed = false

-- the job runs for this version and this request
abbrev pub IsRunningFor : ℕ → Request → JobState → Type 0
IsRunningFor version request state = state ≡ Running version request

-- the job has an answer
abbrev pub IsFinished : JobState → Type 0
IsFinished (Waiting snapshot request) = ⊥
IsFinished (Running version request) = ⊥
IsFinished (Finished answered) = ⊤
IsFinished Failed = ⊥

-- if a job has an answer, it is the right one for the snapshot and the request that it holds
abbrev pub IsRightState : JobState → Type 0
IsRightState (Waiting snapshot request) = ⊤
IsRightState (Running version request) = ⊤
IsRightState (Finished answered) = IsRight answered
IsRightState Failed = ⊤

-- the state of a job that ended
abbrev pub state_of_answer : Result AnsweredData AllocError → JobState
state_of_answer (Ok a) = Finished a
state_of_answer (Err wanted) = Failed

-- what is reported of a job
abbrev pub reported_job : JobState → Job
reported_job (Waiting snapshot request) = reported.Waiting
reported_job (Running version request) = reported.Running
reported_job (Finished answered) = reported.Finished answered
reported_job Failed = reported.Failed

-- a reported answer is right
abbrev pub IsRightJob : Job → Type 0
IsRightJob reported.Waiting = ⊤
IsRightJob reported.Running = ⊤
IsRightJob (reported.Finished answered) = IsRight answered
IsRightJob reported.Failed = ⊤
