-- The effect of each call on a table: exactly one change, or none.
use Rattle.std.specs.Prelude.{◌≡◌, ◌⊎◌, ℕ, ◌+◌, ◌≤◌, true, false, List, [], ◌∷◌, ◌++◌, length, Option, Some, None, Result, Ok, Err, ⊤}
use Rattle.std.specs.List.{AllByRecursion}
use Rattle.std.specs.Global.{Global}
use Rattle.std.specs.declared.sync.Arc.{Arc}
use Rattle.hls_core_laws.specs.State.{State}
use Rattle.hls_catchup.specs.declared.request.Request.{Request}
use Rattle.hls_catchup.specs.declared.fault.JobFault.{JobFault}
use Rattle.hls_catchup.specs.declared.fault.JobFault.TheVariants.{TableFull, UnknownJob, Stray, Memory}
use Rattle.hls_catchup.specs.declared.jobs.job.Job.{Job}
use Rattle.hls_catchup.specs.declared.jobs.job.JobRow.{JobRow}
use Rattle.hls_catchup.specs.declared.jobs.job.JobState.{JobState}
use Rattle.hls_catchup.specs.declared.jobs.job.JobState.TheVariants.{Waiting, Running}
use Rattle.hls_catchup.specs.declared.jobs.job.Work.{Work}
use Rattle.hls_catchup.specs.Jobs.Finished.{FinishedData}
use Rattle.hls_catchup.specs.Jobs.States.{is_waiting, IsRunningFor, IsFinished, state_of_answer, reported_job}
use Rattle.hls_catchup.specs.Jobs.Tables.{JobTableData, job_limit, id_limit, job_state_at, rows_with_state, rows_without}

-- the table with a job's state replaced
abbrev pub with_job_state : JobTableData → ℕ → JobState → JobTableData
with_job_state t id state = record { next = t.next; rows = rows_with_state id state t.rows }

-- the table has no free place, or the last id is used
abbrev pub IsFull : JobTableData → Type 0
IsFull t = (job_limit ≤ length t.rows) ⊎ (t.next ≡ id_limit)

-- adding a job: one more waits under the next id; or there is no room, and nothing changes
abbrev pub Adds : JobTableData → Arc State Global → Request → Result ℕ JobFault → JobTableData → Type 0
Adds t snapshot request (Ok id) after =
    (¬ IsFull t) × (id ≡ t.next)
    × (after ≡ record { next = t.next + 1; rows = t.rows ++ record { id = id; state = Waiting snapshot request } ∷ [] })
Adds t snapshot request (Err TableFull) after = IsFull t × (after ≡ t)
Adds t snapshot request (Err UnknownJob) after = ⊥
Adds t snapshot request (Err Stray) after = ⊥
Adds t snapshot request (Err Memory) after = ⊥

-- the waiting job with the least id
pub record IsNext (rows : List JobRow) (work : Work) : Type 0 where
  pub waits : job_state_at work.id rows ≡ Some (Waiting work.snapshot work.request)
  pub least : AllByRecursion (λ row. is_waiting row.state ≡ true → work.id ≤ row.id) rows

-- taking a job: the next one runs from then on; or no job waits, and nothing changes
abbrev pub Takes : JobTableData → Option Work → JobTableData → Type 0
Takes t (Some work) after = IsNext t.rows work × (after ≡ with_job_state t work.id (Running (length work.snapshot.value.log) work.request))
Takes t None after = AllByRecursion (λ row. is_waiting row.state ≡ false) t.rows × (after ≡ t)

-- a job that doesn't run for this version and this request
pub record IsStray (f : FinishedData) (rows : List JobRow) : Type 0 where
  pub state : JobState
  pub there : job_state_at f.id rows ≡ Some state
  pub other : ¬ IsRunningFor f.version f.request state

-- ending a job: the one that runs for this version and this request has its answer; or there is none, and nothing changes
abbrev pub Finishes : JobTableData → FinishedData → Result ⊤ JobFault → JobTableData → Type 0
Finishes t f (Ok done) after = (job_state_at f.id t.rows ≡ Some (Running f.version f.request)) × (after ≡ with_job_state t f.id (state_of_answer f.answer))
Finishes t f (Err UnknownJob) after = (job_state_at f.id t.rows ≡ None) × (after ≡ t)
Finishes t f (Err Stray) after = IsStray f t.rows × (after ≡ t)
Finishes t f (Err TableFull) after = ⊥
Finishes t f (Err Memory) after = ⊥

-- there is a job of this id
pub record HasJob (id : ℕ) (rows : List JobRow) : Type 0 where
  pub state : JobState
  pub there : job_state_at id rows ≡ Some state

-- removing a job: it is gone; or there was none, and nothing changes
abbrev pub Removes : {A : Type 0} → JobTableData → ℕ → Result A JobFault → JobTableData → Type 0
Removes t id (Ok gone) after = HasJob id t.rows × (after ≡ record { next = t.next; rows = rows_without id t.rows })
Removes t id (Err UnknownJob) after = (job_state_at id t.rows ≡ None) × (after ≡ t)
Removes t id (Err TableFull) after = ⊥
Removes t id (Err Stray) after = ⊥
Removes t id (Err Memory) after = ⊥

-- a job of this id, as it is reported
pub record IsReportedAs (id : ℕ) (rows : List JobRow) (job : Job) : Type 0 where
  pub state : JobState
  pub there : job_state_at id rows ≡ Some state
  pub reported : job ≡ reported_job state

-- a job of this id has an answer
pub record HasAnswer (id : ℕ) (rows : List JobRow) : Type 0 where
  pub state : JobState
  pub there : job_state_at id rows ≡ Some state
  pub finished : IsFinished state

-- Getting a job gives what is reported of it, or there is none. Only a job with an answer can run out of memory.
abbrev pub Gets : JobTableData → ℕ → Result Job JobFault → Type 0
Gets t id (Ok job) = IsReportedAs id t.rows job
Gets t id (Err UnknownJob) = job_state_at id t.rows ≡ None
Gets t id (Err Memory) = HasAnswer id t.rows
Gets t id (Err TableFull) = ⊥
Gets t id (Err Stray) = ⊥
