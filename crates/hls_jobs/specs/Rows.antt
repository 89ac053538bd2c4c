-- For the proofs of this crate; no public clause cites it. The index of a job among the rows.
use Rattle.std.specs.Prelude.{◌≡◌, ◌≢◌, ℕ, ◌<◌, Bool, true, false, List, length, All, Option, MatchOption, slice_get, slice_set, Some, take}
use Rattle.hls_catchup.specs.declared.jobs.job.JobRow.{JobRow}
use Rattle.hls_catchup.specs.declared.jobs.job.JobState.{JobState}
use Rattle.hls_catchup.specs.declared.jobs.job.JobState.TheVariants.{Waiting, Running}
use Rattle.hls_catchup.specs.declared.jobs.job.Work.{Work}
use Rattle.hls_catchup.specs.Jobs.States.{is_waiting}

-- the job of this id is at this index
pub record IsRowAt (rows : List JobRow) (id at : ℕ) : Type 0 where
  pub row : JobRow
  pub within : at < length rows
  pub there : slice_get rows at ≡ Some row
  pub id_is : row.id ≡ id

-- the index of the job of this id, or none if there is no such job
abbrev pub IsRowFound : List JobRow → ℕ → Option ℕ → Type 0
IsRowFound rows id found = MatchOption found (All (λ row. row.id ≢ id) rows) (IsRowAt rows id)

-- the first waiting job is at this index
pub record WaitsAt (rows : List JobRow) (at : ℕ) : Type 0 where
  pub row : JobRow
  pub within : at < length rows
  pub there : slice_get rows at ≡ Some row
  pub waits : is_waiting row.state ≡ true
  pub first : All (λ row. is_waiting row.state ≡ false) (take at rows)

-- the index of the first waiting job, or none if no job waits
abbrev pub IsFirstWaiting : List JobRow → Option ℕ → Type 0
IsFirstWaiting rows found = MatchOption found (All (λ row. is_waiting row.state ≡ false) rows) (WaitsAt rows)

-- whether a job waits
abbrev pub HasWaiting : List JobRow → Bool → Type 0
HasWaiting rows true = (at : ℕ) × WaitsAt rows at
HasWaiting rows false = All (λ row. is_waiting row.state ≡ false) rows

-- the job at this index is in this state, and the others are unchanged
abbrev pub Sets : List JobRow → ℕ → JobState → List JobRow → Type 0
Sets before at state after = (row : JobRow) → slice_get before at ≡ Some row → after ≡ slice_set before at (record { id = row.id; state = state })

-- the job of a work while it waits
abbrev pub waiting_row : Work → JobRow
waiting_row work = record { id = work.id; state = Waiting work.snapshot work.request }

-- the job of a work once it runs
abbrev pub running_row : Work → JobRow
running_row work = record { id = work.id; state = Running (length work.snapshot.value.log) work.request }

-- the work is the job that waited at this index, which runs now
pub record Starts (before : List JobRow) (at : ℕ) (work : Work) (then : List JobRow) : Type 0 where
  pub waited : slice_get before at ≡ Some (waiting_row work)
  pub runs : then ≡ slice_set before at (running_row work)
