-- A table of jobs.
use Rattle.std.specs.Prelude.{ℕ, ◌<◌, ◌≤◌, ◌==◌, ◌^◌, if◌then◌else◌, not, List, [], ◌∷◌, length, map, filter, Option, Some, None, ⊤}
use Rattle.std.specs.List.{AllByRecursion}
use Rattle.hls_catchup.specs.declared.jobs.job.JobRow.{JobRow}
use Rattle.hls_catchup.specs.declared.jobs.job.JobState.{JobState}
use Rattle.hls_catchup.specs.Jobs.States.{IsRightState}

-- the id of the next job, and the jobs in the order of their ids
pub record JobTableData : Type 0 where
  pub next : ℕ
  pub rows : List JobRow

-- the most jobs at once, in any state
abbrev pub job_limit : ℕ
job_limit = 64

-- the number after the last id, 2^53
abbrev pub id_limit : ℕ
id_limit = 2 ^ 53

-- the ids increase along the rows, so no two jobs have the same
abbrev pub HaveRisingIds : List JobRow → Type 0
HaveRisingIds [] = ⊤
HaveRisingIds (row ∷ rows) = AllByRecursion (λ later. row.id < later.id) rows × HaveRisingIds rows

-- a job's id is at least 1 and below the next one
abbrev pub IsUsed : ℕ → JobRow → Type 0
IsUsed next row = (1 ≤ row.id) × (row.id < next)

-- a table: ids count from 1, each is used once, the number of jobs is limited, and each finished one has a right answer
pub record IsJobTable (t : JobTableData) : Type 0 where
  pub first : 1 ≤ t.next
  pub last : t.next ≤ id_limit
  pub few : length t.rows ≤ job_limit
  pub used : AllByRecursion (IsUsed t.next) t.rows
  pub rising : HaveRisingIds t.rows
  pub right : AllByRecursion (λ row. IsRightState row.state) t.rows

-- the state of the job with an id; none if there is no such job
abbrev pub job_state_at : ℕ → List JobRow → Option JobState
job_state_at id [] = None
job_state_at id (row ∷ rows) = if row.id == id then Some row.state else job_state_at id rows

-- the jobs, with the state of the one with this id replaced
abbrev pub rows_with_state : ℕ → JobState → List JobRow → List JobRow
rows_with_state id state rows = map (λ row. if row.id == id then record { id = id; state = state } else row) rows

-- the jobs except the one with this id
abbrev pub rows_without : ℕ → List JobRow → List JobRow
rows_without id rows = filter (λ row. not (row.id == id)) rows

-- a table without jobs, whose first id will be 1
abbrev pub empty_table : JobTableData
empty_table = record { next = 1; rows = [] }
