-- When each job was used last, and which jobs are removed since nobody uses them any more.
use Rattle.std.specs.Prelude.{◌≡◌, ◌≢◌, ◌&&◌, ◌==◌, ℕ, ◌-◌, ◌<◌, nat_le, Bool, true, false, cond, List, [], ◌∷◌, length, All, Option, MatchOption, Some, None, slice_get, take}
use Rattle.hls_catchup.specs.declared.jobs.job.JobRow.{JobRow}
use Rattle.hls_catchup.specs.declared.jobs.job.JobState.{JobState}
use Rattle.hls_catchup.specs.declared.jobs.job.JobState.TheVariants.{Waiting, Running, Finished, Failed}
use Rattle.hls_catchup.specs.Jobs.Tables.{JobTableData}
use Rattle.hls_catchup.specs.Jobs.Changes.{HasJob}
use Rattle.hls_catchup.specs.Jobs.Tables.{rows_without}
use Rattle.hls_jobs.specs.declared.last_uses.JobAge.{JobAge}
use Rattle.hls_jobs.specs.declared.last_uses.LastUse.{LastUse}

-- when a job was used last; none if that wasn't noted
abbrev pub last_use : ℕ → List LastUse → Option ℕ
last_use id [] = None
last_use id (found ∷ uses) = cond (found.id == id) (Some found.used_ms) (last_use id uses)

-- the uses with one of this job, which replaces the job's last one
abbrev pub with_use : ℕ → ℕ → List LastUse → List LastUse
with_use id used_ms [] = record { id = id; used_ms = used_ms } ∷ []
with_use id used_ms (found ∷ uses) = cond (found.id == id) (record { id = id; used_ms = used_ms } ∷ uses) (found ∷ with_use id used_ms uses)

-- the uses without that of this job
abbrev pub without_use : ℕ → List LastUse → List LastUse
without_use id [] = []
without_use id (found ∷ uses) = cond (found.id == id) uses (found ∷ without_use id uses)

-- whether a job is finished or failed
abbrev pub has_ended : JobState → Bool
has_ended (Waiting snapshot request) = false
has_ended (Running version request) = false
has_ended (Finished answered) = true
has_ended Failed = true

-- a use that is at least the given life ago
abbrev pub is_old : Option ℕ → JobAge → Bool
is_old None age = false
is_old (Some used_ms) age = nat_le used_ms age.now_ms && nat_le age.life_ms (age.now_ms - used_ms)

-- a job that has ended, and wasn't used for the given life
abbrev pub is_unused : List LastUse → JobAge → JobRow → Bool
is_unused uses age row = has_ended row.state && is_old (last_use row.id uses) age

-- the first use of this id is at this index
pub record IsUseAt (uses : List LastUse) (id at : ℕ) : Type 0 where
  pub found : LastUse
  pub within : at < length uses
  pub there : slice_get uses at ≡ Some found
  pub id_is : found.id ≡ id
  pub first : All (λ use_of. use_of.id ≢ id) (take at uses)

-- the index of the first use of this id, or none if there is no use of it
abbrev pub IsUseFound : List LastUse → ℕ → Option ℕ → Type 0
IsUseFound uses id found = MatchOption found (All (λ use_of. use_of.id ≢ id) uses) (IsUseAt uses id)

-- the job at this index is unused
pub record IsUnusedAt (rows : List JobRow) (uses : List LastUse) (age : JobAge) (at : ℕ) : Type 0 where
  pub row : JobRow
  pub within : at < length rows
  pub there : slice_get rows at ≡ Some row
  pub unused : is_unused uses age row ≡ true

-- the index of an unused job, or none if no job is unused
abbrev pub IsUnusedFound : List JobRow → List LastUse → JobAge → Option ℕ → Type 0
IsUnusedFound rows uses age found = MatchOption found (All (λ row. is_unused uses age row ≡ false) rows) (IsUnusedAt rows uses age)

-- one unused job is removed; or none is unused, and the table is unchanged
abbrev pub RemovesUnused : JobTableData → List LastUse → JobAge → Option JobRow → JobTableData → Type 0
RemovesUnused t uses age (Some row) after =
    (is_unused uses age row ≡ true) × HasJob row.id t.rows × (after ≡ record { next = t.next; rows = rows_without row.id t.rows })
RemovesUnused t uses age None after = All (λ row. is_unused uses age row ≡ false) t.rows × (after ≡ t)
