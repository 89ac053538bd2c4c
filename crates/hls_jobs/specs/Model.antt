-- For the proofs of this crate; no public clause cites it.
-- The representation of a table, its invariant, and the results of calls on it.
use Rattle.std.specs.Prelude.{◌≤◌, Result, Ok, Err}
use Rattle.std.specs.Vec.{vec_capacity}
use Rattle.hls_catchup.specs.Jobs.Tables.{JobTableData, IsJobTable, job_limit}
use Rattle.hls_catchup.specs.declared.fault.JobFault.{JobFault}
use Rattle.hls_jobs.specs.declared.table.JobTable.TheInside.{Inside}
use Rattle.hls_jobs.specs.declared.table.JobError.{JobError}

-- the table of a representation
abbrev pub model_of : Inside → JobTableData
model_of t = record { next = t.next; rows = t.rows.items }

-- the representation is a table, with room for each job that there may be
pub record IsSoundTable (t : Inside) : Type 0 where
  pub table : IsJobTable (model_of t)
  pub room : job_limit ≤ vec_capacity t.rows

-- the result of a call, without the value that a refused one returns
abbrev pub without_returned : {A B : Type 0} → Result A (JobError B) → Result A JobFault
without_returned (Ok done) = Ok done
without_returned (Err refused) = Err refused.fault
