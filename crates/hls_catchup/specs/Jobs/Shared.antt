-- What is known of an answer from a table behind a lock: it is that of some table, in which each finished job is right.
use Rattle.std.specs.Prelude.{◌≡◌, ℕ, length, Option, Result, ⊤}
use Rattle.std.specs.Global.{Global}
use Rattle.std.specs.declared.sync.Arc.{Arc}
use Rattle.hls_core_laws.specs.State.{State}
use Rattle.hls_catchup.specs.declared.request.Request.{Request}
use Rattle.hls_catchup.specs.declared.fault.JobFault.{JobFault}
use Rattle.hls_catchup.specs.declared.jobs.job.Job.{Job}
use Rattle.hls_catchup.specs.declared.jobs.job.Work.{Work}
use Rattle.hls_catchup.specs.Jobs.Finished.{FinishedData}
use Rattle.hls_catchup.specs.Jobs.Tables.{JobTableData, IsJobTable}
use Rattle.hls_catchup.specs.Jobs.Changes.{Adds, Takes, Finishes, Gets, Removes}

-- a call that adds a job met some table and left another, as the call on a borrowed table would
pub record HasAdded (snapshot : Arc State Global) (request : Request) (result : Result ℕ JobFault) : Type 0 where
  pub old_table : JobTableData
  pub new_table : JobTableData
  pub valid : IsJobTable old_table
  pub adds : Adds old_table snapshot request result new_table

-- the same for a call that removes the job of this id
pub record HasRemoved (id : ℕ) {A : Type 0} (result : Result A JobFault) : Type 0 where
  pub old_table : JobTableData
  pub new_table : JobTableData
  pub valid : IsJobTable old_table
  pub removes : Removes old_table id result new_table

-- the same for a call that takes the next waiting job, if there is one
pub record HasTaken (work : Option Work) : Type 0 where
  pub old_table : JobTableData
  pub new_table : JobTableData
  pub valid : IsJobTable old_table
  pub takes : Takes old_table work new_table

-- the same for a call that ends a running job with its answer
pub record HasFinished (f : FinishedData) (result : Result ⊤ JobFault) : Type 0 where
  pub old_table : JobTableData
  pub new_table : JobTableData
  pub valid : IsJobTable old_table
  pub finishes : Finishes old_table f result new_table

-- a call that gets a job met some table, which returned this; a returned answer is right
pub record HasGot (id : ℕ) (result : Result Job JobFault) : Type 0 where
  pub old_table : JobTableData
  pub valid : IsJobTable old_table
  pub gets : Gets old_table id result

-- a call that counts the jobs met some table with this number of jobs
pub record HasCounted (count : ℕ) : Type 0 where
  pub old_table : JobTableData
  pub valid : IsJobTable old_table
  pub counts : count ≡ length old_table.rows
