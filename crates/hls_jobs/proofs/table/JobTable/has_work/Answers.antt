-- The result says whether a waiting row was found, so whether a job waits.
use Rattle.std.proofs.Common.{ℕ, List, Option, Some, None, subst, sym, ap, ◌∙◌}
use Rattle.std.specs.Option.{is_some}
use Rattle.hls_catchup.specs.declared.jobs.job.JobRow.{JobRow}
use Rattle.hls_catchup.specs.Jobs.Tables.{JobTableData}
use Rattle.hls_jobs.specs.Rows.{HasWaiting, IsFirstWaiting}
use Rattle.hls_jobs.proofs.table.JobTable.has_work.Goals as goal

-- a job was found, or no job waits
has_waiting : (rows : List JobRow) (found : Option ℕ) → IsFirstWaiting rows found → HasWaiting rows (is_some found)
has_waiting rows None none = none
has_waiting rows (Some at) waits = (at, waits)

pub returns : goal.returns
returns c =
    subst (λ (t : JobTableData). HasWaiting t.rows c.is_some.result) c.self.view_is
    (rw (c.is_some.ensures, ← c.deref.ensures.value) (has_waiting c.deref.result.now c.find_waiting_row.result c.find_waiting_row.ensures))
