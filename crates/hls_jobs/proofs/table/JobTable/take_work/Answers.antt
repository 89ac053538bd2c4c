-- The first waiting row has the lowest id of those that wait, since ids rise; it runs now.
use Rattle.std.proofs.Common.{◌≡◌, List, length, ap, subst}
use Rattle.hls_catchup.specs.declared.jobs.job.JobRow.{JobRow}
use Rattle.hls_catchup.specs.declared.jobs.job.JobState.TheVariants.{Running}
use Rattle.hls_jobs.specs.Rows.{WaitsAt}
use Rattle.hls_catchup.specs.Jobs.Tables.{JobTableData}
use Rattle.hls_catchup.specs.Jobs.Changes.{IsNext, with_job_state}
use Rattle.hls_jobs.proofs.Calls.{next_there, runs_there}
use Rattle.hls_jobs.proofs.Keeps.{kept_changed}
use Rattle.hls_jobs.proofs.table.JobTable.take_work.Goals as goal

pub invariant_of-self : goal.invariant_of-self
invariant_of-self c =
    let work = c.start_job.result in
    kept_changed c.self.inside c.start_job.new.rows work.id (Running (length work.snapshot.value.log) work.request) c.self.invariant tt
    (runs_there c.self.inside.rows.items c.start_job.new.rows.items c.in_ok-at.at work c.self.invariant.table.rising c.start_job.ensures.begins)
    c.start_job.ensures.room

pub returns-clause-takes : goal.returns-clause-takes
returns-clause-takes c =
    let work = c.start_job.result in
    let rising = c.self.invariant.table.rising in
    let waits = subst (λ (rows : List JobRow). WaitsAt rows c.in_ok-at.at) c.deref.ensures.value c.in_ok-at.ensures in
    subst (λ (t : JobTableData). IsNext t.rows work
    × (◌≡◌ {A = JobTableData} (record { next = c.self.inside.next; rows = c.start_job.new.rows.items }) (with_job_state t work.id (Running (length work.snapshot.value.log) work.request))))
    c.self.view_is (
      next_there c.self.inside.rows.items c.start_job.new.rows.items c.in_ok-at.at work rising waits c.start_job.ensures.begins,
      ap (λ (rows : List JobRow). record { next = c.self.inside.next; rows = rows }) (runs_there c.self.inside.rows.items c.start_job.new.rows.items c.in_ok-at.at work rising c.start_job.ensures.begins),
    )
