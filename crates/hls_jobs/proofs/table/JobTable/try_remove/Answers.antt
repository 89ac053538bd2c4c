-- By the row at the id's index: there is none, or removing it removes the job of this id.
use Rattle.std.proofs.Common.{◌≡◌, List, None, refl, ap, subst, ◌≢◌}
use Rattle.std.specs.Prelude.{All}
use Rattle.hls_catchup.specs.declared.jobs.job.JobRow.{JobRow}
use Rattle.hls_jobs.specs.Rows.{IsRowAt}
use Rattle.hls_catchup.specs.Jobs.Tables.{JobTableData, job_state_at, rows_without}
use Rattle.hls_catchup.specs.Jobs.Changes.{HasJob}
use Rattle.hls_jobs.proofs.ByIds.{none_is}
use Rattle.hls_jobs.proofs.Calls.{phase_there, gone_there}
use Rattle.hls_jobs.proofs.Keeps.{kept_without}
use Rattle.hls_jobs.proofs.table.JobTable.try_remove.Goals as goal

pub returns-in_default-clause-removes : goal.returns-in_default-clause-removes
returns-in_default-clause-removes c =
    let none = subst (λ (rows : List JobRow). All (λ row. row.id ≢ c.args.id) rows) c.deref.ensures.value c.in_default.ensures in
    (subst (λ (t : JobTableData). job_state_at c.args.id t.rows ≡ None) c.self.view_is (none_is c.args.id c.self.inside.rows.items none), refl)

pub invariant_of-self : goal.invariant_of-self
invariant_of-self c =
    let stands = subst (λ (rows : List JobRow). IsRowAt rows c.args.id c.in-Some.at) c.deref.ensures.value c.in-Some.ensures in
    kept_without c.self.inside c.remove.new.self c.args.id c.self.invariant
    (gone_there c.self.inside.rows.items c.remove.new.self.items c.args.id c.in-Some.at c.self.invariant.table.rising stands c.remove.ensures.items)
    c.remove.ensures.capacity

pub returns-clause-removes : goal.returns-clause-removes
returns-clause-removes c =
    let id = c.args.id in
    let rows = c.self.inside.rows.items in
    let rising = c.self.invariant.table.rising in
    let stands = subst (λ (rows : List JobRow). IsRowAt rows id c.in-Some.at) c.deref.ensures.value c.in-Some.ensures in
    subst (λ (t : JobTableData). HasJob id t.rows × (◌≡◌ {A = JobTableData} (record { next = c.self.inside.next; rows = c.remove.new.self.items }) (record { next = t.next; rows = rows_without id t.rows })))
    c.self.view_is (
      record { state = stands.row.state; there = phase_there rows id c.in-Some.at stands.row rising stands stands.there },
      ap (λ (rs : List JobRow). record { next = c.self.inside.next; rows = rs }) (gone_there rows c.remove.new.self.items id c.in-Some.at rising stands c.remove.ensures.items),
    )
