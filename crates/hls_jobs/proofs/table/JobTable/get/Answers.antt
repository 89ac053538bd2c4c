-- By the row at the id's index: there is none, its state is reported, or it is finished and has its answer.
use Rattle.std.proofs.Common.{◌≡◌, List, None, subst, ◌≢◌}
use Rattle.std.specs.Prelude.{All}
use Rattle.hls_catchup.specs.declared.jobs.job.JobRow.{JobRow}
use Rattle.hls_jobs.specs.Rows.{IsRowAt}
use Rattle.hls_catchup.specs.Jobs.Tables.{JobTableData, job_state_at}
use Rattle.hls_catchup.specs.Jobs.Changes.{IsReportedAs, HasAnswer}
use Rattle.hls_jobs.proofs.ByIds.{none_is}
use Rattle.hls_jobs.proofs.Calls.{phase_read}
use Rattle.hls_jobs.proofs.table.JobTable.get.Goals as goal

pub returns-in_default-clause-gets : goal.returns-in_default-clause-gets
returns-in_default-clause-gets c =
    let none = subst (λ (rows : List JobRow). All (λ row. row.id ≢ c.args.id) rows) c.deref.ensures.value c.in_default.ensures in
    subst (λ (t : JobTableData). job_state_at c.args.id t.rows ≡ None) c.self.view_is (none_is c.args.id c.self.inside.rows.items none)

pub returns-in-Ok-clause-gets : goal.returns-in-Ok-clause-gets
returns-in-Ok-clause-gets c =
    let rows = c.self.inside.rows.items in
    let stands = subst (λ (rs : List JobRow). IsRowAt rs c.args.id c.in-Some.at) c.deref.ensures.value c.in-Some.ensures in
    subst (λ (t : JobTableData). IsReportedAs c.args.id t.rows c.in-Ok.job) c.self.view_is (record {
      state = c.index.result.now.state;
      there = phase_read rows c.args.id c.in-Some.at c.index.result.now c.self.invariant.table.rising stands c.index.ensures;
      reported = c.in-Ok.ensures.ok;
    })

pub returns-in-Err-clause-gets : goal.returns-in-Err-clause-gets
returns-in-Err-clause-gets c =
    let rows = c.self.inside.rows.items in
    let stands = subst (λ (rs : List JobRow). IsRowAt rs c.args.id c.in-Some.at) c.deref.ensures.value c.in-Some.ensures in
    subst (λ (t : JobTableData). HasAnswer c.args.id t.rows) c.self.view_is (record {
      state = c.index.result.now.state;
      there = phase_read rows c.args.id c.in-Some.at c.index.result.now c.self.invariant.table.rising stands c.index.ensures;
      finished = c.in-Err.ensures.err;
    })
