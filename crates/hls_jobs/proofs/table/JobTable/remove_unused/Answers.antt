-- The row that was found is unused, and removing it removes the job of its id.
use Rattle.std.proofs.Common.{◌≡◌, List, ap, subst, true}
use Rattle.hls_catchup.specs.declared.jobs.job.JobRow.{JobRow}
use Rattle.hls_catchup.specs.Jobs.Tables.{JobTableData, rows_without}
use Rattle.hls_catchup.specs.Jobs.Changes.{HasJob}
use Rattle.hls_jobs.specs.LastUses.{IsUnusedAt, is_unused}
use Rattle.hls_jobs.proofs.Keeps.{kept_without}
use Rattle.hls_jobs.proofs.Unused.{removed_unused}
use Rattle.hls_jobs.proofs.table.JobTable.remove_unused.Goals as goal

pub invariant_of-self : goal.invariant_of-self
invariant_of-self c =
    let found = subst (λ (rs : List JobRow). IsUnusedAt rs c.args.uses.now c.args.age c.in_ok-at.at) c.deref.ensures.value c.in_ok-at.ensures in
    let removed = removed_unused c.self.inside.rows.items c.remove.new.self.items c.args.uses.now c.args.age c.in_ok-at.at c.remove.result
    c.self.invariant.table.rising found c.remove.ensures.value c.remove.ensures.items in
    kept_without c.self.inside c.remove.new.self c.remove.result.id c.self.invariant removed.2 c.remove.ensures.capacity

pub returns-clause-removes : goal.returns-clause-removes
returns-clause-removes c =
    let found = subst (λ (rs : List JobRow). IsUnusedAt rs c.args.uses.now c.args.age c.in_ok-at.at) c.deref.ensures.value c.in_ok-at.ensures in
    let removed = removed_unused c.self.inside.rows.items c.remove.new.self.items c.args.uses.now c.args.age c.in_ok-at.at c.remove.result
    c.self.invariant.table.rising found c.remove.ensures.value c.remove.ensures.items in
    subst (λ (t : JobTableData). (is_unused c.args.uses.now c.args.age c.remove.result ≡ true) × HasJob c.remove.result.id t.rows
    × (◌≡◌ {A = JobTableData} (record { next = c.self.inside.next; rows = c.remove.new.self.items }) (record { next = t.next; rows = rows_without c.remove.result.id t.rows })))
    c.self.view_is (
      removed.0,
      removed.1,
      ap (λ (rs : List JobRow). record { next = c.self.inside.next; rows = rs }) removed.2,
    )
