-- The table stays sound after a job is added under the next id: it had room for one more row, and the id is below the limit.
use Rattle.std.proofs.Common.{refl, arith}
use Rattle.hls_jobs.proofs.Keeps.{kept_added}
use Rattle.hls_jobs.proofs.table.JobTable.try_add.Goals as goal

pub invariant_of-self : goal.invariant_of-self
invariant_of-self c =
    kept_added c.self.inside c.push_row.new.rows _ c.self.invariant
    (let len = c.len.ensures in let room = c.if-len-ge-JOB_LIMIT.false in omega (arith, c.self.inside.rows.ok.0))
    (let more = c.if-id-ge-ID_LIMIT.false in omega arith)
    refl tt c.push_row.ensures.items c.push_row.ensures.room
