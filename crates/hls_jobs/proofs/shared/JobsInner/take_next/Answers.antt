-- If a job waits, the result is the job that a valid table gives away; otherwise it is a plan or nothing, and no job leaves the table.
use Rattle.hls_jobs.proofs.shared.JobsInner.take_next.Goals as goal

pub returns-in-Some : goal.returns-in-Some
returns-in-Some c = record { old_table = _; new_table = _; valid = c.take_work.ensures.valid; takes = rw c.in-Some.is at c.take_work.ensures.takes }

pub returns-in-None : goal.returns-in-None
returns-in-None c = rw c.take_plan.ensures (record { old_table = _; new_table = _; valid = c.take_work.ensures.valid; takes = rw c.in-None.is at c.take_work.ensures.takes })
