-- The result, success or a fault, is that of removing the job from a valid table: the one that the lock protected.
use Rattle.hls_jobs.proofs.shared.Jobs.remove.Goals as goal
use Rattle.hls_jobs.proofs.shared.Jobs.remove.Goals.{in-Ok, in-Err}

pub returns : goal.returns
returns g c =
    let removed = c.remove-removed.ensures in
    elim c.match-removed.branch [
      | in-Ok w ↦ rw w.result-is (record { old_table = _; new_table = _; valid = removed.valid; removes = rw w.in-Ok.is at removed.removes })
      | in-Err w ↦ rw w.result-is (record { old_table = _; new_table = _; valid = removed.valid; removes = rw w.in-Err.is at removed.removes })
    ]
