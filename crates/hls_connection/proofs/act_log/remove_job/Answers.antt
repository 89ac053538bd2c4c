-- The log grows by one act, the removed job with its result; what the keeper has seen doesn't change.
use Rattle.std.proofs.Common.{ap}
use Rattle.hls_api.specs.Acts.{Removed, Knowledge, view_of}
use Rattle.hls_connection.proofs.PassLaws.{acted_one}
use Rattle.hls_connection.proofs.act_log.remove_job.Goals as goal

pub returns-clause-act_steps : goal.returns-clause-act_steps
returns-clause-act_steps g c =
    let done = c.remove_job-removed.ensures in
    acted_one _ _ _ _ _ (Removed c.args.id c.remove_job-removed.result)
    (record { asked = ap (λ (k : Knowledge). k.acts) done.known; does = (ap view_of done.known, done.removes) }) tt c.push.ensures
